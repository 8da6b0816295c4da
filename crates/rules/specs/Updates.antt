-- Section 3: power, attestation and updates, each rule from a machine to the next one and the effects of the step.
use Rattle.std.specs.Prelude.{true, false, List, [], ◌∷◌}
use Rattle.model.specs.Vocabulary.{pick}
use Rattle.model.specs.declared.ComponentId.{ComponentId}
use Rattle.model.specs.declared.Component.{Component}
use Rattle.model.specs.declared.PowerOnResult.{PowerOnResult}
use Rattle.model.specs.declared.PowerOnResult.TheVariants.{Provisioned, Unprovisioned, SelfVerificationFailed}
use Rattle.model.specs.declared.Effect.TheVariants.{SignAttestation, ActivateUpdate, DiscardStaged, CommitSvnFloor, ReportUpdateDeferred}
use Rattle.machine.specs.View.{Core, Out, out, stay, after, window_is}
use Rattle.rules.specs.Entry.{enter_locked, enter_ready, enter_walk}

-- PowerGood: Provisioned, PreSupervision; the two others, Locked.
abbrev pub power : List Component → PowerOnResult → Core → Out
power ch Provisioned c = enter_walk ch c
power ch Unprovisioned c = enter_locked c
power ch SelfVerificationFailed c = enter_locked c

-- AttestationChallenge: SignAttestation.
abbrev pub attest : Core → Out
attest c = out c (SignAttestation ∷ [])

-- UpdateRequest where it is not taken up: ReportUpdateDeferred.
abbrev pub defer : Core → Out
defer c = out c (ReportUpdateDeferred ∷ [])

-- BootConfirmed: CommitSvnFloor, and the commit window closes, open or not.
abbrev pub confirm : ComponentId → Core → Out
confirm i c = out (window_is false c) (CommitSvnFloor i ∷ [])

-- CommitTimeout with the window open: Locked.
abbrev pub commit_timeout : Core → Out
commit_timeout c = pick c.window (enter_locked c) (stay c)

-- UpdateVerified: ActivateUpdate, window open, Ready.
abbrev pub update_verified : Core → Out
update_verified c = after (ActivateUpdate ∷ []) (enter_ready (window_is true c))

-- UpdateRejected: DiscardStaged, Ready.
abbrev pub update_rejected : Core → Out
update_rejected c = after (DiscardStaged ∷ []) (enter_ready c)
