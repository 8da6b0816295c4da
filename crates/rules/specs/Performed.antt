-- Performing a decision: what it makes of a machine, in the terms of section 3; and the numbers that a rule is given.
use Rattle.std.specs.Prelude.{Bool, List, [], ◌∷◌, ◌++◌, ℕ, suc, length, set}
use Rattle.model.specs.Vocabulary.{pick}
use Rattle.model.specs.declared.ComponentId.{ComponentId}
use Rattle.model.specs.declared.Component.{Component}
use Rattle.model.specs.declared.Event.{Event}
use Rattle.model.specs.declared.Event.TheVariants.{RecoveryFailed}
use Rattle.model.specs.declared.Effect.{Effect}
use Rattle.model.specs.declared.Effect.TheVariants.{SignAttestation, AuthenticateUpdate, StageUpdate, ActivateUpdate, DiscardStaged, CommitSvnFloor, ReleaseReset, RecoverComponent, ReportUpdateDeferred, ReportUpdateAborted, ReportRecoveryFailed, ReportBootFailed, LatchLockdown, Emit}
use Rattle.components.specs.Links.{kind_at, policy_at}
use Rattle.table.specs.declared.BootFailure.{BootFailure}
use Rattle.table.specs.Payload.{boot_of}
use Rattle.store.specs.declared.Status.{Status}
use Rattle.machine.specs.declared.ComponentStatus.{ComponentStatus}
use Rattle.machine.specs.Status.{status_at, iso, kept_of}
use Rattle.machine.specs.View.{Core, Out, stay, after}
use Rattle.holds.specs.Cascade.{cascade}
use Rattle.rules.specs.Entry.{enter_walk, enter_ready, onward}
use Rattle.rules.specs.Corruption.{gate_then, move_on}
use Rattle.rules.specs.declared.Facts.{Facts}
use Rattle.rules.specs.declared.Kept.{Kept}
use Rattle.rules.specs.declared.Says.{Says}
use Rattle.rules.specs.declared.Says.TheVariants.{Nothing, Lockdown, Attestation, Deferral, Update, Activation, Discard, Commit, Release, Recovery, Preemption, RecoveryFailure}
use Rattle.rules.specs.declared.Hold.{Hold}
use Rattle.rules.specs.declared.Hold.TheVariants.{Nobody, Itself, Cascade}
use Rattle.rules.specs.declared.Next.{Next}
use Rattle.rules.specs.declared.Next.TheVariants.{Stay, Onward, MoveOn, Walk, Ready}
use Rattle.rules.specs.declared.Decision.{Decision}

-- The effects that a word stands for, for the component i, whose retry count is n.
abbrev pub said : Says → ComponentId → ℕ → List Effect
said Nothing i n = []
said Lockdown i n = LatchLockdown ∷ []
said Attestation i n = SignAttestation ∷ []
said Deferral i n = ReportUpdateDeferred ∷ []
said Update i n = AuthenticateUpdate ∷ StageUpdate ∷ []
said Activation i n = ActivateUpdate ∷ []
said Discard i n = DiscardStaged ∷ []
said Commit i n = CommitSvnFloor i ∷ []
said Release i n = ReleaseReset i ∷ []
said Recovery i n = RecoverComponent i n ∷ []
said Preemption i n = DiscardStaged ∷ ReportUpdateAborted ∷ RecoverComponent i n ∷ []
said RecoveryFailure i n = ReportRecoveryFailed i ∷ Emit RecoveryFailed ∷ []

-- A boot failure that is reported first.
abbrev pub reported : Bool → ComponentId → BootFailure → List Effect
reported r i b = pick r (ReportBootFailed i b.checkpoint b.kind ∷ []) []

-- A decision's own effects.
abbrev pub spoken : ComponentId → Event → Decision → List Effect
spoken i e d = reported d.reports i (boot_of e) ++ said d.says i d.kept.status.retry

-- A status with what s stores: whether it is isolated is not stored.
abbrev pub stored : Status → ComponentStatus → ComponentStatus
stored s old = record { lifecycle = old.lifecycle; retry = s.retry; awaiting_boot = s.awaiting_boot; released = s.released }

-- What is kept goes back to where it was: the state, the window, and at p what is stored.
abbrev pub keeping : ℕ → Kept → Core → Core
keeping p k c = record { state = k.state; cursor = c.cursor; statuses = set c.statuses p (stored k.status (status_at c.statuses p)); window = k.window }

-- Whom a hold gates, from p.
abbrev pub gated : Hold → List Component → ℕ → List ℕ
gated Nobody ch p = []
gated Itself ch p = p ∷ []
gated Cascade ch p = cascade ch p

-- What comes last, for the component at p.
abbrev pub nexts : Next → List Component → ℕ → Core → Out
nexts Stay ch p c = stay c
nexts Onward ch p c = onward ch (suc p) c.state c
nexts MoveOn ch p c = move_on ch c
nexts Walk ch p c = enter_walk ch c
nexts Ready ch p c = enter_ready c

-- First what is kept and the rule's own effects, then the gate, then what comes last.
unfoldable pub performed : List Component → ℕ → ComponentId → Event → Decision → Core → Out
performed ch p i e d c = after (spoken i e d) (gate_then ch (gated d.hold ch p) (nexts d.next ch p) (keeping p d.kept c))

-- ---- what a rule is given of a machine, for the component i at p

abbrev pub facts_of : List Component → ℕ → ComponentId → ℕ → Core → Facts
facts_of ch max i p c = record {
  n = length ch;
  place = p;
  id = i;
  kind = kind_at ch p;
  policy = policy_at ch p;
  isolated = iso (status_at c.statuses p);
  cursor = c.cursor;
  max_retry = max;
}

abbrev pub kept_in : ℕ → Core → Kept
kept_in p c = record { state = c.state; window = c.window; status = kept_of (status_at c.statuses p) }
