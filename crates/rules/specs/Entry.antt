-- Section 3: entering a state, and the walk that goes on or ends in Ready.
use Rattle.std.specs.Prelude.{false, List, [], ◌∷◌, ◌++◌, map, ℕ, ltb, length}
use Rattle.model.specs.Vocabulary.{pick}
use Rattle.components.specs.Chain.{position}
use Rattle.model.specs.declared.ComponentId.{ComponentId}
use Rattle.model.specs.declared.Component.{Component}
use Rattle.model.specs.declared.State.{State}
use Rattle.model.specs.declared.State.TheVariants.{PreSupervision, Ready, Updating, Recovering, Locked}
use Rattle.model.specs.declared.Effect.TheVariants.{AuthenticateUpdate, StageUpdate, RecoverComponent, LatchLockdown}
use Rattle.machine.specs.Status.{status_at, touch, quiet, retry_is}
use Rattle.holds.specs.Advance.{seek, verify_says, quiet_says, quiesced}
use Rattle.machine.specs.View.{Core, Out, out, stay, in_state, cursor_at, statuses_are, window_is}

abbrev pub enter_locked : Core → Out
enter_locked c = out (in_state Locked c) (LatchLockdown ∷ [])

-- Every retry is zero, and no other field changes.
abbrev pub enter_ready : Core → Out
enter_ready c = stay (in_state Ready (statuses_are (map (retry_is 0) c.statuses) c))

abbrev pub enter_updating : Core → Out
enter_updating c = out (in_state Updating (window_is false c)) (AuthenticateUpdate ∷ StageUpdate ∷ [])

-- The window closes, the flags go off, and the retry is the attempt.
abbrev pub enter_recovering : List Component → ComponentId → Core → Out
enter_recovering ch i c = out (in_state (Recovering i) (window_is false (statuses_are (touch quiet c.statuses (position ch i)) c))) (RecoverComponent i (status_at c.statuses (position ch i)).retry ∷ [])

-- PreSupervision: quiesce, then advance from 0. With none left the cursor is at the end, and the state is the same.
abbrev pub enter_walk : List Component → Core → Out
enter_walk ch c =
    out (in_state PreSupervision (cursor_at (seek (map quiesced c.statuses) 0) (statuses_are (map quiesced c.statuses) c)))
    (quiet_says ch c.statuses ++ verify_says ch (seek (map quiesced c.statuses) 0))

-- Advance from p: the walk goes on in state s, and ends in Ready if none is left.
abbrev pub onward : List Component → ℕ → State → Core → Out
onward ch p s c = pick (ltb (seek c.statuses p) (length ch))
    (out (in_state s (cursor_at (seek c.statuses p) c)) (verify_says ch (seek c.statuses p)))
    (enter_ready (cursor_at (length ch) c))
