-- Choices by a state, a policy, a kind: what holds of every answer holds of the choice.
use Rattle.std.specs.Prelude.{Option}
use Rattle.model.specs.declared.ComponentId.{ComponentId}
use Rattle.model.specs.declared.FailurePolicy.{FailurePolicy}
use Rattle.model.specs.declared.FailurePolicy.TheVariants.{Required, Isolable, Cascading}
use Rattle.model.specs.declared.BootFailureKind.{BootFailureKind}
use Rattle.model.specs.declared.BootFailureKind.TheVariants.{TimedOut, DeviceRetriable, DeviceFatal}
use Rattle.model.specs.declared.State.{State}
use Rattle.model.specs.declared.State.TheVariants.{PowerOnReset, PreSupervision, AwaitingReady, Ready, Updating, Recovering, Locked}
use Rattle.rules.specs.Corruption.{by_policy}
use Rattle.rules.specs.Failures.{by_kind}
use Rattle.rot.specs.Step.{by_state}

pub by_policy_p {ℓ ℓ'} : {A : Type ℓ} (P : A → Type ℓ') (p : FailurePolicy) {a b c : A} → P a → P b → P c → P (by_policy p a b c)
by_policy_p P Required x y z = x
by_policy_p P Isolable x y z = y
by_policy_p P Cascading x y z = z

pub by_kind_p {ℓ ℓ'} : {A : Type ℓ} (P : A → Type ℓ') (k : BootFailureKind) {a b : A} → P a → P b → P (by_kind k a b)
by_kind_p P TimedOut x y = x
by_kind_p P DeviceRetriable x y = x
by_kind_p P DeviceFatal x y = y

pub by_state_p {ℓ ℓ'} : {A : Type ℓ} (P : A → Type ℓ') (s : State) {a b d e g : A} {c : Option ComponentId → A} {f : ComponentId → A}
    → P a → P b → ((o : Option ComponentId) → P (c o)) → P d → P e → ((i : ComponentId) → P (f i)) → P g → P (by_state s a b c d e f g)
by_state_p P PowerOnReset t u v w x y z = t
by_state_p P PreSupervision t u v w x y z = u
by_state_p P (AwaitingReady o) t u v w x y z = v o
by_state_p P Ready t u v w x y z = w
by_state_p P Updating t u v w x y z = x
by_state_p P (Recovering i) t u v w x y z = y i
by_state_p P Locked t u v w x y z = z
