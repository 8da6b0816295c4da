-- Section 3: boot timeouts and boot failures, each rule from a machine to the next one and the effects of the step.
use Rattle.std.specs.Prelude.{List, [], ◌∷◌, ℕ}
use Rattle.model.specs.Vocabulary.{pick}
use Rattle.components.specs.Chain.{position}
use Rattle.model.specs.declared.ComponentId.{ComponentId}
use Rattle.model.specs.declared.Component.{Component}
use Rattle.model.specs.declared.BootFailureKind.{BootFailureKind}
use Rattle.model.specs.declared.BootFailureKind.TheVariants.{TimedOut, DeviceRetriable, DeviceFatal}
use Rattle.model.specs.declared.Effect.{Effect}
use Rattle.model.specs.declared.Effect.TheVariants.{ReportBootFailed}
use Rattle.machine.specs.Status.{status_at}
use Rattle.machine.specs.View.{Core, Out, stay, after}
use Rattle.rules.specs.Corruption.{recover, corrupt}

-- es, here and below, are the effects before a recovery. Today they are none in every state: Updating adds nothing here.

-- Timeout, only when awaiting_boot.
abbrev pub timeout : List Component → List Effect → ComponentId → Core → Out
timeout ch es i c = pick (status_at c.statuses (position ch i)).awaiting_boot (recover ch es i c) (stay c)

-- One of two answers: the second for DeviceFatal.
abbrev pub by_kind {ℓ} : {A : Type ℓ} → BootFailureKind → A → A → A
by_kind TimedOut a b = a
by_kind DeviceRetriable a b = a
by_kind DeviceFatal a b = b

-- BootFailed, only when awaiting_boot: reported; for DeviceFatal the corruption rule, otherwise Recovering.
abbrev pub boot_failed : List Component → (Core → Out) → List Effect → ComponentId → ℕ → BootFailureKind → Core → Out
boot_failed ch k es i n f c = pick (status_at c.statuses (position ch i)).awaiting_boot
    (after (ReportBootFailed i n f ∷ []) (by_kind f (recover ch es i c) (corrupt ch k es i c)))
    (stay c)
