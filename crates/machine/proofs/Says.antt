-- A sink after several effects: in two parts, and what it holds where there is room.
use mathlib.Core.Path.{◌≡◌, refl, sym, ap, ◌∙◌}
use mathlib.Core.List.{List, [], ◌∷◌, ◌++◌, append-nil, append_assoc}
use Prim.Native.Nat.{◌+◌, ◌≤◌, ◌<◌}
use native.Mathlib.Omega.{arith}
use lib.ListN.{length}
use Rattle.model.specs.declared.Effect.{Effect}
use Rattle.store.specs.declared.Sink.{Sink}
use Rattle.store.specs.Sink.{held, with_effect}
use Rattle.store.proofs.Laws.{with-len, with-held, with-slots}
use Rattle.machine.specs.View.{says}

pub says-append : (s : Sink) (es fs : List Effect) → says s (es ++ fs) ≡ says (says s es) fs
unfolding says
says-append s [] fs = refl
says-append s (e ∷ es) fs = says-append (with_effect s e) es fs

pub says-held : (s : Sink) (es : List Effect) → length s.effects.items ≡ 512 → s.effects.len + length es ≤ 512 → (held (says s es) ≡ held s ++ es) × ((says s es).effects.len ≡ s.effects.len + length es)
unfolding says
says-held s [] f h = (sym (append-nil (held s)), omega arith)
says-held s (e ∷ es) f h =
    let k : s.effects.len < 512 = omega arith in
    let l = with-len s e k in
    let more = says-held (with_effect s e) es (with-slots s e ∙ f) (omega arith) in
    (more.0 ∙ ap (λ (l : List Effect). l ++ es) (with-held s e f k) ∙ append_assoc (held s) (e ∷ []) es, omega arith)

-- The array stays as long.
pub says-slots : (s : Sink) (es : List Effect) → length (says s es).effects.items ≡ length s.effects.items
unfolding says
says-slots s [] = refl
says-slots s (e ∷ es) = says-slots (with_effect s e) es ∙ with-slots s e
