-- What is kept of the components of a sheet: the first 255 of them, and whether there are more. That is enough for questions 2
-- to 6.
use mathlib.Core.Path.{◌≡◌, refl, sym, ap, ◌∙◌}
use mathlib.Core.Bool.{Bool, true, false}
use mathlib.Core.List.{List, [], ◌∷◌, ◌++◌, append_assoc, append-nil}
use Prim.Native.Nat.{ℕ, ◌+◌, ◌≤◌, min}
use native.Mathlib.Omega.{arith}
use borrow.Author.Tests.{le-ltb, ltb-true, ltb-false}
use lib.Dec.{ltb}
use lib.ListN.{length, take, length-take, length-set, length-replicate}
use lib.Seq.{take_all, take_at}
use Rattle.model.proofs.Pick.{pick_p}
use Rattle.model.specs.declared.Component.{Component}
use Rattle.components.specs.declared.ComponentList.{ComponentList}
use Rattle.components.specs.Chain.{entries_of, blank, no_entries, pushed, verdict_of}
use Rattle.components.proofs.Kept.{push-adds, too_long}
use Rattle.reader.specs.Read.{pushed_all}

-- One more.
push-long : (l : ComponentList) (c : Component) → length l.entries ≡ 255 → length (pushed l c).entries ≡ 255
push-long l c h = pick_p (λ (x : ComponentList). length x.entries ≡ 255) (ltb l.len 255) (λ e. length-set l.entries l.len c ∙ h) (λ e. h)

push-len : (l : ComponentList) (c : Component) → l.len ≤ 256 → (pushed l c).len ≡ min 256 (l.len + 1)
push-len l c h =
    pick_p (λ (x : ComponentList). x.len ≡ min 256 (l.len + 1)) (ltb l.len 255)
    (λ e. omega (arith, ltb-true l.len 255 e)) (λ e. omega (arith, ltb-false l.len 255 e))

-- Where there is no room, what is pushed is not kept.
no_room : (es : List Component) (n : ℕ) (cs : List Component) → length es ≡ 255 → 255 ≤ n → take 255 (take n es ++ cs) ≡ es
no_room es n cs h g = ap (λ (x : List Component). take 255 (x ++ cs)) (take_all n es (omega arith)) ∙ take_at es cs 255 h

push-full : (l : ComponentList) (c : Component) → 255 ≤ l.len → pushed l c ≡ record { entries = l.entries; len = 256 }
push-full l c h = rw (le-ltb l.len 255 h)

push_kept : (l : ComponentList) (c : Component) (cs : List Component) → length l.entries ≡ 255
    → take 255 (entries_of (pushed l c) ++ cs) ≡ take 255 (entries_of l ++ c ∷ cs)
push_kept l c cs h = by-test (ltb l.len 255) refl
  where
    by-test : (t : Bool) → ltb l.len 255 ≡ t → take 255 (entries_of (pushed l c) ++ cs) ≡ take 255 (entries_of l ++ c ∷ cs)
    by-test true e =
        ap (λ (x : List Component). take 255 (x ++ cs)) (push-adds l c h (ltb-true l.len 255 e))
        ∙ ap (take 255) (append_assoc (entries_of l) (c ∷ []) cs)
    by-test false e =
        let g = ltb-false l.len 255 e in
        ap (λ (x : ComponentList). take 255 (entries_of x ++ cs)) (push-full l c g)
        ∙ no_room l.entries 256 cs h (omega arith) ∙ sym (no_room l.entries l.len (c ∷ cs) h g)

-- All of them.
all-kept : (l : ComponentList) (cs : List Component) → length l.entries ≡ 255 → entries_of (pushed_all l cs) ≡ take 255 (entries_of l ++ cs)
unfolding pushed_all
all-kept l [] h =
    sym (ap (take 255) (append-nil (entries_of l)) ∙ take_all 255 (entries_of l) (omega (arith, length-take l.len l.entries)))
all-kept l (c ∷ cs) h = all-kept (pushed l c) cs (push-long l c h) ∙ push_kept l c cs h

all-len : (l : ComponentList) (cs : List Component) → l.len ≤ 256 → (pushed_all l cs).len ≡ min 256 (l.len + length cs)
unfolding pushed_all
all-len l [] h = omega arith
all-len l (c ∷ cs) h = let e = push-len l c h in all-len (pushed l c) cs (omega arith) ∙ omega arith

pub kept-cards : (cs : List Component) → entries_of (pushed_all no_entries cs) ≡ take 255 cs
kept-cards cs = all-kept no_entries cs (length-replicate 255 blank)

pub kept-verdict : (cs : List Component)
    → verdict_of (pushed_all no_entries cs).len (entries_of (pushed_all no_entries cs)) ≡ verdict_of (length cs) (take 255 cs)
kept-verdict cs =
    ap (verdict_of (pushed_all no_entries cs).len) (kept-cards cs) ∙ by-test (ltb 256 (length cs)) refl
  where
    n : (pushed_all no_entries cs).len ≡ min 256 (length cs)
    n = omega (arith, all-len no_entries cs (omega arith))

    by-test : (t : Bool) → ltb 256 (length cs) ≡ t → verdict_of (pushed_all no_entries cs).len (take 255 cs) ≡ verdict_of (length cs) (take 255 cs)
    by-test true t =
        let g = ltb-true 256 (length cs) t in
        too_long (pushed_all no_entries cs).len (take 255 cs) (omega (arith, n)) ∙ sym (too_long (length cs) (take 255 cs) (omega arith))
    by-test false t =
        let g = ltb-false 256 (length cs) t in
        let e : (pushed_all no_entries cs).len ≡ length cs = omega (arith, n) in
        ap (λ (i : ℕ). verdict_of i (take 255 cs)) e
