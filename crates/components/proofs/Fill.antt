-- The table of a chain's places by id, which is filled from the last component to the first.
use Prim.Native.Nat.{ℕ, ◌+◌, ◌<◌, ◌≤◌}
use mathlib.Core.Path.{◌≡◌, refl, sym, ◌∙◌, ap}
use mathlib.Core.List.{List, [], ◌∷◌, ◌++◌}
use native.Mathlib.Decide.{ℕ_discrete}
use native.Mathlib.Omega.{arith}
use lib.ListN.{length, drop, take, get_or, set, replicate, get_or-replicate, length-take}
use lib.Seq.{get_or-set_other, take-append_seam, get_or-take, take-take}
use Rattle.std.proofs.lemmas.List.{length_push, get_or_push}
use borrow.Author.Tests.{eq-eqb, ne_eqb}
use Rattle.std.proofs.lemmas.Grind.{get_or-set_at}
use Rattle.model.specs.declared.Component.{Component}
use Rattle.model.specs.Vocabulary.{id_of}
use Rattle.components.specs.Chain.{blank, at, position, id_at}
use Rattle.components.proofs.Places.{position_here, position-next, position-end}
use Rattle.components.specs.Filled.{Filled}

-- Of the first components one less is left after a turn: the last of them, which the turn takes.
pub record Shorter (ch left : List Component) (x : Component) (k : ℕ) : Type 0 where
  pub first : left ≡ take (length left) ch
  pub last : at ch (length left) ≡ x
  pub step : k ≡ length left + 1
  pub inside : length left < length ch

pub shorter : (ch rest left : List Component) (x : Component) → rest ≡ left ++ (x ∷ []) → rest ≡ take (length rest) ch → Shorter ch left x (length rest)
shorter ch rest left x e first =
    let step : length rest ≡ length left + 1 = ap length e ∙ length_push left x in
    let cut : take (length rest) ch ≡ left ++ (x ∷ []) = sym first ∙ e in
    record {
      first = sym (take-append_seam left (x ∷ [])) ∙ ap (take (length left)) (sym cut) ∙ take-take (length left) (length rest) ch (omega arith);
      last = sym (get_or-take (length rest) ch (length left) blank (omega arith)) ∙ ap (λ (l : List Component). get_or l (length left) blank) cut ∙ get_or_push left x blank (length left) refl;
      step = step;
      inside = omega (arith, step, ap length first, length-take (length rest) ch);
    }

module _ (ch : List Component) where
  -- The position of an id where only the components from k on are known.
  abbrev pub position_from : ℕ → ℕ → ℕ
  position_from k i = k + position (drop k ch) (id_of i)

  -- With no component known every id has the number of components as its place,
  pub none-known : (m k v : ℕ) → length ch ≤ k → v ≡ k → Filled (position_from k) m (replicate m v)
  none-known m k v end e i h = get_or-replicate m i v 0 h ∙ e ∙ sym (position-end ch (id_of i) k end)

  -- and with one more known, the one before them, its id has its place, whatever was noted for it: the first of equal ids.
  module _ (m j k x v : ℕ) (table : List ℕ) (more : j < length ch) (step : k ≡ j + 1) (own : x ≡ (id_at ch j).0) (e : v ≡ j) where
    further : (i : ℕ) → ((id_at ch j).0 ≡ i → ⊥) → position_from j i ≡ position_from k i
    further i apart = position-next ch (id_of i) j more (ne_eqb _ _ apart) ∙ ap (λ (n : ℕ). position_from n i) (sym step)

    pub one_more : length table ≡ m → x < m → Filled (position_from k) m table → Filled (position_from j) m (set table x v)
    one_more long room filled i h =
        elim (ℕ_discrete i x) [
          | yes b ↦ get_or-set_at table x i v 0 b (omega arith) ∙ e ∙ sym (position_here ch (id_of i) j more (eq-eqb _ _ (sym (b ∙ own))))
          | no b ↦ get_or-set_other table x i v 0 b ∙ filled i h ∙ sym (further i (λ q. b (sym (own ∙ q))))
        ]
