-- A struct of the code for each machine of the definitions that fits: what it is read as, that it is valid, and that its
-- arrays have the lengths that the code declares. The struct holds the proofs that it is one, so these are made here too; of
-- equal machines the structs are equal, since each of those facts has one proof at most.
use mathlib.Core.Path.{◌≡◌, refl, sym, subst, ap, ap₂, ◌∙◌}
use mathlib.Core.HLevel.{is_prop→PathP}
use mathlib.Core.Bool.{Bool, true, false}
use mathlib.Core.List.{List, [], ◌∷◌, ◌++◌, map}
use Prim.Native.Nat.{ℕ, zero, suc, ◌+◌, ◌-◌, ◌*◌, ◌/◌, ◌%◌, ◌≤◌, ◌<◌}
use native.Mathlib.Bridge.{le_prop}
use native.Mathlib.Nat.{ℕ_set}
use native.Mathlib.Omega.{arith}
use lib.Dec.{eqb}
use lib.ListN.{length, get_or, take, drop, replicate, length-map, length-append, length-replicate, length-take, length-drop, take-append-drop}
use lib.Seq.{take_at, drop_at, length-take-le}
use Rattle.model.specs.Vocabulary.{pick, id_of}
use Rattle.components.specs.Chain.{entries_of, position, Sound}
use Rattle.components.specs.declared.ComponentList.{ComponentList}
use Rattle.components.proofs.Accepted.{sound-accepted}
use Rattle.model.specs.declared.Event.{Event}
use Rattle.model.specs.declared.Event.TheVariants.{EffectFailed}
use Rattle.model.specs.declared.Effect.{Effect}
use Rattle.model.specs.declared.Effect.TheVariants.{LatchLockdown}
use Rattle.store.specs.Flags.{digits, flags_of, flags}
use Rattle.store.specs.declared.Status.{Status}
use Rattle.store.specs.declared.Sink.{Sink}
use Rattle.store.specs.Sink.{held}
use Rattle.components.specs.declared.Chain.{Chain}
use Rattle.components.specs.Links.{parent}
use Rattle.pending.specs.declared.Pending.{Pending}
use Rattle.pending.specs.Queue.{events}
use Rattle.machine.specs.declared.ComponentStatus.{ComponentStatus}
use Rattle.machine.specs.declared.ComponentLifecycle.{ComponentLifecycle}
use Rattle.machine.specs.declared.ComponentLifecycle.TheVariants.{Nominal, Isolated}
use Rattle.machine.specs.declared.Rot.{Rot}
use Rattle.machine.specs.Status.{iso, is_isolated}
use Rattle.machine.specs.View.{Core, lifecycle_of, joined, statuses_of, Fit}
use Rattle.settling.specs.declared.whole.Machine.{Machine}
use Rattle.settling.specs.Settle.{Model}
use Rattle.settling.specs.View.{view, Rests, Valid}

-- ---- Words from flags

unfoldable pub number : List Bool → ℕ
number [] = 0
number (b ∷ bs) = pick b 1 0 + 2 * number bs

digits_number : (bs : List Bool) → digits (length bs) (number bs) ≡ bs
unfolding digits number
digits_number [] = refl
digits_number (b ∷ bs) = ap₂ (λ (x : Bool) (t : List Bool). x ∷ t) (low b) (ap (digits (length bs)) (high b) ∙ digits_number bs)
  where
    low : (x : Bool) → eqb ((pick x 1 0 + 2 * number bs) % 2) 1 ≡ x
    low true = let e : (1 + 2 * number bs) % 2 ≡ 1 = omega arith in ap (λ (k : ℕ). eqb k 1) e
    low false = let e : (0 + 2 * number bs) % 2 ≡ 0 = omega arith in ap (λ (k : ℕ). eqb k 1) e

    high : (x : Bool) → (pick x 1 0 + 2 * number bs) / 2 ≡ number bs
    high true = omega arith
    high false = omega arith

-- The first 64 k flags in k words.
unfoldable pub words : ℕ → List Bool → List ℕ
words zero bs = []
words (suc k) bs = number (take 64 bs) ∷ words k (drop 64 bs)

first_word : (bs : List Bool) → length bs ≡ 64 → digits 64 (number bs) ≡ bs
first_word bs e = subst (λ (k : ℕ). digits k (number bs) ≡ bs) e (digits_number bs)

words_flags : (k : ℕ) (bs : List Bool) → length bs ≡ k * 64 → flags_of 64 (words k bs) ≡ bs
unfolding words flags_of
words_flags zero [] e = refl
words_flags zero (b ∷ bs) e = absurd (omega arith)
words_flags (suc k) bs e =
    ap₂ (λ (s t : List Bool). s ++ t) (first_word (take 64 bs) (length-take-le 64 bs (omega arith))) (words_flags k (drop 64 bs) (omega (arith, length-drop 64 bs)))
    ∙ take-append-drop 64 bs

words-length : (k : ℕ) (bs : List Bool) → length (words k bs) ≡ k
unfolding words
words-length zero bs = refl
words-length (suc k) bs = ap suc (words-length k (drop 64 bs))

-- ---- Arrays, filled up to their lengths

abbrev pub padded {ℓ} : {A : Type ℓ} → ℕ → A → List A → List A
padded n d l = l ++ replicate (n - length l) d

padded-length {ℓ} : {A : Type ℓ} (n : ℕ) (d : A) (l : List A) → length l ≤ n → length (padded n d l) ≡ n
padded-length n d l h = omega (arith, length-append l (replicate (n - length l) d), length-replicate (n - length l) d)

unfoldable pub sink_of : List Effect → Sink
sink_of es = record { effects = record { items = padded 512 LatchLockdown es; len = length es } }

sink-held : (es : List Effect) → held (sink_of es) ≡ es
unfolding held sink_of
sink-held es = take_at es _ (length es) refl

unfoldable pub pending_of : List Event → Pending
pending_of q = record { entries = record { items = padded 8 EffectFailed q; len = length q } }

pub pending-events : (q : List Event) → events (pending_of q) ≡ q
unfolding events pending_of
pending-events q = take_at q _ (length q) refl

-- ---- Statuses: the set, and what is stored

abbrev pub stored_of : ComponentStatus → Status
stored_of s = record { retry = s.retry; awaiting_boot = s.awaiting_boot; released = s.released }

abbrev pub bits : List ComponentStatus → List Bool
bits st = padded 256 false (map iso st)

unfoldable pub rot_of : Core → Rot
rot_of c = record { statuses = padded 255 record { retry = 0; awaiting_boot = false; released = false } (map stored_of c.statuses); isolated = record { words = words 4 (bits c.statuses) }; cursor = c.cursor; pending_commit = c.window }

lifecycle-back : (x : ComponentLifecycle) → lifecycle_of (is_isolated x) ≡ x
lifecycle-back Nominal = refl
lifecycle-back Isolated = refl

joined_back : (st : List ComponentStatus) → joined (map iso st) (map stored_of st) ≡ st
unfolding joined
joined_back [] = refl
joined_back (s ∷ st) =
    ap₂ (λ (x : ComponentStatus) (t : List ComponentStatus). x ∷ t)
    (ap (λ (x : ComponentLifecycle). record { lifecycle = x; retry = s.retry; awaiting_boot = s.awaiting_boot; released = s.released }) (lifecycle-back s.lifecycle))
    (joined_back st)

module _ (c : Core) (n : ℕ) (sized : length c.statuses ≡ n) (most : n ≤ 255) where
  rot-flags : flags (rot_of c).isolated ≡ bits c.statuses
  unfolding flags rot_of
  rot-flags = words_flags 4 (bits c.statuses) (padded-length 256 false (map iso c.statuses) (omega (arith, length-map c.statuses iso)))

  rot-statuses : statuses_of n (rot_of c) ≡ c.statuses
  unfolding statuses_of rot_of
  rot-statuses =
      ap₂ joined
      (ap (take n) rot-flags ∙ take_at (map iso c.statuses) _ n (length-map c.statuses iso ∙ sized))
      (take_at (map stored_of c.statuses) _ n (length-map c.statuses stored_of ∙ sized))
      ∙ joined_back c.statuses

  pub rot-fits : c.cursor ≤ n → Fit n (rot_of c)
  unfolding rot_of
  rot-fits low = record {
    clean = ap (drop n) rot-flags ∙ drop_at (map iso c.statuses) _ n (length-map c.statuses iso ∙ sized)
        ∙ ap (λ (k : ℕ). replicate (256 - k) false) (length-map c.statuses iso ∙ sized);
    low = low;
  }

-- ---- The chain with its tables

unfoldable pub rows : ℕ → (ℕ → ℕ) → List ℕ
rows zero f = []
rows (suc n) f = f 0 ∷ rows n (λ k. f (suc k))

pub rows_at : (n : ℕ) (f : ℕ → ℕ) (i : ℕ) → i < n → get_or (rows n f) i 0 ≡ f i
unfolding rows
rows_at zero f i h = absurd (omega arith)
rows_at (suc n) f zero h = refl
rows_at (suc n) f (suc i) h = rows_at n (λ k. f (suc k)) i (omega arith)

rows-length : (n : ℕ) (f : ℕ → ℕ) → length (rows n f) ≡ n
unfolding rows
rows-length zero f = refl
rows-length (suc n) f = ap suc (rows-length n (λ k. f (suc k)))

unfoldable pub chart_of : (l : ComponentList) → length (entries_of l) ≤ 255 → Chain
chart_of l h = record {
  list = l;
  count = length (entries_of l);
  positions = rows 256 (λ i. position (entries_of l) (id_of i));
  parents = rows 255 (parent (entries_of l));
  few = h;
  counted = refl;
  by_id = λ i k. rows_at 256 (λ i. position (entries_of l) (id_of i)) i k;
  by_place = λ p k. rows_at 255 (parent (entries_of l)) p (omega arith);
}

-- ---- The machine

-- A machine of the definitions that fits into the struct.
pub record Fitting (n : ℕ) (m : Model) : Type 0 where
  pub sized : length m.core.statuses ≡ n
  pub low : m.core.cursor ≤ n
  pub room : length m.left ≤ 512
  pub few : length m.queue ≤ 8

fitting_prop : (n : ℕ) (m : Model) → IsProp (Fitting n m)
fitting_prop n m f g i = record {
  sized = ℕ_set _ _ f.sized g.sized i;
  low = le_prop f.low g.low i;
  room = le_prop f.room g.room i;
  few = le_prop f.few g.few i;
}

-- The lengths of the arrays of a machine, but for the list that it was made for.
pub record Sizes (m : Machine) : Type 0 where
  pub positions : length m.chain.positions ≡ 256
  pub parents : length m.chain.parents ≡ 255
  pub statuses : length m.work.rot.statuses ≡ 255
  pub words : length m.work.rot.isolated.words ≡ 4
  pub effects : length m.work.sink.effects.items ≡ 512
  pub entries : length m.dispatch.pending.entries.items ≡ 8

module _ (l : ComponentList) (s : Sound l.len (entries_of l)) (max : ℕ) where
  pub most : length (entries_of l) ≤ 255
  most = omega (arith, length-take l.len l.entries, s.few)

  unfoldable pub store_of : (m : Model) → Fitting (length (entries_of l)) m → Machine
  unfolding chart_of sink_of
  store_of m f = record {
    chain = chart_of l most;
    max_retry = max;
    work = record { state = m.core.state; rot = rot_of m.core; sink = sink_of m.left };
    dispatch = record { next = 0; waiting = m.waiting; pending = pending_of m.queue; failed = m.failed };
    accepted = sound-accepted l.len (entries_of l) s;
    fit = rot-fits m.core (length (entries_of l)) f.sized most f.low;
    room = f.room;
    few = subst (λ (q : List Event). length q ≤ 8) (sym (pending-events m.queue)) f.few;
  }

  -- Of equal machines it is the same struct, whatever the proofs are that they fit.
  pub store-same : (m n : Model) (f : Fitting (length (entries_of l)) m) (g : Fitting (length (entries_of l)) n) → m ≡ n → store_of m f ≡ store_of n g
  store-same m n f g e =
      λ i. store_of (e i) (is_prop→PathP (λ j. Fitting (length (entries_of l)) (e j)) (λ j. fitting_prop (length (entries_of l)) (e j)) f g i)

  module _ (m : Model) (f : Fitting (length (entries_of l)) m) where
    pub store_view : view (store_of m f) ≡ m
    unfolding view store_of chart_of rot_of
    store_view =
        let st : statuses_of (length (entries_of l)) (rot_of m.core) ≡ m.core.statuses = rot-statuses m.core (length (entries_of l)) f.sized most in
        λ i. record {
          core = record { state = m.core.state; cursor = m.core.cursor; statuses = st i; window = m.core.window };
          waiting = m.waiting;
          left = sink-held m.left i;
          queue = pending-events m.queue i;
          failed = m.failed;
        }

    pub store-chain : (store_of m f).chain ≡ chart_of l most
    unfolding store_of
    store-chain = refl

    pub store-entries : entries_of (store_of m f).chain.list ≡ entries_of l
    unfolding store_of chart_of
    store-entries = refl

    pub store-max_retry : (store_of m f).max_retry ≡ max
    unfolding store_of
    store-max_retry = refl

    pub store-valid : Rests m → Valid (store_of m f)
    store-valid r = subst Rests (sym store_view) r

    pub store-sizes : Sizes (store_of m f)
    unfolding store_of chart_of rot_of sink_of pending_of
    store-sizes = record {
      positions = rows-length 256 (λ i. position (entries_of l) (id_of i));
      parents = rows-length 255 (parent (entries_of l));
      statuses = padded-length 255 _ (map stored_of m.core.statuses) (omega (arith, length-map m.core.statuses stored_of, f.sized, most));
      words = words-length 4 (bits m.core.statuses);
      effects = padded-length 512 LatchLockdown m.left (omega (arith, f.room));
      entries = padded-length 8 EffectFailed m.queue (omega (arith, f.few));
    }
