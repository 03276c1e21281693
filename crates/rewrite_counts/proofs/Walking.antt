-- How far counting the four gates of a module has come: what is counted and what the occurrences ahead add are the module's. So no sum on
-- the way is above what the expanded size bounds.
use Prim.Native.Nat.{ℕ, ◌+◌, ◌-◌, ◌≤◌, ◌<◌, ◌^◌}
use mathlib.Core.Path.{◌≡◌, sym, ap, ◌∙◌}
use mathlib.Core.Bool.{Bool, true, false, cond}
use mathlib.Core.List.{List, [], ◌∷◌}
use native.Mathlib.Omega.{arith}
use borrow.Author.Tests.{lt-ltb, le-ltb}
use lib.ListN.{length, get_or, length-drop}
use Rattle.meaning.specs.Syntax.{Occurrence}
use Rattle.meaning.specs.Gates.{is_gate}
use Rattle.meaning.specs.Limits.{most_size}
use Rattle.meaning.specs.Figures.{body_weight}
use Rattle.meaning.specs.Withdrawn.{withdrawn}
use Rattle.laws.specs.Bounds.{weight_size}
use Rattle.laws.specs.Withdrawn.Kinds.{four-told, four_is}
use Rattle.laws.specs.Withdrawn.Suits.{fours}
use Rattle.laws.specs.Withdrawn.Counts.{four_weight, fours_reached}
use Rattle.image.specs.Searching.{gate_weight-search}
use Rattle.image.specs.Places.{HeaderOf}
use Rattle.image.specs.Scenes.{says_here}
use Rattle.image.specs.Walking.{Ahead, all-ahead, Turn, target, called, file-says, is_module}
use Rattle.image.specs.declared.places.Header.{Header}
use Rattle.image.specs.declared.places.Place.{Place}
use Rattle.rewrite_counts.specs.Fours.{Reaching}

pub record Walk {image starts : List ℕ} {k : ℕ} {reached : List ℕ} (s : Reaching image starts k reached) (at left own sum : ℕ) : Type 0 where
  pub rest : List Occurrence
  pub filled : ℕ
  pub ahead : Ahead image s.scene.m s.scene.later at left filled rest
  pub owned : own + fours rest ≡ fours s.scene.m.occurrences
  pub summed : sum + body_weight four_weight (fours_reached s.scene.later) rest ≡ fours_reached s.rs (16 + k)
  pub few : own ≤ sum

one_at_most : (b : Bool) → cond b 1 0 ≤ 1
one_at_most true = omega arith
one_at_most false = omega arith

module _ {image starts : List ℕ} {k : ℕ} {reached : List ℕ} (s : Reaching image starts k reached) where
  pub none-walked : {h : Header} → HeaderOf image (get_or starts k 0) s.scene.m h → Walk s (h.to + 1) h.count 0 0
  unfolding fours_reached
  none-walked header =
      record {
        rest = s.scene.m.occurrences;
        filled = _;
        ahead = all-ahead s.scene header;
        owned = omega arith;
        summed = omega (arith, says_here s.scene (gate_weight-search four_weight));
        few = omega arith;
      }

  within : fours_reached s.rs (16 + k) ≤ most_size
  unfolding fours_reached
  within =
      let counted = weight_size four_weight (λ kind. one_at_most (withdrawn kind)) s.rs (16 + k) in
      omega (arith, s.size)

  module _
      {at left own sum : ℕ} (w : Walk s at left own sum) {place : Place}
      (t : Turn image s.scene.m s.scene.later at left w.filled w.rest place)
    where
      pub record Step (x y : ℕ) : Type 0 where
        pub fits : sum + y < 2 ^ 32
        pub owning : own + x < 2 ^ 32
        pub next : {own' sum' : ℕ} → own' ≡ own + x → sum' ≡ sum + y → Walk s place.to (left - 1) own' sum'

      step :
          (x y : ℕ)
          → x ≡ four_weight t.o.refers
          → y ≡ cond (is_gate t.o.refers) (four_weight t.o.refers) (fours_reached s.scene.later t.o.refers)
          → x ≤ y
          → Step x y
      unfolding fours body_weight
      step x y of_x of_y below =
          let owned = rw t.is at w.owned in
          let summed = rw t.is at w.summed in
          record {
            fits = omega (arith, within, summed, of_y);
            owning = omega (arith, within, summed, of_y, w.few, below);
            next = λ is_own is_sum.
                record {
                  rest = t.os;
                  filled = _;
                  ahead = t.next;
                  owned = omega (arith, owned, of_x, is_own);
                  summed = omega (arith, summed, of_y, is_sum);
                  few = omega (arith, w.few, below, is_own, is_sum);
                };
          }

      -- One of the four gates.
      pub at-four : withdrawn place.refers ≡ true → Step 1 1
      at-four is =
          let here = ap withdrawn (sym t.read.refers) ∙ is in
          let gate = (four_is (four-told t.o.refers here)).is_one in
          step 1 1 (rw here) (rw (gate, here)) (omega arith)

      -- Another gate.
      pub at_other : withdrawn place.refers ≡ false → place.refers < 16 → Step 0 0
      at_other is low =
          let here = ap withdrawn (sym t.read.refers) ∙ is in
          let gate = ap is_gate (sym t.read.refers) ∙ lt-ltb place.refers 16 low in
          step 0 0 (rw here) (rw (gate, here)) (omega arith)

      -- A module.
      pub record AtModule : Type 0 where
        pub inside : place.refers - 16 < length reached
        pub step : Step 0 (get_or reached (place.refers - 16) 0)

      pub at_module : withdrawn place.refers ≡ false → 16 ≤ place.refers → AtModule
      unfolding fours_reached
      at_module is high =
          let no_gate = le-ltb place.refers 16 high in
          let here = ap withdrawn (sym t.read.refers) ∙ is in
          let there = called s.scene t no_gate in
          let j = place.refers - 16 in
          let low : j < length s.rs = omega (arith, ap length there.here, length-drop j s.rs) in
          let after = (target s.scene t no_gate).after in
          record {
            inside = omega (arith, s.tabled.long, low);
            step =
                step 0 (get_or reached j 0) (rw here)
                (rw (is_module s.scene t no_gate)
                (s.tabled.entry j (omega (arith, after)) low ∙ sym (file-says s.scene t no_gate (gate_weight-search four_weight))))
                (omega arith);
          }

  pub all-walked : {at left own sum : ℕ} → left ≡ 0 → Walk s at left own sum
      → (own ≡ fours s.scene.m.occurrences) × (sum ≡ fours_reached s.rs (16 + k))
  unfolding fours body_weight
  all-walked over w = go w.rest (omega (arith, w.ahead.many)) w.owned w.summed
    where
      go :
          (rest : List Occurrence) → length rest ≡ 0
          → {own sum : ℕ} → own + fours rest ≡ fours s.scene.m.occurrences
          → sum + body_weight four_weight (fours_reached s.scene.later) rest ≡ fours_reached s.rs (16 + k)
          → (own ≡ fours s.scene.m.occurrences) × (sum ≡ fours_reached s.rs (16 + k))
      go [] e a b = (omega arith, omega arith)
      go (o ∷ os) e a b = absurd (omega arith)
