-- The two tables filled from the last module to the first.
use Prim.Native.Nat.{ℕ, ◌+◌, ◌≤◌, ◌<◌}
use mathlib.Core.Logic.{⊎_elim}
use mathlib.Core.Path.{◌≡◌, ap}
use mathlib.Core.List.{List, ◌∷◌}
use native.Mathlib.Omega.{arith}
use native.Mathlib.Nat.{eq-or-lt_of_le}
use lib.ListN.{length, get_or, set, drop, length-drop, length-set}
use lib.Seq.{get_or-set_same, get_or-set_other}
use Rattle.meaning.specs.Syntax.{Module}
use Rattle.laws.specs.Withdrawn.Suits.{fours}
use Rattle.laws.specs.Withdrawn.Counts.{fours_reached}
use Rattle.open_finding.specs.Here.{Here, here-at}
use Rattle.rewrite_counts.specs.Fours.{Tabled, Reaching, Countable, Counted}

-- Behind the last module there is nothing to count.
pub counted_none : (rs : List Module) (own reached : List ℕ) (modules : ℕ) → length rs ≤ modules → length rs ≤ length reached → Counted rs modules own reached
counted_none rs own reached modules end long =
    record {
      owns = λ k {m} {later} from e. absurd (omega (arith, ap length e, length-drop k rs));
      tabled = record { long = long; entry = λ j from low. absurd (omega arith) };
    }

-- What the module at a position asks, once those behind it are counted.
abbrev pub reaching :
    {image starts : List ℕ} {modules a b : ℕ} (s : Countable image starts modules a b) {k : ℕ} {reached : List ℕ}
    → k < length s.rs
    → Tabled s.rs (k + 1) reached
    → Reaching image starts k reached
reaching s {k} low tabled =
    let h = here-at s.rs k low in
    record {
      rs = s.rs;
      nets = s.nets;
      scene = record { imaged = s.imaged; m = h.m; later = h.later; here = h.here };
      size = s.size k low;
      tabled = tabled;
    }

-- A table with one entry more.
entry_set :
    (table : List ℕ) (k x : ℕ) (P : ℕ → ℕ → Type 0)
    → k < length table
    → P k x
    → ((j : ℕ) → k + 1 ≤ j → P j (get_or table j 0))
    → (j : ℕ)
    → k ≤ j
    → P j (get_or (set table k x) j 0)
entry_set table k x P inside new behind j from = ⊎_elim here-it behind-it (eq-or-lt_of_le from)
  where
    here-it : k ≡ j → P j (get_or (set table k x) j 0)
    here-it same = rw (← same, get_or-set_same table k x 0 inside) new

    behind-it : k < j → P j (get_or (set table k x) j 0)
    behind-it further = rw (get_or-set_other table k j x 0 (λ same. omega arith)) (behind j (omega arith))

pub counted-more :
    {rs : List Module} {k : ℕ} {own reached : List ℕ} (h : Here rs k) (x y : ℕ)
    → Counted rs (k + 1) own reached
    → k < length own
    → k < length reached
    → x ≡ fours h.m.occurrences
    → y ≡ fours_reached rs (16 + k)
    → Counted rs k (set own k x) (set reached k y)
counted-more {rs} {k} {own} {reached} h x y c in_own in_reached is_own is_reached =
    record {
      owns = λ j {m} {later} from e.
          entry_set own k x (λ j entry. (m : Module) (later : List Module) → drop j rs ≡ m ∷ later → entry ≡ fours m.occurrences)
          in_own (λ m later e. let same : h.m ≡ m = cc h.here in rw (← same) is_own)
          (λ j from m later e. c.owns j from e) j from m later e;
      tabled =
          record {
            long = omega (arith, length-set reached k y, c.tabled.long);
            entry = λ j from low.
                entry_set reached k y (λ j entry. j < length rs → entry ≡ fours_reached rs (16 + j)) in_reached (λ low. is_reached)
                (λ j from low. c.tabled.entry j from low) j from low;
          };
    }
