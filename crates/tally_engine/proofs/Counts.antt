-- Counts made larger one after the other, each by what is added at its kind.
use Prim.Native.Nat.{ℕ, ◌+◌, ◌≤◌, ◌<◌, ◌^◌}
use mathlib.Core.Path.{◌≡◌, refl, ap, ◌∙◌}
use mathlib.Core.Bool.{Bool, true, false, cond}
use mathlib.Core.List.{List}
use native.Mathlib.Omega.{arith}
use borrow.Author.Tests.{eqb-true, eqb-false}
use lib.Dec.{eqb}
use lib.ListN.{length, get_or, set, length-set}
use lib.Seq.{get_or-set_other}
use Rattle.tally_engine.specs.Tallies.{Addable, Added}
use Rattle.image.specs.Entries.{entry_more}

-- The counts of the first kinds are so many more, the others as they were.
pub record Partly (counts : List ℕ) (more : ℕ → ℕ) (first : ℕ) (counts' : List ℕ) : Type 0 where
  pub long : length counts' ≡ 16
  pub passed : (kind : ℕ) → kind < first → get_or counts' kind 0 ≡ get_or counts kind 0 + more kind
  pub ahead : (kind : ℕ) → first ≤ kind → get_or counts' kind 0 ≡ get_or counts kind 0

pub partly_none : (counts : List ℕ) (more : ℕ → ℕ) → length counts ≡ 16 → Partly counts more 0 counts
partly_none counts more long = record { long = long; passed = λ kind h. absurd (omega arith); ahead = λ kind h. refl }

-- The next count can hold what is added at its kind.
pub partly_fits :
    {counts : List ℕ} {more : ℕ → ℕ} {i : ℕ} {counts' : List ℕ}
    → i < 16
    → Addable counts more
    → Partly counts more i counts'
    → get_or counts' i 0 + more i < 2 ^ 32
partly_fits {i = i} h room p = omega (arith, room.fits i h, p.ahead i (omega arith))

pub partly_more :
    {counts : List ℕ} {more : ℕ → ℕ} {i : ℕ} {counts' : List ℕ}
    → i < 16
    → Partly counts more i counts'
    → Partly counts more (i + 1) (set counts' i (get_or counts' i 0 + more i))
partly_more {counts} {more} {i} {counts'} h p =
    record {
      long = simp length-set p.long;
      passed = λ kind less. entry_more counts' i (more i) kind (omega (arith, p.long)) ∙ go kind less (eqb kind i) refl;
      ahead = λ kind further. get_or-set_other counts' i kind _ 0 (λ same. omega arith) ∙ p.ahead kind (omega arith);
    }
  where
    go :
        (kind : ℕ)
        → kind < i + 1
        → (b : Bool)
        → eqb kind i ≡ b
        → get_or counts' kind 0 + cond b (more i) 0 ≡ get_or counts kind 0 + more kind
    go kind less true e = rw (eqb-true kind i e) (ap (λ (n : ℕ). n + more i) (p.ahead i (omega arith)))
    go kind less false e =
        let other = eqb-false kind i e in
        omega (arith, p.passed kind (omega arith))

pub partly_all :
    {counts : List ℕ} {more : ℕ → ℕ} {i : ℕ} {counts' : List ℕ}
    → 16 ≤ i
    → Partly counts more i counts'
    → Added counts more counts'
partly_all h p = record { long = p.long; sum = λ kind less. p.passed kind (omega arith) }
