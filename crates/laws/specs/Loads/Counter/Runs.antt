-- Loads at nets that are numbered one after the other, as the written counter numbers them, and in its rows of choices.
use Prim.Native.Nat.{ℕ, zero, suc, ◌+◌, ◌≤◌, ◌<◌}
use Rattle.std.specs.Prelude.{◌≡◌, refl, Bool, List, [], ◌∷◌, ◌++◌, map, eqb, length, replicate}
use Rattle.std.proofs.Common.{ap₂, add-zero, add-suc, suc-add, eq-eqb, ne_eqb}
use Rattle.std.proofs.Math.Bool.{true, false, cond}
use native.Mathlib.Omega.{arith}
use Rattle.meaning.specs.Figures.{largest}
use Rattle.meaning.specs.Loads.{places_load, Loads, net_load}
use Rattle.meaning.specs.Adder.{up_from}
use Rattle.meaning.specs.Counter.{choose}
use Rattle.laws.specs.Tests.{if_false}
use Rattle.laws.specs.Members.{duplicates-tells}
use Rattle.laws.specs.Adder.Distinct.{duplicates-of-run}
use Rattle.laws.specs.Flatten.Numbered.{of-run}
use Rattle.laws.specs.Loads.Places.{load-nowhere, load-once, none-either_way}

-- What a place of a load adds for a net.
abbrev pub only : (net place load : ℕ) → ℕ
only net place load = cond (eqb net place) load 0

pub only_here : (net place load : ℕ) → net ≡ place → only net place load ≡ load
only_here net place load e = rw (eq-eqb net place e)

pub only-away : (net place load : ℕ) → ¬ (net ≡ place) → only net place load ≡ 0
only-away net place load h = rw (ne_eqb net place h)

pub only-most : (net place load : ℕ) → only net place load ≤ load
only-most net place load = go (eqb net place)
  where
    go : (b : Bool) → cond b load 0 ≤ load
    go true = omega arith
    go false = omega arith

-- A run of places: a net before it or behind it has no load there, and any net one of its loads at most.
module _ (net first count : ℕ) (loads : List ℕ) where
  pub run-before : net < first → places_load net (up_from first count) loads ≡ 0
  run-before h = load-nowhere net (up_from first count) loads (λ i. omega (arith, of-run first count i))

  pub run-behind : first + count ≤ net → places_load net (up_from first count) loads ≡ 0
  run-behind h = load-nowhere net (up_from first count) loads (λ i. omega (arith, of-run first count i))

  pub run-most : places_load net (up_from first count) loads ≤ largest loads
  run-most = load-once net (up_from first count) loads (if_false (duplicates-tells (up_from first count)) (duplicates-of-run first count))

pub ones-most : (count : ℕ) → largest (replicate count 1) ≤ 1
unfolding largest
ones-most zero = omega arith
ones-most (suc n) = omega (arith, ones-most n)

-- A row of arguments of gates.
module _ (net first count : ℕ) where
  abbrev pub row : ℕ
  row = places_load net (up_from first count) (replicate count 1)

  pub row_before : net < first → row ≡ 0
  row_before = run-before net first count (replicate count 1)

  pub row-behind : first + count ≤ net → row ≡ 0
  row-behind = run-behind net first count (replicate count 1)

  pub row-most : row ≤ 1
  row-most = omega (arith, run-most net first count (replicate count 1), ones-most count)

pub run-last : (first n : ℕ) → up_from first (suc n) ≡ up_from first n ++ ((first + n) ∷ [])
unfolding up_from
run-last first zero = rw (add-zero first)
run-last first (suc n) = rw (add-suc first n, ← suc-add first n) (ap₂ {C = List ℕ} ◌∷◌ refl (run-last (suc first) n))

-- Of several places only the last has a load.
pub last-load :
    (net : ℕ) (xs : List ℕ) (y n : ℕ)
    → length xs ≡ n
    → places_load net (xs ++ (y ∷ [])) (replicate n 0 ++ (1 ∷ [])) ≡ only net y 1
unfolding places_load
last-load net [] y zero count = omega arith
last-load net [] y (suc n) count = absurd (omega arith)
last-load net (x ∷ xs) y zero count = absurd (omega arith)
last-load net (x ∷ xs) y (suc n) count = omega (arith, none-either_way (eqb net x), last-load net xs y n (omega arith))

pub last-of-run :
    (load : ℕ → ℕ) (first n : ℕ)
    → ((x : ℕ) → first ≤ x → x < first + n → load x ≡ 0)
    → load (first + n) ≡ 1
    → map load (up_from first (suc n)) ≡ replicate n 0 ++ (1 ∷ [])
unfolding up_from
last-of-run load first zero none one = ap₂ {C = List ℕ} ◌∷◌ (rw add-zero at one) refl
last-of-run load first (suc n) none one =
    ap₂ {C = List ℕ} ◌∷◌ (none first (omega arith) (omega arith))
    (last-of-run load (suc first) n (λ x low high. none x (omega arith) (omega arith)) (rw (add-suc first n, ← suc-add first n) at one))

-- "Empty" stands once in each choice, and each of the three other rows of arguments once.
module _ (later : ℕ → Loads) (net empty : ℕ) where
  pub choose-load :
      (high low ands ors n : ℕ)
      → net_load later (choose empty high low ands ors n) net
      ≡ only net empty n
      + row net low n
      + row net high n
      + row net ands n
  unfolding net_load choose up_from places_load
  choose-load high low ands ors zero = omega (arith, none-either_way (eqb net empty))
  choose-load high low ands ors (suc n) =
      omega (
        arith,
        choose-load (suc high) (suc low) (suc ands) (suc ors) n,
        none-either_way (eqb net ands),
        none-either_way (eqb net ors),
        once_more (eqb net empty),
      )
    where
      once_more : (b : Bool) → cond b (suc n) 0 ≡ cond b 1 0 + cond b n 0
      once_more true = omega arith
      once_more false = omega arith
