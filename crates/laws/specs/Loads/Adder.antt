-- The largest load of the written adder is 2: each of its nets stands at most once as an argument, each input of the full adder has
-- load 2 inside it, and its outputs have none.
use Rattle.std.specs.Prelude.{◌≡◌, cond, [], ◌∷◌, ◌++◌, eqb}
use Rattle.std.proofs.Math.Path.{refl}
use Rattle.std.proofs.Common.{◌∙◌}
use Prim.Native.Nat.{ℕ, zero, suc, ◌+◌, ◌*◌, ◌<◌, ◌≤◌}
use Rattle.std.proofs.Math.Decide.{ℕ_discrete}
use native.Mathlib.Omega.{arith}
use borrow.Author.Tests.{eq-eqb, ne_eqb}
use Rattle.meaning.specs.Limits.{driven}
use Rattle.meaning.specs.Figures.{largest, largest_referred}
use Rattle.meaning.specs.Loads.{places_load, Loads, net_load, loads_inside, largest_load}
use Rattle.meaning.specs.Adder.{up_from, adder_cells, ripple_adder, full_adder, half_adder, adder}
use Rattle.laws.specs.Adder.Figures.{referred-by-cells}
use Rattle.laws.specs.Loads.Places.{largest-least, none-either_way}

-- What one place adds to the load of a net.
abbrev place : (net argument : ℕ) → ℕ
place net argument = cond (eqb net argument) 2 0

here : (net argument : ℕ) → net ≡ argument → place net argument ≡ 2
here net argument e = rw (eq-eqb net argument e)

away : (net argument : ℕ) → (net ≡ argument → ⊥) → place net argument ≡ 0
away net argument h = rw (ne_eqb net argument h)

-- The loads inside the full adder.
abbrev full_loads : Loads
full_loads = record { inputs = 2 ∷ 2 ∷ 2 ∷ []; outputs = 0 ∷ 0 ∷ [] }

module _ (later : ℕ → Loads) (full : later 17 ≡ full_loads) (net : ℕ) where
  load-of-cell :
      (a b s k before n : ℕ)
      → net_load later (adder_cells a b s k before (suc n)) net
      ≡ place net a
      + (place net b + (place net before + 0))
      + net_load later (adder_cells (suc a) (suc b) (suc s) (suc k) k n) net
  unfolding net_load places_load adder_cells
  load-of-cell a b s k before n = rw full (omega (arith, none-either_way (eqb net s), none-either_way (eqb net k)))

  -- A net that is no argument of the cells has load 0.
  unloaded :
      (a b s k before n : ℕ)
      → ((y : ℕ) → a ≤ y → y < a + n → net ≡ y → ⊥)
      → ((y : ℕ) → b ≤ y → y < b + n → net ≡ y → ⊥)
      → net < before
      → net < k
      → net_load later (adder_cells a b s k before n) net ≡ 0
  unfolding net_load adder_cells
  unloaded a b s k before zero no-a no-b low high = refl
  unloaded a b s k before (suc n) no-a no-b low high =
      load-of-cell a b s k before n
      ∙ rw (
        ne_eqb net a (no-a a (omega arith) (omega arith)),
        ne_eqb net b (no-b b (omega arith) (omega arith)),
        ne_eqb net before (omega arith),
        unloaded (suc a) (suc b) (suc s) (suc k) k n
            (λ y least most. no-a y (omega arith) (omega arith))
            (λ y least most. no-b y (omega arith) (omega arith))
            high
            (omega arith),
      )

  -- Any net has load 2 at most, where a's nets lie below b's, those below the carries, and the carry before is none of a's and b's.
  load-of-cells :
      (a b s k before n : ℕ)
      → a + n ≤ b
      → b + n ≤ k
      → ((y : ℕ) → a ≤ y → y < b + n → before ≡ y → ⊥)
      → before < k
      → net_load later (adder_cells a b s k before n) net ≤ 2
  unfolding net_load adder_cells
  load-of-cells a b s k before zero order order' apart below = omega arith
  load-of-cells a b s k before (suc n) order order' apart below =
      go (ℕ_discrete net a) (ℕ_discrete net b) (ℕ_discrete net before)
      (load-of-cells (suc a) (suc b) (suc s) (suc k) k n (omega arith) (omega arith) (λ y least most. omega arith) (omega arith))
    where
      rest : ℕ
      rest = net_load later (adder_cells (suc a) (suc b) (suc s) (suc k) k n) net

      go : Dec (net ≡ a) → Dec (net ≡ b) → Dec (net ≡ before) → rest ≤ 2 → net_load later (adder_cells a b s k before (suc n)) net ≤ 2
      go (yes e) on-b on-before most =
          omega (
            arith,
            load-of-cell a b s k before n,
            here net a e,
            away net b (omega arith),
            away net before (λ same. apart a (omega arith) (omega arith) (omega arith)),
            unloaded (suc a) (suc b) (suc s) (suc k) k n (λ y low high. omega arith) (λ y low high. omega arith) (omega arith) (omega arith),
          )
      go (no no-a) (yes e) on-before most =
          omega (
            arith,
            load-of-cell a b s k before n,
            away net a no-a,
            here net b e,
            away net before (λ same. apart b (omega arith) (omega arith) (omega arith)),
            unloaded (suc a) (suc b) (suc s) (suc k) k n (λ y low high. omega arith) (λ y low high. omega arith) (omega arith) (omega arith),
          )
      go (no no-a) (no no-b) (yes e) most =
          omega (
            arith,
            load-of-cell a b s k before n,
            away net a no-a,
            away net b no-b,
            here net before e,
            unloaded (suc a) (suc b) (suc s) (suc k) k n
                (λ y low high same. apart y (omega arith) (omega arith) (omega arith))
                (λ y low high same. apart y (omega arith) (omega arith) (omega arith))
                (omega arith)
                (omega arith),
          )
      go (no no-a) (no no-b) (no no-before) most =
          omega (arith, load-of-cell a b s k before n, away net a no-a, away net b no-b, away net before no-before)

full-loads : loads_inside (full_adder ∷ half_adder ∷ []) 17 ≡ full_loads
unfolding loads_inside net_load places_load
full-loads = refl

full-largest : largest_load (full_adder ∷ half_adder ∷ []) 17 ≡ 2
unfolding largest_load largest_referred largest loads_inside net_load places_load driven
full-largest = refl

pub adder-load : (n : ℕ) → 1 ≤ n → largest_load (adder n) 18 ≡ 2
unfolding largest_load adder ripple_adder
adder-load n some =
    let later = loads_inside (full_adder ∷ half_adder ∷ []) in
    let cells = adder_cells 1 (n + 1) (2 * n + 1) (3 * n + 1) 0 n in
    let own =
    largest-least (net_load later cells) (up_from 0 (2 * n + 1) ++ driven cells) 2
    (λ net i.
    load-of-cells later full-loads net 1 (n + 1) (2 * n + 1) (3 * n + 1) 0 n
    (omega arith)
    (omega arith)
    (λ y low high. omega arith)
    (omega arith))
    in
    omega (
      arith,
      own,
      full-largest,
      referred-by-cells (largest_load (full_adder ∷ half_adder ∷ [])) 1 (n + 1) (2 * n + 1) (3 * n + 1) 0 n some,
    )
