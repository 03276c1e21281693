-- The largest load of the written counter: from width 4 on it is one more than the width has binary digits, so one more than its outputs. It
-- is that of the block of the highest level.
use Prim.Native.Nat.{ℕ, zero, suc, ◌+◌, ◌-◌, ◌^◌, ◌≤◌, ◌<◌, max}
use Rattle.std.specs.Prelude.{◌≡◌, Bool}
use Rattle.std.proofs.Math.Path.{refl}
use Rattle.std.proofs.Math.Bool.{cond}
use mathlib.Core.List.{List, [], ◌∷◌, ◌++◌}
use Rattle.std.proofs.Common.{le_refl}
use native.Mathlib.Omega.{arith}
use Rattle.std.proofs.Math.ListN.{length}
use borrow.Author.Tests.{le-ltb}
use Rattle.meaning.specs.Syntax.{Occurrence}
use Rattle.meaning.specs.Gates.{is_gate}
use Rattle.meaning.specs.Limits.{driven}
use Rattle.meaning.specs.Figures.{largest, largest_referred}
use Rattle.meaning.specs.Loads.{places_load, net_load, loads_inside, largest_load}
use Rattle.meaning.specs.Adder.{up_from}
use Rattle.meaning.specs.Counter.{choose, block_number, join_block, block, blocks, digits_within, digits, join_parts, last_count, counter_module, counter}
use Rattle.laws.specs.Tests.{Tells, tells_true, tells_false, ltb_tells}
use Rattle.laws.specs.Bounds.{largest-within}
use Rattle.laws.specs.Counter.Digits.{binary-below, binary-digits, HighestOne, done, digit_0, digit_1, highest-digit}
use Rattle.laws.specs.Loads.Places.{largest-least}
use Rattle.laws.specs.Loads.Counter.Blocks.{blocks-load, blocks-most, block-most}
use Rattle.laws.specs.Loads.Counter.Part.{PartsLoad}
use Rattle.laws.specs.Loads.Counter.Parts.{parts-load}

-- The block of the highest level is referred to.
module _ (later : ℕ → ℕ) where
  referred-behind : (os ps : List Occurrence) → largest_referred later ps ≤ largest_referred later (os ++ ps)
  unfolding largest_referred
  referred-behind [] ps = omega arith
  referred-behind (o ∷ os) ps = omega (arith, referred-behind os ps)

  some-above : {count j : ℕ} {ds : List Bool} → HighestOne count (suc j) ds → count ≤ j → 1 ≤ length ds
  some-above done short = absurd (omega arith)
  some-above (digit_0 h) short = omega arith
  some-above (digit_1 h) short = omega arith

  highest-referred :
      {count j : ℕ} {ds : List Bool} (i bits below : ℕ)
      → HighestOne count j ds
      → 1 ≤ length ds
      → count ≤ j
      → j + length ds ≡ suc (suc i)
      → later (33 + i) ≤ largest_referred later (join_parts j bits count below ds)
  unfolding join_parts largest_referred block_number
  highest-referred i bits below done some short level = absurd (omega arith)
  highest-referred i bits below (digit_0 h) some short level =
      highest-referred i bits below h (some-above h short) (omega arith) (omega arith)
  highest-referred i bits below (digit_1 {count = count} {j = j} {ds = ds} h) some short level =
      let ors = below + count + count + count in
      let row = choose (ors + j) (below + count) below (below + count + count) ors count in
      let further = join_parts (suc j) (bits + 2 ^ j) (suc j) ors ds in
      omega (
        arith,
        referred-behind row further,
        go (length ds) refl (λ more. highest-referred i (bits + 2 ^ j) ors h more (omega arith) (omega arith)),
      )
    where
      own : j ≡ suc i → later (33 + i) ≤ cond (is_gate (block_number j)) 0 (later (block_number j))
      own e = rw (e, le-ltb (33 + i) 16 (omega arith)) (le_refl (later (33 + i)))

      go :
          (n : ℕ) {deeper : ℕ}
          → length ds ≡ n
          → (1 ≤ length ds → later (33 + i) ≤ deeper)
          → later (33 + i) ≤ max (cond (is_gate (block_number j)) 0 (later (block_number j))) deeper
      go zero e above = omega (arith, own (omega arith))
      go (suc n) e above = omega (arith, above (omega arith))

-- A width of four has three digits.
three-digits : (n : ℕ) → 4 ≤ n → 3 ≤ length (digits n)
three-digits n wide = go (length (digits n)) (rw binary-digits at (binary-below (digits n)))
  where
    go : (d : ℕ) → n < 2 ^ d → 3 ≤ d
    go zero h = absurd (omega arith)
    go (suc zero) h = absurd (omega arith)
    go (suc (suc zero)) h = absurd (omega arith)
    go (suc (suc (suc d))) h = omega arith

module _ (n i : ℕ) (count : length (digits n) ≡ suc (suc (suc i))) where
  abbrev load : ℕ → ℕ
  load = net_load (loads_inside (blocks (suc (suc i)))) (join_parts 0 0 0 n (digits n))

  own-loads : (net : ℕ) → load net ≤ suc (suc i) + 2
  own-loads net = go (ltb_tells net n)
    where
      parts : PartsLoad (suc (suc i)) n 0 0 n load
      parts =
          parts-load (suc (suc i)) n (blocks-load (suc (suc i))) 0 0 0 n (digits n) (omega arith) (omega arith)
          (omega (arith, binary-digits n))
          (omega arith)

      go : {b : Bool} → Tells (net < n) (n ≤ net) b → load net ≤ suc (suc i) + 2
      go (tells_true h) = omega (arith, parts.inputs net h)
      go (tells_false h) = parts.most net (omega arith)

  load-at-width : 1 ≤ n → largest_load (counter n) 32 ≡ suc (suc i) + 2
  unfolding largest_load counter counter_module
  load-at-width some =
      let k = suc (suc i) in
      let levels : length (digits n) - 1 ≡ k = omega arith in
      let parts = join_parts 0 0 0 n (digits n) in
      rw levels
      (omega (
        arith,
        largest-least load (up_from 0 n ++ driven parts) (k + 2) (λ net h. own-loads net),
        largest-within (largest_load (blocks k)) (k + 2) (blocks-most k) parts,
        highest-referred (largest_load (blocks k)) (suc i) 0 n (highest-digit n some) (omega arith) (omega arith) (omega arith),
        block-most i,
      ))

pub counter-load : (n : ℕ) → 4 ≤ n → largest_load (counter n) 32 ≡ length (digits n) + 1
counter-load n wide = go (length (digits n)) refl (three-digits n wide)
  where
    go : (d : ℕ) → length (digits n) ≡ d → 3 ≤ d → largest_load (counter n) 32 ≡ d + 1
    go zero e h = absurd (omega arith)
    go (suc zero) e h = absurd (omega arith)
    go (suc (suc zero)) e h = absurd (omega arith)
    go (suc (suc (suc i))) e h = omega (arith, load-at-width n i e (omega arith))

-- The three widths below.
pub record Narrow : Type 0 where
  pub width_1 : largest_load (counter 1) 32 ≡ 1
  pub width_2 : largest_load (counter 2) 32 ≡ 2
  pub width_3 : largest_load (counter 3) 32 ≡ 2

pub counter-load-narrow : Narrow
unfolding
    largest_load loads_inside net_load places_load largest largest_referred driven up_from choose block_number join_block block blocks
    digits_within digits join_parts last_count counter_module counter
counter-load-narrow = record { width_1 = refl; width_2 = refl; width_3 = refl }
