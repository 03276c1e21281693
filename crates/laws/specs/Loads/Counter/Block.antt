-- Loads in a block of the written counter that is made of two: what each row of its arguments adds.
use Prim.Native.Nat.{ℕ, suc, ◌+◌, ◌*◌, ◌^◌, ◌≤◌}
use Rattle.std.specs.Prelude.{◌≡◌, false, List, [], ◌∷◌, ◌++◌, eqb, replicate}
use native.Mathlib.Omega.{arith}
use borrow.Author.Tests.{le-ltb}
use Rattle.meaning.specs.Gates.{is_gate}
use Rattle.meaning.specs.Figures.{largest}
use Rattle.meaning.specs.Loads.{places_load, Loads, net_load}
use Rattle.meaning.specs.Adder.{up_from}
use Rattle.meaning.specs.Counter.{block_number, join_block}
use Rattle.laws.specs.Adder.Nets.{length-up_from}
use Rattle.laws.specs.Loads.Places.{none-either_way, net_load-append}
use Rattle.laws.specs.Loads.Counter.Runs.{only, row, run-last, last-load, choose-load}

-- Inside the block of level i + 1 an input has load 2 at most, and of the outputs only "empty", the last, has load 1.
pub record BlockLoads (later : ℕ → Loads) (i : ℕ) : Type 0 where
  pub inputs : largest (later (33 + i)).inputs ≤ 2
  pub outputs : (later (33 + i)).outputs ≡ replicate (suc i) 0 ++ (1 ∷ [])

-- The rows of nets of the block above it.
module _ (i : ℕ) where
  abbrev pub half : ℕ
  half = 2 ^ suc i

  abbrev pub low : ℕ
  low = 2 * half

  abbrev pub high : ℕ
  high = low + suc (suc i)

  abbrev pub ands : ℕ
  ands = high + suc (suc i)

  abbrev pub ors : ℕ
  ors = ands + suc i

  abbrev pub top : ℕ
  top = ors + suc i

module _ {later : ℕ → Loads} {i : ℕ} (block : BlockLoads later i) where
  abbrev pub inputs : List ℕ
  inputs = (later (33 + i)).inputs

  pub module_number : is_gate (block_number (suc i)) ≡ false
  unfolding block_number
  module_number = le-ltb (33 + i) 16 (omega arith)

  block-drives :
      (net first : ℕ) → places_load net (up_from first (suc (suc i))) (later (33 + i)).outputs ≡ only net (first + suc i) 1
  block-drives net first =
      rw (block.outputs, run-last first (suc i))
      (last-load net (up_from first (suc i)) (first + suc i) (suc i) (length-up_from first (suc i)))

  pub join-load :
      (net : ℕ)
      → net_load later (join_block (suc i)).occurrences net
      ≡ places_load net (up_from 0 (half i)) inputs
      + places_load net (up_from (half i) (half i)) inputs
      + (only net (low i + suc i) 1 + only net (low i + suc i) 1 + only net (suc (top i)) 1)
      + (only net (high i + suc i) 1 + only net (high i + suc i) 1 + only net (high i + suc i) 1 + only net (high i + suc i) (suc i))
      + (row net (low i) (suc i)
      + row net (high i) (suc i)
      + row net (ands i) (suc i))
  unfolding net_load join_block places_load block_number
  join-load net =
      rw (module_number, net_load-append later)
      (omega (
        arith,
        block-drives net (low i),
        block-drives net (high i),
        choose-load later net (high i + suc i) (high i) (low i) (ands i) (ors i) (suc i),
        none-either_way (eqb net (top i)),
        none-either_way (eqb net (suc (top i))),
      ))
