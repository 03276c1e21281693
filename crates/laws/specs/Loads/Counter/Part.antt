-- What the block of a part of the written counter has inside, the nets that it drives, and what is said of the loads of parts.
use Rattle.std.specs.Prelude.{ℕ, zero, suc, ◌+◌, ◌-◌, ◌≤◌, ◌<◌, ◌≡◌, refl, List, [], ◌∷◌, ◌++◌, length}
use Rattle.std.proofs.Common.{sym, append_assoc, arith}
use Rattle.meaning.specs.Syntax.{Occurrence}
use Rattle.meaning.specs.Figures.{largest}
use Rattle.meaning.specs.Loads.{places_load, Loads, referred_loads}
use Rattle.meaning.specs.Adder.{up_from}
use Rattle.meaning.specs.Counter.{block_number}
use Rattle.laws.specs.Loads.Places.{load-none}
use Rattle.laws.specs.Loads.Counter.Runs.{only, ones-most, run-last, last-load}
use Rattle.laws.specs.Loads.Counter.Block.{BlockLoads, module_number}

-- What an occurrence of the block of a level has inside: no input has load above 2, and no output any but the last, which has 1 at most.
pub record Inside (inside : Loads) (j : ℕ) : Type 0 where
  pub inputs : largest inside.inputs ≤ 2
  pub outputs : (net : ℕ) (xs : List ℕ) (y : ℕ) → length xs ≡ j → places_load net (xs ++ (y ∷ [])) inside.outputs ≤ only net y 1

module _ (later : ℕ → Loads) (takes drives : List ℕ) where
  abbrev referring : ℕ → Occurrence
  referring j = record { drives = drives; refers = block_number j; takes = takes }

  bit-inside : Inside (referred_loads later (referring 0)) 0
  unfolding block_number
  bit-inside =
      record {
        inputs = omega (arith, ones-most (length takes));
        outputs = λ net xs y count. omega (arith, load-none net (xs ++ (y ∷ [])));
      }

  block_inside : (i : ℕ) → BlockLoads later i → Inside (referred_loads later (referring (suc i))) (suc i)
  unfolding block_number
  block_inside i block =
      rw (module_number block)
      (record {
        inputs = block.inputs;
        outputs = λ net xs y count. rw block.outputs (omega (arith, last-load net xs y (suc i) count));
      })

  pub level_inside :
      (k : ℕ) → ((i : ℕ) → i < k → BlockLoads later i) → (j : ℕ) → j ≤ k → Inside (referred_loads later (referring j)) j
  level_inside k blocks zero h = bit-inside
  level_inside k blocks (suc i) h = block_inside i (blocks i h)

-- The nets that the block of a part drives, the last of them "empty".
pub part-drives :
    (high ors j count : ℕ)
    → count ≤ j
    → up_from high count ++ up_from (ors + count) (suc j - count)
    ≡ (up_from high count ++ up_from (ors + count) (j - count)) ++ ((ors + j) ∷ [])
part-drives high ors j count h =
    let size : suc j - count ≡ suc (j - count) = omega arith in
    let last : ors + count + (j - count) ≡ ors + j = omega arith in
    rw (size, run-last (ors + count) (j - count), last) (sym (append_assoc (up_from high count) _ _))

-- Loads in the parts from a level on, of a counter of n bits whose highest level is k, when the `bits` lower bits are counted in `count`
-- bits on the nets from `below` on.
pub record PartsLoad (k n bits count below : ℕ) (load : ℕ → ℕ) : Type 0 where
  pub used : (net : ℕ) → net < bits → load net ≡ 0
  pub inputs : (net : ℕ) → net < n → load net ≤ 2
  pub idle : (net : ℕ) → n ≤ net → net < below → load net ≡ 0
  pub counted : (net : ℕ) → below ≤ net → net < below + count → load net ≤ 1
  pub most : (net : ℕ) → below + count ≤ net → load net ≤ k + 2

pub no_parts : {k n bits count below : ℕ} → PartsLoad k n bits count below (λ net. 0)
no_parts =
    record {
      used = λ net h. refl;
      inputs = λ net h. omega arith;
      idle = λ net from past. refl;
      counted = λ net from past. omega arith;
      most = λ net h. omega arith;
    }
