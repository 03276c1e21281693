-- Loads in the blocks of the written counter, from level to level: the block of level 1 has largest load 2, that of a level above it has
-- 2 more than the level.
use Rattle.std.specs.Prelude.{ℕ, zero, suc, ◌+◌, ◌≤◌, ◌<◌, max, ◌≡◌, refl, Bool, true, false, cond, List, [], ◌∷◌, ◌++◌, map, eqb}
use Rattle.std.proofs.Common.{arith, eq-eqb, ne_eqb}
use Rattle.meaning.specs.Syntax.{Module}
use Rattle.meaning.specs.Members.{◌∈◌}
use Rattle.meaning.specs.Limits.{driven}
use Rattle.meaning.specs.Figures.{largest}
use Rattle.meaning.specs.Loads.{places_load, net_load, loads_inside, largest_load}
use Rattle.meaning.specs.Adder.{up_from}
use Rattle.meaning.specs.Counter.{pair_block, join_block, block, blocks}
use Rattle.laws.specs.Tests.{Tells, tells_true, tells_false, eqb_tells}
use Rattle.laws.specs.Bounds.{largest-within}
use Rattle.laws.specs.Members.{in_left, in_right}
use Rattle.laws.specs.Flatten.Numbered.{below-run, in_run}
use Rattle.laws.specs.Loads.Suffix.{loads_inside_searches}
use Rattle.laws.specs.Loads.Places.{largest-has, largest-least}
use Rattle.laws.specs.Loads.Counter.Runs.{only_here, only-away, last-of-run}
use Rattle.laws.specs.Loads.Counter.Block.{BlockLoads, low, high, ors, top}
use Rattle.laws.specs.Loads.Counter.BlockMost.{join-inputs, join-empty, join-outputs, join-most}

number-of-block : (k : ℕ) → (block k).number ≡ 33 + k
unfolding block join_block
number-of-block zero = refl
number-of-block (suc i) = refl

-- The block of level 1.
pair-loads : BlockLoads (loads_inside (pair_block ∷ [])) 0
unfolding loads_inside net_load places_load largest
pair-loads = record { inputs = omega arith; outputs = refl }

pair-most : largest (map (net_load (loads_inside (blocks 0)) pair_block.occurrences) (pair_block.inputs ++ driven pair_block.occurrences)) ≤ 3
unfolding blocks loads_inside net_load places_load largest driven
pair-most = omega arith

-- The block of a level, from the one below.
join-loads : (i : ℕ) (ms : List Module) → BlockLoads (loads_inside ms) i → BlockLoads (loads_inside (join_block (suc i) ∷ ms)) (suc i)
unfolding loads_inside join_block
join-loads i ms below =
    let load : ℕ → ℕ = net_load (loads_inside ms) (join_block (suc i)).occurrences in
    let found : eqb (33 + suc i) (33 + suc i) ≡ true = eq-eqb (33 + suc i) (33 + suc i) refl in
    let nothing : (x : ℕ) → ors i ≤ x → x < ors i + suc (suc i) → load x ≡ 0
    = λ x from past. omega (arith, join-outputs below x from, only-away x (suc (top i)) 1 (λ e. omega arith)) in
    let last : ℕ = ors i + suc (suc i) in
    let one : load last ≡ 1
    = omega (arith, join-outputs below last (omega arith), only_here last (suc (top i)) 1 (omega arith)) in
    let two : suc i + 2 ≡ suc (suc (suc i)) = omega arith in
    record {
      inputs = rw found (largest-least load (up_from 0 (low i)) 2 (λ x h. join-inputs below x (below-run (low i) x h)));
      outputs = rw (found, two) (last-of-run load (ors i) (suc (suc i)) nothing one);
    }

pub blocks-load : (k i : ℕ) → i < k → BlockLoads (loads_inside (blocks k)) i
unfolding blocks block
blocks-load zero i h = absurd (omega arith)
blocks-load (suc k) i h = go (eqb_tells i k) (blocks-load k)
  where
    first : (l : ℕ) → ((i : ℕ) → i < l → BlockLoads (loads_inside (blocks l)) i) → BlockLoads (loads_inside (block l ∷ blocks l)) l
    first zero below = pair-loads
    first (suc l) below = join-loads l (blocks (suc l)) (below l (omega arith))

    go :
        {b : Bool}
        → Tells (i ≡ k) (¬ (i ≡ k)) b
        → ((i : ℕ) → i < k → BlockLoads (loads_inside (blocks k)) i)
        → BlockLoads (loads_inside (block k ∷ blocks k)) i
    go (tells_true e) below = rw e (first k below)
    go (tells_false other) below =
        let l = below i (omega arith) in
        let other-number = ne_eqb (33 + i) (block k).number (λ e. omega (arith, number-of-block k)) in
        let past = loads_inside_searches.passes (block k) (blocks k) (33 + i) other-number in
        record { inputs = rw past l.inputs; outputs = rw past l.outputs }

-- The largest load of a block.
own-most :
    (k : ℕ)
    → largest (map (net_load (loads_inside (blocks k)) (block k).occurrences) ((block k).inputs ++ driven (block k).occurrences)) ≤ k + 3
unfolding block
own-most zero = pair-most
own-most (suc i) =
    largest-least _ ((join_block (suc i)).inputs ++ driven (join_block (suc i)).occurrences) (suc i + 3)
    (λ net h. join-most (blocks-load (suc i) i (omega arith)) net)

pub blocks-most : (k number : ℕ) → largest_load (blocks k) number ≤ k + 2
unfolding largest_load blocks
blocks-most zero number = omega arith
blocks-most (suc k) number =
    go (eqb number (block k).number) (blocks-most k number) (own-most k)
    (largest-within (largest_load (blocks k)) (k + 2) (blocks-most k) (block k).occurrences)
  where
    go :
        (b : Bool) {later own deeper : ℕ}
        → later ≤ k + 2
        → own ≤ k + 3
        → deeper ≤ k + 2
        → cond b (max own deeper) later ≤ suc k + 2
    go true l o d = omega arith
    go false l o d = omega arith

empty-driven : (i : ℕ) → (high i + suc i) ∈ driven (join_block (suc i)).occurrences
unfolding driven join_block
empty-driven i =
    in_right (up_from (low i) (suc (suc i)))
    (in_left _ (in_run (high i) (suc (suc i)) (high i + suc i) (omega arith)))

pub block-most : (i : ℕ) → largest_load (blocks (suc (suc i))) (33 + suc i) ≡ suc i + 3
unfolding largest_load blocks block join_block
block-most i =
    let load : ℕ → ℕ = net_load (loads_inside (blocks (suc i))) (join_block (suc i)).occurrences in
    let nets : List ℕ = (join_block (suc i)).inputs ++ driven (join_block (suc i)).occurrences in
    let has : load (high i + suc i) ≤ largest (map load nets) = largest-has load nets (in_right (up_from 0 (low i)) (empty-driven i)) in
    let found : eqb (33 + suc i) (33 + suc i) ≡ true = eq-eqb (33 + suc i) (33 + suc i) refl in
    let most = rw found at (blocks-most (suc (suc i)) (33 + suc i)) in
    rw found (omega (arith, has, most, join-empty (blocks-load (suc i) i (omega arith))))
