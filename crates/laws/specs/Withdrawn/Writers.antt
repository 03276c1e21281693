-- None of our own writers writes one of the four gates: the strict check accepts every written file, once over the width.
use Rattle.std.specs.Prelude.{ℕ, zero, suc, ◌+◌, ◌*◌, ◌-◌, ◌≤◌, ◌≡◌, Bool, true, false, ◌||◌, length}
use Rattle.std.proofs.Math.Path.{refl}
use mathlib.Core.List.{List, [], ◌∷◌, ◌++◌}
use Rattle.std.proofs.Common.{arith, ne_eqb}
use Rattle.meaning.specs.Lists.{All, none, more}
use Rattle.meaning.specs.Syntax.{Occurrence, Module}
use Rattle.meaning.specs.Reading.{holds, read}
use Rattle.meaning.specs.Layout.{encode}
use Rattle.meaning.specs.Verdict.{good, file_verdict}
use Rattle.meaning.specs.Adder.{adder_cells, ripple_adder, adder}
use Rattle.meaning.specs.Counter.{choose, block_number, join_block, block, blocks, digits, join_parts, counter_module, counter}
use Rattle.meaning.specs.FastAdder.{gate_row, Tree, leaf, node, leaves, Step, over_one, over_two, ahead, chain, lookahead, carry_one, carry_two, fast_module, fast_adder_over, steps, fast_adder}
use Rattle.meaning.specs.Alu.{copy_row, copies, copy_count, cells, alu_module, alu_over, alu}
use Rattle.meaning.specs.Withdrawn.{withdrawn, any_withdrawn, withdrawn_verdict, strict_verdict}
use Rattle.laws.specs.FastAdder.File.{fast_adder-read-back}
use Rattle.laws.specs.FastAdder.Accepted.{fast_adder-accepted}
use Rattle.laws.specs.Alu.File.{alu-read-back}
use Rattle.laws.specs.Alu.Accepted.{alu-accepted}
use Rattle.laws.specs.Demands.Terms.{Writer, adders, counters}
use Rattle.laws.specs.Demands.Writers.{adder_module, counter-module}

-- No module is one of them.
module_stays : (number : ℕ) → 16 ≤ number → withdrawn number ≡ false
unfolding withdrawn
module_stays number h =
    rw (ne_eqb number 4 (λ e. omega arith), ne_eqb number 7 (λ e. omega arith), ne_eqb number 12 (λ e. omega arith), ne_eqb number 15 (λ e. omega arith))

none-of-both : (xs ys : List Occurrence) → any_withdrawn xs ≡ false → any_withdrawn ys ≡ false → any_withdrawn (xs ++ ys) ≡ false
unfolding any_withdrawn
none-of-both [] ys e f = f
none-of-both (o ∷ xs) ys e f = go (withdrawn o.refers) e (none-of-both xs ys)
  where
    go : (b : Bool) → (b || any_withdrawn xs) ≡ false → (any_withdrawn xs ≡ false → any_withdrawn ys ≡ false → any_withdrawn (xs ++ ys) ≡ false)
        → (b || any_withdrawn (xs ++ ys)) ≡ false
    go true e rest = e
    go false e rest = rest e f

-- A file passes where each of its modules uses none.
abbrev pub Clean : Module → Type 0
Clean m = any_withdrawn m.occurrences ≡ false

clean-file : (place : ℕ) {ms : List Module} → All Clean ms → withdrawn_verdict place ms ≡ good
unfolding withdrawn_verdict
clean-file place none = refl
clean-file place (more clean rest) = rw clean (clean-file (suc place) rest)

clean-cells : (a b sum carry before n : ℕ) → any_withdrawn (adder_cells a b sum carry before n) ≡ false
unfolding any_withdrawn adder_cells withdrawn
clean-cells a b sum carry before zero = refl
clean-cells a b sum carry before (suc n) = clean-cells (suc a) (suc b) (suc sum) (suc carry) carry n

clean-adder : (n : ℕ) → All Clean (adder n)
unfolding adder ripple_adder any_withdrawn withdrawn
clean-adder n = more (clean-cells 1 (n + 1) (2 * n + 1) (3 * n + 1) 0 n) (more refl (more refl none))

clean_choice : (empty high low ands ors n : ℕ) → any_withdrawn (choose empty high low ands ors n) ≡ false
unfolding any_withdrawn choose withdrawn
clean_choice empty high low ands ors zero = refl
clean_choice empty high low ands ors (suc n) = clean_choice empty (suc high) (suc low) (suc ands) (suc ors) n

block-stays : (j : ℕ) → withdrawn (block_number j) ≡ false
unfolding block_number withdrawn
block-stays zero = refl
block-stays (suc j) = module_stays (33 + j) (omega arith)

clean-block : (j : ℕ) → Clean (block j)
unfolding block join_block any_withdrawn withdrawn
clean-block zero = refl
clean-block (suc j) = rw (block-stays (suc j)) (none-of-both (choose _ _ _ _ _ (suc j)) _ (clean_choice _ _ _ _ _ (suc j)) refl)

clean-blocks : (k : ℕ) → All Clean (blocks k)
unfolding blocks
clean-blocks zero = none
clean-blocks (suc k) = more (clean-block k) (clean-blocks k)

clean-parts : (j bits count below : ℕ) (ds : List Bool) → any_withdrawn (join_parts j bits count below ds) ≡ false
unfolding join_parts any_withdrawn
clean-parts j bits count below [] = refl
clean-parts j bits count below (false ∷ ds) = clean-parts (suc j) bits count below ds
clean-parts j bits count below (true ∷ ds) =
    rw (block-stays j) (none-of-both (choose _ _ _ _ _ count) _ (clean_choice _ _ _ _ _ count) (clean-parts (suc j) _ (suc j) _ ds))

clean-counter : (n : ℕ) → All Clean (counter n)
unfolding counter counter_module
clean-counter n = more (clean-parts 0 0 0 n (digits n)) (clean-blocks (length (digits n) - 1))

-- The propagate-generate adder and the ALU: rows of gates, the look-ahead over any steps, and modules that are the same at each width.
clean-row : (kind : ℕ) → withdrawn kind ≡ false → (net a b count : ℕ) → any_withdrawn (gate_row kind net a b count) ≡ false
unfolding any_withdrawn gate_row
clean-row kind stays net a b zero = refl
clean-row kind stays net a b (suc count) = rw stays (clean-row kind stays (suc net) (suc a) (suc b) count)

module _ (n : ℕ) where
  clean-ahead : (t : Tree) (s : ℕ) → any_withdrawn (ahead n t s) ≡ false
  unfolding ahead any_withdrawn withdrawn
  clean-ahead leaf s = refl
  clean-ahead (node x y z) s =
      none-of-both (ahead n x s) _ (clean-ahead x s)
      (none-of-both (ahead n y _) _ (clean-ahead y _) (none-of-both (ahead n z _) _ (clean-ahead z _) refl))

  clean-chain : (steps : List Step) (s : ℕ) → any_withdrawn (chain n steps s) ≡ false
  unfolding chain any_withdrawn withdrawn
  clean-chain [] s = refl
  clean-chain (over_one x ∷ steps) s = none-of-both (ahead n x s) _ (clean-ahead x s) (clean-chain steps (s + leaves x))
  clean-chain (over_two x y ∷ steps) s =
      none-of-both (ahead n x s) _ (clean-ahead x s)
      (none-of-both (ahead n y _) _ (clean-ahead y _) (clean-chain steps (s + leaves x + leaves y)))

clean_network : (n : ℕ) (steps : List Step) → All Clean (lookahead n steps ∷ carry_two ∷ carry_one ∷ [])
unfolding lookahead any_withdrawn withdrawn
clean_network n steps = more (clean-chain n steps 0) (more refl (more refl none))

clean_fast_module : (n : ℕ) → Clean (fast_module n)
unfolding fast_module any_withdrawn withdrawn
clean_fast_module n =
    none-of-both (gate_row 9 _ _ _ n) _ (clean-row 9 refl _ _ _ n)
    (none-of-both (gate_row 10 _ _ _ n) _ (clean-row 10 refl _ _ _ n) (clean-row 9 refl _ _ _ n))

clean_fast_adder : (n : ℕ) → All Clean (fast_adder n)
unfolding fast_adder fast_adder_over
clean_fast_adder n = more (clean_fast_module n) (clean_network n (steps n))

clean-copies : (lines net count : ℕ) → any_withdrawn (copies lines net count) ≡ false
unfolding copies copy_row any_withdrawn withdrawn
clean-copies lines net zero = refl
clean-copies lines net (suc count) = clean-copies lines (net + 6) count

clean-alu-cells : (n copied i count : ℕ) → any_withdrawn (cells n copied i count) ≡ false
unfolding cells any_withdrawn withdrawn
clean-alu-cells n copied i zero = refl
clean-alu-cells n copied i (suc count) = clean-alu-cells n copied (suc i) count

clean-alu_module : (n copied : ℕ) → Clean (alu_module n copied)
unfolding alu_module any_withdrawn withdrawn
clean-alu_module n copied =
    none-of-both (copies _ _ copied) _ (clean-copies _ _ copied)
    (none-of-both (cells n copied 0 n) _ (clean-alu-cells n copied 0 n) (clean-row 9 refl _ _ _ n))

clean-alu : (n : ℕ) → All Clean (alu n)
unfolding alu alu_over any_withdrawn withdrawn
clean-alu n = more (clean-alu_module n (copy_count n)) (more refl (more refl (clean_network n (steps n))))

-- A file that reads, is accepted and is clean passes the strict check.
strict_clean : (file : List ℕ) {ms : List Module} → read file ≡ holds ms → file_verdict ms ≡ good → All Clean ms → strict_verdict file ≡ good
unfolding strict_verdict
strict_clean file reads accepted clean = rw (reads, accepted) (clean-file 0 clean)

pub writers_pass : {modules : ℕ → List Module} → Writer modules → (n : ℕ) → 1 ≤ n → n ≤ 64 → strict_verdict (encode (modules n)) ≡ good
writers_pass adders n some most = let here = adder_module n some most in strict_clean _ here.reads here.accepted (clean-adder n)
writers_pass counters n some most = let here = counter-module n some most in strict_clean _ here.reads here.accepted (clean-counter n)

pub fast_adder-passes : (n : ℕ) → 1 ≤ n → n ≤ 64 → strict_verdict (encode (fast_adder n)) ≡ good
fast_adder-passes n some most = strict_clean _ (fast_adder-read-back n most) (fast_adder-accepted n some most) (clean_fast_adder n)

pub alu-passes : (n : ℕ) → 1 ≤ n → n ≤ 64 → strict_verdict (encode (alu n)) ≡ good
alu-passes n some most = strict_clean _ (alu-read-back n most) (alu-accepted n some most) (clean-alu n)
