-- What the blocks of a counter answer, by one induction over the level: each keeps the law.
use Prim.Native.Nat.{ℕ, zero, suc, ◌+◌, ◌*◌, ◌^◌, ◌≤◌}
use Rattle.std.specs.Prelude.{◌≡◌, refl, take, drop}
use mathlib.Core.List.{List, [], ◌∷◌, ◌++◌}
use Rattle.std.proofs.Common.{arith, le_refl, take-append-drop, eq-eqb, ne_eqb, le-ltb}
use Rattle.std.proofs.Math.Nat.{pow-suc}
use Rattle.std.proofs.Math.ListN.{length, length-append, length-take, length-drop}
use Rattle.meaning.specs.Syntax.{Module}
use Rattle.meaning.specs.Evaluation.{Meaning, look, look_all, pairs, apply, walk, run_module, run}
use Rattle.meaning.specs.Counter.{NOT, block_number, pair_block, join_block, block, blocks}
use Rattle.laws.specs.Counter.Nets.{look-row, holds-inputs}
use Rattle.laws.specs.Counter.Numbered.{block-number, at_block}
use Rattle.laws.specs.Counter.Law.{Law, single, chosen, both_empty, top_bit}
use Rattle.laws.specs.Counter.Join.{join-walk}

module _ {A : Type 0} (none : A) {gate_result : ℕ → List A → A} (law : Law gate_result) where
  -- What a block of level j gives: its count bits and last whether it is empty.
  pub record Answered (j : ℕ) (xs outs : List A) : Type 0 where
    pub bits : List A
    pub empty : A
    pub are : outs ≡ bits ++ (empty ∷ [])
    pub answers : law.Block j xs bits empty

  -- A number means the block of level j if on 2^j bits it gives what a block does.
  pub record MeansBlock (later : Meaning A) (j : ℕ) : Type 0 where
    pub gives : (xs : List A) → length xs ≡ 2 ^ j → Answered j xs (apply (single gate_result) later (block_number j) xs)

  -- One bit, two, and two halves.
  one_bit : (later : Meaning A) → MeansBlock later 0
  unfolding block_number
  one_bit later = record { gives = go }
    where
      go : (xs : List A) → length xs ≡ 1 → Answered 0 xs (gate_result NOT xs ∷ [])
      go [] n = absurd (omega arith)
      go (x ∷ y ∷ xs) n = absurd (omega arith)
      go (x ∷ []) n = record { bits = []; empty = gate_result NOT (x ∷ []); are = refl; answers = law.bit x }

  two-bits : (later : Meaning A) (xs : List A) → length xs ≡ 2 → Answered 1 xs (run_module none (single gate_result) later pair_block xs)
  unfolding run_module walk pairs look_all look
  two-bits later [] n = absurd (omega arith)
  two-bits later (x ∷ []) n = absurd (omega arith)
  two-bits later (x ∷ y ∷ z ∷ xs) n = absurd (omega arith)
  two-bits later (x ∷ y ∷ []) n = record { bits = _; empty = _; are = refl; answers = law.pair x y }

  two-halves : (later : Meaning A) (j : ℕ) → 1 ≤ j → MeansBlock later j → (xs ys : List A) → length xs ≡ 2 ^ j → length ys ≡ 2 ^ j
      → Answered (suc j) (xs ++ ys) (run_module none (single gate_result) later (join_block j) (xs ++ ys))
  unfolding run_module join_block
  two-halves later j some half xs ys nx ny =
      let low = half.gives xs nx in
      let high = half.gives ys ny in
      let joined = law.halves some ny low.answers high.answers in
      let bits = chosen gate_result high.empty high.bits low.bits ++ (top_bit gate_result high.empty low.empty ∷ []) in
      let empty = both_empty gate_result high.empty low.empty in
      record {
        bits = bits;
        empty = empty;
        are =
            look-row (j + 2) (omega (arith, length-append bits (empty ∷ []), law.block-count joined))
            (join-walk none gate_result later j _
            (record {
              low_bits = nx;
              high_bits = ny;
              low-answer = low.are;
              high-answer = high.are;
              low_count = law.block-count low.answers;
              high-count = law.block-count high.answers;
            })
            (holds-inputs (2 * 2 ^ j) (xs ++ ys) (omega (arith, length-append xs ys))));
        answers = joined;
      }

  block-answered : (later : Meaning A) (i : ℕ) → MeansBlock later i → (xs : List A) → length xs ≡ 2 ^ suc i
      → Answered (suc i) xs (run_module none (single gate_result) later (block i) xs)
  unfolding block
  block-answered later zero half xs n = two-bits later xs n
  block-answered later (suc j) half xs n =
      let q = 2 ^ suc j in
      rw (take-append-drop q xs) at
      (two-halves later (suc j) (omega arith) half (take q xs) (drop q xs) (omega (arith, length-take q xs, pow-suc 2 (suc j)))
      (omega (arith, length-drop q xs, pow-suc 2 (suc j))))

  -- A number finds the first module that has it.
  pub run-first : (m : Module) (ms : List Module) (number : ℕ) (vs : List A) → number ≡ m.number
      → run none (single gate_result) (m ∷ ms) number vs ≡ run_module none (single gate_result) (run none (single gate_result) ms) m vs
  unfolding run
  run-first m ms number vs e = rw (eq-eqb number m.number e)

  run_past : (vs : List A) (m : Module) (ms : List Module) (number : ℕ) → (number ≡ m.number → ⊥)
      → run none (single gate_result) (m ∷ ms) number vs ≡ run none (single gate_result) ms number vs
  unfolding run
  run_past vs m ms number e = rw (ne_eqb number m.number e)

  refer_block : (later : Meaning A) (i : ℕ) (vs : List A)
      → apply (single gate_result) later (block_number (suc i)) vs ≡ later (33 + i) vs
  unfolding block_number
  refer_block later i vs = rw (le-ltb (33 + i) 16 (omega arith))

  -- Every level up to the largest of the blocks.
  pub blocks-answer : (j k : ℕ) → j ≤ k → MeansBlock (run none (single gate_result) (blocks k)) j
  blocks-answer zero k h = one_bit _
  blocks-answer (suc i) k h =
      record {
        gives = λ xs n. rw (
          refer_block (run none (single gate_result) (blocks k)) i xs,
          at_block (λ ms number. run none (single gate_result) ms number xs) (run_past xs) k i h,
          run-first (block i) (blocks i) (33 + i) xs (omega (arith, block-number i)),
        )
            (block-answered (run none (single gate_result) (blocks i)) i (blocks-answer i i (le_refl i)) xs n);
      }
