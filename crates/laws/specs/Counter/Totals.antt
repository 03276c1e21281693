-- Sums over the occurrences of a counter, whatever each counts as: gates reached, expanded size, driven nets, numbers in the file.
-- A reference counts by its block's level alone, so that the sum over module 32 is one over the digits 1 of the width.
use Prim.Native.Nat.{ℕ, zero, suc, ◌+◌, ◌*◌, ◌-◌, ◌^◌, ◌≤◌}
use Rattle.std.specs.Prelude.{◌≡◌, Bool, true, false, length}
use Rattle.std.proofs.Math.Path.{refl}
use mathlib.Core.List.{List, [], ◌∷◌, ◌++◌}
use native.Mathlib.Omega.{arith}
use Rattle.std.proofs.Common.{length-append}
use Rattle.meaning.specs.Syntax.{Occurrence}
use Rattle.meaning.specs.Gates.{is_gate}
use Rattle.meaning.specs.Adder.{up_from}
use Rattle.meaning.specs.Counter.{AND, OR, XOR, gate_on, choose, block_number, join_block, join_parts}
use Rattle.laws.specs.Adder.Nets.{length-up_from}
use Rattle.laws.specs.Counter.Levels.{at_parts}

unfoldable pub total : {A : Type 0} → (A → ℕ) → List A → ℕ
total weight [] = 0
total weight (x ∷ xs) = weight x + total weight xs

total-append : {A : Type 0} (weight : A → ℕ) (xs ys : List A) → total weight (xs ++ ys) ≡ total weight xs + total weight ys
unfolding total
total-append weight [] ys = omega arith
total-append weight (x ∷ xs) ys = rw (total-append weight xs ys) (omega arith)

-- What an occurrence counts as: so much at any gate, and by the level at a block of level k or below.
pub record Weighs (weight : Occurrence → ℕ) (k gate : ℕ) (level : ℕ → ℕ) : Type 0 where
  pub gates : (net kind a b : ℕ) → is_gate kind ≡ true → weight (gate_on net kind a b) ≡ gate
  pub blocks : (j : ℕ) → j ≤ k → (drives takes : List ℕ) → length drives ≡ suc j → length takes ≡ 2 ^ j
      → weight (record { drives = drives; refers = block_number j; takes = takes }) ≡ level j

-- The two rows of nets on which a part's block answers.
pub length-of-rows : (first second count j : ℕ) → count ≤ j → length (up_from first count ++ up_from second (suc j - count)) ≡ suc j
length-of-rows first second count j short =
    omega (
      arith,
      length-append (up_from first count) (up_from second (suc j - count)),
      length-up_from first count,
      length-up_from second (suc j - count),
    )

module _ {weight : Occurrence → ℕ} {k gate : ℕ} {level : ℕ → ℕ} (w : Weighs weight k gate level) where
  total-of-choose : (e h l a o n : ℕ) → total weight (choose e h l a o n) ≡ 2 * n * gate
  unfolding total choose
  total-of-choose e h l a o zero = omega arith
  total-of-choose e h l a o (suc n) =
      rw (w.gates a AND e l refl, w.gates o OR h a refl, total-of-choose e (suc h) (suc l) (suc a) (suc o) n) (omega arith)

  -- The block of level j + 1 from two of level j.
  pub total-of-join : (j : ℕ) → j ≤ k → total weight (join_block j).occurrences ≡ 2 * level j + 2 * suc j * gate
  unfolding total join_block
  total-of-join j h =
      let low = 2 * 2 ^ j in
      let high = low + suc j in
      let ands = high + suc j in
      let ors = ands + j in
      let top = ors + j in
      rw (
        w.blocks j h (up_from low (suc j)) (up_from 0 (2 ^ j)) (length-up_from low (suc j)) (length-up_from 0 (2 ^ j)),
        w.blocks j h (up_from high (suc j)) (up_from (2 ^ j) (2 ^ j)) (length-up_from high (suc j)) (length-up_from (2 ^ j) (2 ^ j)),
        total-append weight (choose (high + j) high low ands ors j),
        total-of-choose (high + j) high low ands ors j,
        w.gates (suc top) AND (high + j) (low + j) refl,
        w.gates top XOR (high + j) (suc top) refl,
      )
      (omega arith)

  -- Module 32, part after part.
  pub total-of-parts : (j bits count below : ℕ) (ds : List Bool) → count ≤ j → j + length ds ≤ suc k
      → total weight (join_parts j bits count below ds) ≡ at_parts (λ i c. level i + 2 * c * gate) j count ds
  unfolding total join_parts at_parts
  total-of-parts j bits count below [] short h = refl
  total-of-parts j bits count below (false ∷ ds) short h = total-of-parts (suc j) bits count below ds (omega arith) (omega arith)
  total-of-parts j bits count below (true ∷ ds) short h =
      let high = below + count in
      let ands = high + count in
      let ors = ands + count in
      let drives = up_from high count ++ up_from (ors + count) (suc j - count) in
      rw (
        w.blocks j (omega arith) drives (up_from bits (2 ^ j)) (length-of-rows high (ors + count) count j short)
            (length-up_from bits (2 ^ j)),
        total-append weight (choose (ors + j) high below ands ors count),
        total-of-choose (ors + j) high below ands ors count,
        total-of-parts (suc j) (bits + 2 ^ j) (suc j) ors ds (omega arith) (omega arith),
      )
      (omega arith)
