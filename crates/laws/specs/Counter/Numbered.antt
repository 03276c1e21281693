-- The blocks by their numbers: whatever takes the first module that has a number finds each block, in front of the smaller ones. And
-- how many inputs and outputs each has.
use Prim.Native.Nat.{ℕ, zero, suc, ◌+◌, ◌*◌, ◌^◌, ◌<◌}
use Rattle.std.specs.Prelude.{◌≡◌, Bool, List, [], ◌∷◌, length}
use Rattle.std.proofs.Math.Path.{refl}
use Rattle.std.proofs.Common.{◌∙◌, pow-suc, arith}
use Rattle.std.proofs.Math.Bool.{true, false}
use Rattle.std.proofs.Math.Dec.{eqb}
use borrow.Author.Tests.{eqb-true, eqb-false}
use Rattle.meaning.specs.Syntax.{Module}
use Rattle.meaning.specs.Counter.{join_block, block, blocks}
use Rattle.laws.specs.Adder.Nets.{length-up_from}

pub block-number : (j : ℕ) → (block j).number ≡ 33 + j
unfolding block join_block
block-number zero = refl
block-number (suc j) = refl

pub block-inputs : (i : ℕ) → length (block i).inputs ≡ 2 ^ suc i
unfolding block join_block
block-inputs zero = refl
block-inputs (suc j) = length-up_from 0 (2 * 2 ^ suc j) ∙ omega (arith, pow-suc 2 (suc j))

pub block-outputs : (i : ℕ) → length (block i).outputs ≡ i + 2
unfolding block join_block
block-outputs zero = refl
block-outputs (suc j) = length-up_from _ (suc j + 2)

module _ {R : Type 0} (figure : List Module → ℕ → R)
    (past : (m : Module) (ms : List Module) (x : ℕ) → (x ≡ m.number → ⊥) → figure (m ∷ ms) x ≡ figure ms x) where
  pub at_block : (k i : ℕ) → i < k → figure (blocks k) (33 + i) ≡ figure (block i ∷ blocks i) (33 + i)
  unfolding blocks
  at_block zero i h = absurd (omega arith)
  at_block (suc k) i h = go (eqb i k) refl (λ less. at_block k i less)
    where
      go : (b : Bool) → eqb i k ≡ b → (i < k → figure (blocks k) (33 + i) ≡ figure (block i ∷ blocks i) (33 + i))
          → figure (block k ∷ blocks k) (33 + i) ≡ figure (block i ∷ blocks i) (33 + i)
      go true e smaller = rw (eqb-true i k e)
      go false e smaller =
          let other = eqb-false i k e in
          past (block k) (blocks k) (33 + i) (λ same. other (omega (arith, block-number k))) ∙ smaller (omega arith)

  -- A number that no block has.
  pub past-blocks : (k x : ℕ) → ((i : ℕ) → i < k → x ≡ 33 + i → ⊥) → figure (blocks k) x ≡ figure [] x
  unfolding blocks
  past-blocks zero x other = refl
  past-blocks (suc k) x other =
      past (block k) (blocks k) x (λ same. other k (omega arith) (omega (arith, block-number k)))
      ∙ past-blocks k x (λ i h. other i (omega arith))
