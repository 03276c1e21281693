-- `gates::kind_of` meets its contract: each arm gives what stands in the tables of the gates and their rules.
use Prim.Native.Nat.{ℕ, zero, suc, ◌+◌, ◌-◌, ◌≤◌, ◌<◌}
use mathlib.Core.Path.{◌≡◌, refl, subst}
use native.Mathlib.Omega.{arith}
use borrow.Author.Rules.{rules as needs}
use borrow.Author.Tests.{le-ltb}
use Rattle.meaning.specs.Gates.{gate, gates}
use Rattle.gates.specs.Kind.{kind_of, rules}
use Rattle.gates.specs.declared.Kind.TheVariants.{Gate}
use Rattle.gates.specs.declared.Rule.TheVariants.{Nand, Or, And, Nor}
use Rattle.gates.proofs.kind_of.Statement.{statement}
use Rattle.gates.proofs.kind_of.Tie as tie

-- What holds of numbers in a row, from k on,
abbrev Row : (ℕ → Type 0) → ℕ → ℕ → Type 0
Row P zero k = Unit
Row P (suc count) k = P k × Row P count (suc k)

-- holds of each number in their range.
family : (P : ℕ → Type 0) (count k : ℕ) → Row P count k → (n : ℕ) → k ≤ n → n < k + count → P n
family P zero k row n low high = absurd (omega arith)
family P (suc count) k row n low high =
    go (n - k) (omega arith) (λ more. family P count (suc k) row.1 n more (omega arith))
  where
    go : (j : ℕ) → n ≡ k + j → (suc k ≤ n → P n) → P n
    go zero e later = let same : k ≡ n = omega arith in subst P same row.0
    go (suc j) e later = later (omega arith)

pub kind_of_spec : {M : Type 1} → statement M
unfolding kind_of rules gate gates
kind_of_spec =
    tie.close
    (tie.spec
    (λ c. search needs)
    (λ c. search needs)
    (λ c. rw c.in-0.is)
    (λ c. rw c.in-8.is)
    (λ c. rw c.in-9.is)
    (λ c. family (λ n. Gate Nand n ≡ kind_of n) 4 1 (refl, (refl, (refl, (refl, tt)))) _ (omega arith) (omega arith))
    (λ c. family (λ n. Gate Or (n - 3) ≡ kind_of n) 3 5 (refl, (refl, (refl, tt))) _ (omega arith) (omega arith))
    (λ c. family (λ n. Gate And (n - 8) ≡ kind_of n) 3 10 (refl, (refl, (refl, tt))) _ (omega arith) (omega arith))
    (λ c. family (λ n. Gate Nor (n - 11) ≡ kind_of n) 3 13 (refl, (refl, (refl, tt))) _ (omega arith) (omega arith))
    (λ c. simp (le-ltb _ 16 c.in_default.if-n-lt16-own.false)))
