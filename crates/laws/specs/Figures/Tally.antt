-- The sum of the tally is the gate count.
use Rattle.std.specs.Prelude.{ℕ, zero, suc, ◌+◌, ◌≤◌, ◌<◌, ◌≡◌, refl, Bool, true, false, cond, List, [], ◌∷◌, map, eqb}
use Rattle.std.proofs.Common.{arith, ltb-true, eqb-true, ne_eqb}
use Rattle.std.proofs.lemmas.Bool.{eqb-false}
use Rattle.meaning.specs.Syntax.{Module}
use Rattle.meaning.specs.Figures.{gate_count, kind_count, tally}
use Rattle.meaning.specs.Adder.{up_from}
use Rattle.laws.specs.Figures.Weights.{weights_together}

unfoldable pub total : List ℕ → ℕ
total [] = 0
total (x ∷ xs) = x + total xs

pub total-both :
    {A : Type 0} (f g : A → ℕ) (xs : List A) → total (map (λ x. f x + g x) xs) ≡ total (map f xs) + total (map g xs)
unfolding total
total-both f g [] = omega arith
total-both f g (x ∷ xs) = omega (arith, total-both f g xs)

pub total-none : {A : Type 0} (xs : List A) → total (map (λ x. 0) xs) ≡ 0
unfolding total
total-none [] = refl
total-none (x ∷ xs) = omega (arith, total-none xs)

-- A gate counts in the place of its own kind alone.
abbrev is_kind : (other kind : ℕ) → ℕ
is_kind other kind = cond (eqb other kind) 1 0

counted-before : (first count other : ℕ) → other < first → total (map (is_kind other) (up_from first count)) ≡ 0
unfolding total up_from
counted-before first zero other l = refl
counted-before first (suc n) other l =
    rw (ne_eqb other first (λ e. omega arith)) (omega (arith, counted-before (suc first) n other (omega arith)))

counted-once : (first count other : ℕ) → first ≤ other → other < first + count → total (map (is_kind other) (up_from first count)) ≡ 1
unfolding total up_from
counted-once first zero other l h = absurd (omega arith)
counted-once first (suc n) other l h = go (eqb other first) refl (counted-once (suc first) n other)
  where
    go :
        (b : Bool)
        → eqb other first ≡ b
        → (suc first ≤ other → other < suc first + n → total (map (is_kind other) (up_from (suc first) n)) ≡ 1)
        → cond b 1 0 + total (map (is_kind other) (up_from (suc first) n)) ≡ 1
    go true e rest = omega (arith, counted-before (suc first) n other (omega (arith, eqb-true other first e)))
    go false e rest =
        let apart : ¬ (other ≡ first) = eqb-false other first e in
        omega (arith, rest (omega arith) (omega arith))

-- A count of one kind, or of all.
data Counts : Type 0 where
  of : ℕ → Counts
  all : Counts

abbrev weight_of : Counts → ℕ → ℕ
weight_of (of kind) other = is_kind other kind
weight_of all other = 1

pub total-of-tally : (ms : List Module) (number : ℕ) → total (tally ms number) ≡ gate_count ms number
unfolding tally kind_count gate_count up_from
total-of-tally ms number =
    weights_together weight_of (λ f. total (map (λ kind. f (of kind)) (up_from 0 16)) ≡ f all) ms number
    (record {
      none = total-none (up_from 0 16);
      both = λ f g p q. omega (arith, total-both (λ kind. f (of kind)) (λ kind. g (of kind)) (up_from 0 16));
      one = λ kind g. counted-once 0 16 kind (omega arith) (omega (arith, ltb-true kind 16 g));
    })
