-- Nets numbered one after the other, as the written adder numbers them: how many they are, and what they hold in an environment.
use Rattle.std.specs.Prelude.{◌≡◌, length, get_or, take, drop}
use Rattle.std.proofs.Math.Path.{refl, ap₂}
use Rattle.std.proofs.Common.{ap, ◌∙◌, add-zero, not-suc-le-zero, arith, drop-cons, eq-eqb, ne_eqb}
use mathlib.Core.List.{List, [], ◌∷◌}
use Prim.Native.Nat.{ℕ, zero, suc, ◌+◌, ◌<◌, ◌≤◌}
use Rattle.std.proofs.Math.Nat.{add-suc, suc-add}
use Rattle.meaning.specs.Evaluation.{Env, look, look_all, pairs}
use Rattle.meaning.specs.Adder.{up_from}

pub length-up_from : (first count : ℕ) → length (up_from first count) ≡ count
unfolding up_from
length-up_from first zero = refl
length-up_from first (suc n) = ap suc (length-up_from (suc first) n)

module _ {A : Type 0} (none : A) where
  -- A net that a binding gives is read there, any other behind it.
  pub look-here : (net : ℕ) (v : A) (env : Env A) → look none net (record { net = net; value = v } ∷ env) ≡ v
  unfolding look
  look-here net v env = rw (eq-eqb net net refl)

  pub look-past :
      (net other : ℕ) (v : A) (env : Env A)
      → (net ≡ other → ⊥)
      → look none net (record { net = other; value = v } ∷ env) ≡ look none net env
  unfolding look
  look-past net other v env h = rw (ne_eqb net other h)

  -- A run of nets below a bound reads alike in two environments where each net below it does.
  pub look_all-below :
      (bound first count : ℕ) (env env' : Env A)
      → first + count ≤ bound
      → ((net : ℕ) → net < bound → look none net env' ≡ look none net env)
      → look_all none (up_from first count) env' ≡ look_all none (up_from first count) env
  unfolding look_all up_from
  look_all-below bound first zero env env' fits same = refl
  look_all-below bound first (suc n) env env' fits same =
      ap₂ ◌∷◌ (same first (omega arith)) (look_all-below bound (suc first) n env env' (omega arith) same)

  -- The value of the i-th of a run of nets that are given values in order.
  pub look-pairs :
      (first i count : ℕ) (vs : List A)
      → i < count
      → look none (first + i) (pairs none (up_from first count) vs) ≡ get_or vs i none
  unfolding pairs up_from
  look-pairs first i zero vs h = absurd (not-suc-le-zero h)
  look-pairs first zero (suc n) [] h = rw (add-zero first) (look-here first none (pairs none (up_from (suc first) n) []))
  look-pairs first zero (suc n) (v ∷ vs) h = rw (add-zero first) (look-here first v (pairs none (up_from (suc first) n) vs))
  look-pairs first (suc i) (suc n) [] h =
      look-past (first + suc i) first none (pairs none (up_from (suc first) n) []) (omega arith)
      ∙ rw (add-suc first i, ← suc-add first i) (look-pairs (suc first) i n [] (omega arith))
  look-pairs first (suc i) (suc n) (v ∷ vs) h =
      look-past (first + suc i) first v (pairs none (up_from (suc first) n) vs) (omega arith)
      ∙ rw (add-suc first i, ← suc-add first i) (look-pairs (suc first) i n vs (omega arith))

  -- The values of a run within such a run.
  pub look_all-pairs :
      (first i n count : ℕ) (vs : List A)
      → i + n ≤ count
      → i + n ≤ length vs
      → look_all none (up_from (first + i) n) (pairs none (up_from first count) vs) ≡ take n (drop i vs)
  unfolding look_all up_from
  look_all-pairs first i zero count vs fits held = refl
  look_all-pairs first i (suc n) count vs fits held =
      rw (drop-cons vs i none (omega arith), ← add-suc first i)
      (ap₂ ◌∷◌
      (look-pairs first i count vs (omega arith))
      (look_all-pairs first (suc i) n count vs (omega arith) (omega arith)))
