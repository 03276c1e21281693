-- The three values, and the numbers that stand for them.
use Rattle.std.specs.Prelude.{ℕ, zero, suc, ◌≤◌, true, false, ◌≡◌, refl}
use Rattle.std.proofs.Common.{ap, ◌∙◌, arith, lit≤}
use Rattle.meaning.specs.Values.{Val, known, un, value, code}

-- What holds at each of the three values holds at all.
abbrev pub Each : (Val → Type 0) → Type 0
Each P = P (known false) × P (known true) × P un

pub each : (P : Val → Type 0) → Each P → (v : Val) → P v
each P h (known false) = h.0
each P h (known true) = h.1
each P h un = h.2

-- The same of three at once.
pub each_three : (P : Val → Val → Val → Type 0) → Each (λ u. Each (λ v. Each (P u v))) → (u v w : Val) → P u v w
each_three P h u v w = each (P u v) (each (λ v. Each (P u v)) (each (λ u. Each (λ v. Each (P u v))) h u) v) w

pub value-of-code : (v : Val) → value (code v) ≡ v
value-of-code = each (λ v. value (code v) ≡ v) (refl, refl, refl)

pub code-of-value : (n : ℕ) → n ≤ 2 → code (value n) ≡ n
code-of-value zero h = refl
code-of-value (suc zero) h = refl
code-of-value (suc (suc zero)) h = refl
code-of-value (suc (suc (suc n))) h = absurd (omega arith)

-- A number that is the code of a value is 0, 1 or 2,
pub is-small : (v : Val) {n : ℕ} → n ≡ code v → n ≤ 2
is-small v e = omega (arith, each (λ v. code v ≤ 2) (lit≤ tt, lit≤ tt, lit≤ tt) v)

-- and stands for that value.
pub stands_for : (v : Val) {n : ℕ} → n ≡ code v → value n ≡ v
stands_for v e = ap value e ∙ value-of-code v
