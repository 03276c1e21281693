-- The table of docs/COUNTER.md: gates and delay of the counter at each width from 1 to 64, read off the laws for every width.
use Rattle.std.specs.Prelude.{ℕ, suc, ◌+◌, ◌*◌, ◌-◌, ◌^◌, ◌≤◌, ◌<◌, max, ◌⊎◌, ◌≡◌, refl, Bool, true, false, cond, ◌&&◌, List, [], ◌∷◌, eqb, length, get_or}
use Rattle.std.proofs.Common.{inl, inr, ◌∙◌, arith, eqb-true}
use Rattle.std.proofs.Math.Bool.{and-eq-true_iff}
use Rattle.std.proofs.lemmas.Bool.{eqb-false}
use Rattle.meaning.specs.Figures.{gate_count, delay}
use Rattle.meaning.specs.Counter.{digits_within, digits, counter}
use Rattle.laws.specs.Counter.Digits.{power_below, below-digits, digits_fewest}
use Rattle.laws.specs.Counter.Levels.{at_parts}
use Rattle.laws.specs.Counter.Reached.{part_gates, gates-of-counter}
use Rattle.laws.specs.Counter.Signals.{either_side}
use Rattle.laws.specs.Counter.Late.{counter-delay_power, counter-delay-between}
use Rattle.laws.specs.Counter.Widths.{every_width, at_width}

-- From width 1 on.
abbrev pub gates_by_width : List ℕ
gates_by_width =
    1 ∷ 2 ∷ 5 ∷ 8 ∷ 11 ∷ 14 ∷ 17 ∷ 22 ∷ 25 ∷ 28 ∷ 31 ∷ 36 ∷ 39 ∷ 42 ∷ 45 ∷ 52
    ∷ 55 ∷ 58 ∷ 61 ∷ 66 ∷ 69 ∷ 72 ∷ 75 ∷ 82 ∷ 85 ∷ 88 ∷ 91 ∷ 96 ∷ 99 ∷ 102 ∷ 105 ∷ 114
    ∷ 117 ∷ 120 ∷ 123 ∷ 128 ∷ 131 ∷ 134 ∷ 137 ∷ 144 ∷ 147 ∷ 150 ∷ 153 ∷ 158 ∷ 161 ∷ 164 ∷ 167 ∷ 176
    ∷ 179 ∷ 182 ∷ 185 ∷ 190 ∷ 193 ∷ 196 ∷ 199 ∷ 206 ∷ 209 ∷ 212 ∷ 215 ∷ 220 ∷ 223 ∷ 226 ∷ 229 ∷ 240 ∷ []

abbrev pub delay_by_width : List ℕ
delay_by_width =
    1 ∷ 2 ∷ 3 ∷ 4 ∷ 5 ∷ 5 ∷ 5 ∷ 6 ∷ 7 ∷ 7 ∷ 7 ∷ 7 ∷ 7 ∷ 7 ∷ 7 ∷ 8
    ∷ 9 ∷ 9 ∷ 9 ∷ 9 ∷ 9 ∷ 9 ∷ 9 ∷ 9 ∷ 9 ∷ 9 ∷ 9 ∷ 9 ∷ 9 ∷ 9 ∷ 9 ∷ 10
    ∷ 11 ∷ 11 ∷ 11 ∷ 11 ∷ 11 ∷ 11 ∷ 11 ∷ 11 ∷ 11 ∷ 11 ∷ 11 ∷ 11 ∷ 11 ∷ 11 ∷ 11 ∷ 11
    ∷ 11 ∷ 11 ∷ 11 ∷ 11 ∷ 11 ∷ 11 ∷ 11 ∷ 11 ∷ 11 ∷ 11 ∷ 11 ∷ 11 ∷ 11 ∷ 11 ∷ 11 ∷ 12 ∷ []

abbrev pub gates_at : ℕ → ℕ
gates_at n = get_or gates_by_width (n - 1) 0

abbrev pub delay_at : ℕ → ℕ
delay_at n = get_or delay_by_width (n - 1) 0

pub record Figures (n : ℕ) : Type 0 where
  pub gates : gate_count (counter n) 32 ≡ gates_at n
  pub max_delay : delay (counter n) 32 ≡ delay_at n

-- The level of the highest part, and its power of two.
abbrev highest : ℕ → ℕ
highest n = length (digits n) - 1

module _ (n : ℕ) (some : 1 ≤ n) where
  some-digit : length (digits n) ≡ suc (highest n)
  some-digit = omega (arith, power_below 0 (length (digits n)) (omega (arith, below-digits n)))

  power_within : (n < 2 ^ highest n) ⊎ (2 ^ highest n ≤ n) → 2 ^ highest n ≤ n
  power_within (inl less) = absurd (omega (arith, some-digit, digits_fewest n (highest n) less))
  power_within (inr h) = h

  delay-by_power : (b : Bool) → eqb n (2 ^ highest n) ≡ b
      → delay (counter n) 32 ≡ cond b (max 1 (2 * highest n)) (2 * highest n + 1)
  delay-by_power true e = counter-delay_power n (highest n) (eqb-true n (2 ^ highest n) e)
  delay-by_power false e =
      let other = eqb-false n (2 ^ highest n) e in
      counter-delay-between n (highest n) (omega (arith, power_within (either_side n (2 ^ highest n)))) (rw some-digit at (below-digits n))

delay_of : ℕ → ℕ
delay_of n = cond (eqb n (2 ^ highest n)) (max 1 (2 * highest n)) (2 * highest n + 1)

delay-of-counter : (n : ℕ) → 1 ≤ n → delay (counter n) 32 ≡ delay_of n
unfolding delay_of
delay-of-counter n some = delay-by_power n some (eqb n (2 ^ highest n)) refl

agrees : ℕ → Bool
agrees n = eqb (at_parts part_gates 0 0 (digits n)) (gates_at n) && eqb (delay_of n) (delay_at n)

every-agrees : every_width agrees 64 ≡ true
unfolding every_width agrees delay_of at_parts part_gates digits_within digits
every-agrees = refl

pub counter-table : (n : ℕ) → 1 ≤ n → n ≤ 64 → Figures n
unfolding agrees
counter-table n some most =
    let both = (and-eq-true_iff (eqb (at_parts part_gates 0 0 (digits n)) (gates_at n)) _).0 (at_width agrees 64 every-agrees n some most) in
    record { gates = gates-of-counter n ∙ eqb-true _ _ both.0; max_delay = delay-of-counter n some ∙ eqb-true _ _ both.1 }
