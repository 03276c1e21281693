-- The delay of the written adder: arrivals are its outputs on times, so they are the chain of full adders on times. By unit delay the
-- first carry arrives at 3 and each further one 2 later, so that the last arrives at 2n+1 and no sum after it.
use Rattle.std.specs.Prelude.{◌≡◌, List, ◌∷◌, ◌++◌, ℕ, zero, suc, ◌+◌, ◌*◌, ◌≤◌, length, replicate}
use Rattle.std.proofs.Common.{ap, ◌∙◌, arith}
use Rattle.std.proofs.lemmas.List.{length-replicate, replicate-append-replicate}
use Rattle.meaning.specs.Boxlist.{assoc}
use Rattle.meaning.specs.Figures.{largest, arrivals, input_count, delay_by, delay}
use Rattle.meaning.specs.Adder.{up_from, ripple_adder, adder}
use Rattle.laws.specs.Adder.Nets.{length-up_from}
use Rattle.laws.specs.Adder.Ripple.{ripple, full_sum, full_carry}
use Rattle.laws.specs.Adder.Outputs.{adder-outputs}

-- When a gate's net arrives, for any delays of the kinds.
abbrev pub arrival : (delay : ℕ → ℕ) → ℕ → List ℕ → ℕ
arrival delay kind times = delay kind + largest times

adder-inputs : (n : ℕ) → replicate {A = ℕ} (input_count (assoc 18 (adder n))) 0 ≡ 0 ∷ (replicate n 0 ++ replicate n 0)
unfolding assoc adder ripple_adder
adder-inputs n =
    let count : length (up_from 0 (2 * n + 1)) ≡ suc (n + n) = length-up_from 0 (2 * n + 1) ∙ omega arith in
    rw (count, replicate-append-replicate)

pub adder-delay_by :
    (delay : ℕ → ℕ) (n : ℕ)
    → delay_by delay (adder n) 18
    ≡ largest (ripple (full_sum (arrival delay)) (full_carry (arrival delay)) 0 (replicate n 0) (replicate n 0))
unfolding delay_by arrivals
adder-delay_by delay n =
    rw (adder-inputs n)
    (ap largest
    (adder-outputs (arrival delay) 0 n 0 (replicate n 0) (replicate n 0) (length-replicate n 0) (length-replicate n 0)))

abbrev unit : ℕ → List ℕ → ℕ
unit = arrival (λ kind. 1)

-- The full adder on inputs that arrive at 0 and a carry that arrives later.
sum-arrival : (t : ℕ) → 1 ≤ t → full_sum unit 0 0 t ≡ t + 1
unfolding largest
sum-arrival t later = omega arith

carry-arrival : (t : ℕ) → 1 ≤ t → full_carry unit 0 0 t ≡ t + 2
unfolding largest
carry-arrival t later = omega arith

latest-arrival :
    (n t : ℕ) → 1 ≤ t → largest (ripple (full_sum unit) (full_carry unit) t (replicate n 0) (replicate n 0)) ≡ t + 2 * n
unfolding largest ripple
latest-arrival zero t later = omega arith
latest-arrival (suc n) t later =
    rw (carry-arrival t later, sum-arrival t later) (omega (arith, latest-arrival n (t + 2) (omega arith)))

pub adder-delay : (n : ℕ) → 1 ≤ n → delay (adder n) 18 ≡ 2 * n + 1
unfolding delay largest ripple
adder-delay zero some = omega arith
adder-delay (suc n) some = adder-delay_by (λ kind. 1) (suc n) ∙ omega (arith, latest-arrival n 3 (omega arith))
