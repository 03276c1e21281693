-- The counter's shape: at every width number 32, as many inputs as bits and as many outputs as the width has binary digits, the
-- fewest that can write it.
use Rattle.std.specs.Prelude.{ℕ, ◌≤◌, ◌≡◌, refl, Bool, List, length}
use Rattle.std.proofs.Common.{arith}
use Rattle.meaning.specs.Boxlist.{box, assoc}
use Rattle.meaning.specs.Adder.{binary}
use Rattle.meaning.specs.Counter.{digits, last_count, counter_module, counter}
use Rattle.laws.specs.Adder.Nets.{length-up_from}
use Rattle.laws.specs.Counter.Digits.{binary-below, digits_fewest}

-- The module of number 32 is the first.
pub counter-first : (n : ℕ) → assoc 32 (counter n) ≡ box (counter_module n)
unfolding assoc counter counter_module
counter-first n = refl

pub counter-inputs : (n : ℕ) → length (counter_module n).inputs ≡ n
unfolding counter_module
counter-inputs n = length-up_from 0 n

pub counter-outputs : (n : ℕ) → length (counter_module n).outputs ≡ length (digits n)
unfolding counter_module
counter-outputs n = length-up_from (last_count 0 0 n (digits n)) (length (digits n))

-- No fewer bits can be read as n.
pub counter-outputs_fewest : (n : ℕ) (bs : List Bool) → binary bs ≡ n → length (counter_module n).outputs ≤ length bs
counter-outputs_fewest n bs reads =
    omega (arith, counter-outputs n, digits_fewest n (length bs) (omega (arith, binary-below bs)))
