-- On known bits the written adder adds: its outputs are known, one more than the width, and as a number they are the carry in plus
-- the two numbers.
use Rattle.std.specs.Prelude.{◌≡◌, refl, Bool, true, false, List, [], ◌∷◌, ◌++◌, map, ℕ, suc, ◌+◌, ◌*◌, length}
use Rattle.std.proofs.Common.{ap, ◌∙◌, arith}
use Rattle.meaning.specs.Values.{Val, known}
use Rattle.meaning.specs.Gates.{gate, gates}
use Rattle.meaning.specs.Evaluation.{evaluate}
use Rattle.meaning.specs.Adder.{adder, bit, binary}
use Rattle.meaning.specs.Heval.{happly}
use Rattle.laws.specs.Known.{evaluate-on-known}
use Rattle.laws.specs.Adder.Ripple.{ripple, full_sum, full_carry, length-of-ripple}
use Rattle.laws.specs.Adder.Outputs.{adder-outputs}

-- A gate on bits.
abbrev pub gate_bit : ℕ → List Bool → Bool
gate_bit number bits = (gate number).function bits

-- The chain of full adders on bits.
unfoldable pub sum_bits : Bool → (xs ys : List Bool) → List Bool
sum_bits = ripple (full_sum gate_bit) (full_carry gate_bit)

-- Sum and twice the carry are as much as the three bits.
full-adder-adds : (x y z : Bool) → bit (full_sum gate_bit x y z) + 2 * bit (full_carry gate_bit x y z) ≡ bit x + bit y + bit z
unfolding gate gates
full-adder-adds true true true = refl
full-adder-adds true true false = refl
full-adder-adds true false true = refl
full-adder-adds true false false = refl
full-adder-adds false true true = refl
full-adder-adds false true false = refl
full-adder-adds false false true = refl
full-adder-adds false false false = refl

pub binary-of-sum_bits :
    (c : Bool) (xs ys : List Bool) → length xs ≡ length ys → binary (sum_bits c xs ys) ≡ bit c + binary xs + binary ys
unfolding sum_bits ripple binary
binary-of-sum_bits c [] [] same = omega arith
binary-of-sum_bits c [] (y ∷ ys) same = omega arith
binary-of-sum_bits c (x ∷ xs) [] same = omega arith
binary-of-sum_bits c (x ∷ xs) (y ∷ ys) same =
    omega (arith, full-adder-adds x y c, binary-of-sum_bits (full_carry gate_bit x y c) xs ys (omega arith))

pub length-of-sum_bits :
    (c : Bool) (xs ys : List Bool) → length xs ≡ length ys → length (sum_bits c xs ys) ≡ suc (length xs)
unfolding sum_bits
length-of-sum_bits = length-of-ripple (full_sum gate_bit) (full_carry gate_bit)

pub adder-on-known :
    (n : ℕ) (c : Bool) (xs ys : List Bool)
    → length xs ≡ n
    → length ys ≡ n
    → evaluate (adder n) 18 (known c ∷ map known (xs ++ ys)) ≡ map known (sum_bits c xs ys)
unfolding happly sum_bits
adder-on-known n c xs ys xs-fits ys-fits =
    evaluate-on-known (adder n) 18 (c ∷ (xs ++ ys)) ∙ ap (map known) (adder-outputs gate_bit false n c xs ys xs-fits ys-fits)

-- Values that are known bits, one more than there are bits of either number, and are the binary sum with carry.
pub record BinarySum (c : Bool) (xs ys : List Bool) (outputs : List Val) : Type 0 where
  pub bits : List Bool
  pub known-bits : outputs ≡ map known bits
  pub count : length bits ≡ suc (length xs)
  pub sum : binary bits ≡ bit c + binary xs + binary ys

-- On known bits the evaluation of module 18 is the binary sum with carry.
pub adder-adds :
    (n : ℕ) (c : Bool) (xs ys : List Bool)
    → length xs ≡ n
    → length ys ≡ n
    → BinarySum c xs ys (evaluate (adder n) 18 (known c ∷ map known (xs ++ ys)))
adder-adds n c xs ys xs-fits ys-fits =
    record {
      bits = sum_bits c xs ys;
      known-bits = adder-on-known n c xs ys xs-fits ys-fits;
      count = length-of-sum_bits c xs ys (omega arith);
      sum = binary-of-sum_bits c xs ys (omega arith);
    }
