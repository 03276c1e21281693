-- How early a sum is known: the lowest outputs of the written adder depend on the carry in and the lowest values of both numbers
-- alone. So where those are known, the lowest sum bits are known and are those of the true sum, whatever the upper bits will be.
use Rattle.std.specs.Prelude.{◌≡◌, Bool, false, List, ◌∷◌, ◌++◌, map, ℕ, suc, ◌+◌, length, take}
use Rattle.std.proofs.Common.{ap, ◌∙◌, arith}
use Rattle.std.proofs.lemmas.List.{map-append, length-map}
use Rattle.meaning.specs.Values.{Val, known}
use Rattle.meaning.specs.Gates.{gate_value}
use Rattle.meaning.specs.Evaluation.{run, evaluate}
use Rattle.meaning.specs.Adder.{adder, bit, binary}
use Rattle.laws.specs.Adder.Ripple.{full_sum, full_carry, lowest-of-ripple}
use Rattle.laws.specs.Adder.Outputs.{one_output, adder-outputs}
use Rattle.laws.specs.Adder.Sum.{sum_bits, length-of-sum_bits, binary-of-sum_bits, adder-on-known}

-- For values of any kind.
pub lowest-outputs : {A : Type 0} (gate_result : ℕ → List A → A) (none : A) (n k : ℕ) (c : A) (vs ws vs' ws' : List A)
    → length vs ≡ n → length ws ≡ n → length vs' ≡ n → length ws' ≡ n
    → take k vs ≡ take k vs' → take k ws ≡ take k ws'
    → take k (run none (one_output gate_result) (adder n) 18 (c ∷ (vs ++ ws)))
    ≡ take k (run none (one_output gate_result) (adder n) 18 (c ∷ (vs' ++ ws')))
lowest-outputs gate_result none n k c vs ws vs' ws' fits-v fits-w fits-v' fits-w' same-v same_w =
    let sum = full_sum gate_result in
    let carry = full_carry gate_result in
    rw (
      adder-outputs gate_result none n c vs ws fits-v fits-w,
      adder-outputs gate_result none n c vs' ws' fits-v' fits-w',
      lowest-of-ripple sum carry k c vs ws,
      lowest-of-ripple sum carry k c vs' ws',
      same-v,
      same_w,
    )

-- Outputs whose lowest k are known, and are the lowest k bits of the sum of two numbers with a carry.
pub record LowestOfSum (k : ℕ) (c : Bool) (xs ys : List Bool) (outputs : List Val) : Type 0 where
  pub bits : List Bool
  pub count : length bits ≡ suc (length xs)
  pub sum : binary bits ≡ bit c + binary xs + binary ys
  pub lowest : take k outputs ≡ take k (map known bits)

-- Of the values on the inputs of each number the lowest k are its bits; the others are anything.
pub adder-known-early : (n k : ℕ) (c : Bool) (xs ys : List Bool) (vs ws : List Val)
    → length xs ≡ n → length ys ≡ n → length vs ≡ n → length ws ≡ n
    → take k vs ≡ take k (map known xs) → take k ws ≡ take k (map known ys)
    → LowestOfSum k c xs ys (evaluate (adder n) 18 (known c ∷ (vs ++ ws)))
unfolding evaluate
adder-known-early n k c xs ys vs ws fits-x fits-y fits-v fits-w known-v known-w =
    record {
      bits = sum_bits c xs ys;
      count = length-of-sum_bits c xs ys (omega arith);
      sum = binary-of-sum_bits c xs ys (omega arith);
      lowest =
          lowest-outputs gate_value (known false) n k (known c) vs ws (map known xs) (map known ys) fits-v fits-w
          (length-map xs known ∙ fits-x)
          (length-map ys known ∙ fits-y)
          known-v
          known-w
          ∙ ap (take k) (rw (map-append known xs ys) at (adder-on-known n c xs ys fits-x fits-y));
    }
