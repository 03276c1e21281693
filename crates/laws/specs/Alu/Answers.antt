-- On bits, carry, overflow and result of module 48 are those of the operation's outcome: an addition or a subtraction by what its exact
-- answer is, in numbers and in signed numbers; a shift; and what is done bit by bit.
use Prim.Native.Nat.{ℕ, suc, ◌+◌, ◌*◌, ◌-◌, ◌^◌, ◌<◌}
use Rattle.std.specs.Prelude.{◌≡◌, Bool, not, List, length}
use Rattle.std.proofs.Math.Path.{refl, sym, ap, subst}
use Rattle.std.proofs.Common.{◌∙◌}
use Rattle.std.proofs.Math.Bool.{true, false}
use native.Mathlib.Omega.{arith}
use Rattle.meaning.specs.Gates.{B-XOR}
use Rattle.meaning.specs.Evaluation.{look_all}
use Rattle.meaning.specs.Adder.{up_from, bit, binary}
use Rattle.meaning.specs.FastAdder.{Step}
use Rattle.meaning.specs.Operations.{Integer, whole, below, signed, fits_signed, remainder, adding, subtracting, shifting, bitwise, Outcome, outcome}
use Rattle.meaning.specs.Alu.{b_net, out_net, shifted_in}
use Rattle.laws.specs.OutputCount.{length-of-look_all}
use Rattle.laws.specs.Adder.Nets.{length-up_from}
use Rattle.laws.specs.Adder.Sum.{gate_bit}
use Rattle.laws.specs.FastAdder.Signals.{width}
use Rattle.laws.specs.Alu.Nets.{Nets}
use Rattle.laws.specs.Alu.Worth.{worth, up_to, up_to-alike, lowest_odd, one_down, binary-held, binary-each, top_from}
use Rattle.laws.specs.Alu.Sums.{remainder_is, carry-out-is, borrow_is, overflow-is}
use Rattle.laws.specs.Alu.Bits.{at, Op, carries, results, first, second, adding-chain, adding-out, adding-over}

abbrev Exact : Type 0
Exact = (c a b : Integer) → Integer

-- The outcome of an exact answer, in the numbers that the bits are.
module _ (exact : Exact) (c : Bool) (n a b : ℕ) where
  abbrev answer : Integer
  answer = exact (whole (bit c)) (whole a) (whole b)

  abbrev signed_answer : Integer
  signed_answer = exact (whole (bit c)) (signed n a) (signed n b)

  adding_outcome : Outcome
  adding_outcome =
      record {
        carry = not (below answer (whole (2 ^ n)));
        overflow = not (fits_signed n signed_answer);
        result = remainder n answer;
      }

  subtracting_outcome : Outcome
  subtracting_outcome =
      record { carry = below answer (whole 0); overflow = not (fits_signed n signed_answer); result = remainder n answer }

in-numbers :
    {n a b : ℕ} (f : (n a b : ℕ) → Outcome) (xs ys : List Bool) → length xs ≡ n → binary xs ≡ a → binary ys ≡ b
    → f (length xs) (binary xs) (binary ys) ≡ f n a b
in-numbers {n} {a} {b} f xs ys e e' e'' =
    ap (λ (m : ℕ). f m (binary xs) (binary ys)) e ∙ ap (λ (m : ℕ). f n m (binary ys)) e' ∙ ap (λ (m : ℕ). f n a m) e''

module _ {k copied : ℕ} {steps : List Step} {vs : List Bool} (whole-width : width steps ≡ suc k)
    (ns : Nets false gate_bit (suc k) copied steps vs) where
  abbrev pub n : ℕ
  n = suc k

  abbrev net : ℕ → Bool
  net = at whole-width ns

  -- a and b, as bits and by places.
  abbrev pub a_bits : List Bool
  a_bits = look_all false (up_from 1 n) ns.env

  abbrev pub b_bits : List Bool
  b_bits = look_all false (up_from (b_net n) n) ns.env

  abbrev pub a : ℕ → Bool
  a i = net (1 + i)

  abbrev pub b : ℕ → Bool
  b i = net (b_net n + i)

  abbrev result : ℕ → Bool
  result = results whole-width ns

  a-width : length a_bits ≡ n
  a-width = length-of-look_all false (up_from 1 n) ns.env ∙ length-up_from 1 n

  a-is : binary a_bits ≡ up_to a n
  a-is = binary-held ns.env 1 n

  b-is : binary b_bits ≡ up_to b n
  b-is = binary-held ns.env (b_net n) n

  pub record Answers (o : Outcome) : Type 0 where
    pub carry : net (out_net n) ≡ o.carry
    pub overflow : net (suc (out_net n)) ≡ o.overflow
    pub number : up_to result n ≡ o.result

  -- An exact answer, of numbers and of signed numbers.
  abbrev pub in_numbers : Exact → Integer
  in_numbers exact = exact (whole (bit (net 0))) (whole (up_to a n)) (whole (up_to b n))

  abbrev pub in_signed : Exact → Integer
  in_signed exact = exact (whole (bit (net 0))) (signed n (up_to a n)) (signed n (up_to b n))

  module _ {o0 o1 o2 : Bool} (op : Op whole-width ns o0 o1 o2 false) (exact : Exact) where
    abbrev x : ℕ → Bool
    x = first whole-width ns op

    abbrev y : ℕ → Bool
    y = second whole-width ns op

    abbrev carry : ℕ → Bool
    carry = carries whole-width ns

    abbrev total : ℕ
    total = up_to x n + up_to y n + bit (carry 0)

    -- The sum is the exact answer, or 2^n more; in signed numbers the top bits count below zero.
    abbrev pub SumIs : (under : Bool) → Type 0
    SumIs under = (in_numbers exact).front + worth (2 ^ n) under ≡ total + (in_numbers exact).back

    abbrev pub SignedSumIs : Type 0
    SignedSumIs = (in_signed exact).front + 2 * worth (2 ^ k) (x k) + 2 * worth (2 ^ k) (y k) ≡ total + (in_signed exact).back

    pub adding-answers : o2 ≡ false → SumIs false → SignedSumIs → Answers (outcome (net 0) a_bits b_bits (adding exact))
    unfolding outcome adding_outcome
    adding-answers no-flip sum signed-sum =
        let chain = adding-chain whole-width ns op in
        let plain : (in_numbers exact).front ≡ total + (in_numbers exact).back = omega arith in
        subst Answers (sym (in-numbers (adding_outcome exact (net 0)) a_bits b_bits a-width a-is b-is))
        (record {
          carry =
              adding-out whole-width ns op
              ∙ ap (B-XOR (carry n)) no-flip
              ∙ unflipped (carry n)
              ∙ sym (carry-out-is chain (in_numbers exact) plain);
          overflow = adding-over whole-width ns k refl ∙ sym (overflow-is chain (in_signed exact) signed-sum);
          number = sym (remainder_is chain (in_numbers exact) false sum);
        })
      where
        unflipped : (b : Bool) → B-XOR b false ≡ b
        unflipped true = refl
        unflipped false = refl

    pub subtracting-answers :
        o2 ≡ true → SumIs true → SignedSumIs → Answers (outcome (net 0) a_bits b_bits (subtracting exact))
    unfolding outcome subtracting_outcome
    subtracting-answers flip sum signed-sum =
        let chain = adding-chain whole-width ns op in
        subst Answers (sym (in-numbers (subtracting_outcome exact (net 0)) a_bits b_bits a-width a-is b-is))
        (record {
          carry =
              adding-out whole-width ns op ∙ ap (B-XOR (carry n)) flip ∙ sym (borrow_is chain (in_numbers exact) sum);
          overflow = adding-over whole-width ns k refl ∙ sym (overflow-is chain (in_signed exact) signed-sum);
          number = sym (remainder_is chain (in_numbers exact) true sum);
        })

  -- Bit by bit.
  pub bitwise-answers :
      (each : Bool → Bool → Bool)
      → net (out_net n) ≡ false
      → net (suc (out_net n)) ≡ false
      → ((i : ℕ) → i < n → result i ≡ each (a i) (b i))
      → Answers (outcome (net 0) a_bits b_bits (bitwise each))
  unfolding outcome
  bitwise-answers each no_carry no_overflow at_bits =
      record {
        carry = no_carry;
        overflow = no_overflow;
        number = up_to-alike result (λ i. each (a i) (b i)) n at_bits ∙ sym (binary-each each ns.env 1 (b_net n) n);
      }

  -- A shift.
  pub shifting-answers :
      (top : Bool → Bool → Bool)
      → net (out_net n) ≡ net 1
      → net (suc (out_net n)) ≡ false
      → ((i : ℕ) → i < n → result i ≡ net (2 + i))
      → net (shifted_in n) ≡ top (net 0) (net n)
      → Answers (outcome (net 0) a_bits b_bits (shifting top))
  unfolding outcome
  shifting-answers top lowest no_overflow at_bits shifted =
      let less : suc k - 1 ≡ k = omega arith in
      let highest : 1 + k ≡ n = omega arith in
      let above : 1 + n ≡ shifted_in n = omega arith in
      let on : (i : ℕ) → 2 + i ≡ 1 + suc i = λ i. omega arith in
      record {
        carry = lowest ∙ sym (rw a-is (lowest_odd a k));
        overflow = no_overflow;
        number =
            rw (a-is, a-width, less, top_from a k)
            (up_to-alike result (λ i. a (suc i)) n (λ i low. at_bits i low ∙ rw (on i))
            ∙ one_down a k (top (net 0) (a k)) (rw (above, highest) shifted));
      }
