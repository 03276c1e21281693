-- What the sixteen operations of an ALU mean (document 000, table 2; request M-110), whatever makes them: carry, overflow and result,
-- of a carry in and of two numbers a and b of the same width. Bits are read low first.
use Rattle.std.specs.Prelude.{ℕ, ◌+◌, ◌-◌, ◌^◌, ◌/◌, ◌%◌, Bool, false, not, ◌&&◌, cond, List, [], ◌∷◌, leb, ltb, eqb, length, get_or}
use Rattle.meaning.specs.Gates.{B-NOT, B-OR, B-XOR, B-AND}
use Rattle.meaning.specs.Adder.{bit, binary}

-- An integer, as one natural number less another.
pub record Integer : Type 0 where
  pub front : ℕ
  pub back : ℕ

abbrev pub whole : ℕ → Integer
whole n = record { front = n; back = 0 }

abbrev pub plus : Integer → Integer → Integer
plus x y = record { front = x.front + y.front; back = x.back + y.back }

abbrev pub less : Integer → Integer → Integer
less x y = record { front = x.front + y.back; back = x.back + y.front }

abbrev pub below : Integer → Integer → Bool
below x y = ltb (x.front + y.back) (y.front + x.back)

-- At width n: half of the numbers are below 2^(n-1), and those from there on stand for negative ones where bits are read as signed.
abbrev pub half : ℕ → ℕ
half n = 2 ^ (n - 1)

abbrev pub signed : (n number : ℕ) → Integer
signed n number = record { front = number; back = cond (ltb number (half n)) 0 (2 ^ n) }

-- A signed number of n bits is at least -2^(n-1) and below 2^(n-1).
abbrev pub fits_signed : (n : ℕ) → Integer → Bool
fits_signed n x = not (below x (less (whole 0) (whole (half n)))) && below x (whole (half n))

-- The n bits of an integer, as a number: the remainder by 2^n.
unfoldable pub remainder : (n : ℕ) → Integer → ℕ
remainder n x = (x.front + (2 ^ n - x.back % 2 ^ n)) % 2 ^ n

-- What an operation is: an exact answer in integers, of the carry, a and b, whose carry is that of an addition or that of a subtraction;
-- a shift to the right by one, with what comes in at the top, of the carry and of a's top bit; or a function of each bit of a and of b.
pub data Operation : Type 0 where
  adding : (exact : (c a b : Integer) → Integer) → Operation
  subtracting : (exact : (c a b : Integer) → Integer) → Operation
  shifting : (top : (c highest : Bool) → Bool) → Operation
  bitwise : (each : (a b : Bool) → Bool) → Operation

-- Table 2 of document 000, in the order of the op-codes.
unfoldable pub operations : List Operation
operations =
    bitwise (λ a b. a)
    ∷ adding (λ c a b. plus a (whole 1))
    ∷ adding (λ c a b. plus (plus b a) c)
    ∷ adding (λ c a b. plus b a)
    ∷ subtracting (λ c a b. less (whole 0) a)
    ∷ subtracting (λ c a b. less a (whole 1))
    ∷ subtracting (λ c a b. less (less b a) c)
    ∷ subtracting (λ c a b. less b a)
    ∷ shifting (λ c highest. c)
    ∷ shifting (λ c highest. highest)
    ∷ shifting (λ c highest. false)
    ∷ bitwise (λ a b. B-XOR b a)
    ∷ bitwise (λ a b. B-OR b a)
    ∷ bitwise (λ a b. B-AND b a)
    ∷ bitwise (λ a b. B-NOT a)
    ∷ bitwise (λ a b. a)
    ∷ []

-- The operation of a number; there are sixteen, and any other number would move a as the last of the table does.
unfoldable pub operation : ℕ → Operation
operation number = get_or operations number (bitwise (λ a b. a))

pub record Outcome : Type 0 where
  pub carry : Bool
  pub overflow : Bool
  pub result : ℕ

-- A function of each two bits.
unfoldable pub each_bit : (Bool → Bool → Bool) → (a b : List Bool) → List Bool
each_bit f [] b = []
each_bit f (x ∷ a) [] = []
each_bit f (x ∷ a) (y ∷ b) = f x y ∷ each_bit f a b

module _ (c : Bool) (a b : List Bool) where
  abbrev pub width : ℕ
  width = length a

  -- An exact answer, of the numbers and of the signed numbers.
  abbrev pub unsigned_answer : ((c a b : Integer) → Integer) → Integer
  unsigned_answer exact = exact (whole (bit c)) (whole (binary a)) (whole (binary b))

  abbrev pub signed_answer : ((c a b : Integer) → Integer) → Integer
  signed_answer exact = exact (whole (bit c)) (signed width (binary a)) (signed width (binary b))

  -- The carry of an addition is the carry out: the sum has more than n bits. That of a subtraction says that the true difference is
  -- below zero. Both overflow exactly when the exact answer, of signed numbers, does not fit the width. A shift carries out a's lowest
  -- bit.
  unfoldable pub outcome : Operation → Outcome
  outcome (adding exact) =
      record {
        carry = not (below (unsigned_answer exact) (whole (2 ^ width)));
        overflow = not (fits_signed width (signed_answer exact));
        result = remainder width (unsigned_answer exact);
      }
  outcome (subtracting exact) =
      record {
        carry = below (unsigned_answer exact) (whole 0);
        overflow = not (fits_signed width (signed_answer exact));
        result = remainder width (unsigned_answer exact);
      }
  outcome (shifting top) =
      record {
        carry = eqb (binary a % 2) 1;
        overflow = false;
        result = binary a / 2 + cond (top c (leb (half width) (binary a))) (half width) 0;
      }
  outcome (bitwise each) = record { carry = false; overflow = false; result = binary (each_bit each a b) }

-- The operation whose number the operation bits are.
unfoldable pub alu_outcome : (c : Bool) (a b op : List Bool) → Outcome
alu_outcome c a b op = outcome c a b (operation (binary op))
