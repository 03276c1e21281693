-- Binary numbers, low bit first: what a list of bits reads as, and the digits of a number.
use Rattle.std.specs.Prelude.{ℕ, zero, suc, ◌+◌, ◌*◌, ◌^◌, ◌/◌, ◌%◌, ◌≤◌, ◌<◌, ◌≡◌, refl, Bool, true, false, cond, List, [], ◌∷◌, ◌++◌, eqb, length, replicate}
use Rattle.std.proofs.Common.{pow-suc, arith, eqb-true, ne_eqb}
use Rattle.std.proofs.Math.Nat.{one-le-pow}
use Rattle.std.proofs.lemmas.Bool.{eqb-false}
use Rattle.meaning.specs.Adder.{bit, binary}
use Rattle.meaning.specs.Counter.{digits_within, digits}

-- Zeros above change nothing, and a 1 above adds its power of two.
pub binary-zeros : (n : ℕ) → binary (replicate n false) ≡ 0
unfolding binary
binary-zeros zero = refl
binary-zeros (suc n) = rw (binary-zeros n)

pub binary-zeros-above : (bs : List Bool) (n : ℕ) → binary (bs ++ replicate n false) ≡ binary bs
unfolding binary
binary-zeros-above [] n = binary-zeros n
binary-zeros-above (b ∷ bs) n = rw (binary-zeros-above bs n)

pub binary-one-above : (bs : List Bool) → binary (bs ++ (true ∷ [])) ≡ binary bs + 2 ^ length bs
unfolding binary
binary-one-above [] = refl
binary-one-above (b ∷ bs) = omega (arith, binary-one-above bs, pow-suc 2 (length bs))

bit-most : (b : Bool) → bit b ≤ 1
bit-most true = omega arith
bit-most false = omega arith

pub binary-below : (bs : List Bool) → binary bs < 2 ^ length bs
unfolding binary
binary-below [] = omega arith
binary-below (b ∷ bs) = omega (arith, binary-below bs, bit-most b, pow-suc 2 (length bs))

-- What the digits from a level on are worth.
pub worth-none : (j : ℕ) → 2 ^ j * binary [] ≡ 0
unfolding binary
worth-none j = omega arith

pub worth_0 : (j : ℕ) (ds : List Bool) → 2 ^ j * binary (false ∷ ds) ≡ 2 ^ suc j * binary ds
unfolding binary
worth_0 j ds = rw (pow-suc 2 j) (omega arith)

pub worth_1 : (j : ℕ) (ds : List Bool) → 2 ^ j * binary (true ∷ ds) ≡ 2 ^ j + 2 ^ suc j * binary ds
unfolding binary
worth_1 j ds = rw (pow-suc 2 j) (omega arith)

-- The digits of a number read as the number, and no shorter list of bits does.
low_digit : (n : ℕ) → bit (eqb (n % 2) 1) ≡ n % 2
low_digit n = go (eqb (n % 2) 1) refl
  where
    go : (b : Bool) → eqb (n % 2) 1 ≡ b → bit b ≡ n % 2
    go true e = omega (arith, eqb-true (n % 2) 1 e)
    go false e = omega (arith, eqb-false (n % 2) 1 e)

binary-within : (most n : ℕ) → n ≤ most → binary (digits_within most n) ≡ n
unfolding digits_within binary
binary-within zero n h = omega arith
binary-within (suc k) n h = go (eqb n 0) refl (λ positive. binary-within k (n / 2) (omega arith))
  where
    go : (b : Bool) → eqb n 0 ≡ b → ((n ≡ 0 → ⊥) → binary (digits_within k (n / 2)) ≡ n / 2)
        → binary (cond b [] (eqb (n % 2) 1 ∷ digits_within k (n / 2))) ≡ n
    go true e further = omega (arith, eqb-true n 0 e)
    go false e further = omega (arith, low_digit n, further (eqb-false n 0 e))

pub binary-digits : (n : ℕ) → binary (digits n) ≡ n
unfolding digits
binary-digits n = binary-within n n (omega arith)

length-within : (most n c : ℕ) → n < 2 ^ c → length (digits_within most n) ≤ c
unfolding digits_within
length-within zero n c h = omega arith
length-within (suc k) n c h = go (eqb n 0) refl c h (length-within k (n / 2))
  where
    go : (b : Bool) → eqb n 0 ≡ b → (c : ℕ) → n < 2 ^ c → ((c : ℕ) → n / 2 < 2 ^ c → length (digits_within k (n / 2)) ≤ c)
        → length (cond b [] (eqb (n % 2) 1 ∷ digits_within k (n / 2))) ≤ c
    go true e c h further = omega arith
    go false e zero h further = absurd (eqb-false n 0 e (omega arith))
    go false e (suc c) h further = omega (arith, further c (omega (arith, pow-suc 2 c)))

pub digits_fewest : (n c : ℕ) → n < 2 ^ c → length (digits n) ≤ c
unfolding digits
digits_fewest n c h = length-within n n c h

-- Powers of two are in the order of their exponents, so a number between two neighbours has one digit more than the exponent.
pub power_below : (j c : ℕ) → 2 ^ j < 2 ^ c → j < c
power_below j zero less = absurd (omega (arith, one-le-pow j 2 (omega arith)))
power_below zero (suc c) less = omega arith
power_below (suc j) (suc c) less = omega (arith, power_below j c (omega (arith, pow-suc 2 j, pow-suc 2 c)))

pub below-digits : (n : ℕ) → n < 2 ^ length (digits n)
below-digits n = omega (arith, binary-below (digits n), binary-digits n)

pub digits-count : (n k : ℕ) → 2 ^ k ≤ n → n < 2 ^ suc k → length (digits n) ≡ suc k
digits-count n k least most =
    omega (arith, digits_fewest n (suc k) most, power_below k (length (digits n)) (omega (arith, below-digits n)))

-- The digits of a level and above, of which the highest is 1. With each digit 1 the count of bits becomes one more than its
-- level, so that at the end it is as many as there are digits.
pub data HighestOne : (count level : ℕ) → List Bool → Type 0 where
  done : {j : ℕ} → HighestOne j j []
  digit_0 : {count j : ℕ} {ds : List Bool} → HighestOne count (suc j) ds → HighestOne count j (false ∷ ds)
  digit_1 : {count j : ℕ} {ds : List Bool} → HighestOne (suc j) (suc j) ds → HighestOne count j (true ∷ ds)

digits-of-zero : (most : ℕ) → digits_within most 0 ≡ []
unfolding digits_within
digits-of-zero zero = refl
digits-of-zero (suc k) = refl

highest-within : (most n count j : ℕ) → 1 ≤ n → n ≤ most → HighestOne count j (digits_within most n)
unfolding digits_within
highest-within zero n count j some h = absurd (omega arith)
highest-within (suc k) n count j some h =
    rw (ne_eqb n 0 (omega arith))
    (go (eqb (n % 2) 1) refl (λ half count j. highest-within k (n / 2) count j half (omega arith)))
  where
    last : (m : ℕ) → (1 ≤ m → HighestOne (suc j) (suc j) (digits_within k m)) → HighestOne (suc j) (suc j) (digits_within k m)
    last zero further = rw (digits-of-zero k) done
    last (suc m) further = further (omega arith)

    go : (b : Bool) → eqb (n % 2) 1 ≡ b → (1 ≤ n / 2 → (count j : ℕ) → HighestOne count j (digits_within k (n / 2)))
        → HighestOne count j (b ∷ digits_within k (n / 2))
    go true e further = digit_1 (last (n / 2) (λ half. further half (suc j) (suc j)))
    go false e further = digit_0 (further (omega (arith, eqb-false (n % 2) 1 e)) count (suc j))

pub highest-digit : (n : ℕ) → 1 ≤ n → HighestOne 0 0 (digits n)
unfolding digits
highest-digit n some = highest-within n n 0 0 some (omega arith)
