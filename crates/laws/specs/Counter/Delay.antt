-- When the counter arrives is a law. By unit delay a block of level j gives its count bits at most 2j after its bits, and "empty" before
-- that. A part of level j that stands above others gives the new count one later; but then 2^j is below the width. So with n up to
-- 2^c bits the last output arrives by 2c, and by 1 at width 1.
use Rattle.std.specs.Prelude.{ℕ, zero, suc, ◌+◌, ◌*◌, ◌-◌, ◌^◌, ◌≤◌, ◌<◌, max, ◌≡◌, refl, List, [], ◌∷◌, ◌++◌, length, replicate}
use Rattle.std.proofs.Common.{pow-suc, arith, length-append}
use Rattle.std.proofs.Math.Nat.{one-le-pow}
use Rattle.std.proofs.lemmas.List.{length-replicate}
use Rattle.meaning.specs.Lists.{All, none, more}
use Rattle.meaning.specs.Figures.{largest, arrivals, delay_by, delay}
use Rattle.meaning.specs.Counter.{NOT, OR, XOR, AND, NOR, digits, counter}
use Rattle.laws.specs.Lists.{all-behind, all_map}
use Rattle.laws.specs.Adder.Delay.{arrival}
use Rattle.laws.specs.Counter.Digits.{power_below, digits_fewest}
use Rattle.laws.specs.Counter.Every.{all_both, all-before}
use Rattle.laws.specs.Counter.Law.{Law, chosen, length-joined, chosen-end, both_empty, top_bit}
use Rattle.laws.specs.Counter.Lawful.{counter_lawful}
use Rattle.laws.specs.Counter.Figures.{counter-first, counter-inputs}

-- Nets that have arrived by a time, and a gate one later.
abbrev pub unit : ℕ → List ℕ → ℕ
unit = arrival (λ kind. 1)

abbrev By : ℕ → List ℕ → Type 0
By t times = All (λ x. x ≤ t) times

by-later : {s t : ℕ} {times : List ℕ} → s ≤ t → By s times → By t times
by-later later = all_map (λ x h. omega arith)

largest-by : {t : ℕ} {times : List ℕ} → By t times → largest times ≤ t
unfolding largest
largest-by none = omega arith
largest-by (more h hs) = omega (arith, largest-by hs)

by-start : (n : ℕ) → By 0 (replicate n 0)
by-start zero = none
by-start (suc n) = more {x = 0} (omega arith) (by-start n)

one-by : (kind t x : ℕ) → x ≤ t → unit kind (x ∷ []) ≤ t + 1
unfolding largest
one-by kind t x h = omega arith

two-by : (kind t x y : ℕ) → x ≤ t → y ≤ t → unit kind (x ∷ y ∷ []) ≤ t + 1
unfolding largest
two-by kind t x y h k = omega arith

-- A chosen bit arrives one after the high part's, two after the low one's and "empty".
chosen_by : (t e : ℕ) (hs ls : List ℕ) → e ≤ t → By (t + 1) hs → By t ls → By (t + 2) (chosen unit e hs ls)
unfolding chosen
chosen_by t e [] ls empty high low = none
chosen_by t e (h ∷ hs) [] empty high low = by-later (omega arith) high
chosen_by t e (h ∷ hs) (l ∷ ls) empty (more h-by high) (more l-by low) =
    more {x = unit OR (h ∷ unit AND (e ∷ l ∷ []) ∷ [])}
    (omega (arith, two-by OR (t + 1) h (unit AND (e ∷ l ∷ [])) h-by (two-by AND t e l empty l-by)))
    (chosen_by t e hs ls empty high low)

-- A block of level j whose bits arrive at 0.
record BlockBy (j : ℕ) (xs outs : List ℕ) (e : ℕ) : Type 0 where
  size : length outs ≡ j
  bits : By 0 xs → By (2 * j) outs
  empty : By 0 xs → e ≤ max 1 (2 * j - 1)

bit-by : (x : ℕ) → BlockBy 0 (x ∷ []) [] (unit NOT (x ∷ []))
bit-by x = record { size = refl; bits = λ by. none; empty = go }
  where
    go : By 0 (x ∷ []) → unit NOT (x ∷ []) ≤ max 1 (2 * 0 - 1)
    go (more h none) = omega (arith, one-by NOT 0 x h)

pair-by : (x y : ℕ) → BlockBy 1 (x ∷ y ∷ []) (unit NOR (y ∷ unit NOR (x ∷ y ∷ []) ∷ []) ∷ []) (unit NOR (x ∷ y ∷ []))
pair-by x y = record { size = refl; bits = bits; empty = empty }
  where
    empty : By 0 (x ∷ y ∷ []) → unit NOR (x ∷ y ∷ []) ≤ max 1 (2 * 1 - 1)
    empty (more h (more k none)) = omega (arith, two-by NOR 0 x y h k)

    bits : By 0 (x ∷ y ∷ []) → By (2 * 1) (unit NOR (y ∷ unit NOR (x ∷ y ∷ []) ∷ []) ∷ [])
    bits (more h (more k none)) = more (two-by NOR 1 y (unit NOR (x ∷ y ∷ [])) (omega arith) (two-by NOR 0 x y h k)) none

halves-by : {j : ℕ} {xs ys ls hs : List ℕ} {el eh : ℕ} → 1 ≤ j → length ys ≡ 2 ^ j → BlockBy j xs ls el → BlockBy j ys hs eh
    → BlockBy (suc j) (xs ++ ys) (chosen unit eh hs ls ++ (top_bit unit eh el ∷ [])) (both_empty unit eh el)
halves-by {j} {xs} {ys} {ls} {hs} {el} {eh} some full low high = record { size = size; bits = bits; empty = empty }
  where
    size : length (chosen unit eh hs ls ++ (top_bit unit eh el ∷ [])) ≡ suc j
    size = omega (arith, length-joined unit eh hs ls (top_bit unit eh el), high.size)

    high-empty : By 0 (xs ++ ys) → eh ≤ 2 * j - 1
    high-empty by = omega (arith, high.empty (all-behind xs by))

    both-empty : By 0 (xs ++ ys) → both_empty unit eh el ≤ 2 * j - 1 + 1
    both-empty by = two-by AND (2 * j - 1) eh el (high-empty by) (omega (arith, low.empty (all-before xs ys by)))

    empty : By 0 (xs ++ ys) → both_empty unit eh el ≤ max 1 (2 * suc j - 1)
    empty by = omega (arith, both-empty by)

    bits : By 0 (xs ++ ys) → By (2 * suc j) (chosen unit eh hs ls ++ (top_bit unit eh el ∷ []))
    bits by =
        let eh-by : eh ≤ 2 * j = omega (arith, high-empty by) in
        let top = two-by XOR (2 * j) eh (both_empty unit eh el) eh-by (omega (arith, both-empty by)) in
        let others = chosen_by (2 * j) eh hs ls eh-by (by-later (omega arith) (high.bits (all-behind xs by)))
        (low.bits (all-before xs ys by)) in
        all_both (by-later (omega arith) others) (more {x = top_bit unit eh el} (omega arith) none)

-- A counter of so many count bits, over at least one bit unless there are none.
record CounterBy (n : ℕ) (xs outs : List ℕ) : Type 0 where
  size : length outs ≡ n
  some : 1 ≤ n → 1 ≤ length xs
  bits : By 0 xs → By (2 * n - 1) outs
  fits : (c : ℕ) → length xs ≤ 2 ^ c → By 0 xs → By (max 1 (2 * c)) outs

-- A block above no count bits, and above some.
module _ (j : ℕ) (lows xs hs : List ℕ) (e : ℕ) (full : length xs ≡ 2 ^ j) (block : BlockBy j xs hs e) where
  filled : 1 ≤ length (lows ++ xs)
  filled = omega (arith, length-append lows xs, one-le-pow j 2 (omega arith))

  lowest_by : CounterBy (suc j) (lows ++ xs) (hs ++ (e ∷ []))
  lowest_by =
      record {
        size = omega (arith, length-append hs (e ∷ []), block.size);
        some = λ h. filled;
        bits = λ by. by-later (omega arith) (both by);
        fits = λ c few by.
            let less = power_below j (suc c) (omega (arith, length-append lows xs, pow-suc 2 c, one-le-pow c 2 (omega arith))) in
            by-later (omega arith) (both by);
      }
    where
      both : By 0 (lows ++ xs) → By (max 1 (2 * j)) (hs ++ (e ∷ []))
      both by =
          all_both (by-later (omega arith) (block.bits (all-behind lows by)))
          (more {x = e} (omega (arith, block.empty (all-behind lows by))) none)

  stacked-by : (n : ℕ) (ls : List ℕ) → 1 ≤ n → n ≤ j → CounterBy n lows ls
      → CounterBy (suc j) (lows ++ xs) (chosen unit e hs ls ++ (e ∷ []))
  stacked-by n ls positive short low =
      record {
        size = omega (arith, length-joined unit e hs ls e, block.size);
        some = λ h. filled;
        bits = λ by. by-later (omega arith) (both by);
        fits = λ c few by.
            let less = power_below j c (omega (arith, length-append lows xs, low.some positive)) in
            by-later (omega arith) (both by);
      }
    where
      both : By 0 (lows ++ xs) → By (2 * j - 1 + 2) (chosen unit e hs ls ++ (e ∷ []))
      both by =
          let empty : e ≤ 2 * j - 1 = omega (arith, block.empty (all-behind lows by)) in
          all_both
          (chosen_by (2 * j - 1) e hs ls empty (by-later (omega arith) (block.bits (all-behind lows by)))
          (by-later (omega arith) (low.bits (all-before lows xs by))))
          (more {x = e} (omega arith) none)

  above-by : (n : ℕ) (ls : List ℕ) → n ≤ j → CounterBy n lows ls
      → CounterBy (suc j) (lows ++ xs) (chosen unit e hs ls ++ (e ∷ []))
  above-by zero [] short low = rw (chosen-end unit e hs) lowest_by
  above-by zero (l ∷ ls) short low = absurd (omega (arith, low.size))
  above-by (suc n) ls short low = stacked-by (suc n) ls (omega arith) short low

unfoldable arrives : Law unit
arrives =
    record {
      Block = BlockBy;
      Counter = CounterBy;
      block-count = λ b. b.size;
      counter-count = λ c. c.size;
      bit = bit-by;
      pair = pair-by;
      halves = halves-by;
      nothing = record { size = refl; some = λ h. absurd (omega arith); bits = λ by. none; fits = λ c few by. none };
      above = λ {n} {j} {lows} {xs} {ls} {hs} {e} short full low block. above-by j lows xs hs e full block n ls short low;
    }

counter-by : (n : ℕ) → 1 ≤ n → CounterBy (length (digits n)) (replicate n 0) (arrivals (λ kind. 1) (counter n) 32 (replicate n 0))
unfolding arrivals arrives
counter-by n some = counter_lawful 0 arrives n some (replicate n 0) (length-replicate n 0)

delay-by : (n t : ℕ) → By t (arrivals (λ kind. 1) (counter n) 32 (replicate n 0)) → delay (counter n) 32 ≤ t
unfolding delay delay_by
delay-by n t by = rw (counter-first n, counter-inputs n) (largest-by by)

pub counter-delay : (n c : ℕ) → 1 ≤ n → n ≤ 2 ^ c → delay (counter n) 32 ≤ max 1 (2 * c)
counter-delay n c some few =
    let full : length (replicate {A = ℕ} n 0) ≡ n = length-replicate n 0 in
    delay-by n (max 1 (2 * c)) ((counter-by n some).fits c (omega arith) (by-start n))

-- And earlier by one where n is below the power.
pub counter-delay-below : (n c : ℕ) → 1 ≤ n → n < 2 ^ c → delay (counter n) 32 ≤ 2 * c - 1
counter-delay-below n c some below =
    let few = digits_fewest n c below in
    delay-by n (2 * c - 1) (by-later (omega arith) ((counter-by n some).bits (by-start n)))
