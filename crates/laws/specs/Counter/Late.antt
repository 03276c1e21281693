-- No counter is faster than its delay's bound: the lowest count bit of a block of level j arrives at 2j, and one later where a count
-- below is chosen from. So the delay is known exactly at every width.
use Rattle.std.specs.Prelude.{ℕ, zero, suc, ◌+◌, ◌*◌, ◌^◌, ◌≤◌, ◌<◌, max, ◌≡◌, refl, length, replicate}
use Rattle.std.proofs.Common.{ap, pow-suc, length-append}
use mathlib.Core.List.{List, [], ◌∷◌, ◌++◌}
use Rattle.std.proofs.Math.Nat.{one-le-pow}
use native.Mathlib.Omega.{arith}
use Rattle.std.proofs.lemmas.List.{length-replicate}
use Rattle.meaning.specs.Figures.{largest, arrivals, delay_by, delay}
use Rattle.meaning.specs.Counter.{NOT, NOR, digits, counter}
use Rattle.laws.specs.Counter.Law.{Law, chosen, length-chosen, length-joined, chosen-end, both_empty, top_bit}
use Rattle.laws.specs.Counter.Lawful.{counter_lawful}
use Rattle.laws.specs.Counter.Digits.{digits-count}
use Rattle.laws.specs.Counter.Figures.{counter-first, counter-inputs}
use Rattle.laws.specs.Counter.Delay.{unit, counter-delay, counter-delay-below}

-- When the first of some nets arrives.
unfoldable first : List ℕ → ℕ
first [] = 0
first (x ∷ xs) = x

first-largest : (times : List ℕ) → first times ≤ largest times
unfolding first largest
first-largest [] = omega arith
first-largest (x ∷ xs) = omega arith

first-append : (xs ys : List ℕ) → 1 ≤ length xs → first (xs ++ ys) ≡ first xs
unfolding first
first-append [] ys some = absurd (omega arith)
first-append (x ∷ xs) ys some = refl

record Chosen (e : ℕ) (hs ls : List ℕ) : Type 0 where
  high : first hs + 1 ≤ first (chosen unit e hs ls)
  low : first ls + 2 ≤ first (chosen unit e hs ls)

first-chosen : (e : ℕ) (hs ls : List ℕ) → 1 ≤ length hs → 1 ≤ length ls → Chosen e hs ls
unfolding first largest chosen
first-chosen e [] ls some some' = absurd (omega arith)
first-chosen e (h ∷ hs) [] some some' = absurd (omega arith)
first-chosen e (h ∷ hs) (l ∷ ls) some some' = record { high = omega arith; low = omega arith }

record BlockLate (j : ℕ) (xs outs : List ℕ) (e : ℕ) : Type 0 where
  size : length outs ≡ j
  bits : 2 * j ≤ first outs
  empty : 1 ≤ e

bit-late : (x : ℕ) → BlockLate 0 (x ∷ []) [] (unit NOT (x ∷ []))
bit-late x = record { size = refl; bits = omega arith; empty = omega arith }

pair-late : (x y : ℕ) → BlockLate 1 (x ∷ y ∷ []) (unit NOR (y ∷ unit NOR (x ∷ y ∷ []) ∷ []) ∷ []) (unit NOR (x ∷ y ∷ []))
unfolding first largest
pair-late x y = record { size = refl; bits = omega arith; empty = omega arith }

halves-late : {j : ℕ} {xs ys ls hs : List ℕ} {el eh : ℕ} → 1 ≤ j → length ys ≡ 2 ^ j → BlockLate j xs ls el → BlockLate j ys hs eh
    → BlockLate (suc j) (xs ++ ys) (chosen unit eh hs ls ++ (top_bit unit eh el ∷ [])) (both_empty unit eh el)
halves-late {ls = ls} {hs = hs} {el = el} {eh = eh} some full low high =
    let outs = chosen unit eh hs ls in
    record {
      size = omega (arith, length-joined unit eh hs ls (top_bit unit eh el), high.size);
      bits =
          omega (
            arith,
            low.bits,
            first-append outs (top_bit unit eh el ∷ []) (omega (arith, length-chosen unit eh hs ls, high.size)),
            (first-chosen eh hs ls (omega (arith, high.size)) (omega (arith, low.size))).low,
          );
      empty = omega arith;
    }

-- A counter whose highest part is of level j. It stands above others where there are more bits.
record CounterLate (n : ℕ) (xs outs : List ℕ) : Type 0 where
  size : length outs ≡ n
  none : n ≡ 0 → length xs ≡ 0
  alone : (j : ℕ) → n ≡ suc j → max 1 (2 * j) ≤ first outs
  stacked : (j : ℕ) → n ≡ suc j → 2 ^ j < length xs → 2 * j + 1 ≤ first outs

module _ (j : ℕ) (lows xs hs : List ℕ) (e : ℕ) (full : length xs ≡ 2 ^ j) (block : BlockLate j xs hs e) where
  lowest : (hs : List ℕ) → length hs ≡ j → 2 * j ≤ first hs → max 1 (2 * j) ≤ first (hs ++ (e ∷ []))
  unfolding first
  lowest [] size bits = omega (arith, block.empty)
  lowest (h ∷ hs) size bits = omega arith

  no_more : length lows ≡ 0 → (i : ℕ) → suc j ≡ suc i → 2 ^ i < length (lows ++ xs) → ⊥
  no_more none i same more =
      let level : i ≡ j = omega arith in
      omega (arith, length-append lows xs, ap (λ x. 2 ^ x) level)

  above-late : (n : ℕ) (ls : List ℕ) → n ≤ j → CounterLate n lows ls
      → CounterLate (suc j) (lows ++ xs) (chosen unit e hs ls ++ (e ∷ []))
  above-late zero [] short low =
      rw (chosen-end unit e hs)
      (record {
        size = omega (arith, length-append hs (e ∷ []), block.size);
        none = λ n. absurd (omega arith);
        alone = λ i same. omega (arith, lowest hs block.size block.bits);
        stacked = λ i same more. absurd (no_more (low.none refl) i same more);
      })
  above-late zero (l ∷ ls) short low = absurd (omega (arith, low.size))
  above-late (suc n) ls short low =
      let some = first-append (chosen unit e hs ls) (e ∷ []) (omega (arith, length-chosen unit e hs ls, block.size)) in
      let one_later = (first-chosen e hs ls (omega (arith, block.size)) (omega (arith, low.size))).high in
      record {
        size = omega (arith, length-joined unit e hs ls e, block.size);
        none = λ n. absurd (omega arith);
        alone = λ i same. omega (arith, block.bits);
        stacked = λ i same more. omega (arith, block.bits);
      }

unfoldable lateness : Law unit
lateness =
    record {
      Block = BlockLate;
      Counter = CounterLate;
      block-count = λ b. b.size;
      counter-count = λ c. c.size;
      bit = bit-late;
      pair = pair-late;
      halves = halves-late;
      nothing =
          record {
            size = refl;
            none = λ n. refl;
            alone = λ j same. absurd (omega arith);
            stacked = λ j same more. absurd (omega arith);
          };
      above = λ {n} {j} {lows} {xs} {ls} {hs} {e} short full low block. above-late j lows xs hs e full block n ls short low;
    }

counter-late : (n : ℕ) → 1 ≤ n → CounterLate (length (digits n)) (replicate n 0) (arrivals (λ kind. 1) (counter n) 32 (replicate n 0))
unfolding arrivals lateness
counter-late n some = counter_lawful 0 lateness n some (replicate n 0) (length-replicate n 0)

delay-late : (n : ℕ) → first (arrivals (λ kind. 1) (counter n) 32 (replicate n 0)) ≤ delay (counter n) 32
unfolding delay delay_by
delay-late n = rw (counter-first n, counter-inputs n) (first-largest _)

-- The delay exactly: at a power of two, and between two powers.
pub counter-delay_power : (n k : ℕ) → n ≡ 2 ^ k → delay (counter n) 32 ≡ max 1 (2 * k)
counter-delay_power n k power =
    let some : 1 ≤ n = omega (arith, one-le-pow k 2 (omega arith)) in
    let count = digits-count n k (omega arith) (omega (arith, pow-suc 2 k)) in
    omega (arith, counter-delay n k some (omega arith), delay-late n, (counter-late n some).alone k count)

pub counter-delay-between : (n k : ℕ) → 2 ^ k < n → n < 2 ^ suc k → delay (counter n) 32 ≡ 2 * k + 1
counter-delay-between n k least most =
    let some : 1 ≤ n = omega arith in
    let full : length (replicate {A = ℕ} n 0) ≡ n = length-replicate n 0 in
    let count = digits-count n k (omega arith) most in
    omega (arith, counter-delay-below n (suc k) some most, delay-late n, (counter-late n some).stacked k count (omega arith))
