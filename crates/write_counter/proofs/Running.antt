-- The running numbers of a loop over the width's digits from the low end: `left` is what is left of the width, of whose digits `level` are
-- passed, and what is passed is counted in `count` bits on the nets from `below` on. They stay small, and what the loop sums up with
-- what the digits left come to is the whole.
use Prim.Native.Nat.{ℕ, ◌+◌, ◌*◌, ◌/◌, ◌%◌, ◌≤◌, ◌<◌}
use native.Mathlib.Numerals.{add-one}
use native.Mathlib.Omega.{arith}
use mathlib.Core.Path.{◌≡◌, refl, ap, sym, ◌∙◌}
use lib.ListN.{length}
use Rattle.meaning.specs.Counter.{digits, last_count, counter_module}
use Rattle.write_counter.specs.Shapes.{Shaped}
use Rattle.write_counter.proofs.Digits.{digit-one, digit-zero, no_digits, some-digit, few-digits, some-number, no_number}
use Rattle.write_counter.proofs.PartNumbers.{part_count, length-of-parts}

pub record Running (width left level count below : ℕ) : Type 0 where
  pub passed : level + length (digits left) ≡ length (digits width)
  pub bits : count ≤ level
  pub nets : below ≤ 64 + 21 * level
  pub width-within : width ≤ 64

pub running-start : (width : ℕ) → width ≤ 64 → Running width width 0 0 width
running-start width most =
    record { passed = omega arith; bits = omega arith; nets = omega arith; width-within = most }

module _ {width left level count below : ℕ} (r : Running width left level count below) where
  pub level_most : level ≤ 7
  level_most = omega (arith, few-digits width r.width-within)

  pub level_within : 0 < left → level ≤ 6
  level_within some = omega (arith, few-digits width r.width-within, some-digit left some)

  -- A level below the count of digits is at most 6, and something is left there; at that count nothing is.
  module _ {count-of-digits : ℕ} (is : count-of-digits ≡ length (digits width)) where
    pub level_below : level < count-of-digits → level ≤ 6
    level_below more = omega (arith, few-digits width r.width-within, is)

    pub some-left : level < count-of-digits → 0 < left
    some-left more = some-number left (omega (arith, r.passed, is))

    pub none-left : count-of-digits ≤ level → left ≤ 0
    none-left all = no_number left (omega (arith, r.passed, is))

  pub running-one : left % 2 ≡ 1 → Running width (left / 2) (level + 1) (level + 1) (below + 3 * count)
  running-one one =
      let within = level_within (omega arith) in
      record {
        passed = omega (arith, ap length (digit-one left one));
        bits = omega arith;
        nets = omega arith;
        width-within = r.width-within;
      }

  pub running-zero : 0 < left → (left % 2 ≡ 1 → ⊥) → Running width (left / 2) (level + 1) count below
  running-zero some other =
      record {
        passed = omega (arith, ap length (digit-zero left some other));
        bits = omega arith;
        nets = omega arith;
        width-within = r.width-within;
      }

-- The sums of the loop that finds the shape of module 32.
pub record Shaping (width left level count below occurrences : ℕ) : Type 0 where
  pub running : Running width left level count below
  pub few : occurrences ≤ 13 * level
  pub counted : occurrences + part_count level count (digits left) ≡ part_count 0 0 (digits width)
  pub last : last_count level count below (digits left) ≡ last_count 0 0 width (digits width)

pub shaping_start : (width : ℕ) → width ≤ 64 → Shaping width width 0 0 width 0
shaping_start width most =
    record { running = running-start width most; few = omega arith; counted = omega arith; last = refl }

module _ {width left level count below occurrences : ℕ} (s : Shaping width left level count below occurrences) where
  pub shaping_one : left % 2 ≡ 1
      → Shaping width (left / 2) (level + 1) (level + 1) (below + 3 * count) (occurrences + (1 + 2 * count))
  unfolding part_count last_count
  shaping_one one =
      let within = level_within s.running (omega arith) in
      let digit = digit-one left one in
      let nets : below + 3 * count ≡ below + count + count + count = omega arith in
      record {
        running = running-one s.running one;
        few = omega (arith, s.running);
        counted = rw add-one (omega (arith, ap (part_count level count) digit));
        last = rw (nets, add-one) (sym (ap (last_count level count below) digit) ∙ s.last);
      }

  pub shaping_zero : 0 < left → (left % 2 ≡ 1 → ⊥) → Shaping width (left / 2) (level + 1) count below occurrences
  unfolding part_count last_count
  shaping_zero some other =
      let digit = digit-zero left some other in
      record {
        running = running-zero s.running some other;
        few = omega arith;
        counted = rw add-one (omega (arith, ap (part_count level count) digit));
        last = rw add-one (sym (ap (last_count level count below) digit) ∙ s.last);
      }

  pub shaping_end : {count-of-digits : ℕ} → count-of-digits ≡ length (digits width) → count-of-digits ≤ level
      → Shaped width (record { occurrences = occurrences; last = below; digits = count-of-digits })
  unfolding part_count last_count counter_module
  shaping_end is all =
      let end = no_digits left (none-left s.running is all) in
      let most = level_most s.running in
      record {
        occurrences = omega (arith, ap (part_count level count) end, length-of-parts 0 0 0 width (digits width));
        last = sym (ap (last_count level count below) end) ∙ s.last;
        nets = omega (arith, s.running);
        digits = is;
      }
