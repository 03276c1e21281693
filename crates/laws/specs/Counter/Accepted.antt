-- The check accepts the counter of each width from 1 to 64.
use Prim.Native.Nat.{ℕ, suc, ◌+◌, ◌*◌, ◌-◌, ◌≤◌}
use Rattle.std.specs.Prelude.{◌≡◌, refl, length}
use native.Mathlib.Omega.{arith}
use Rattle.meaning.specs.Boxlist.{F, assoc}
use Rattle.meaning.specs.Limits.{net_count}
use Rattle.meaning.specs.Verdict.{good, file_verdict}
use Rattle.meaning.specs.Adder.{up_from}
use Rattle.meaning.specs.Counter.{blocks, digits, join_parts, last_count, counter_module, counter}
use Rattle.laws.specs.WellFormed.{ModuleOk, some}
use Rattle.laws.specs.Accepted.{accepted-good}
use Rattle.laws.specs.Adder.Nets.{length-up_from}
use Rattle.laws.specs.Adder.Distinct.{not_of-run, duplicates-of-run, disjoint-run}
use Rattle.laws.specs.Counter.Digits.{binary-digits, digits_fewest, highest-digit}
use Rattle.laws.specs.Counter.Numbered.{past-blocks}
use Rattle.laws.specs.Counter.Levels.{below_level, parts-less, parts-most}
use Rattle.laws.specs.Counter.Totals.{total-of-parts}
use Rattle.laws.specs.Counter.Lengths.{driven-total, weighs-nets}
use Rattle.laws.specs.Counter.Numbers.{last-is}
use Rattle.laws.specs.Counter.Reached.{counter-size}
use Rattle.laws.specs.Counter.Signals.{filled-inputs, row-driven}
use Rattle.laws.specs.Counter.ReferenceOk.{assoc-past, size-first}
use Rattle.laws.specs.Counter.BlocksOk.{blocks-accepted}
use Rattle.laws.specs.Counter.PartsOk.{Wired, parts-wired}

module _ (n : ℕ) (some_bits : 1 ≤ n) (most : n ≤ 64) where
  abbrev k : ℕ
  k = length (digits n) - 1

  abbrev last : ℕ
  last = last_count 0 0 n (digits n)

  few : length (digits n) ≤ 7
  few = digits_fewest n 7 (omega arith)

  wired : Wired k (last + (0 + length (digits n))) (up_from 0 n) (join_parts 0 0 0 n (digits n))
  wired =
      let none : n + 0 ≡ n = omega arith in
      parts-wired k (highest-digit n some_bits) 0 n (omega arith) (omega arith) (omega (arith, binary-digits n)) (rw none (filled-inputs n))

  nets-few : net_count (counter_module n) ≤ 4096
  unfolding net_count counter_module below_level
  nets-few =
      omega (
        arith,
        few,
        length-up_from 0 n,
        driven-total (join_parts 0 0 0 n (digits n)),
        total-of-parts (weighs-nets 6) 0 0 0 n (digits n) (omega arith) (omega (arith, few)),
        parts-less (λ i c. suc i + 2 * c * 1) (λ i c. suc i + 2 * i) 6 (λ j c short h. omega arith) 0 0 (digits n)
            (omega arith) (omega (arith, few)),
        parts-most (λ i. suc i + 2 * i) (digits n) 7 few,
      )

  unique : assoc 32 (blocks k) ≡ F
  unfolding assoc
  unique = past-blocks (λ ms x. assoc x ms) assoc-past k 32 (λ i h e. omega arith)

  counter-ok : ModuleOk (counter_module n) (blocks k)
  unfolding counter_module counter
  counter-ok =
      let above : n ≤ last = omega (arith, last-is 0 0 n (digits n)) in
      record {
        above = omega arith;
        unique = unique;
        inputs_distinct = duplicates-of-run 0 n;
        outputs_distinct = duplicates-of-run last (length (digits n));
        apart =
            disjoint-run 0 n (up_from last (length (digits n)))
            (λ y f g. not_of-run y last (length (digits n)) (λ x least most. omega arith));
        body = wired.body;
        outputs_driven =
            row-driven (join_parts 0 0 0 n (digits n)) last (length (digits n)) (filled-inputs n) wired.filled above (omega arith);
        nets = nets-few;
        size = rw (size-first (counter_module n) (blocks k) 32 refl) (omega (arith, counter-size n));
      }

  pub counter-accepted : file_verdict (counter n) ≡ good
  unfolding counter
  counter-accepted = accepted-good (some counter-ok (blocks-accepted k (omega (arith, few))))
