-- The ALU is within the ceilings, so reading its bytes gives it back, and the check accepts them.
use Prim.Native.Nat.{ℕ, zero, suc, ◌+◌, ◌*◌, ◌/◌, ◌<◌, ◌≤◌, min}
use Rattle.std.specs.Prelude.{◌≡◌, refl, List, [], ◌∷◌}
use Rattle.std.proofs.Common.{ap, ◌∙◌}
use native.Mathlib.Omega.{arith}
use Rattle.std.proofs.Math.Dec.{lit≤}
use Rattle.std.proofs.Math.ListN.{length-append}
use Rattle.meaning.specs.Lists.{All, none, more}
use Rattle.meaning.specs.Layout.{each, number_bytes, occurrence_numbers, module_numbers, file_numbers, encode}
use Rattle.meaning.specs.Reading.{holds, read}
use Rattle.meaning.specs.Ceilings.{Small, most_number, OccurrenceWithin, ModuleWithin, Within}
use Rattle.meaning.specs.Verdict.{good, verdict, verdict_of}
use Rattle.meaning.specs.Adder.{up_from}
use Rattle.meaning.specs.FastAdder.{Step, steps}
use Rattle.meaning.specs.Alu.{BUF, b_net, op_net, carry_net, p_net, g_net, q_net, out_net, result_net, flip_net, shifted_in, lines_net, lines_of, control, cell, copy_row, copies, copy_count, controlled, cell_at, cells, alu_module, alu_over, alu}
use Rattle.laws.specs.RoundTrip.{round_trip}
use Rattle.laws.specs.Adder.Nets.{length-up_from}
use Rattle.laws.specs.WithinTests.{small_number, few_nets, small_occurrence, small_module, small_file, file-within}
use Rattle.laws.specs.FastAdder.Signals.{width}
use Rattle.laws.specs.FastAdder.Shape.{steps-width}
use Rattle.laws.specs.FastAdder.File.{all_both, single, small-run, row_within, run-within, wide-within, lookahead-within, carriers-within}
use Rattle.laws.specs.Alu.Accepted.{alu-accepted}
use Rattle.laws.specs.Alu.Figures.{alu-length, copies-most}
use Rattle.laws.specs.Alu.Numbers.{alu-bytes}

copy_row-within :
    (net take count : ℕ) → net + count ≤ suc most_number → take + count ≤ suc most_number → All OccurrenceWithin (copy_row net take count)
unfolding copy_row
copy_row-within net take zero on-net on-take = none
copy_row-within net take (suc count) on-net on-take =
    more
    (single net BUF (take ∷ []) (omega arith) (lit≤ tt) (record { count = lit≤ tt; numbers = more {x = take} (omega arith) none }))
    (copy_row-within (suc net) (suc take) count (omega arith) (omega arith))

copies-within :
    (lines net count : ℕ) → net + 6 * count ≤ suc most_number → lines + 6 ≤ suc most_number
    → All OccurrenceWithin (copies lines net count)
unfolding copies
copies-within lines net zero on-net on-lines = none
copies-within lines net (suc count) on-net on-lines =
    all_both (copy_row-within net lines 6 (omega arith) on-lines) (copies-within lines (net + 6) count (omega arith) on-lines)

module _ (n copied : ℕ) (most : n ≤ 64) (few : 8 * copied ≤ n + 7) where
  cell-within : (i : ℕ) → i < n → OccurrenceWithin (cell_at n copied i)
  cell-within i low =
      let copy : min copied (i / 8 + 1) ≤ copied = omega arith in
      record {
        drives =
            record {
              count = lit≤ tt;
              numbers =
                  more {x = p_net n + i} (omega arith) (more {x = g_net n + i} (omega arith) (more {x = q_net n + i} (omega arith) none));
            };
        refers = lit≤ tt;
        takes =
            record {
              count = omega (arith, length-up_from (lines_of n copied i) 6);
              numbers =
                  more {x = 1 + i} (omega arith)
                  (more {x = 2 + i} (omega arith)
                  (more {x = b_net n + i} (omega arith) (small-run (lines_of n copied i) 6 (omega arith))));
            };
      }

  cells-within : (i count : ℕ) → i + count ≤ n → All OccurrenceWithin (cells n copied i count)
  unfolding cells
  cells-within i zero low = none
  cells-within i (suc count) low = more (cell-within i (omega arith)) (cells-within (suc i) count (omega arith))

  control-within : OccurrenceWithin (controlled n)
  control-within =
      record {
        drives =
            record {
              count =
                  omega (
                    arith,
                    length-append (up_from (lines_net n) 6) (carry_net n ∷ shifted_in n ∷ flip_net n ∷ []),
                    length-up_from (lines_net n) 6,
                  );
              numbers =
                  all_both (small-run (lines_net n) 6 (omega arith))
                  (more {x = carry_net n} (omega arith) (more {x = shifted_in n} (omega arith) (more {x = flip_net n} (omega arith) none)));
            };
        refers = lit≤ tt;
        takes =
            record {
              count = omega (arith, length-up_from (op_net n) 4);
              numbers =
                  more (lit≤ tt) (more (lit≤ tt) (more {x = n} (omega arith) (small-run (op_net n) 4 (omega arith))));
            };
      }

  gate-within : (net a b : ℕ) → Small net → Small a → Small b → OccurrenceWithin (record { drives = net ∷ []; refers = 9; takes = a ∷ b ∷ [] })
  gate-within net a b on-net on-a on-b =
      single net 9 (a ∷ b ∷ []) on-net (lit≤ tt) (record { count = lit≤ tt; numbers = more on-a (more on-b none) })

  first-within : (steps : List Step) → width steps ≡ n → ModuleWithin (alu_module n copied)
  unfolding alu_module
  first-within steps whole =
      record {
        number = lit≤ tt;
        inputs =
            record {
              count =
                  omega (
                    arith,
                    length-append (up_from 0 (n + 1)) (up_from (b_net n) (n + 4)),
                    length-up_from 0 (n + 1),
                    length-up_from (b_net n) (n + 4),
                  );
              numbers = all_both (small-run 0 (n + 1) (omega arith)) (small-run (b_net n) (n + 4) (omega arith));
            };
        outputs = run-within n most (out_net n) (n + 2) (omega arith) (omega arith);
        count = omega (arith, alu-length n copied steps whole);
        occurrences =
            more control-within
            (all_both (copies-within (lines_net n) (lines_net n + 6) copied (omega arith) (omega arith))
            (all_both (cells-within 0 n (omega arith))
            (more
            (record {
              drives = run-within n most (suc (carry_net n)) n (omega arith) (omega arith);
              refers = lit≤ tt;
              takes = wide-within n most (carry_net n) (p_net n) (omega arith) (omega arith);
            })
            (more (gate-within (out_net n) (3 * n + 6) (flip_net n) (omega arith) (omega arith) (omega arith))
            (more (gate-within (suc (out_net n)) (3 * n + 6) (3 * n + 5) (omega arith) (omega arith) (omega arith))
            (row_within n most 9 (result_net n) (q_net n) (carry_net n) n (lit≤ tt) (omega arith) (omega arith) (omega arith)))))));
      }

-- The control and the cell.
parts_within : All ModuleWithin (control ∷ cell ∷ [])
unfolding
    small_file small_module small_occurrence few_nets small_number encode file_numbers module_numbers occurrence_numbers each number_bytes
parts_within = (file-within (control ∷ cell ∷ []) refl).modules.modules

pub alu-within : (n : ℕ) → n ≤ 64 → Within (alu n)
unfolding alu alu_over
alu-within n most =
    let whole = steps-width n in
    record {
      modules =
          record {
            count = lit≤ tt;
            modules =
                more (first-within n (copy_count n) most (copies-most n) (steps n) whole)
                (all_both parts_within (more (lookahead-within n most (steps n) whole) carriers-within));
          };
      bytes = omega (arith, alu-bytes n);
    }

pub alu-read-back : (n : ℕ) → n ≤ 64 → read (encode (alu n)) ≡ holds (alu n)
alu-read-back n most = round_trip (alu n) (alu-within n most)

-- The check accepts the written file of each width from 1 to 64.
pub alu-file-accepted : (n : ℕ) → 1 ≤ n → n ≤ 64 → verdict (encode (alu n)) ≡ good
unfolding verdict
alu-file-accepted n least most = ap verdict_of (alu-read-back n most) ∙ alu-accepted n least most
