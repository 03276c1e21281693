-- The answer of a block: where no refusal applies, what the runs leave is what is asked for.
use Rattle.std.specs.Prelude.{Ok}
use Prim.Native.Nat.{ℕ, ◌+◌, ◌*◌, ◌≤◌}
use mathlib.Core.Path.{◌≡◌, sym, ap, ◌∙◌}
use mathlib.Core.List.{List, ◌++◌}
use native.Mathlib.Omega.{arith}
use native.Mathlib.Nat.{zero-add}
use borrow.Author.Tests.{eq-eqb, le-leb}
use lib.ListN.{length, drop, replicate}
use Rattle.meaning.specs.Layout.{each}
use Rattle.meaning.specs.Figures.{room}
use Rattle.meaning.specs.Calls.{Decision, answer, first_above, Written, out_after, scratch_after}
use Rattle.meaning.specs.Rows.{most_rows, rows_of, row_outputs, rows_evaluation_on}
use Rattle.laws.specs.RowParts.{length-of-rows}
use Rattle.laws.specs.RowBlocks.{length-of-row}
use Rattle.image.specs.Laid.{laid}
use Rattle.answers.specs.Answers.{writing_of}
use Rattle.answers.specs.Settled.{Settles}
use Rattle.open_finding.specs.Standing.{Standing}
use Rattle.open_finding.specs.declared.Site.{Site}
use Rattle.run_rows.specs.Running.{RowsRun}
use Rattle.call_flatten.proofs.Measured.{room-low}

-- What is laid at the front.
laid-front : (out xs : List ℕ) → laid out 0 xs ≡ xs ++ drop (length xs) out
unfolding laid
laid-front out xs = ap (λ (n : ℕ). xs ++ drop n out) (zero-add (length xs))

module _
    {image starts nets : List ℕ} {site : Site} (s : Standing image starts nets site) (rows : ℕ) (values scratch out : List ℕ) (few : rows ≤ most_rows)
    (fed : length values ≡ rows * length s.found.m.inputs) (small : first_above values ≡ length values) (wide : site.room ≤ length scratch)
    (long : rows * length s.found.m.outputs ≤ length out)
  where
    abbrev pub runnable : RowsRun image starts nets site rows values 65536 (length out)
    runnable = record { standing = s; fed = fed; roomy = omega (arith, room-low s); fits = long }

    abbrev bytes : List ℕ
    bytes = each (row_outputs s.ms site.number) (rows_of rows (length s.found.m.inputs) values)

    abbrev decision : Decision Written
    decision = rows_evaluation_on site.number rows values (length scratch) (length out) s.ms s.found.m

    decided : decision ≡ answer (record { bytes = bytes; cleared = room s.ms site.number })
    decided =
        rw
        (le-leb rows most_rows few, eq-eqb _ _ fed, eq-eqb _ _ small, le-leb (room s.ms site.number) (length scratch) (omega (arith, s.room_is)), le-leb _ _ long)

    pub answered :
        {scratch' out' : List ℕ} {count : ℕ}
        → out' ≡ laid out 0 bytes
        → scratch' ≡ replicate site.room 0 ++ drop site.room scratch
        → count ≡ rows * length s.found.m.outputs
        → Settles decision scratch out scratch' out' (Ok count)
    answered outputs cleared counted =
        record {
          answered =
              record {
                is =
                    ap Ok
                    (counted
                    ∙ sym
                    (length-of-rows (row_outputs s.ms site.number) (length s.found.m.outputs)
                    (length-of-row s.ms site.number s.found.found) rows (length s.found.m.inputs) values))
                    ∙ sym (ap writing_of decided);
                out = outputs ∙ laid-front out bytes ∙ sym (ap (λ (d : Decision Written). out_after d out) decided);
              };
          scratched =
              cleared
              ∙ ap (λ (n : ℕ). replicate n 0 ++ drop n scratch) s.room_is
              ∙ sym (ap (λ (d : Decision Written). scratch_after (λ w. w.cleared) d scratch) decided);
        }
