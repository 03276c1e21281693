-- A byte that stands for a value puts it down where there is room; the loop ends where none is left, or no room.
use Rattle.std.proofs.Common.{ℕ, ◌+◌, ◌∷◌, drop, sym, ap, ◌∙◌, arith}
use Rattle.row_lines.specs.Words.{values_of}
use Rattle.row_lines.proofs.Values.{value-here, no_value-here, no_values}
use Rattle.row_lines.proofs.Putting.{goes_end, fitting-none, fitting-full, puts-value, puts_none}
use Rattle.row_lines.proofs.words.put_at.Goals.{then-mark-lt-GAP+else-at-values, else-mark-lt-GAP}
use Rattle.row_lines.proofs.words.put_at.Goals as goal

pub loop-byte-preserved : goal.loop-byte-preserved
loop-byte-preserved c =
    let l = c.loop-byte in
    let w = c.args.word.now in
    elim c.if-mark-lt-GAP.branch [
      | then-mark-lt-GAP+else-at-values a ↦
          let one = value-here w l.byte-index c.loop-byte-test.true (omega (arith, c.mark_of-mark.ensures, a.if-mark-lt-GAP.true)) in
          puts-value l.invariant c.loop-byte-test.true
          (one ∙ ap (λ (m : ℕ). m ∷ values_of (drop (l.byte-index + 1) w)) (sym c.mark_of-mark.ensures))
          a.if-at-values.false
          a.values-is
          a.at-is
      | else-mark-lt-GAP a ↦
          let none = no_value-here w l.byte-index c.loop-byte-test.true (omega (arith, c.mark_of-mark.ensures, a.if-mark-lt-GAP.false)) in
          puts_none l.invariant c.loop-byte-test.true none a.values-is a.at-is
    ]

pub returns-then-at-values : goal.returns-then-at-values
returns-then-at-values c =
    let l = c.loop-byte in
    goes_end (fitting-full l.values l.at _ c.if-at-values.true) l.invariant.goes

pub returns : goal.returns
returns c =
    let l = c.loop-byte in
    goes_end (fitting-none l.values l.at (no_values c.args.word.now l.byte-index c.loop-byte-test.false)) l.invariant.goes
