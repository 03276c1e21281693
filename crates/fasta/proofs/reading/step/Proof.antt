-- Each arm is the step of its kind.
use Rattle.std.proofs.Common.{sym, refl, arith, length-take-le, rules}
use Rattle.fasta.proofs.Filing.{closed-front}
use Rattle.fasta.proofs.Stepping.{step_of, no_front}
use Rattle.fasta.proofs.reading.step.Statement.{statement}
use Rattle.fasta.proofs.reading.step.Tie as tie

abbrev base : tie.After-slice_known-in-Base-1 → tie.After-put
base c = c.before.before

slice-aggregate-close-record : tie.Need-slice_bounds-close_record-end-in-Begin
slice-aggregate-close-record c =
    sym (length-take-le c.args.reading.filled c.args.bases.now c.requires.0)

returns : tie.Need-returns-in-End
returns c =
    let a = c.args in (
      c.requires.0,
      λ s h.
          rw (step_of a.letters s a.byte h.line c.kind_of.ensures c.in-End.is)
          record { line = refl; bases = h.bases; roomy = h.roomy; sums = h.sums },
    )

returns-2 : tie.Need-returns-in-Begin
returns-2 c =
    let a = c.args in (
      omega arith,
      λ s h.
          rw (step_of a.letters s a.byte h.line c.kind_of.ensures c.in-Begin.is)
          record {
            line = refl;
            bases = no_front a.bases.now;
            roomy = h.roomy;
            sums = closed-front a.letters s h.bases h.roomy (c.close_record.ensures s.sums h.sums);
          },
    )

returns-3 : tie.Need-returns-in-Skip
returns-3 c =
    let a = c.args in (
      c.requires.0,
      λ s h.
          rw (step_of a.letters s a.byte h.line c.kind_of.ensures c.in-Skip.is)
          record { line = refl; bases = h.bases; roomy = h.roomy; sums = h.sums },
    )

returns-4 : tie.Need-returns-in-Base
returns-4 c =
    let a = c.args in (
      c.put.ensures.0,
      λ s h.
          rw (step_of a.letters s a.byte h.line c.kind_of.ensures c.in-Base.is)
          record {
            line = refl;
            bases = c.put.ensures.1 s.bases h.bases;
            roomy = omega (arith, h.roomy, c.put.auto.bases);
            sums = h.sums;
          },
    )

pub step_spec : {M : Type 1} → statement M
step_spec =
    tie.close
    (tie.spec
    (λ c κs. search rules)
    (λ c. search rules)
    (λ c. search rules)
    (λ c. search rules)
    slice-aggregate-close-record
    (λ c κs. search rules)
    (λ c. search rules)
    (λ c. search rules)
    (λ c κs. search rules)
    returns
    (λ c. search rules)
    (λ c. search rules)
    returns-2
    returns-3
    (λ c. search rules)
    returns-4)
