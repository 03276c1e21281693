-- No record, an empty front, and sums of 0.
use Rattle.std.proofs.Common.{refl}
use Rattle.fasta.proofs.Stepping.{no_front}
use Rattle.fasta.proofs.reading.begin.Statement.{statement}
use Rattle.fasta.proofs.reading.begin.Tie as tie

returns : tie.Need-returns
returns c = (
  refl,
  λ bases table roomy zeros.
      record { line = refl; bases = no_front bases; roomy = roomy; sums = record { told = refl; summed = zeros } },
)

pub begin_spec : {M : Type 1} → statement M
begin_spec = tie.close (tie.spec returns)
