-- The step of a number is that of a count at most 16,383.
use Rattle.read_parts.specs.Exact.{bytes-all}
use Rattle.read_parts.proofs.Largest.{count-largest}
use Rattle.read_parts.proofs.way.keep_number.Goals as goal

pub returns : goal.returns
returns c =
    let bytes = bytes-all c.args.bytes.now (λ i. (c.type_inv.bytes i).fits) in
    let kept = c.keep_count.ensures in
    record { answers = rw (count-largest bytes c.args.spot.place) at kept.answers; lays = kept.lays }
