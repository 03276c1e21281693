-- What stands in front are the bits of the bases that were passed; what stands behind is as it was.
use Rattle.std.proofs.Common.{◌≡◌, ◌*◌, ◌-◌, ◌++◌, map, drop}
use Rattle.meaning.specs.Adder.{bit}
use Rattle.meaning.specs.Filing.{word_bits}
use Rattle.filing.proofs.rows.lay_bits.Given as goal

abbrev pub invariant-loop-i : goal.invariant-loop-i
invariant-loop-i l = l.bits ≡ map bit (word_bits (drop (l.count - l.i) l.bases)) ++ drop (2 * l.i) l.initial.bits
