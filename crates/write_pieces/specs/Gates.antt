-- The numbers of the gates that written modules are made of.
use Rattle.std.specs.Prelude.{ℕ}
use Rattle.write_pieces.specs.declared.gates.Gate.{Gate}
use Rattle.write_pieces.specs.declared.gates.Gate.TheVariants.{Buffer, Not, Or, Xor, And, And3, Nor}

abbrev pub number_of : Gate → ℕ
number_of Buffer = 0
number_of Not = 1
number_of Or = 5
number_of Xor = 9
number_of And = 10
number_of And3 = 11
number_of Nor = 13
