-- The loop of `bytes::copy`: what is laid and what is left make the piece.
use Rattle.std.proofs.Common.{drop}
use Rattle.bytes_out.specs.Laying.{Laying}
use Rattle.write_pieces.proofs.bytes.copy.Given as goal

abbrev pub invariant-loop-byte : goal.invariant-loop-byte
invariant-loop-byte l = Laying l.piece (drop l.byte-index l.piece) l.initial.bytes l.initial.at l.bytes l.at
