-- In lists of zeros of the three lengths: reading has its tree, and its answer the room that it needs.
use Rattle.call_text.specs.Rooms.{in_tree, ready}
use Rattle.call_text.proofs.file_in.Goals as goal

pub read_in-read-requires : goal.read_in-read-requires
read_in-read-requires g c = in_tree c.requires

pub answer-requires : goal.answer-requires
answer-requires g c = ready c.requires c.read_in-read.ensures c.read_in-read.auto.numbers
