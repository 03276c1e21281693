-- `blocks::pair_block` meets its contract: head and gates put one behind the other are the module's numbers. Assumes nothing.
use native.Mathlib.Omega.{arith}
use borrow.Author.Rules.{rules}
use Rattle.meaning.specs.Layout.{each, occurrence_numbers, module_numbers}
use Rattle.meaning.specs.Adder.{up_from}
use Rattle.write_pieces.specs.Heads.{head_numbers}
use Rattle.bytes_out.specs.Puts.{put-more}
use Rattle.write_blocks.proofs.pair_block.Statement.{statement}
use Rattle.write_blocks.proofs.pair_block.Tie as tie

head-requires : tie.Need-head-empty-requires
unfolding module_numbers occurrence_numbers each head_numbers up_from
head-requires c κs = omega arith

gate-requires : tie.Need-gate-count-requires
unfolding module_numbers occurrence_numbers each head_numbers up_from
gate-requires c κs = omega arith

gate-requires-2 : tie.Need-gate-requires
unfolding module_numbers occurrence_numbers each head_numbers up_from
gate-requires-2 c κs = omega arith

returns : tie.Need-returns
unfolding module_numbers occurrence_numbers each head_numbers up_from
returns c =
    let two = put-more c.head-empty.ensures (omega arith) c.gate-count.ensures in
    put-more two (omega arith) c.gate.ensures

pub pair_block_spec : {M : Type 1} → statement M
pair_block_spec = tie.close (tie.spec head-requires gate-requires gate-requires-2 (λ c. search rules) returns)
