-- `write_alu::alu_module` meets its contract: its pieces, put one behind the other. Assumes nothing.
use Rattle.std.proofs.Common.{ℕ, List, arith}
use Rattle.meaning.specs.Layout.{each, module_numbers, number_bytes}
use Rattle.meaning.specs.Alu.{alu_module}
use Rattle.bytes_out.specs.Laying.{Laying}
use Rattle.write_pieces.specs.Rooms.{Room}
use Rattle.write_pieces.specs.Laying.{laying-start, laying-left, laying-put, laying-last, room-first}
use Rattle.write_alu.proofs.AluBytes.{alu_bytes, bytes-of-alu}
use Rattle.write_alu.proofs.alu_module.Goals as goal

-- Nothing is laid, and there is room for all.
start : {bytes : List ℕ} {at : ℕ} (n copied : ℕ) → Room (each number_bytes (module_numbers (alu_module n copied))) bytes at
    → Laying (alu_bytes n copied) (alu_bytes n copied) bytes at bytes at
start n copied room = laying-start (rw (bytes-of-alu n copied) at room)

pub alu_head-lines-requires : goal.alu_head-lines-requires
alu_head-lines-requires c =
    (c.requires.0, c.requires.1, room-first _ (laying-left (start c.args.width c.args.copied c.requires.2)))

pub control_lines-again-requires : goal.control_lines-again-requires
control_lines-again-requires c =
    let one = laying-put c.alu_head-lines.ensures (start c.args.width c.args.copied c.requires.2) in
    (c.requires.0, room-first _ (laying-left one))

pub copies-bits-requires : goal.copies-bits-requires
copies-bits-requires c =
    let one = laying-put c.alu_head-lines.ensures (start c.args.width c.args.copied c.requires.2) in
    let pre = c.requires in
    (omega (arith, pre.0), omega (arith, pre.0), pre.1, room-first _ (laying-left (laying-put c.control_lines-again.ensures one)))

pub cells-carries-requires : goal.cells-carries-requires
cells-carries-requires c =
    let one = laying-put c.alu_head-lines.ensures (start c.args.width c.args.copied c.requires.2) in
    let three = laying-put c.copies-bits.ensures (laying-put c.control_lines-again.ensures one) in
    (c.requires.0, c.requires.1, room-first _ (laying-left three))

pub look_ahead-outputs-requires : goal.look_ahead-outputs-requires
look_ahead-outputs-requires c =
    let one = laying-put c.alu_head-lines.ensures (start c.args.width c.args.copied c.requires.2) in
    let three = laying-put c.copies-bits.ensures (laying-put c.control_lines-again.ensures one) in
    let pre = c.requires in
    (pre.0, omega (arith, pre.0), omega (arith, pre.0), room-first _ (laying-left (laying-put c.cells-carries.ensures three)))

pub flags-result-requires : goal.flags-result-requires
flags-result-requires c =
    let one = laying-put c.alu_head-lines.ensures (start c.args.width c.args.copied c.requires.2) in
    let three = laying-put c.copies-bits.ensures (laying-put c.control_lines-again.ensures one) in
    let five = laying-put c.look_ahead-outputs.ensures (laying-put c.cells-carries.ensures three) in
    (c.requires.0, room-first _ (laying-left five))

pub gate_row-requires : goal.gate_row-requires
gate_row-requires c =
    let one = laying-put c.alu_head-lines.ensures (start c.args.width c.args.copied c.requires.2) in
    let three = laying-put c.copies-bits.ensures (laying-put c.control_lines-again.ensures one) in
    let five = laying-put c.look_ahead-outputs.ensures (laying-put c.cells-carries.ensures three) in
    let pre = c.requires in
    (omega arith, omega (arith, pre.0), omega (arith, pre.0), omega (arith, pre.0), laying-left (laying-put c.flags-result.ensures five))

pub returns : goal.returns
returns c =
    let one = laying-put c.alu_head-lines.ensures (start c.args.width c.args.copied c.requires.2) in
    let three = laying-put c.copies-bits.ensures (laying-put c.control_lines-again.ensures one) in
    let five = laying-put c.look_ahead-outputs.ensures (laying-put c.cells-carries.ensures three) in
    rw (bytes-of-alu c.args.width c.args.copied)
    (laying-last c.gate_row.ensures (laying-put c.flags-result.ensures five))
