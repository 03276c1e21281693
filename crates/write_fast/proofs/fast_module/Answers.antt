-- `write_fast::fast_module` meets its contract: its pieces, put one behind the other. Assumes nothing.
use Rattle.std.proofs.Common.{ℕ, List, arith}
use Rattle.meaning.specs.Layout.{each, module_numbers, number_bytes}
use Rattle.meaning.specs.FastAdder.{fast_module}
use Rattle.bytes_out.specs.Laying.{Laying}
use Rattle.write_pieces.specs.Rooms.{Room}
use Rattle.write_pieces.specs.Laying.{laying-start, laying-left, laying-put, laying-last, room-first}
use Rattle.write_fast.proofs.FastBytes.{fast_bytes, bytes-of_fast}
use Rattle.write_fast.proofs.fast_module.Goals as goal

-- Nothing is laid, and there is room for all.
start : {bytes : List ℕ} {at : ℕ} (n : ℕ) → Room (each number_bytes (module_numbers (fast_module n))) bytes at
    → Laying (fast_bytes n) (fast_bytes n) bytes at bytes at
start n room = laying-start (rw (bytes-of_fast n) at room)

pub fast_head-passes-requires : goal.fast_head-passes-requires
fast_head-passes-requires c = (c.requires.0, room-first _ (laying-left (start c.args.width c.requires.1)))

pub gate_row-makes-requires : goal.gate_row-makes-requires
gate_row-makes-requires c =
    let one = laying-put c.fast_head-passes.ensures (start c.args.width c.requires.1) in
    (omega arith, omega arith, omega arith, omega arith, room-first _ (laying-left one))

pub gate_row-carries-requires : goal.gate_row-carries-requires
gate_row-carries-requires c =
    let one = laying-put c.fast_head-passes.ensures (start c.args.width c.requires.1) in
    (omega arith, omega arith, omega arith, omega arith, room-first _ (laying-left (laying-put c.gate_row-makes.ensures one)))

pub look_ahead-sums-requires : goal.look_ahead-sums-requires
look_ahead-sums-requires c =
    let one = laying-put c.fast_head-passes.ensures (start c.args.width c.requires.1) in
    let three = laying-put c.gate_row-carries.ensures (laying-put c.gate_row-makes.ensures one) in
    (c.requires.0, omega arith, omega arith, room-first _ (laying-left three))

pub gate_row-requires : goal.gate_row-requires
gate_row-requires c =
    let one = laying-put c.fast_head-passes.ensures (start c.args.width c.requires.1) in
    let three = laying-put c.gate_row-carries.ensures (laying-put c.gate_row-makes.ensures one) in
    (omega arith, omega arith, omega arith, omega arith, laying-left (laying-put c.look_ahead-sums.ensures three))

pub returns : goal.returns
returns c =
    let one = laying-put c.fast_head-passes.ensures (start c.args.width c.requires.1) in
    let three = laying-put c.gate_row-carries.ensures (laying-put c.gate_row-makes.ensures one) in
    rw (bytes-of_fast c.args.width)
    (laying-last c.gate_row.ensures (laying-put c.look_ahead-sums.ensures three))
