-- `write_ripple::ripple_adder` meets its contract: pieces put one behind the other are the module's bytes. Assumes nothing.
use Rattle.std.proofs.Common.{ℕ, ◌+◌, ◌*◌, List, [], ◌∷◌, arith}
use Rattle.meaning.specs.Lists.{All, none, more}
use Rattle.meaning.specs.Ceilings.{Small}
use Rattle.meaning.specs.Layout.{each, module_numbers, number_bytes}
use Rattle.meaning.specs.Adder.{ripple_adder}
use Rattle.laws.specs.Adder.Numbers.{cells_numbers}
use Rattle.bytes_out.specs.Laying.{Laying}
use Rattle.write_pieces.specs.Rooms.{Room}
use Rattle.write_pieces.specs.Laying.{laying-start, laying-left, laying-put, laying-last, room-first}
use Rattle.write_ripple.proofs.Modules.{ripple_bytes, bytes-of-ripple}
use Rattle.write_ripple.proofs.ripple_adder.Goals as goal

two-small : (x y : ℕ) → Small x → Small y → All Small (x ∷ y ∷ [])
two-small x y small-x small-y = more small-x (more small-y none)

-- Nothing is laid, and there is room for all.
start : {bytes : List ℕ} {at : ℕ} (n : ℕ) → Room (each number_bytes (module_numbers (ripple_adder n))) bytes at
    → Laying (ripple_bytes n) (ripple_bytes n) bytes at bytes at
start n room = laying-start (rw (bytes-of-ripple n) at room)

pub put_list-inputs-requires : goal.put_list-inputs-requires
put_list-inputs-requires c =
    let n = c.args.width in
    (two-small 18 (2 * n + 1) (omega arith) (omega arith), room-first _ (laying-left (start n c.requires.1)))

pub put_run-outputs-requires : goal.put_run-outputs-requires
put_run-outputs-requires c =
    let one = laying-put c.put_list-inputs.ensures (start c.args.width c.requires.1) in
    (omega arith, room-first _ (laying-left one))

pub put_list-sums-requires : goal.put_list-sums-requires
put_list-sums-requires c =
    let one = laying-put c.put_list-inputs.ensures (start c.args.width c.requires.1) in
    (more {x = c.args.width + 1} (omega arith) none, room-first _ (laying-left (laying-put c.put_run-outputs.ensures one)))

pub put_run-last-requires : goal.put_run-last-requires
put_run-last-requires c =
    let one = laying-put c.put_list-inputs.ensures (start c.args.width c.requires.1) in
    let two = laying-put c.put_run-outputs.ensures one in
    (omega arith, room-first _ (laying-left (laying-put c.put_list-sums.ensures two)))

pub put_list-bits-requires : goal.put_list-bits-requires
put_list-bits-requires c =
    let n = c.args.width in
    let one = laying-put c.put_list-inputs.ensures (start n c.requires.1) in
    let three = laying-put c.put_list-sums.ensures (laying-put c.put_run-outputs.ensures one) in
    (two-small (4 * n) n (omega arith) (omega arith), room-first _ (laying-left (laying-put c.put_run-last.ensures three)))

pub cells-requires : goal.cells-requires
unfolding ripple_adder cells_numbers
cells-requires c =
    let one = laying-put c.put_list-inputs.ensures (start c.args.width c.requires.1) in
    let three = laying-put c.put_list-sums.ensures (laying-put c.put_run-outputs.ensures one) in
    (c.requires.0, laying-left (laying-put c.put_list-bits.ensures (laying-put c.put_run-last.ensures three)))

pub returns : goal.returns
unfolding ripple_adder cells_numbers
returns c =
    let one = laying-put c.put_list-inputs.ensures (start c.args.width c.requires.1) in
    let three = laying-put c.put_list-sums.ensures (laying-put c.put_run-outputs.ensures one) in
    let five = laying-put c.put_list-bits.ensures (laying-put c.put_run-last.ensures three) in
    rw (bytes-of-ripple c.args.width) (laying-last c.cells.ensures five)
