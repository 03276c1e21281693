-- `write_alu::file` meets its contract: the count of modules and the modules, put one behind the other, are the file's bytes.
-- Assumes nothing.
use Prim.Native.Nat.{ℕ, ◌+◌, ◌*◌, ◌≤◌}
use native.Mathlib.Omega.{arith}
use mathlib.Core.Path.{◌≡◌}
use mathlib.Core.List.{List}
use lib.ListN.{length}
use Rattle.meaning.specs.Alu.{copy_count}
use Rattle.laws.specs.Alu.Figures.{copies-most}
use Rattle.laws.specs.Alu.Numbers.{alu-bytes}
use Rattle.bytes_out.specs.Puts.{put_front}
use Rattle.write_pieces.specs.Rooms.{Room}
use Rattle.write_pieces.specs.Laying.{laying-start, laying-left, laying-put, laying-last, room-first}
use Rattle.write_alu.proofs.AluBytes.{file_pieces, bytes-of-file}
use Rattle.write_alu.proofs.file.Goals as goal

room : (n copied : ℕ) (bytes : List ℕ) → copied ≡ copy_count n → 100 * n + 720 ≤ length bytes → Room (file_pieces n copied) bytes 0
room n copied bytes is most = rw (← bytes-of-file n copied is) (omega (arith, alu-bytes n, most))

pub alu_module-second-requires : goal.alu_module-second-requires
alu_module-second-requires c =
    let one = laying-put c.copy-first.ensures (laying-start (room _ _ _ c.copy_count-copied.ensures c.requires.2)) in
    let pre = c.requires in (
      pre.1,
      omega (arith, pre.1, c.copy_count-copied.ensures, copies-most c.args.width),
      room-first _ (laying-left one),
    )

pub control-third-requires : goal.control-third-requires
control-third-requires c =
    let one = laying-put c.copy-first.ensures (laying-start (room _ _ _ c.copy_count-copied.ensures c.requires.2)) in
    room-first _ (laying-left (laying-put c.alu_module-second.ensures one))

pub cell-fourth-requires : goal.cell-fourth-requires
cell-fourth-requires c =
    let one = laying-put c.copy-first.ensures (laying-start (room _ _ _ c.copy_count-copied.ensures c.requires.2)) in
    room-first _ (laying-left (laying-put c.control-third.ensures (laying-put c.alu_module-second.ensures one)))

pub lookahead-fifth-requires : goal.lookahead-fifth-requires
lookahead-fifth-requires c =
    let one = laying-put c.copy-first.ensures (laying-start (room _ _ _ c.copy_count-copied.ensures c.requires.2)) in
    let three = laying-put c.control-third.ensures (laying-put c.alu_module-second.ensures one) in
    let pre = c.requires in
    (pre.0, pre.1, room-first _ (laying-left (laying-put c.cell-fourth.ensures three)))

pub carry_two-sixth-requires : goal.carry_two-sixth-requires
carry_two-sixth-requires c =
    let one = laying-put c.copy-first.ensures (laying-start (room _ _ _ c.copy_count-copied.ensures c.requires.2)) in
    let three = laying-put c.control-third.ensures (laying-put c.alu_module-second.ensures one) in
    room-first _ (laying-left (laying-put c.lookahead-fifth.ensures (laying-put c.cell-fourth.ensures three)))

pub carry_one-requires : goal.carry_one-requires
carry_one-requires c =
    let one = laying-put c.copy-first.ensures (laying-start (room _ _ _ c.copy_count-copied.ensures c.requires.2)) in
    let three = laying-put c.control-third.ensures (laying-put c.alu_module-second.ensures one) in
    let five = laying-put c.lookahead-fifth.ensures (laying-put c.cell-fourth.ensures three) in
    laying-left (laying-put c.carry_two-sixth.ensures five)

pub returns : goal.returns
returns c =
    let one = laying-put c.copy-first.ensures (laying-start (room _ _ _ c.copy_count-copied.ensures c.requires.2)) in
    let three = laying-put c.control-third.ensures (laying-put c.alu_module-second.ensures one) in
    let five = laying-put c.lookahead-fifth.ensures (laying-put c.cell-fourth.ensures three) in
    rw (bytes-of-file c.args.width _ c.copy_count-copied.ensures)
    (put_front (laying-last c.carry_one.ensures (laying-put c.carry_two-sixth.ensures five)))
