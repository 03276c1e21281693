-- `write_fast::file` meets its contract: the count of modules and the modules, put one behind the other, are the file's bytes.
-- Assumes nothing.
use Prim.Native.Nat.{ℕ, ◌+◌, ◌*◌, ◌≤◌}
use native.Mathlib.Omega.{arith}
use mathlib.Core.List.{List}
use lib.ListN.{length}
use Rattle.laws.specs.FastAdder.Numbers.{fast_adder-bytes}
use Rattle.bytes_out.specs.Puts.{put_front}
use Rattle.write_pieces.specs.Rooms.{Room}
use Rattle.write_pieces.specs.Laying.{laying-start, laying-left, laying-put, laying-last, room-first}
use Rattle.write_fast.proofs.FastBytes.{file_pieces, bytes-of-file}
use Rattle.write_fast.proofs.file.Goals as goal

room : (n : ℕ) (bytes : List ℕ) → 86 * n + 132 ≤ length bytes → Room (file_pieces n) bytes 0
room n bytes most = rw (← bytes-of-file n) (omega (arith, fast_adder-bytes n, most))

pub fast_module-second-requires : goal.fast_module-second-requires
fast_module-second-requires c =
    let one = laying-put c.copy-first.ensures (laying-start (room _ _ c.requires.2)) in
    (c.requires.1, room-first _ (laying-left one))

pub lookahead-third-requires : goal.lookahead-third-requires
lookahead-third-requires c =
    let one = laying-put c.copy-first.ensures (laying-start (room _ _ c.requires.2)) in
    (c.requires.0, c.requires.1, room-first _ (laying-left (laying-put c.fast_module-second.ensures one)))

pub carry_two-fourth-requires : goal.carry_two-fourth-requires
carry_two-fourth-requires c =
    let one = laying-put c.copy-first.ensures (laying-start (room _ _ c.requires.2)) in
    room-first _ (laying-left (laying-put c.lookahead-third.ensures (laying-put c.fast_module-second.ensures one)))

pub carry_one-requires : goal.carry_one-requires
carry_one-requires c =
    let one = laying-put c.copy-first.ensures (laying-start (room _ _ c.requires.2)) in
    let three = laying-put c.lookahead-third.ensures (laying-put c.fast_module-second.ensures one) in
    laying-left (laying-put c.carry_two-fourth.ensures three)

pub returns : goal.returns
returns c =
    let one = laying-put c.copy-first.ensures (laying-start (room _ _ c.requires.2)) in
    let three = laying-put c.lookahead-third.ensures (laying-put c.fast_module-second.ensures one) in
    rw (bytes-of-file c.args.width)
    (put_front (laying-last c.carry_one.ensures (laying-put c.carry_two-fourth.ensures three)))
