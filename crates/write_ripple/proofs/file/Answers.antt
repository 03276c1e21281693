-- `ripple::file` meets its contract: the count of modules and the modules, put one behind the other, are the file's bytes.
-- Assumes nothing.
use Prim.Native.Nat.{ℕ, ◌≤◌}
use native.Mathlib.Omega.{arith}
use mathlib.Core.List.{List, ◌∷◌, ◌++◌}
use lib.ListN.{length}
use Rattle.meaning.specs.Layout.{each, module_numbers, number_bytes}
use Rattle.meaning.specs.Adder.{ripple_adder, full_adder, half_adder}
use Rattle.laws.specs.Adder.Bytes.{most-bytes-of-adder}
use Rattle.write_pieces.specs.Rooms.{Room}
use Rattle.bytes_out.specs.Puts.{put_front}
use Rattle.write_pieces.specs.Laying.{laying-start, laying-left, laying-put, laying-last, room-first}
use Rattle.write_ripple.proofs.Modules.{file-of-modules}
use Rattle.write_ripple.proofs.file.Goals as goal

room : (n : ℕ) (bytes : List ℕ)
    → (1 ≤ n) × (n ≤ 64) × (1019 ≤ length bytes)
    → Room (3 ∷ (each number_bytes (module_numbers (ripple_adder n)) ++ (module_numbers full_adder ++ module_numbers half_adder))) bytes 0
room n bytes asked = rw (← file-of-modules n) (omega (arith, most-bytes-of-adder n asked.0 asked.1))

pub ripple_adder-second-requires : goal.ripple_adder-second-requires
ripple_adder-second-requires c =
    let one = laying-put c.copy-first.ensures (laying-start (room _ _ c.requires)) in
    (c.requires.1, room-first _ (laying-left one))

pub full_adder-third-requires : goal.full_adder-third-requires
full_adder-third-requires c =
    let one = laying-put c.copy-first.ensures (laying-start (room _ _ c.requires)) in
    room-first _ (laying-left (laying-put c.ripple_adder-second.ensures one))

pub half_adder-requires : goal.half_adder-requires
half_adder-requires c =
    let one = laying-put c.copy-first.ensures (laying-start (room _ _ c.requires)) in
    laying-left (laying-put c.full_adder-third.ensures (laying-put c.ripple_adder-second.ensures one))

pub returns : goal.returns
returns c =
    let one = laying-put c.copy-first.ensures (laying-start (room _ _ c.requires)) in
    let three = laying-put c.full_adder-third.ensures (laying-put c.ripple_adder-second.ensures one) in
    rw (file-of-modules c.args.width) (put_front (laying-last c.half_adder.ensures three))
