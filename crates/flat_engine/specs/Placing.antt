-- Flattening on frames: the placing of `meaning` in a resolved file. A module's nets are a frame, a list of new nets, one for each
-- slot in the order in which slots are given nets; what an occurrence drives is added at the frame's end.
use Rattle.std.specs.Prelude.{ℕ, cond, List, [], ◌∷◌, ◌++◌, eqb}
use Rattle.meaning.specs.Syntax.{Occurrence, Module}
use Rattle.meaning.specs.Flattening.{Board, Placed, Placing, place_referred}
use Rattle.image.specs.Frames.{read_slots}

-- Occurrences from first to last. The nets of what is placed are the whole frame.
unfoldable pub walk_placed : (later : Placing) → List Occurrence → List ℕ → Board → Placed
walk_placed later [] frame board = record { nets = frame; board = board }
walk_placed later (o ∷ os) frame board =
    let placed = place_referred later o.refers (read_slots 0 frame o.takes) board in
    walk_placed later os (frame ++ placed.nets) placed.board

unfoldable pub place_frame : (later : Placing) → Module → List ℕ → Board → Placed
place_frame later m nets board =
    let walked = walk_placed later m.occurrences nets board in
    record { nets = read_slots 0 walked.nets m.outputs; board = walked.board }

unfoldable pub place_frames : List Module → Placing
place_frames [] number nets board = record { nets = []; board = board }
place_frames (m ∷ ms) number nets board =
    cond (eqb number m.number) (place_frame (place_frames ms) m nets board) (place_frames ms number nets board)
