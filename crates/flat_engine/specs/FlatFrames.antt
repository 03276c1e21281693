-- The walk over the module at its position, from nets 0, 1, 2 and so on for its inputs, gives the flattened module.
use Rattle.std.specs.Prelude.{ℕ, ◌+◌, ◌≤◌, ◌≡◌, List, [], ◌∷◌, ◌++◌, length, get_or, take}
use Rattle.std.proofs.Common.{sym, ap, ◌∙◌, arith, length-append, length-take, take-take}
use Rattle.std.proofs.Math.Seq.{take-length, take-append_seam}
use Rattle.meaning.specs.Syntax.{Occurrence, Module}
use Rattle.meaning.specs.Limits.{net_count}
use Rattle.meaning.specs.Flattening.{Board, Placed, Placing, place_referred, place, flat_module}
use Rattle.meaning.specs.Adder.{up_from}
use Rattle.laws.specs.Adder.Nets.{length-up_from}
use Rattle.image.specs.Resolved.{nets_of}
use Rattle.image.specs.Entries.{run_at}
use Rattle.image.specs.Frames.{read_slots, Filled, FrameOk}
use Rattle.flat_engine.specs.Placing.{walk_placed, place_frame, place_frames}
use Rattle.flat_engine.specs.Growing.{Grows, board-grows}
use Rattle.flat_engine.specs.Runs.{take-run, read-run}
use Rattle.flat_engine.specs.AtPosition.{AtPosition}

-- A walk keeps what stood at the front of the frame.
walk-keeps : (later : Placing) (os : List Occurrence) (frame : List ℕ) (b : Board) → take (length frame) (walk_placed later os frame b).nets ≡ frame
unfolding walk_placed
walk-keeps later [] frame b = take-length frame
walk-keeps later (o ∷ os) frame b =
    let placed = place_referred later o.refers (read_slots 0 frame o.takes) b in
    let end = (walk_placed later os (frame ++ placed.nets) placed.board).nets in
    let longer : length frame ≤ length (frame ++ placed.nets) = omega (arith, length-append frame placed.nets) in
    sym (take-take (length frame) (length (frame ++ placed.nets)) end longer)
    ∙ ap (take (length frame)) (walk-keeps later os (frame ++ placed.nets) placed.board)
    ∙ take-append_seam frame placed.nets

-- The inputs of a module each of whose nets is its own slot.
own-inputs : {position : ℕ} {r : Module} {later : List Module} → FrameOk position r later → r.inputs ≡ up_from 0 (length r.inputs)
unfolding nets_of net_count
own-inputs {r = r} ok =
    sym (take-append_seam r.inputs _)
    ∙ ap (take (length r.inputs)) ok.slots
    ∙ take-run 0 (length r.inputs) (net_count r) (omega arith)

pub inputs-filled : {position : ℕ} {r : Module} {later : List Module} → FrameOk position r later → Filled (net_count r) r.inputs
unfolding net_count
inputs-filled {r = r} ok =
    let count = length r.inputs in
    record {
      slot = λ i h.
          let is = ap (λ (xs : List ℕ). get_or xs i 0) (own-inputs ok) ∙ run_at 0 count i h in
          omega (arith, is);
    }

-- What the walk comes to.
pub record FlatWalk (r : Module) (f : Module) (inputs : ℕ) (w : Placed) : Type 0 where
  pub gates : w.board.gates ≡ f.occurrences
  pub next : w.board.next ≡ inputs + length f.occurrences
  pub ins : read_slots 0 w.nets r.inputs ≡ f.inputs
  pub outs : read_slots 0 w.nets r.outputs ≡ f.outputs

pub flat_walk :
    {ms : List Module} {number : ℕ} {m : Module} {k : ℕ} (a : AtPosition ms number m k)
    → FrameOk k a.r a.later
    → (inputs : ℕ)
    → inputs ≡ length m.inputs
    → FlatWalk a.r (flat_module ms number inputs) inputs
    (walk_placed (place_frames a.later) a.r.occurrences (up_from 0 inputs) (record { next = inputs; gates = [] }))
unfolding flat_module place_frame
flat_walk {ms} {number} {m} a ok inputs e =
    record {
      gates = gates;
      next = omega (arith, grows.next, ap length (sym grows.gates ∙ gates));
      ins = ap (read_slots 0 walked.nets) own ∙ read-run walked.nets 0 inputs long ∙ kept;
      outs = ap (λ (q : Placed). q.nets) same;
    }
  where
    start : Board
    start = record { next = inputs; gates = [] }

    walked : Placed
    walked = walk_placed (place_frames a.later) a.r.occurrences (up_from 0 inputs) start

    same : place_frame (place_frames a.later) a.r (up_from 0 inputs) start ≡ place ms number (up_from 0 inputs) start
    same = a.place (up_from 0 inputs) start (length-up_from 0 inputs ∙ e)

    gates : walked.board.gates ≡ (place ms number (up_from 0 inputs) start).board.gates
    gates = ap (λ (q : Placed). q.board.gates) same

    grows : Grows start walked.board
    grows = board-grows a.later a.r.occurrences (up_from 0 inputs) start

    kept : take inputs walked.nets ≡ up_from 0 inputs
    kept =
        ap (λ (n : ℕ). take n walked.nets) (sym (length-up_from 0 inputs))
        ∙ walk-keeps (place_frames a.later) a.r.occurrences (up_from 0 inputs) start

    long : 0 + inputs ≤ length walked.nets
    long = omega (arith, ap length kept, length-up_from 0 inputs, length-take inputs walked.nets)

    own : a.r.inputs ≡ up_from 0 inputs
    own = own-inputs ok ∙ ap (up_from 0) (a.inputs ∙ sym e)
