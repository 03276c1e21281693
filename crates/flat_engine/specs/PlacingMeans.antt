-- Placing a module of a resolved file on frames is placing it as `meaning` has it: each module of a file that fits gives the same nets
-- and the same board, if it is given as many nets as it has inputs.
use Rattle.std.specs.Prelude.{ℕ, suc, ◌+◌, ◌≡◌, refl, List, ◌∷◌, ◌++◌, map, length}
use Rattle.std.proofs.Common.{sym, ap, subst, ◌∙◌, append_assoc, append-nil}
use Rattle.std.proofs.Math.Path.{fun_ext}
use Rattle.meaning.specs.Syntax.{Occurrence, Module}
use Rattle.meaning.specs.Boxlist.{box, assoc}
use Rattle.meaning.specs.Limits.{driven}
use Rattle.meaning.specs.Evaluation.{Env, look_all, pairs}
use Rattle.meaning.specs.Flattening.{Board, Placed, Placing, place_referred, Walked, place_body, place_module, place}
use Rattle.laws.specs.WellFormed.{Reference, to_gate, to_module}
use Rattle.laws.specs.OutputCount.{length-of-look_all}
use Rattle.nets.specs.Slots.{slot_of}
use Rattle.image.specs.Resolved.{position_of, nets_of, resolve_occurrence, resolve_module, resolve_from, resolve}
use Rattle.image.specs.Frames.{read_slots}
use Rattle.image.specs.Fitting.{Fits}
use Rattle.image.specs.Searching.{Search}
use Rattle.image.specs.Referring.{Refers, refer_no_gate}
use Rattle.image.specs.Keeping.{Kept, Turn, kept_in_file}
use Rattle.image.specs.Ordered.{Ordered, done, step, ordered, slot-known, outputs-known}
use Rattle.image.specs.Holding.{Holds, holds_more, holds-inputs, read_known}
use Rattle.flat_engine.specs.Placing.{walk_placed, place_frame, place_frames}

-- Both placings say of a number what they say of the first module that has it.
place-search : Search place (λ m later. place_module (place later) m)
unfolding place
place-search =
    record {
      here = λ m later number h. fun_ext (λ nets. fun_ext (λ board. rw h));
      past = record { passes = λ m later number h. fun_ext (λ nets. fun_ext (λ board. rw h)) };
    }

pub place_frames-search : Search place_frames (λ m later. place_frame (place_frames later) m)
unfolding place_frames
place_frames-search =
    record {
      here = λ m later number h. fun_ext (λ nets. fun_ext (λ board. rw h));
      past = record { passes = λ m later number h. fun_ext (λ nets. fun_ext (λ board. rw h)) };
    }

-- Two ways to place a module: they do the same, and give as many nets as it has outputs.
record Alike (m : Module) (places places' : List ℕ → Board → Placed) : Type 0 where
  same : (nets : List ℕ) (b : Board) → length nets ≡ length m.inputs → places' nets b ≡ places nets b
  count : (nets : List ℕ) (b : Board) → length (places nets b).nets ≡ length m.outputs

-- What occurrences refer to is placed the same before and after resolution, and gives as many nets as they drive.
record Applied (refer : ℕ → ℕ) (later : List Module) (l l' : Placing) : Type 0 where
  same :
      (o : Occurrence)
      → Reference later o
      → (nets : List ℕ) (b : Board)
      → length nets ≡ length o.takes
      → place_referred l' (refer o.refers) nets b ≡ place_referred l o.refers nets b
  count :
      (o : Occurrence)
      → Reference later o
      → (nets : List ℕ) (b : Board)
      → length (place_referred l o.refers nets b).nets ≡ length o.drives

all-applied :
    {refer : ℕ → ℕ} {position : ℕ} {later : List Module}
    → Refers refer position later
    → Kept Alike place place_frames refer position later
    → Applied refer later (place later) (place_frames (resolve_from refer position later))
all-applied {refer} {position} {later} refers before = record { same = same; count = count }
  where
    same :
        (o : Occurrence)
        → Reference later o
        → (nets : List ℕ) (b : Board)
        → length nets ≡ length o.takes
        → place_referred (place_frames (resolve_from refer position later)) (refer o.refers) nets b
        ≡ place_referred (place later) o.refers nets b
    same o (to_gate h arity drives) nets b count = rw (refers.gates o.refers h, h)
    same o (to_module m h e takes drives) nets b count =
        rw (refer_no_gate refers o.refers m e, h) ((before.kept o.refers m e).same nets b (count ∙ takes))

    count :
        (o : Occurrence)
        → Reference later o
        → (nets : List ℕ) (b : Board)
        → length (place_referred (place later) o.refers nets b).nets ≡ length o.drives
    count o (to_gate h arity drives) nets b = rw h drives
    count o (to_module m h e takes drives) nets b = rw h ((before.kept o.refers m e).count nets b ∙ sym drives)

-- Where the two walks stand: the frame holds the nets of the environment, and the boards are one.
record Beside (nets : List ℕ) (w : Walked) (p : Placed) : Type 0 where
  holds : Holds 0 w.env nets p.nets
  board : p.board ≡ w.board

walk-beside :
    {l l' : Placing} {refer : ℕ → ℕ} {later : List Module}
    → Applied refer later l l'
    → (all : List ℕ) {nets : List ℕ} {os : List Occurrence} {env : Env ℕ} {frame : List ℕ} (b : Board)
    → all ≡ nets ++ driven os
    → Ordered later nets os
    → Holds 0 env nets frame
    → Beside all
    (place_body l os (record { env = env; board = b }))
    (walk_placed l' (map (resolve_occurrence (λ x. slot_of x all) refer) os) frame b)
unfolding place_body walk_placed driven
walk-beside applied all {nets} b e done holds = record { holds = rw (e ∙ append-nil nets) holds; board = refl }
walk-beside {l} {l'} {refer} applied all {nets} {env = env} {frame = frame} b e (step {o} {os} ok rest) holds =
    subst
    (λ (p : Placed).
    Beside all
    (place_body l os (record { env = pairs 0 o.drives placed.nets ++ env; board = placed.board }))
    (walk_placed l' (map (resolve_occurrence (λ x. slot_of x all) refer) os) (frame ++ p.nets) p.board))
    (sym same)
    (walk-beside applied all placed.board (e ∙ sym (append_assoc nets o.drives (driven os))) rest
    (holds_more 0 o.drives placed.nets holds ok.fresh (applied.count o ok.reference args b)))
  where
    args : List ℕ
    args = look_all 0 o.takes env

    placed : Placed
    placed = place_referred l o.refers args b

    same : place_referred l' (refer o.refers) (read_slots 0 frame (map (λ x. slot_of x all) o.takes)) b ≡ placed
    same =
        ap (λ (taken : List ℕ). place_referred l' (refer o.refers) taken b)
        (read_known 0 holds (slot-known all nets (driven (o ∷ os)) e) o.takes ok.bound)
        ∙ applied.same o ok.reference args b (length-of-look_all 0 o.takes env)

module_alike :
    (refer : ℕ → ℕ) (position : ℕ) (m : Module) (later : List Module)
    → Turn Alike place place_frames refer position m later
    → Alike m (place_module (place later) m)
    (place_frame (place_frames (resolve_from refer (suc position) later)) (resolve_module refer position m))
unfolding place_module place_frame resolve_module nets_of
module_alike refer position m later turn =
    record {
      same = λ nets b count.
          let w = walk-beside (all-applied turn.refers turn.before) (nets_of m) b refl (ordered turn.ok)
          (holds-inputs 0 m.inputs nets count) in
          rw (read_known 0 w.holds (λ x among. refl) m.outputs (outputs-known turn.ok), w.board);
      count = λ nets b. length-of-look_all 0 m.outputs _;
    }

pub frames-place :
    {ms : List Module}
    → Fits ms
    → (number : ℕ) (m : Module)
    → assoc number ms ≡ box m
    → (nets : List ℕ) (b : Board)
    → length nets ≡ length m.inputs
    → place_frames (resolve ms) (16 + position_of number ms) nets b ≡ place ms number nets b
frames-place fits number m e = (kept_in_file Alike place-search place_frames-search module_alike fits number m e).same
