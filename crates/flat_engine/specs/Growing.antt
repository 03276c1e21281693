-- A board only grows: placing adds gates behind those before, and each takes one number.
use Rattle.std.specs.Prelude.{ℕ, ◌+◌, ◌≤◌, ◌≡◌, refl, Bool, true, false, cond, List, [], ◌∷◌, ◌++◌, eqb, length}
use Rattle.std.proofs.Common.{sym, ap, ◌∙◌, append-nil, append_assoc, arith, length-append}
use Rattle.meaning.specs.Lists.{All, none, more}
use Rattle.meaning.specs.Syntax.{Occurrence, Module}
use Rattle.meaning.specs.Gates.{is_gate}
use Rattle.meaning.specs.Layout.{each}
use Rattle.meaning.specs.Flattening.{Board, Placed, Placing, place_gate, place_referred}
use Rattle.laws.specs.Lists.{each_append}
use Rattle.image.specs.Frames.{read_slots}
use Rattle.flat_engine.specs.Placing.{walk_placed, place_frame, place_frames}

pub record Grows (a b : Board) : Type 0 where
  pub more : List Occurrence
  pub gates : b.gates ≡ a.gates ++ more
  pub next : b.next ≡ a.next + length more

grows-still : (a : Board) → Grows a a
grows-still a = record { more = []; gates = sym (append-nil a.gates); next = omega arith }

grows-on : {a b c : Board} → Grows a b → Grows b c → Grows a c
grows-on {a} g h =
    record {
      more = g.more ++ h.more;
      gates = h.gates ∙ ap (λ (l : List Occurrence). l ++ h.more) g.gates ∙ append_assoc a.gates g.more h.more;
      next = omega (arith, g.next, h.next, length-append g.more h.more);
    }

gate-grows : (kind : ℕ) (nets : List ℕ) (a : Board) → Grows a (place_gate kind nets a).board
gate-grows kind nets a =
    record { more = record { drives = a.next ∷ []; refers = kind; takes = nets } ∷ []; gates = refl; next = omega arith }

-- So does placing what an occurrence refers to, if placing a later module does.
record AllGrow (places : Placing) : Type 0 where
  grows : (number : ℕ) (nets : List ℕ) (a : Board) → Grows a (places number nets a).board

either : (t : Bool) {a : Board} (p q : Placed) → Grows a p.board → Grows a q.board → Grows a (cond t p q).board
either true p q g h = g
either false p q g h = h

referred-grows : {later : Placing} → AllGrow later → AllGrow (place_referred later)
referred-grows later =
    record { grows = λ number nets a. either (is_gate number) _ _ (gate-grows number nets a) (later.grows number nets a) }

walk-grows :
    {later : Placing}
    → AllGrow later
    → (os : List Occurrence) (frame : List ℕ) (a : Board)
    → Grows a (walk_placed later os frame a).board
unfolding walk_placed
walk-grows later [] frame a = grows-still a
walk-grows later (o ∷ os) frame a =
    grows-on ((referred-grows later).grows o.refers (read_slots 0 frame o.takes) a) (walk-grows later os _ _)

places_grow : (ms : List Module) → AllGrow (place_frames ms)
unfolding place_frames place_frame
places_grow [] = record { grows = λ number nets a. grows-still a }
places_grow (m ∷ ms) =
    let later = places_grow ms in
    record {
      grows = λ number nets a.
          either (eqb number m.number) _ _ (walk-grows later m.occurrences nets a) (later.grows number nets a);
    }

-- The walk through occurrences, among the modules of a file.
pub board-grows :
    (ms : List Module) (os : List Occurrence) (frame : List ℕ) (a : Board)
    → Grows a (walk_placed (place_frames ms) os frame a).board
board-grows ms = walk-grows (places_grow ms)

-- What the gates have in all, as their bytes.
pub pieces_grow :
    (f : Occurrence → List ℕ) {a b : Board} → Grows a b → length (each f a.gates) ≤ length (each f b.gates)
pieces_grow f {a} g = rw (g.gates, each_append f a.gates g.more, length-append) (omega arith)

-- What holds of all gates held of those before.
all-front : {P : Occurrence → Type 0} (os rest : List Occurrence) → All P (os ++ rest) → All P os
all-front [] rest h = none
all-front (o ∷ os) rest (more p h) = more p (all-front os rest h)

pub all-before : {P : Occurrence → Type 0} {a b : Board} → Grows a b → All P b.gates → All P a.gates
all-before {a = a} g h = all-front a.gates g.more (rw g.gates at h)
