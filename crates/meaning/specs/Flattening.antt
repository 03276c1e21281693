-- Flattening (document 01): one module of the same number; inputs become 0, 1, 2 and so on; gates stand in the order in which
-- evaluation reaches them, and each drives the next number. It is evaluation with nets of the new module for values, and the
-- gates set down so far carried along.
use Rattle.std.specs.Prelude.{ℕ, suc, cond, List, [], ◌∷◌, ◌++◌, eqb}
use Rattle.meaning.specs.Syntax.{Occurrence, Module}
use Rattle.meaning.specs.Gates.{is_gate}
use Rattle.meaning.specs.Evaluation.{Env, look_all, pairs}
use Rattle.meaning.specs.Adder.{up_from}

-- The number that the next gate drives, and the gates so far.
pub record Board : Type 0 where
  pub next : ℕ
  pub gates : List Occurrence

-- What was reached gives the nets that stand for its outputs, and the board after it.
pub record Placed : Type 0 where
  pub nets : List ℕ
  pub board : Board

abbrev pub Placing : Type 0
Placing = ℕ → List ℕ → Board → Placed

-- A gate is set down on the nets of its arguments.
abbrev pub place_gate : Placing
place_gate kind nets board =
    record {
      nets = board.next ∷ [];
      board =
          record {
            next = suc board.next;
            gates = board.gates ++ (record { drives = board.next ∷ []; refers = kind; takes = nets } ∷ []);
          };
    }

abbrev pub place_referred : (later : Placing) → Placing
place_referred later number nets board = cond (is_gate number) (place_gate number nets board) (later number nets board)

-- Where the walk over occurrences stands.
pub record Walked : Type 0 where
  pub env : Env ℕ
  pub board : Board

unfoldable pub place_body : (later : Placing) → List Occurrence → Walked → Walked
place_body later [] w = w
place_body later (o ∷ os) w =
    let placed = place_referred later o.refers (look_all 0 o.takes w.env) w.board in
    place_body later os (record { env = pairs 0 o.drives placed.nets ++ w.env; board = placed.board })

unfoldable pub place_module : (later : Placing) → Module → List ℕ → Board → Placed
place_module later m nets board =
    let w = place_body later m.occurrences (record { env = pairs 0 m.inputs nets; board = board }) in
    record { nets = look_all 0 m.outputs w.env; board = w.board }

unfoldable pub place : List Module → Placing
place [] number nets board = record { nets = []; board = board }
place (m ∷ ms) number nets board =
    cond (eqb number m.number) (place_module (place ms) m nets board) (place ms number nets board)

-- The flattened module of a number that has so many inputs.
unfoldable pub flat_module : List Module → (number inputs : ℕ) → Module
flat_module ms number inputs =
    let placed = place ms number (up_from 0 inputs) (record { next = inputs; gates = [] }) in
    record { number = number; inputs = up_from 0 inputs; outputs = placed.nets; occurrences = placed.board.gates }
