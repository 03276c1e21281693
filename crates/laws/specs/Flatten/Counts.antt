-- No gate is added or dropped: the gates on the board grow by those reached from the module that is placed, each counted with any
-- weight. So the gate count and the tally of a flattened module are the module's. Nothing is asked of the list.
use Prim.Native.Nat.{ℕ, ◌+◌}
use Rattle.std.specs.Prelude.{◌≡◌, Bool, cond, eqb}
use Rattle.std.proofs.Math.Path.{refl}
use Rattle.std.proofs.Common.{◌∙◌, add-zero, eq-eqb}
use Rattle.std.proofs.Math.Bool.{true, false}
use mathlib.Core.List.{List, [], ◌∷◌, ◌++◌}
use Rattle.std.proofs.Math.Nat.{zero-add}
use native.Mathlib.Omega.{arith}
use Rattle.meaning.specs.Syntax.{Occurrence, Module}
use Rattle.meaning.specs.Gates.{is_gate}
use Rattle.meaning.specs.Evaluation.{look_all}
use Rattle.meaning.specs.Figures.{body_weight, gate_weight, gate_count, kind_count, tally}
use Rattle.meaning.specs.Flattening.{Board, Placed, place_gate, place_referred, Walked, place_body, place_module, place, flat_module}
use Rattle.meaning.specs.Adder.{up_from}

module _ (weight : ℕ → ℕ) where
  weight_append :
      (later : ℕ → ℕ) (os ps : List Occurrence)
      → body_weight weight later (os ++ ps) ≡ body_weight weight later os + body_weight weight later ps
  unfolding body_weight
  weight_append later [] ps = omega arith
  weight_append later (o ∷ os) ps = omega (arith, weight_append later os ps)

  -- The weight of the gates on a board, whatever else its occurrences might refer to, and how much is placed from a board on.
  module _ (other : ℕ → ℕ) where
    unfoldable on_board : Board → ℕ
    on_board b = body_weight weight other b.gates

    record Adds (b : Board) (p : Placed) (more : ℕ) : Type 0 where
      adds : on_board p.board ≡ on_board b + more

    adds-either : (t : Bool) {b : Board} {p q : Placed} {w v : ℕ} → Adds b p w → Adds b q v → Adds b (cond t p q) (cond t w v)
    adds-either true h k = h
    adds-either false h k = k

    referred-adds :
        (ms : List Module) (number : ℕ) (nets : List ℕ) (b : Board)
        → Adds b (place ms number nets b) (gate_weight weight ms number)
        → Adds b (place_referred (place ms) number nets b) (cond (is_gate number) (weight number) (gate_weight weight ms number))
    unfolding on_board body_weight
    referred-adds ms number nets b below = go (is_gate number) refl
      where
        go :
            (t : Bool)
            → is_gate number ≡ t
            → Adds b
            (cond t (place_gate number nets b) (place ms number nets b))
            (cond t (weight number) (gate_weight weight ms number))
        go true g = record { adds = weight_append other b.gates _ ∙ rw (g, add-zero) }
        go false g = below

    body-adds :
        (ms : List Module) (os : List Occurrence) (w : Walked)
        → ((number : ℕ) (nets : List ℕ) (b : Board) → Adds b (place ms number nets b) (gate_weight weight ms number))
        → on_board (place_body (place ms) os w).board ≡ on_board w.board + body_weight weight (gate_weight weight ms) os
    unfolding place_body body_weight
    body-adds ms [] w below = omega arith
    body-adds ms (o ∷ os) w below =
        let nets = look_all 0 o.takes w.env in
        let first = referred-adds ms o.refers nets w.board (below o.refers nets w.board) in
        body-adds ms os _ below ∙ omega (arith, first.adds)

    place-adds :
        (ms : List Module) (number : ℕ) (nets : List ℕ) (b : Board) → Adds b (place ms number nets b) (gate_weight weight ms number)
    unfolding place place_module gate_weight
    place-adds [] number nets b = record { adds = omega arith }
    place-adds (m ∷ ms) number nets b =
        adds-either (eqb number m.number) (record { adds = body-adds ms m.occurrences _ (place-adds ms) })
        (place-adds ms number nets b)

  -- With any weight of each kind of gate.
  pub weight_of-flat :
      (ms : List Module) (number inputs : ℕ)
      → gate_weight weight (flat_module ms number inputs ∷ []) number ≡ gate_weight weight ms number
  unfolding gate_weight flat_module on_board body_weight
  weight_of-flat ms number inputs =
      let none : ℕ → ℕ = gate_weight weight [] in
      rw (eq-eqb number number refl)
      ((place-adds none ms number (up_from 0 inputs) (record { next = inputs; gates = [] })).adds
      ∙ zero-add (gate_weight weight ms number))

pub gate_count-of-flat :
    (ms : List Module) (number inputs : ℕ) → gate_count (flat_module ms number inputs ∷ []) number ≡ gate_count ms number
unfolding gate_count
gate_count-of-flat = weight_of-flat (λ kind. 1)

pub tally-of-flat : (ms : List Module) (number inputs : ℕ) → tally (flat_module ms number inputs ∷ []) number ≡ tally ms number
unfolding tally kind_count
tally-of-flat ms number inputs = simp weight_of-flat
