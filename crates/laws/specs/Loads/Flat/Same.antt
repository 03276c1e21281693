-- The largest load of a flattened module is the module's: flattening places the module on its own inputs, so that every net of the board
-- is one of those or new.
use Rattle.std.specs.Prelude.{ℕ, ◌≤◌, max, ◌≡◌, Bool, true, false, cond, ◌⊎◌, List, [], ◌∷◌, ◌++◌, map, eqb}
use Rattle.std.proofs.Math.Path.{refl}
use Rattle.std.proofs.Common.{inl, inr, arith, eq-eqb}
use Rattle.std.proofs.Math.ListN.{length}
use Rattle.meaning.specs.Syntax.{Module}
use Rattle.meaning.specs.Members.{◌∈◌, Twice}
use Rattle.meaning.specs.Boxlist.{box, assoc}
use Rattle.meaning.specs.Limits.{driven}
use Rattle.meaning.specs.Verdict.{good, file_verdict}
use Rattle.meaning.specs.Figures.{largest, largest_referred}
use Rattle.meaning.specs.Loads.{places_load, Loads, net_load, module_loads, loads_inside, largest_in, largest_load}
use Rattle.meaning.specs.Flattening.{Board, Placed, flat_module}
use Rattle.meaning.specs.Adder.{up_from}
use Rattle.laws.specs.Accepted.{good-accepted}
use Rattle.laws.specs.Bounds.{largest-within}
use Rattle.laws.specs.Tests.{if_false}
use Rattle.laws.specs.Members.{in_left, in_right, in_either, duplicates-tells}
use Rattle.laws.specs.Standing.{stands}
use Rattle.laws.specs.Adder.Nets.{length-up_from}
use Rattle.laws.specs.Adder.Distinct.{duplicates-of-run}
use Rattle.laws.specs.Flatten.Numbered.{Between, of-run, in_run, below-run}
use Rattle.laws.specs.Flatten.Wired.{Wired, done as no_gate, place-wired, next-of-wired, driven-of-wired}
use Rattle.laws.specs.Loads.Places.{largest-has, largest-least, load-once, load_somewhere}
use Rattle.laws.specs.Loads.Flat.Board.{load_on, Clean, Loaded}
use Rattle.laws.specs.Loads.Flat.Placing.{place-loaded}

-- An input is a net of the module.
inputs-below-largest : (ms : List Module) (number : ℕ) → largest (loads_inside ms number).inputs ≤ largest_load ms number
unfolding loads_inside largest_load largest
inputs-below-largest [] number = omega arith
inputs-below-largest (m ∷ ms) number = go (eqb number m.number) (inputs-below-largest ms number)
  where
    load : ℕ → ℕ
    load = net_load (loads_inside ms) m.occurrences

    own : List ℕ
    own = m.inputs ++ driven m.occurrences

    go :
        (b : Bool)
        → largest (loads_inside ms number).inputs ≤ largest_load ms number
        → largest (cond b (module_loads (loads_inside ms) m) (loads_inside ms number)).inputs
        ≤ cond b (largest_in (loads_inside ms) (largest_load ms) m) (largest_load ms number)
    go true below =
        omega (arith, largest-least load m.inputs (largest (map load own)) (λ x i. largest-has load own (in_left _ i)))
    go false below = below

-- A board by itself, when all of it was placed on its inputs.
abbrev bare : ℕ → Board
bare inputs = record { next = inputs; gates = [] }

module _ {inputs : ℕ} {p : Placed} {inside : Loads} {most count : ℕ}
    (l : Loaded (bare inputs) (up_from 0 inputs) p inside most count) (wired : Wired inputs p.board.gates p.board.next) where
  is-driven : (net : ℕ) → Between inputs p.board.next net → net ∈ driven p.board.gates
  is-driven net b =
      rw (driven-of-wired wired) (in_run inputs (length p.board.gates) net (omega (arith, next-of-wired wired)))

  load-of-input : (net : ℕ) → net ∈ up_from 0 inputs → load_on p.board net ≡ places_load net (up_from 0 inputs) inside.inputs
  unfolding net_load
  load-of-input net i = omega (arith, l.old net (below-run inputs net i))

  largest-of-board :
      largest inside.inputs ≤ most
      → max (largest (map (load_on p.board) (up_from 0 inputs ++ driven p.board.gates)))
      (largest_referred (largest_load []) p.board.gates)
      ≡ most
  unfolding largest_load
  largest-of-board entering =
      let nets = up_from 0 inputs ++ driven p.board.gates in
      let own : largest (map (load_on p.board) nets) ≤ most
      = largest-least (load_on p.board) nets most (λ net i. within net (in_either (up_from 0 inputs) i)) in
      let has : (net : ℕ) → net ∈ nets → load_on p.board net ≤ largest (map (load_on p.board) nets)
      = λ net i. largest-has (load_on p.board) nets i in
      let least : most ≤ largest (map (load_on p.board) nets)
      = l.least _ (λ net b. has net (in_right (up_from 0 inputs) (is-driven net b)))
      (load_somewhere (up_from 0 inputs) inside.inputs _ l.arity
      (λ net i. omega (arith, load-of-input net i, has net (in_left _ i)))) in
      omega (arith, largest-within (λ number. 0) 0 (λ number. omega arith) p.board.gates)
    where
      once : ¬ (Twice (up_from 0 inputs))
      once = if_false (duplicates-tells (up_from 0 inputs)) (duplicates-of-run 0 inputs)

      within : (net : ℕ) → (net ∈ up_from 0 inputs) ⊎ (net ∈ driven p.board.gates) → load_on p.board net ≤ most
      within net (inl i) = omega (arith, load-of-input net i, load-once net (up_from 0 inputs) inside.inputs once)
      within net (inr i) =
          l.within net
          (omega (arith, of-run inputs (length p.board.gates) (rw (driven-of-wired wired) at i), next-of-wired wired))

module _ (ms : List Module) (number : ℕ) (m : Module) (accepted : file_verdict ms ≡ good) (found : assoc number ms ≡ box m) where
  pub largest_load-of-flat : largest_load (flat_module ms number (length m.inputs) ∷ []) number ≡ largest_load ms number
  unfolding largest_load flat_module net_load
  largest_load-of-flat =
      let inputs = length m.inputs in
      let ok = good-accepted ms accepted in
      let at = stands number ms found in
      let count = length-up_from 0 inputs in
      let clean : Clean (bare inputs) = record { unused = λ net high. refl } in
      rw (eq-eqb number number refl)
      (largest-of-board
      ((place-loaded ok).loaded number at (up_from 0 inputs) (bare inputs) count (below-run inputs) clean)
      (place-wired inputs (bare inputs) ok at count (below-run inputs) no_gate)
      (inputs-below-largest ms number))
