-- The shape of a flattened module: inputs 0, 1, 2 and so on, gates that each drive the next number, and outputs that are driven
-- nets, all different. The module that flattening gives has it, with as many gates as the module reaches and as many outputs as
-- it has.
use Prim.Native.Nat.{ℕ, ◌+◌}
use Rattle.std.specs.Prelude.{◌≡◌, refl}
use Rattle.std.proofs.Math.Path.{sym, ap}
use Rattle.std.proofs.Common.{◌∙◌, eq-eqb}
use mathlib.Core.List.{List, [], ◌∷◌}
use native.Mathlib.Omega.{arith}
use Rattle.std.proofs.Math.ListN.{length}
use Rattle.meaning.specs.Syntax.{Module}
use Rattle.meaning.specs.Members.{◌∈◌, Twice}
use Rattle.meaning.specs.Boxlist.{box, assoc}
use Rattle.meaning.specs.Limits.{net_count, expanded_size}
use Rattle.meaning.specs.Figures.{gate_weight, gate_count, room}
use Rattle.meaning.specs.Verdict.{good, file_verdict}
use Rattle.meaning.specs.Flattening.{Board, flat_module}
use Rattle.meaning.specs.Adder.{up_from}
use Rattle.laws.specs.Accepted.{good-accepted}
use Rattle.laws.specs.Standing.{stands}
use Rattle.laws.specs.Adder.Nets.{length-up_from}
use Rattle.laws.specs.Flatten.Numbered.{Between, below-run}
use Rattle.laws.specs.Flatten.Wired.{Wired, done, place-wired, next-of-wired, size-of-wired, count-of-wired, driven-of-wired, none-referred}
use Rattle.laws.specs.Flatten.Distinct.{place-new}
use Rattle.laws.specs.Flatten.Counts.{gate_count-of-flat}

pub record Flat (inputs : ℕ) (f : Module) : Type 0 where
  pub inputs_are : f.inputs ≡ up_from 0 inputs
  pub wired : Wired inputs f.occurrences (inputs + length f.occurrences)
  pub outputs-driven : (x : ℕ) → x ∈ f.outputs → Between inputs (inputs + length f.occurrences) x
  pub outputs-once : ¬ (Twice f.outputs)

module _ (ms : List Module) (number : ℕ) (m : Module) (accepted : file_verdict ms ≡ good) (found : assoc number ms ≡ box m) where
  pub flat_shape : Flat (length m.inputs) (flat_module ms number (length m.inputs))
  unfolding flat_module
  flat_shape =
      let inputs : ℕ = length m.inputs in
      let board : Board = record { next = inputs; gates = [] } in
      let ok = good-accepted ms accepted in
      let at = stands number ms found in
      let wired = place-wired inputs board ok at (length-up_from 0 inputs) (below-run inputs) done in
      let new = (place-new ok).new number at (up_from 0 inputs) board in
      let next = next-of-wired wired in
      record {
        inputs_are = refl;
        wired = rw (← next) wired;
        outputs-driven = λ x i. rw (← next) (new.between x i);
        outputs-once = new.once;
      }

  pub output_count-of-flat : length (flat_module ms number (length m.inputs)).outputs ≡ length m.outputs
  unfolding flat_module
  output_count-of-flat =
      let board : Board = record { next = length m.inputs; gates = [] } in
      ((place-new (good-accepted ms accepted)).new number (stands number ms found) _ board).counted

  -- It has as many occurrences as the module reaches gates,
  pub length-of-flat : length (flat_module ms number (length m.inputs)).occurrences ≡ gate_count ms number
  unfolding gate_count gate_weight flat_module
  length-of-flat =
      let counted = rw (eq-eqb number number refl) at (gate_count-of-flat ms number (length m.inputs)) in
      sym (count-of-wired (gate_weight (λ kind. 1) []) flat_shape.wired) ∙ counted

  -- and that is its expanded size.
  pub expanded_size-of-flat : expanded_size (flat_module ms number (length m.inputs) ∷ []) number ≡ gate_count ms number
  unfolding expanded_size flat_module
  expanded_size-of-flat = rw (eq-eqb number number refl) (size-of-wired (expanded_size []) flat_shape.wired ∙ length-of-flat)

  -- Its room is an entry for each input and each gate.
  pub room-of-flat : room (flat_module ms number (length m.inputs) ∷ []) number ≡ length m.inputs + gate_count ms number
  unfolding room net_count flat_module
  room-of-flat =
      let inputs = length m.inputs in
      let shape = flat_shape in
      rw (eq-eqb number number refl)
      (omega (
        arith,
        none-referred (room []) shape.wired,
        ap length (driven-of-wired shape.wired),
        length-up_from 0 inputs,
        length-up_from inputs (length (flat_module ms number inputs).occurrences),
        length-of-flat,
      ))
