-- Reading a resolved file: a module's nets are a frame, a list of values, one for each slot in the order in which slots are given
-- values. What an occurrence drives is added at the frame's end, so nothing is looked up by name.
use Rattle.std.specs.Prelude.{ℕ, suc, ◌+◌, ◌<◌, ◌≤◌, ◌≡◌, cond, List, [], ◌∷◌, ◌++◌, eqb, length, get_or}
use Rattle.meaning.specs.Syntax.{Occurrence, Module}
use Rattle.meaning.specs.Evaluation.{Meaning, apply}
use Rattle.meaning.specs.Limits.{net_count}
use Rattle.meaning.specs.Adder.{up_from}
use Rattle.laws.specs.WellFormed.{Reference}
use Rattle.image.specs.Resolved.{nets_of}

-- The values at slots of a frame.
unfoldable pub read_slots : {A : Type 0} → A → List A → List ℕ → List A
read_slots none frame [] = []
read_slots none frame (s ∷ slots) = get_or frame s none ∷ read_slots none frame slots

unfoldable pub walk_frame : {A : Type 0} → A → (gate_meaning later : Meaning A) → List Occurrence → List A → List A
walk_frame none gate_meaning later [] frame = frame
walk_frame none gate_meaning later (o ∷ os) frame =
    walk_frame none gate_meaning later os (frame ++ apply gate_meaning later o.refers (read_slots none frame o.takes))

unfoldable pub run_frame : {A : Type 0} → A → (gate_meaning later : Meaning A) → Module → List A → List A
run_frame none gate_meaning later m vs = read_slots none (walk_frame none gate_meaning later m.occurrences vs) m.outputs

unfoldable pub run_frames : {A : Type 0} → A → Meaning A → List Module → Meaning A
run_frames none gate_meaning [] number vs = []
run_frames none gate_meaning (m ∷ ms) number vs =
    cond (eqb number m.number) (run_frame none gate_meaning (run_frames none gate_meaning ms) m vs) (run_frames none gate_meaning ms number vs)

-- All slots of a list are given values by then.
pub record Filled (filled : ℕ) (slots : List ℕ) : Type 0 where
  pub slot : (i : ℕ) → i < length slots → get_or slots i 0 < filled

-- What a frame needs of occurrences: each reads only slots that have values, and refers to a gate or a later module as it should.
pub data Framed (later : List Module) : (filled : ℕ) → List Occurrence → Type 0 where
  done : {filled : ℕ} → Framed later filled []
  step :
      {filled : ℕ} {o : Occurrence} {os : List Occurrence}
      → Filled filled o.takes
      → Reference later o
      → Framed later (filled + length o.drives) os
      → Framed later filled (o ∷ os)

-- A module at a position, in front of the later ones. Each of its nets is its own slot.
pub record FrameOk (position : ℕ) (m : Module) (later : List Module) : Type 0 where
  pub numbered : m.number ≡ 16 + position
  pub framed : Framed later (length m.inputs) m.occurrences
  pub answered : Filled (net_count m) m.outputs
  pub nets : net_count m ≤ 4096
  pub slots : nets_of m ≡ up_from 0 (net_count m)

pub data FramesOk : (position : ℕ) → List Module → Type 0 where
  none : {position : ℕ} → FramesOk position []
  some :
      {position : ℕ} {m : Module} {later : List Module}
      → FrameOk position m later
      → FramesOk (suc position) later
      → FramesOk position (m ∷ later)
