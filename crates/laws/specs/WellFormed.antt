-- What acceptance gives to later proofs, as data instead of tests: a reference, an occurrence, a body, a module and a list of
-- modules that the check lets pass. Accepted.antt proves that the verdict on a list is good exactly where it is `Accepted`.
use Rattle.std.specs.Prelude.{ℕ, ◌≤◌, ◌≡◌, true, false, List, [], ◌∷◌, ◌++◌, length}
use Rattle.meaning.specs.Syntax.{Occurrence, Module}
use Rattle.meaning.specs.Gates.{is_gate, gate}
use Rattle.meaning.specs.Boxlist.{duplicates, disjoint, subset, box, F, assoc}
use Rattle.meaning.specs.Limits.{driven, net_count, body_size, expanded_size, most_module_nets, most_size}

-- What an occurrence refers to, a gate or a later module, takes and drives as many nets as the occurrence has.
pub data Reference (later : List Module) (o : Occurrence) : Type 0 where
  to_gate :
      is_gate o.refers ≡ true
      → (gate o.refers).arity ≡ length o.takes
      → 1 ≡ length o.drives
      → Reference later o
  to_module :
      (m : Module)
      → is_gate o.refers ≡ false
      → assoc o.refers later ≡ box m
      → length o.takes ≡ length m.inputs
      → length o.drives ≡ length m.outputs
      → Reference later o

-- An occurrence where the nets `signals` are inputs or driven earlier.
pub record OccurrenceOk (later : List Module) (signals : List ℕ) (o : Occurrence) : Type 0 where
  pub distinct : duplicates o.drives ≡ false
  pub fresh : disjoint o.drives signals ≡ true
  pub bound : subset o.takes signals ≡ true
  pub reference : Reference later o

-- Occurrences in order.
pub data Body (later : List Module) : (signals : List ℕ) → List Occurrence → Type 0 where
  done : {signals : List ℕ} → Body later signals []
  step :
      {signals : List ℕ} {o : Occurrence} {os : List Occurrence}
      → OccurrenceOk later signals o
      → Body later (o.drives ++ signals) os
      → Body later signals (o ∷ os)

-- A module in front of the later ones.
pub record ModuleOk (m : Module) (later : List Module) : Type 0 where
  pub above : 16 ≤ m.number
  pub unique : assoc m.number later ≡ F
  pub inputs_distinct : duplicates m.inputs ≡ false
  pub outputs_distinct : duplicates m.outputs ≡ false
  pub apart : disjoint m.inputs m.outputs ≡ true
  pub body : Body later m.inputs m.occurrences
  pub outputs_driven : subset m.outputs (driven m.occurrences) ≡ true
  pub nets : net_count m ≤ most_module_nets
  pub size : body_size (expanded_size later) m.occurrences ≤ most_size

-- A list of modules.
pub data Accepted : List Module → Type 0 where
  none : Accepted []
  some : {m : Module} {later : List Module} → ModuleOk m later → Accepted later → Accepted (m ∷ later)
