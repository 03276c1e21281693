-- The rules 6 to 17 in the words and in the order of document 01 ('Refusal numbers'), each with its place and what breaks it.
-- Verdict.antt computes by tests; crate `laws` proves that what it gives is the first of these rules that is broken.
use Rattle.std.specs.Prelude.{ℕ, suc, ◌≤◌, ◌<◌, ◌⊎◌, ◌≡◌, List, [], ◌∷◌, ◌++◌, map, length}
use Rattle.meaning.specs.Syntax.{Occurrence, Module}
use Rattle.meaning.specs.Gates.{gate}
use Rattle.meaning.specs.Members.{◌∈◌, Twice, Common, Lacking}
use Rattle.meaning.specs.Boxlist.{box, assoc}
use Rattle.meaning.specs.Limits.{driven, net_count, body_size, expanded_size, most_module_nets, most_size}
use Rattle.meaning.specs.Verdict.{Verdict, good, refused}

-- A rule at a place, with what it means that it is broken there.
pub record Rule : Type 1 where
  pub number : ℕ
  pub place : ℕ
  pub Broken : Type 0

abbrev pub rule : (number place : ℕ) → Type 0 → Rule
rule number place Broken = record { number = number; place = place; Broken = Broken }

abbrev pub numbers : List Module → List ℕ
numbers ms = map (λ m. m.number) ms

-- An occurrence refers to no gate and no later module.
pub record Unresolved (o : Occurrence) (later : List Module) : Type 0 where
  pub no_gate : 16 ≤ o.refers
  pub no_module : ¬ (o.refers ∈ numbers later)

-- The count of arguments or driven nets doesn't match the gate, or the nearest later module, that an occurrence refers to.
pub data Mismatch (o : Occurrence) (later : List Module) : Type 0 where
  with_gate :
      o.refers < 16
      → ¬ (((gate o.refers).arity ≡ length o.takes) × (1 ≡ length o.drives))
      → Mismatch o later
  with_module :
      (m : Module)
      → 16 ≤ o.refers
      → assoc o.refers later ≡ box m
      → ¬ ((length o.takes ≡ length m.inputs) × (length o.drives ≡ length m.outputs))
      → Mismatch o later

-- Occurrences in order, where the nets `signals` are inputs or driven earlier.
unfoldable pub occurrence_rules : (place : ℕ) → List Occurrence → (signals : List ℕ) → (later : List Module) → List Rule
occurrence_rules place [] signals later = []
occurrence_rules place (o ∷ os) signals later =
    rule 11 place (Twice o.drives ⊎ Common o.drives signals)
    ∷ rule 12 place (Lacking o.takes signals)
    ∷ rule 13 place (Unresolved o later)
    ∷ rule 14 place (Mismatch o later)
    ∷ occurrence_rules place os (o.drives ++ signals) later

-- A module in front of the later ones.
unfoldable pub module_rules : (place : ℕ) → Module → (later : List Module) → List Rule
module_rules place m later =
    rule 6 place (m.number < 16)
    ∷ rule 7 place (m.number ∈ numbers later)
    ∷ rule 8 place (Twice m.inputs)
    ∷ rule 9 place (Twice m.outputs)
    ∷ rule 10 place (Common m.inputs m.outputs)
    ∷ (occurrence_rules place m.occurrences m.inputs later
    ++ (rule 15 place (Lacking m.outputs (driven m.occurrences))
    ∷ rule 16 place (most_module_nets < net_count m)
    ∷ []))

-- Modules from first to last; the place is the module's position from 0.
unfoldable pub modules_rules : (place : ℕ) → List Module → List Rule
modules_rules place [] = []
modules_rules place (m ∷ later) = module_rules place m later ++ modules_rules (suc place) later

-- Then expanded size, from the last module to the first.
unfoldable pub size_rules : (place : ℕ) → List Module → List Rule
size_rules place [] = []
size_rules place (m ∷ later) =
    size_rules (suc place) later ++ (rule 17 place (most_size < body_size (expanded_size later) m.occurrences) ∷ [])

unfoldable pub file_rules : List Module → List Rule
file_rules ms = modules_rules 0 ms ++ size_rules 0 ms

-- What comes of rules in their order: the first that is broken is named with its place; where none is, all is good.
pub data Outcome : List Rule → Verdict → Type 1 where
  all_kept : Outcome [] good
  broken : {r : Rule} {rs : List Rule} → r.Broken → Outcome (r ∷ rs) (refused r.number r.place)
  kept : {r : Rule} {rs : List Rule} {v : Verdict} → ¬ r.Broken → Outcome rs v → Outcome (r ∷ rs) v
