-- What stands of a module in front of its occurrences: rules 6 and 8 to 10, and its part of the image.
use Rattle.std.specs.Prelude.{ℕ, Result, Ok, Err, ◌+◌, ◌*◌, ◌<◌, ◌≤◌, ◌^◌, ◌≡◌, Bool, true, cond, List, map, length}
use Rattle.meaning.specs.Syntax.{Module}
use Rattle.meaning.specs.Gates.{is_gate}
use Rattle.meaning.specs.Layout.{module_numbers}
use Rattle.meaning.specs.Boxlist.{duplicates, disjoint, subset}
use Rattle.nets.specs.Slots.{Knows, Below, slot_of}
use Rattle.image.specs.Stands.{Stands}
use Rattle.check_lists.specs.Places.{head_numbers, head_of}
use Rattle.image.specs.Laid.{laid}

-- Some rules hold, or the one that is broken first.
abbrev pub Ruling : Type 0
Ruling = Result (Unit {0}) ℕ

-- Rules 8 to 10 on a module's inputs and outputs.
unfoldable pub ports_rule : (inputs outputs : List ℕ) → Ruling
ports_rule inputs outputs =
    cond (duplicates inputs) (Err 8) (cond (duplicates outputs) (Err 9) (cond (disjoint inputs outputs) (Ok tt) (Err 10)))

-- With rule 6 before them.
unfoldable pub head_rule : (number : ℕ) → (inputs outputs : List ℕ) → Ruling
head_rule number inputs outputs = cond (is_gate number) (Err 6) (ports_rule inputs outputs)

-- Nets of both lists are indices of the table, its entries are from modules before, and slots fit a number.
pub record PortsReady (inputs outputs slots : List ℕ) (base : ℕ) : Type 0 where
  pub inputs_index : Below (length slots) inputs
  pub outputs_index : Below (length slots) outputs
  pub earlier : Below base slots
  pub few : length inputs ≤ 65536
  pub based : base + length inputs < 2 ^ 32

-- The rule, and where none is broken a table that knows the inputs. No entry is above the slots of the base.
pub record PortsJudged (inputs outputs : List ℕ) (base : ℕ) (slots' : List ℕ) (r : Ruling) : Type 0 where
  pub rule : r ≡ ports_rule inputs outputs
  pub knows : r ≡ Ok tt → Knows slots' base inputs
  pub low : Below (base + 65536) slots'

-- The numbers of a module are given, and the table's entries are from modules before.
pub record HeadReady (numbers slots : List ℕ) (base : ℕ) : Type 0 where
  pub m : Module
  pub own : numbers ≡ module_numbers m
  pub earlier : Below base slots
  pub in_slots : Below (length slots) numbers
  pub short : length numbers ≤ 65535
  pub based : base ≤ 65536 * 128

pub record HeadJudged (numbers : List ℕ) (base : ℕ) (slots' : List ℕ) (r : Ruling) : Type 0 where
  pub rule : (m : Module) → numbers ≡ module_numbers m → r ≡ head_rule m.number m.inputs m.outputs
  pub knows : (m : Module) → numbers ≡ module_numbers m → r ≡ Ok tt → Knows slots' base m.inputs
  pub low : Below (base + 65536) slots'

-- The head of the module at position k in the image, where its nets are known in the order of their slots.
abbrev pub resolved_head : (k : ℕ) → Module → (nets : List ℕ) → List ℕ
resolved_head k m nets =
    head_numbers (16 + k) (map (λ (x : ℕ). slot_of x nets) m.inputs) (map (λ (x : ℕ). slot_of x nets) m.outputs) (length m.occurrences)

-- The head of a module stands in front, its nets are indices of the table, and so many slots fit a number.
pub record HeadWritable (numbers slots : List ℕ) (base k nets : ℕ) : Type 0 where
  pub m : Module
  pub stands : Stands numbers 0 (head_of m)
  pub inputs_index : Below (length slots) m.inputs
  pub outputs_index : Below (length slots) m.outputs
  pub few : nets ≤ 65536
  pub high : base + 65536 ≤ 2 ^ 32
  pub position : k < 128
  pub short : length numbers ≤ 65535

-- Where the table knows the nets and the inputs are among them: whether the outputs are, and where they are what stands in front.
pub record HeadWritten (numbers slots : List ℕ) (base k nets : ℕ) (numbers' : List ℕ) (r : Bool) : Type 0 where
  pub written :
      (m : Module) (known : List ℕ) → Stands numbers 0 (head_of m)
      → Knows slots base known → nets ≡ length known
      → subset m.inputs known ≡ true
      → (r ≡ subset m.outputs known) × (r ≡ true → numbers' ≡ laid numbers 0 (resolved_head k m known))
