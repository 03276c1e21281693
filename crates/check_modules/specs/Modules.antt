-- What checking a module asks and answers: the verdict of rules 6 to 16, and where it is good the module's image and sums.
use Rattle.std.specs.Prelude.{ℕ, Result, Ok, Err, ◌+◌, ◌*◌, ◌≤◌, ◌≡◌, true, cond, List, leb, length}
use Rattle.meaning.specs.Syntax.{Module}
use Rattle.meaning.specs.Boxlist.{subset}
use Rattle.meaning.specs.Limits.{net_count, most_module_nets}
use Rattle.meaning.specs.Layout.{module_numbers}
use Rattle.meaning.specs.Verdict.{Verdict, good, refused, module_verdict}
use Rattle.nets.specs.Slots.{Knows, Below}
use Rattle.image.specs.Stands.{Stands}
use Rattle.image.specs.Laid.{laid}
use Rattle.image.specs.Resolved.{refer_to, resolve_module}
use Rattle.check_sizes.specs.Walks.{Summed}
use Rattle.check_sizes.specs.declared.Sums.{Sums}
use Rattle.check_lists.specs.Scene.{Scene, Indexes, Figured}
use Rattle.check_lists.specs.Places.{head_of}
use Rattle.check_modules.specs.Heads.{Ruling, resolved_head}
use Rattle.check_bodies.specs.Bodies.{resolved_body}
use Rattle.check_modules.specs.declared.modules.Measured.{Measured}

-- Rules 15 and 16.
unfoldable pub end_rule : (outputs driven : List ℕ) → (nets : ℕ) → Ruling
end_rule outputs driven nets = cond (subset outputs driven) (cond (leb nets most_module_nets) (Ok tt) (Err 16)) (Err 15)

-- The rule, and where none is broken the head in the image.
pub record Ended (numbers slots : List ℕ) (base k nets : ℕ) (numbers' : List ℕ) (r : Ruling) : Type 0 where
  pub ends :
      (m : Module) (known : List ℕ)
      → Stands numbers 0 (head_of m)
      → Knows slots base known
      → nets ≡ length known
      → subset m.inputs known ≡ true
      → (r ≡ end_rule m.outputs known nets) × (r ≡ Ok tt → numbers' ≡ laid numbers 0 (resolved_head k m known))

-- The numbers are those of the module at position k, and the table's entries are from modules before.
pub record ModuleReady
    (numbers : List ℕ) (k : ℕ) (first inputs outputs slots : List ℕ) (base : ℕ) (sizes rooms : List ℕ) : Type 0 where
  pub scene : Scene first inputs outputs k
  pub own : numbers ≡ module_numbers scene.m
  pub indexes : Indexes first slots numbers
  pub figured : Figured scene.ms sizes rooms
  pub earlier : Below base slots
  pub short : length numbers ≤ 65535
  pub based : base ≤ 65536 * 128

-- A module is fine: its image has taken the place of its numbers, with slots for its nets, and its nets and references are summed up.
pub record Settled
    (ms : List Module) (m : Module) (k : ℕ) (sizes rooms numbers' : List ℕ) (nets : ℕ) (sums : Sums) : Type 0 where
  pub count : nets ≡ net_count m
  pub written : numbers' ≡ module_numbers (resolve_module (refer_to ms) k m)
  pub summed : Summed sizes rooms (resolved_body ms m m.occurrences) sums

abbrev pub Checks : Result Measured ℕ → Verdict → (ms : List Module) → Module → (k : ℕ) → (sizes rooms numbers' : List ℕ) → Type 0
Checks (Ok measured) v ms m k sizes rooms numbers' = (v ≡ good) × Settled ms m k sizes rooms numbers' measured.nets measured.sums
Checks (Err rule) v ms m k sizes rooms numbers' = v ≡ refused rule k

-- Whatever it comes to, no entry of the table of slots is above those of the base.
pub record ModuleChecked
    (numbers : List ℕ) (k : ℕ) (first inputs outputs : List ℕ) (base : ℕ) (sizes rooms numbers' slots' : List ℕ) (r : Result Measured ℕ) : Type 0 where
  pub checks :
      (s : Scene first inputs outputs k)
      → numbers ≡ module_numbers s.m
      → Checks r (module_verdict k s.m s.later) s.ms s.m k sizes rooms numbers'
  pub low : Below (base + 65536) slots'
