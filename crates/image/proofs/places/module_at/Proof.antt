-- `image::places::module_at` meets its contract: each number that it reads is the count that stands there. Assumes nothing.
use Prim.Native.Nat.{ℕ, ◌+◌, ◌-◌, ◌<◌}
use mathlib.Core.Path.{◌≡◌, refl, ◌∙◌}
use mathlib.Core.List.{List}
use native.Mathlib.Omega.{arith}
use borrow.Author.Rules.{rules}
use lib.ListN.{length, get_or}
use Rattle.meaning.specs.Syntax.{Module}
use Rattle.meaning.specs.Layout.{module_numbers}
use Rattle.image.specs.Stands.{Stands}
use Rattle.image.specs.Pieces.{module_at}
use Rattle.image.proofs.places.module_at.Statement.{statement}
use Rattle.image.proofs.places.module_at.Tie as tie

entry-requires : tie.Need-entry-inputs-requires
entry-requires c κs = let p = c.requires in omega (arith, (module_at p.m p.stands).end)

-- The first count is read.
record Opened (image : List ℕ) (at : ℕ) (m : Module) (inputs : ℕ) : Type 0 where
  inputs_are : inputs ≡ length m.inputs
  inside : at + 3 + inputs + length m.outputs < length image

opened : {image : List ℕ} {at : ℕ} (m : Module) {inputs : ℕ} → Stands image at (module_numbers m) → inputs ≡ get_or image (at + 1) 0 → Opened image at m inputs
opened {at = at} m s e =
    let there = module_at m s in
    let same = e ∙ there.input_count (at + 1) refl in
    record { inputs_are = same; inside = omega (arith, there.end) }

at_first : (c : tie.After-entry-inputs) → Opened c.args.image.now c.args.at c.requires.m c.entry-inputs.result
at_first c = let p = c.requires in opened p.m p.stands c.entry-inputs.ensures

add-from-2 : tie.Need-overflow_add-from-2
add-from-2 c = let h = at_first c in omega arith

entry-requires-2 : tie.Need-entry-requires
entry-requires-2 c κs = let h = at_first c in omega arith

-- The second count is the outputs'.
second :
    {image : List ℕ} {at : ℕ} (m : Module) {inputs outputs : ℕ} → Stands image at (module_numbers m) → inputs ≡ length m.inputs
    → outputs ≡ get_or image (at + 3 + inputs - 1) 0 → outputs ≡ length m.outputs
second {at = at} m {inputs} s i e = e ∙ (module_at m s).output_count (at + 3 + inputs - 1) (omega arith)

-- What the places come to once both counts are read.
at_second :
    (c : tie.After-entry)
    → c.args.at + 3 + c.entry-inputs.result + c.entry.result < length c.args.image.now
at_second c =
    let p = c.requires in
    let h = at_first c.before in
    omega (arith, second p.m p.stands h.inputs_are c.entry.ensures)

add-to : tie.Need-overflow_add-to
add-to c = let h = at_second c in omega arith

entry-requires-3 : tie.Need-entry-count-requires
entry-requires-3 c κs = at_second c

returns : tie.Need-returns
returns c m s =
    let at = c.args.at in
    let there = module_at m s in
    let inputs = (opened m s c.entry-inputs.ensures).inputs_are in
    let outputs = second m s inputs c.entry.ensures in
    let from = at + 3 + c.entry-inputs.result in
    let to = from + c.entry.result in
    record {
      inputs = inputs;
      from = omega arith;
      to = omega arith;
      count = c.entry-count.ensures ∙ there.occurrence_count to (omega arith);
      outputs = there.outputs from (omega arith);
      body = there.body (to + 1) (omega arith);
    }

pub module_at_spec : {M : Type 1} → statement M
module_at_spec =
    tie.close
    (tie.spec
    (λ c. search rules)
    entry-requires
    (λ c. search rules)
    add-from-2
    (λ c. search rules)
    entry-requires-2
    add-to
    entry-requires-3
    returns)
