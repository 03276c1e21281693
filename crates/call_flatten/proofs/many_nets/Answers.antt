-- By the expanded size alone, or by the gates that were counted.
use Rattle.std.proofs.Common.{◌+◌, sym, ap, arith}
use mathlib.Core.Path.{ap₂}
use borrow.Author.Tests.{le-ltb}
use lib.Dec.{ltb}
use Rattle.image.specs.Scenes.{in_starts, module_there}
use Rattle.open_finding.specs.OnImage.{scene, inputs_are}
use Rattle.tally_engine.specs.OfSite.{countable, tally-is, tally-fits, gates-are}
use Rattle.call_flatten.proofs.Measured.{flat_nets, gates-low, size_low, inputs-low}
use Rattle.call_flatten.proofs.many_nets.Goals as goal

pub module-header-requires : goal.module-header-requires
module-header-requires c =
    let found = scene c.requires in
    record { starts_in_bounds = in_starts found; module_there = module_there found }

pub overflow_add-header : goal.overflow_add-header
overflow_add-header c =
    let s = c.requires in
    omega (arith, inputs_are s c.module-header.ensures, inputs-low s, size_low s)

pub returns-then-header-site-le4096 : goal.returns-then-header-site-le4096
returns-then-header-site-le4096 c s =
    sym (le-ltb 4096 (flat_nets s) (omega (arith, inputs_are s c.module-header.ensures, gates-low s, c.if-header-site-le4096.true)))

pub tally_module-requires : goal.tally_module-requires
tally_module-requires c = countable c.requires

pub gates_of-gates-requires : goal.gates_of-gates-requires
gates_of-gates-requires c = let s = c.requires in tally-fits s (tally-is s c.tally_module.ensures)

pub overflow_add-result : goal.overflow_add-result
overflow_add-result c =
    let s = c.requires in
    omega (
      arith,
      inputs_are s c.module-header.ensures,
      inputs-low s,
      gates-are s (tally-is s c.tally_module.ensures) c.gates_of-gates.ensures,
      gates-low s,
      size_low s,
    )

pub returns : goal.returns
returns c s =
    ap (ltb 4096)
    (ap₂ ◌+◌ (inputs_are s c.module-header.ensures) (gates-are s (tally-is s c.tally_module.ensures) c.gates_of-gates.ensures))
