-- The figures are worked out one after the other; the walks for the delays and for tally and load leave scratch cleared.
use Rattle.std.proofs.Common.{ℕ, ◌≤◌, List, Fits, w8, rules, arith}
use lib.ListN.{get_or}
use Rattle.meaning.specs.Family.{delay_in}
use Rattle.image.specs.Scenes.{in_starts, module_there}
use Rattle.tally_engine.specs.OfSite.{countable, tally-is, tally-fits, gates-are}
use Rattle.open_finding.specs.Standing.{module_within}
use Rattle.open_finding.specs.OnImage.{scene, inputs_are, outputs-are}
use Rattle.call_count.proofs.Engines.{callable, unit-is, family-is, loadable, load_is}
use Rattle.call_count.proofs.RoomThere.{loads-roomy}
use Rattle.call_count.proofs.Outcomes.{scratch-is, figures-are}
use Rattle.call_count.proofs.figuring.figures_at.Goals as goal

pub module-header-requires : goal.module-header-requires
module-header-requires c =
    let found = scene c.requires.standing in
    record { starts_in_bounds = in_starts found; module_there = module_there found }

pub overflow_cast-inputs : goal.overflow_cast-inputs
overflow_cast-inputs c =
    let s = c.requires.standing in
    omega (arith, inputs_are s c.module-header.ensures, (module_within s).inputs.count)

pub overflow_sub-outputs : goal.overflow_sub-outputs
overflow_sub-outputs c = omega (arith, outputs-are c.requires.standing c.module-header.ensures)

pub overflow_cast-outputs : goal.overflow_cast-outputs
overflow_cast-outputs c =
    let s = c.requires.standing in
    omega (arith, outputs-are s c.module-header.ensures, (module_within s).outputs.count)

-- Both lists have the module's room.
pub delays-delays-requires-clause-callable : goal.delays-delays-requires-clause-callable
delays-delays-requires-clause-callable c = callable c.requires.standing c.requires.room_in_bounds

pub delays-delays-requires-clause-callable_2 : goal.delays-delays-requires-clause-callable_2
delays-delays-requires-clause-callable_2 c =
    callable c.requires.standing (loads-roomy c.args.loads.now c.requires.standing c.requires.image_in_bounds)

pub weigh-weighed-requires-clause-loadable : goal.weigh-weighed-requires-clause-loadable
weigh-weighed-requires-clause-loadable c = loadable c.requires.standing

pub weigh-weighed-requires-clause-countable : goal.weigh-weighed-requires-clause-countable
weigh-weighed-requires-clause-countable c = countable c.requires.standing

pub gates_of-gates-requires : goal.gates_of-gates-requires
gates_of-gates-requires c = let s = c.requires.standing in tally-fits s (tally-is s c.weigh-weighed.ensures.tally)

-- Delays are bytes.
family-small : (delays : List ℕ) → ((i : ℕ) → Fits w8 (get_or delays i 0)) → (kind : ℕ) → delay_in delays kind ≤ 255
family-small delays bytes kind = omega (arith, bytes kind)

pub returns : goal.returns
returns c s =
    let given = c.requires in
    let ran = c.delays-delays.ensures in
    let weighed = c.weigh-weighed.ensures in
    let tally = tally-is s weighed.tally in
    record {
      is =
          figures-are s _
          (inputs_are s c.module-header.ensures)
          (omega (arith, outputs-are s c.module-header.ensures))
          tally
          (gates-are s tally c.gates_of-gates.ensures)
          (unit-is s (ran.unit (callable s given.room_in_bounds)))
          (load_is s weighed.most)
          (family-is s _ (family-small c.args.family.delays (λ i. search rules)) (ran.family (callable s (loads-roomy c.args.loads.now s given.image_in_bounds))));
      clean = scratch-is s _ ran.cleared weighed.cleared;
    }
