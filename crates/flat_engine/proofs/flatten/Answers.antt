-- `flatten` meets its contract: the plan of the module at its position is carried out at the front of the bytes, and then what stands in front
-- of the gates is written behind them. Assumes nothing.
use Rattle.std.proofs.Common.{arith, refl}
use Rattle.image.specs.Scenes.{in_starts, module_there}
use Rattle.flat_engine.proofs.FlatPlan.{scene, gates-few, inputs-inside, ready}
use Rattle.flat_engine.proofs.FlatDone.{last-next, frontable, flattened}
use Rattle.flat_engine.proofs.flatten.Goals as goal

pub offset_bounds-image-k : goal.offset_bounds-image-k
offset_bounds-image-k c = omega (arith, in_starts (scene c.requires))

pub bounds-image-k : goal.bounds-image-k
bounds-image-k c = in_starts (scene c.requires)

pub module_at-header-requires : goal.module_at-header-requires
module_at-header-requires c = module_there (scene c.requires)

pub number_inputs-requires : goal.number_inputs-requires
number_inputs-requires c =
    record {
      count_in_bounds = inputs-inside c.requires c.module_at-header.ensures;
      count_bound = omega (arith, gates-few c.requires c.module_at-header.ensures);
    }

pub overflow_cast-first : goal.overflow_cast-first
overflow_cast-first c = omega (arith, gates-few c.requires c.module_at-header.ensures)

pub place_module-last-requires : goal.place_module-last-requires
place_module-last-requires c =
    record { plan = _; ready = ready c.requires c.module_at-header.ensures c.number_inputs.ensures refl refl }

-- The plan is carried out, of any file that could be flattened.
pub overflow_sub-last : goal.overflow_sub-last
overflow_sub-last c =
    omega (
      arith,
      last-next c.requires c.module_at-header.ensures c.number_inputs.ensures
          (c.place_module-last.ensures _ (ready c.requires c.module_at-header.ensures c.number_inputs.ensures refl refl)),
    )

pub set_front-whole-requires : goal.set_front-whole-requires
set_front-whole-requires c =
    frontable c.requires c.module_at-header.ensures c.number_inputs.ensures
    (c.place_module-last.ensures _ (ready c.requires c.module_at-header.ensures c.number_inputs.ensures refl refl)) refl

pub returns : goal.returns
returns c f =
    flattened f c.module_at-header.ensures c.number_inputs.ensures
    (c.place_module-last.ensures _ (ready f c.module_at-header.ensures c.number_inputs.ensures refl refl)) refl c.set_front-whole.ensures
