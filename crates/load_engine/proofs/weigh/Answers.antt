-- What `load_engine::weigh` meets: at first nothing is kept; what lies behind the module's room is untouched, and what lies in it is
-- cleared. Assumes nothing.
use native.Mathlib.Omega.{arith}
use mathlib.Core.Path.{ap, ◌∙◌}
use mathlib.Core.List.{◌++◌}
use lib.ListN.{replicate}
use Rattle.image.specs.Entries.{same-further}
use Rattle.load_engine.specs.Loads.{Loadable}
use Rattle.load_engine.proofs.Loading.{moved}
use Rattle.load_engine.proofs.KeptLoads.{none-worked}
use Rattle.load_engine.proofs.KnownRows.{none-known}
use Rattle.load_engine.proofs.weigh.Goals as goal

-- The module in all of scratch, with nothing kept.
pub weigh_once-weighed-requires : goal.weigh_once-weighed-requires
weigh_once-weighed-requires c = record {
  workable = none-worked (moved c.requires.loadable (omega (arith, c.requires.loadable.room, c.requires.room_in_bounds))) c.requires.image_in_bounds;
  tallying = none-known c.requires.countable;
}

pub returns : goal.returns
returns c =
    let work =
    λ (s : Loadable c.args.image.numbers.now c.args.image.starts.now c.args.image.nets.now c.args.k c.args.room).
    none-worked (moved s (omega (arith, s.room, c.requires.room_in_bounds))) c.requires.image_in_bounds
    in
    record {
      most = λ s. (c.weigh_once-weighed.ensures.load (work s)).largest;
      tally = λ s. (c.weigh_once-weighed.ensures.tally (none-known s)).is;
      cleared =
          c.clear.ensures
          ∙ ap (λ l. replicate c.args.room 0 ++ l)
          (same-further _ _ _ c.args.room c.requires.loadable.room (c.weigh_once-weighed.ensures.load (work c.requires.loadable)).behind);
    }
