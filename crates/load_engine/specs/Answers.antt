-- From an accepted file to its loads: its image meets what working them out asks, and what is answered of a module's position is the
-- largest load of the module's number in the file.
use Rattle.std.specs.Prelude.{ℕ, ◌+◌, ◌≤◌, ◌≡◌, List}
use Rattle.std.proofs.Common.{◌∙◌, arith}
use Rattle.meaning.specs.Syntax.{Module}
use Rattle.meaning.specs.Boxlist.{box, assoc}
use Rattle.meaning.specs.Figures.{room}
use Rattle.meaning.specs.Loads.{largest_load}
use Rattle.laws.specs.WellFormed.{Accepted}
use Rattle.laws.specs.Loads.Bounds.{largest_load-within}
use Rattle.image.specs.Resolved.{position_of, resolve}
use Rattle.image.specs.Fitting.{accepted-fits}
use Rattle.image.specs.ResolvedFigures.{room-resolved}
use Rattle.image.specs.ResolvedLoads.{largest_load-resolved}
use Rattle.image.specs.Imaged.{Imaged}
use Rattle.image.specs.Scenes.{found-scene}
use Rattle.load_engine.specs.Loads.{Ordered, Loadable}

module _
    {image starts nets : List ℕ} {ms : List Module} (accepted : Accepted ms) (imaged : Imaged image starts nets (resolve ms))
    (number : ℕ) (m : Module) (found : assoc number ms ≡ box m) {entries : ℕ} (ordered : Ordered starts (resolve ms))
    (enough : room ms number ≤ entries)
  where
    pub loadable : Loadable image starts nets (position_of number ms) entries
    loadable =
        record {
          rs = resolve ms;
          scene = found-scene ms imaged number found;
          ordered = ordered;
          room = omega (arith, room-resolved (accepted-fits accepted) number m found);
          loads = omega (arith, largest_load-resolved (accepted-fits accepted) number m found, largest_load-within accepted number);
        }

    pub loaded :
        {most : ℕ}
        → ((s : Loadable image starts nets (position_of number ms) entries) → most ≡ largest_load s.rs (16 + position_of number ms))
        → most ≡ largest_load ms number
    unfolding loadable
    loaded answer = answer loadable ∙ largest_load-resolved (accepted-fits accepted) number m found
