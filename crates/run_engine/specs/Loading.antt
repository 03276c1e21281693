-- A module of a file that stands in the image resolved is called by its number.
use Rattle.std.specs.Prelude.{ℕ, ◌≤◌, ◌≡◌, List, length}
use Rattle.std.proofs.Common.{sym, ◌∙◌, arith}
use Rattle.meaning.specs.Syntax.{Module}
use Rattle.meaning.specs.Figures.{room}
use Rattle.meaning.specs.Boxlist.{box, assoc}
use Rattle.image.specs.Resolved.{refer_to, resolve, position_of}
use Rattle.image.specs.Fitting.{Fits}
use Rattle.image.specs.Shapes.{inputs-of-resolved, outputs-of-resolved}
use Rattle.image.specs.ResolvedFigures.{room-resolved}
use Rattle.image.specs.Imaged.{Imaged}
use Rattle.image.specs.Scenes.{found-scene}
use Rattle.run_engine.specs.Calls.{Callable, Evaluable}

module _
    {image starts nets : List ℕ} {ms : List Module} (fits : Fits ms) (imaged : Imaged image starts nets (resolve ms)) (number : ℕ) (m : Module)
    (found : assoc number ms ≡ box m) {given : ℕ} {scratch : List ℕ} (wide : room ms number ≤ given) (enough : given ≤ length scratch)
  where
    -- The module of a number can be called at its position,
    abbrev pub callable : Callable image starts nets (position_of number ms) given scratch
    callable =
        record {
          rs = resolve ms;
          scene = found-scene ms imaged number found;
          wide = omega (arith, room-resolved fits number m found, wide);
          enough = enough;
        }

    -- and evaluated on as many values as it has inputs.
    abbrev pub evaluable :
        {values out : List ℕ}
        → length values ≡ length m.inputs
        → length m.outputs ≤ length out
        → Evaluable image starts nets (position_of number ms) given values scratch out
    evaluable fed room_for =
        record {
          callable = callable;
          fed = fed ∙ sym (inputs-of-resolved (refer_to ms) (position_of number ms) m);
          fits = omega (arith, outputs-of-resolved (refer_to ms) (position_of number ms) m, room_for);
        }
