-- What evaluating a module and finding its delays ask and answer: the file that stands in the image, and nothing of how it is run.
use Rattle.std.specs.Prelude.{ℕ, ◌+◌, ◌≤◌, ◌≡◌, List, ◌++◌, map, length, drop, replicate}
use Rattle.meaning.specs.Syntax.{Module}
use Rattle.meaning.specs.Figures.{largest, room}
use Rattle.image.specs.Frames.{run_frames}
use Rattle.image.specs.Scenes.{Scene}
use Rattle.run_walk.specs.Work.{Work, meaning_of}
use Rattle.run_walk.specs.Valuing.{value_work}
use Rattle.run_times.specs.Times.{times_work}
use Rattle.run_engine.specs.Slots.{entered}

-- A module stands at position k of a file in the image, and the entries of scratch that are given it are as many as its room at least.
pub record Callable (image starts nets : List ℕ) (k given : ℕ) (scratch : List ℕ) : Type 0 where
  pub rs : List Module
  pub scene : Scene image starts nets rs k
  pub wide : room rs (16 + k) ≤ given
  pub enough : given ≤ length scratch

-- There are as many values as the module has inputs, and room for its outputs.
pub record Evaluable (image starts nets : List ℕ) (k given : ℕ) (values scratch out : List ℕ) : Type 0 where
  pub callable : Callable image starts nets k given scratch
  pub fed : length values ≡ length callable.scene.m.inputs
  pub fits : length callable.scene.m.outputs ≤ length out

-- What the module at position k gives.
abbrev pub answers : Work ℕ → List Module → (k : ℕ) → List ℕ → List ℕ
answers work rs k values = run_frames work.none (meaning_of work) rs (16 + k) values

-- The entries that were given are 0, and the rest is as it was.
abbrev pub cleared : (given : ℕ) → List ℕ → List ℕ
cleared given scratch = replicate given 0 ++ drop given scratch

pub record Evaluated (rs : List Module) (k given : ℕ) (values scratch out scratch' out' : List ℕ) : Type 0 where
  pub outputs : out' ≡ answers value_work rs k (map entered values) ++ drop (length (answers value_work rs k (map entered values))) out
  pub clean : scratch' ≡ cleared given scratch

-- By the delays of the kinds of gates, from 0 at the module's inputs.
abbrev pub Delayed : (lasts : ℕ → ℕ) (rs : List Module) (m : Module) (k r : ℕ) → Type 0
Delayed lasts rs m k r = r ≡ largest (answers (times_work lasts) rs k (replicate (length m.inputs) 0))
