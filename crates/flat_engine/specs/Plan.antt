-- What placing a module asks and does, on the image of a file that can be run on frames.
use Rattle.std.specs.Prelude.{ℕ, ◌≤◌, ◌≡◌, List, ◌∷◌, length, get_or, take, drop}
use Rattle.meaning.specs.Lists.{All}
use Rattle.meaning.specs.Syntax.{Module}
use Rattle.meaning.specs.Layout.{each}
use Rattle.meaning.specs.Ceilings.{OccurrenceWithin}
use Rattle.meaning.specs.Limits.{net_count, most_module_nets}
use Rattle.meaning.specs.Flattening.{Board, Placed}
use Rattle.laws.specs.Written.{occurrence_bytes}
use Rattle.image.specs.Imaged.{Imaged}
use Rattle.image.specs.Places.{HeaderOf}
use Rattle.image.specs.Scenes.{Scene}
use Rattle.image.specs.Walking.{needed}
use Rattle.image.specs.declared.places.Header.{Header}
use Rattle.flat_engine.specs.Placing.{walk_placed, place_frames}
use Rattle.flat_bytes.specs.Gates.{Written}
use Rattle.flat_bytes.specs.declared.pen.Pen.{Pen}

-- What is placed: a module of the file, in front of the later ones, on a board whose gates stand at the front of `around`.
pub record Plan : Type 0 where
  pub rs : List Module
  pub m : Module
  pub later : List Module
  pub board : Board
  pub around : List ℕ

-- All that the module's walk gives, if the nets of its inputs stand at the front of the scratch.
abbrev pub given : Plan → (scratch : List ℕ) → List ℕ
given p scratch = take (length p.m.inputs) scratch

abbrev pub planned : Plan → (scratch : List ℕ) → Placed
planned p scratch = walk_placed (place_frames p.later) p.m.occurrences (given p scratch) p.board

-- The plan can be carried out: its room is there, and its gates have numbers, can be written, and have places.
pub record Ready (p : Plan) (image starts nets : List ℕ) (k : ℕ) (pen : Pen) (scratch bytes : List ℕ) : Type 0 where
  pub imaged : Imaged image starts nets p.rs
  pub here : drop k p.rs ≡ p.m ∷ p.later
  pub room : needed p.m p.later ≤ length scratch
  pub written : Written p.around p.board pen bytes
  pub few : (planned p scratch).board.next ≤ most_module_nets
  pub within : All OccurrenceWithin (planned p scratch).board.gates
  pub long : length (each occurrence_bytes (planned p scratch).board.gates) ≤ length p.around

pub record SomeReady (image starts nets : List ℕ) (k : ℕ) (pen : Pen) (scratch bytes : List ℕ) : Type 0 where
  pub plan : Plan
  pub ready : Ready plan image starts nets k pen scratch bytes

-- The same where the module's header was read.
pub record SomeWalkable (image starts nets : List ℕ) (k : ℕ) (h : Header) (pen : Pen) (scratch bytes : List ℕ) : Type 0 where
  pub plan : Plan
  pub ready : Ready plan image starts nets k pen scratch bytes
  pub header : HeaderOf image (get_or starts k 0) plan.m h

-- The module that a plan is of, where it stands.
abbrev pub scene :
    {p : Plan} {image starts nets : List ℕ} {k : ℕ} {pen : Pen} {scratch bytes : List ℕ}
    → Ready p image starts nets k pen scratch bytes
    → Scene image starts nets p.rs k
scene {p} ready = record { imaged = ready.imaged; m = p.m; later = p.later; here = ready.here }

-- It is carried out: the module's nets stand at the front of the scratch, and its gates are written.
pub record Done (p : Plan) (before after : List ℕ) (pen : Pen) (bytes : List ℕ) : Type 0 where
  pub size : length after ≡ length before
  pub frame : take (net_count p.m) after ≡ (planned p before).nets
  pub written : Written p.around (planned p before).board pen bytes
