-- What running the module at a position asks and answers: it stands in the image, and scratch has room for it.
use Rattle.std.specs.Prelude.{ℕ, ◌≤◌, ◌≡◌, List, length, get_or, take, drop}
use Rattle.meaning.specs.Syntax.{Occurrence, Module}
use Rattle.meaning.specs.Limits.{net_count}
use Rattle.meaning.specs.Evaluation.{Meaning}
use Rattle.image.specs.Frames.{walk_frame, run_frames}
use Rattle.image.specs.Places.{HeaderOf}
use Rattle.image.specs.Scenes.{Scene}
use Rattle.image.specs.Walking.{needed}
use Rattle.image.specs.declared.places.Header.{Header}
use Rattle.run_walk.specs.Work.{Work, meaning_of}

pub record Runnable {A : Type 0} (image starts nets : List ℕ) (k : ℕ) (scratch : List A) : Type 0 where
  pub rs : List Module
  pub scene : Scene image starts nets rs k
  pub enough : needed scene.m scene.later ≤ length scratch

-- The same where the module's header was read.
pub record Walkable {A : Type 0} (image starts nets : List ℕ) (k : ℕ) (h : Header) (scratch : List A) : Type 0 where
  pub runnable : Runnable image starts nets k scratch
  pub header : HeaderOf image (get_or starts k 0) runnable.scene.m h

-- What modules give, and what occurrences make of a frame.
abbrev pub run_of : {A : Type 0} → Work A → List Module → Meaning A
run_of work later = run_frames work.none (meaning_of work) later

abbrev pub walk_of : {A : Type 0} → Work A → (later : List Module) → List Occurrence → List A → List A
walk_of work later os frame = walk_frame work.none (meaning_of work) (run_of work later) os frame

-- The module's frame stands at the front of scratch, filled; its inputs stood there before. Nothing behind its room was touched.
pub record Ran {A : Type 0} (work : Work A) (m : Module) (later : List Module) (scratch scratch' : List A) : Type 0 where
  pub frame : take (net_count m) scratch' ≡ walk_of work later m.occurrences (take (length m.inputs) scratch)
  pub behind : drop (needed m later) scratch' ≡ drop (needed m later) scratch
