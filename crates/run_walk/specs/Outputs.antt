-- What stands at the slots of a module's outputs once it has run is what the file gives for its inputs, whatever the type of an entry.
use Rattle.std.specs.Prelude.{ℕ, ◌+◌, ◌≡◌, List, length, take}
use Rattle.std.proofs.Common.{sym, ap, ◌∙◌}
use Rattle.meaning.specs.Syntax.{Module}
use Rattle.image.specs.Frames.{read_slots, run_frame, run_frames}
use Rattle.image.specs.Searching.{run_frames-search}
use Rattle.image.specs.Scenes.{Scene, frame-ok, says_here}
use Rattle.image.specs.Reading.{read-front}
use Rattle.run_walk.specs.Work.{Work, meaning_of}
use Rattle.run_walk.specs.Running.{Ran}

pub outputs-are :
    {A : Type 0} {work : Work A} {image starts nets : List ℕ} {rs : List Module} {k : ℕ} (s : Scene image starts nets rs k) {scratch scratch' : List A}
    → Ran work s.m s.later scratch scratch'
    → read_slots work.none scratch' s.m.outputs
    ≡ run_frames work.none (meaning_of work) rs (16 + k) (take (length s.m.inputs) scratch)
unfolding run_frame
outputs-are {A} {work} s {scratch} {scratch'} ran =
    sym (read-front work.none scratch' s.m.outputs (frame-ok s).answered)
    ∙ ap (λ (l : List A). read_slots work.none l s.m.outputs) ran.frame
    ∙ sym
    (ap (λ (run : List A → List A). run (take (length s.m.inputs) scratch)) (says_here s (run_frames-search work.none (meaning_of work))))
