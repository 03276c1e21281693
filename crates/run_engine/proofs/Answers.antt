-- A call on the module at position k: its inputs are loaded, it is run, its outputs are read, and scratch is cleared. What is read is what
-- the file gives, and nothing of the run is left.
use Prim.Native.Nat.{ℕ, ◌+◌, ◌-◌, ◌≤◌, ◌<◌}
use mathlib.Core.Path.{◌≡◌, sym, ap, ap₂, ◌∙◌}
use mathlib.Core.List.{List, ◌++◌, map}
use native.Mathlib.Omega.{arith}
use lib.ListN.{length, get_or, take, drop, length-append, length-map, length-drop, replicate, length-replicate}
use lib.Seq.{take-append_seam, drop-append_seam}
use Rattle.meaning.specs.Syntax.{Module}
use Rattle.meaning.specs.Lists.{none, more}
use Rattle.meaning.specs.Ceilings.{Bytes}
use Rattle.meaning.specs.Gates.{gate_code}
use Rattle.laws.specs.Gates.{gate-code-small}
use Rattle.image.specs.Frames.{read_slots}
use Rattle.image.specs.FrameValues.{Gives, all-run_frames}
use Rattle.image.specs.Searching.{room-search}
use Rattle.image.specs.Entries.{same-further}
use Rattle.image.specs.Places.{HeaderOf}
use Rattle.image.specs.Scenes.{frame-ok, says_here}
use Rattle.image.specs.Slots.{Readable, values_at}
use Rattle.image.specs.Reading.{values-stand, readable-stands}
use Rattle.image.specs.Walking.{needed}
use Rattle.image.specs.Calling.{inputs-within}
use Rattle.image.specs.declared.places.Header.{Header}
use Rattle.run_walk.specs.Work.{Work, meaning_of}
use Rattle.run_walk.specs.Valuing.{value_work}
use Rattle.run_walk.specs.Running.{Runnable, Ran}
use Rattle.run_engine.specs.Slots.{entered}
use Rattle.run_walk.specs.Outputs.{outputs-are as ran-outputs}
use Rattle.run_engine.specs.Calls.{Callable, answers, cleared}

module _ {image starts nets : List ℕ} {k given : ℕ} {scratch : List ℕ} (e : Callable image starts nets k given scratch) where
  pub needed-given : needed e.scene.m e.scene.later ≤ given
  needed-given = omega (arith, e.wide, says_here e.scene room-search)

  pub inputs-fit : length e.scene.m.inputs ≤ needed e.scene.m e.scene.later
  inputs-fit = omega (arith, inputs-within e.scene.m)

  -- The inputs stand at the front of scratch.
  pub record Fed (vs scratch₁ : List ℕ) : Type 0 where
    pub fed : length vs ≡ length e.scene.m.inputs
    pub front : scratch₁ ≡ vs ++ drop (length vs) scratch

  -- What values enter as.
  pub values-fed :
      (values : List ℕ) {scratch₁ : List ℕ}
      → length values ≡ length e.scene.m.inputs
      → scratch₁ ≡ map entered values ++ drop (length values) scratch
      → Fed (map entered values) scratch₁
  values-fed values fed front =
      let long = length-map values entered in
      record { fed = long ∙ fed; front = front ∙ ap (λ (n : ℕ). map entered values ++ drop n scratch) (sym long) }

  -- Zeros as inputs.
  pub zeros-fed :
      {h : Header} {scratch₁ : List ℕ}
      → HeaderOf image (get_or starts k 0) e.scene.m h
      → scratch₁ ≡ cleared h.inputs scratch
      → Fed (replicate (length e.scene.m.inputs) 0) scratch₁
  zeros-fed header c =
      let long = length-replicate {A = ℕ} (length e.scene.m.inputs) 0 in
      record {
        fed = long;
        front =
            c ∙ ap₂ (λ (n m : ℕ). replicate n 0 ++ drop m scratch) header.inputs (header.inputs ∙ sym long);
      }

  module _ {vs scratch₁ : List ℕ} (f : Fed vs scratch₁) where
    pub fed-size : length scratch₁ ≡ length scratch
    fed-size =
        ap length f.front
        ∙ length-append vs (drop (length vs) scratch)
        ∙ omega (arith, length-drop (length vs) scratch, f.fed, inputs-fit, needed-given, e.enough)

    -- It can be run from there,
    abbrev pub runnable : Runnable image starts nets k scratch₁
    runnable =
        record {
          rs = e.rs;
          scene = e.scene;
          enough = omega (arith, fed-size, needed-given, e.enough);
        }

    module _ (work : Work ℕ) {scratch₂ : List ℕ} (ran : Ran work e.scene.m e.scene.later scratch₁ scratch₂) where
      inputs-loaded : take (length e.scene.m.inputs) scratch₁ ≡ vs
      inputs-loaded = ap₂ take (sym f.fed) f.front ∙ take-append_seam vs (drop (length vs) scratch)

      -- and then gives what the file says.
      outputs-are : read_slots work.none scratch₂ e.scene.m.outputs ≡ answers work e.rs k vs
      outputs-are = ran-outputs e.scene ran ∙ ap (answers work e.rs k) inputs-loaded

      -- Cleared, scratch holds nothing of the run.
      pub leaves-clean : {scratch₃ : List ℕ} → scratch₃ ≡ cleared given scratch₂ → scratch₃ ≡ cleared given scratch
      leaves-clean c =
          c
          ∙ ap (λ (l : List ℕ). replicate given 0 ++ l)
          (same-further scratch₂ scratch₁ (needed e.scene.m e.scene.later) given needed-given ran.behind
          ∙ same-further scratch₁ scratch (length vs) given (omega (arith, f.fed, inputs-fit, needed-given))
          (ap (drop (length vs)) f.front ∙ drop-append_seam vs (drop (length vs) scratch)))

      module _ {h : Header} (header : HeaderOf image (get_or starts k 0) e.scene.m h) where
        pub outputs-readable : length scratch₂ ≡ length scratch₁ → Readable image h.from h.to 0 (length scratch₂)
        outputs-readable size =
            readable-stands h.from header.outputs header.to 0 (length scratch₂) (frame-ok e.scene).answered
            (omega (arith, size, fed-size, needed-given, e.enough))

        pub outputs-counted : h.to - h.from ≡ length e.scene.m.outputs
        outputs-counted = omega (arith, header.to)

        pub outputs-read : values_at work.none image h.from h.to 0 scratch₂ ≡ answers work e.rs k vs
        outputs-read = values-stand h.from header.outputs header.to work.none 0 scratch₂ ∙ outputs-are

-- From bytes a module gives bytes.
pub answers-bytes : (rs : List Module) (k : ℕ) {vs : List ℕ} → Bytes vs → Bytes (answers value_work rs k vs)
answers-bytes rs k vs = (all-run_frames 0 (omega arith) gates-give rs).gives (16 + k) vs
  where
    gates-give : Gives (λ b. b < 256) (meaning_of value_work)
    gates-give = record { gives = λ number {vs} a. more {x = gate_code number vs} (omega (arith, gate-code-small number vs)) none }
