-- The plan that flattening carries out: the module at its position, from an empty board.
use Prim.Native.Nat.{ℕ, ◌+◌, ◌≤◌}
use mathlib.Core.Path.{◌≡◌, ap, ap₂, ◌∙◌}
use mathlib.Core.List.{List, [], ◌∷◌}
use native.Mathlib.Omega.{arith}
use lib.ListN.{length, get_or, take, length-append}
use Rattle.meaning.specs.Lists.{All, more}
use Rattle.meaning.specs.Syntax.{Module}
use Rattle.meaning.specs.Layout.{each}
use Rattle.meaning.specs.Limits.{most_module_nets}
use Rattle.meaning.specs.Ceilings.{ModuleWithin}
use Rattle.meaning.specs.Flattening.{Placed, flat_module}
use Rattle.meaning.specs.Adder.{up_from}
use Rattle.laws.specs.Accepted.{good-accepted}
use Rattle.laws.specs.Adder.Nets.{length-up_from}
use Rattle.laws.specs.Flatten.Shape.{length-of-flat}
use Rattle.laws.specs.Flatten.Within.{flat-file-within}
use Rattle.bytes_out.specs.Puts.{put-none}
use Rattle.image.specs.Resolved.{resolve}
use Rattle.image.specs.Laid.{laid, length-laid, front-of-laid}
use Rattle.image.specs.Fitting.{accepted-fits}
use Rattle.image.specs.Frames.{FrameOk}
use Rattle.image.specs.Places.{HeaderOf, Headed}
use Rattle.image.specs.Scenes as scenes
use Rattle.image.specs.Calling.{inputs-within}
use Rattle.image.specs.declared.places.Header.{Header}
use Rattle.flat_engine.specs.Placing.{walk_placed, place_frames}
use Rattle.flat_engine.specs.AtPosition.{AtPosition, at_position}
use Rattle.flat_engine.specs.FlatFrames.{FlatWalk, flat_walk}
use Rattle.flat_engine.specs.Plan.{Plan, Ready, given, planned}
use Rattle.flat_engine.specs.Flat.{Flattenable, gates_of, front_of, flat_of}
use Rattle.flat_engine.specs.FlatBytes.{parts-of-flat}
use Rattle.flat_bytes.specs.declared.pen.Pen.{Pen}

module _
    {image starts nets : List ℕ} {k number : ℕ} {scratch bytes : List ℕ} (f : Flattenable image starts nets k number scratch bytes)
  where
    pub position : AtPosition f.ms number f.m k
    position = at_position (accepted-fits (good-accepted f.ms f.accepted)) number f.m f.found k f.position

    abbrev pub scene : scenes.Scene image starts nets (resolve f.ms) k
    scene = record { imaged = f.imaged; m = position.r; later = position.later; here = position.here }

    pub frame-ok : FrameOk k position.r position.later
    frame-ok = scenes.frame-ok scene

    module _ {header : Header} (of : Headed image (get_or starts k 0) header) where
      pub head : HeaderOf image (get_or starts k 0) position.r header
      head = of position.r (scenes.module_stands scene)

      count : header.inputs ≡ length f.m.inputs
      count = head.inputs ∙ position.inputs

      -- The flattened module can be written, and its bytes have places.
      abbrev pub flat : Module
      flat = flat_module f.ms number header.inputs

      pub flat-is : flat ≡ flat_of f.ms number f.m
      flat-is = ap (flat_module f.ms number) count

      pub flat-within : ModuleWithin flat
      flat-within =
          rw flat-is
          (first (flat-file-within f.ms number f.m f.accepted f.found f.within f.few).modules.modules)
        where
          first : {m : Module} → All ModuleWithin (m ∷ []) → ModuleWithin m
          first (more w rest) = w

      pub flat-long : length (gates_of flat) + length (front_of flat) ≤ length bytes
      flat-long =
          rw flat-is
          (omega (
            arith,
            f.long,
            ap length (parts-of-flat f.ms number f.m),
            length-append (front_of (flat_of f.ms number f.m)) (gates_of (flat_of f.ms number f.m)),
          ))

      pub gates-few : header.inputs + length flat.occurrences ≤ most_module_nets
      gates-few =
          let same = ap (λ (m : Module). length m.occurrences) flat-is in
          omega (arith, f.few, count, same, length-of-flat f.ms number f.m f.accepted f.found)

      abbrev pub plan : Plan
      plan =
          record {
            rs = resolve f.ms;
            m = position.r;
            later = position.later;
            board = record { next = header.inputs; gates = [] };
            around = bytes;
          }

      -- What is planned is the flattened module.
      abbrev pub walked : Placed
      walked = walk_placed (place_frames position.later) position.r.occurrences (up_from 0 header.inputs) plan.board

      pub walk_is : FlatWalk position.r flat header.inputs walked
      walk_is = flat_walk position frame-ok header.inputs count

      pub inputs-inside : header.inputs ≤ length scratch
      inputs-inside = omega (arith, head.inputs, inputs-within position.r, position.room, f.wide)

      -- The scratch with the nets of the inputs.
      module _ {numbered : List ℕ} (e : numbered ≡ laid scratch 0 (up_from 0 header.inputs)) where
        inputs-fit : 0 + length (up_from 0 header.inputs) ≤ length scratch
        inputs-fit = omega (arith, length-up_from 0 header.inputs, inputs-inside)

        pub numbered-long : length numbered ≡ length scratch
        numbered-long = ap length e ∙ length-laid scratch 0 (up_from 0 header.inputs) inputs-fit

        given_is : given plan numbered ≡ up_from 0 header.inputs
        given_is =
            let long : length position.r.inputs ≡ 0 + length (up_from 0 header.inputs) =
            omega (arith, length-up_from 0 header.inputs, head.inputs) in
            ap₂ take long e ∙ front-of-laid scratch 0 (up_from 0 header.inputs) inputs-fit

        pub planned-is : planned plan numbered ≡ walked
        planned-is = ap (λ (nets : List ℕ). walk_placed (place_frames position.later) position.r.occurrences nets plan.board) given_is

        pub ready : {pen : Pen} → pen.next ≡ header.inputs → pen.at ≡ 0 → Ready plan image starts nets k pen numbered bytes
        unfolding each
        ready next place =
            record {
              imaged = f.imaged;
              here = position.here;
              room = omega (arith, position.room, f.wide, numbered-long);
              written = record { next = next; put = rw place (put-none bytes 0) };
              few = rw (planned-is, walk_is.next) gates-few;
              within = rw (planned-is, walk_is.gates) flat-within.occurrences;
              long = rw (planned-is, walk_is.gates) (omega (arith, flat-long));
            }
