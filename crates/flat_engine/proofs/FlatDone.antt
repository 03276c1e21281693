-- Once the plan of flattening is carried out: what stands in front of the gates can be written behind them, and with it the bytes are
-- those of the flattened file.
use Prim.Native.Nat.{ℕ, ◌+◌, ◌-◌, zero-le}
use mathlib.Core.Path.{◌≡◌, refl, sym, ap, subst, ◌∙◌}
use mathlib.Core.List.{List, ◌++◌}
use native.Mathlib.Omega.{arith}
use lib.ListN.{length, get_or, take}
use Rattle.meaning.specs.Syntax.{Occurrence, Module}
use Rattle.meaning.specs.Layout.{each}
use Rattle.meaning.specs.Limits.{net_count}
use Rattle.meaning.specs.Flattening.{Placed, flat_module}
use Rattle.meaning.specs.Adder.{up_from}
use Rattle.laws.specs.Written.{occurrence_bytes}
use Rattle.bytes_out.specs.Filled.{Put, Filled}
use Rattle.bytes_out.specs.Puts.{put-more, put_front, length-put}
use Rattle.image.specs.Frames.{read_slots}
use Rattle.image.specs.Frames as frames
use Rattle.image.specs.Laid.{laid}
use Rattle.image.specs.Stands.{Stands}
use Rattle.image.specs.Pieces.{module_at}
use Rattle.image.specs.Places.{Headed}
use Rattle.image.specs.Scenes.{module_stands}
use Rattle.image.specs.Slots.{Readable}
use Rattle.image.specs.Reading.{values-stand, readable-stands, read-front}
use Rattle.image.specs.declared.places.Header.{Header}
use Rattle.flat_bytes.specs.Slots.{nets_at}
use Rattle.flat_bytes.specs.Front.{Frontable, Fronted, ins_at, outs_at}
use Rattle.flat_engine.specs.FlatFrames.{inputs-filled}
use Rattle.flat_engine.specs.Plan.{Done}
use Rattle.flat_engine.specs.Flat.{Flattenable, Flattened, gates_of, front_of}
use Rattle.flat_bytes.specs.declared.pen.Pen.{Pen}
use Rattle.flat_engine.proofs.FlatPlan.{position, scene, frame-ok, head, flat, flat-is, flat-within, flat-long, gates-few, plan, walked, walk_is}
use Rattle.flat_engine.proofs.FlatPlan.{numbered-long, planned-is}

module _
    {image starts nets : List ℕ} {k number : ℕ} {scratch bytes : List ℕ} (f : Flattenable image starts nets k number scratch bytes)
    {header : Header} (of : Headed image (get_or starts k 0) header)
    {numbered : List ℕ} (e : numbered ≡ laid scratch 0 (up_from 0 header.inputs))
    {scratch' bytes' : List ℕ} {last : Pen} (done : Done (plan f of) numbered scratch' last bytes')
  where
    abbrev frame : List ℕ
    frame = (walked f of).nets

    scratch-long : length scratch' ≡ length scratch
    scratch-long = done.size ∙ numbered-long f of e

    frame_is : take (net_count (position f).r) scratch' ≡ frame
    frame_is = done.frame ∙ ap (λ (q : Placed). q.nets) (planned-is f of e)

    -- A list of slots of the module is read from its frame.
    module _
        {from : ℕ} {to : ℕ} {slots : List ℕ} (there : Stands image from slots) (end : to ≡ from + length slots)
        (filled : frames.Filled (net_count (position f).r) slots)
      where
        nets-are : nets_at image from to scratch' ≡ read_slots 0 frame slots
        nets-are =
            values-stand from there end 0 0 scratch'
            ∙ sym (read-front 0 scratch' slots filled)
            ∙ ap (λ (xs : List ℕ). read_slots 0 xs slots) frame_is

        readable : Readable image from to 0 (length scratch')
        readable = readable-stands from there end 0 (length scratch') filled (omega (arith, (position f).room, f.wide, scratch-long))

    inputs-there : Stands image (get_or starts k 0 + 2) (position f).r.inputs
    inputs-there = (module_at (position f).r (module_stands (scene f))).inputs (get_or starts k 0 + 2) refl

    inputs_end : get_or starts k 0 + 2 + header.inputs ≡ get_or starts k 0 + 2 + length (position f).r.inputs
    inputs_end = omega (arith, (head f of).inputs)

    inputs-filled-here : frames.Filled (net_count (position f).r) (position f).r.inputs
    inputs-filled-here = inputs-filled (frame-ok f)

    ins : ins_at image (get_or starts k 0) header scratch' ≡ (flat f of).inputs
    ins = nets-are inputs-there inputs_end inputs-filled-here ∙ (walk_is f of).ins

    outs : outs_at image header scratch' ≡ (flat f of).outputs
    outs = nets-are (head f of).outputs (head f of).to (frame-ok f).answered ∙ (walk_is f of).outs

    -- The gates are those of the flattened module.
    gates-put : Put (gates_of (flat f of)) bytes 0 bytes' last.at
    gates-put =
        subst (λ (os : List Occurrence). Put (each occurrence_bytes os) bytes 0 bytes' last.at)
        (ap (λ (q : Placed). q.board.gates) (planned-is f of e) ∙ (walk_is f of).gates) done.written.put

    bytes-long : length bytes' ≡ length bytes
    bytes-long = length-put gates-put zero-le (omega (arith, gates-put.place, flat-long f of))

    pub last-next : last.next ≡ header.inputs + length (flat f of).occurrences
    last-next = done.written.next ∙ ap (λ (q : Placed). q.board.next) (planned-is f of e) ∙ (walk_is f of).next

    module _ {gates : ℕ} (counted : gates ≡ last.next - header.inputs) where
      count-is : gates ≡ length (flat f of).occurrences
      count-is = omega (arith, counted, last-next)

      pub frontable : Frontable image (get_or starts k 0) header number gates scratch' bytes' last.at
      unfolding flat_module
      frontable =
          record {
            own = (flat-within f of).number;
            counted = omega (arith, count-is, gates-few f of);
            ins = readable inputs-there inputs_end inputs-filled-here;
            ins_within = rw ins (flat-within f of).inputs;
            outs = readable (head f of).outputs (head f of).to (frame-ok f).answered;
            outs_within = rw outs (flat-within f of).outputs;
            room = rw (ins, outs, count-is) (omega (arith, gates-put.place, flat-long f of, bytes-long));
          }

      pub flattened :
          {after : List ℕ} {whole : ℕ}
          → Fronted image (get_or starts k 0) header number gates scratch' bytes' last.at after whole
          → Flattened f.ms number f.m bytes after (record { gates = last.at; whole = whole })
      unfolding flat_module
      flattened {after} {whole} front =
          let all : Put (gates_of (flat f of) ++ front_of (flat f of)) bytes 0 after whole =
          put-more gates-put zero-le (rw (ins, outs, count-is) at front) in
          record {
            gates = omega (arith, gates-put.place, ap (λ (m : Module). length (gates_of m)) (flat-is f of));
            filled = subst (λ (m : Module). Filled (gates_of m ++ front_of m) bytes after whole) (flat-is f of) (put_front all);
          }
