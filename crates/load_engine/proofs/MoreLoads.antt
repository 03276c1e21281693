-- The loads that are kept, with those of one module more. Modules stand apart in the image, so what is written of one leaves the others as
-- they were.
use Prim.Native.Nat.{ℕ, zero, suc, ◌+◌, ◌-◌, ◌≤◌, ◌<◌}
use mathlib.Core.Path.{◌≡◌, refl, sym, ap, ap₂, subst, ◌∙◌}
use mathlib.Core.Bool.{Bool, true, false}
use mathlib.Core.Logic.{◌≢◌, ◌⊎◌, inl, inr, ⊎_elim}
use mathlib.Core.List.{List, [], ◌∷◌}
use native.Mathlib.Omega.{arith}
use borrow.Author.Tests.{eqb-true, eqb-false}
use lib.Dec.{eqb}
use lib.ListN.{length, get_or, take, drop, set, length-drop}
use lib.Seq.{length-paste, get_or-set_other, take-length}
use Rattle.meaning.specs.Syntax.{Module}
use Rattle.meaning.specs.Limits.{net_count}
use Rattle.meaning.specs.Loads.{largest_load}
use Rattle.image.specs.Pieces.{length-of_module, module_at}
use Rattle.image.specs.Copies.{either_first, copy_there, part-elsewhere}
use Rattle.image.specs.Slots.{values_at}
use Rattle.image.specs.Reading.{length-of-values, values-stand, readable-stands}
use Rattle.image.specs.Places.{HeaderOf}
use Rattle.image.specs.Scenes.{module_stands, frame_is, frame-ok}
use Rattle.image.specs.Calling.{inputs-within}
use Rattle.image.specs.declared.places.Header.{Header}
use Rattle.load_steps.specs.Steps.{Keepable, Written}
use Rattle.load_engine.specs.Loads.{Loadable, LoadsThere, LoadsKept, Loaded}
use Rattle.load_engine.proofs.Loading.{FrameLoaded, frame-fits, inputs-loaded, outputs-loaded}

-- An entry that is not 0 is the one that was set, or was there before.
set_here : (known : List ℕ) (k v : ℕ) → 0 < get_or (set known k v) k 0 → get_or (set known k v) k 0 ≡ v
set_here [] k v some = absurd (omega arith)
set_here (x ∷ known) zero v some = refl
set_here (x ∷ known) (suc k) v some = set_here known k v some

module _
    {image starts nets : List ℕ} {k entries : ℕ} (s : Loadable image starts nets k entries)
    {loads known entry scratch : List ℕ} {load : ℕ} (kept : LoadsKept image starts s.rs loads known)
    (framed : FrameLoaded s.rs s.scene.m s.scene.later k load entry scratch) (long : length scratch ≡ entries)
    {h : Header} (header : HeaderOf image (get_or starts k 0) s.scene.m h)
  where
    abbrev m : Module
    m = s.scene.m

    abbrev start : ℕ
    start = get_or starts k 0

    -- The places of a module's inputs and outputs lie apart from those of another.
    apart :
        (j : ℕ) {n : Module} {later : List Module}
        → drop j s.rs ≡ n ∷ later
        → j ≢ k
        → (get_or starts j 0 + 4 + length n.inputs + length n.outputs ≤ start)
        ⊎ (start + 4 + length m.inputs + length m.outputs ≤ get_or starts j 0)
    apart j {n} here other =
        ⊎_elim
        (λ less. inl (omega (arith, s.ordered.ends j k here less (within k s.scene.here), length-of_module n)))
        (λ less. inr (omega (arith, s.ordered.ends k j s.scene.here less (within j here), length-of_module m)))
        (either_first j k other)
      where
        within : (i : ℕ) {n : Module} {later : List Module} → drop i s.rs ≡ n ∷ later → i < length s.rs
        within i here = omega (arith, ap length here, length-drop i s.rs)

    -- They lie within the list, and the nets within the frame, so they can be kept.
    ends : start + 4 + length m.inputs + length m.outputs ≤ length loads
    ends = omega (arith, (module_at m (module_stands s.scene)).end, kept.long)

    frame_in : net_count m ≤ length scratch
    frame_in = omega (arith, frame-fits s, frame_is s.scene, long)

    inputs-fit : start + 2 + h.inputs ≤ length loads
    inputs-fit = omega (arith, ends, header.inputs)

    inputs_long : h.inputs ≤ length scratch
    inputs_long = omega (arith, frame_in, header.inputs, inputs-within m)

    outputs-there : h.to ≤ length loads
    outputs-there = omega (arith, ends, header.from, header.to)

    pub keepable : Keepable image start h load scratch loads
    keepable =
        record {
          frame = inputs_long;
          there = inputs-fit;
          outputs = readable-stands h.from header.outputs header.to 0 (length scratch) (frame-ok s.scene).answered (omega (arith, frame_in));
          outputs_there = outputs-there;
          fits = omega (arith, framed.largest, s.loads);
        }

    module _ {loads' known' : List ℕ} (written : Written image start h k load scratch loads known loads' known') where
      abbrev values : List ℕ
      values = values_at 0 image h.from h.to 0 scratch

      values-long : length values ≡ h.to - h.from
      values-long = length-of-values 0 image h.from h.to 0 scratch (omega (arith, header.outputs.within, header.to))

      middle-long : length written.middle ≡ length loads
      middle-long = ap length written.inputs ∙ length-paste loads (start + 2) scratch h.inputs inputs-fit inputs_long

      outputs-fit : h.from + (h.to - h.from) ≤ length written.middle
      outputs-fit = omega (arith, outputs-there, middle-long, header.to)

      -- Another part of the list is as it was.
      untouched :
          (from size : ℕ)
          → (from + size ≤ start + 2) ⊎ (h.to ≤ from)
          → take size (drop from loads') ≡ take size (drop from loads)
      untouched from size side =
          ap (λ (l : List ℕ). take size (drop from l)) written.outputs
          ∙ part-elsewhere written.middle h.from values (h.to - h.from) outputs-fit (omega (arith, values-long)) from size
          (⊎_elim (λ before. inl (omega (arith, header.from))) (λ behind. inr (omega (arith, header.to))) side)
          ∙ ap (λ (l : List ℕ). take size (drop from l)) written.inputs
          ∙ part-elsewhere loads (start + 2) scratch h.inputs inputs-fit inputs_long from size
          (⊎_elim (λ before. inl before) (λ behind. inr (omega (arith, header.from, header.to, header.inputs))) side)

      there : LoadsThere starts s.rs k m loads'
      there =
          record {
            inputs =
                ap (λ (n : ℕ). take n (drop (start + 2) loads')) (sym header.inputs)
                ∙ ap (λ (l : List ℕ). take h.inputs (drop (start + 2) l)) written.outputs
                ∙ part-elsewhere written.middle h.from values (h.to - h.from) outputs-fit (omega (arith, values-long))
                (start + 2) h.inputs (inl (omega (arith, header.from, header.inputs)))
                ∙ ap (λ (l : List ℕ). take h.inputs (drop (start + 2) l)) written.inputs
                ∙ copy_there loads (start + 2) scratch h.inputs inputs-fit inputs_long
                ∙ ap (λ (n : ℕ). take n scratch) header.inputs
                ∙ inputs-loaded s.scene framed;
            outputs =
                let count : length m.outputs ≡ h.to - h.from = omega (arith, header.to) in
                ap₂ (λ (n i : ℕ). take n (drop i loads')) count (sym header.from)
                ∙ ap (λ (l : List ℕ). take (h.to - h.from) (drop h.from l)) written.outputs
                ∙ copy_there written.middle h.from values (h.to - h.from) outputs-fit (omega (arith, values-long))
                ∙ ap (λ (n : ℕ). take n values) (sym values-long)
                ∙ take-length values
                ∙ values-stand h.from header.outputs header.to 0 0 scratch
                ∙ outputs-loaded s.scene framed;
          }

      -- The others are as they were.
      elsewhere :
          (j : ℕ) {n : Module} {later : List Module}
          → drop j s.rs ≡ n ∷ later
          → j ≢ k
          → LoadsThere starts s.rs j n loads
          → LoadsThere starts s.rs j n loads'
      elsewhere j {n} here other before =
          record {
            inputs =
                untouched (get_or starts j 0 + 2) (length n.inputs)
                (⊎_elim (λ less. inl (omega arith)) (λ less. inr (omega (arith, header.from, header.to))) (apart j here other))
                ∙ before.inputs;
            outputs =
                untouched (get_or starts j 0 + 3 + length n.inputs) (length n.outputs)
                (⊎_elim (λ less. inl (omega arith)) (λ less. inr (omega (arith, header.from, header.to))) (apart j here other))
                ∙ before.outputs;
          }

      marked : (j : ℕ) → j ≢ k → get_or known' j 0 ≡ get_or known j 0
      marked j other = ap (λ (l : List ℕ). get_or l j 0) written.largest ∙ get_or-set_other known k j (load + 1) 0 other

      more-kept : length loads' ≡ length loads → LoadsKept image starts s.rs loads' known'
      more-kept same =
          record {
            long = omega (arith, kept.long);
            largest = λ j here some. largest-at j here some (eqb j k) refl;
            there = λ j here some. loads-at j here some (eqb j k) refl;
          }
        where
          largest-at :
              (j : ℕ) {n : Module} {later : List Module}
              → drop j s.rs ≡ n ∷ later
              → 0 < get_or known' j 0
              → (b : Bool)
              → eqb j k ≡ b
              → get_or known' j 0 ≡ largest_load s.rs (16 + j) + 1
          largest-at j here some true same =
              let now = eqb-true j k same in
              rw now
              (ap (λ (l : List ℕ). get_or l k 0) written.largest
              ∙ set_here known k (load + 1) (rw (now, written.largest) at some)
              ∙ ap (λ (n : ℕ). n + 1) framed.largest)
          largest-at j here some false differ =
              let other = eqb-false j k differ in
              marked j other ∙ kept.largest j here (omega (arith, marked j other))

          loads-at :
              (j : ℕ) {n : Module} {later : List Module}
              → drop j s.rs ≡ n ∷ later
              → 0 < get_or known' j 0
              → (b : Bool)
              → eqb j k ≡ b
              → LoadsThere starts s.rs j n loads'
          loads-at j {n} here some true same =
              let now = eqb-true j k same in
              let own : m ≡ n = cc s.scene.here in
              rw now (subst (λ (r : Module). LoadsThere starts s.rs k r loads') own there)
          loads-at j here some false differ =
              let other = eqb-false j k differ in
              elsewhere j here other (kept.there j here (omega (arith, marked j other)))

      -- What is kept, with the module's loads, is the answer.
      pub now-kept : length loads' ≡ length loads → Loaded image starts s.rs s.scene.m k load entry scratch loads' known'
      now-kept same = record { largest = framed.largest; there = there; kept = more-kept same; behind = framed.behind }
