-- The module at a position of a file in the image: where it stands, what the file says of it, and the module at a later position that one
-- of its occurrences refers to.
use Rattle.std.specs.Prelude.{ℕ, suc, ◌+◌, ◌-◌, ◌<◌, ◌≡◌, false, List, ◌∷◌, length, get_or, drop}
use Rattle.std.proofs.Common.{zero-le, sym, ap, ap₂, subst, ◌∙◌, arith, ltb-false, length-drop}
use Rattle.meaning.specs.Syntax.{Occurrence, Module}
use Rattle.meaning.specs.Gates.{is_gate}
use Rattle.meaning.specs.Layout.{module_numbers}
use Rattle.meaning.specs.Limits.{net_count}
use Rattle.meaning.specs.Boxlist.{box, assoc}
use Rattle.laws.specs.WellFormed.{Reference}
use Rattle.image.specs.Stands.{Stands}
use Rattle.image.specs.Resolved.{refer_to, resolve_module, resolve_from, resolve, position_of}
use Rattle.image.specs.Frames.{FrameOk}
use Rattle.image.specs.Searching.{Search}
use Rattle.image.specs.Positions.{found_at}
use Rattle.image.specs.ResolvedLayout.{resolved-at}
use Rattle.image.specs.Stepping.{frame_at, behind, referred, search-at}
use Rattle.image.specs.Imaged.{Imaged}
use Rattle.image.specs.Places.{ModuleThere}

-- Module m is at position k, the modules `later` come after it.
pub record Scene (image starts nets : List ℕ) (rs : List Module) (k : ℕ) : Type 0 where
  pub imaged : Imaged image starts nets rs
  pub m : Module
  pub later : List Module
  pub here : drop k rs ≡ m ∷ later

-- The module of a number in a file that stands there resolved.
abbrev pub found-scene :
    {image starts nets : List ℕ} (ms : List Module)
    → Imaged image starts nets (resolve ms)
    → (number : ℕ) {m : Module}
    → assoc number ms ≡ box m
    → Scene image starts nets (resolve ms) (position_of number ms)
found-scene ms imaged number {m} found =
    let p = position_of number ms in
    record {
      imaged = imaged;
      m = resolve_module (refer_to ms) p m;
      later = resolve_from (refer_to ms) (suc p) (drop (suc p) ms);
      here = resolved-at ms p (found_at number ms found);
    }

module _ {image starts nets : List ℕ} {rs : List Module} {k : ℕ} (s : Scene image starts nets rs k) where
  inside : k < length rs
  inside = omega (arith, ap length s.here, length-drop k rs)

  pub in_starts : k < length starts
  in_starts = omega (arith, inside, s.imaged.started)

  pub in_nets : k < length nets
  in_nets = omega (arith, inside, s.imaged.tabled)

  pub module_stands : Stands image (get_or starts k 0) (module_numbers s.m)
  module_stands = s.imaged.standing k s.here

  pub module_there : ModuleThere image (get_or starts k 0)
  module_there = record { m = s.m; stands = module_stands }

  pub frame_is : get_or nets k 0 ≡ net_count s.m
  frame_is = s.imaged.counted k s.here

  pub frame-ok : FrameOk k s.m s.later
  frame-ok = frame_at s.imaged.frames k s.here

  -- What the file says of the position, it says of the module there.
  pub says_here :
      {C : Type 0} {f : List Module → ℕ → C} {own : Module → List Module → C} → Search f own → f rs (16 + k) ≡ own s.m s.later
  says_here {own = own} says =
      search-at s.imaged.frames says 0 k zero-le s.here ∙ ap (own s.m) (behind s.imaged.frames k s.here)

-- The module at position j, to which an occurrence of the one at position k refers.
pub record Beyond (image starts nets : List ℕ) (rs : List Module) (k j : ℕ) (o : Occurrence) : Type 0 where
  pub scene : Scene image starts nets rs j
  pub after : k < j
  pub takes : length o.takes ≡ length scene.m.inputs
  pub drives : length o.drives ≡ length scene.m.outputs

module _
    {image starts nets : List ℕ} {rs : List Module} {k : ℕ} (s : Scene image starts nets rs k) {o : Occurrence}
    (reference : Reference s.later o) {refers : ℕ} (is : refers ≡ o.refers) (no_gate : is_gate refers ≡ false)
  where
    number : o.refers ≡ 16 + (refers - 16)
    number = omega (arith, is, ltb-false refers 16 no_gate)

    pub beyond : Beyond image starts nets rs k (refers - 16) o
    beyond =
        let r = referred s.imaged.frames k s.here reference (ap is_gate (sym is) ∙ no_gate) in
        let same : r.j ≡ refers - 16 = omega (arith, r.number, number) in
        subst (λ (j : ℕ). Beyond image starts nets rs k j o) same
        (record {
          scene = record { imaged = s.imaged; m = r.m; later = r.later; here = r.here };
          after = r.after;
          takes = r.takes;
          drives = r.drives;
        })

    -- What the later modules say of the number is what the file says of the position.
    pub says-beyond :
        {C : Type 0} {f : List Module → ℕ → C} {own : Module → List Module → C}
        → Search f own
        → f s.later o.refers ≡ f rs (16 + (refers - 16))
    says-beyond {f = f} says =
        let frames = s.imaged.frames in
        ap₂ f (sym (behind frames k s.here)) number
        ∙ search-at frames says (k + 1) (refers - 16) (omega (arith, beyond.after)) beyond.scene.here
        ∙ sym (search-at frames says 0 (refers - 16) zero-le beyond.scene.here)
