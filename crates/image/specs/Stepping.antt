-- Going through a file that can be run on frames, from a module to those that it refers to: what holds of the module at a position, where
-- its references lead. What stands in front of a module does not matter to it.
use Rattle.std.specs.Prelude.{ℕ, zero, suc, ◌+◌, ◌≤◌, ◌<◌, ◌≡◌, false, List, ◌∷◌, length, drop}
use Rattle.std.proofs.Common.{sym, ap, subst, ◌∙◌, true≢false, arith, zero-add, add-zero, add-suc, suc-add, length-drop, drop-drop}
use Rattle.meaning.specs.Syntax.{Occurrence, Module}
use Rattle.meaning.specs.Gates.{is_gate}
use Rattle.laws.specs.WellFormed.{Reference, to_gate, to_module}
use Rattle.laws.specs.Standing.{stands, number_of}
use Rattle.image.specs.Resolved.{position_of}
use Rattle.image.specs.Frames.{FrameOk, FramesOk, none, some}
use Rattle.image.specs.Searching.{Search}
use Rattle.image.specs.Positions.{Numbered, found_at, says-from}

pub frames-numbered : {position : ℕ} {rs : List Module} → FramesOk position rs → Numbered position rs
frames-numbered none = Numbered.none
frames-numbered (some ok rest) = Numbered.some ok.numbered (frames-numbered rest)

pub frames-drop : {position : ℕ} {rs : List Module} (k : ℕ) → FramesOk position rs → FramesOk (position + k) (drop k rs)
frames-drop zero ok = rw add-zero ok
frames-drop (suc k) none = none
frames-drop (suc k) (some {position} ok rest) = rw (add-suc position k, ← suc-add position k) (frames-drop k rest)

-- Where a reference to a module leads: to a later position, whose module takes and gives as many values as the occurrence has nets.
pub record Referred (rs : List Module) (k : ℕ) (o : Occurrence) : Type 0 where
  pub j : ℕ
  pub m : Module
  pub later : List Module
  pub number : o.refers ≡ 16 + j
  pub after : k < j
  pub inside : j < length rs
  pub here : drop j rs ≡ m ∷ later
  pub takes : length o.takes ≡ length m.inputs
  pub drives : length o.drives ≡ length m.outputs

module _ {rs : List Module} (frames : FramesOk 0 rs) where
  module _ (k : ℕ) {m : Module} {later : List Module} (e : drop k rs ≡ m ∷ later) where
    pub frames-at : FramesOk k (m ∷ later)
    frames-at =
        subst (FramesOk k) e (subst (λ (i : ℕ). FramesOk i (drop k rs)) (zero-add k) (frames-drop k frames))

    pub frame_at : FrameOk k m later
    frame_at = first frames-at
      where
        first : {k : ℕ} {m : Module} {later : List Module} → FramesOk k (m ∷ later) → FrameOk k m later
        first (some ok rest) = ok

    pub behind : drop (k + 1) rs ≡ later
    behind = sym (drop-drop 1 k rs) ∙ ap (drop 1) e

  pub referred :
      (k : ℕ) {m : Module} {later : List Module}
      → drop k rs ≡ m ∷ later
      → {o : Occurrence}
      → Reference later o
      → is_gate o.refers ≡ false
      → Referred rs k o
  referred k e (to_gate h arity drives) module_number = absurd (true≢false (sym h ∙ module_number))
  referred k {later = later} e {o} (to_module n h found takes drives) module_number =
      let p = position_of o.refers later in
      let here = sym (drop-drop p (k + 1) rs) ∙ ap (drop p) (behind k e) ∙ found_at o.refers later found in
      record {
        j = k + 1 + p;
        m = n;
        later = drop (suc p) later;
        number = number_of (stands o.refers later found) ∙ (frame_at (k + 1 + p) here).numbered;
        after = omega arith;
        inside = omega (arith, ap length here, length-drop (k + 1 + p) rs);
        here = here;
        takes = takes;
        drives = drives;
      }

  -- What the modules from position s on say of position j is what they say of the module there and those after it.
  pub search-at :
      {C : Type 0} {f : List Module → ℕ → C} {own : Module → List Module → C}
      → Search f own
      → (s j : ℕ) {m : Module} {later : List Module}
      → s ≤ j
      → drop j rs ≡ m ∷ later
      → f (drop s rs) (16 + j) ≡ own m (drop (j + 1) rs)
  search-at {own = own} search s j {m} h e = says-from search s j (frames-numbered frames) h e ∙ ap (own m) (sym (behind j e))
