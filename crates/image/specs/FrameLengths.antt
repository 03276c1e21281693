-- How long frames are: a walk adds a value for each net that occurrences drive, so at its end the frame has as many as the module has
-- nets; and a module gives as many values as it has outputs.
use Prim.Native.Nat.{ℕ, suc, ◌+◌}
use Rattle.std.specs.Prelude.{◌≡◌, Bool, true, false, cond, eqb}
use Rattle.std.proofs.Math.Path.{refl, ap}
use Rattle.std.proofs.Common.{sym, ◌∙◌}
use mathlib.Core.List.{List, [], ◌∷◌, ◌++◌}
use native.Mathlib.Omega.{arith}
use Rattle.std.proofs.Math.ListN.{length, length-append}
use Rattle.meaning.specs.Syntax.{Occurrence, Module}
use Rattle.meaning.specs.Gates.{is_gate}
use Rattle.meaning.specs.Boxlist.{box, assoc}
use Rattle.meaning.specs.Limits.{driven}
use Rattle.meaning.specs.Evaluation.{Meaning, apply}
use Rattle.laws.specs.WellFormed.{Reference, to_gate, to_module}
use Rattle.laws.specs.OutputCount.{output_count}
use Rattle.image.specs.Frames.{read_slots, walk_frame, run_frame, run_frames, Framed, done, step}

module _ {A : Type 0} (unset : A) where
  pub length-of-read_slots : (frame : List A) (slots : List ℕ) → length (read_slots unset frame slots) ≡ length slots
  unfolding read_slots
  length-of-read_slots frame [] = refl
  length-of-read_slots frame (s ∷ slots) = ap suc (length-of-read_slots frame slots)

  module _ (gate_meaning : Meaning A) where
    pub length-of-run_frames :
        (rs : List Module) (number : ℕ) (vs : List A)
        → length (run_frames unset gate_meaning rs number vs) ≡ output_count (assoc number rs)
    unfolding run_frames run_frame assoc
    length-of-run_frames [] number vs = refl
    length-of-run_frames (m ∷ rs) number vs = go (eqb number m.number) (length-of-run_frames rs number vs)
      where
        values : List A
        values = walk_frame unset gate_meaning (run_frames unset gate_meaning rs) m.occurrences vs

        go :
            (b : Bool)
            → length (run_frames unset gate_meaning rs number vs) ≡ output_count (assoc number rs)
            → length (cond b (read_slots unset values m.outputs) (run_frames unset gate_meaning rs number vs))
            ≡ output_count (cond b (box m) (assoc number rs))
        go true later = length-of-read_slots values m.outputs
        go false later = later

    module _ (one : (kind : ℕ) (xs : List A) → is_gate kind ≡ true → length (gate_meaning kind xs) ≡ 1) where
      -- What an occurrence refers to gives a value for each net that it drives.
      pub length-of-apply :
          {later : List Module} {o : Occurrence}
          → Reference later o
          → (vs : List A)
          → length (apply gate_meaning (run_frames unset gate_meaning later) o.refers vs) ≡ length o.drives
      length-of-apply {o = o} (to_gate h arity drives) vs = rw h (one o.refers vs h ∙ drives)
      length-of-apply {later} {o} (to_module m h e takes drives) vs =
          rw h (length-of-run_frames later o.refers vs ∙ ap output_count e ∙ sym drives)

      pub length-of-walk_frame :
          {later : List Module} {filled : ℕ} {os : List Occurrence}
          → Framed later filled os
          → (frame : List A)
          → length frame ≡ filled
          → length (walk_frame unset gate_meaning (run_frames unset gate_meaning later) os frame) ≡ filled + length (driven os)
      unfolding walk_frame driven
      length-of-walk_frame done frame long = omega arith
      length-of-walk_frame {later} (step {filled} {o} {os} slots reference rest) frame long =
          let args = read_slots unset frame o.takes in
          let values = apply gate_meaning (run_frames unset gate_meaning later) o.refers args in
          let more = length-of-apply reference args in
          let longer : length (frame ++ values) ≡ filled + length o.drives = omega (arith, length-append frame values, more) in
          length-of-walk_frame rest (frame ++ values) longer
          ∙ omega (arith, length-append o.drives (driven os))
