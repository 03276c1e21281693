-- The verdict on an occurrence, where the nets that are known are the signals: first its nets are judged, then what it refers to.
use Prim.Native.Nat.{ℕ, ◌+◌, ◌<◌}
use mathlib.Core.Path.{◌≡◌, refl, sym, ap, ◌∙◌}
use mathlib.Core.Bool.{Bool, true, false, ◌||◌}
use mathlib.Core.List.{List}
use lib.ListN.{length, drop}
use lib.Seq.{drop-drop}
use Rattle.meaning.specs.Syntax.{Occurrence, Module}
use Rattle.meaning.specs.Gates.{is_gate}
use Rattle.meaning.specs.Boxlist.{subset, assoc, is_box, arity_okp}
use Rattle.meaning.specs.Verdict.{Verdict, good, refused, keep, occurrence_verdict}
use Rattle.nets.specs.Members.{disjoint-same, subset-same}
use Rattle.check_lists.specs.Lists.{apart}
use Rattle.image.specs.Resolved.{position_of, refer_to}
use Rattle.check_lists.specs.Filed.{At}
use Rattle.check_lists.specs.References.{pick, reference_of}
use Rattle.check_lists.specs.Scene.{Same}
use Rattle.check_lists.specs.declared.references.Reference.{Reference}
use Rattle.check_lists.specs.declared.references.Reference.TheVariants as reference
use Rattle.std.specs.Prelude.{Result, Ok, Err}
use Rattle.check_lists.specs.Later.{position-inside}

-- A judgement of an occurrence in the module at position k: its verdict, and where it is good what its number is in the image.
abbrev pub Judges : Result Reference ℕ → Verdict → (ms : List Module) → (k number : ℕ) → Type 0
Judges (Ok reference.Gate) v ms k number = (v ≡ good) × (is_gate number ≡ true)
Judges (Ok (reference.Module j)) v ms k number = (v ≡ good) × (refer_to ms number ≡ 16 + j) × (j < length ms)
Judges (Err rule) v ms k number = v ≡ refused rule k

-- The modules after the one at position k.
pub later-modules : (ms : List Module) (k : ℕ) (m : Module) (later : List Module) → At ms k m later → drop (k + 1) ms ≡ later
later-modules ms k m later here = sym (drop-drop 1 k ms) ∙ ap (drop 1) here

module _ (k : ℕ) (o : Occurrence) {nets signals : List ℕ} (same : Same nets signals) where
  -- Rule 11 asks the signals, and the known nets answer.
  new-to-signals : apart o.drives signals ≡ apart o.drives nets
  new-to-signals = rw (disjoint-same nets signals same.same o.drives)

  pub drives-known : (later : List Module) → false ≡ apart o.drives nets → occurrence_verdict k o signals later ≡ refused 11 k
  unfolding occurrence_verdict
  drives-known later known = rw (new-to-signals ∙ sym known)

  module _ (new : true ≡ apart o.drives nets) where
    pub takes_unknown : (later : List Module) → false ≡ subset o.takes nets → occurrence_verdict k o signals later ≡ refused 12 k
    unfolding occurrence_verdict
    takes_unknown later unknown = rw (new-to-signals ∙ sym new, ← subset-same nets signals same.same o.takes, ← unknown)

    pub reference-decides :
        (ms : List Module) → true ≡ subset o.takes nets
        → Judges (reference_of ms k o.refers o.takes o.drives) (occurrence_verdict k o signals (drop (k + 1) ms)) ms k o.refers
    unfolding occurrence_verdict reference_of refer_to
    reference-decides ms known =
        rw (new-to-signals ∙ sym new, ← subset-same nets signals same.same o.takes, ← known)
        (go (is_gate o.refers) (is_box (assoc o.refers (drop (k + 1) ms))) (arity_okp o.refers o.takes o.drives (drop (k + 1) ms))
        refl refl)
      where
        position : ℕ
        position = position_of o.refers ms

        go :
            (gate there fits : Bool) → is_gate o.refers ≡ gate → is_box (assoc o.refers (drop (k + 1) ms)) ≡ there
            → Judges (pick gate (pick fits (Ok reference.Gate) (Err 14)) (pick there (pick fits (Ok (reference.Module position)) (Err 14)) (Err 13)))
            (keep 13 k (gate || there) (keep 14 k fits good)) ms k o.refers
        go true there true g e = (refl, g)
        go true there false g e = refl
        go false true true g e = (refl, rw g, position-inside o.refers ms (k + 1) e)
        go false true false g e = refl
        go false false fits g e = refl
