-- The walk over a module's occurrences comes one further: the occurrence whose turn it is has become its part of the image.
use Prim.Native.Nat.{ℕ, ◌+◌, ◌≤◌}
use mathlib.Core.Path.{◌≡◌, sym, ap, ap₂, subst, ◌∙◌}
use mathlib.Core.Bool.{Bool, ◌||◌, or_comm}
use mathlib.Core.List.{List, [], ◌∷◌, ◌++◌, append_assoc, map-append}
use native.Mathlib.Omega.{arith}
use lib.ListN.{length, length-append}
use Rattle.meaning.specs.Syntax.{Occurrence, Module}
use Rattle.meaning.specs.Layout.{each, occurrence_numbers}
use Rattle.meaning.specs.Limits.{driven}
use Rattle.meaning.specs.Boxlist.{member}
use Rattle.meaning.specs.Verdict.{Verdict, good, and_then, occurrence_verdict, body_verdict}
use Rattle.laws.specs.Lists.{each_append}
use Rattle.nets.specs.Slots.{Knows, slot_of}
use Rattle.nets.specs.Members.{member-append}
use Rattle.image.specs.Stands.{Stands, stands-skip}
use Rattle.image.specs.Laid.{laid}
use Rattle.image.specs.Pieces.{moved}
use Rattle.image.specs.Resolved.{refer_to, slot_in, nets_of, resolve_occurrence}
use Rattle.image.specs.Shapes.{length-of-resolved-occurrence}
use Rattle.check_sizes.specs.Walks.{Summed}
use Rattle.check_sizes.specs.declared.Sums.{Sums}
use Rattle.check_bodies.specs.Occurrences.{Advanced}
use Rattle.check_bodies.specs.Bodies.{resolved_body}
use Rattle.check_bodies.proofs.Laying.{stands-behind}
use Rattle.check_bodies.proofs.Summing.{summed-more}
use Rattle.check_bodies.proofs.Growing.{driven-append, driven_snoc, length-of_snoc, laid_snoc, resolved-alike}
use Rattle.check_bodies.proofs.Progress.{Progress, Current, nets}

module _
    {ms : List Module} {m : Module} {later : List Module} {k from i count at filled base : ℕ} {sizes rooms : List ℕ} {sums : Sums}
    {numbers₀ numbers slots : List ℕ}
    (p : Progress ms m later k from i count at filled base sizes rooms sums numbers₀ numbers slots)
  where
    pub advance :
        (c : Current p) {numbers' slots' : List ℕ} {next filled' : ℕ} {sums' : Sums} → occurrence_verdict k c.o p.signals later ≡ good
        → from + length (each occurrence_numbers m.occurrences) ≤ length numbers₀
        → Advanced ms c.o (nets p) numbers at base sizes rooms sums numbers' slots' next filled' sums'
        → Progress ms m later k from (i + 1) count next filled' base sizes rooms sums' numbers₀ numbers' slots'
    unfolding each driven body_verdict nets_of
    advance c {numbers'} {slots'} {next} {filled'} {sums'} good-so-far fits a =
        record {
          finished = p.finished ++ (o ∷ []);
          left = c.rest;
          whole = whole;
          passed = omega (arith, p.passed, length-append p.finished (o ∷ []));
          turns = omega (arith, p.turns, ap length c.is);
          behind = a.behind ∙ omega (arith, p.behind, length-of_snoc p.finished o);
          stands = moved (at + length (occurrence_numbers o)) a.behind still;
          knows = subst (Knows slots' base) (sym all-nets) a.knows;
          wide = a.count ∙ ap length (sym all-nets);
          signals = o.drives ++ p.signals;
          same = record { same = same };
          verdict =
              p.verdict
              ∙ ap (λ (l : List Occurrence). body_verdict k l p.signals later) c.is
              ∙ ap (λ (v : Verdict). and_then v (body_verdict k c.rest (o.drives ++ p.signals) later)) good-so-far;
          written = written;
          summed = summed;
        }
      where
        o : Occurrence
        o = c.o

        whole : m.occurrences ≡ (p.finished ++ (o ∷ [])) ++ c.rest
        whole = p.whole ∙ ap (λ (l : List Occurrence). p.finished ++ l) c.is ∙ sym (append_assoc p.finished (o ∷ []) c.rest)

        from-here : Stands numbers at (occurrence_numbers o ++ each occurrence_numbers c.rest)
        from-here = subst (λ (l : List Occurrence). Stands numbers at (each occurrence_numbers l)) c.is p.stands

        -- What it has become is as long as it was, so that the rest stands behind it still.
        became : Occurrence
        became = resolve_occurrence (λ x. slot_of x (nets p ++ o.drives)) (refer_to ms) o

        still : Stands numbers' (at + length (occurrence_numbers o)) (each occurrence_numbers c.rest)
        still =
            let long = length-of-resolved-occurrence (λ x. slot_of x (nets p ++ o.drives)) (refer_to ms) o in
            rw a.written (stands-behind at (occurrence_numbers became) (omega (arith, long)) (stands-skip (occurrence_numbers o) from-here))

        all-nets : m.inputs ++ driven (p.finished ++ (o ∷ [])) ≡ nets p ++ o.drives
        all-nets =
            ap (λ (l : List ℕ). m.inputs ++ l) (driven_snoc p.finished o)
            ∙ sym (append_assoc m.inputs (driven p.finished) o.drives)

        same : (x : ℕ) → member x (m.inputs ++ driven (p.finished ++ (o ∷ []))) ≡ member x (o.drives ++ p.signals)
        same x =
            ap (member x) all-nets
            ∙ member-append x (nets p) o.drives
            ∙ ap (λ (b : Bool). b || member x o.drives) (p.same.same x)
            ∙ or_comm (member x p.signals) (member x o.drives)
            ∙ sym (member-append x o.drives p.signals)

        module_nets : nets_of m ≡ nets p ++ o.drives ++ driven c.rest
        module_nets =
            ap (λ (l : List Occurrence). m.inputs ++ driven l) whole
            ∙ ap (λ (l : List ℕ). m.inputs ++ l) (driven-append (p.finished ++ (o ∷ [])) c.rest)
            ∙ sym (append_assoc m.inputs (driven (p.finished ++ (o ∷ []))) (driven c.rest))
            ∙ ap (λ (l : List ℕ). l ++ driven c.rest) all-nets

        all-long :
            length (each occurrence_numbers m.occurrences)
            ≡ length (each occurrence_numbers (p.finished ++ (o ∷ []))) + length (each occurrence_numbers c.rest)
        all-long =
            ap (λ (l : List Occurrence). length (each occurrence_numbers l)) whole
            ∙ ap length (each_append occurrence_numbers (p.finished ++ (o ∷ [])) c.rest)
            ∙ length-append (each occurrence_numbers (p.finished ++ (o ∷ []))) (each occurrence_numbers c.rest)

        alike : became ≡ resolve_occurrence (slot_in m) (refer_to ms) o
        alike = resolved-alike (refer_to ms) m (nets p) o (driven c.rest) module_nets a.bound

        written : numbers' ≡ laid numbers₀ from (each occurrence_numbers (resolved_body ms m (p.finished ++ (o ∷ []))))
        written =
            a.written
            ∙ ap₂ (λ (im : List ℕ) (r : Occurrence). laid im at (occurrence_numbers r)) p.written alike
            ∙ laid_snoc (slot_in m) (refer_to ms) numbers₀ from p.finished o p.behind
            (omega (arith, p.behind, length-of_snoc p.finished o, all-long))

        summed : Summed sizes rooms (resolved_body ms m (p.finished ++ (o ∷ []))) sums'
        summed =
            rw (map-append (resolve_occurrence (slot_in m) (refer_to ms)) p.finished (o ∷ []))
            (summed-more sizes rooms (resolve_occurrence (slot_in m) (refer_to ms) o) p.summed a.summed)
