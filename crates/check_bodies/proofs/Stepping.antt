-- The check of one occurrence, step by step: what each of its ways out says.
use Prim.Native.Nat.{ℕ, ◌+◌, ◌<◌}
use mathlib.Core.Path.{◌≡◌, sym, ap, ◌∙◌}
use mathlib.Core.List.{List}
use native.Mathlib.Omega.{arith}
use lib.ListN.{length, get_or, set}
use Rattle.meaning.specs.Syntax.{Occurrence, Module}
use Rattle.meaning.specs.Layout.{occurrence_numbers}
use Rattle.meaning.specs.Gates.{is_gate}
use Rattle.meaning.specs.Verdict.{occurrence_verdict}
use Rattle.nets.specs.Slots.{Knows}
use Rattle.nets.specs.Fronts.{short-fails}
use Rattle.image.specs.Stands.{Stands, stands-head, stands-tail}
use Rattle.image.specs.Resolved.{refer_to}
use Rattle.check_sizes.specs.Walks.{plus_gate, plus_module}
use Rattle.check_sizes.specs.declared.Sums.{Sums}
use Rattle.check_lists.specs.Numbering.{Numbered, Ported, first_repeat}
use Rattle.check_lists.specs.References.{reference_of}
use Rattle.check_lists.specs.Scene.{Scene, Same}
use Rattle.check_lists.specs.Lists.{ListLearnt, ListWritten}
use Rattle.check_bodies.specs.Occurrences.{Stepped}
use Rattle.check_lists.specs.declared.references.Reference.{Reference}
use Rattle.check_lists.specs.declared.references.Reference.TheVariants as reference
use Rattle.std.specs.Prelude.{Result, Ok, Err}
use Rattle.check_bodies.proofs.OccurrenceParts.{drives-stand}
use Rattle.check_bodies.proofs.Judgement.{Judges, later-modules, drives-known, takes_unknown, reference-decides}
use Rattle.check_bodies.proofs.Summing.{plus-gate, plus-module}
use Rattle.check_bodies.proofs.Advancing.{there_already, stored, advanced}
use Rattle.check_bodies.proofs.Passing.{Learning, driven-new, Writing, taken-known}

-- It drives a net that is not new.
pub step-drives :
    {numbers first inputs outputs slots : List ℕ} {base k at filled : ℕ} {sizes rooms : List ℕ} {sums : Sums} {numbers' slots' : List ℕ}
    {driven learnt : ℕ} → driven ≡ get_or numbers at 0 → ListLearnt numbers slots base at filled slots' numbers' learnt → learnt < driven
    → Stepped numbers first inputs outputs slots base k at filled sizes rooms sums numbers' slots' (Err 11)
step-drives {k = k} counted l short =
    record {
      steps = λ s o nets signals stands knows count same.
          let there = drives-stand o stands in
          drives-known k o same s.later
          (short-fails (l.learnt o.drives nets there knows count).0 (omega (arith, stands-head there)));
      low = l.low;
    }

-- It takes a net that is not known before it.
pub step-takes :
    {numbers first inputs outputs slots : List ℕ} {base k at filled : ℕ} {sizes rooms : List ℕ} {sums : Sums} {slots' numbers' numbers'' : List ℕ}
    {driven learnt taken written : ℕ} → Learning numbers slots base at filled driven learnt slots' numbers'
    → taken ≡ get_or numbers' (at + 1 + learnt + 1) 0 → ListWritten numbers' slots' base (at + 1 + learnt + 1) filled numbers'' written
    → written < taken
    → Stepped numbers first inputs outputs slots base k at filled sizes rooms sums numbers'' slots' (Err 12)
step-takes {k = k} l counted w short =
    record {
      steps = λ s o nets signals stands knows count same.
          let n = driven-new l o nets stands knows count in
          let there = stands-tail n.behind in
          takes_unknown k o same n.new s.later
          (short-fails (w.written o.takes nets o.drives there n.knows count).0 (omega (arith, stands-head there)));
      low = l.list.low;
    }

-- With fine nets its reference decides.
module _
    {numbers slots : List ℕ} {base at filled driven learnt taken written : ℕ} {slots' numbers' numbers'' : List ℕ}
    (w : Writing numbers slots base at filled driven learnt taken written slots' numbers' numbers'')
    {first inputs outputs : List ℕ} {k : ℕ} {q : Result Reference ℕ}
    (decides :
    (ms : List Module) (takes drives : List ℕ) → Numbered first ms → Ported inputs outputs ms → k < first_repeat ms
    → taken ≡ length takes → driven ≡ length drives → q ≡ reference_of ms k (get_or numbers'' (at + 1 + learnt) 0) takes drives)
  where
    pub judged :
        {a : Result Reference ℕ} → q ≡ a → (s : Scene first inputs outputs k) (o : Occurrence) (nets signals : List ℕ)
        → Stands numbers at (occurrence_numbers o) → Knows slots base nets → filled ≡ length nets → Same nets signals
        → Judges a (occurrence_verdict k o signals s.later) s.ms k o.refers
    judged e s o nets signals stands knows count same =
        let n = driven-new w.learning o nets stands knows count in
        let m = taken-known w o nets stands knows count in
        let is = decides s.ms o.takes o.drives s.numbered s.ported s.unrepeated m.counted n.counted in
        rw (sym e ∙ is, m.refers, ← later-modules s.ms k s.m s.later s.here)
        (reference-decides k o same n.new s.ms m.known)

    module _ {sizes rooms : List ℕ} {sums : Sums} where
      pub step-broken :
          {rule : ℕ} → q ≡ Err rule
          → Stepped numbers first inputs outputs slots base k at filled sizes rooms sums numbers'' slots' (Err rule)
      step-broken e = record { steps = judged e; low = w.learning.list.low }

      -- It refers to a gate, whose number stands there already.
      pub step-gate :
          {sums' : Sums} → q ≡ Ok reference.Gate → sums' ≡ plus_gate sums
          → Stepped numbers first inputs outputs slots base k at filled sizes rooms sums numbers'' slots'
          (Ok (record { next = at + 1 + learnt + 1 + 1 + written; nets = filled + driven; sums = sums' }))
      unfolding refer_to
      step-gate e more =
          record {
            steps = λ s o nets signals stands knows count same.
                let n = driven-new w.learning o nets stands knows count in
                let m = taken-known w o nets stands knows count in
                let v = judged e s o nets signals stands knows count same in
                let to : ℕ = refer_to s.ms o.refers in
                let as_it_was : to ≡ o.refers = rw v.1 in (
                  v.0,
                  advanced s.ms n m count (there_already n m as_it_was)
                      (more ∙ plus-gate sizes rooms sums to (ap is_gate as_it_was ∙ v.1)),
                );
            low = w.learning.list.low;
          }

      -- It refers to a module, whose number in the image takes the place of its own.
      pub step_module :
          {j : ℕ} {sums' : Sums} → q ≡ Ok (reference.Module j) → sums' ≡ plus_module sizes rooms sums j
          → Stepped numbers first inputs outputs slots base k at filled sizes rooms sums (set numbers'' (at + 1 + learnt) (16 + j)) slots'
          (Ok (record { next = at + 1 + learnt + 1 + 1 + written; nets = filled + driven; sums = sums' }))
      step_module {j} e more =
          record {
            steps = λ s o nets signals stands knows count same.
                let n = driven-new w.learning o nets stands knows count in
                let m = taken-known w o nets stands knows count in
                let v = judged e s o nets signals stands knows count same in (
                  v.0,
                  advanced s.ms n m count (stored n m v.1)
                      (more ∙ plus-module sizes rooms sums (refer_to s.ms o.refers) j v.1),
                );
            low = w.learning.list.low;
          }
