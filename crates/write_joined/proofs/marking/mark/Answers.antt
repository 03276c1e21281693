-- The numbers from a position on are marked.
use Rattle.std.proofs.Common.{◌≡◌, ℕ, ◌+◌, ◌-◌, sym, subst, ◌∙◌, arith, drop}
use Rattle.std.proofs.Math.ListN.{drop_of_length-le}
use Rattle.open_finding.specs.Here.{here-at}
use Rattle.write_joined.specs.Marks.{Marks}
use Rattle.write_joined.proofs.Marked.{marks-none, marks-more}
use Rattle.write_joined.proofs.marking.mark.Goals as goal

pub loop-k-init : goal.loop-k-init
loop-k-init c s = subst (Marks _) (sym (drop_of_length-le s.ms {i = c.args.modules} (omega (arith, s.all)))) (marks-none c.requires.clear)

pub loop-k-preserved : goal.loop-k-preserved
loop-k-preserved c s =
    let l = c.loop-k in
    let back : l.k ≡ l.k - 1 + 1 = omega (arith, c.loop-k-test.true) in
    let h = here-at s.ms (l.k - 1) (omega (arith, c.loop-k-test.true, s.all)) in
    let later : Marks l.marks h.later
    = subst (Marks l.marks) h.after (subst (λ (n : ℕ). Marks l.marks (drop n s.ms)) back (l.invariant s)) in
    rw h.here
    (marks-more h.m later (c.entry-x.ensures ∙ s.name (l.k - 1) h.here)
    (omega (arith, c.requires.indexed (l.k - 1) (omega arith), c.entry-x.ensures)))

pub returns : goal.returns
returns c s =
    let done : c.loop-k.k ≡ 0 = omega arith in
    subst (λ (n : ℕ). Marks c.loop-k.marks (drop n s.ms)) done (c.loop-k.invariant s)
