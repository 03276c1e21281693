-- Each turn asks whether the module at hand has the number.
use Rattle.std.proofs.Common.{◌∙◌, sym, arith}
use Rattle.open_finding.specs.Here.{here-at}
use Rattle.open_finding.proofs.ModuleSearch.{sought_none, sought_here, sought_more, sought_all}
use Rattle.open_finding.proofs.find.Goals as goal

pub loop-k-init : goal.loop-k-init
loop-k-init c s = sought_none s.ms c.args.number

pub returns-then-names-k : goal.returns-then-names-k
returns-then-names-k c s =
    let l = c.loop-k in
    let h = here-at s.ms l.k (omega (arith, s.all)) in
    sought_here (l.invariant s) h (sym (s.name l.k h.here) ∙ c.if-names-k.true)

pub loop-k-preserved : goal.loop-k-preserved
loop-k-preserved c s =
    let l = c.loop-k in
    let h = here-at s.ms l.k (omega (arith, s.all)) in
    sought_more (l.invariant s) h (λ e. c.if-names-k.false (s.name l.k h.here ∙ e))

pub returns : goal.returns
returns c s = sought_all (c.loop-k.invariant s) (omega (arith, s.all))
