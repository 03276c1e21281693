-- `call_rows::rows_at` meets its contract: one row is evaluation, and at most 1,024 are a block.
use Rattle.std.specs.Prelude.{Result}
use Rattle.std.proofs.Common.{ℕ, List, ◌≡◌, length, sym, ap, ◌∙◌}
use Rattle.std.proofs.Math.Path.{subst}
use Rattle.refusals.specs.declared.Refusal.{Refusal}
use Rattle.meaning.specs.Calls.{Decision, Written, evaluation_on}
use Rattle.meaning.specs.Rows.{rows_evaluation_on}
use Rattle.laws.specs.RowBlocks.{one-row-on}
use Rattle.answers.specs.Settled.{Settles}
use Rattle.open_finding.specs.Standing.{Standing}
use Rattle.open_finding.specs.declared.Site.{Site}
use Rattle.call_rows.proofs.RefusingRows.{many-rows}
use Rattle.call_rows.proofs.rows_at.Goals as goal

one-settles :
    {image starts nets : List ℕ} {site : Site} (s : Standing image starts nets site) {rows : ℕ} (values scratch out : List ℕ) {scratch' out' : List ℕ} {r : Result ℕ Refusal}
    → rows ≡ 1
    → Settles (evaluation_on site.number values (length scratch) (length out) s.ms s.found.m) scratch out scratch' out' r
    → Settles (rows_evaluation_on site.number rows values (length scratch) (length out) s.ms s.found.m) scratch out scratch' out' r
one-settles {site = site} s values scratch out {scratch'} {out'} {r} e =
    subst (λ (d : Decision Written). Settles d scratch out scratch' out' r)
    (sym
    (ap (λ (n : ℕ). rows_evaluation_on site.number n values (length scratch) (length out) s.ms s.found.m) e
    ∙ one-row-on site.number values (length scratch) (length out) s.ms s.found.m))

pub returns-then-rows-eq1 : goal.returns-then-rows-eq1
returns-then-rows-eq1 c s =
    let a = c.args in
    one-settles s a.values.now a.scratch.now a.out.now c.if-rows-eq1.true (c.evaluate_at.ensures s)

pub returns-then-rows-gt1024 : goal.returns-then-rows-gt1024
returns-then-rows-gt1024 c s =
    let a = c.args in
    many-rows s a.rows a.values.now a.scratch.now a.out.now c.if-rows-gt1024.true
