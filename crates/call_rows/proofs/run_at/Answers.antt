-- What was measured of the module, times the rows, is the work of the block, whatever the values; and a block that is answered is not too long.
use Rattle.std.proofs.Common.{ℕ, ◌≡◌, ◌≤◌, ◌*◌, List, length, ap, sym, ◌∙◌, arith, leb, leb-true}
use Rattle.std.proofs.lemmas.Nat.{mul-le}
use Rattle.meaning.specs.Calls.{Written}
use Rattle.meaning.specs.Rows.{most_rows, rows_evaluation_on}
use Rattle.laws.specs.Calls.{demand-met}
use Rattle.laws.specs.Work.{block_works}
use Rattle.answers.specs.Answers.{when_answered}
use Rattle.answers.specs.Running.{runs-answered}
use Rattle.call_flatten.proofs.Measured.{size_low}
use Rattle.call_rows.proofs.run_at.Goals as goal

pub overflow_mul-result : goal.overflow_mul-result
overflow_mul-result c =
    let a = c.args in
    let s = c.requires in
    let few : a.rows ≤ 1024 =
    when_answered (rows_evaluation_on a.site.number a.rows a.values.now (length a.scratch.now) (length a.out.now) s.ms s.found.m)
    c.in_ok-written.was ((c.rows_at.ensures s).answered)
    (λ written h. leb-true _ _ (demand-met 27 0 (leb a.rows most_rows) h).met)
    in
    let most = mul-le a.rows a.site.size 1024 65535 few (size_low s) in
    record { fits = omega (arith, size_low s) }

pub returns : goal.returns
returns c s =
    let a = c.args in
    let values = a.values.now in
    runs-answered (rows_evaluation_on a.site.number a.rows values (length a.scratch.now) (length a.out.now) s.ms s.found.m)
    c.in_ok-written.was (c.rows_at.ensures s)
    (λ written h.
    ap (λ (n : ℕ). a.rows * n) s.size_is ∙ sym (block_works s.ms a.site.number a.rows (length s.found.m.inputs) values))
