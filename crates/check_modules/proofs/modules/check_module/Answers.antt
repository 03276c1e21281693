-- `check_modules::modules::check_module` meets its contract: the verdict goes by the head, then the occurrences, then the end. Assumes nothing.
use Rattle.std.proofs.Common.{◌∙◌, arith}
use Rattle.std.proofs.lemmas.Result.{err_from_is_err_and}
use Rattle.image.specs.Stands.{stands-whole}
use Rattle.image.specs.Pieces.{module_at}
use Rattle.check_lists.specs.Parts.{below-sized}
use Rattle.check_lists.specs.Places.{inputs-stand, outputs-stand, places}
use Rattle.check_modules.proofs.Turns.{head-broken}
use Rattle.check_modules.proofs.Settling.{Opened, ready-body, body-broken, ready-end, end-broken, settled}
use Rattle.check_modules.proofs.modules.check_module.Goals as goal
use Rattle.check_modules.proofs.modules.check_module.Goals.{After-entry-count}

-- The head is fine, and its parts are read.
opened :
    (c : After-entry-count)
    → Opened c.args.numbers.now c.args.base c.judge_head.new.slots c.list_end-n.result c.list_end-e.result
    c.entry-width.result c.entry-count.result
opened c =
    record {
      rule = c.judge_head.result;
      judged = c.judge_head.ensures;
      fine = c.in_ok-judge_head.was;
      behind_inputs = c.list_end-n.ensures;
      behind_outputs = c.list_end-e.ensures;
      wide = c.entry-width.ensures;
      counted = c.entry-count.ensures;
    }

pub returns-in_err-judge_head : goal.returns-in_err-judge_head
returns-in_err-judge_head c =
    let j = c.judge_head.ensures in
    let p = err_from_is_err_and c.from_residual.result c.from_residual.ensures.1 in
    rw (p.1, p.2)
    (record { checks = λ s own. head-broken s (j.rule s.m own) c.in_err-judge_head.was; low = j.low })

pub entry-width-requires : goal.entry-width-requires
entry-width-requires c = let p = c.requires in omega (arith, (module_at p.scene.m (stands-whole p.own)).end)

pub list_end-n-requires : goal.list_end-n-requires
list_end-n-requires c =
    let p = c.requires in
    record { list = p.scene.m.inputs; stands = inputs-stand p.scene.m (stands-whole p.own) }

pub list_end-e-requires : goal.list_end-e-requires
list_end-e-requires c =
    let p = c.requires in
    let own = stands-whole p.own in
    record {
      list = p.scene.m.outputs;
      stands = outputs-stand p.scene.m own _ (c.list_end-n.ensures p.scene.m.inputs (inputs-stand p.scene.m own) ∙ omega arith);
    }

pub entry-count-requires : goal.entry-count-requires
entry-count-requires c =
    let p = c.requires in
    omega (arith, (places c.list_end-n.ensures c.list_end-e.ensures p.scene.m (stands-whole p.own)).inside)

pub overflow_add-e : goal.overflow_add-e
overflow_add-e c =
    let p = c.requires in
    omega (arith, (places c.list_end-n.ensures c.list_end-e.ensures p.scene.m (stands-whole p.own)).inside)

-- The tables have an entry for each number behind the head too.
pub check_body-requires : goal.check_body-requires
check_body-requires c =
    let p = c.requires in
    ready-body p.scene (opened (goal.at.check_body-requires c).After-entry-count) p.own
    (record { in_first = p.indexes.in_first; in_slots = below-sized c.judge_head.auto.slots p.indexes.in_slots })
    p.figured p.based p.short

pub finish_module-requires : goal.finish_module-requires
finish_module-requires c =
    let p = c.requires in
    ready-end p.scene (opened (goal.at.finish_module-requires c).After-entry-count) p.own c.check_body.ensures c.in_ok-walked.was
    (below-sized (c.check_body.auto.slots ∙ c.judge_head.auto.slots) p.indexes.in_slots) p.based p.short c.check_body.auto.numbers

pub returns-in_err-walked : goal.returns-in_err-walked
returns-in_err-walked c =
    let p = err_from_is_err_and c.from_residual-in_err-walked.result c.from_residual-in_err-walked.ensures.1 in
    rw (p.1, p.2)
    (record {
      checks = λ s own. body-broken s (opened (goal.at.returns-in_err-walked c).After-entry-count) own c.check_body.ensures c.in_err-walked.was;
      low = c.check_body.ensures.low c.judge_head.ensures.low;
    })

pub returns-in_err-finish_module : goal.returns-in_err-finish_module
returns-in_err-finish_module c =
    let p = err_from_is_err_and c.from_residual-in_err-finish_module.result c.from_residual-in_err-finish_module.ensures.1 in
    rw (p.1, p.2)
    (record {
      checks = λ s own.
          end-broken s (opened (goal.at.returns-in_err-finish_module c).After-entry-count) own c.check_body.ensures c.in_ok-walked.was
          c.finish_module.ensures c.in_err-finish_module.was;
      low = c.check_body.ensures.low c.judge_head.ensures.low;
    })

pub returns : goal.returns
returns c =
    record {
      checks = λ s own.
          settled s (opened (goal.at.returns c).After-entry-count) own c.check_body.ensures c.in_ok-walked.was
          c.finish_module.ensures c.in_ok-finish_module.was;
      low = c.check_body.ensures.low c.judge_head.ensures.low;
    }
