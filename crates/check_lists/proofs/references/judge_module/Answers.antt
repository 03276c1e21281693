-- The table's place of the number says whether a later module has it; its counts stand in the tables by its position.
use Rattle.std.proofs.Common.{◌<◌, List, arith, sym, ◌∙◌}
use Rattle.meaning.specs.Syntax.{Module}
use Rattle.check_lists.specs.Numbering.{Numbered, Ported, first_repeat}
use Rattle.check_lists.specs.Later.{later-none, repeat_inside}
use Rattle.check_lists.proofs.Targets.{Target, target, to_none, inputs-differ, outputs-differ, counts-agree}
use Rattle.check_lists.proofs.references.judge_module.Goals as goal
use Rattle.check_lists.proofs.references.judge_module.Goals.{Else-place-k}

-- Behind the first test: the module that is meant, in any file that the tables know.
meant :
    (c : Else-place-k) (ms : List Module)
    → (let n = c.args.numbering in
    Numbered n.first.now ms → Ported n.inputs.now n.outputs.now ms → c.args.k < first_repeat ms
    → Target n.inputs.now n.outputs.now ms c.args.k c.args.number c.entry-place.result)
meant c ms numbered ported unrepeated =
    let n = c.args.numbering in
    target n.first.now n.inputs.now n.outputs.now ms c.args.k c.args.number c.entry-place.result
    numbered ported unrepeated c.entry-place.ensures c.if-place-k.false

-- The same in the file that the call rests on.
own :
    (c : Else-place-k)
    → (Target c.args.numbering.inputs.now c.args.numbering.outputs.now c.requires.referable.ms c.args.k c.args.number c.entry-place.result)
own c =
    let p = c.requires.referable in
    meant c p.ms p.numbered p.ported p.unrepeated

pub overflow_add-k : goal.overflow_add-k
overflow_add-k c =
    let p = c.requires.referable in
    omega (arith, p.unrepeated, repeat_inside p.ms, p.ported.inputs_listed)

pub returns-then-place-k : goal.returns-then-place-k
returns-then-place-k c ms takes drives numbered ported unrepeated taken driven =
    sym
    (to_none ms c.args.k c.args.number takes drives c.requires.number_value
    (later-none ms c.args.k c.args.number unrepeated (omega (arith, numbered.place c.args.number))))

pub entry-requires : goal.entry-requires
entry-requires c = (own (goal.at.entry-requires c).Else-place-k).in_inputs

pub returns-then-taken-entry : goal.returns-then-taken-entry
returns-then-taken-entry c ms takes drives numbered ported unrepeated taken driven =
    let t = meant (goal.at.returns-then-taken-entry c).Else-place-k ms numbered ported unrepeated in
    sym
    (inputs-differ t c.requires.number_value takes drives
    (λ same. c.if-taken-entry.true (taken ∙ same ∙ sym (c.entry.ensures ∙ t.input_count))))

pub entry-requires-2 : goal.entry-requires-2
entry-requires-2 c = (own (goal.at.entry-requires-2 c).Else-place-k).in_outputs

pub returns-then-driven-entry : goal.returns-then-driven-entry
returns-then-driven-entry c ms takes drives numbered ported unrepeated taken driven =
    let t = meant (goal.at.returns-then-driven-entry c).Else-place-k ms numbered ported unrepeated in
    sym
    (outputs-differ t c.requires.number_value takes drives
    (λ same. c.if-driven-entry.true (driven ∙ same ∙ sym (c.entry-2.ensures ∙ t.output_count))))

pub returns : goal.returns
returns c ms takes drives numbered ported unrepeated taken driven =
    let t = meant (goal.at.returns c).Else-place-k ms numbered ported unrepeated in
    sym
    (counts-agree t c.requires.number_value takes drives
    (sym taken ∙ c.if-taken-entry.false ∙ c.entry.ensures ∙ t.input_count)
    (sym driven ∙ c.if-driven-entry.false ∙ c.entry-2.ensures ∙ t.output_count))
