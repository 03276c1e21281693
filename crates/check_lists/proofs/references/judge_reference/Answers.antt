-- A gate has its own counts; any other number goes to the modules.
use Rattle.std.proofs.Common.{Bool, true, false, ◌&&◌, eqb, length, sym, ap, ap₂, ◌∙◌, eq-eqb, ne_eqb, lt-ltb, le-ltb}
use mathlib.Core.Bool.{and-false}
use Rattle.meaning.specs.Gates.{gate}
use Rattle.gates.specs.Gates.{gate-of-kind, module_of-kind}
use Rattle.check_lists.proofs.Targets.{to-gate}
use Rattle.check_lists.proofs.references.judge_reference.Goals as goal

pub returns-then-taken-arity : goal.returns-then-taken-arity
returns-then-taken-arity c ms takes drives numbered ported unrepeated taken driven =
    let a = c.args in
    let g = gate-of-kind a.number (sym c.kind_of.ensures ∙ c.in-Gate.is) in
    sym
    (to-gate ms a.k a.number takes drives (lt-ltb a.number 16 g.below) false
    (ap (λ (b : Bool). b && eqb 1 (length drives))
    (ne_eqb (gate a.number).arity (length takes) (λ e. c.if-taken-arity.true (taken ∙ sym e ∙ sym g.arity-is)))))

pub returns-then-driven-ne1 : goal.returns-then-driven-ne1
returns-then-driven-ne1 c ms takes drives numbered ported unrepeated taken driven =
    let a = c.args in
    let g = gate-of-kind a.number (sym c.kind_of.ensures ∙ c.in-Gate.is) in
    sym
    (to-gate ms a.k a.number takes drives (lt-ltb a.number 16 g.below) false
    (ap (λ (b : Bool). eqb (gate a.number).arity (length takes) && b) (ne_eqb 1 (length drives) (λ e. c.if-driven-ne1.true (driven ∙ sym e)))
    ∙ and-false (eqb (gate a.number).arity (length takes))))

pub judge_module-requires-clause-number_value : goal.judge_module-requires-clause-number_value
judge_module-requires-clause-number_value c =
    le-ltb c.args.number 16 (module_of-kind c.args.number (sym c.kind_of.ensures ∙ c.in-Module.is))

pub returns-else-driven-ne1 : goal.returns-else-driven-ne1
returns-else-driven-ne1 c ms takes drives numbered ported unrepeated taken driven =
    let a = c.args in
    let g = gate-of-kind a.number (sym c.kind_of.ensures ∙ c.in-Gate.is) in
    sym
    (to-gate ms a.k a.number takes drives (lt-ltb a.number 16 g.below) true
    (ap₂ ◌&&◌
    (eq-eqb (gate a.number).arity (length takes) (sym g.arity-is ∙ sym c.if-taken-arity.false ∙ taken))
    (eq-eqb 1 (length drives) (sym c.if-driven-ne1.false ∙ driven))))
