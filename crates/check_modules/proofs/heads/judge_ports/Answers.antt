-- Each way out is one of the rule's answers, and behind the last test the table knows the inputs.
use Rattle.std.proofs.Common.{ℕ, ◌+◌, ◌≤◌, ◌≡◌, true, false, not, List, length, Ok, Err, arith, sym, ◌∙◌}
use borrow.Author.Tests.{not-true, not-false}
use Rattle.meaning.specs.Boxlist.{duplicates, disjoint}
use Rattle.nets.specs.Slots.{Knows, Below}
use Rattle.nets.specs.Bounds.{below_more}
use Rattle.nets.specs.Tables.{knows-none, known-below}
use Rattle.check_lists.specs.Parts.{below-sized}
use Rattle.check_modules.specs.Heads.{ports_rule, PortsJudged}
use Rattle.check_modules.proofs.Rules.{disjoint-sym}
use Rattle.check_modules.proofs.heads.judge_ports.Goals as goal

module _ {inputs outputs : List ℕ} {base : ℕ} {slots : List ℕ} where
  broken : {rule : ℕ} → Below (base + 65536) slots → Err rule ≡ ports_rule inputs outputs → PortsJudged inputs outputs base slots (Err rule)
  broken low e = record { rule = e; knows = λ z. absurd (cc); low = low }

  inputs-repeat : Below (base + 65536) slots → duplicates inputs ≡ true → PortsJudged inputs outputs base slots (Err 8)
  unfolding ports_rule
  inputs-repeat low twice = broken low (rw twice)

  module _ (inputs-once : duplicates inputs ≡ false) where
    outputs-repeat : Below (base + 65536) slots → duplicates outputs ≡ true → PortsJudged inputs outputs base slots (Err 9)
    unfolding ports_rule
    outputs-repeat low twice = broken low (rw (inputs-once, twice))

    module _ (few : length inputs ≤ 65536) (outputs-once : duplicates outputs ≡ false) (knows : Knows slots base inputs) where
      shared : true ≡ not (disjoint outputs inputs) → PortsJudged inputs outputs base slots (Err 10)
      unfolding ports_rule
      shared known =
          broken (known-below 65536 knows few)
          (rw (inputs-once, outputs-once, disjoint-sym inputs outputs, not-true (disjoint outputs inputs) (sym known)))

      fine : false ≡ not (disjoint outputs inputs) → PortsJudged inputs outputs base slots (Ok tt)
      unfolding ports_rule
      fine known =
          record {
            rule = rw (inputs-once, outputs-once, disjoint-sym inputs outputs, not-false (disjoint outputs inputs) (sym known));
            knows = λ z. knows;
            low = known-below 65536 knows few;
          }

pub returns-then-has_repeat : goal.returns-then-has_repeat
returns-then-has_repeat c = inputs-repeat (below_more _ (omega arith) c.requires.earlier) (sym c.has_repeat.ensures ∙ c.if-has_repeat.true)

pub returns-then-has_repeat-2 : goal.returns-then-has_repeat-2
returns-then-has_repeat-2 c =
    outputs-repeat (sym c.has_repeat.ensures ∙ c.if-has_repeat.false) (below_more _ (omega arith) c.requires.earlier)
    (sym c.has_repeat-2.ensures ∙ c.if-has_repeat-2.true)

-- A table with entries from before knows no net, and then it knows the inputs.
pub any_known-requires : goal.any_known-requires
any_known-requires c = below-sized c.learn.auto.table c.requires.outputs_index

pub returns-then-any_known : goal.returns-then-any_known
returns-then-any_known c =
    let once = sym c.has_repeat.ensures ∙ c.if-has_repeat.false in
    let knows = c.learn.ensures (knows-none c.requires.earlier) once in
    shared once c.requires.few (sym c.has_repeat-2.ensures ∙ c.if-has_repeat-2.false) knows
    (sym c.if-any_known.true ∙ c.any_known.ensures _ knows)

pub returns : goal.returns
returns c =
    let once = sym c.has_repeat.ensures ∙ c.if-has_repeat.false in
    let knows = c.learn.ensures (knows-none c.requires.earlier) once in
    fine once c.requires.few (sym c.has_repeat-2.ensures ∙ c.if-has_repeat-2.false) knows
    (sym c.if-any_known.false ∙ c.any_known.ensures _ knows)
