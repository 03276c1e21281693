-- The two parts that are lent are the module's inputs and outputs.
use Rattle.std.proofs.Common.{ℕ, ◌+◌, ◌≤◌, ◌<◌, List, length, get_or, Err, arith, subst, lt-ltb, le-ltb, ap, ◌∙◌}
use Rattle.nets.specs.Slots.{Knows, Below}
use Rattle.nets.specs.Bounds.{below_more}
use Rattle.image.specs.Stands.{stands-whole}
use Rattle.image.specs.Pieces.{module_at}
use Rattle.check_lists.specs.Parts.{part, below-part}
use Rattle.check_lists.specs.Lists.{Behind}
use Rattle.check_lists.specs.Places.{inputs-stand, outputs-stand, Places, places}
use Rattle.check_modules.specs.Heads.{Ruling, head_rule, PortsReady, PortsJudged, HeadReady, HeadJudged}
use Rattle.check_modules.proofs.heads.judge_head.Goals as goal
use Rattle.check_modules.proofs.heads.judge_head.Goals.{After-list_end-e}

-- A number under 16.
gate : {numbers slots : List ℕ} {base : ℕ} → Below (base + 65536) slots → get_or numbers 0 0 < 16 → HeadJudged numbers base slots (Err 6)
unfolding head_rule
gate low under =
    record {
      rule = λ m own. rw (lt-ltb m.number 16 (omega (arith, (module_at m (stands-whole own)).number)));
      knows = λ m own z. absurd (cc);
      low = low;
    }

-- With any other number its lists decide.
module _ {numbers slots : List ℕ} {base n e : ℕ} where
  ready : (h : HeadReady numbers slots base) → Places numbers 0 n e h.m → PortsReady (part 2 n numbers) (part (n + 1) e numbers) slots base
  ready h p =
      record {
        inputs_index = below-part 2 n h.in_slots;
        outputs_index = below-part (n + 1) e h.in_slots;
        earlier = h.earlier;
        few = omega (arith, h.short, p.inside, ap length p.inputs);
        based = omega (arith, h.based, h.short, p.inside, ap length p.inputs);
      }

  judged :
      {r : Ruling} → 16 ≤ get_or numbers 0 0 → Behind numbers 1 n → Behind numbers n e
      → PortsJudged (part 2 n numbers) (part (n + 1) e numbers) base slots r → HeadJudged numbers base slots r
  unfolding head_rule
  judged above first second j =
      record {
        rule = λ m own.
            let p = places first second m (stands-whole own) in
            rw (le-ltb m.number 16 (omega (arith, p.number)), ← p.inputs, ← p.outputs) j.rule;
        knows = λ m own z. subst (Knows slots base) (places first second m (stands-whole own)).inputs (j.knows z);
        low = j.low;
      }

pub bounds-numbers-0 : goal.bounds-numbers-0
bounds-numbers-0 c = let h = c.requires in (module_at h.m (stands-whole h.own)).inside

pub returns-then-numbers-lt16 : goal.returns-then-numbers-lt16
returns-then-numbers-lt16 c = gate (below_more _ (omega arith) c.requires.earlier) (omega arith)

pub list_end-n-requires : goal.list_end-n-requires
list_end-n-requires c = let h = c.requires in record { list = h.m.inputs; stands = inputs-stand h.m (stands-whole h.own) }

-- Outputs stand behind the inputs' end.
pub overflow_add-o : goal.overflow_add-o
overflow_add-o c =
    let h = c.requires in
    let s = stands-whole h.own in
    omega (arith, (module_at h.m s).end, c.list_end-n.ensures h.m.inputs (inputs-stand h.m s))

pub list_end-e-requires : goal.list_end-e-requires
list_end-e-requires c =
    let h = c.requires in
    let s = stands-whole h.own in
    record { list = h.m.outputs; stands = outputs-stand h.m s _ (c.list_end-n.ensures h.m.inputs (inputs-stand h.m s) ∙ omega arith) }

-- Where the head's parts stand.
place : (c : After-list_end-e) → Places c.args.numbers.now 0 c.list_end-n.result c.list_end-e.result c.requires.m
place c = let h = c.requires in places c.list_end-n.ensures c.list_end-e.ensures h.m (stands-whole h.own)

pub slice_bounds-judge_ports-count : goal.slice_bounds-judge_ports-count
slice_bounds-judge_ports-count c = let p = place (goal.at.slice_bounds-judge_ports-count c).After-list_end-e in omega arith

pub slice_bounds-judge_ports-start : goal.slice_bounds-judge_ports-start
slice_bounds-judge_ports-start c = let p = place (goal.at.slice_bounds-judge_ports-start c).After-list_end-e in omega arith

pub slice_bounds-judge_ports-end : goal.slice_bounds-judge_ports-end
slice_bounds-judge_ports-end c = let p = place (goal.at.slice_bounds-judge_ports-end c).After-list_end-e in omega arith

pub slice_bounds-judge_ports-count-2 : goal.slice_bounds-judge_ports-count-2
slice_bounds-judge_ports-count-2 c = let p = place (goal.at.slice_bounds-judge_ports-count-2 c).After-list_end-e in omega arith

pub slice_bounds-judge_ports-start-2 : goal.slice_bounds-judge_ports-start-2
slice_bounds-judge_ports-start-2 c = let p = place (goal.at.slice_bounds-judge_ports-start-2 c).After-list_end-e in omega arith

pub slice_bounds-judge_ports-end-2 : goal.slice_bounds-judge_ports-end-2
slice_bounds-judge_ports-end-2 c = let p = place (goal.at.slice_bounds-judge_ports-end-2 c).After-list_end-e in omega arith

pub judge_ports-requires : goal.judge_ports-requires
judge_ports-requires c = ready c.requires (place (goal.at.judge_ports-requires c).After-list_end-e)

pub returns : goal.returns
returns c = judged (omega arith) c.list_end-n.ensures c.list_end-e.ensures c.judge_ports.ensures
