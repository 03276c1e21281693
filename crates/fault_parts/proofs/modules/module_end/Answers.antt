-- Each turn passes one of the occurrences that are left.
use Rattle.std.proofs.Common.{ℕ, ◌≡◌, ◌+◌, ◌-◌, length, arith, subst}
use Rattle.meaning.specs.Layout.{module_numbers}
use Rattle.fault_parts.proofs.Placing.{Ahead, ahead-first, ahead_none, turn, there, behind-it}
use Rattle.fault_parts.proofs.modules.module_end.Goals as goal

pub overflow_add-at : goal.overflow_add-at
overflow_add-at c =
    let h = c.module_at-header.ensures c.requires.m c.requires.stands in
    omega (arith, h.body.within)

pub loop-init : goal.loop-init
loop-init c m s =
    let all : c.module_at-header.result.count ≡ c.module_at-header.result.count - 0 = omega arith in
    subst (λ (left : ℕ). Ahead c.args.numbers.now (c.module_at-header.result.to + 1) left (c.args.from + length (module_numbers m))) all
    (ahead-first m (c.module_at-header.ensures m s))

pub occurrence_at-at-requires : goal.occurrence_at-at-requires
occurrence_at-at-requires c = there (turn (omega arith) (c.loop.invariant c.requires.m c.requires.stands))

pub loop-preserved : goal.loop-preserved
loop-preserved c m s =
    let t = turn (omega arith) (c.loop.invariant m s) in
    let next : c.module_at-header.result.count - c.loop.counter - 1 ≡ c.module_at-header.result.count - (c.loop.counter + 1) = omega arith in
    subst (λ (left : ℕ). Ahead c.args.numbers.now c.occurrence_at-at.result.to left (c.args.from + length (module_numbers m))) next
    (behind-it t (c.occurrence_at-at.ensures t.o t.there))

pub returns : goal.returns
returns c m s = ahead_none (omega arith) (c.loop.invariant m s)
