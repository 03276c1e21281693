-- `give_block` meets its contract: eight by eight the rows passed are laid one behind the other.
use Rattle.std.specs.Int.{div_ceil}
use Rattle.std.proofs.lemmas.List.{length-map}
use Rattle.std.proofs.Common.{ℕ, List, map, ◌≡◌, ◌<◌, ◌≤◌, ◌*◌, ◌+◌, ◌-◌, ◌%◌, min, refl, sym, ap, ◌∙◌, arith}
use Rattle.meaning.specs.Values.{code}
use Rattle.image.specs.Laid.{laid, laid-nothing}
use Rattle.run_rows.specs.Joined.{joined, joined-laid}
use Rattle.run_rows.specs.Giving.{given, rows-room, turn-shown}
use Rattle.run_rows.proofs.outputs.give_block.Goals as goal

-- The rows of a group are some of all.
within :
    {group end count some : ℕ}
    → group < end
    → end ≡ div_ceil count 8
    → some ≡ min (count - group * 8) 8
    → group * 8 + some ≤ count
within more all some = omega (arith, more, all, some)

more-left : {group end count : ℕ} → group < end → end ≡ div_ceil count 8 → group * 8 < count
more-left more all = omega (arith, more, all)

even : (group : ℕ) → group * 8 % 8 ≡ 0
even group = omega arith

pub loop-group-init : goal.loop-group-init
unfolding joined
loop-group-init c =
    let a = c.args in
    let none : 0 ≡ min a.count 0 = omega arith in
    (refl, λ g. sym (laid-nothing a.out.now a.at) ∙ ap (λ (n : ℕ). laid a.out.now a.at (given g.values n)) none)

pub give_some-requires : goal.give_some-requires
give_some-requires c =
    let more = c.loop-group-test.true in
    let upto = within more c.div_ceil-group-end.ensures c.min-some.ensures in
    turn-shown c.requires (even c.loop-group.group) (more-left more c.div_ceil-group-end.ensures) upto (omega (arith, c.min-some.ensures)) refl
    c.loop-group.invariant.0

pub loop-group-preserved : goal.loop-group-preserved
loop-group-preserved c =
    let l = c.loop-group in
    let a = c.args in
    let done = l.group * 8 in
    let some = c.min-some.result in
    let more = more-left c.loop-group-test.true c.div_ceil-group-end.ensures in
    let upto : done + some ≤ a.count = within c.loop-group-test.true c.div_ceil-group-end.ensures c.min-some.ensures in
    let few : some ≤ 8 = omega (arith, c.min-some.ensures) in
    let before : min a.count done ≡ done = omega (arith, upto) in
    let next : done + some ≡ min a.count ((l.group + 1) * 8) = omega (arith, upto, c.min-some.ensures) in (
      c.give_some.auto.out ∙ l.invariant.0,
      λ g.
          c.give_some.ensures (turn-shown g (even l.group) more upto few refl l.invariant.0)
          ∙ ap (λ (o : List ℕ). laid o (a.at + done * (a.to - a.from)) (given (λ r. g.values (done + r)) some))
          (l.invariant.1 g ∙ ap (λ (n : ℕ). laid a.out.now a.at (given g.values n)) before)
          ∙ joined-laid (λ r. map code (g.values r)) (a.to - a.from) (λ r. length-map (g.values r) code ∙ g.many r) a.out.now a.at done some
          (rows-room g (done + some) upto) refl
          ∙ ap (λ (n : ℕ). laid a.out.now a.at (given g.values n)) next,
    )

pub returns : goal.returns
returns c g =
    let all : min c.args.count (c.loop-group.group * 8) ≡ c.args.count =
    omega (arith, c.loop-group-test.false, c.div_ceil-group-end.ensures, c.loop-group.auto.group-end) in
    c.loop-group.invariant.1 g ∙ ap (λ (n : ℕ). laid c.args.out.now c.args.at (given g.values n)) all
