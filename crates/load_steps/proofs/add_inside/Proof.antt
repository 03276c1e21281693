-- `load_steps::add_inside` meets its contract: its argument places add first, then the nets that it drives. Assumes nothing.
use native.Mathlib.Omega.{arith}
use mathlib.Core.Path.{◌∙◌}
use Rattle.load_steps.proofs.Insides.{arguments, driven, both}
use Rattle.load_steps.proofs.add_inside.Statement.{statement}
use Rattle.load_steps.proofs.add_inside.Tie as tie

-- Where the function began, from where the argument places have added.
abbrev began : tie.After-add_loads → tie.Start
began c = c.before.before.before.before.before

add-loads-requires-2 : tie.Need-add_loads-requires-2
add-loads-requires-2 c κs =
    driven (began c.before.before.before.before.before.before).requires c.add_loads.auto.scratch c.add_loads.ensures

returns : tie.Need-returns
returns c p = both p c.add_loads.auto.scratch c.add_loads.ensures c.add_loads-2.ensures

pub add_inside_spec : {M : Type 1} → statement M
add_inside_spec =
    tie.close
    (tie.spec
    (λ c. omega (arith, c.requires.given))
    (λ c κs. arguments c.requires)
    (λ c. omega (arith, (began c.before.before.before).requires.front))
    (λ c. omega (arith, (began c.before.before.before.before).requires.front))
    (λ c. omega (arith, (began c.before.before.before.before).requires.given))
    (λ c. (began c.before.before.before.before.before).requires.takes.ordered)
    (λ c. omega (arith, (began c.before.before.before.before.before).requires.given))
    add-loads-requires-2
    (λ c. c.add_loads-2.auto.scratch ∙ c.add_loads.auto.scratch)
    returns)
