-- A gate has its own counts; any other number goes to the modules.
use Rattle.std.proofs.Common.{sym, ◌∙◌}
use Rattle.gates.specs.Gates.{gate-of-kind, gate-told, module_told}
use Rattle.fault_parts.proofs.Seeking.{gate-unfit, gate-fit, module_fit}
use Rattle.fault_parts.proofs.modules.fits.Goals as goal

pub returns-then-arity-taken : goal.returns-then-arity-taken
returns-then-arity-taken c p takes drives t d =
    let number = c.args.number in
    let known = sym c.kind_of.ensures ∙ c.in-Gate.is in
    gate-unfit number takes drives _ (gate-told number known) (λ e. c.if-arity-taken.true ((gate-of-kind number known).arity-is ∙ e ∙ sym t))

pub returns-else-arity-taken : goal.returns-else-arity-taken
returns-else-arity-taken c p takes drives t d =
    let number = c.args.number in
    let known = sym c.kind_of.ensures ∙ c.in-Gate.is in
    gate-fit number takes drives _ (gate-told number known) (sym (gate-of-kind number known).arity-is ∙ c.if-arity-taken.false ∙ t) _ d

pub returns-in-Module : goal.returns-in-Module
returns-in-Module c p takes drives t d =
    c.fits_module.ensures p takes drives t d
    ∙ module_fit c.args.number takes drives _ (module_told c.args.number (sym c.kind_of.ensures ∙ c.in-Module.is))
