-- No module has the number, or the counts of the one that was met decide.
use Rattle.std.proofs.Common.{sym, ap, ◌∙◌, arith}
use Rattle.meaning.specs.Boxlist.{submodule_okp}
use Rattle.fault_parts.proofs.Seeking.{missed, hit, hit_in, hit-stands, hit-there, unfit, fit}
use Rattle.fault_parts.proofs.modules.fits_module.Goals as goal

pub returns-in_default : goal.returns-in_default
returns-in_default c p takes drives t d =
    let e = missed (c.find.ensures p) c.in_default.is in
    ap (λ f. submodule_okp f takes drives) (sym e)

pub offset_bounds-file-j : goal.offset_bounds-file-j
offset_bounds-file-j c =
    let p = c.requires.placed in
    let h = hit_in p (hit (c.find.ensures p) c.in-Some.is) in
    omega arith

pub bounds-file-j : goal.bounds-file-j
bounds-file-j c = let p = c.requires.placed in hit_in p (hit (c.find.ensures p) c.in-Some.is)

pub module_at-header-requires : goal.module_at-header-requires
module_at-header-requires c = let p = c.requires.placed in hit-there p (hit (c.find.ensures p) c.in-Some.is)

pub returns-then-taken-header : goal.returns-then-taken-header
returns-then-taken-header c p takes drives t d =
    let h = hit (c.find.ensures p) c.in-Some.is in
    let header = c.module_at-header.ensures h.m (hit-stands p h) in
    unfit h.m takes drives _ _ t d _ header.inputs c.if-taken-header.true ∙ ap (λ f. submodule_okp f takes drives) (sym h.is)

pub overflow_sub-result : goal.overflow_sub-result
overflow_sub-result c =
    let p = c.requires.placed in
    let h = hit (c.find.ensures p) c.in-Some.is in
    omega (arith, (c.module_at-header.ensures h.m (hit-stands p h)).to)

pub returns : goal.returns
returns c p takes drives t d =
    let h = hit (c.find.ensures p) c.in-Some.is in
    let header = c.module_at-header.ensures h.m (hit-stands p h) in
    fit h.m takes drives _ _ t d _ _ header.inputs (omega (arith, header.to)) c.if-taken-header.false
    ∙ ap (λ f. submodule_okp f takes drives) (sym h.is)
