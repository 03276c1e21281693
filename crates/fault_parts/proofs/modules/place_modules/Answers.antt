-- Each turn places one module more.
use Rattle.std.proofs.Common.{◌<◌, length, arith}
use Rattle.fault_parts.proofs.Placing.{placing_first, placing_on, module_there, all_placed}
use Rattle.fault_parts.proofs.modules.place_modules.Goals as goal

pub loop-k-init : goal.loop-k-init
loop-k-init c = λ w. placing_first _ _ w

pub offset_bounds-starts-k : goal.offset_bounds-starts-k
offset_bounds-starts-k c = omega (arith, c.requires.modules_value c.requires.whole)

pub bounds-starts-k : goal.bounds-starts-k
bounds-starts-k c = omega (arith, c.requires.modules_value c.requires.whole)

pub module_end-at-requires : goal.module_end-at-requires
module_end-at-requires c =
    let w = c.requires.whole in
    let inside : c.loop-k.k < length w.ms = omega (arith, c.requires.modules_value w) in
    module_there (c.loop-k.invariant w) inside

pub loop-k-preserved : goal.loop-k-preserved
loop-k-preserved c = λ w.
    placing_on (c.loop-k.invariant w) (omega (arith, c.requires.modules_value w)) (omega (arith, c.requires.modules_value w)) _ c.module_end-at.ensures

pub returns : goal.returns
returns c w =
    let sized = c.requires.modules_value w in
    all_placed w (c.loop-k.invariant w) (omega (arith, sized.0, c.loop-k-test.false)) (omega (arith, sized.0, sized.1))
