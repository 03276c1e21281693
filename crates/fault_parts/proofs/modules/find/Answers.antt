-- At each turn the module has the number, or it is sought behind it.
use Rattle.std.proofs.Common.{arith, refl}
use Rattle.fault_parts.proofs.Seeking.{in_starts, module_here, seek_hit, seek-on, seek-none}
use Rattle.fault_parts.proofs.modules.find.Goals as goal

pub loop-j-init : goal.loop-j-init
loop-j-init c p = record { few = c.requires.from_le_modules; is = refl }

pub offset_bounds-file-j : goal.offset_bounds-file-j
offset_bounds-file-j c = omega (arith, in_starts c.requires.placed c.loop-j.j c.loop-j-test.true)

pub bounds-file-j : goal.bounds-file-j
bounds-file-j c = in_starts c.requires.placed c.loop-j.j c.loop-j-test.true

pub offset_bounds-file-start : goal.offset_bounds-file-start
offset_bounds-file-start c = omega (arith, (module_here c.requires.placed c.loop-j.j c.loop-j-test.true).inside)

pub bounds-file-start : goal.bounds-file-start
bounds-file-start c = (module_here c.requires.placed c.loop-j.j c.loop-j-test.true).inside

pub returns-then-file-start : goal.returns-then-file-start
returns-then-file-start c p = seek_hit p _ _ c.loop-j.j (c.loop-j.invariant p) c.loop-j-test.true c.if-file-start.true

pub loop-j-preserved : goal.loop-j-preserved
loop-j-preserved c p = seek-on p _ _ c.loop-j.j (c.loop-j.invariant p) c.loop-j-test.true c.if-file-start.false

pub returns : goal.returns
returns c p = seek-none p _ _ _ (c.loop-j.invariant p) c.loop-j-test.false
