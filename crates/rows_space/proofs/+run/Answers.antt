-- What `rows_space::run` meets: the entries of the size that is picked have the module's room. Assumes nothing.
use native.Mathlib.Omega.{arith}
use Rattle.rows_space.proofs.Resizing.{resized}
use Rattle.rows_space.proofs.+run.Goals as goal

pub larger-requires : goal.larger-requires
larger-requires t c = omega (arith, c.requires.roomy, c.if-size-room.true)

pub run-requires : goal.run-requires
run-requires t c = (omega (arith, c.decreases, c.requires.roomy, c.if-size-room.true, c.larger.ensures), c.requires)

pub in_entries-requires-clause-rows_run : goal.in_entries-requires-clause-rows_run
in_entries-requires-clause-rows_run t c = resized c.requires (omega arith)

pub in_entries-requires-then-size-le1024-clause-rows_run : goal.in_entries-requires-then-size-le1024-clause-rows_run
in_entries-requires-then-size-le1024-clause-rows_run t c = resized c.requires (omega arith)

pub in_entries-requires-then-size-le8192-clause-rows_run : goal.in_entries-requires-then-size-le8192-clause-rows_run
in_entries-requires-then-size-le8192-clause-rows_run t c = resized c.requires (omega arith)

pub returns-then-size-le256 : goal.returns-then-size-le256
returns-then-size-le256 t c s = c.in_entries.ensures (resized s (omega arith))

pub returns-then-size-le1024 : goal.returns-then-size-le1024
returns-then-size-le1024 t c s = c.in_entries-then-size-le1024.ensures (resized s (omega arith))

pub returns-then-size-le8192 : goal.returns-then-size-le8192
returns-then-size-le8192 t c s = c.in_entries-then-size-le8192.ensures (resized s (omega arith))
