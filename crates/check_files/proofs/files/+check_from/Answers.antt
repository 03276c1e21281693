-- `check_files::files::check_from` meets its contract: behind the last module nothing is done yet, and each module has its turn once the
-- later ones are done. Assumes nothing.
use Rattle.std.proofs.Common.{arith}
use Rattle.check_files.proofs.FileEnds.{walk_none}
use Rattle.check_files.proofs.files.+check_from.Goals as goal

pub returns-then-modules-k : goal.returns-then-modules-k
returns-then-modules-k t c = walk_none c.requires.each_ready c.requires.k_le_modules c.if-modules-k.true

pub check_from-behind-requires : goal.check_from-behind-requires
check_from-behind-requires t c =
    (omega arith, (c.requires.each_ready, omega arith))

pub check_at-requires : goal.check_at-requires
check_at-requires t c =
    record {
      numbers₀ = c.args.numbers.now;
      found₀ = c.args.found;
      slots₀ = c.args.slots.now;
      nets₀ = c.args.nets.now;
      sizes₀ = c.args.sizes.now;
      rooms₀ = c.args.rooms.now;
      ready = c.requires.each_ready;
      inside = c.if-modules-k.false;
      walk = c.check_from-behind.ensures;
    }

pub returns : goal.returns
returns t c =
    c.check_at.ensures
    (record {
      numbers₀ = c.args.numbers.now;
      found₀ = c.args.found;
      slots₀ = c.args.slots.now;
      nets₀ = c.args.nets.now;
      sizes₀ = c.args.sizes.now;
      rooms₀ = c.args.rooms.now;
      ready = c.requires.each_ready;
      inside = c.if-modules-k.false;
      walk = c.check_from-behind.ensures;
    })
