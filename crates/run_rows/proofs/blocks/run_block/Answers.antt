-- `run_block` meets its contract: the rows are packed, the walk runs them, and their outputs are given.
use Rattle.std.proofs.Common.{refl}
use Rattle.image.specs.Scenes.{in_starts, module_there, module_stands}
use Rattle.open_finding.specs.OnImage.{scene}
use Rattle.run_rows.specs.Rows.{packs, runs, gives}
use Rattle.run_rows.proofs.blocks.run_block.Goals as goal

pub module-header-requires : goal.module-header-requires
module-header-requires c =
    let there = scene c.requires.standing in
    record { starts_in_bounds = in_starts there; module_there = module_there there }

pub take_block-requires : goal.take_block-requires
take_block-requires c =
    let b = c.requires in
    packs b (c.module-header.ensures (scene b.standing).m (module_stands (scene b.standing))) refl

pub run_module-requires : goal.run_module-requires
run_module-requires c =
    let b = c.requires in
    runs b (c.module-header.ensures (scene b.standing).m (module_stands (scene b.standing))) refl c.take_block.ensures

pub give_block-requires : goal.give_block-requires
give_block-requires c =
    let b = c.requires in
    let header = c.module-header.ensures (scene b.standing).m (module_stands (scene b.standing)) in
    gives b header refl c.take_block.ensures (c.run_module.ensures (runs b header refl c.take_block.ensures))
    c.run_module.auto.scratch

pub returns : goal.returns
returns c b =
    let header = c.module-header.ensures (scene b.standing).m (module_stands (scene b.standing)) in
    c.give_block.ensures
    (gives b header refl c.take_block.ensures (c.run_module.ensures (runs b header refl c.take_block.ensures))
    c.run_module.auto.scratch)
