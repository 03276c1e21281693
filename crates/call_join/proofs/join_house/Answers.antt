-- The house's modules are noted and gathered, and the file is assembled.
use Rattle.std.proofs.Common.{length}
use Rattle.open_places.specs.Places.{Shelved}
use Rattle.call_join.proofs.Beginning.{noted-shelved, gathering, assembled, joins_house}
use Rattle.call_join.proofs.join_house.Goals as goal
use Rattle.call_join.proofs.join_house.Goals.{In-Ok}

shelf : (c : In-Ok) → Shelved c.args.house.now c.in-Ok.modules c.note.new.names c.note.new.places
shelf c =
    noted-shelved c.args.house.now c.note.new.names c.note.new.places c.note.result c.note.ensures c.in-Ok.modules
    c.in-Ok.is

pub gather-all-requires : goal.gather-all-requires
gather-all-requires c = gathering c.requires (shelf (goal.at.gather-all-requires c).In-Ok)

pub assemble-requires : goal.assemble-requires
assemble-requires c =
    let s = shelf (goal.at.assemble-requires c).In-Ok in
    let b = c.requires in
    assembled b s (c.gather-all.ensures (gathering b s))

pub returns : goal.returns
returns c b =
    let s = shelf (goal.at.returns c).In-Ok in
    let gathers = c.gather-all.ensures (gathering b s) in
    joins_house b s gathers (length c.args.out.now) (c.assemble.ensures (assembled b s gathers))
