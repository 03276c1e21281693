-- Reading, then the modules' numbers, then the file's end behind the last place.
use Rattle.std.proofs.Common.{rules, arith, length, ◌<◌}
use Rattle.meaning.specs.Ceilings.{Bytes}
use Rattle.read_parts.specs.Exact.{bytes-all}
use Rattle.open_places.proofs.Noting.{few, headed, shelved}
use Rattle.open_places.proofs.note.Goals as goal
use Rattle.open_places.proofs.note.Goals.{In_ok-modules}

bytes : (c : In_ok-modules) → Bytes c.args.file.now
bytes c = bytes-all c.args.file.now (λ i. (c.type_inv.file i).fits)

pub name-requires : goal.name-requires
name-requires c =
    headed (bytes (goal.at.name-requires c).In_ok-modules) c.read.ensures c.in_ok-modules.was (omega arith) c.requires.names_fit

-- There is a place for the file's end.
room : (c : In_ok-modules) → c.in_ok-modules.field-0.modules < length c.read.new.offsets
room c =
    let f = few (bytes c) c.read.ensures c.in_ok-modules.was in
    omega (arith, c.requires.places_fit)

pub bounds-places-modules : goal.bounds-places-modules
bounds-places-modules c = room (goal.at.bounds-places-modules c).In_ok-modules

pub offset_bounds-places-modules : goal.offset_bounds-places-modules
offset_bounds-places-modules c =
    let inside : c.in_ok-modules.field-0.modules < length c.read.new.offsets = room (goal.at.offset_bounds-places-modules c).In_ok-modules in
    search rules

pub returns : goal.returns
returns c =
    shelved (bytes (goal.at.returns c).In_ok-modules) c.read.ensures c.in_ok-modules.was
    (omega arith)
    c.requires.names_fit
    (omega arith)
    (omega (arith, c.requires.places_fit))
    c.name.ensures
