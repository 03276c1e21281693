-- The group's modules are noted, marked and copied, and the house's follow.
use Rattle.std.proofs.Common.{ℕ, ◌∙◌, arith, length}
use Rattle.std.proofs.Math.ListN.{length-replicate}
use Rattle.open_places.specs.Places.{Shelved}
use Rattle.call_join.specs.Begun.{Begun}
use Rattle.call_join.proofs.Beginning.{noted-shelved, noted-fails, refused-group, searchable, markable, first-within, begun, joins_both}
use Rattle.call_join.proofs.join_in.Goals as goal
use Rattle.call_join.proofs.join_in.Goals.{In-Ok, After-copy-at}
use Rattle.call_join.proofs.join_in.Given.{Over}

shelf : (g : Over) → (c : In-Ok g) → Shelved c.args.group.now c.in-Ok.modules c.note.new.names c.note.new.places
shelf g c =
    noted-shelved c.args.group.now c.note.new.names c.note.new.places c.note.result c.note.ensures c.in-Ok.modules
    c.in-Ok.is

pub mark-requires : goal.mark-requires
mark-requires g c = markable (shelf g (goal.at.mark-requires g c).In-Ok)

pub slice_bounds-copy-count : goal.slice_bounds-copy-count
slice_bounds-copy-count g c = first-within (shelf g (goal.at.slice_bounds-copy-count g c).In-Ok)

pub slice_bounds-copy-start : goal.slice_bounds-copy-start
slice_bounds-copy-start g c = first-within (shelf g (goal.at.slice_bounds-copy-start g c).In-Ok)

-- The group's modules are gathered.
abbrev group :
    (g : Over) → (c : After-copy-at g) → Shelved c.args.group.now c.in-Ok.modules c.note.new.names c.note.new.places
    → Begun c.args.house.now (record { modules = c.in-Ok.modules; at = c.copy-at.result }) c.mark.new.marks c.note.new.numbers
    c.copy-at.new.bytes
group g c s =
    begun c.requires.spaces s
    (c.note.auto.numbers ∙ length-replicate {A = ℕ} g.row.NUMBERS 0)
    (length-replicate {A = ℕ} g.row.BYTES 0)
    (c.copy-at.auto.bytes ∙ length-replicate {A = ℕ} g.row.BYTES 0)
    (omega (arith, c.mark.auto.marks, length-replicate {A = ℕ} 16384 0))
    (c.mark.ensures (searchable s))
    c.copy-at.ensures

pub join_house-requires : goal.join_house-requires
join_house-requires g c =
    group g (goal.at.join_house-requires g c).After-copy-at (shelf g (goal.at.join_house-requires g c).In-Ok)

pub returns-in-Err : goal.returns-in-Err
returns-in-Err g c =
    refused-group c.args.group.now c.args.house.now (length c.args.out.now) c.args.out.now
    (noted-fails c.args.group.now c.note.new.names c.note.new.places c.note.result c.note.ensures c.in-Err.refusal c.in-Err.is)

pub returns : goal.returns
returns g c =
    let s = shelf g (goal.at.returns g c).In-Ok in
    joins_both s c.args.house.now (length c.args.out.now) (c.join_house.ensures (group g (goal.at.returns g c).After-copy-at s))
