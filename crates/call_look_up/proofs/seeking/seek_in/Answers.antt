-- The file's modules are noted, and the number is sought among them.
use Rattle.std.proofs.Common.{ℕ, ◌≡◌, ◌<◌, Some, arith, rules}
use Rattle.read_parts.specs.Ways.{handed_on}
use Rattle.open_finding.specs.Finding.{Finds}
use Rattle.open_places.specs.Places.{Shelved}
use Rattle.call_look_up.proofs.Seeks.{noted-shelved, noted-fails, searchable, sought_nowhere, sought_index, sought_order, sought_at}
use Rattle.call_look_up.proofs.seeking.seek_in.Goals as goal
use Rattle.call_look_up.proofs.seeking.seek_in.Goals.{After-find}
use Rattle.call_look_up.proofs.seeking.seek_in.Given.{Over}

shelf : (g : Over) → (c : After-find g) → Shelved c.args.file.now c.in_ok-modules.modules c.note.new.names c.note.new.places
shelf g c =
    noted-shelved c.args.file.now c.note.new.names c.note.new.places c.note.result c.note.ensures c.in_ok-modules.modules
    c.in_ok-modules.was

finds : (g : Over) → (c : After-find g) → Finds c.find.result (shelf g c).ms c.args.number
finds g c = c.find.ensures (searchable (shelf g c))

index : (g : Over) → (c : After-find g) (k : ℕ) → c.find.result ≡ Some k → k < 128
index g c k is = sought_index (shelf g c) c.args.number c.find.result (finds g c) k is

pub returns-in_err-modules : goal.returns-in_err-modules
returns-in_err-modules g c =
    rw (
      handed_on c.from_residual.ensures.1,
      noted-fails c.args.file.now c.note.new.names c.note.new.places c.note.result c.note.ensures c.in_err-modules.field-0.0 c.in_err-modules.was,
    )

pub offset_bounds-places-k : goal.offset_bounds-places-k
offset_bounds-places-k g c = let h = index g (goal.at.offset_bounds-places-k g c).After-find c.in-Some.k c.in-Some.is in search rules

pub bounds-places-k : goal.bounds-places-k
bounds-places-k g c = omega (arith, index g (goal.at.bounds-places-k g c).After-find c.in-Some.k c.in-Some.is)

pub overflow_sub-result : goal.overflow_sub-result
overflow_sub-result g c =
    let f = (goal.at.overflow_sub-result g c).After-find in
    sought_order (shelf g f) c.args.number c.find.result (finds g f) c.in-Some.k c.in-Some.is

pub returns-in_default : goal.returns-in_default
returns-in_default g c =
    let f = (goal.at.returns-in_default g c).After-find in
    sought_nowhere (shelf g f) c.args.number c.find.result (finds g f) c.in_default.is

pub returns : goal.returns
returns g c =
    let f = (goal.at.returns g c).After-find in
    sought_at (shelf g f) c.args.number c.find.result (finds g f) c.in-Some.k c.in-Some.is

pub overflow_add-result : goal.overflow_add-result
overflow_add-result g c = let h = index g (goal.at.overflow_add-result g c).After-find c.in-Some.k c.in-Some.is in search rules

pub offset_bounds-places-k-2 : goal.offset_bounds-places-k-2
offset_bounds-places-k-2 g c = let h = index g (goal.at.offset_bounds-places-k-2 g c).After-find c.in-Some.k c.in-Some.is in search rules

pub bounds-places-k-2 : goal.bounds-places-k-2
bounds-places-k-2 g c = omega (arith, index g (goal.at.bounds-places-k-2 g c).After-find c.in-Some.k c.in-Some.is)
