-- Where the occurrence's parts stand, and what its counts say.
use Rattle.std.proofs.Common.{◌≡◌, ◌+◌, ◌-◌, ◌∙◌, ap, arith, length, drop}
use Rattle.meaning.specs.Boxlist.{arity_okp}
use Rattle.image.specs.Places.{PlaceOf}
use Rattle.fault_parts.specs.Fronts.{new_front, known_front}
use Rattle.text_faults.proofs.Entries.{part-is, fault_is, all_new, marked_all}
use Rattle.text_faults.proofs.walks.fault_in.Goals as goal
use Rattle.text_faults.proofs.walks.fault_in.Goals.{After-occurrence_at-o}

spot : (c : After-occurrence_at-o) → PlaceOf c.args.file.numbers.now c.args.at c.requires.occurrence_there.o c.occurrence_at-o.result
spot c = c.occurrence_at-o.ensures c.requires.occurrence_there.o c.requires.occurrence_there.stands

pub offset_bounds-file-first : goal.offset_bounds-file-first
offset_bounds-file-first c = let s = spot (goal.at.offset_bounds-file-first c).After-occurrence_at-o in omega (arith, s.takes.within, s.to)

pub slice_bounds-count_known-count : goal.slice_bounds-count_known-count
slice_bounds-count_known-count c = let s = spot (goal.at.slice_bounds-count_known-count c).After-occurrence_at-o in omega (arith, s.to)

pub slice_bounds-count_known-start : goal.slice_bounds-count_known-start
slice_bounds-count_known-start c = let s = spot (goal.at.slice_bounds-count_known-start c).After-occurrence_at-o in omega (arith, s.to)

pub slice_bounds-count_known-end : goal.slice_bounds-count_known-end
slice_bounds-count_known-end c = let s = spot (goal.at.slice_bounds-count_known-end c).After-occurrence_at-o in omega (arith, s.takes.within, s.to)

pub overflow_add-behind : goal.overflow_add-behind
overflow_add-behind c = let s = spot (goal.at.overflow_add-behind c).After-occurrence_at-o in omega (arith, s.driven.within, s.drives)

pub slice_bounds-learn-end : goal.slice_bounds-learn-end
slice_bounds-learn-end c = let s = spot (goal.at.slice_bounds-learn-end c).After-occurrence_at-o in omega (arith, s.driven.within, s.drives)

pub overflow_sub-taken : goal.overflow_sub-taken
overflow_sub-taken c = let s = spot (goal.at.overflow_sub-taken c).After-occurrence_at-o in omega (arith, s.to)

pub entry_at_fault-requires : goal.entry_at_fault-requires
entry_at_fault-requires c =
    let s = spot (goal.at.entry_at_fault-requires c).After-occurrence_at-o in
    omega (arith, s.takes.within, s.from, s.to, s.drives)

pub returns : goal.returns
returns c p o known s m =
    let place = c.occurrence_at-o.ensures o s in
    let later = drop c.args.from p.ms in
    let taken : c.occurrence_at-o.result.to - c.occurrence_at-o.result.from ≡ length o.takes = omega (arith, place.to) in
    let driven : c.args.at + 1 + c.occurrence_at-o.result.drives - (c.args.at + 1) ≡ length o.drives = omega (arith, place.drives) in
    let drives = part-is _ place.driven driven in
    let new = (c.learn-new.ensures known m).0 ∙ ap (λ l. new_front l known) drives in
    let is =
    fault_is o known later new place.drives
    (c.count_known-known.ensures known m ∙ ap (λ l. known_front l known) (part-is _ place.takes taken))
    taken
    (c.fits-fit.ensures p o.takes o.drives taken place.drives ∙ ap (λ n. arity_okp n o.takes o.drives later) place.refers) in
    let whole = c.entry_at_fault.ensures ∙ is in
    (whole, λ l. marked_all known _ _ drives new (all_new o known later (omega (arith, whole))) (c.learn-new.ensures known m).1)
