-- `check_lists::lists::learn_list` meets its contract: the part that it lends is the list, and its count still stands in front. Assumes
-- nothing.
use mathlib.Core.Path.{sym, ◌∙◌}
use native.Mathlib.Omega.{arith}
use borrow.Author.Rules.{rules}
use Rattle.check_lists.proofs.Listing.{ListAt, list_at, learnable, list-repeats, list-learnt}
use Rattle.check_lists.proofs.lists.learn_list.Statement.{statement}
use Rattle.check_lists.proofs.lists.learn_list.Tie as tie

-- What is known once the list's end is read.
found :
    (c : tie.After-list_end-e)
    → (ListAt c.args.numbers.now c.args.at c.list_end-e.result c.requires.0.listed.list)
found c = let l = c.requires.0.listed in list_at l.list l.stands c.list_end-e.ensures

part-has-repeat-start : tie.Need-slice_bounds-has_repeat-start
part-has-repeat-start c = let l = found c in omega arith

returns : tie.Need-returns-then-has_repeat
returns c = list-repeats c.list_end-e.ensures (sym c.if-has_repeat.true ∙ c.has_repeat.ensures)

sub-learn-new : tie.Need-slice_bounds-learn_new-count
sub-learn-new c = let l = found c.before.before.before in omega arith

part-learn-new-start : tie.Need-slice_bounds-learn_new-start
part-learn-new-start c = let l = found c.before.before.before in omega arith

learn-new-requires : tie.Need-learn_new-requires
learn-new-requires c κs =
    let p = c.requires in
    learnable p.0 (found c.before.before.before.before.before) p.1 (sym c.has_repeat.ensures ∙ c.if-has_repeat.false)

returns-2 : tie.Need-returns
returns-2 c =
    let e = c.learn_new.ensures in
    list-learnt c.list_end-e.ensures (sym c.has_repeat.ensures ∙ c.if-has_repeat.false) e.0 e.1

pub learn_list_spec : {M : Type 1} → statement M
learn_list_spec =
    tie.close
    (tie.spec
    (λ c. search rules)
    (λ c κs. search rules)
    (λ c. search rules)
    (λ c. let l = found c in omega arith)
    part-has-repeat-start
    (λ c. (found c).end)
    (λ c κs. search rules)
    (λ c. search rules)
    returns
    (λ c. search rules)
    sub-learn-new
    part-learn-new-start
    (λ c. (found c.before.before.before).end)
    learn-new-requires
    (λ c. search rules)
    (λ c. search rules)
    returns-2)
