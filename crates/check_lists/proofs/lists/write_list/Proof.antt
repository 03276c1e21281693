-- `check_lists::lists::write_list` meets its contract: the part that it lends is the list, and its count still stands in front. Assumes nothing.
use native.Mathlib.Omega.{arith}
use borrow.Author.Rules.{rules}
use Rattle.check_lists.proofs.Listing.{ListAt, list_at, resolvable, list_written}
use Rattle.check_lists.proofs.lists.write_list.Statement.{statement}
use Rattle.check_lists.proofs.lists.write_list.Tie as tie

-- What is known once the list's end is read.
found :
    (c : tie.After-list_end-e)
    → (ListAt c.args.numbers.now c.args.at c.list_end-e.result c.requires.listed.list)
found c = let l = c.requires.listed in list_at l.list l.stands c.list_end-e.ensures

sub-resolve-known : tie.Need-slice_bounds-resolve_known-count
sub-resolve-known c = let l = found c in omega arith

part-resolve-known-start : tie.Need-slice_bounds-resolve_known-start
part-resolve-known-start c = let l = found c in omega arith

part-resolve-known-end : tie.Need-slice_bounds-resolve_known-end
part-resolve-known-end c = (found c).end

resolve-known-requires : tie.Need-resolve_known-requires
resolve-known-requires c κs = resolvable c.requires (found c.before)

returns : tie.Need-returns
returns c =
    list_written c.list_end-e.ensures c.resolve_known.auto.list c.resolve_known.ensures

pub write_list_spec : {M : Type 1} → statement M
write_list_spec =
    tie.close
    (tie.spec
    (λ c. search rules)
    (λ c κs. search rules)
    (λ c. search rules)
    sub-resolve-known
    part-resolve-known-start
    part-resolve-known-end
    resolve-known-requires
    (λ c. search rules)
    returns)
