-- `check_files::files::check_modules` meets its contract: the numbers first, then each module in front of the first repeat. Assumes nothing.
use Rattle.std.proofs.Common.{arith, sym}
use lib.Seq.{length-take-le}
use Rattle.check_files.proofs.FileEnds.{walk_ends}
use Rattle.check_files.proofs.FileStart.{countable, repeating, end-inside, each-ready, file-found}
use Rattle.check_files.proofs.files.check_modules.Goals as goal

pub number_modules-repeated-requires : goal.number_modules-repeated-requires
number_modules-repeated-requires c = countable c.requires (omega arith) (omega arith)

pub at_repeat-known-requires : goal.at_repeat-known-requires
at_repeat-known-requires c = let p = c.requires in repeating p c.number_modules-repeated.ensures p.ms p.laidout

pub slice_bounds-check_from-end : goal.slice_bounds-check_from-end
slice_bounds-check_from-end c =
    let p = c.requires in
    end-inside p c.number_modules-repeated.ensures c.number_modules-repeated.auto.first c.at_repeat-known.ensures c.end_before-end.ensures
    p.ms p.laidout

pub slice_bounds-check_from-end-2 : goal.slice_bounds-check_from-end-2
slice_bounds-check_from-end-2 c =
    let p = c.requires in
    sym
    (length-take-le _ _
    (end-inside p c.number_modules-repeated.ensures c.number_modules-repeated.auto.first c.at_repeat-known.ensures c.end_before-end.ensures
    p.ms p.laidout))

pub check_from-requires : goal.check_from-requires
check_from-requires c =
    let p = c.requires in
    record {
      each_ready =
          each-ready p c.number_modules-repeated.ensures c.number_modules-repeated.auto.first c.at_repeat-known.ensures
          c.end_before-end.ensures p.ms p.laidout;
      k_le_modules = omega arith;
    }

pub returns : goal.returns
returns c ms l =
    file-found c.requires c.number_modules-repeated.ensures c.number_modules-repeated.auto.first c.at_repeat-known.ensures
    c.end_before-end.ensures ms l c.check_from.auto.numbers (walk_ends c.check_from.ensures (omega arith))
