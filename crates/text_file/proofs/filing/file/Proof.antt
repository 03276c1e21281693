use native.Mathlib.Omega.{arith}
use mathlib.Core.Path.{sym}
use lib.Seq.{length-take-le}
use lib.ListN.{length}
use Rattle.text_file.specs.Delivers.{too_long, puttable, whole, shelved-whole}
use borrow.Author.Rules.{rules}
use Rattle.text_file.proofs.filing.file.Statement.{statement}
use Rattle.text_file.proofs.filing.file.Tie as tie

size-requires : tie.Need-size-requires
size-requires c κs = c.requires.few

returns : tie.Need-returns-then-size-gt65535
returns c =
    λ f. too_long f c.size.result c.size.ensures (omega arith) (length c.args.out.now) c.args.out.now

put-list-requires : tie.Need-put_list-end-requires
put-list-requires c κs =
    puttable c.requires c.size.result c.size.ensures (omega arith)

slice-reshare-prefix-deliver : tie.Need-slice_bounds-deliver-end
slice-reshare-prefix-deliver c =
    let p : _ = c.put_list-end.ensures.place in let k : _ = c.put_list-end.auto.bytes in let f : _ = (puttable c.requires c.size.result c.size.ensures (omega arith)).1.fits in omega (arith, p, k, f)

slice-aggregate-deliver : tie.Need-slice_bounds-deliver-end-2
slice-aggregate-deliver c = sym (length-take-le _ _ (slice-reshare-prefix-deliver c))

deliver-requires : tie.Need-deliver-requires
deliver-requires c κs =
    whole c.requires c.size.result c.size.ensures (omega arith) _ _ c.put_list-end.ensures

same_length : tie.Need-shape_of-bytes
same_length c = search rules

same-length-2 : tie.Need-shape_of-out
same-length-2 c = search rules

returns-2 : tie.Need-returns
returns-2 c =
    λ f. shelved-whole f c.size.result c.size.ensures (omega arith) _ _ c.put_list-end.ensures (length c.args.out.now) c.args.out.now _ _ c.deliver.ensures

pub file_spec : {M : Type 1} → statement M
file_spec =
    tie.close
    (tie.spec
    size-requires
    returns
    put-list-requires
    slice-reshare-prefix-deliver
    slice-aggregate-deliver
    deliver-requires
    same_length
    same-length-2
    returns-2)
