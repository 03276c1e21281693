use Rattle.text_words.proofs.Steps.{atom-there, end-within}
use borrow.Author.Rules.{rules}
use Rattle.text_words.proofs.atom_at.Statement.{statement}
use Rattle.text_words.proofs.atom_at.Tie as tie

-- src/lib.rt:130:9
atom-from-requires : tie.Need-atom_from-start-requires
atom-from-requires c κs = search rules

-- src/lib.rt:131:9
atom-end-requires : tie.Need-atom_end-end-requires
atom-end-requires c κs = search rules

-- src/lib.rt:132:5
sub-result : tie.Need-slice_bounds-result-count
sub-result c = search rules

-- src/lib.rt:132:5
part-result-start : tie.Need-slice_bounds-result-start
part-result-start c = search rules

-- src/lib.rt:132:5
part-result-end : tie.Need-slice_bounds-result-end
part-result-end c = end-within _ _ _ c.atom_from-start.ensures.few c.atom_end-end.ensures

-- src/lib.rt:126:1
returns : tie.Need-returns
returns c = atom-there _ _ _ _ c.atom_from-start.ensures c.atom_end-end.ensures

pub atom_at_spec : {M : Type 1} → statement M
atom_at_spec =
    tie.close
    (tie.spec
    atom-from-requires
    atom-end-requires
    sub-result
    part-result-start
    part-result-end
    returns)
