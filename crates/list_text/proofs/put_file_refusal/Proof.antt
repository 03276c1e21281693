-- `put_file_refusal` meets its contract: the word, the two numbers in a row, and the line feed. Assumes nothing.
use mathlib.Core.List.{[], ◌∷◌, ◌++◌}
use native.Mathlib.Omega.{arith}
use borrow.Author.Rules.{rules}
use Rattle.meaning.specs.Listing.{spaced, space, refused_word}
use Rattle.list_text.specs.Pieces.{PutDown}
use Rattle.list_text.proofs.Pieces.{put-length, put-after}
use Rattle.list_text.proofs.Lines.{row-reaches, line-of-refused-file}
use Rattle.list_text.proofs.put_file_refusal.Statement.{statement}
use Rattle.list_text.proofs.put_file_refusal.Tie as tie

-- The word and the numbers stand there.
numbered : (c : tie.After-put_numbers-at)
    → PutDown ((refused_word ++ (space ∷ [])) ++ spaced c.args.number (c.args.place ∷ [])) c.args.out.now 0
    c.put_numbers-at.new.out c.put_numbers-at.result
numbered c = put-after c.put_bytes-at.ensures c.put_numbers-at.ensures

end-line-requires : tie.Need-end_line-requires
end-line-requires c κs =
    let kept = put-length (numbered c.before.before.before) in
    omega (arith, row-reaches _ _ c.put_numbers-at.ensures, c.put_bytes-at.ensures.next, c.requires)

returns : tie.Need-returns
returns c =
    let a = c.args in
    rw (line-of-refused-file a.number a.place) at (put-after (numbered c.before.before.before.before.before.before) c.end_line.ensures)

pub put_file_refusal_spec : {M : Type 1} → statement M
put_file_refusal_spec =
    tie.close
    (tie.spec
    (λ c κs. search rules)
    (λ c. search rules)
    (λ c κs. search rules)
    end-line-requires
    (λ c. search rules)
    returns)
