-- `put_module_refusal` meets its contract: position and number in a row, the word, the refusal's number, and the line feed. Assumes nothing.
use Prim.Native.Nat.{◌+◌, ◌≤◌}
use mathlib.Core.List.{[], ◌∷◌, ◌++◌}
use native.Mathlib.Omega.{arith}
use borrow.Author.Rules.{rules}
use lib.ListN.{length}
use Rattle.meaning.specs.Listing.{decimal, spaced, space, refused_word}
use Rattle.list_text.specs.Pieces.{PutDown}
use Rattle.list_text.proofs.Pieces.{put-length, put-after}
use Rattle.list_text.proofs.Numbers.{length-of-number, number_spellable, number_put}
use Rattle.list_text.proofs.Lines.{row-reaches, line-of-refusal}
use Rattle.list_text.proofs.put_module_refusal.Statement.{statement}
use Rattle.list_text.proofs.put_module_refusal.Tie as tie

-- The start, seen from behind the row, and what lies in front of the place behind the word.
abbrev start : tie.After-put_numbers-at → tie.Start
start c = c.before.before.before.before

put-bytes-requires : tie.Need-put_bytes-at-requires
put-bytes-requires c κs =
    let kept = put-length c.put_numbers-at.ensures in
    omega (arith, row-reaches _ _ c.put_numbers-at.ensures, c.requires)

-- Position, number and word stand there, and there is room for the refusal's number and the line feed.
worded : (c : tie.After-put_bytes-at)
    → PutDown (spaced c.args.position (c.args.number ∷ []) ++ (space ∷ (refused_word ++ (space ∷ []))))
    c.args.out.now 0 c.put_bytes-at.new.out c.put_bytes-at.result
worded c = put-after c.put_numbers-at.ensures c.put_bytes-at.ensures

room : (c : tie.After-put_bytes-at) → c.put_bytes-at.result + 21 ≤ length c.put_bytes-at.new.out
room c =
    let kept = put-length c.put_numbers-at.ensures in
    let kept_on = put-length c.put_bytes-at.ensures in
    omega (arith, row-reaches _ _ c.put_numbers-at.ensures, c.put_bytes-at.ensures.next, c.requires)

put-number-requires : tie.Need-put_number-at-requires
put-number-requires c κs =
    number_spellable c.ranges.refused.fits (omega (arith, room c.before.before.before))

-- The refusal's number stands behind them.
numbered : (c : tie.After-put_number-at)
    → PutDown (decimal c.args.refused) c.put_bytes-at.new.out c.put_bytes-at.result
    c.put_number-at.new.out c.put_number-at.result
numbered c =
    number_put c.put_number-at.ensures c.ranges.refused.fits (omega (arith, room c.before.before.before.before))

end-line-requires : tie.Need-end_line-requires
end-line-requires c κs =
    let d = numbered c.before.before.before in
    let kept = put-length d in
    omega (arith, room c.before.before.before.before.before.before.before, d.next, length-of-number c.args.refused)

returns : tie.Need-returns
returns c place =
    let a = c.args in
    rw (← line-of-refusal a.position a.number a.refused place)
    (put-after (put-after (worded c.before.before.before.before.before.before.before.before.before.before) (numbered c.before.before.before.before.before.before)) c.end_line.ensures)

pub put_module_refusal_spec : {M : Type 1} → statement M
put_module_refusal_spec =
    tie.close
    (tie.spec
    (λ c. search rules)
    (λ c κs. search rules)
    put-bytes-requires
    put-number-requires
    end-line-requires
    (λ c. search rules)
    returns)
