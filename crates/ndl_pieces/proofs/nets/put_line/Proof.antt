-- `nets::put_line` meets its contract: the keyword, a space and the nets if there are any, and the line's end. Assumes nothing.
use native.Mathlib.Omega.{arith}
use native.Mathlib.Decide.{dec_lt}
use mathlib.Core.Path.{sym, ap}
use mathlib.Core.List.{List, [], ◌∷◌, ◌++◌}
use Prim.Native.Nat.{ℕ, ◌+◌, ◌<◌, ◌≤◌}
use borrow.Author.Rules.{rules}
use lib.ListN.{length, length-append}
use Rattle.meaning.specs.Listing.{space}
use Rattle.meaning.specs.Ndl.{nets_text, line_end, keyword_line}
use Rattle.bytes_out.specs.Laying.{Laying}
use Rattle.write_pieces.specs.Laying.{laying-none, laying-left, laying-put, laying-last, room-first}
use Rattle.ndl_pieces.proofs.Lists.{line-none, line-some}
use Rattle.ndl_pieces.proofs.nets.put_line.Statement.{statement}
use Rattle.ndl_pieces.proofs.nets.put_line.Tie as tie

-- The keyword is the front of its line.
word-within : (word nets : List ℕ) → length word ≤ length (keyword_line word nets)
word-within word nets = go (dec_lt (length nets) 1)
  where
    go : Dec (length nets < 1) → length word ≤ length (keyword_line word nets)
    go (yes none) = omega (arith, ap length (line-none word nets none), length-append word line_end)
    go (no some) =
        omega (arith, ap length (line-some word nets (omega arith)), length-append word ((space ∷ []) ++ (nets_text nets ++ line_end)))

copy-requires : tie.Need-copy-word-requires
copy-requires c κs =
    omega (arith, word-within c.args.keyword.now c.args.nets.now, c.requires.1.fits)

-- What is left behind the keyword.
alone : (c : tie.After-copy-word) → length c.args.nets.now < 1
    → Laying (keyword_line c.args.keyword.now c.args.nets.now) line_end c.args.out.now c.args.at
    c.copy-word.new.bytes c.copy-word.result
alone c none =
    laying-put c.copy-word.ensures
    (laying-none c.args.out.now c.args.at (sym (line-none c.args.keyword.now c.args.nets.now none)) c.requires.1.fits)

worded : (c : tie.After-copy-word) → 1 ≤ length c.args.nets.now
    → Laying (keyword_line c.args.keyword.now c.args.nets.now) ((space ∷ []) ++ (nets_text c.args.nets.now ++ line_end))
    c.args.out.now c.args.at c.copy-word.new.bytes c.copy-word.result
worded c some =
    laying-put c.copy-word.ensures
    (laying-none c.args.out.now c.args.at (sym (line-some c.args.keyword.now c.args.nets.now some)) c.requires.1.fits)

-- Behind the space, and behind the nets.
spaced : (c : tie.After-copy-first)
    → Laying (keyword_line c.args.keyword.now c.args.nets.now) (nets_text c.args.nets.now ++ line_end)
    c.args.out.now c.args.at c.copy-first.new.bytes c.copy-first.result
spaced c = laying-put c.copy-first.ensures (worded c.before.before.before.before.before.before.before c.if-nets-lt1.false)

listed : (c : tie.After-put-end)
    → Laying (keyword_line c.args.keyword.now c.args.nets.now) line_end
    c.args.out.now c.args.at c.put-end.new.out c.put-end.result
listed c = laying-put c.put-end.ensures (spaced c.before.before.before.before)

copy-requires-2 : tie.Need-copy-requires
copy-requires-2 c κs =
    omega (arith, (laying-left (alone c.before.before.before.before.before.before c.if-nets-lt1.true)).fits)

returns : tie.Need-returns-then-nets-lt1
returns c =
    laying-last c.copy.ensures (alone c.before.before.before.before.before.before.before.before.before c.if-nets-lt1.true)

copy-requires-3 : tie.Need-copy-first-requires
copy-requires-3 c κs =
    omega (arith, (room-first {xs = space ∷ []} _ (laying-left (worded c.before.before.before.before.before.before c.if-nets-lt1.false))).fits)

put-requires : tie.Need-put-end-requires
put-requires c κs =
    (c.requires.0, room-first line_end (laying-left (spaced c.before.before.before)))

copy-requires-4 : tie.Need-copy-requires-2
copy-requires-4 c κs = omega (arith, (laying-left (listed c.before.before.before.before.before)).fits)

returns-2 : tie.Need-returns
returns-2 c =
    laying-last c.copy-2.ensures (listed c.before.before.before.before.before.before.before.before)

pub put_line_spec : {M : Type 1} → statement M
put_line_spec =
    tie.close
    (tie.spec
    copy-requires
    copy-requires-2
    (λ c. search rules)
    returns
    copy-requires-3
    put-requires
    copy-requires-4
    (λ c. search rules)
    returns-2)
