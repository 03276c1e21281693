-- The first byte that is a line feed, or the text's end.
use Rattle.std.proofs.Common.{◌≡◌, ℕ, suc, ◌+◌, List, cond, eqb, refl, ◌∙◌, sym, ap, arith, rules, tests}
use Rattle.std.proofs.lemmas.Iterator.{YieldsList-from_slice}
use Rattle.std.proofs.lemmas.Iterator.Search.{position_from_yields_List}
use Rattle.std.proofs.lemmas.List.Recursion.{is_position_or_len}
use Rattle.meaning.specs.Listing.{line_feed}
use Rattle.row_lines.specs.Lines.{feed_at}
use Rattle.row_lines.proofs.Places.{place_or_length}
use Rattle.row_lines.proofs.judging.feed_at.Goals as goal

pub returns : goal.returns
unfolding feed_at
returns c =
    let text = c.args.text.now in
    let is_feed = λ (b : ℕ). eqb b line_feed in
    let further = λ (x : ℕ) (xs : List ℕ). let one : suc (feed_at xs) ≡ 1 + feed_at xs = omega arith in ap (λ (k : ℕ). cond (eqb x line_feed) 0 k) one in
    let found = position_from_yields_List is_feed _ _ _ c.position.ensures.ran (YieldsList-from_slice text cc) (λ x b q k. search (rules, tests)) in
    c.unwrap_or.ensures ∙ place_or_length is_feed text _ found ∙ sym (is_position_or_len feed_at is_feed refl further text)
