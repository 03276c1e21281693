-- The first byte that does not belong there, or the word's end.
use Rattle.std.proofs.Common.{◌≡◌, ℕ, suc, ◌+◌, List, cond, eqb, refl, ◌∙◌, sym, ap, arith, rules, tests}
use Rattle.std.proofs.lemmas.Iterator.{YieldsList-from_slice}
use Rattle.std.proofs.lemmas.Iterator.Search.{position_from_yields_List}
use Rattle.std.proofs.lemmas.List.Recursion.{is_position_or_len}
use Rattle.row_lines.specs.Words.{mark_of, other, first_other}
use Rattle.row_lines.proofs.Places.{place_or_length}
use Rattle.row_lines.proofs.words.first_other.Goals as goal

pub returns : goal.returns
unfolding first_other
returns c =
    let word = c.args.word.now in
    let is_other = λ (b : ℕ). eqb (mark_of b) other in
    let further = λ (x : ℕ) (xs : List ℕ). let one : suc (first_other xs) ≡ 1 + first_other xs = omega arith in ap (λ (k : ℕ). cond (is_other x) 0 k) one in
    let found = position_from_yields_List is_other _ _ _ c.position.ensures.ran (YieldsList-from_slice word cc) (λ x b q k. search (rules, tests)) in
    c.unwrap_or.ensures ∙ place_or_length is_other word _ found ∙ sym (is_position_or_len first_other is_other refl further word)
