-- The first byte that is no base, or the end.
use Rattle.std.proofs.Common.{◌≡◌, ℕ, suc, ◌+◌, List, cond, ltb, refl, ◌∙◌, sym, arith, rules, tests}
use Rattle.std.proofs.lemmas.Bool.Decides.{nat_tests}
use Rattle.std.proofs.lemmas.Iterator.{YieldsList-from_slice}
use Rattle.std.proofs.lemmas.Iterator.Search.{position_from_yields_List}
use Rattle.std.proofs.lemmas.List.Recursion.{is_position_or_len}
use Rattle.meaning.specs.Filing.{base, first_other}
use Rattle.filing.proofs.Places.{place_or_length}
use Rattle.filing.proofs.bases.first_other.Goals as goal

further : (b : ℕ) (rest : ℕ) → cond (ltb b 4) (suc rest) 0 ≡ cond (ltb 3 b) 0 (1 + rest)
further b rest = grind (arith, nat_tests)

pub returns : goal.returns
unfolding first_other
returns c =
    let bytes = c.args.bytes.now in
    let is_other = λ (b : ℕ). ltb 3 (base b) in
    let found = position_from_yields_List is_other _ _ _ c.position.ensures.ran (YieldsList-from_slice bytes cc) (λ x b q k. search (rules, tests)) in
    c.unwrap_or.ensures ∙ place_or_length is_other bytes _ found ∙ sym (is_position_or_len first_other is_other refl (λ x xs. further (base x) (first_other xs)) bytes)
