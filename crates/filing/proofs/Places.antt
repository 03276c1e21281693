-- The first index at which a test holds, as the library's search answers it.
use Rattle.std.proofs.Common.{◌≡◌, ℕ, Bool, not, cond, ltb, List, length, Option, Some, None, unwrap_or, arith}
use Rattle.std.specs.List.{position_or_len}
use Rattle.std.proofs.lemmas.List.Sums.{prefix_len-le-length}
use Rattle.std.proofs.lemmas.Bool.Decides.{nat_tests}

pub place_or_length :
    (test : ℕ → Bool) (xs : List ℕ) (found : Option ℕ)
    → found ≡ cond (ltb (position_or_len test xs) (length xs)) (Some (position_or_len test xs)) None
    → unwrap_or found (length xs) ≡ position_or_len test xs
place_or_length test xs found is = let most = prefix_len-le-length (λ x. not (test x)) xs in grind (arith, nat_tests)
