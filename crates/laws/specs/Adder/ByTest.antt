-- What holds of every entry of a list that is written out, by a test that computes.
use Rattle.std.specs.Prelude.{◌≡◌, Bool, true, ◌&&◌, List, [], ◌∷◌}
use Rattle.std.proofs.Math.Bool.{and-eq-true_iff}
use Rattle.meaning.specs.Lists.{All, none, more}

module _ {A : Type 0} (test : A → Bool) where
  abbrev pub every : List A → Bool
  every [] = true
  every (x ∷ xs) = test x && every xs

  pub all-by-test : {P : A → Type 0} → ((x : A) → test x ≡ true → P x) → (xs : List A) → every xs ≡ true → All P xs
  all-by-test holds [] passed = none
  all-by-test holds (x ∷ xs) passed =
      let both = (and-eq-true_iff (test x) (every xs)).0 passed in
      more (holds x both.0) (all-by-test holds xs both.1)
