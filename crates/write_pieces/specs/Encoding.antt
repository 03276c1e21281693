-- The bytes of numbers, one after the other: those of the first, or of a first piece, stand in front of those of the rest.
use Rattle.std.specs.Prelude.{ℕ, ◌≡◌, List, [], ◌∷◌, ◌++◌}
use Rattle.meaning.specs.Layout.{each, number_bytes}
use Rattle.laws.specs.Lists.{each_append}

module _ {xs : List ℕ} where
  pub bytes-of-next : {x : ℕ} {rest : List ℕ} → xs ≡ x ∷ rest → each number_bytes xs ≡ number_bytes x ++ each number_bytes rest
  unfolding each
  bytes-of-next e = rw e

  pub bytes-of-piece : (piece rest : List ℕ) → xs ≡ piece ++ rest → each number_bytes xs ≡ each number_bytes piece ++ each number_bytes rest
  bytes-of-piece piece rest e = rw (e, each_append number_bytes piece rest)

  pub no_bytes : xs ≡ [] → each number_bytes xs ≡ []
  unfolding each
  no_bytes e = rw e
