-- The loop along a chain of children.
use Rattle.std.specs.Prelude.{ℕ, ◌<◌, ◌≡◌, List, length}
use Rattle.std.proofs.Common.{arith}
use Rattle.text_names.specs.Tree.{word_at, first_of, next_of, letter_of, Book, Sought, Seeking}
use Rattle.text_names.specs.Searching.{seek-first, falls, seek-next, seek_found, seek-none}
use Rattle.text_names.specs.Needs.{Seekable}

pub record Along (tree : List ℕ) (count n c u : ℕ) : Type 0 where
  pub within : u < count
  pub seeks : (b : Book tree count) → Seeking tree b.nodes (word_at b.nodes n) c u

module _ (tree : List ℕ) (count n c : ℕ) (s : Seekable tree count n) where
  along : (u : ℕ) → ((b : Book tree count) → Seeking tree b.nodes (word_at b.nodes n) c u) → Along tree count n c u
  along u f =
      let l : u < length s.book.nodes = (f s.book).within in
      let is : length s.book.nodes ≡ count = s.book.counted in
      record { within = omega arith; seeks = f }

  here_in : (b : Book tree count) → n < length b.nodes
  here_in b = let is : length b.nodes ≡ count = b.counted in let l : n < count = s.here in omega arith

  pub along-first : (u : ℕ) → u ≡ first_of tree n → Along tree count n c u
  along-first u e = rw e (along (first_of tree n) (λ b. seek-first tree b.nodes b.holds n c (here_in b)))

  pub along-falls : (u : ℕ) → 0 < u → Along tree count n c u → next_of tree u < u
  along-falls u pos a = falls tree s.book.nodes s.book.holds (word_at s.book.nodes n) c u pos (a.seeks s.book)

  pub along-next : (u v : ℕ) → 0 < u → (letter_of tree u ≡ c → ⊥) → v ≡ next_of tree u → Along tree count n c u → Along tree count n c v
  along-next u v pos other e a =
      rw e (along (next_of tree u) (λ b. seek-next tree b.nodes b.holds (word_at b.nodes n) c u pos other (a.seeks b)))

  pub along-found : (u : ℕ) → letter_of tree u ≡ c → 0 < u → Along tree count n c u
      → (b : Book tree count) → Sought b.nodes (word_at b.nodes n) c u
  along-found u e pos a b = seek_found tree b.nodes b.holds (word_at b.nodes n) c u e pos (a.seeks b)

  pub along-none : (u : ℕ) → u ≡ 0 → Along tree count n c u → (b : Book tree count) → Sought b.nodes (word_at b.nodes n) c 0
  along-none u e a b = seek-none tree b.nodes b.holds (word_at b.nodes n) c (rw e at (a.seeks b))
