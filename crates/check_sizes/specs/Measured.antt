-- Expanded size and room of the modules of a file, kept in two tables by their positions.
use Rattle.std.specs.Prelude.{ℕ, ◌+◌, ◌≤◌, ◌≡◌, List, ◌∷◌, get_or, drop}
use Rattle.meaning.specs.Syntax.{Module}
use Rattle.meaning.specs.Limits.{net_count, body_size, expanded_size}
use Rattle.meaning.specs.Figures.{largest_referred, room}

-- Module m is at position k, the modules `later` come after it.
abbrev pub At : List Module → ℕ → Module → List Module → Type 0
At ms k m later = drop k ms ≡ m ∷ later

-- The tables have the figures of every module from a position on.
pub record Tabled (first : ℕ) (ms : List Module) (sizes rooms : List ℕ) : Type 0 where
  pub size :
      (k : ℕ) (m : Module) (later : List Module)
      → first ≤ k
      → At ms k m later
      → get_or sizes k 0 ≡ body_size (expanded_size later) m.occurrences
  pub room :
      (k : ℕ) (m : Module) (later : List Module)
      → first ≤ k
      → At ms k m later
      → get_or rooms k 0 ≡ net_count m + largest_referred (room later) m.occurrences
