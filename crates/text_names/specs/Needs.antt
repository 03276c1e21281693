-- What the functions ask of their lists, and what they promise.
use Rattle.std.specs.Prelude.{ℕ, ◌+◌, ◌*◌, ◌≤◌, ◌<◌, List, map, length}
use Rattle.meaning.specs.ListForm.{Name, capital}
use Rattle.text_names.specs.Tree.{word_at, Book, Reached}
use Rattle.text_names.specs.Walking.{pushed}
use Rattle.text_names.specs.Giving.{Rooted, Entered}

-- A name is kept in capitals.
abbrev pub name_of : List ℕ → Name
name_of bytes = map capital bytes

pub record Seekable (tree : List ℕ) (count n : ℕ) : Type 0 where
  pub book : Book tree count
  pub here : n < count
  pub room : 4 * count ≤ length tree

pub record Steppable (tree : List ℕ) (count n : ℕ) : Type 0 where
  pub book : Book tree count
  pub here : n < count
  pub room : 4 * count + 4 ≤ length tree
  pub few : count < 1048576

pub record Walkable (name tree : List ℕ) (n count : ℕ) : Type 0 where
  pub book : Book tree count
  pub here : n < count
  pub room : 4 * (count + length name) ≤ length tree
  pub few : count + length name < 1048576

pub record Walked (name tree : List ℕ) (n count : ℕ) (tree' : List ℕ) (count' node : ℕ) : Type 0 where
  pub reached : (b : Book tree count) → Reached tree b.nodes (pushed (word_at b.nodes n) (name_of name)) tree' count' node
  pub least : count ≤ count'
  pub most : count' ≤ count + length name

pub record Numberable (name tree : List ℕ) (t known count : ℕ) : Type 0 where
  pub book : Book tree count
  pub rooted : Rooted book.nodes t
  pub room : 4 * (count + length name) ≤ length tree
  pub few : count + length name < 1048576
  pub most : known ≤ 16384

pub record Numbered (name tree : List ℕ) (t known count : ℕ) (tree' : List ℕ) (count' number : ℕ) : Type 0 where
  pub entered : (b : Book tree count) → Rooted b.nodes t → Entered tree b.nodes t (name_of name) known tree' count' number
  pub least : count ≤ count'
  pub most : count' ≤ count + length name
