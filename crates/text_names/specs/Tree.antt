-- Names in a tree: each node stands for a word, which is a root and the letters on the way from it. A node has four entries in the list:
-- its first child, the next child of its parent, its letter, and the number given to its name. Children of a node stand in a chain, the
-- last one first, so a link always leads to a lower node; 0 ends a chain, and node 0 is nobody's child.
use Rattle.std.specs.Prelude.{ℕ, ◌+◌, ◌*◌, ◌≤◌, ◌<◌, ◌≡◌, List, ◌++◌, length, get_or}

pub data Word : Type 0 where
  root : ℕ → Word
  longer : Word → ℕ → Word

abbrev pub root_of : Word → ℕ
root_of (root t) = t
root_of (longer w c) = root_of w

abbrev pub word_at : List Word → ℕ → Word
word_at nodes i = get_or nodes i (root 0)

abbrev pub first_of : List ℕ → ℕ → ℕ
first_of tree i = get_or tree (4 * i) 0

abbrev pub next_of : List ℕ → ℕ → ℕ
next_of tree i = get_or tree (4 * i + 1) 0

abbrev pub letter_of : List ℕ → ℕ → ℕ
letter_of tree i = get_or tree (4 * i + 2) 0

abbrev pub number_of : List ℕ → ℕ → ℕ
number_of tree i = get_or tree (4 * i + 3) 0

-- u is the last node below the limit that makes the word longer by a letter; 0 if there is none.
pub record Led (tree : List ℕ) (nodes : List Word) (w : Word) (limit u : ℕ) : Type 0 where
  pub below : u < limit
  pub is : 0 < u → word_at nodes u ≡ longer w (letter_of tree u)
  pub all : (k c : ℕ) → k < limit → word_at nodes k ≡ longer w c → k ≤ u

-- A node is a root of its own, or it has a parent below it.
pub data Rise (nodes : List Word) (i : ℕ) : Type 0 where
  own : word_at nodes i ≡ root i → Rise nodes i
  child : (n c : ℕ) → n < i → word_at nodes i ≡ longer (word_at nodes n) c → Rise nodes i

pub record Tree (tree : List ℕ) (nodes : List Word) : Type 0 where
  pub some : 0 < length nodes
  pub front : word_at nodes 0 ≡ root 0
  pub one : (i j : ℕ) → i < length nodes → j < length nodes → word_at nodes i ≡ word_at nodes j → i ≡ j
  pub rise : (i : ℕ) → i < length nodes → Rise nodes i
  pub roots : (i : ℕ) → i < length nodes → root_of (word_at nodes i) ≤ i
  pub first : (i : ℕ) → i < length nodes → Led tree nodes (word_at nodes i) (length nodes) (first_of tree i)
  pub next : (i : ℕ) (w : Word) (c : ℕ) → i < length nodes → word_at nodes i ≡ longer w c → Led tree nodes w i (next_of tree i)
  pub unled : (i : ℕ) → length nodes ≤ i → first_of tree i ≡ 0
  pub unnumbered : (i : ℕ) → length nodes ≤ i → number_of tree i ≡ 0

-- A list that holds so many nodes.
pub record Book (tree : List ℕ) (count : ℕ) : Type 0 where
  pub nodes : List Word
  pub counted : length nodes ≡ count
  pub holds : Tree tree nodes

-- What a search for a letter below a node gives: the node of the word, or 0 if there is none.
pub record Sought (nodes : List Word) (w : Word) (c u : ℕ) : Type 0 where
  pub within : u < length nodes
  pub found : 0 < u → word_at nodes u ≡ longer w c
  pub none : u ≡ 0 → (k : ℕ) → k < length nodes → word_at nodes k ≡ longer w c → ⊥

-- While it goes along a chain.
pub record Seeking (tree : List ℕ) (nodes : List Word) (w : Word) (c u : ℕ) : Type 0 where
  pub within : u < length nodes
  pub is : 0 < u → word_at nodes u ≡ longer w (letter_of tree u)
  pub left : (k : ℕ) → k < length nodes → word_at nodes k ≡ longer w c → k ≤ u

-- A word that has been reached from another: the nodes there were stay, and so do their numbers.
pub record Reached (tree : List ℕ) (nodes : List Word) (w : Word) (tree' : List ℕ) (count' node : ℕ) : Type 0 where
  pub book : Book tree' count'
  pub more : List Word
  pub stay : book.nodes ≡ nodes ++ more
  pub numbers : (i : ℕ) → number_of tree' i ≡ number_of tree i
  pub within : node < count'
  pub word : word_at book.nodes node ≡ w
  pub room : length tree' ≡ length tree
