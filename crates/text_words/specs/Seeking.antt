-- Where a list or an atom stands in a text, by its brackets and by counting: what is found is the text from there on.
use Rattle.std.specs.Prelude.{ℕ, zero, suc, ◌-◌, ◌≤◌, ◌≡◌, true, false, cond, List, [], ◌∷◌, eqb, length, take, drop}
use Rattle.meaning.specs.ListForm.{Name, kind_of}
use Rattle.meaning.specs.ListNumbers.{same_name}
use Rattle.meaning.specs.ListCall.{word}
use Rattle.text_modes.specs.Modes.{kind_code}
use Rattle.text_words.specs.declared.Cursor.{Cursor}

abbrev pub going : (depth more : ℕ) → Cursor
going depth more = record { met = false; depth = depth; more = more }

-- A bracket that opens a list of the level: it is the one that is sought, or one fewer is to be passed.
abbrev pub at_level : (depth more : ℕ) → Cursor
at_level depth zero = record { met = true; depth = depth; more = 0 }
at_level depth (suc more) = going (suc depth) more

-- What a byte does to the search, by its kind: 1 and 2 are the brackets.
abbrev pub cursor_after : (code level depth more : ℕ) → Cursor
cursor_after code level depth more =
    cond (eqb code 1) (cond (eqb depth level) (at_level depth more) (going (suc depth) more))
    (cond (eqb code 2) (going (depth - 1) more) (going depth more))

-- The text behind the bracket that opens a list: of the lists that are opened where `level` brackets are open, the one with `more` before it.
unfoldable pub behind : (level depth more : ℕ) → List ℕ → List ℕ
behind level depth more [] = []
behind level depth more (b ∷ text) =
    let c = cursor_after (kind_code (kind_of b)) level depth more in
    cond c.met text (behind level c.depth c.more text)

-- The text from its first atom on.
unfoldable pub to_atom : List ℕ → List ℕ
to_atom [] = []
to_atom (b ∷ text) = cond (eqb (kind_code (kind_of b)) 4) (b ∷ text) (to_atom text)

-- The text behind the atom that it begins with.
abbrev pub past_atom : List ℕ → List ℕ
past_atom text = drop (length (word text)) text

-- The text from the atom on that has so many before it.
unfoldable pub atom_from : ℕ → List ℕ → List ℕ
atom_from zero text = to_atom text
atom_from (suc more) text = atom_from more (past_atom (to_atom text))

-- Modules are the lists inside the one outer bracket; in a module, with its own bracket open too, occurrences are the lists inside its
-- third list, the only one that has lists inside.
abbrev pub module_from : (position : ℕ) → List ℕ → List ℕ
module_from position text = behind 1 0 position text

abbrev pub occurrence_from : (position occurrence : ℕ) → List ℕ → List ℕ
occurrence_from position occurrence text = behind 3 2 occurrence (module_from position text)

-- A place from which a text goes on so.
pub record Sought (text : List ℕ) (r : ℕ) (rest : List ℕ) : Type 0 where
  pub few : r ≤ length text
  pub is : drop r text ≡ rest

-- The atom that a text begins with, as it stands there.
abbrev pub as_written : List ℕ → List ℕ
as_written text = take (length (word text)) text

-- The name of the module at a position; empty where the text has none there.
abbrev pub name_at : List ℕ → (position : ℕ) → Name
name_at text position = word (atom_from 0 (module_from position text))

-- The first of some positions, from one on, whose module has a name; the position behind them where none has.
unfoldable pub first_named : (left position : ℕ) → List ℕ → Name → ℕ
first_named zero position text a = position
first_named (suc left) position text a = cond (same_name (name_at text position) a) position (first_named left (suc position) text a)
