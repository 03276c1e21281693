-- Reading a file's bytes, front to back: the file, or the one refusal of 1 to 5 with its place (document 01, 'Refusal numbers').
use Rattle.std.specs.Prelude.{ℕ, zero, suc, ◌+◌, ◌*◌, ◌-◌, cond, ◌||◌, List, [], ◌∷◌, leb, ltb, eqb, length}
use Rattle.meaning.specs.Syntax.{Occurrence, Module}

-- What reading a thing at a place gives: the thing, with the place after it and the bytes from there on; or a refusal, its
-- number and place.
pub data Step (A : Type 0) : Type 0 where
  got : A → ℕ → List ℕ → Step A
  refused : ℕ → ℕ → Step A

-- A reader of things takes a place and the bytes from there on.
abbrev pub Reader : Type 0 → Type 0
Reader A = ℕ → List ℕ → Step A

-- What was read goes on to the next reader; a refusal ends all.
abbrev pub onward : {A B : Type 0} → (A → Reader B) → Step A → Step B
onward next (got a p rest) = next a p rest
onward next (refused number place) = refused number place

-- One thing and then what depends on it.
abbrev pub bind : {A B : Type 0} → Reader A → (A → Reader B) → Reader B
bind r next p rest = onward next (r p rest)

abbrev pub give : {A : Type 0} → A → Reader A
give a p rest = got a p rest

-- 2: the file ends where a byte is due; the place is the file's length. 3: the second byte of a number is 0, or 128 or more; the
-- place is the number's first byte.
unfoldable pub second_group : ℕ → Reader ℕ
second_group low p [] = refused 2 (suc p)
second_group low p (high ∷ rest) = cond (eqb high 0 || leb 128 high) (refused 3 p) (got (low + 128 * high) (suc (suc p)) rest)

unfoldable pub read_number : Reader ℕ
read_number p [] = refused 2 p
read_number p (first ∷ rest) = cond (ltb first 128) (got first (suc p) rest) (second_group (first - 128) p rest)

-- 4: a count is over its ceiling; the place is the count's first byte.
unfoldable pub read_count : ℕ → Reader ℕ
read_count ceiling p rest = onward (λ n q rest'. cond (leb n ceiling) (got n q rest') (refused 4 p)) (read_number p rest)

-- As many things as a count says.
unfoldable pub read_many : {A : Type 0} → Reader A → ℕ → Reader (List A)
read_many r zero = give []
read_many r (suc n) = bind r (λ x. bind (read_many r n) (λ xs. give (x ∷ xs)))

-- The ceilings that reading enforces.
abbrev pub most_modules : ℕ
most_modules = 128

abbrev pub most_nets : ℕ
most_nets = 192

abbrev pub most_occurrences : ℕ
most_occurrences = 4096

abbrev pub most_bytes : ℕ
most_bytes = 65535

unfoldable pub read_nets : Reader (List ℕ)
read_nets = bind (read_count most_nets) (read_many read_number)

unfoldable pub read_occurrence : Reader Occurrence
read_occurrence =
    bind read_nets (λ drives.
    bind read_number (λ refers.
    bind read_nets (λ takes.
    give (record { drives = drives; refers = refers; takes = takes }))))

unfoldable pub read_module : Reader Module
read_module =
    bind read_number (λ number.
    bind read_nets (λ inputs.
    bind read_nets (λ outputs.
    bind (read_count most_occurrences) (λ n.
    bind (read_many read_occurrence n) (λ occurrences.
    give (record { number = number; inputs = inputs; outputs = outputs; occurrences = occurrences }))))))

unfoldable pub read_modules : Reader (List Module)
read_modules = bind (read_count most_modules) (read_many read_module)

-- The file that the bytes hold, or the refusal.
pub data File : Type 0 where
  holds : List Module → File
  fails : ℕ → ℕ → File

-- 5: bytes follow the last module; the place is the first of them.
abbrev pub at_end : Step (List Module) → File
at_end (got ms p []) = holds ms
at_end (got ms p (b ∷ rest)) = fails 5 p
at_end (refused number place) = fails number place

-- 1: over 65,535 bytes, place 0, before all else.
unfoldable pub read : List ℕ → File
read bytes = cond (leb (length bytes) most_bytes) (at_end (read_modules 0 bytes)) (fails 1 0)
