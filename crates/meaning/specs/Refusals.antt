-- What each refusal of a file means of its bytes (document 01, 'Refusal numbers'): 1 to 5 by what stands at the place and in front of
-- it, 6 to 17 by the rules on the modules whose encoding the bytes are.
use Rattle.std.specs.Prelude.{ℕ, ◌+◌, ◌≤◌, ◌<◌, ◌≡◌, List, ◌∷◌, ◌++◌, length}
use Rattle.meaning.specs.Syntax.{Module}
use Rattle.meaning.specs.Layout.{each, number_bytes, encode}
use Rattle.meaning.specs.Reading.{most_bytes}
use Rattle.meaning.specs.Ceilings.{ModulesWithin, Encodes}
use Rattle.meaning.specs.Fronts.{FileFront, Unread}
use Rattle.meaning.specs.Verdict.{refused}
use Rattle.meaning.specs.Rules.{file_rules, Outcome}

-- Reading comes first, over the whole file, front to back: all in front of the place is as it should be.
pub data Unreadable (bytes : List ℕ) : (number place : ℕ) → Type 0 where
  -- 1: over 65,535 bytes, before all else.
  too_long : most_bytes < length bytes → Unreadable bytes 1 0
  -- 2, 3, 4: no number stands where one is due.
  stops :
      {before rest : List ℕ} {most number behind : ℕ}
      → length bytes ≤ most_bytes
      → FileFront before most
      → Unread most rest number behind
      → bytes ≡ each number_bytes before ++ rest
      → Unreadable bytes number (length (each number_bytes before) + behind)
  -- 5: bytes follow the last module; the place is the first of them.
  follows :
      (ms : List Module) (byte : ℕ) (rest : List ℕ)
      → length bytes ≤ most_bytes
      → ModulesWithin ms
      → bytes ≡ encode ms ++ (byte ∷ rest)
      → Unreadable bytes 5 (length (encode ms))

-- The one refusal of a file: 1 to 5, or the first rule of 6 to 17 that is broken.
pub data FileRefusal (bytes : List ℕ) : (number place : ℕ) → Type 1 where
  unreadable : {number place : ℕ} → Unreadable bytes number place → FileRefusal bytes number place
  breaks :
      {number place : ℕ} (ms : List Module)
      → Encodes bytes ms
      → Outcome (file_rules ms) (refused number place)
      → FileRefusal bytes number place
