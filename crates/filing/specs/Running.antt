-- The counter run on a block of words: what is asked, so that none of the library's refusals applies.
use Rattle.std.specs.Prelude.{ℕ, ◌*◌, ◌≤◌, ◌<◌, ◌≡◌, List, length, get_or, replicate}
use Rattle.meaning.specs.Lists.{All}
use Rattle.meaning.specs.Layout.{encode}
use Rattle.meaning.specs.Counter.{counter}
use Rattle.meaning.specs.Rows.{most_rows}
use Rattle.laws.specs.Filing.Counting.{Short, values_of}
use Rattle.filing.specs.Laying.{Layable}

-- Rows that are words, and the counter's file.
pub record Runnable (file : List ℕ) (rows : ℕ) (values : List ℕ) (outputs : ℕ) : Type 0 where
  pub written : file ≡ encode (counter 32)
  pub words : List (List ℕ)
  pub short : All Short words
  pub count : rows ≡ length words
  pub few : rows ≤ most_rows
  pub laid : values ≡ values_of words
  pub fits : rows * 6 ≤ outputs

-- A block of words of a length in so many bases.
pub record Block (file : List ℕ) (bases n bits values outputs : ℕ) : Type 0 where
  pub written : file ≡ encode (counter 32)
  pub layable : Layable bases n bits values
  pub fits : layable.count * 6 ≤ outputs

-- A table of 33 counts that have room for a sequence.
pub record Roomy (table : List ℕ) : Type 0 where
  pub whole : length table ≡ 33
  pub few : (k : ℕ) → k < 33 → get_or table k 0 ≤ 65535

-- A word that is filed; a sequence that is, into a table of so many entries,
pub record Word (letters : ℕ) : Type 0 where
  pub some : 1 ≤ letters
  pub few : letters ≤ 16

pub record Sequence (bases n table : ℕ) : Type 0 where
  pub word : Word n
  pub short : bases ≤ 65535
  pub whole : table ≡ 33

-- and the lists that it is worked out in.
pub record Working (file : List ℕ) (bases n bits values outputs : ℕ) (table : List ℕ) : Type 0 where
  pub written : file ≡ encode (counter 32)
  pub word : Word n
  pub short : bases ≤ 65535
  pub bits-long : bits ≡ 2078
  pub values-long : values ≡ 32768
  pub outputs-long : outputs ≡ 6144
  pub empty : table ≡ replicate 33 0
