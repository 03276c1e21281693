-- A joined file that is whole, and one of which only the count is missing.
use Rattle.std.specs.Prelude.{ℕ, ◌≤◌, ◌≡◌, List, length}
use Rattle.meaning.specs.Syntax.{Module}
use Rattle.meaning.specs.Layout.{each, encode}
use Rattle.meaning.specs.Ceilings.{Within}
use Rattle.meaning.specs.Reading.{most_modules, most_bytes}
use Rattle.meaning.specs.Shelves.{bytes_of}
use Rattle.bytes_out.specs.Filled.{Put}
use Rattle.write_joined.specs.declared.gathering.Gathered.{Gathered}

pub record Whole (file : List ℕ) : Type 0 where
  pub ms : List Module
  pub within : Within ms
  pub is : file ≡ encode ms

-- The modules' bytes stand one behind the other from place 2 on.
pub record Assembled (all : Gathered) (bytes : List ℕ) : Type 0 where
  pub ms : List Module
  pub count : all.modules ≡ length ms
  pub within : length ms ≤ most_modules → length (encode ms) ≤ most_bytes → Within ms
  pub before : List ℕ
  pub put : Put (each bytes_of ms) before 2 bytes all.at
  pub room : all.at ≤ length before
