-- From the numbers of a file to the answer: what the functions ask and promise.
use Rattle.std.specs.Prelude.{Result, ℕ, ◌*◌, ◌≤◌, ◌<◌, min, ◌≡◌, cond, List, ltb, length}
use Rattle.meaning.specs.Syntax.{Module}
use Rattle.meaning.specs.Layout.{encode, file_numbers}
use Rattle.meaning.specs.Ceilings.{ModulesWithin, Within}
use Rattle.meaning.specs.Calls.{Decision, Written}
use Rattle.meaning.specs.ListNumbers.{numbered}
use Rattle.meaning.specs.ListCall.{reading, on_listed, shelving}
use Rattle.refusals.specs.declared.Refusal.{Refusal}
use Rattle.text_reader.specs.Reading.{Reads}

abbrev pub bytes_in : ℕ → ℕ
bytes_in n = cond (ltb n 128) 1 2

pub record Whole (file : List ℕ) : Type 0 where
  pub ms : List Module
  pub within : Within ms
  pub is : file ≡ encode ms

pub record Filed (numbers bytes : List ℕ) : Type 0 where
  pub ms : List Module
  pub within : ModulesWithin ms
  pub is : numbers ≡ file_numbers ms
  pub room : min (2 * length numbers) 65535 ≤ length bytes
  pub few : length numbers < 4194304

-- The answer once 33 is past.
abbrev pub after_reading : (text : List ℕ) (out : ℕ) → Decision Written
after_reading text out = on_listed (reading text) λ ms. shelving (numbered ms) out

pub record Ready (text : List ℕ) (read : Result ℕ Refusal) (numbers bytes : List ℕ) : Type 0 where
  pub reads : Reads text numbers read
  pub room : min (2 * length numbers) 65535 ≤ length bytes
  pub few : length numbers < 4194304
