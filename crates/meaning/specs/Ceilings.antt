-- The ceilings that reading enforces, as a property of a file: what can be written and then read (document 01, 'The shelf file').
use Rattle.std.specs.Prelude.{ℕ, ◌≤◌, ◌<◌, ◌≡◌, List, length}
use Rattle.meaning.specs.Lists.{All}
use Rattle.meaning.specs.Syntax.{Occurrence, Module}
use Rattle.meaning.specs.Layout.{encode}
use Rattle.meaning.specs.Reading.{most_modules, most_nets, most_occurrences, most_bytes}

-- Numbers are 0 to 16,383.
abbrev pub most_number : ℕ
most_number = 16383

abbrev pub Small : ℕ → Type 0
Small n = n ≤ most_number

-- At most 192 entries in any list of nets.
pub record NetsWithin (nets : List ℕ) : Type 0 where
  pub count : length nets ≤ most_nets
  pub numbers : All Small nets

pub record OccurrenceWithin (o : Occurrence) : Type 0 where
  pub drives : NetsWithin o.drives
  pub refers : Small o.refers
  pub takes : NetsWithin o.takes

-- At most 4,096 occurrences in a module.
pub record ModuleWithin (m : Module) : Type 0 where
  pub number : Small m.number
  pub inputs : NetsWithin m.inputs
  pub outputs : NetsWithin m.outputs
  pub count : length m.occurrences ≤ most_occurrences
  pub occurrences : All OccurrenceWithin m.occurrences

-- At most 128 modules.
pub record ModulesWithin (ms : List Module) : Type 0 where
  pub count : length ms ≤ most_modules
  pub modules : All ModuleWithin ms

-- At most 65,535 bytes.
pub record Within (ms : List Module) : Type 0 where
  pub modules : ModulesWithin ms
  pub bytes : length (encode ms) ≤ most_bytes

-- Every entry is a byte.
abbrev pub Bytes : List ℕ → Type 0
Bytes = All (λ b. b < 256)

-- Bytes that are the encoding of a list of modules within the ceilings.
pub record Encodes (bytes : List ℕ) (ms : List Module) : Type 0 where
  pub encoded : encode ms ≡ bytes
  pub within : Within ms
