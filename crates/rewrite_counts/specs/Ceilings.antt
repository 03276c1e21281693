-- What deciding the ceilings of the new file asks: tables by position of a file's modules.
use Rattle.std.specs.Prelude.{ℕ, ◌≤◌, ◌<◌, ◌≡◌, Option, None, Some, List, ◌∷◌, length, get_or, drop}
use Rattle.meaning.specs.Syntax.{Module}
use Rattle.meaning.specs.Limits.{net_count, body_size, expanded_size, most_module_nets, most_size}
use Rattle.meaning.specs.Figures.{body_weight}
use Rattle.meaning.specs.Reading.{most_occurrences}
use Rattle.meaning.specs.Verdict.{Verdict, good, refused}
use Rattle.laws.specs.Withdrawn.Suits.{fours}
use Rattle.laws.specs.Withdrawn.Counts.{four_weight, fours_reached}
use Rattle.image.specs.Stands.{Stands}
use Rattle.meaning.specs.Layout.{module_numbers}

-- All modules keep to the rule of a number, or the one at a position breaks it.
abbrev pub verdict_by : (number : ℕ) → Option ℕ → Verdict
verdict_by number None = good
verdict_by number (Some k) = refused number k

-- Module m is at position k of a list, the modules `later` behind it.
abbrev pub Entry : (ms : List Module) (table : List ℕ) (figure : Module → List Module → ℕ) → Type 0
Entry ms table figure = (k : ℕ) (m : Module) (later : List Module) → drop k ms ≡ m ∷ later → get_or table k 0 ≡ figure m later

pub record OwnTable (own : List ℕ) (modules : ℕ) : Type 0 where
  pub ms : List Module
  pub all : modules ≡ length ms
  pub long : length ms ≤ length own
  pub entry : Entry ms own (λ m later. fours m.occurrences)

-- With the image, in which each module has as many occurrences as in the file.
pub record Peopled (image starts own : List ℕ) (modules : ℕ) : Type 0 where
  pub table : OwnTable own modules
  pub started : length table.ms ≤ length starts
  pub stands :
      (k : ℕ) (m : Module) (later : List Module) → drop k table.ms ≡ m ∷ later
      → (r : Module) × Stands image (get_or starts k 0) (module_numbers r) × (length r.occurrences ≡ length m.occurrences)
  pub few : (k : ℕ) (m : Module) (later : List Module) → drop k table.ms ≡ m ∷ later → length m.occurrences ≤ most_occurrences

-- With the table of nets.
pub record Netted (nets own : List ℕ) (modules : ℕ) : Type 0 where
  pub table : OwnTable own modules
  pub long : length table.ms ≤ length nets
  pub entry : Entry table.ms nets (λ m later. net_count m)
  pub few : (k : ℕ) (m : Module) (later : List Module) → drop k table.ms ≡ m ∷ later → net_count m ≤ most_module_nets

-- The tables of sizes and of what is reached.
pub record Sized (sizes reached : List ℕ) (modules : ℕ) : Type 0 where
  pub ms : List Module
  pub all : modules ≡ length ms
  pub sizes_long : length ms ≤ length sizes
  pub reached_long : length ms ≤ length reached
  pub size : Entry ms sizes (λ m later. body_size (expanded_size later) m.occurrences)
  pub reach : Entry ms reached (λ m later. body_weight four_weight (fours_reached later) m.occurrences)
  pub low : (k : ℕ) → k < length ms → (get_or sizes k 0 ≤ most_size) × (get_or reached k 0 ≤ most_size)
