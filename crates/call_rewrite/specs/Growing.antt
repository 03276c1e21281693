-- What the rewriting rests on: the ceilings of the new file, and the file's own numbers.
use Rattle.std.specs.Prelude.{ℕ, ◌≤◌, ◌<◌, ◌≡◌, true, Result, Ok, Err, List, leb, length, get_or}
use Rattle.meaning.specs.Syntax.{Module}
use Rattle.meaning.specs.Limits.{body_size, expanded_size}
use Rattle.meaning.specs.Layout.{each, number_bytes, file_numbers, encode}
use Rattle.meaning.specs.Reading.{holds, read, most_bytes, most_modules}
use Rattle.meaning.specs.Calls.{Decision, refusal, demand, Written, fitting}
use Rattle.meaning.specs.Verdict.{good}
use Rattle.meaning.specs.Withdrawn.{withdrawn_verdict, rewrite_file, occurrences_ok, rewritten}
use Rattle.laws.specs.WellFormed.{Accepted}
use Rattle.laws.specs.Withdrawn.Suits.{fours}
use Rattle.read_file.specs.Held.{in_front}
use Rattle.open_finding.specs.Standing.{Held}
use Rattle.open_beside.specs.Beside.{OpenedBeside}
use Rattle.rewrite_counts.specs.Ceilings.{Entry}
use Rattle.refusals.specs.declared.Refusal.{Refusal}
use Rattle.call_rewrite.specs.declared.deciding.Decided.{Decided}
use Rattle.call_rewrite.specs.declared.deciding.Decided.TheVariants.{Stays, Go}

-- The end of the decision, 1 and 22.
abbrev pub finished : (new : List Module) (out : ℕ) → Decision Written
finished new out = demand 1 0 (leb (length (encode new)) most_bytes) (fitting (encode new) 0 out)

-- A file that stands in the image, the sizes of its modules, and a table with an entry for each.
pub record Grown (image starts nets sizes : List ℕ) (modules own : ℕ) : Type 0 where
  pub ms : List Module
  pub held : Held image starts nets ms
  pub all : modules ≡ length ms
  pub sizes_long : length ms ≤ length sizes
  pub sizes_are : Entry ms sizes (λ m later. body_size (expanded_size later) m.occurrences)
  pub own_long : most_modules ≤ own

-- No module uses one of the four gates; or the new file breaks one of the ceilings 4, 16 and 17; or it keeps them and the end decides.
abbrev pub DecidedOf : List Module → Result Decided Refusal → Type 0
DecidedOf ms (Ok Stays) = withdrawn_verdict 0 ms ≡ good
DecidedOf ms (Ok Go) = (occurrences_ok (rewrite_file ms) ≡ true) × ((out : ℕ) → rewritten out (rewrite_file ms) ≡ finished (rewrite_file ms) out)
DecidedOf ms (Err r) = (out : ℕ) → rewritten out (rewrite_file ms) ≡ refusal r.number r.place

pub record Decides (ms : List Module) (own : List ℕ) (r : Result Decided Refusal) : Type 0 where
  pub says : DecidedOf ms r
  pub owned : Entry ms own (λ m later. fours m.occurrences)

-- An accepted file whose new one keeps these ceilings: its numbers, where its modules begin in them and in its bytes, and how many of the
-- four gates each has.
pub record Keeping (file numbers starts offsets : List ℕ) (modules : ℕ) (own : List ℕ) : Type 0 where
  pub ms : List Module
  pub reads : read file ≡ holds ms
  pub all : modules ≡ length ms
  pub accepted : Accepted ms
  pub few : occurrences_ok (rewrite_file ms) ≡ true
  pub numbers_are : numbers ≡ file_numbers ms
  pub starts_are : (j : ℕ) → j < length ms → get_or starts j 0 ≡ length (in_front ms j)
  pub offsets_are : (j : ℕ) → j < length ms → get_or offsets j 0 ≡ length (each number_bytes (in_front ms j))
  pub owned : Entry ms own (λ m later. fours m.occurrences)
  pub starts_long : length ms ≤ length starts
  pub offsets_long : most_modules < length offsets
  pub own_long : most_modules ≤ length own

-- A file that was made ready, its numbers beside the image, with a place more than there are modules.
pub record Readied (file numbers : List ℕ) (count : ℕ) (offsets image starts nets sizes : List ℕ) (modules : ℕ) : Type 0 where
  pub names : List ℕ
  pub rooms : List ℕ
  pub beside : OpenedBeside file modules count numbers offsets image starts names nets sizes rooms
  pub offsets_long : most_modules < length offsets
