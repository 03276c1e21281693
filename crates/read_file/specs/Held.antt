-- What whoever reads a file knows where the file reads: the numbers are the file's, and where each module begins.
use Rattle.std.specs.Prelude.{ℕ, ◌≤◌, ◌<◌, ◌≡◌, refl, Bool, true, false, cond, List, [], ◌∷◌, ◌++◌, leb, take, drop, get_or, Result, Ok, Err}
use Rattle.std.proofs.Math.Path.{ap}
use Rattle.std.proofs.Common.{sym, ◌∙◌, arith, length-drop, length-take-le}
use Rattle.std.proofs.Math.ListN.{length, length-map, get_or-append, get_or-map}
use Rattle.std.proofs.Math.Seq.{take-append_seam, take-length}
use Rattle.meaning.specs.Lists.{All}
use Rattle.meaning.specs.Syntax.{Module}
use Rattle.meaning.specs.Layout.{each, number_bytes, module_numbers, file_numbers}
use Rattle.meaning.specs.Reading.{Step, got, refused, File, holds, fails, onward, at_end, read, read_count, read_many, read_module, read_modules, most_modules, most_bytes}
use Rattle.meaning.specs.Ceilings.{Bytes, Small}
use Rattle.laws.specs.Reading.{refused_not_got}
use Rattle.refusals.specs.Refused.{refusal_at}
use Rattle.refusals.specs.declared.Refusal.{Refusal}
use Rattle.read_parts.specs.Ways.{ok_not_err}
use Rattle.read_parts.specs.Numbers.{at_most, numbers_in, before, laid}
use Rattle.read_parts.specs.Spelled.{Spells}
use Rattle.read_parts.specs.Exact.{bytes_take, spells-bytes, spells-small}
use Rattle.read_parts.specs.Places.{Front, at-start, before-length}
use Rattle.read_parts.specs.Sound.{Kept, on, ended, one, sound-count, sound-modules, many-length}
use Rattle.read_file.specs.Starts.{behind, begun, numbers_to}
use Rattle.read_file.specs.Placed.{Placed, placed, placed-length, placed_at}
use Rattle.read_file.specs.Answer.{reading_of, numbers_of, offsets_of, starts_of, Decoded}
use Rattle.read_file.specs.declared.Extent.{Extent}

fails_not_holds : {number place : ℕ} {ms : List Module} → fails number place ≡ holds ms → ⊥
fails_not_holds e = let z : ◌≡◌ {A = ℕ} 0 1 = cc in omega arith

-- What an answer says of the file.
pub record IsRead (file : File) (modules numbers : ℕ) : Type 0 where
  pub ms : List Module
  pub is : file ≡ holds ms
  pub modules_are : modules ≡ length ms
  pub numbers_are : numbers ≡ length (file_numbers ms)

pub is_read : {file : File} {extent : Extent} → Ok extent ≡ reading_of file → IsRead file extent.modules extent.numbers
is_read {file = holds ms} {extent} e =
    let same : extent ≡ record { modules = length ms; numbers = length (file_numbers ms) } = cc in
    record { ms = ms; is = refl; modules_are = rw same; numbers_are = rw same }
is_read {file = fails number place} e = absurd (ok_not_err e)

pub is-refused : {file : File} {refusal : Refusal} → Err refusal ≡ reading_of file → file ≡ fails refusal.number refusal.place
is-refused {file = holds ms} e = absurd (ok_not_err (sym e))
is-refused {file = fails number place} {refusal} e =
    let same : refusal ≡ refusal_at number place = cc in
    rw same

-- The step that read the modules, with nothing behind it.
record Step-of (bytes : List ℕ) (ms : List Module) : Type 0 where
  short : leb (length bytes) most_bytes ≡ true
  end : ℕ
  step : read_modules 0 bytes ≡ got ms end []

step_of : (bytes : List ℕ) (ms : List Module) → read bytes ≡ holds ms → Step-of bytes ms
unfolding read
step_of bytes ms = split (leb (length bytes) most_bytes) refl
  where
    at : leb (length bytes) most_bytes ≡ true → (s : Step (List Module)) → read_modules 0 bytes ≡ s → at_end s ≡ holds ms
        → Step-of bytes ms
    at t (got ns q []) is e = let same : ns ≡ ms = cc in record { short = t; end = q; step = rw same at is }
    at t (got ns q (b ∷ rest)) is e = absurd (fails_not_holds e)
    at t (refused k q) is e = absurd (fails_not_holds e)

    split : (t : Bool) → leb (length bytes) most_bytes ≡ t → cond t (at_end (read_modules 0 bytes)) (fails 1 0) ≡ holds ms → Step-of bytes ms
    split true t e = at t (read_modules 0 bytes) refl e
    split false t e = absurd (fails_not_holds e)

-- All bytes are passed, and they hold the file's numbers.
record Ended (bytes : List ℕ) (ms : List Module) : Type 0 where
  front : Front bytes (length bytes)
  numbers : before bytes (length bytes) ≡ file_numbers ms

all-passed : (bytes : List ℕ) (ms : List Module) → read bytes ≡ holds ms → Ended bytes ms
unfolding before numbers_in at_most
all-passed bytes ms file = let s = step_of bytes ms file in at s.end (sound-modules.keeps bytes 0 (at-start bytes)) s.step
  where
    at : (o : ℕ) {s : Step (List Module)} → Kept file_numbers bytes 0 s → s ≡ got ms o [] → Ended bytes ms
    at o (on {a} {q} {rest} w) e =
        let same : a ≡ ms = cc in
        let none : rest ≡ [] = cc in
        let left = sym (length-drop q bytes) ∙ ap length (sym w.left ∙ none) in
        let end : q ≡ length bytes = omega (arith, w.front.within) in
        record { front = rw end at w.front; numbers = rw (end, same) at w.numbers }
    at o ended e = absurd (refused_not_got e)

-- The place behind the count of modules, and where the modules begin from there.
record Opened (bytes : List ℕ) (ms : List Module) : Type 0 where
  first : ℕ
  numbers : before bytes first ≡ length ms ∷ []
  places : Placed bytes first ms (offsets_of bytes)

opened : (bytes : List ℕ) (ms : List Module) → read bytes ≡ holds ms → Opened bytes ms
unfolding read_modules offsets_of behind before numbers_in at_most
opened bytes ms file =
    let s = step_of bytes ms file in
    let short = s.short in
    at s.end (read_count most_modules 0 bytes) refl ((sound-count most_modules).keeps bytes 0 (at-start bytes)) s.step
  where
    at : (o : ℕ) (s : Step ℕ) → read_count most_modules 0 bytes ≡ s → Kept one bytes 0 s
        → onward (read_many read_module) s ≡ got ms o [] → Opened bytes ms
    at o (got n p rest) is (on w) e =
        let left = w.left in
        let modules : read_many read_module n p (drop p bytes) ≡ got ms o [] = rw left at e in
        let count : length ms ≡ n = many-length read_module n p (drop p bytes) ms o [] modules in
        let offsets : offsets_of bytes ≡ begun n p (drop p bytes) = rw ((step_of bytes ms file).short, is, left) in
        record {
          first = p;
          numbers = rw count w.numbers;
          places = rw offsets (placed bytes n p ms o [] w.front modules);
        }
    at o (refused k q) is w e = absurd (refused_not_got e)

-- The numbers in front of a module: the count of modules, and the numbers of the modules in front.
abbrev pub in_front : List Module → ℕ → List ℕ
in_front ms i = length ms ∷ each module_numbers (take i ms)

module _ (bytes : List ℕ) (ms : List Module) (file : read bytes ≡ holds ms) where
  pub holds-numbers : numbers_of bytes ≡ file_numbers ms
  unfolding numbers_of
  holds-numbers = rw file (all-passed bytes ms file).numbers

  pub holds-few : length (file_numbers ms) ≤ length bytes
  holds-few = rw (← (all-passed bytes ms file).numbers) (before-length bytes (length bytes))

  pub holds_spelled : Spells bytes (file_numbers ms)
  holds_spelled = let p = all-passed bytes ms file in rw (take-length bytes, p.numbers) at p.front.spells

  pub holds-small : Bytes bytes → All Small (file_numbers ms)
  holds-small h = spells-small holds_spelled h

  pub offsets_length : length (offsets_of bytes) ≡ length ms
  offsets_length = placed-length (opened bytes ms file).places

  pub starts_length : length (starts_of bytes) ≡ length ms
  unfolding starts_of
  starts_length = length-map (offsets_of bytes) (numbers_to bytes) ∙ offsets_length

  module _ (i : ℕ) (h : i < length ms) where
    before_module : before bytes (get_or (offsets_of bytes) i 0) ≡ in_front ms i
    before_module =
        let o = opened bytes ms file in
        (placed_at o.places i h).numbers ∙ ap (λ (t : List ℕ). t ++ each module_numbers (take i ms)) o.numbers

    pub start-at : get_or (starts_of bytes) i 0 ≡ length (in_front ms i)
    unfolding starts_of before numbers_in at_most
    start-at = get_or-map (numbers_to bytes) (offsets_of bytes) i 0 ∙ ap length before_module

    pub offset_at : Bytes bytes → get_or (offsets_of bytes) i 0 ≡ length (each number_bytes (in_front ms i))
    offset_at b =
        let p : ℕ = get_or (offsets_of bytes) i 0 in
        let front = (placed_at (opened bytes ms file).places i h).front in
        let spelled : take p bytes ≡ each number_bytes (in_front ms i) =
        spells-bytes front.spells (bytes_take p b) ∙ ap (λ (t : List ℕ). each number_bytes t) before_module
        in
        sym (length-take-le p bytes front.within) ∙ ap length spelled

-- What the lent lists hold once a file has been read.
pub record Held (bytes : List ℕ) (ms : List Module) (numbers starts offsets : List ℕ) : Type 0 where
  pub numbers_are : take (length (file_numbers ms)) numbers ≡ file_numbers ms
  pub starts_are : (i : ℕ) → i < length ms → get_or starts i 0 ≡ length (in_front ms i)
  pub offsets_are : (i : ℕ) → i < length ms → get_or offsets i 0 ≡ length (each number_bytes (in_front ms i))
  pub few : length (file_numbers ms) ≤ length bytes

laid-front : (xs old : List ℕ) (i : ℕ) → i < length xs → get_or (laid xs old) i 0 ≡ get_or xs i 0
laid-front xs old i h = get_or-append xs (drop (length xs) old) 0 i h

pub held : {bytes numbers numbers' starts starts' offsets offsets' : List ℕ} {reading : Result Extent Refusal} {ms : List Module}
    → Bytes bytes → Decoded bytes numbers numbers' starts starts' offsets offsets' reading → read bytes ≡ holds ms
    → Held bytes ms numbers' starts' offsets'
held {bytes} {numbers} {starts} {offsets} {ms} b d file =
    record {
      numbers_are = rw (d.numbers_laid, holds-numbers bytes ms file, take-append_seam);
      starts_are = λ i h.
          let l = starts_length bytes ms file in
          rw (d.starts_laid, laid-front (starts_of bytes) starts i (omega arith)) (start-at bytes ms file i h);
      offsets_are = λ i h.
          let l = offsets_length bytes ms file in
          rw (d.offsets_laid, laid-front (offsets_of bytes) offsets i (omega arith)) (offset_at bytes ms file i h b);
      few = holds-few bytes ms file;
    }
