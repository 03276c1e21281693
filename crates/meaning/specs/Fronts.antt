-- What may stand in a file in front of a number that is due there, with the ceiling of that number: a count's own, else 16,383. Each
-- thing of a file has its fronts, in the words of the layout. And what may stand there instead of the number. Nothing here reads.
use Rattle.std.specs.Prelude.{ℕ, ◌≤◌, ◌<◌, ◌⊎◌, ◌≡◌, List, [], ◌∷◌, ◌++◌, length}
use Rattle.meaning.specs.Lists.{All}
use Rattle.meaning.specs.Syntax.{Occurrence, Module}
use Rattle.meaning.specs.Layout.{each, list_numbers, occurrence_numbers, module_numbers, number_bytes}
use Rattle.meaning.specs.Reading.{most_modules, most_nets, most_occurrences}
use Rattle.meaning.specs.Ceilings.{most_number, Small, NetsWithin, OccurrenceWithin, ModuleWithin}

-- Of each: the numbers in front, and the ceiling of the one that is due. Count and list.
pub data NetsFront : List ℕ → ℕ → Type 0 where
  count : NetsFront [] most_nets
  net : {n : ℕ} {nets : List ℕ} → n ≤ most_nets → All Small nets → length nets < n → NetsFront (n ∷ nets) most_number

-- Count and list of nets that it drives; the number it refers to; count and list of argument nets.
pub data OccurrenceFront : List ℕ → ℕ → Type 0 where
  drives : {before : List ℕ} {most : ℕ} → NetsFront before most → OccurrenceFront before most
  refers : {driven : List ℕ} → NetsWithin driven → OccurrenceFront (list_numbers driven) most_number
  takes :
      {driven before : List ℕ} {reference most : ℕ}
      → NetsWithin driven
      → Small reference
      → NetsFront before most
      → OccurrenceFront (list_numbers driven ++ (reference ∷ before)) most

-- Its number; count and list of inputs; count and list of outputs; count and list of occurrences.
pub data ModuleFront : List ℕ → ℕ → Type 0 where
  number : ModuleFront [] most_number
  inputs : {n most : ℕ} {before : List ℕ} → Small n → NetsFront before most → ModuleFront (n ∷ before) most
  outputs :
      {n most : ℕ} {ins before : List ℕ}
      → Small n
      → NetsWithin ins
      → NetsFront before most
      → ModuleFront (n ∷ (list_numbers ins ++ before)) most
  count :
      {n : ℕ} {ins outs : List ℕ}
      → Small n
      → NetsWithin ins
      → NetsWithin outs
      → ModuleFront (n ∷ (list_numbers ins ++ list_numbers outs)) most_occurrences
  occurrence :
      {n k most : ℕ} {ins outs before : List ℕ} {os : List Occurrence}
      → Small n
      → NetsWithin ins
      → NetsWithin outs
      → k ≤ most_occurrences
      → All OccurrenceWithin os
      → length os < k
      → OccurrenceFront before most
      → ModuleFront (n ∷ (list_numbers ins ++ (list_numbers outs ++ (k ∷ (each occurrence_numbers os ++ before))))) most

-- The count of modules, then the modules.
pub data FileFront : List ℕ → ℕ → Type 0 where
  count : FileFront [] most_modules
  in_module :
      {k most : ℕ} {before : List ℕ} {ms : List Module}
      → k ≤ most_modules
      → All ModuleWithin ms
      → length ms < k
      → ModuleFront before most
      → FileFront (k ∷ (each module_numbers ms ++ before)) most

-- Bytes that are no number, with the refusal: its number, and how many bytes behind the first byte of the number it is given.
pub data IllFormed : List ℕ → (number behind : ℕ) → Type 0 where
  -- 2: the file ends where a byte is due, the first of the number or its second.
  nothing : IllFormed [] 2 0
  half : {first : ℕ} → 128 ≤ first → IllFormed (first ∷ []) 2 1
  -- 3: the second byte is 0, or 128 or more.
  bad_second :
      {first second : ℕ} {rest : List ℕ} → 128 ≤ first → (second ≡ 0) ⊎ (128 ≤ second) → IllFormed (first ∷ second ∷ rest) 3 0

-- What stands where a number up to a ceiling is due, and is none.
pub data Unread (most : ℕ) : List ℕ → (number behind : ℕ) → Type 0 where
  ill_formed : {rest : List ℕ} {number behind : ℕ} → IllFormed rest number behind → Unread most rest number behind
  -- 4: a count is over its ceiling.
  over : (n : ℕ) (rest : List ℕ) → most < n → Small n → Unread most (number_bytes n ++ rest) 4 0
