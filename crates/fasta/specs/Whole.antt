-- Reading byte by byte comes to what the file's records come to, and a file may be read in any blocks.
use Rattle.std.specs.Prelude.{◌≡◌, ℕ, Bool, true, false, List, [], ◌∷◌, ◌++◌, ◌==◌}
use Rattle.std.proofs.Math.Path.{refl, ap}
use Rattle.std.proofs.Common.{sym, ◌∙◌, append-nil, append_assoc}
use Rattle.fasta.specs.Records.{ends_line, header_mark, first_line, other_lines, lines_of, Records, bases_then, records_in, all_of, records_of}
use Rattle.fasta.specs.Sums.{Sums, after_record, after_records, file_sums}
use Rattle.fasta.specs.Steps.{State, start, stepped, steps, ended}
use Rattle.fasta.specs.declared.lines.Line.{Line}
use Rattle.fasta.specs.declared.lines.Line.TheVariants.{Fresh, Bases, Header}

pub in_blocks : (n : ℕ) (s : State) (block rest : List ℕ) → steps n s (block ++ rest) ≡ steps n (steps n s block) rest
unfolding steps
in_blocks n s [] rest = refl
in_blocks n s (byte ∷ block) rest = in_blocks n (stepped n s byte) block rest

-- The records of a text whose first line goes on with one that stands before it.
abbrev records_from : Line → (text : List ℕ) → Records
records_from Fresh text = records_in (lines_of text)
records_from Bases text = bases_then (first_line (lines_of text)) (records_in (other_lines (lines_of text)))
records_from Header text = records_in (other_lines (lines_of text))

-- What a file comes to that goes on with a text.
abbrev going : (n : ℕ) (line : Line) (bases : List ℕ) (sums : Sums) (text : List ℕ) → Sums
going n line bases sums text = after_records n (all_of (bases_then bases (records_from line text))) sums

abbrev going_from : (n : ℕ) → State → List ℕ → Sums
going_from n s text = going n s.line s.bases s.sums text

module _ (n : ℕ) (bases : List ℕ) (sums : Sums) where
  over : (line : Line) → after_record n bases sums ≡ going n line bases sums []
  unfolding lines_of records_in after_records
  over Fresh = ap (λ (l : List ℕ). after_record n l sums) (sym (append-nil bases))
  over Bases = ap (λ (l : List ℕ). after_record n l sums) (sym (append-nil bases))
  over Header = ap (λ (l : List ℕ). after_record n l sums) (sym (append-nil bases))

module _ (n : ℕ) (bases : List ℕ) (sums : Sums) (b : ℕ) (text : List ℕ) where
  line-ends : ends_line b ≡ true → (line : Line)
      → going_from n (stepped n (record { line = line; bases = bases; sums = sums }) b) text ≡ going n line bases sums (b ∷ text)
  unfolding lines_of records_in
  line-ends e Fresh = rw e
  line-ends e Bases = rw e
  line-ends e Header = rw e

  -- A base behind those of the record.
  base_more : (rest : List ℕ) (headed : List (List ℕ))
      → after_records n (((bases ++ (b ∷ [])) ++ rest) ∷ headed) sums ≡ after_records n ((bases ++ (b ∷ rest)) ∷ headed) sums
  base_more rest headed = ap (λ (l : List ℕ). after_records n (l ∷ headed) sums) (append_assoc bases (b ∷ []) rest)

  line-begins : ends_line b ≡ false → (h : Bool) → (b == header_mark) ≡ h
      → going_from n (stepped n (record { line = Fresh; bases = bases; sums = sums }) b) text ≡ going n Fresh bases sums (b ∷ text)
  unfolding lines_of records_in after_records
  line-begins e true h = rw (e, h) (ap (λ (l : List ℕ). after_records n (all_of (records_in (other_lines (lines_of text)))) (after_record n l sums)) (sym (append-nil bases)))
  line-begins e false h =
      let behind = records_in (other_lines (lines_of text)) in
      rw (e, h) (base_more (first_line (lines_of text) ++ behind.front) behind.headed)

  line-goes : ends_line b ≡ false → (line : Line)
      → going_from n (stepped n (record { line = line; bases = bases; sums = sums }) b) text ≡ going n line bases sums (b ∷ text)
  unfolding lines_of records_in
  line-goes e Fresh = line-begins e (b == header_mark) refl
  line-goes e Bases = rw e (base_more _ _)
  line-goes e Header = rw e

  one_byte : (ends : Bool) → ends_line b ≡ ends → (line : Line)
      → going_from n (stepped n (record { line = line; bases = bases; sums = sums }) b) text ≡ going n line bases sums (b ∷ text)
  one_byte true e line = line-ends e line
  one_byte false e line = line-goes e line

goes : (n : ℕ) (s : State) (text : List ℕ) → ended n (steps n s text) ≡ going_from n s text
unfolding steps
goes n s [] = over n s.bases s.sums s.line
goes n s (b ∷ text) = goes n (stepped n s b) text ∙ one_byte n s.bases s.sums b text (ends_line b) refl s.line

pub whole-file : (n : ℕ) (file : List ℕ) → ended n (steps n start file) ≡ file_sums n file
unfolding file_sums records_of
whole-file n file = goes n start file
