-- What a module's numbers are made of where its nets are numbered in rows.
use Rattle.std.specs.Prelude.{ℕ, List, [], ◌∷◌, ◌++◌}
use Rattle.meaning.specs.Syntax.{Occurrence}
use Rattle.meaning.specs.Layout.{list_numbers}
use Rattle.meaning.specs.Adder.{up_from}

-- The numbers in front of a module's occurrences: its number, its inputs, its outputs and the count of its occurrences.
unfoldable pub head_numbers : (number : ℕ) (inputs outputs : List ℕ) (occurrences : ℕ) → List ℕ
head_numbers number inputs outputs occurrences =
    number ∷ (list_numbers inputs ++ (list_numbers outputs ++ (occurrences ∷ [])))

-- A reference that drives a row of nets and takes a row of nets: where each row begins, and how many nets it has.
abbrev pub row_to_row : (drives driven refers takes taken : ℕ) → Occurrence
row_to_row drives driven refers takes taken =
    record { drives = up_from drives driven; refers = refers; takes = up_from takes taken }
