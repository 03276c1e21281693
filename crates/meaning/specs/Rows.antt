-- A block of value rows at once (request M-102): one module of a file is run on rows of values that are laid end to end in one buffer,
-- and the output rows are given end to end, each as running its row alone gives it.
use Rattle.std.specs.Prelude.{ℕ, zero, suc, ◌*◌, List, [], ◌∷◌, map, eqb, leb, length, take, drop}
use Rattle.meaning.specs.Values.{value, code}
use Rattle.meaning.specs.Syntax.{Module}
use Rattle.meaning.specs.Boxlist.{assoc}
use Rattle.meaning.specs.Layout.{each}
use Rattle.meaning.specs.Evaluation.{evaluate}
use Rattle.meaning.specs.Figures.{room}
use Rattle.meaning.specs.Calls.{Decision, answer, demand, on_file, on_module, first_above, Written}

abbrev pub most_rows : ℕ
most_rows = 1024

-- The rows of a buffer, each of so many values.
unfoldable pub rows_of : (rows width : ℕ) → List ℕ → List (List ℕ)
rows_of zero width values = []
rows_of (suc rows) width values = take width values ∷ rows_of rows width (drop width values)

-- What a module gives on a row.
abbrev pub row_outputs : List Module → (number : ℕ) → List ℕ → List ℕ
row_outputs ms number row = map code (evaluate ms number (map value row))

-- After 18: 27 more rows than 1,024; 19 the buffer isn't rows times inputs; 20 a value that is none, place its index in the whole buffer;
-- 21 as for one row, however many there are; 22 the output buffer is shorter than all output rows.
abbrev pub rows_evaluation_on : (number rows : ℕ) (values : List ℕ) (scratch out : ℕ) (ms : List Module) → Module → Decision Written
rows_evaluation_on number rows values scratch out ms m =
    demand 27 0 (leb rows most_rows)
    (demand 19 0 (eqb (length values) (rows * length m.inputs))
    (demand 20 (first_above values) (eqb (first_above values) (length values))
    (demand 21 0 (leb (room ms number) scratch)
    (demand 22 0 (leb (rows * length m.outputs) out)
    (answer (record { bytes = each (row_outputs ms number) (rows_of rows (length m.inputs) values); cleared = room ms number }))))))

unfoldable pub rows_evaluation : (file : List ℕ) (number rows : ℕ) (values : List ℕ) (scratch out : ℕ) → Decision Written
rows_evaluation file number rows values scratch out =
    on_file file λ ms. on_module (assoc number ms) (rows_evaluation_on number rows values scratch out ms)
