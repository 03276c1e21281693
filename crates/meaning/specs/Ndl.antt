-- Listings for the board maker (request M-112): a file in the Network Description Language that document 002 shows.
-- Every byte of the text from the modules and the sixteen gate names that are lent; which names are good; and the refusals.
-- docs/NDL.md shows the text; words stand here as their bytes.
use Rattle.std.specs.Prelude.{ℕ, zero, suc, ◌*◌, Bool, true, false, not, cond, ◌&&◌, ◌||◌, List, [], ◌∷◌, ◌++◌, eqb, leb, length, take, drop}
use Rattle.meaning.specs.Syntax.{Occurrence, Module}
use Rattle.meaning.specs.Gates.{is_gate}
use Rattle.meaning.specs.Layout.{each}
use Rattle.meaning.specs.Listing.{space, decimal}
use Rattle.meaning.specs.Calls.{Decision, Written, on_file, demand, fitting}

-- The sixteen gate names in order, 8 bytes each.
abbrev pub name_at : (names : List ℕ) → ℕ → List ℕ
name_at names k = take 8 (drop (8 * k) names)

-- A name is what stands in front of its first space.
unfoldable pub letters : List ℕ → List ℕ
letters [] = []
letters (b ∷ bs) = cond (eqb b space) [] (b ∷ letters bs)

abbrev pub is_space : ℕ → Bool
is_space b = eqb b space

abbrev pub is_digit : ℕ → Bool
is_digit b = leb 48 b && leb b 57

abbrev pub is_capital_or_digit : ℕ → Bool
is_capital_or_digit b = (leb 65 b && leb b 90) || is_digit b

unfoldable pub every : (ℕ → Bool) → List ℕ → Bool
every p [] = true
every p (b ∷ bs) = p b && every p bs

-- An M and one or more digits, as modules are named.
abbrev pub like_module : List ℕ → Bool
like_module [] = false
like_module (b ∷ []) = false
like_module (b ∷ d ∷ ds) = eqb b 77 && every is_digit (d ∷ ds)

-- 1 to 8 capitals or digits, then spaces; none an M and one or more digits.
unfoldable pub good_name : List ℕ → Bool
good_name name =
    leb 1 (length (letters name))
    && every is_capital_or_digit (letters name)
    && every is_space (drop (length (letters name)) name)
    && not (like_module (letters name))

-- Two names of 8 bytes are the same.
unfoldable pub same_name : List ℕ → List ℕ → Bool
same_name [] [] = true
same_name [] (y ∷ ys) = false
same_name (x ∷ xs) [] = false
same_name (x ∷ xs) (y ∷ ys) = eqb x y && same_name xs ys

-- A name is among the first so many.
unfoldable pub used_in : (names : List ℕ) (count : ℕ) (name : List ℕ) → Bool
used_in names zero name = false
used_in names (suc k) name = same_name (name_at names k) name || used_in names k name

-- The first name from one on that is bad or used before; where none of so many is, the place behind them.
unfoldable pub first_bad_from : (names : List ℕ) (k count : ℕ) → ℕ
first_bad_from names k zero = k
first_bad_from names k (suc count) =
    cond (good_name (name_at names k) && not (used_in names k (name_at names k))) (first_bad_from names (suc k) count) k

unfoldable pub first_bad : List ℕ → ℕ
first_bad names = first_bad_from names 0 16

-- A net is N and its number, a module M and its number, a gate its name.
abbrev pub net_text : ℕ → List ℕ
net_text net = 78 ∷ decimal net

unfoldable pub reference_text : (names : List ℕ) → ℕ → List ℕ
reference_text names number = cond (is_gate number) (letters (name_at names number)) (77 ∷ decimal number)

-- Nets with a comma in front of each but the first.
abbrev pub after_comma : ℕ → List ℕ
after_comma net = 44 ∷ net_text net

unfoldable pub nets_text : List ℕ → List ℕ
nets_text [] = []
nets_text (net ∷ nets) = net_text net ++ each after_comma nets

-- `;` and a line feed.
abbrev pub line_end : List ℕ
line_end = 59 ∷ 10 ∷ []

-- A keyword and its nets on a line. An empty list is the keyword and the semicolon.
unfoldable pub keyword_line : (keyword nets : List ℕ) → List ℕ
keyword_line keyword [] = keyword ++ line_end
keyword_line keyword (net ∷ nets) = keyword ++ (space ∷ (nets_text (net ∷ nets) ++ line_end))

-- `G0(N2) = OR2(N0,N1);`: an occurrence at its position in the module.
unfoldable pub occurrence_text : (names : List ℕ) (position : ℕ) → Occurrence → List ℕ
occurrence_text names position o =
    71 ∷ (decimal position
    ++ (40 ∷ (nets_text o.drives
    ++ (41 ∷ 32 ∷ 61 ∷ 32 ∷ (reference_text names o.refers
    ++ (40 ∷ (nets_text o.takes
    ++ (41 ∷ line_end))))))))

unfoldable pub occurrences_text : (names : List ℕ) (position : ℕ) → List Occurrence → List ℕ
occurrences_text names position [] = []
occurrences_text names position (o ∷ os) = occurrence_text names position o ++ occurrences_text names (suc position) os

-- `MODULE `, `INPUTS`, `OUTPUTS`.
abbrev pub module_word : List ℕ
module_word = 77 ∷ 79 ∷ 68 ∷ 85 ∷ 76 ∷ 69 ∷ 32 ∷ []

abbrev pub inputs_word : List ℕ
inputs_word = 73 ∷ 78 ∷ 80 ∷ 85 ∷ 84 ∷ 83 ∷ []

abbrev pub outputs_word : List ℕ
outputs_word = 79 ∷ 85 ∷ 84 ∷ 80 ∷ 85 ∷ 84 ∷ 83 ∷ []

-- The lines `LEVEL FUNCTION;` and `DEFINE`.
abbrev pub define_lines : List ℕ
define_lines =
    76 ∷ 69 ∷ 86 ∷ 69 ∷ 76 ∷ 32 ∷ 70 ∷ 85 ∷ 78 ∷ 67 ∷ 84 ∷ 73 ∷ 79 ∷ 78 ∷ 59 ∷ 10
    ∷ 68 ∷ 69 ∷ 70 ∷ 73 ∷ 78 ∷ 69 ∷ 10 ∷ []

-- The line `END MODULE;` and an empty line.
abbrev pub end_module_lines : List ℕ
end_module_lines = 69 ∷ 78 ∷ 68 ∷ 32 ∷ 77 ∷ 79 ∷ 68 ∷ 85 ∷ 76 ∷ 69 ∷ 59 ∷ 10 ∷ 10 ∷ []

unfoldable pub module_text : (names : List ℕ) → Module → List ℕ
module_text names m =
    module_word ++ ((77 ∷ decimal m.number)
    ++ (line_end
    ++ (keyword_line inputs_word m.inputs
    ++ (keyword_line outputs_word m.outputs
    ++ (define_lines
    ++ (occurrences_text names 0 m.occurrences
    ++ end_module_lines))))))

-- The lines `COMPILE;` and `DIRECTORY MASTER;` and an empty line.
abbrev pub compile_lines : List ℕ
compile_lines =
    67 ∷ 79 ∷ 77 ∷ 80 ∷ 73 ∷ 76 ∷ 69 ∷ 59 ∷ 10
    ∷ 68 ∷ 73 ∷ 82 ∷ 69 ∷ 67 ∷ 84 ∷ 79 ∷ 82 ∷ 89 ∷ 32 ∷ 77 ∷ 65 ∷ 83 ∷ 84 ∷ 69 ∷ 82 ∷ 59 ∷ 10
    ∷ 10 ∷ []

-- The lines `END COMPILE;` and `END;`.
abbrev pub end_lines : List ℕ
end_lines = 69 ∷ 78 ∷ 68 ∷ 32 ∷ 67 ∷ 79 ∷ 77 ∷ 80 ∷ 73 ∷ 76 ∷ 69 ∷ 59 ∷ 10 ∷ 69 ∷ 78 ∷ 68 ∷ 59 ∷ 10 ∷ []

-- The whole text: one MODULE block each, in file order.
unfoldable pub ndl_text : (names : List ℕ) → List Module → List ℕ
ndl_text names ms = compile_lines ++ (each (module_text names) ms ++ end_lines)

-- 29: not 128 bytes, at 0, or a name bad or used before, at the first such; 22.
unfoldable pub ndl_on : (names : List ℕ) (out : ℕ) → List Module → Decision Written
ndl_on names out ms =
    demand 29 0 (eqb (length names) 128)
    (demand 29 (first_bad names) (eqb (first_bad names) 16)
    (fitting (ndl_text names ms) 0 out))

-- Refusals 1 to 17 first.
unfoldable pub ndl_listing : (file names : List ℕ) (out : ℕ) → Decision Written
ndl_listing file names out = on_file file (ndl_on names out)
