-- A file as a text in the published list form (request M-100). Its modules stand in file order as lists; a module is named M and its number,
-- a net N and its number, a gate has its name; each occurrence has a line of its own:
--
--     ((M18 (N0 N1) (N2 N3)
--       (((N2) (B-XOR N0 N1))
--        ((N3) (B-AND N0 N1))))
--      (M19 (N0) (N1)
--       (((N1) (B-NOT N0)))))
--
-- An empty list is `()`, and so is a file of no modules. The text ends with a line feed. Signs stand here as their bytes: 40 and 41 are the
-- brackets, 77 is M.
use Rattle.std.specs.Prelude.{ℕ, cond, List, [], ◌∷◌, ◌++◌, get_or}
use Rattle.meaning.specs.Syntax.{Occurrence, Module}
use Rattle.meaning.specs.Gates.{is_gate}
use Rattle.meaning.specs.Layout.{each}
use Rattle.meaning.specs.Listing.{space, line_feed, decimal}
use Rattle.meaning.specs.Calls.{Decision, Written, on_file, fitting}
use Rattle.meaning.specs.Ndl.{net_text}
use Rattle.meaning.specs.ListForm.{Name}
use Rattle.meaning.specs.ListNumbers.{gate_names}

-- What a list's entries are written as, with the same bytes between any two.
unfoldable pub parted : {A : Type 0} → (between : List ℕ) → (A → List ℕ) → List A → List ℕ
parted between text [] = []
parted between text (x ∷ xs) = text x ++ each (λ y. between ++ text y) xs

-- `N0 N1`
abbrev pub nets_line : List ℕ → List ℕ
nets_line = parted (space ∷ []) net_text

-- `M18`, or the gate's name.
abbrev pub module_name : ℕ → Name
module_name number = 77 ∷ decimal number

unfoldable pub name_of : ℕ → Name
name_of number = cond (is_gate number) (get_or gate_names number []) (module_name number)

-- `((N2) (B-XOR N0 N1))`
unfoldable pub occurrence_list : Occurrence → List ℕ
occurrence_list o =
    40 ∷ 40 ∷ (nets_line o.drives
    ++ (41 ∷ space ∷ 40 ∷ (name_of o.refers
    ++ (each (λ net. space ∷ net_text net) o.takes
    ++ (41 ∷ 41 ∷ [])))))

-- A line end, and the spaces that the next occurrence or module is set in by.
abbrev pub occurrence_break : List ℕ
occurrence_break = line_feed ∷ space ∷ space ∷ space ∷ []

abbrev pub module_break : List ℕ
module_break = line_feed ∷ space ∷ []

-- `(M18 (N0 N1) (N2 N3)` and a line end, and then the list of occurrences.
unfoldable pub module_list : Module → List ℕ
module_list m =
    40 ∷ (module_name m.number
    ++ (space ∷ 40 ∷ (nets_line m.inputs
    ++ (41 ∷ space ∷ 40 ∷ (nets_line m.outputs
    ++ (41 ∷ line_feed ∷ space ∷ space ∷ 40 ∷ (parted occurrence_break occurrence_list m.occurrences
    ++ (41 ∷ 41 ∷ []))))))))

-- The whole text.
unfoldable pub list_text : List Module → List ℕ
list_text ms = 40 ∷ (parted module_break module_list ms ++ (41 ∷ line_feed ∷ []))

-- 22, once the file is accepted.
abbrev pub printing_of : (out : ℕ) → List Module → Decision Written
printing_of out ms = fitting (list_text ms) 0 out

-- The call that prints a file: refusals 1 to 17 first.
unfoldable pub list_printing : (file : List ℕ) (out : ℕ) → Decision Written
list_printing file out = on_file file (printing_of out)
