-- Stages and kinds of bytes as numbers: a stage without what was read, and the table by which the code goes on.
use Rattle.std.specs.Prelude.{ℕ, Bool, true, false, List, [], ◌∷◌, get_or}
use Rattle.meaning.specs.ListForm.{Sign, mark, opening, closing, stray, Kind, letter, space, Kind.sign as sign_kind, Part, sign, atom}
use Rattle.meaning.specs.ListReader.{list_due, modules, name_due, inputs_due, inputs, outputs_due, outputs, body_due, body, drives_due, drives, call_due, refers_due, takes, occurrence_end, module_end, Stand, start, at, finished, astray}

abbrev pub sign_code : Sign → ℕ
sign_code mark = 0
sign_code opening = 1
sign_code closing = 2
sign_code stray = 3

abbrev pub part_code : Part → ℕ
part_code (sign s) = sign_code s
part_code (atom a) = 4

abbrev pub kind_code : Kind → ℕ
kind_code letter = 4
kind_code space = 5
kind_code (sign_kind s) = sign_code s

abbrev pub mode_of : Stand → ℕ
mode_of start = 0
mode_of (at list_due) = 1
mode_of (at (modules ms)) = 2
mode_of (at (name_due ms)) = 3
mode_of (at (inputs_due ms n)) = 4
mode_of (at (inputs ms n i)) = 5
mode_of (at (outputs_due ms n i)) = 6
mode_of (at (outputs ms n i o)) = 7
mode_of (at (body_due ms n i o)) = 8
mode_of (at (body ms n i o cs)) = 9
mode_of (at (drives_due ms n i o cs)) = 10
mode_of (at (drives ms n i o cs d)) = 11
mode_of (at (call_due ms n i o cs d)) = 12
mode_of (at (refers_due ms n i o cs d)) = 13
mode_of (at (takes ms n i o cs d r t)) = 14
mode_of (at (occurrence_end ms n i o cs d r t)) = 15
mode_of (at (module_end ms n i o cs)) = 16
mode_of (finished ms) = 17
mode_of astray = 18

abbrev pub is_finished : Stand → Bool
is_finished start = false
is_finished (at s) = false
is_finished (finished ms) = true
is_finished astray = false

-- The stage that each part leads to from each stage.
unfoldable pub modes : List (List ℕ)
modes =
    (1 ∷ 2 ∷ 18 ∷ 18 ∷ 18 ∷ [])
    ∷ (18 ∷ 2 ∷ 18 ∷ 18 ∷ 18 ∷ [])
    ∷ (18 ∷ 3 ∷ 17 ∷ 18 ∷ 18 ∷ [])
    ∷ (18 ∷ 18 ∷ 18 ∷ 18 ∷ 4 ∷ [])
    ∷ (18 ∷ 5 ∷ 18 ∷ 18 ∷ 18 ∷ [])
    ∷ (18 ∷ 18 ∷ 6 ∷ 18 ∷ 5 ∷ [])
    ∷ (18 ∷ 7 ∷ 18 ∷ 18 ∷ 18 ∷ [])
    ∷ (18 ∷ 18 ∷ 8 ∷ 18 ∷ 7 ∷ [])
    ∷ (18 ∷ 9 ∷ 18 ∷ 18 ∷ 18 ∷ [])
    ∷ (18 ∷ 10 ∷ 16 ∷ 18 ∷ 18 ∷ [])
    ∷ (18 ∷ 11 ∷ 18 ∷ 18 ∷ 18 ∷ [])
    ∷ (18 ∷ 18 ∷ 12 ∷ 18 ∷ 11 ∷ [])
    ∷ (18 ∷ 13 ∷ 18 ∷ 18 ∷ 18 ∷ [])
    ∷ (18 ∷ 18 ∷ 18 ∷ 18 ∷ 14 ∷ [])
    ∷ (18 ∷ 18 ∷ 15 ∷ 18 ∷ 14 ∷ [])
    ∷ (18 ∷ 18 ∷ 9 ∷ 18 ∷ 18 ∷ [])
    ∷ (18 ∷ 18 ∷ 2 ∷ 18 ∷ 18 ∷ [])
    ∷ (18 ∷ 18 ∷ 18 ∷ 18 ∷ 18 ∷ [])
    ∷ (18 ∷ 18 ∷ 18 ∷ 18 ∷ 18 ∷ []) ∷ []

-- The mode that a part leads to.
unfoldable pub mode_after : (mode part : ℕ) → ℕ
mode_after mode part = get_or (get_or modes mode []) part 18
