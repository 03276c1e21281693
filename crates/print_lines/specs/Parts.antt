-- The parts that an occurrence's text and a module's are put together from.
use Rattle.std.specs.Prelude.{ℕ, ◌≡◌, refl, List, [], ◌∷◌, ◌++◌}
use Rattle.std.proofs.Common.{ap, sym, append_assoc}
use Rattle.meaning.specs.Syntax.{Occurrence, Module}
use Rattle.meaning.specs.Layout.{each}
use Rattle.meaning.specs.Listing.{decimal}
use Rattle.meaning.specs.ListPrint.{parted, nets_line, module_name, name_of, occurrence_break, occurrence_list, module_list}
use Rattle.ndl_pieces.specs.Apart.{signed, apart}

-- Nets are apart by spaces.
pub with_spaces : (nets : List ℕ) → apart 32 nets ≡ nets_line nets
unfolding apart parted
with_spaces [] = refl
with_spaces (n ∷ nets) = refl

abbrev pub behind_driven : List ℕ
behind_driven = 41 ∷ 32 ∷ 40 ∷ []

-- `((N2) (`
abbrev pub driven_part : (drives : List ℕ) → List ℕ
driven_part drives = (40 ∷ 40 ∷ []) ++ (apart 32 drives ++ behind_driven)

-- `B-XOR N0 N1))`
abbrev pub taken_part : (refers : ℕ) (takes : List ℕ) → List ℕ
taken_part refers takes = name_of refers ++ (each (signed 32) takes ++ (41 ∷ 41 ∷ []))

pub occurrence-of-parts : (o : Occurrence) → occurrence_list o ≡ driven_part o.drives ++ taken_part o.refers o.takes
unfolding occurrence_list
occurrence-of-parts o =
    rw (with_spaces o.drives)
    (ap (λ l. 40 ∷ 40 ∷ l) (sym (append_assoc (nets_line o.drives) behind_driven (taken_part o.refers o.takes))))

-- `(M18 (`
abbrev pub title_part : (number : ℕ) → List ℕ
title_part number = (40 ∷ []) ++ (module_name number ++ (32 ∷ 40 ∷ []))

abbrev pub behind_outputs : List ℕ
behind_outputs = 41 ∷ 10 ∷ 32 ∷ 32 ∷ 40 ∷ []

-- What stands in front of the occurrences.
abbrev pub head_part : (number : ℕ) (inputs outputs : List ℕ) → List ℕ
head_part number inputs outputs = title_part number ++ (apart 32 inputs ++ (behind_driven ++ (apart 32 outputs ++ behind_outputs)))

regrouped : (number title inputs between outputs end rest : List ℕ)
    → ((number ++ title) ++ (inputs ++ (between ++ (outputs ++ end)))) ++ rest ≡ number ++ (title ++ (inputs ++ (between ++ (outputs ++ (end ++ rest)))))
regrouped number title inputs between outputs end rest = simp append_assoc

pub module_of-parts : (m : Module)
    → module_list m ≡ head_part m.number m.inputs m.outputs ++ (parted occurrence_break occurrence_list m.occurrences ++ (41 ∷ 41 ∷ []))
unfolding module_list
module_of-parts m =
    rw (with_spaces m.inputs, with_spaces m.outputs)
    (ap (λ l. 40 ∷ 77 ∷ l)
    (sym
    (regrouped (decimal m.number) (32 ∷ 40 ∷ []) (nets_line m.inputs) behind_driven (nets_line m.outputs) behind_outputs
    (parted occurrence_break occurrence_list m.occurrences ++ (41 ∷ 41 ∷ [])))))
