-- A printed text is in the grammar, and what it lists are the file's modules with names in the place of numbers.
use Rattle.std.specs.Prelude.{ℕ}
use Rattle.std.proofs.Common.{ap}
use mathlib.Core.List.{List, ◌∷◌, ◌++◌, map}
use Rattle.meaning.specs.Syntax.{Occurrence, Module}
use Rattle.meaning.specs.Layout.{each}
use Rattle.meaning.specs.Ndl.{net_text}
use Rattle.meaning.specs.ListForm.{opening, closing, Part, sign, atom, in_brackets, parts_of, net_parts, occurrence_parts, module_parts, list_parts, Written, ended, Lists, plain}
use Rattle.meaning.specs.ListPrint.{parted, nets_line, module_name, name_of, occurrence_break, occurrence_list, module_list, list_text}
use Rattle.printed.specs.Listed.{listed_occurrence, listed_module, listed}
use Rattle.printed.specs.Words.{module_spelled, name-spelled}
use Rattle.printed.specs.InGrammar.{regrouped, atom-written, open_written, close-apart, space-apart, line-apart, more-nets, nets-written, occurrence-parts, occurrence-text, parted-written, occurrence-blank, module_blank, module-parts, module_text}

occurrence-written : (o : Occurrence) {ps : List Part} {text : List ℕ} → Written ps text
    → Written (occurrence_parts (listed_occurrence o) ++ ps) (occurrence_list o ++ text)
unfolding occurrence_parts net_parts occurrence_list
occurrence-written o {ps} {text} w =
    regrouped
    (occurrence-parts (map atom (map net_text o.drives)) (map atom (map net_text o.takes)) (name_of o.refers) ps)
    (ap (λ (l : List ℕ). 40 ∷ 40 ∷ l) (occurrence-text (nets_line o.drives) (name_of o.refers) (each (λ net. 32 ∷ net_text net) o.takes) text))
    (open_written (open_written (nets-written o.drives (close-apart (space-apart (open_written taken)).written))))
  where
    taken : Written (atom (name_of o.refers) ∷ (map atom (map net_text o.takes) ++ (sign closing ∷ sign closing ∷ ps)))
        (name_of o.refers ++ (each (λ net. 32 ∷ net_text net) o.takes ++ (41 ∷ 41 ∷ text)))
    taken = atom-written (name-spelled o.refers) (more-nets o.takes (close-apart (close-apart w).written))

module_written : (m : Module) {ps : List Part} {text : List ℕ} → Written ps text
    → Written (module_parts (listed_module m) ++ ps) (module_list m ++ text)
unfolding module_parts net_parts module_list
module_written m {ps} {text} w =
    regrouped
    (module-parts (module_name m.number) (map atom (map net_text m.inputs)) (map atom (map net_text m.outputs))
    (parts_of occurrence_parts (map listed_occurrence m.occurrences)) ps)
    (ap (λ (l : List ℕ). 40 ∷ l)
    (module_text (module_name m.number) (nets_line m.inputs) (nets_line m.outputs) (parted occurrence_break occurrence_list m.occurrences) text))
    (open_written (atom-written (module_spelled m.number) (space-apart (open_written (nets-written m.inputs (close-apart from-outputs))))))
  where
    from-body : Written (sign opening ∷ (parts_of occurrence_parts (map listed_occurrence m.occurrences) ++ (sign closing ∷ sign closing ∷ ps)))
        (32 ∷ 32 ∷ 40 ∷ (parted occurrence_break occurrence_list m.occurrences ++ (41 ∷ 41 ∷ text)))
    from-body =
        let body = parted-written listed_occurrence occurrence_parts occurrence_list occurrence-blank (λ o ps rest. occurrence-written o) m.occurrences
        (close-apart (close-apart w).written).written in
        (space-apart (space-apart (open_written body)).written).written

    from-outputs : Written
        (sign opening
        ∷ (map atom (map net_text m.outputs)
        ++ (sign closing ∷ sign opening ∷ (parts_of occurrence_parts (map listed_occurrence m.occurrences) ++ (sign closing ∷ sign closing ∷ ps)))))
        (32 ∷ 40 ∷ (nets_line m.outputs ++ (41 ∷ 10 ∷ 32 ∷ 32 ∷ 40 ∷ (parted occurrence_break occurrence_list m.occurrences ++ (41 ∷ 41 ∷ text)))))
    from-outputs = (space-apart (open_written (nets-written m.outputs (close-apart (line-apart from-body).written)))).written

-- The whole text.
pub printed-lists : (ms : List Module) → Lists (list_text ms) (listed ms)
unfolding list_parts in_brackets list_text
printed-lists ms =
    plain
    (open_written
    (parted-written listed_module module_parts module_list module_blank (λ m ps rest. module_written m) ms
    (close-apart (line-apart ended).written).written))
