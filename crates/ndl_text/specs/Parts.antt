-- The parts that an occurrence's text and a module's are put together from.
use Rattle.std.specs.Prelude.{ℕ, ◌≡◌, List, [], ◌∷◌, ◌++◌}
use Rattle.std.proofs.Common.{sym, ap, ◌∙◌, append_assoc}
use Rattle.meaning.specs.Syntax.{Occurrence, Module}
use Rattle.meaning.specs.Listing.{decimal}
use Rattle.meaning.specs.Ndl.{reference_text, nets_text, line_end, keyword_line, occurrence_text, occurrences_text, module_word, inputs_word, outputs_word, define_lines, end_module_lines, module_text}

-- `G0(N2) = `: the occurrence's name and what it drives.
abbrev pub driven_text : (position : ℕ) (drives : List ℕ) → List ℕ
driven_text position drives = (71 ∷ decimal position) ++ ((40 ∷ []) ++ (nets_text drives ++ (41 ∷ 32 ∷ 61 ∷ 32 ∷ [])))

-- `OR2(N0,N1);`: what it refers to and takes.
abbrev pub taken_text : (names : List ℕ) (refers : ℕ) (takes : List ℕ) → List ℕ
taken_text names refers takes = reference_text names refers ++ ((40 ∷ []) ++ (nets_text takes ++ (41 ∷ line_end)))

pub occurrence-of-parts : (names : List ℕ) (position : ℕ) (o : Occurrence)
    → occurrence_text names position o ≡ driven_text position o.drives ++ taken_text names o.refers o.takes
unfolding occurrence_text
occurrence-of-parts names position o = simp append_assoc

-- `MODULE M18;`
abbrev pub title_text : (number : ℕ) → List ℕ
title_text number = module_word ++ ((77 ∷ decimal number) ++ line_end)

-- The lines in front of the occurrences.
abbrev pub head_text : (number : ℕ) (inputs outputs : List ℕ) → List ℕ
head_text number inputs outputs =
    title_text number ++ (keyword_line inputs_word inputs ++ (keyword_line outputs_word outputs ++ define_lines))

pub module_of-parts : (names : List ℕ) (m : Module)
    → module_text names m
    ≡ head_text m.number m.inputs m.outputs ++ (occurrences_text names 0 m.occurrences ++ end_module_lines)
unfolding module_text
module_of-parts names m =
    let rest : List ℕ = occurrences_text names 0 m.occurrences ++ end_module_lines in
    let ins : List ℕ = keyword_line inputs_word m.inputs in
    let outs : List ℕ = keyword_line outputs_word m.outputs in
    let behind : (ins ++ (outs ++ define_lines)) ++ rest ≡ ins ++ (outs ++ (define_lines ++ rest)) =
    append_assoc ins (outs ++ define_lines) rest ∙ ap (λ (l : List ℕ). ins ++ l) (append_assoc outs define_lines rest) in
    sym
    (append_assoc (title_text m.number) (ins ++ (outs ++ define_lines)) rest
    ∙ ap (λ (l : List ℕ). title_text m.number ++ l) behind
    ∙ ap (λ (l : List ℕ). module_word ++ (77 ∷ l)) (append_assoc (decimal m.number) line_end (ins ++ (outs ++ (define_lines ++ rest)))))
