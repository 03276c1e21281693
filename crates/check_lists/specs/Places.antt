-- The numbers of a module in front of its occurrences, and where they stand.
use Rattle.std.specs.Prelude.{ℕ, suc, ◌+◌, ◌<◌, ◌≡◌, refl, List, [], ◌∷◌, ◌++◌, length, get_or}
use Rattle.std.proofs.Common.{sym, ap, subst, ◌∙◌, append_assoc, arith, length-append}
use Rattle.meaning.specs.Syntax.{Module}
use Rattle.meaning.specs.Layout.{each, list_numbers, occurrence_numbers, module_numbers}
use Rattle.image.specs.Stands.{Stands, stands-tail, stands-front, stands-skip}
use Rattle.image.specs.Pieces.{moved, module_at}
use Rattle.check_lists.specs.Lists.{Behind}
use Rattle.check_lists.specs.Parts.{part, part-stands}

-- A module's number, its two lists with their counts, and the count of its occurrences.
abbrev pub head_numbers : (number : ℕ) → (inputs outputs : List ℕ) → (occurrences : ℕ) → List ℕ
head_numbers number inputs outputs occurrences = number ∷ (list_numbers inputs ++ (list_numbers outputs ++ (occurrences ∷ [])))

pub length-of-head : (number : ℕ) (xs ys : List ℕ) (count : ℕ) → length (head_numbers number xs ys count) ≡ 4 + length xs + length ys
length-of-head number xs ys count =
    omega (arith, length-append (list_numbers xs) (list_numbers ys ++ (count ∷ [])), length-append (list_numbers ys) (count ∷ []))

abbrev pub head_of : Module → List ℕ
head_of m = head_numbers m.number m.inputs m.outputs (length m.occurrences)

pub head-and-body : (m : Module) → module_numbers m ≡ head_of m ++ each occurrence_numbers m.occurrences
unfolding module_numbers
head-and-body m =
    ap (λ (l : List ℕ). m.number ∷ l)
    (ap (λ (l : List ℕ). list_numbers m.inputs ++ l) (sym (append_assoc (list_numbers m.outputs) (length m.occurrences ∷ []) body))
    ∙ sym (append_assoc (list_numbers m.inputs) (list_numbers m.outputs ++ (length m.occurrences ∷ [])) body))
  where
    body : List ℕ
    body = each occurrence_numbers m.occurrences

-- Where the head of a module stands: its two lists, and the count of its occurrences behind them.
module _ {numbers : List ℕ} {s : ℕ} (m : Module) (stands : Stands numbers s (head_of m)) where
  pub inputs_in_head : Stands numbers (s + 1) (list_numbers m.inputs)
  inputs_in_head = stands-front (list_numbers m.outputs ++ (length m.occurrences ∷ [])) (stands-tail stands)

  from-outputs : (p : ℕ) → p ≡ s + 2 + length m.inputs → Stands numbers p (list_numbers m.outputs ++ (length m.occurrences ∷ []))
  from-outputs p e = moved (s + 1 + suc (length m.inputs)) (e ∙ omega arith) (stands-skip (list_numbers m.inputs) (stands-tail stands))

  pub outputs_in_head : (p : ℕ) → p ≡ s + 2 + length m.inputs → Stands numbers p (list_numbers m.outputs)
  outputs_in_head p e = stands-front (length m.occurrences ∷ []) (from-outputs p e)

  pub count_in_head : (p : ℕ) → p ≡ s + 3 + length m.inputs + length m.outputs → Stands numbers p (length m.occurrences ∷ [])
  count_in_head p e =
      moved (s + 2 + length m.inputs + suc (length m.outputs)) (e ∙ omega arith)
      (stands-skip (list_numbers m.outputs) (from-outputs (s + 2 + length m.inputs) refl))

-- It stands in front of the module's occurrences.
module _ {numbers : List ℕ} {s : ℕ} (m : Module) (stands : Stands numbers s (module_numbers m)) where
  pub head-stands : Stands numbers s (head_of m)
  head-stands = stands-front (each occurrence_numbers m.occurrences) (subst (Stands numbers s) (head-and-body m) stands)

  pub inputs-stand : Stands numbers (s + 1) (list_numbers m.inputs)
  inputs-stand = inputs_in_head m head-stands

  pub outputs-stand : (p : ℕ) → p ≡ s + 2 + length m.inputs → Stands numbers p (list_numbers m.outputs)
  outputs-stand = outputs_in_head m head-stands

-- Where a head's parts stand: the count of outputs at n, that of occurrences at e.
pub record Places (numbers : List ℕ) (s n e : ℕ) (m : Module) : Type 0 where
  pub number : get_or numbers s 0 ≡ m.number
  pub input_count : get_or numbers (s + 1) 0 ≡ length m.inputs
  pub inputs : part (s + 2) n numbers ≡ m.inputs
  pub outputs : part (n + 1) e numbers ≡ m.outputs
  pub occurrence_count : get_or numbers e 0 ≡ length m.occurrences
  pub behind_inputs : n ≡ s + 2 + length m.inputs
  pub behind_outputs : e ≡ s + 3 + length m.inputs + length m.outputs
  pub inside : e < length numbers

pub places :
    {numbers : List ℕ} {s n e : ℕ} → Behind numbers (s + 1) n → Behind numbers n e → (m : Module) → Stands numbers s (module_numbers m)
    → Places numbers s n e m
places {numbers} {s} {n} {e} first second m stands =
    let p = module_at m stands in
    let behind_inputs : n ≡ s + 2 + length m.inputs = first m.inputs (inputs-stand m stands) ∙ omega arith in
    let behind_outputs : e ≡ s + 3 + length m.inputs + length m.outputs =
    second m.outputs (outputs-stand m stands n behind_inputs) ∙ omega arith in
    record {
      number = p.number;
      input_count = p.input_count (s + 1) refl;
      inputs = part-stands n behind_inputs (p.inputs (s + 2) refl);
      outputs = part-stands e (omega arith) (p.outputs (n + 1) (omega arith));
      occurrence_count = p.occurrence_count e behind_outputs;
      behind_inputs = behind_inputs;
      behind_outputs = behind_outputs;
      inside = omega (arith, p.end);
    }
