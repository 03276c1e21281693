-- The numbers of a module in front of its occurrences: what putting its position and slots in their places leaves.
use Prim.Native.Nat.{ℕ, ◌+◌}
use mathlib.Core.Path.{◌≡◌, sym, ap, ap₂, subst, ◌∙◌}
use mathlib.Core.List.{List, [], ◌∷◌, ◌++◌, map, append_assoc, append-nil}
use native.Mathlib.Omega.{arith}
use borrow.Author.Tests.{eqb-true}
use lib.Dec.{eqb}
use lib.ListN.{length, get_or, drop, set, length-append, length-map, length-set}
use lib.Seq.{drop-set-lt}
use Rattle.meaning.specs.Syntax.{Module}
use Rattle.meaning.specs.Layout.{list_numbers}
use Rattle.nets.specs.Slots.{Knows, slot_of}
use Rattle.nets.specs.Fronts.{passes-whole}
use Rattle.image.specs.Stands.{Stands, stands-head, stands_alike}
use Rattle.image.specs.Pieces.{moved}
use Rattle.image.specs.Laid.{laid, laid-after, laid-before-own, set-laid}
use Rattle.check_lists.specs.Lists.{Behind, ListReady, ListWritten}
use Rattle.check_lists.specs.Places.{head_numbers, head_of, inputs_in_head, outputs_in_head, count_in_head}
use Rattle.check_modules.specs.Heads.{HeadWritable, HeadWritten}

-- With another number in front, and behind it what putting slots in the inputs' places left.
module _ {numbers : List ℕ} (number : ℕ) (m : Module) (stands : Stands numbers 0 (head_of m)) where
  inputs-left : Stands (set numbers 0 number) 1 (list_numbers m.inputs)
  inputs-left = stands_alike (drop-set-lt 1 numbers 0 number (omega arith)) (length-set numbers 0 number) (inputs_in_head m stands)

  outputs-left :
      {slots numbers₁ : List ℕ} {base nets o r : ℕ} → Behind numbers 1 o → length numbers₁ ≡ length (set numbers 0 number)
      → ListWritten (set numbers 0 number) slots base 1 nets numbers₁ r → Stands numbers₁ o (list_numbers m.outputs)
  outputs-left {numbers₁ = numbers₁} {o = o} behind sized w =
      let e : o ≡ 1 + 1 + length m.inputs = behind m.inputs (inputs_in_head m stands) in
      let same = subst (λ (p : ℕ). drop p numbers₁ ≡ drop p (set numbers 0 number)) (sym e) (w.behind m.inputs inputs-left) in
      stands_alike (same ∙ drop-set-lt o numbers 0 number (omega arith)) (sized ∙ length-set numbers 0 number)
      (outputs_in_head m stands o (e ∙ omega arith))

-- A number, two lists and the count that stands behind them side by side.
lay_head :
    {im im₁ im₂ : List ℕ} (number : ℕ) (xs ys : List ℕ) (n o : ℕ) → im₁ ≡ laid (set im 0 number) 1 (list_numbers xs)
    → im₂ ≡ laid im₁ o (list_numbers ys) → o ≡ 2 + length xs → Stands im (3 + length xs + length ys) (n ∷ [])
    → im₂ ≡ laid im 0 (head_numbers number xs ys n)
lay_head {im} {im₁} {im₂} number xs ys n o first second at-o count =
    let before = number ∷ list_numbers xs in
    let both = before ++ list_numbers ys in
    let within = count.within in
    let one : set im 0 number ≡ laid im 0 (number ∷ []) = set-laid im 0 number (omega arith) in
    let behind : o ≡ 0 + length before = omega arith in
    let long : 0 + length both ≡ 3 + length xs + length ys = omega (arith, length-append before (list_numbers ys)) in
    second
    ∙ ap₂ (λ (l : List ℕ) (p : ℕ). laid l p (list_numbers ys)) (first ∙ ap (λ (l : List ℕ). laid l 1 (list_numbers xs)) one) behind
    ∙ ap (λ (l : List ℕ). laid l (0 + length before) (list_numbers ys)) (laid-after im 0 (number ∷ []) (list_numbers xs) (omega arith))
    ∙ laid-after im 0 before (list_numbers ys) (omega arith)
    ∙ laid-before-own 0 both (n ∷ []) (omega arith) (moved (3 + length xs + length ys) long count)
    ∙ ap (laid im 0) (append_assoc before (list_numbers ys) (n ∷ []))

module _ {numbers slots : List ℕ} {base k nets : ℕ} where
  module _ (w : HeadWritable numbers slots base k nets) where
    -- Slots can take the places of the inputs, and then those of the outputs.
    pub inputs-ready : ListReady (set numbers 0 (16 + k)) slots base 1 nets
    inputs-ready =
        record {
          listed = record { list = w.m.inputs; stands = inputs-left (16 + k) w.m w.stands };
          in_slots = w.inputs_index;
          few = w.few;
          high = w.high;
          short = omega (arith, w.short, length-set numbers 0 (16 + k));
        }

    pub outputs-ready :
        {numbers₁ : List ℕ} {o r : ℕ} → Behind numbers 1 o → length numbers₁ ≡ length (set numbers 0 (16 + k))
        → ListWritten (set numbers 0 (16 + k)) slots base 1 nets numbers₁ r → ListReady numbers₁ slots base o nets
    outputs-ready behind sized ins =
        record {
          listed = record { list = w.m.outputs; stands = outputs-left (16 + k) w.m w.stands behind sized ins };
          in_slots = w.outputs_index;
          few = w.few;
          high = w.high;
          short = omega (arith, w.short, length-set numbers 0 (16 + k));
        }

  pub head-written :
      {numbers₁ numbers₂ : List ℕ} {o inputs written outputs : ℕ} → Behind numbers 1 o → length numbers₁ ≡ length (set numbers 0 (16 + k))
      → ListWritten (set numbers 0 (16 + k)) slots base 1 nets numbers₁ inputs
      → outputs ≡ get_or numbers₁ o 0
      → ListWritten numbers₁ slots base o nets numbers₂ written
      → HeadWritten numbers slots base k nets numbers₂ (eqb written outputs)
  head-written {numbers₁} {numbers₂} {o} {inputs} {written} {outputs} behind sized ins counted outs =
      record {
        written = λ m known stands knows count inputs_known.
            let some = all known knows in
            let i = ins.written m.inputs known [] (inputs-left (16 + k) m stands) some count in
            let there = outputs-left (16 + k) m stands behind sized ins in
            let q = outs.written m.outputs known [] there some count in
            let many : outputs ≡ length m.outputs = counted ∙ stands-head there in
            let xs = map (λ (x : ℕ). slot_of x known) m.inputs in
            let ys = map (λ (x : ℕ). slot_of x known) m.outputs in
            let longer : length xs ≡ length m.inputs = length-map m.inputs (λ (x : ℕ). slot_of x known) in
            let longest : length ys ≡ length m.outputs = length-map m.outputs (λ (x : ℕ). slot_of x known) in (
              ap (eqb written) many ∙ q.0.whole,
              λ t.
                  lay_head (16 + k) xs ys (length m.occurrences) o
                  (i.1 (passes-whole i.0 inputs_known) ∙ none (set numbers 0 (16 + k)) 1 known m.inputs)
                  (q.1 (eqb-true written outputs t ∙ many) ∙ none numbers₁ o known m.outputs)
                  (behind m.inputs (inputs_in_head m stands) ∙ omega arith)
                  (count_in_head m stands (3 + length xs + length ys) (omega arith)),
            );
      }
    where
      -- Nothing is known behind the nets.
      all : (known : List ℕ) → Knows slots base known → Knows slots base (known ++ [])
      all known knows = rw append-nil knows

      none :
          (im : List ℕ) (at : ℕ) (known list : List ℕ)
          → laid im at (list_numbers (map (λ (x : ℕ). slot_of x (known ++ [])) list)) ≡ laid im at (list_numbers (map (λ (x : ℕ). slot_of x known) list))
      none im at known list = ap (λ (l : List ℕ). laid im at (list_numbers (map (λ (x : ℕ). slot_of x l) list))) (append-nil known)
