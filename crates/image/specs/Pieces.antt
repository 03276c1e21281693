-- Where the parts of an occurrence and of a module stand, counted from its first number. A place p is said by an equation, so that
-- whoever computed it another way can use these facts.
use Rattle.std.specs.Prelude.{ℕ, suc, ◌+◌, ◌≤◌, ◌<◌, ◌≡◌, List, ◌∷◌, ◌++◌, length, get_or}
use Rattle.std.proofs.Common.{sym, ap, subst, ◌∙◌, arith, length-append}
use Rattle.meaning.specs.Syntax.{Occurrence, Module}
use Rattle.meaning.specs.Layout.{each, occurrence_numbers, module_numbers}
use Rattle.image.specs.Stands.{Stands, stands-head, stands-skip, stands-front, stands-tail}

-- The same piece at a place that was computed another way.
pub moved : {im : List ℕ} {xs : List ℕ} (a : ℕ) {p : ℕ} → p ≡ a → Stands im a xs → Stands im p xs
moved {im} {xs} a e s = subst (λ (i : ℕ). Stands im i xs) (sym e) s

pub length-of-occurrence : (o : Occurrence) → length (occurrence_numbers o) ≡ 3 + length o.drives + length o.takes
unfolding occurrence_numbers
length-of-occurrence o = simp length-append (omega arith)

pub length-of_module :
    (m : Module)
    → length (module_numbers m) ≡ 4 + length m.inputs + length m.outputs + length (each occurrence_numbers m.occurrences)
unfolding module_numbers
length-of_module m = simp length-append (omega arith)

pub record OccurrenceAt (im : List ℕ) (at : ℕ) (o : Occurrence) : Type 0 where
  pub driven_count : get_or im at 0 ≡ length o.drives
  pub drives : (p : ℕ) → p ≡ at + 1 → Stands im p o.drives
  pub refers : (p : ℕ) → p ≡ at + 1 + length o.drives → get_or im p 0 ≡ o.refers
  pub taken_count : (p : ℕ) → p ≡ at + 2 + length o.drives → get_or im p 0 ≡ length o.takes
  pub takes : (p : ℕ) → p ≡ at + 3 + length o.drives → Stands im p o.takes
  pub end : at + 3 + length o.drives + length o.takes ≤ length im
  pub long : length (occurrence_numbers o) ≡ 3 + length o.drives + length o.takes

pub occurrence-at : {im : List ℕ} {at : ℕ} (o : Occurrence) → Stands im at (occurrence_numbers o) → OccurrenceAt im at o
unfolding occurrence_numbers
occurrence-at {im} {at} o s =
    record {
      driven_count = stands-head s;
      drives = λ p e. moved (at + 1) e (stands-front (o.refers ∷ length o.takes ∷ o.takes) driven);
      refers = λ p e. ap (λ (i : ℕ). get_or im i 0) e ∙ stands-head reference;
      taken_count = λ p e. stands-head (moved (at + 1 + length o.drives + 1) (e ∙ further) taken);
      takes = λ p e. moved (at + 1 + length o.drives + 1 + 1) (e ∙ furthest) (stands-tail taken);
      end = omega (arith, s.within, length-of-occurrence o);
      long = length-of-occurrence o;
    }
  where
    driven : Stands im (at + 1) (o.drives ++ (o.refers ∷ length o.takes ∷ o.takes))
    driven = stands-tail s

    reference : Stands im (at + 1 + length o.drives) (o.refers ∷ length o.takes ∷ o.takes)
    reference = stands-skip o.drives driven

    taken : Stands im (at + 1 + length o.drives + 1) (length o.takes ∷ o.takes)
    taken = stands-tail reference

    further : at + 2 + length o.drives ≡ at + 1 + length o.drives + 1
    further = omega arith

    furthest : at + 3 + length o.drives ≡ at + 1 + length o.drives + 1 + 1
    furthest = omega arith

pub record ModuleAt (im : List ℕ) (at : ℕ) (m : Module) : Type 0 where
  pub inside : at < length im
  pub number : get_or im at 0 ≡ m.number
  pub input_count : (p : ℕ) → p ≡ at + 1 → get_or im p 0 ≡ length m.inputs
  pub inputs : (p : ℕ) → p ≡ at + 2 → Stands im p m.inputs
  pub output_count : (p : ℕ) → p ≡ at + 2 + length m.inputs → get_or im p 0 ≡ length m.outputs
  pub outputs : (p : ℕ) → p ≡ at + 3 + length m.inputs → Stands im p m.outputs
  pub occurrence_count : (p : ℕ) → p ≡ at + 3 + length m.inputs + length m.outputs → get_or im p 0 ≡ length m.occurrences
  pub body : (p : ℕ) → p ≡ at + 4 + length m.inputs + length m.outputs → Stands im p (each occurrence_numbers m.occurrences)
  pub end : at + 4 + length m.inputs + length m.outputs + length (each occurrence_numbers m.occurrences) ≤ length im
  pub long : length (module_numbers m) ≡ 4 + length m.inputs + length m.outputs + length (each occurrence_numbers m.occurrences)

pub module_at : {im : List ℕ} {at : ℕ} (m : Module) → Stands im at (module_numbers m) → ModuleAt im at m
unfolding module_numbers
module_at {im} {at} m s =
    record {
      inside = omega (arith, s.within);
      number = stands-head s;
      input_count = λ p e. stands-head (moved (at + 1) e counted);
      inputs = λ p e. moved (at + 1 + 1) (e ∙ second) (stands-front (output_numbers ++ body_numbers) (stands-tail counted));
      output_count = λ p e. stands-head (moved (at + 1 + suc (length m.inputs)) (e ∙ third) outward);
      outputs = λ p e. moved (at + 1 + suc (length m.inputs) + 1) (e ∙ fourth) (stands-front body_numbers (stands-tail outward));
      occurrence_count = λ p e. stands-head (moved (at + 1 + suc (length m.inputs) + suc (length m.outputs)) (e ∙ fifth) bodied);
      body = λ p e. moved (at + 1 + suc (length m.inputs) + suc (length m.outputs) + 1) (e ∙ sixth) (stands-tail bodied);
      end = omega (arith, s.within, length-of_module m);
      long = length-of_module m;
    }
  where
    body_numbers : List ℕ
    body_numbers = length m.occurrences ∷ each occurrence_numbers m.occurrences

    output_numbers : List ℕ
    output_numbers = length m.outputs ∷ m.outputs

    counted : Stands im (at + 1) (length m.inputs ∷ (m.inputs ++ (output_numbers ++ body_numbers)))
    counted = stands-tail s

    outward : Stands im (at + 1 + suc (length m.inputs)) (output_numbers ++ body_numbers)
    outward = stands-skip (length m.inputs ∷ m.inputs) counted

    bodied : Stands im (at + 1 + suc (length m.inputs) + suc (length m.outputs)) body_numbers
    bodied = stands-skip output_numbers outward

    second : at + 2 ≡ at + 1 + 1
    second = omega arith

    third : at + 2 + length m.inputs ≡ at + 1 + suc (length m.inputs)
    third = omega arith

    fourth : at + 3 + length m.inputs ≡ at + 1 + suc (length m.inputs) + 1
    fourth = omega arith

    fifth : at + 3 + length m.inputs + length m.outputs ≡ at + 1 + suc (length m.inputs) + suc (length m.outputs)
    fifth = omega arith

    sixth : at + 4 + length m.inputs + length m.outputs ≡ at + 1 + suc (length m.inputs) + suc (length m.outputs) + 1
    sixth = omega arith
