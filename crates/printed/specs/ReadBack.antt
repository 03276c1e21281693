-- What is mentioned in a printed text has a number. That what the text is read to are the file's modules under other numbers is in
-- proofs/ReadBack.antt.
use Rattle.std.specs.Prelude.{ℕ, ◌≡◌, Bool, true, false, cond, get_or}
use Rattle.std.proofs.Common.{sym, ap, ◌∙◌}
use mathlib.Core.List.{List, []}
use Rattle.meaning.specs.Syntax.{Module}
use Rattle.meaning.specs.Gates.{is_gate}
use Rattle.meaning.specs.ListForm.{Name}
use Rattle.meaning.specs.ListNumbers.{gate_names, among, entered, nets_of, apart_from_gates, mentions}
use Rattle.meaning.specs.ListPrint.{module_name, name_of}
use Rattle.laws.specs.Texts.Numbering.{among-entered}
use Rattle.laws.specs.Texts.Shelved.{Inside, in_apart}
use Rattle.printed.specs.Listed.{listed_module, listed}
use Rattle.printed.specs.Numbers.{rename_number, no_gate}

abbrev pub NoGate : Module → Type 0
NoGate m = is_gate m.number ≡ false

-- The numbers of what is mentioned.
abbrev pub numbers_of : (mentioned : List Name) → List Name
numbers_of mentioned = entered [] (apart_from_gates mentioned)

pub mentioned-known : (mentioned : List Name) (n : ℕ) → among (module_name n) mentioned ≡ true → among (module_name n) (numbers_of mentioned) ≡ true
unfolding among
mentioned-known mentioned n h = among-entered (module_name n) [] (apart_from_gates mentioned) ∙ in_apart (module_name n) mentioned (no_gate n) h

pub referred-known : (mentioned : List Name) (n : ℕ) → among (name_of n) mentioned ≡ true → is_gate n ≡ false → among (module_name n) (numbers_of mentioned) ≡ true
unfolding name_of
referred-known mentioned n h e =
    mentioned-known mentioned n (sym (ap (λ (t : Bool). among (cond t (get_or gate_names n []) (module_name n)) mentioned) e) ∙ h)

module _ (mentioned : List Name) where
  pub net-entered : (m : Module) → Inside (nets_of (listed_module m)) (entered [] (nets_of (listed_module m)))
  unfolding among
  net-entered m a h = among-entered a [] (nets_of (listed_module m)) ∙ h

-- The renaming of a file's modules.
unfoldable pub renumber : List Module → ℕ → ℕ
renumber ms = rename_number (entered [] (mentions (listed ms)))
