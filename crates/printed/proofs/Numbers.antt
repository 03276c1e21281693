-- The numbers that names get when a printed text is read: those of a renaming, by first appearance.
use Rattle.std.specs.Prelude.{ℕ, ◌+◌, ◌≡◌, Bool, List, [], ◌∷◌, map, length, get_or}
use Rattle.std.proofs.Common.{sym, ap₂, ◌∙◌}
use Rattle.std.proofs.Math.Path.{refl, ap}
use Rattle.std.proofs.Math.Bool.{true, false, cond}
use Rattle.meaning.specs.Lists.{All, none, more}
use Rattle.meaning.specs.Ceilings.{Small}
use Rattle.meaning.specs.Gates.{is_gate}
use Rattle.meaning.specs.Ndl.{net_text}
use Rattle.meaning.specs.ListForm.{Name}
use Rattle.meaning.specs.ListNumbers.{gate_names, among, position, number_among}
use Rattle.meaning.specs.ListPrint.{module_name, name_of}
use Rattle.laws.specs.Texts.Shelved.{Inside, in_head, in_tail}
use Rattle.printed.specs.Behind.{behind_all, behind_gates}
use Rattle.printed.specs.Numbers.{placed, rename_net, rename_number, no_gate, gate_renamed, knows, place}

pub nets_renamed : (nets : List Name) (xs : List ℕ) → All Small xs → Inside (map net_text xs) nets
    → map (λ a. position a nets) (map net_text xs) ≡ map (rename_net nets) xs
nets_renamed nets [] none h = refl
nets_renamed nets (x ∷ xs) (more small smalls) h =
    ap₂ ◌∷◌
    (sym (placed 78 nets x small (h (net_text x) (in_head (net_text x) (map net_text xs)))))
    (nets_renamed nets xs smalls (λ a k. h a (in_tail a (net_text x) (map net_text xs) k)))

module _ (names : List Name) (n : ℕ) (small : Small n) where
  pub module_renamed : is_gate n ≡ false → among (module_name n) names ≡ true → number_among names (module_name n) ≡ rename_number names n
  unfolding number_among behind_gates
  module_renamed e h =
      ap (λ (t : Bool). cond t (position (module_name n) gate_names) (16 + position (module_name n) names)) (no_gate n)
      ∙ ap (λ (k : ℕ). 16 + k) (sym (placed 77 names n small h))
      ∙ ap (λ (t : Bool). cond t n (16 + behind_all (knows 77 names) (place 77 names) (length names) n)) (sym e)

  pub name_renamed : (is_gate n ≡ false → among (module_name n) names ≡ true) → number_among names (name_of n) ≡ rename_number names n
  unfolding name_of
  name_renamed h = go (is_gate n) refl
    where
      go : (b : Bool) → is_gate n ≡ b → number_among names (cond b (get_or gate_names n []) (module_name n)) ≡ rename_number names n
      go true e = gate_renamed names n small e
      go false e = module_renamed e (h e)
