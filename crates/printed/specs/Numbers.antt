-- The numbers that names get when a printed text is read, by first appearance. That they are those of a renaming is in
-- proofs/Numbers.antt.
use Rattle.std.specs.Prelude.{ℕ, suc, ◌+◌, ◌<◌, ◌≡◌, Bool, ◌&&◌, ◌||◌, List, [], ◌∷◌, eqb, ltb, length, get_or}
use Rattle.std.proofs.Common.{arith, sym, ap₂, ◌∙◌}
use Rattle.std.proofs.Math.Path.{refl, ap}
use Rattle.std.proofs.Math.Bool.{true, false, cond}
use borrow.Author.Tests.{ltb-true, lt-ltb, eqb-true}
use Rattle.meaning.specs.Ceilings.{Small}
use Rattle.meaning.specs.Gates.{is_gate}
use Rattle.meaning.specs.Listing.{decimal}
use Rattle.laws.specs.Ndl.Spans.{both}
use Rattle.laws.specs.Ndl.Numerals.{equal_numerals}
use Rattle.meaning.specs.ListForm.{Name}
use Rattle.meaning.specs.ListNumbers.{spelling, gate_names, same_name, among, position, number_among}
use Rattle.meaning.specs.ListPrint.{module_name}
use Rattle.laws.specs.Texts.Below.{all_below, below}
use Rattle.laws.specs.Texts.Numbering.{same-name, position-below}
use Rattle.printed.specs.Behind.{behind_all, behind_gates, Places}

-- Two names at one place are one.
position-apart : (a b : Name) (xs : List Name) → among a xs ≡ true → among b xs ≡ true → position a xs ≡ position b xs → a ≡ b
unfolding among position
position-apart a b [] h k e = absurd (let z : ◌≡◌ {A = ℕ} 0 1 = cc in omega arith)
position-apart a b (x ∷ xs) h k e = go (same_name a x) refl (same_name b x) refl h k e (position-apart a b xs)
  where
    go : (t : Bool) → same_name a x ≡ t → (v : Bool) → same_name b x ≡ v → (t || among a xs) ≡ true → (v || among b xs) ≡ true
        → cond t 0 (suc (position a xs)) ≡ cond v 0 (suc (position b xs))
        → (among a xs ≡ true → among b xs ≡ true → position a xs ≡ position b xs → a ≡ b) → a ≡ b
    go true i true j h k e rest = same-name a x i ∙ sym (same-name b x j)
    go true i false j h k e rest = absurd (omega arith)
    go false i true j h k e rest = absurd (omega arith)
    go false i false j h k e rest = rest h k (omega arith)

-- Names of a letter and a number, among given ones.
module _ (letter : ℕ) (names : List Name) where
  abbrev pub knows : ℕ → Bool
  knows n = ltb n 16384 && among (letter ∷ decimal n) names

  abbrev pub place : ℕ → ℕ
  place n = position (letter ∷ decimal n) names

  pub places : Places knows place (length names)
  places =
      record {
        below = λ n e. position-below (letter ∷ decimal n) names (both (ltb n 16384) (among (letter ∷ decimal n) names) e).1;
        apart = λ x y e f h.
            let p = both (ltb x 16384) (among (letter ∷ decimal x) names) e in
            let q = both (ltb y 16384) (among (letter ∷ decimal y) names) f in
            let same : letter ∷ decimal x ≡ letter ∷ decimal y = position-apart (letter ∷ decimal x) (letter ∷ decimal y) names p.1 q.1 h in
            let numerals : decimal x ≡ decimal y = cc in
            let few : x < 16384 = ltb-true x 16384 p.0 in
            let low : y < 16384 = ltb-true y 16384 q.0 in
            equal_numerals x y (omega arith) (omega arith) numerals;
      }

  known : (n : ℕ) → Small n → among (letter ∷ decimal n) names ≡ true → knows n ≡ true
  known n small h = ap₂ ◌&&◌ (lt-ltb n 16384 (omega arith)) h

  pub placed : (n : ℕ) → Small n → among (letter ∷ decimal n) names ≡ true → behind_all knows place (length names) n ≡ place n
  unfolding behind_all
  placed n small h = ap (λ (t : Bool). cond t (place n) (length names + n)) (known n small h)

-- The renaming of a module's nets, and of modules.
abbrev pub rename_net : (nets : List Name) → ℕ → ℕ
rename_net nets = behind_all (knows 78 nets) (place 78 nets) (length nets)

abbrev pub rename_number : (names : List Name) → ℕ → ℕ
rename_number names = behind_gates (knows 77 names) (place 77 names) (length names)

-- A gate's name has the gate's number, and no module is named as a gate is.
pub gate-known : (n : ℕ) → n < 16 → among (get_or gate_names n []) gate_names ≡ true
unfolding all_below gate_names spelling among same_name
gate-known n l = below 16 (λ (n : ℕ). among (get_or gate_names n []) gate_names) refl n l

gate-number : (n : ℕ) → n < 16 → position (get_or gate_names n []) gate_names ≡ n
unfolding all_below gate_names spelling position same_name
gate-number n l =
    eqb-true (position (get_or gate_names n []) gate_names) n (below 16 (λ (n : ℕ). eqb (position (get_or gate_names n []) gate_names) n) refl n l)

pub no_gate : (n : ℕ) → among (module_name n) gate_names ≡ false
unfolding gate_names spelling among same_name
no_gate n = refl

module _ (names : List Name) (n : ℕ) (small : Small n) where
  pub gate_renamed : is_gate n ≡ true → number_among names (get_or gate_names n []) ≡ rename_number names n
  unfolding number_among behind_gates
  gate_renamed e =
      let l : n < 16 = ltb-true n 16 e in
      ap (λ (t : Bool). cond t (position (get_or gate_names n []) gate_names) (16 + position (get_or gate_names n []) names)) (gate-known n l)
      ∙ gate-number n l
      ∙ ap (λ (t : Bool). cond t n (16 + behind_all (knows 77 names) (place 77 names) (length names) n)) (sym e)
