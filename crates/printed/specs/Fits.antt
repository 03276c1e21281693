-- The names that a printed text has are short and few. That what it lists is within the ceilings of reading is in proofs/Fits.antt.
use Rattle.std.specs.Prelude.{ℕ, ◌≤◌, ◌≡◌, refl, Bool, true, false, cond, ◌||◌, List, [], ◌∷◌, ◌++◌, map, ltb, length, get_or}
use Rattle.std.proofs.Common.{arith, sym, ap, ◌∙◌, true≢false, ltb-true, ltb-false}
use Rattle.std.proofs.lemmas.List.{length-map}
use Rattle.meaning.specs.Lists.{All, none, more}
use Rattle.meaning.specs.Syntax.{Occurrence, Module}
use Rattle.meaning.specs.Gates.{is_gate}
use Rattle.meaning.specs.Ceilings.{Small, NetsWithin, OccurrenceWithin, ModuleWithin}
use Rattle.meaning.specs.Ndl.{net_text}
use Rattle.laws.specs.Ndl.Long.{long_numeral}
use Rattle.meaning.specs.ListForm.{Name}
use Rattle.meaning.specs.ListNumbers.{gate_names, same_name, among, entered, each_name, occurrence_nets, nets_of, apart_from_gates}
use Rattle.meaning.specs.ListLimits.{Short, NamesFit}
use Rattle.meaning.specs.ListPrint.{module_name, name_of}
use Rattle.laws.specs.Texts.PrintLong.{gate-letters}
use Rattle.laws.specs.Texts.Numbering.{or-true, same-name}
use Rattle.renaming.specs.Sizes.{few_bytes}
use Rattle.printed.specs.Listed.{listed_occurrence, listed_module}
use Rattle.printed.specs.Few.{few-entered, called_from, called_in, called-count}
use Rattle.printed.specs.Numbers.{gate-known}

pub all_append : {A : Type 0} {P : A → Type 0} {xs ys : List A} → All P xs → All P ys → All P (xs ++ ys)
all_append none ys = ys
all_append (more x xs) ys = more x (all_append xs ys)

-- What holds of each name of a list holds of a name that stands in it.
pub all_found : {P : Name → Type 0} {xs : List Name} → All P xs → (a : Name) → among a xs ≡ true → P a
unfolding among
all_found none a h = absurd (true≢false (sym h))
all_found {P} (more {x} {xs} p ps) a h = go (same_name a x) refl h (all_found ps a)
  where
    go : (t : Bool) → same_name a x ≡ t → (t || among a xs) ≡ true → (among a xs ≡ true → P a) → P a
    go true e k later = rw (same-name a x e) p
    go false e k later = later k

-- No name is longer than seven letters, and 32 are allowed.
pub short-named : (n : ℕ) → Small n → Short (module_name n)
short-named n small = omega (arith, long_numeral n small, (few_bytes n).1)

net-short : (n : ℕ) → Small n → Short (net_text n)
net-short n small = omega (arith, long_numeral n small, (few_bytes n).1)

pub name-short : (n : ℕ) → Small n → Short (name_of n)
unfolding name_of
name-short n small = go (ltb n 16) refl
  where
    go : (b : Bool) → ltb n 16 ≡ b → length (cond b (get_or gate_names n []) (module_name n)) ≤ 32
    go true e = omega (arith, gate-letters n (ltb-true n 16 e))
    go false e = omega (arith, long_numeral n small, (few_bytes n).1)

nets-short : (nets : List ℕ) → All Small nets → All Short (map net_text nets)
nets-short [] none = none
nets-short (n ∷ nets) (more small smalls) = more (net-short n small) (nets-short nets smalls)

pub nets-fit : (nets : List ℕ) → NetsWithin nets → NamesFit (map net_text nets)
nets-fit nets w = record { count = rw length-map w.count; short = nets-short nets w.numbers }

-- Nets are N and a number below 16,384.
abbrev NetName : Name → Type 0
NetName a = among a (called_from 78 0 16384) ≡ true

nets-called : (nets : List ℕ) → All Small nets → All NetName (map net_text nets)
nets-called [] none = none
nets-called (n ∷ nets) (more small smalls) = more (called_in 78 0 16384 n (omega arith) (omega arith)) (nets-called nets smalls)

occurrences-called : (os : List Occurrence) → All OccurrenceWithin os → All NetName (each_name occurrence_nets (map listed_occurrence os))
unfolding each_name
occurrences-called [] none = none
occurrences-called (o ∷ os) (more w ws) =
    all_append (all_append (nets-called o.drives w.drives.numbers) (nets-called o.takes w.takes.numbers)) (occurrences-called os ws)

module_called : (m : Module) → ModuleWithin m → All NetName (nets_of (listed_module m))
unfolding nets_of
module_called m w =
    all_append (nets-called m.inputs w.inputs.numbers)
    (all_append (nets-called m.outputs w.outputs.numbers) (occurrences-called m.occurrences w.occurrences))

pub nets-few : (m : Module) → ModuleWithin m → length (entered [] (nets_of (listed_module m))) ≤ 16384
nets-few m w =
    omega (arith, few-entered (nets_of (listed_module m)) (called_from 78 0 16384) (all_found (module_called m w)), called-count 78 0 16384)

-- Modules are M and a number from 16 to 16,383; names of gates do not count.
abbrev pub ModuleName : Name → Type 0
ModuleName a = among a gate_names ≡ false → among a (called_from 77 16 16368) ≡ true

pub apart-found : (a : Name) (xs : List Name) → among a (apart_from_gates xs) ≡ true → (among a xs ≡ true) × (among a gate_names ≡ false)
unfolding apart_from_gates among
apart-found a [] h = absurd (true≢false (sym h))
apart-found a (x ∷ xs) h = go (among x gate_names) refl h (apart-found a xs)
  where
    go : (t : Bool) → among x gate_names ≡ t → among a (cond t (apart_from_gates xs) (x ∷ apart_from_gates xs)) ≡ true
        → (among a (apart_from_gates xs) ≡ true → (among a xs ≡ true) × (among a gate_names ≡ false))
        → ((same_name a x || among a xs) ≡ true) × (among a gate_names ≡ false)
    go true e k later = let r = later k in (ap (λ (t : Bool). same_name a x || t) r.0 ∙ or-true (same_name a x), r.1)
    go false e k later = split (same_name a x) refl k
      where
        split : (t : Bool) → same_name a x ≡ t → (t || among a (apart_from_gates xs)) ≡ true
            → ((t || among a xs) ≡ true) × (among a gate_names ≡ false)
        split true i k = (refl, ap (λ (b : Name). among b gate_names) (same-name a x i) ∙ e)
        split false i k = later k

pub module_number : (n : ℕ) → Small n → is_gate n ≡ false → among (module_name n) (called_from 77 16 16368) ≡ true
module_number n small e = let high : 16 ≤ n = ltb-false n 16 e in called_in 77 16 16368 n high (omega arith)

pub referred-number : (n : ℕ) → Small n → ModuleName (name_of n)
unfolding name_of
referred-number n small = go (ltb n 16) refl
  where
    go : (b : Bool) → ltb n 16 ≡ b → ModuleName (cond b (get_or gate_names n []) (module_name n))
    go true e h = absurd (true≢false (sym (gate-known n (ltb-true n 16 e)) ∙ h))
    go false e h = module_number n small e
