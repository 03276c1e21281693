-- Where a text is refused with 11 to 14, what the line names are the atoms of the occurrence at fault, as the text lists it.
use Rattle.std.specs.Prelude.{◌≡◌, ℕ, suc, List, [], ◌∷◌, ◌++◌, map, length, take, drop, refl}
use Rattle.std.proofs.Common.{arith, sym, ◌∙◌, ap, subst, length-drop, take-append-drop, length-take-le}
use Rattle.std.proofs.lemmas.List.{length-map}
use Rattle.meaning.specs.Syntax.{Occurrence}
use Rattle.meaning.specs.Calls.{refusal}
use Rattle.meaning.specs.ListForm.{Name, ListedOccurrence, ListedModule, Lists}
use Rattle.meaning.specs.ListNumbers.{entered, nets_of, mentions, numbered_occurrence, numbered_module, numbered}
use Rattle.meaning.specs.ListCall.{word, list_reading}
use Rattle.text_words.specs.Seeking.{atom_from, occurrence_from}
use Rattle.text_words.specs.Listed.{occurrence_atoms, occurrence-found}
use Rattle.text_faults.specs.declared.Fault.{Fault}
use Rattle.text_faults.specs.Faults.{text_fault}
use Rattle.text_faults.specs.Located.{OfOccurrences}
use Rattle.text_faults.specs.OfText.{text-fault}

-- An occurrence of the module at a position, as the text lists it; each of its atoms is found by how many stand in front of it, and as many of
-- them are driven nets as the fault says.
pub record Named (text : List ℕ) (position : ℕ) (f : Fault) (fault : Occurrence) : Type 0 where
  pub before : List ListedModule
  pub m : ListedModule
  pub later : List ListedModule
  pub lists : Lists text (before ++ (m ∷ later))
  pub at : position ≡ length before
  pub earlier : List ListedOccurrence
  pub o : ListedOccurrence
  pub others : List ListedOccurrence
  pub listed : m.occurrences ≡ earlier ++ (o ∷ others)
  pub numbered : fault ≡ numbered_occurrence (entered [] (mentions (before ++ (m ∷ later)))) (entered [] (nets_of m)) o
  pub driven : f.driven ≡ length o.drives
  pub found : (front : List Name) (a : Name) (rest : List Name) → occurrence_atoms o ≡ front ++ (a ∷ rest)
      → word (atom_from (length front) (occurrence_from position f.occurrence text)) ≡ a

-- What stands at a place of a list that was made entry by entry was made of the entry there.
record Made {A B : Type 0} (g : A → B) (xs : List A) (front : List B) (y : B) : Type 0 where
  before : List A
  x : A
  later : List A
  are : xs ≡ before ++ (x ∷ later)
  many : length front ≡ length before
  of : y ≡ g x

made : {A B : Type 0} (g : A → B) (xs : List A) (front : List B) (y : B) (ys : List B) → map g xs ≡ front ++ (y ∷ ys) → Made g xs front y
made g [] [] y ys e = absurd (let z : ◌≡◌ {A = ℕ} 0 1 = cc in omega arith)
made g [] (z ∷ front) y ys e = absurd (let z : ◌≡◌ {A = ℕ} 0 1 = cc in omega arith)
made g (x ∷ xs) [] y ys e = record { before = []; x = x; later = xs; are = refl; many = refl; of = cc }
made g (x ∷ xs) (z ∷ front) y ys e =
    let rest : map g xs ≡ front ++ (y ∷ ys) = cc in
    let h = made g xs front y ys rest in
    record { before = x ∷ h.before; x = h.x; later = h.later; are = ap (λ l. x ∷ l) h.are; many = ap suc h.many; of = h.of }

-- The module at a position of a file that was numbered so.
placed : {A B : Type 0} (g : A → B) (xs : List A) (k : ℕ) (y : B) (ys : List B) → drop k (map g xs) ≡ y ∷ ys → Made g xs (take k (map g xs)) y
placed g xs k y ys e = made g xs (take k (map g xs)) y ys (sym (take-append-drop k (map g xs)) ∙ ap (λ l. take k (map g xs) ++ l) e)

taken : {B : Type 0} (zs : List B) (k : ℕ) (y : B) (ys : List B) → drop k zs ≡ y ∷ ys → length (take k zs) ≡ k
taken zs k y ys e = length-take-le k zs (omega (arith, simp length-drop at (ap length e)))

pub named : (text : List ℕ) (number position out : ℕ) (n : OfOccurrences number) (e : list_reading text out ≡ refusal number position)
    → Named text position (text_fault text position) (text-fault text number position out n e).first.first.o
unfolding numbered numbered_module
named text number position out n e =
    let t = text-fault text number position out n e in
    let f = t.first in
    let names = entered [] (mentions t.ms) in
    let there = placed (numbered_module names) t.ms position f.m f.later f.at in
    let many : position ≡ length there.before = sym (taken (map (numbered_module names) t.ms) position f.m f.later f.at) ∙ there.many in
    let nets = entered [] (nets_of there.x) in
    let occurrences : map (numbered_occurrence names nets) there.x.occurrences ≡ f.first.before ++ (f.first.o ∷ f.first.behind) =
    ap (λ m. m.occurrences) (sym there.of) ∙ f.first.are in
    let here = made (numbered_occurrence names nets) there.x.occurrences f.first.before f.first.o f.first.behind occurrences in
    let is : (text_fault text position).occurrence ≡ length here.before = omega (arith, f.first.occurrence, here.many) in
    let lists : Lists text (there.before ++ (there.x ∷ there.later)) = subst (Lists text) there.are t.lists in
    record {
      before = there.before;
      m = there.x;
      later = there.later;
      lists = lists;
      at = many;
      earlier = here.before;
      o = here.x;
      others = here.later;
      listed = here.are;
      numbered = here.of ∙ ap (λ ms. numbered_occurrence (entered [] (mentions ms)) nets here.x) there.are;
      driven = f.first.driven ∙ ap (λ o. length o.drives) here.of ∙ length-map here.x.drives _;
      found = λ front a rest is-there.
          ap (λ k. word (atom_from (length front) (occurrence_from k (text_fault text position).occurrence text))) many
          ∙ ap (λ i. word (atom_from (length front) (occurrence_from (length there.before) i text))) is
          ∙ occurrence-found there.before there.x there.later here.before here.x here.later front a rest lists here.are is-there;
    }
