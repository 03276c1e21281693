-- How the pieces of a printed text are written. That the text is in the grammar is in proofs/InGrammar.antt.
use Rattle.std.specs.Prelude.{ℕ, ◌≡◌, refl}
use Rattle.std.proofs.Common.{sym, ap, subst, ◌∙◌}
use mathlib.Core.List.{List, [], ◌∷◌, ◌++◌, map, append_assoc}
use Rattle.meaning.specs.Layout.{each}
use Rattle.meaning.specs.Ndl.{net_text}
use Rattle.meaning.specs.ListForm.{Name, opening, closing, space, kind_of, Part, sign, atom, in_brackets, parts_of, Follows, a_sign, a_space, Written, spaced, signed, named}
use Rattle.meaning.specs.ListPrint.{parted, nets_line, occurrence_break, module_break}
use Rattle.printed.specs.Words.{Spelled, net-spelled}

-- Text that may stand behind an atom at once.
pub record Apart (ps : List Part) (text : List ℕ) : Type 0 where
  pub written : Written ps text
  pub follows : Follows ps text

-- The same parts and the same text, grouped otherwise.
pub regrouped : {ps qs : List Part} {text text' : List ℕ} → ps ≡ qs → text ≡ text' → Written qs text' → Written ps text
regrouped e f w = rw (e, f) w

-- An atom in front of it.
pub atom-written : {w : Name} → Spelled w → {ps : List Part} {text : List ℕ} → Apart ps text → Written (atom w ∷ ps) (w ++ text)
atom-written {w} s {ps} {text} a =
    subst (λ (v : Name). Written (atom v ∷ ps) (w ++ text)) s.capitals (named s.letters a.follows a.written)

-- Brackets and spaces in front.
pub open_written : {ps : List Part} {text : List ℕ} → Written ps text → Written (sign opening ∷ ps) (40 ∷ text)
unfolding kind_of
open_written w = signed refl w

pub close-apart : {ps : List Part} {text : List ℕ} → Written ps text → Apart (sign closing ∷ ps) (41 ∷ text)
unfolding kind_of
close-apart w = record { written = signed refl w; follows = a_sign }

pub space-apart : {ps : List Part} {text : List ℕ} → Written ps text → Apart ps (32 ∷ text)
unfolding kind_of
space-apart w = record { written = spaced refl w; follows = a_space refl }

pub line-apart : {ps : List Part} {text : List ℕ} → Written ps text → Apart ps (10 ∷ text)
unfolding kind_of
line-apart w = record { written = spaced refl w; follows = a_space refl }

-- Nets, a space in front of each.
pub more-nets : (nets : List ℕ) {ps : List Part} {text : List ℕ} → Apart ps text
    → Apart (map atom (map net_text nets) ++ ps) (each (λ net. 32 ∷ net_text net) nets ++ text)
unfolding each
more-nets [] a = a
more-nets (n ∷ nets) {ps} {text} a =
    subst (λ (l : List ℕ). Apart (atom (net_text n) ∷ (map atom (map net_text nets) ++ ps)) (32 ∷ l))
    (sym (append_assoc (net_text n) (each (λ net. 32 ∷ net_text net) nets) text))
    (space-apart (atom-written (net-spelled n) (more-nets nets a)))

-- And with a space between any two.
pub nets-written : (nets : List ℕ) {ps : List Part} {text : List ℕ} → Apart ps text
    → Written (map atom (map net_text nets) ++ ps) (nets_line nets ++ text)
unfolding parted
nets-written [] a = a.written
nets-written (n ∷ nets) {ps} {text} a =
    regrouped refl (append_assoc (net_text n) (each (λ net. 32 ∷ net_text net) nets) text)
    (atom-written (net-spelled n) (more-nets nets a))

brackets : (inside ps : List Part) → in_brackets inside ++ ps ≡ sign opening ∷ (inside ++ (sign closing ∷ ps))
unfolding in_brackets
brackets inside ps = ap (λ (l : List Part). sign opening ∷ l) (append_assoc inside (sign closing ∷ []) ps)

-- An occurrence.
pub occurrence-parts : (d t : List Part) (r : Name) (ps : List Part)
    → in_brackets (in_brackets d ++ in_brackets (atom r ∷ t)) ++ ps
    ≡ sign opening ∷ sign opening ∷ (d ++ (sign closing ∷ sign opening ∷ atom r ∷ (t ++ (sign closing ∷ sign closing ∷ ps))))
occurrence-parts d t r ps =
    brackets (in_brackets d ++ in_brackets (atom r ∷ t)) ps
    ∙ ap (λ (l : List Part). sign opening ∷ l)
    (append_assoc (in_brackets d) (in_brackets (atom r ∷ t)) (sign closing ∷ ps)
    ∙ brackets d (in_brackets (atom r ∷ t) ++ (sign closing ∷ ps))
    ∙ ap (λ (l : List Part). sign opening ∷ (d ++ (sign closing ∷ l))) (brackets (atom r ∷ t) (sign closing ∷ ps)))

pub occurrence-text : (d r t text : List ℕ)
    → (d ++ (41 ∷ 32 ∷ 40 ∷ (r ++ (t ++ (41 ∷ 41 ∷ []))))) ++ text ≡ d ++ (41 ∷ 32 ∷ 40 ∷ (r ++ (t ++ (41 ∷ 41 ∷ text))))
occurrence-text d r t text =
    append_assoc d (41 ∷ 32 ∷ 40 ∷ (r ++ (t ++ (41 ∷ 41 ∷ [])))) text
    ∙ ap (λ (l : List ℕ). d ++ (41 ∷ 32 ∷ 40 ∷ l))
    (append_assoc r (t ++ (41 ∷ 41 ∷ [])) text ∙ ap (λ (l : List ℕ). r ++ l) (append_assoc t (41 ∷ 41 ∷ []) text))

-- Line ends and spaces between two entries.
pub data Blank : List ℕ → Type 0 where
  empty : Blank []
  next : {b : ℕ} {bs : List ℕ} → kind_of b ≡ space → Blank bs → Blank (b ∷ bs)

blank-written : {bs : List ℕ} → Blank bs → {ps : List Part} {text : List ℕ} → Written ps text → Written ps (bs ++ text)
blank-written empty w = w
blank-written (next e b) w = spaced e (blank-written b w)

module _ {A B : Type 0} (list : A → B) (parts : B → List Part) (text : A → List ℕ) {between : List ℕ} (blank : Blank between)
    (entry : (x : A) (ps : List Part) (rest : List ℕ) → Written ps rest → Written (parts (list x) ++ ps) (text x ++ rest))
  where
    later-written : (xs : List A) {ps : List Part} {rest : List ℕ} → Written ps rest
        → Written (parts_of parts (map list xs) ++ ps) (each (λ y. between ++ text y) xs ++ rest)
    unfolding parts_of each
    later-written [] w = w
    later-written (x ∷ xs) {ps} {rest} w =
        regrouped
        (append_assoc (parts (list x)) (parts_of parts (map list xs)) ps)
        (append_assoc (between ++ text x) (each (λ y. between ++ text y) xs) rest ∙ append_assoc between (text x) (each (λ y. between ++ text y) xs ++ rest))
        (blank-written blank (entry x _ _ (later-written xs w)))

    pub parted-written : (xs : List A) {ps : List Part} {rest : List ℕ} → Written ps rest
        → Written (parts_of parts (map list xs) ++ ps) (parted between text xs ++ rest)
    unfolding parts_of parted
    parted-written [] w = w
    parted-written (x ∷ xs) {ps} {rest} w =
        regrouped
        (append_assoc (parts (list x)) (parts_of parts (map list xs)) ps)
        (append_assoc (text x) (each (λ y. between ++ text y) xs) rest)
        (entry x _ _ (later-written xs w))

pub occurrence-blank : Blank occurrence_break
unfolding kind_of
occurrence-blank = next refl (next refl (next refl (next refl empty)))

pub module_blank : Blank module_break
unfolding kind_of
module_blank = next refl (next refl empty)

-- A module.
pub module-parts : (n : Name) (i o cs ps : List Part)
    → in_brackets (atom n ∷ (in_brackets i ++ (in_brackets o ++ in_brackets cs))) ++ ps
    ≡ sign opening ∷ atom n ∷ sign opening ∷ (i ++ (sign closing ∷ sign opening ∷ (o ++ (sign closing ∷ sign opening ∷ (cs ++ (sign closing ∷ sign closing ∷ ps))))))
module-parts n i o cs ps =
    brackets (atom n ∷ (in_brackets i ++ (in_brackets o ++ in_brackets cs))) ps
    ∙ ap (λ (l : List Part). sign opening ∷ atom n ∷ l)
    (append_assoc (in_brackets i) (in_brackets o ++ in_brackets cs) (sign closing ∷ ps)
    ∙ brackets i ((in_brackets o ++ in_brackets cs) ++ (sign closing ∷ ps))
    ∙ ap (λ (l : List Part). sign opening ∷ (i ++ (sign closing ∷ l)))
    (append_assoc (in_brackets o) (in_brackets cs) (sign closing ∷ ps)
    ∙ brackets o (in_brackets cs ++ (sign closing ∷ ps))
    ∙ ap (λ (l : List Part). sign opening ∷ (o ++ (sign closing ∷ l))) (brackets cs (sign closing ∷ ps))))

pub module_text : (n i o cs text : List ℕ)
    → (n ++ (32 ∷ 40 ∷ (i ++ (41 ∷ 32 ∷ 40 ∷ (o ++ (41 ∷ 10 ∷ 32 ∷ 32 ∷ 40 ∷ (cs ++ (41 ∷ 41 ∷ [])))))))) ++ text
    ≡ n ++ (32 ∷ 40 ∷ (i ++ (41 ∷ 32 ∷ 40 ∷ (o ++ (41 ∷ 10 ∷ 32 ∷ 32 ∷ 40 ∷ (cs ++ (41 ∷ 41 ∷ text)))))))
module_text n i o cs text =
    append_assoc n (32 ∷ 40 ∷ (i ++ (41 ∷ 32 ∷ 40 ∷ (o ++ (41 ∷ 10 ∷ 32 ∷ 32 ∷ 40 ∷ (cs ++ (41 ∷ 41 ∷ []))))))) text
    ∙ ap (λ (l : List ℕ). n ++ (32 ∷ 40 ∷ l))
    (append_assoc i (41 ∷ 32 ∷ 40 ∷ (o ++ (41 ∷ 10 ∷ 32 ∷ 32 ∷ 40 ∷ (cs ++ (41 ∷ 41 ∷ []))))) text
    ∙ ap (λ (l : List ℕ). i ++ (41 ∷ 32 ∷ 40 ∷ l))
    (append_assoc o (41 ∷ 10 ∷ 32 ∷ 32 ∷ 40 ∷ (cs ++ (41 ∷ 41 ∷ []))) text
    ∙ ap (λ (l : List ℕ). o ++ (41 ∷ 10 ∷ 32 ∷ 32 ∷ 40 ∷ l)) (append_assoc cs (41 ∷ 41 ∷ []) text)))
