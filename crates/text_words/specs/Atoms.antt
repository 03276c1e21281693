-- Counting atoms finds those of the parts that a text consists of.
use Rattle.std.specs.Prelude.{ℕ, ◌≡◌, refl, List, [], ◌∷◌, ◌++◌, map, length}
use Rattle.std.proofs.Common.{arith, ◌∙◌, ap}
use Rattle.std.proofs.lemmas.List.{length-map}
use Rattle.std.proofs.Math.Seq.{drop-append_seam}
use Rattle.meaning.specs.ListForm.{Name, Sign, mark, opening, closing, stray, letter, space, Kind.sign as sign_kind, kind_of, capital, Part, sign, atom, Letters, last, then, Follows, nothing, a_sign, a_space, Written, ended, spaced, signed, named}
use Rattle.meaning.specs.ListCall.{word}
use Rattle.laws.specs.Texts.Answered.{word_of}
use Rattle.text_words.specs.Seeking.{to_atom, past_atom, atom_from}

-- The atoms of some parts, in order.
unfoldable pub atoms_in : List Part → List Name
atoms_in [] = []
atoms_in (sign s ∷ ps) = atoms_in ps
atoms_in (atom a ∷ ps) = a ∷ atoms_in ps

-- Behind an atom no other begins at once.
word-ends : {ps : List Part} {text : List ℕ} → Follows ps text → Written ps text → word text ≡ []
unfolding word
word-ends (a_space {b = b} {text = text} e) w = word_of b text space e
word-ends nothing ended = refl
word-ends nothing (spaced {b = b} {text = text} e w) = word_of b text space e
word-ends a_sign (spaced {b = b} {text = text} e w) = word_of b text space e
word-ends a_sign (signed {b = b} {s = s} {text = text} e w) = word_of b text (sign_kind s) e

-- The atom that letters make.
word-letters : {bs : List ℕ} (text : List ℕ) → Letters bs → word text ≡ [] → word (bs ++ text) ≡ map capital bs
word-letters text (last {b = b} e) h = word_of b text letter e ∙ ap (λ w. capital b ∷ w) h
word-letters text (then {b = b} {bs = bs} e l) h = word_of b (bs ++ text) letter e ∙ ap (λ w. capital b ∷ w) (word-letters text l h)

-- A text that begins with an atom, and what it goes on with.
record Begins (a : Name) (rest : List Name) (text : List ℕ) : Type 0 where
  is : word text ≡ a
  parts : List Part
  left : atoms_in parts ≡ rest
  written : Written parts (past_atom text)

begins_with : {bs : List ℕ} {ps : List Part} (text : List ℕ) → Letters bs → Follows ps text → Written ps text
    → Begins (map capital bs) (atoms_in ps) (bs ++ text)
begins_with {bs} {ps} text l f w =
    let is : word (bs ++ text) ≡ map capital bs = word-letters text l (word-ends f w) in
    let long : length (word (bs ++ text)) ≡ length bs = ap length is ∙ length-map bs capital in
    record {
      is = is;
      parts = ps;
      left = refl;
      written = rw (long, drop-append_seam bs text) w;
    }

-- Spaces and signs are passed.
skip-space : (b : ℕ) (text : List ℕ) → kind_of b ≡ space → to_atom (b ∷ text) ≡ to_atom text
unfolding to_atom
skip-space b text e = rw e refl

skip-sign : (b : ℕ) (text : List ℕ) (s : Sign) → kind_of b ≡ sign_kind s → to_atom (b ∷ text) ≡ to_atom text
unfolding to_atom
skip-sign b text mark e = rw e refl
skip-sign b text opening e = rw e refl
skip-sign b text closing e = rw e refl
skip-sign b text stray e = rw e refl

stay : {bs : List ℕ} (text : List ℕ) → Letters bs → to_atom (bs ++ text) ≡ bs ++ text
unfolding to_atom
stay text (last e) = rw e refl
stay text (then e l) = rw e refl

to-first : {ps : List Part} {text : List ℕ} (a : Name) (rest : List Name) → Written ps text → atoms_in ps ≡ a ∷ rest → Begins a rest (to_atom text)
unfolding atoms_in
to-first a rest ended e = absurd (let z : ◌≡◌ {A = ℕ} 0 1 = cc in omega arith)
to-first a rest (spaced {b = b} {text = text} k w) e = rw (skip-space b text k) (to-first a rest w e)
to-first a rest (signed {b = b} {s = s} {text = text} k w) e = rw (skip-sign b text s k) (to-first a rest w e)
to-first a rest (named {bs = bs} {ps = ps} {text = text} l f w) e =
    let head : map capital bs ≡ a = cc in
    let tail : atoms_in ps ≡ rest = cc in
    rw (stay text l, ← head, ← tail) (begins_with text l f w)

-- The atom that is found is that of the parts.
pub atom-found : {ps : List Part} {text : List ℕ} (before : List Name) (a : Name) (rest : List Name) → Written ps text
    → atoms_in ps ≡ before ++ (a ∷ rest) → word (atom_from (length before) text) ≡ a
unfolding atom_from
atom-found [] a rest w e = (to-first a rest w e).is
atom-found {ps = ps} {text = text} (x ∷ before) a rest w e =
    let b : Begins x (before ++ (a ∷ rest)) (to_atom text) = to-first x (before ++ (a ∷ rest)) w e in
    atom-found {ps = b.parts} {text = past_atom (to_atom text)} before a rest b.written b.left
