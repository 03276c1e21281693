-- How far an atom goes.
use Rattle.std.specs.Prelude.{ℕ, suc, ◌+◌, ◌≤◌, ◌<◌, ◌≡◌, refl, List, [], ◌∷◌, map, length, take, drop, get_or}
use Rattle.std.proofs.Common.{add-one, arith, ◌∙◌, ap, drop_of_length-le, drop-cons}
use Rattle.meaning.specs.ListForm.{mark, opening, closing, stray, Kind, letter, space, Kind.sign as sign_kind, kind_of, capital}
use Rattle.meaning.specs.ListCall.{one_more, word}
use Rattle.laws.specs.Texts.Answered.{word_of}
use Rattle.text_modes.specs.Modes.{kind_code}

pub code-letter : (k : Kind) → kind_code k ≡ 4 → k ≡ letter
code-letter letter e = refl
code-letter space e = absurd (omega arith)
code-letter (sign_kind mark) e = absurd (omega arith)
code-letter (sign_kind opening) e = absurd (omega arith)
code-letter (sign_kind closing) e = absurd (omega arith)
code-letter (sign_kind stray) e = absurd (omega arith)

no_letter : (k : Kind) (c : ℕ) (w : List ℕ) → (kind_code k ≡ 4 → ⊥) → one_more k c w ≡ []
no_letter letter c w e = absurd (e refl)
no_letter space c w e = refl
no_letter (sign_kind s) c w e = refl

pub word_on : (text : List ℕ) (i : ℕ) → i < length text → kind_code (kind_of (get_or text i 0)) ≡ 4
    → length (word (drop i text)) ≡ 1 + length (word (drop (i + 1) text))
word_on text i l e =
    let k : kind_of (get_or text i 0) ≡ letter = code-letter (kind_of (get_or text i 0)) e in
    let is : word (drop i text) ≡ capital (get_or text i 0) ∷ word (drop (suc i) text)
    = ap word (drop-cons text i 0 l) ∙ word_of (get_or text i 0) (drop (suc i) text) letter k in
    let one : length (word (drop (i + 1) text)) ≡ length (word (drop (suc i) text)) = ap (λ j. length (word (drop j text))) (add-one i) in
    let long : length (word (drop i text)) ≡ suc (length (word (drop (suc i) text))) = ap length is in
    omega arith

pub word-off : (text : List ℕ) (i : ℕ) → i < length text → (kind_code (kind_of (get_or text i 0)) ≡ 4 → ⊥) → length (word (drop i text)) ≡ 0
word-off text i l e =
    ap length
    (ap word (drop-cons text i 0 l)
    ∙ word_of (get_or text i 0) (drop (suc i) text) (kind_of (get_or text i 0)) refl
    ∙ no_letter (kind_of (get_or text i 0)) (capital (get_or text i 0)) (word (drop (suc i) text)) e)

pub word_out : (text : List ℕ) (i : ℕ) → length text ≤ i → length (word (drop i text)) ≡ 0
unfolding word
word_out text i l = ap (λ rest. length (word rest)) (drop_of_length-le text l)

-- The loop along an atom.
pub record Going (text : List ℕ) (from i : ℕ) : Type 0 where
  pub few : i ≤ length text
  pub is : from + length (word (drop from text)) ≡ i + length (word (drop i text))

pub going_next : (text : List ℕ) (from i : ℕ) → i < length text → kind_code (kind_of (get_or text i 0)) ≡ 4 → Going text from i → Going text from (i + 1)
going_next text from i l e g =
    let one : _ = word_on text i l e in
    let is : _ = g.is in
    record { few = omega arith; is = omega arith }

pub going-off : (text : List ℕ) (from i : ℕ) → i < length text → (kind_code (kind_of (get_or text i 0)) ≡ 4 → ⊥) → Going text from i
    → i ≡ from + length (word (drop from text))
going-off text from i l e g = let none : _ = word-off text i l e in let is : _ = g.is in omega arith

pub going_end : (text : List ℕ) (from i : ℕ) → length text ≤ i → Going text from i → i ≡ from + length (word (drop from text))
going_end text from i l g = let none : _ = word_out text i l in let is : _ = g.is in omega arith

-- The atom is its bytes in capitals.
pub record Spelt (text : List ℕ) : Type 0 where
  pub few : length (word text) ≤ length text
  pub is : map capital (take (length (word text)) text) ≡ word text

record Begun (k : Kind) (b : ℕ) (text : List ℕ) : Type 0 where
  few : length (one_more k (capital b) (word text)) ≤ length (b ∷ text)
  is : map capital (take (length (one_more k (capital b) (word text))) (b ∷ text)) ≡ one_more k (capital b) (word text)

begun : (k : Kind) (b : ℕ) (text : List ℕ) → Spelt text → Begun k b text
begun letter b text s =
    let few : length (word text) ≤ length text = s.few in
    record { few = omega arith; is = ap (λ w. capital b ∷ w) s.is }
begun space b text s = record { few = omega arith; is = refl }
begun (sign_kind c) b text s = record { few = omega arith; is = refl }

pub spelt : (text : List ℕ) → Spelt text
unfolding word
spelt [] = record { few = omega arith; is = refl }
spelt (b ∷ text) = let g : Begun (kind_of b) b text = begun (kind_of b) b text (spelt text) in record { few = g.few; is = g.is }
