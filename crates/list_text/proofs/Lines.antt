-- The pieces that the writers of lines put down, one behind the other, are the lines of the listing.
use Prim.Native.Nat.{ℕ, ◌+◌, ◌*◌, ◌≤◌}
use mathlib.Core.Path.{◌≡◌, ap}
use mathlib.Core.List.{List, [], ◌∷◌, ◌++◌, append_assoc}
use native.Mathlib.Omega.{arith}
use lib.ListN.{length, length-append}
use Rattle.meaning.specs.Calls.{refusal, answer}
use Rattle.meaning.specs.Family.{Summary}
use Rattle.meaning.specs.Listing.{decimal, spaced, space, line_feed, refused_word, line, listing_text}
use Rattle.list_text.specs.Pieces.{PutDown}
use Rattle.list_text.specs.Rows.{behind}
use Rattle.list_text.proofs.Numbers.{length-of-number, length-of-behind, spaced-behind}

length-of-spaced : (n : ℕ) (rest : List ℕ) → length (spaced n rest) ≤ 20 + 21 * length rest
length-of-spaced n rest =
    omega
    (arith, length-of-number n, length-of-behind rest, length-append (decimal n) (behind rest), ap length (spaced-behind n rest))

-- How far a row reaches.
pub row-reaches : (n : ℕ) (rest : List ℕ) {out : List ℕ} {at : ℕ} {out' : List ℕ} {r : ℕ} → PutDown (spaced n rest) out at out' r
    → r ≤ at + 20 + 21 * length rest
row-reaches n rest d = omega (arith, d.next, length-of-spaced n rest)

-- A module's figures stand in one row with its position and number.
pub line-of-figures : (position number : ℕ) (s : Summary)
    → (let f = s.figures in
    spaced position (number ∷ f.inputs ∷ f.outputs ∷ f.gates ∷ f.size ∷ f.room ∷ f.delay ∷ f.load ∷ s.family_delay ∷ []) ++ (line_feed ∷ [])
    ≡ line position number (answer s))
unfolding line spaced
line-of-figures position number s = simp append_assoc

pub line-of-refusal : (position number refused place : ℕ)
    → ((spaced position (number ∷ []) ++ (space ∷ (refused_word ++ (space ∷ [])))) ++ decimal refused) ++ (line_feed ∷ [])
    ≡ line position number (refusal refused place)
unfolding line
line-of-refusal position number refused place = simp append_assoc

pub line-of-refused-file : (number place : ℕ)
    → ((refused_word ++ (space ∷ [])) ++ spaced number (place ∷ [])) ++ (line_feed ∷ []) ≡ listing_text (refusal number place)
line-of-refused-file number place = simp append_assoc
