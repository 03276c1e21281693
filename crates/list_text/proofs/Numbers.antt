-- Numbers of 64 bits as pieces of text: each has at most twenty digits.
use Prim.Native.Nat.{ℕ, ◌+◌, ◌*◌, ◌≤◌, ◌<◌, ◌^◌}
use mathlib.Core.Path.{◌≡◌, ap}
use mathlib.Core.List.{List, [], ◌∷◌, ◌++◌, append-nil}
use native.Mathlib.Omega.{arith}
use lib.ListN.{length, take, length-append}
use lib.Seq.{length-take-le}
use Rattle.meaning.specs.Layout.{each}
use Rattle.meaning.specs.Listing.{decimal, spaced, space}
use Rattle.list_text.specs.Digits.{Spellable, Spelt}
use Rattle.list_text.specs.Pieces.{PutDown}
use Rattle.list_text.specs.Rows.{word, behind}
use Rattle.list_text.proofs.Spelling.{length-of-decimal}
use Rattle.list_text.proofs.Pieces.{put-length}
use Rattle.list_text.proofs.Rows.{Row}

pub length-of-number : (n : ℕ) → length (decimal n) ≤ 20
unfolding decimal
length-of-number n = length-of-decimal 20 n

pub length-of-behind : (numbers : List ℕ) → length (behind numbers) ≤ 21 * length numbers
unfolding each
length-of-behind [] = omega arith
length-of-behind (n ∷ numbers) =
    let h = length-of-number n in
    let more = length-of-behind numbers in
    omega (arith, length-append (decimal n) (behind numbers))

-- A number is written where there is room for twenty digits.
pub number_spellable : {n : ℕ} {out : List ℕ} {at : ℕ} → n < 2 ^ 64 → at + 20 ≤ length out → Spellable n out at
number_spellable small room = record { most = 20; small = omega arith; some = omega arith; room = room }

pub number_put : {n : ℕ} {out : List ℕ} {at : ℕ} {out' : List ℕ} {r : ℕ} → Spelt n out at out' r → n < 2 ^ 64
    → at + 20 ≤ length out → PutDown (decimal n) out at out' r
unfolding decimal
number_put {n} s small room =
    let b = s.spelt 20 (omega arith) (omega arith) room in
    record { put = b.0; next = b.1; inside = omega (arith, b.1, length-of-number n) }

-- The first number and those behind it are the row.
pub spaced-behind : (n : ℕ) (rest : List ℕ) → decimal n ++ behind rest ≡ spaced n rest
unfolding spaced each
spaced-behind n [] = append-nil (decimal n)
spaced-behind n (m ∷ rest) = ap (λ (l : List ℕ). decimal n ++ (space ∷ l)) (spaced-behind m rest)

-- Where numbers are missing there is room for a space and one number more.
pub word_room : {numbers out₀ : List ℕ} {from : ℕ} {out : List ℕ} {at i : ℕ} → Row word numbers out₀ from out at i
    → from + 21 * length numbers ≤ length out₀ → i < length numbers → at + 21 ≤ length out
word_room {numbers} {i = i} row room more =
    let few = length-of-behind (take i numbers) in
    let long = length-take-le i numbers row.passed in
    let kept = put-length row.down in
    omega (arith, row.down.next)
