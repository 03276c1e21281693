-- What is left of a list, and of numbers one after the other, once the first of them are laid.
use Rattle.std.specs.Prelude.{ℕ, suc, ◌+◌, ◌-◌, ◌<◌, ◌≤◌, ◌≡◌, List, [], ◌∷◌, ◌++◌, length, drop, get_or}
use Rattle.std.proofs.Common.{add-one, arith, length-append, drop-cons}
use Rattle.meaning.specs.Adder.{up_from}
use Rattle.laws.specs.Adder.Nets.{length-up_from}
use Rattle.write_pieces.specs.Rooms.{Room}

pub rest-of-list : (xs : List ℕ) (i : ℕ) → i < length xs → drop i xs ≡ get_or xs i 0 ∷ drop (i + 1) xs
rest-of-list xs i h = rw (add-one, drop-cons xs i 0)

pub whole_run : (first count : ℕ) → up_from (first + 0) (count - 0) ≡ up_from first count
whole_run first count =
    let from : first + 0 ≡ first = omega arith in
    let all : count - 0 ≡ count = omega arith in
    rw (from, all)

pub rest-of-run : (first count i : ℕ) → i < count
    → up_from (first + i) (count - i) ≡ (first + i) ∷ up_from (first + (i + 1)) (count - (i + 1))
unfolding up_from
rest-of-run first count i h =
    let next : first + (i + 1) ≡ suc (first + i) = omega arith in
    let left : count - i ≡ suc (count - (i + 1)) = omega arith in
    rw (next, left)

pub no_run : (first count i : ℕ) → count ≤ i → up_from (first + i) (count - i) ≡ []
unfolding up_from
no_run first count i h =
    let left : count - i ≡ 0 = omega arith in
    rw left

-- Room for a run and what stands behind it is room for as many numbers as the run has.
pub room_for_run : {list : List ℕ} {at : ℕ} (first count : ℕ) (rest : List ℕ) → Room (up_from first count ++ rest) list at
    → at + count ≤ length list
room_for_run first count rest room = omega (arith, length-append (up_from first count) rest, length-up_from first count)
