-- The pieces of which the lists and the occurrences of module 41 are put together.
use Prim.Native.Nat.{ℕ, suc, ◌+◌, ◌*◌}
use native.Mathlib.Numerals.{add-one}
use native.Mathlib.Omega.{arith}
use mathlib.Core.Path.{◌≡◌}
use mathlib.Core.List.{List, [], ◌∷◌, ◌++◌, append-nil}
use lib.ListN.{length}
use Rattle.meaning.specs.Syntax.{Occurrence}
use Rattle.meaning.specs.Layout.{each, list_numbers, occurrence_numbers, number_bytes}
use Rattle.meaning.specs.Adder.{up_from}
use Rattle.meaning.specs.FastAdder.{gate_on3, AND3}
use Rattle.laws.specs.Lists.{each_append}
use Rattle.laws.specs.Adder.Nets.{length-up_from}
use Rattle.write_ahead.specs.Carries.{bytes_of, over_two, two_bytes, ahead_from, join_bytes}

abbrev pub pass_bytes : (p x y z : ℕ) → List ℕ
pass_bytes p x y z = each number_bytes (1 ∷ p ∷ AND3 ∷ 3 ∷ x ∷ y ∷ z ∷ [])

abbrev pub make_bytes : (n p x y z : ℕ) → List ℕ
make_bytes n p x y z = two_bytes n (p + n) (x + n) y z

bytes-of-two : (o o' : Occurrence)
    → bytes_of (o ∷ o' ∷ []) ≡ each number_bytes (occurrence_numbers o) ++ each number_bytes (occurrence_numbers o')
unfolding each
bytes-of-two o o' = simp (each_append, append-nil)

pub bytes-of-join : (n p x y z : ℕ) → join_bytes n p x y z ≡ pass_bytes p x y z ++ make_bytes n p x y z
unfolding occurrence_numbers
bytes-of-join n p x y z = bytes-of-two (gate_on3 p AND3 x y z) (over_two n (p + n) (x + n) y z)

-- A module's number, and the carry with the bits behind it.
pub bytes-of-carry-and-bits : (number n carry first : ℕ)
    → each number_bytes (number ∷ list_numbers (carry ∷ up_from first (2 * n)))
    ≡ each number_bytes (number ∷ (2 * n + 1) ∷ carry ∷ []) ++ each number_bytes (up_from first (2 * n))
bytes-of-carry-and-bits number n carry first =
    let count : length (carry ∷ up_from first (2 * n)) ≡ 2 * n + 1 = omega (arith, length-up_from first (2 * n)) in
    rw (count, ← each_append number_bytes (number ∷ (2 * n + 1) ∷ carry ∷ []) (up_from first (2 * n)))

pub bytes-of-carries : (n carry : ℕ)
    → each number_bytes (list_numbers (up_from (suc carry) n))
    ≡ each number_bytes (n ∷ []) ++ each number_bytes (up_from (carry + 1) n)
bytes-of-carries n carry =
    rw (add-one carry, length-up_from (suc carry) n, ← each_append number_bytes (n ∷ []) (up_from (suc carry) n))

pub bytes-of-ahead : (n carry first : ℕ)
    → each number_bytes (occurrence_numbers (ahead_from n carry first))
    ≡ each number_bytes (list_numbers (up_from (suc carry) n))
    ++ each number_bytes (41 ∷ list_numbers (carry ∷ up_from first (2 * n)))
unfolding occurrence_numbers
bytes-of-ahead n carry first =
    each_append number_bytes (list_numbers (up_from (suc carry) n)) (41 ∷ list_numbers (carry ∷ up_from first (2 * n)))
