-- The bytes of the written adder in the order in which they are written: its file module by module, and module 18 piece by piece.
use Prim.Native.Nat.{ℕ, ◌+◌, ◌*◌}
use mathlib.Core.Path.{◌≡◌, refl}
use mathlib.Core.List.{List, [], ◌∷◌, ◌++◌, append_assoc, append-nil}
use Rattle.meaning.specs.Layout.{each, occurrence_numbers, module_numbers, file_numbers, number_bytes, encode}
use Rattle.meaning.specs.Adder.{up_from, ripple_adder, full_adder, half_adder, adder}
use Rattle.laws.specs.Lists.{each_append}
use Rattle.laws.specs.Adder.Numbers.{cells_numbers, numbers-of-first}

-- No number of modules 17 and 16 passes 127: their numbers are their bytes.
bytes-of-full : each number_bytes (module_numbers full_adder) ≡ module_numbers full_adder
unfolding each module_numbers occurrence_numbers number_bytes
bytes-of-full = refl

bytes-of-half : each number_bytes (module_numbers half_adder) ≡ module_numbers half_adder
unfolding each module_numbers occurrence_numbers number_bytes
bytes-of-half = refl

bytes-of-modules : (xs ys zs : List ℕ)
    → each number_bytes (3 ∷ (xs ++ (ys ++ (zs ++ []))))
    ≡ 3 ∷ (each number_bytes xs ++ (each number_bytes ys ++ each number_bytes zs))
unfolding each number_bytes
bytes-of-modules xs ys zs = simp (each_append, append-nil)

pub file-of-modules : (n : ℕ)
    → encode (adder n) ≡ 3 ∷ (each number_bytes (module_numbers (ripple_adder n)) ++ (module_numbers full_adder ++ module_numbers half_adder))
unfolding encode file_numbers adder each
file-of-modules n =
    rw (bytes-of-modules (module_numbers (ripple_adder n)) (module_numbers full_adder) (module_numbers half_adder), bytes-of-full, bytes-of-half)

abbrev pub ripple_bytes : ℕ → List ℕ
ripple_bytes n =
    each number_bytes (18 ∷ (2 * n + 1) ∷ [])
    ++ (each number_bytes (up_from 0 (2 * n + 1))
    ++ (each number_bytes ((n + 1) ∷ [])
    ++ (each number_bytes (up_from (2 * n + 1) n)
    ++ (each number_bytes ((4 * n) ∷ n ∷ [])
    ++ each number_bytes (cells_numbers 1 (n + 1) (2 * n + 1) (3 * n + 1) 0 n)))))

pub bytes-of-ripple : (n : ℕ) → each number_bytes (module_numbers (ripple_adder n)) ≡ ripple_bytes n
unfolding each
bytes-of-ripple n = rw (numbers-of-first n) (simp (each_append, append_assoc, append-nil))
