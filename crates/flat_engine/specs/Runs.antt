-- Numbers in a row, as nets and as slots: the first of them, and what a frame has at such slots.
use Rattle.std.specs.Prelude.{ℕ, zero, suc, ◌+◌, ◌≤◌, ◌≡◌, refl, List, ◌∷◌, length, take, drop}
use Rattle.std.proofs.Common.{ap₂, arith, drop-cons}
use Rattle.meaning.specs.Adder.{up_from}
use Rattle.image.specs.Frames.{read_slots}

pub take-run : (first n count : ℕ) → n ≤ count → take n (up_from first count) ≡ up_from first n
unfolding up_from
take-run first zero count h = refl
take-run first (suc n) zero h = absurd (omega arith)
take-run first (suc n) (suc count) h = ap₂ {C = List ℕ} ◌∷◌ refl (take-run (suc first) n count (omega arith))

pub read-run :
    (frame : List ℕ) (first n : ℕ) → first + n ≤ length frame → read_slots 0 frame (up_from first n) ≡ take n (drop first frame)
unfolding read_slots up_from
read-run frame first zero h = refl
read-run frame first (suc n) h =
    rw (drop-cons frame first 0 (omega arith)) (ap₂ {C = List ℕ} ◌∷◌ refl (read-run frame (suc first) n (omega arith)))
