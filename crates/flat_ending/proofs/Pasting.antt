-- The two parts of a list at its front, pasted into a buffer in the other order.
use Prim.Native.Nat.{ℕ, ◌+◌, ◌-◌, ◌≤◌, zero-le}
use mathlib.Core.Path.{◌≡◌, ◌∙◌}
use mathlib.Core.List.{List, append_assoc}
use native.Mathlib.Omega.{arith}
use lib.ListN.{length, take, drop, length-append, length-drop}
use lib.Seq.{paste, length-take-le}
use Rattle.bytes_out.specs.Filled.{Put, Filled}
use Rattle.bytes_out.specs.Puts.{put-more, put_front}
use Rattle.flat_ending.specs.Order.{front_first}

pasted_put :
    (before : List ℕ) (at : ℕ) (source : List ℕ) (count : ℕ) {after : List ℕ} {next : ℕ}
    → count ≤ length source
    → next ≡ at + count
    → after ≡ paste before at source count
    → Put (take count source) before at after next
pasted_put before at source count {next = next} long place e =
    record {
      place = omega (arith, place, length-take-le count source long);
      holds = e ∙ rw place (append_assoc (take at before) (take count source) (drop (at + count) before));
    }

module _ (bytes : List ℕ) (seam whole : ℕ) (inside : seam ≤ whole) (within : whole ≤ length bytes) where
  front_long : whole - seam ≤ length (drop seam bytes)
  front_long = omega (arith, length-drop seam bytes)

  pub length-of-parts : length (front_first bytes seam whole) ≡ whole
  length-of-parts =
      length-append (take (whole - seam) (drop seam bytes)) (take seam bytes)
      ∙ omega (
        arith,
        length-take-le (whole - seam) (drop seam bytes) front_long,
        length-take-le seam bytes (omega arith),
      )

  pub parts_pasted :
      {before middle after : List ℕ}
      → middle ≡ paste before 0 (drop seam bytes) (whole - seam)
      → after ≡ paste middle (whole - seam) bytes seam
      → Filled (front_first bytes seam whole) before after whole
  parts_pasted {before} {middle} first second =
      put_front
      (put-more (pasted_put before 0 (drop seam bytes) (whole - seam) {next = whole - seam} front_long (omega arith) first) zero-le
      (pasted_put middle (whole - seam) bytes seam (omega arith) (omega arith) second))
