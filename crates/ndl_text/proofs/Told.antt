-- What is told of numbers that stand in the file's: the parts that are lent on.
use Prim.Native.Nat.{ℕ, ◌+◌, ◌-◌}
use mathlib.Core.Path.{◌≡◌, ap, subst, ◌∙◌}
use mathlib.Core.List.{List, ◌++◌}
use native.Mathlib.Omega.{arith}
use lib.ListN.{length, take, drop}
use Rattle.meaning.specs.Syntax.{Occurrence}
use Rattle.meaning.specs.Layout.{occurrence_numbers}
use Rattle.write_pieces.specs.Rooms.{Room}
use Rattle.image.specs.Stands.{Stands, stands-tail, stands-front, stands-part}
use Rattle.ndl_text.specs.Parts.{driven_text, taken_text, occurrence-of-parts}
use Rattle.ndl_text.specs.Standing.{OccurrenceTold}

pub part-between : {im xs : List ℕ} (at to : ℕ) → Stands im at xs → to ≡ at + length xs → take (to - at) (drop at im) ≡ xs
part-between {im} {xs} at to s e =
    let count : to - at ≡ length xs = omega (arith, e) in
    ap (λ (n : ℕ). take n (drop at im)) count ∙ stands-part s

pub drives-stand : {im : List ℕ} {from : ℕ} (o : Occurrence) → Stands im from (occurrence_numbers o) → Stands im (from + 1) o.drives
unfolding occurrence_numbers
drives-stand o s = stands-front _ (stands-tail s)

-- Room for an occurrence is room for its two parts.
pub room-of-parts : {names numbers : List ℕ} {from position : ℕ} {out : List ℕ} {at : ℕ} (t : OccurrenceTold names numbers from position out at)
    → Room (driven_text position t.o.drives ++ taken_text names t.o.refers t.o.takes) out at
room-of-parts {names} {position = position} {out = out} {at = at} t =
    subst (λ (text : List ℕ). Room text out at) (occurrence-of-parts names position t.o) t.room
