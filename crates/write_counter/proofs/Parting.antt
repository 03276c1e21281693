-- The parts of module 32 that a loop over the width's digits lays: what is laid, and what the digits left come to, make all. The bits
-- of what is laid are fewer than those of the next part.
use Prim.Native.Nat.{ℕ, ◌+◌, ◌*◌, ◌^◌, ◌/◌, ◌%◌, ◌≤◌, ◌<◌}
use native.Mathlib.Nat.{pow-suc}
use native.Mathlib.Numerals.{add-one}
use native.Mathlib.Omega.{arith}
use mathlib.Core.Path.{◌≡◌}
use mathlib.Core.Bool.{true}
use mathlib.Core.List.{List, [], ◌∷◌, ◌++◌}
use lib.Pow.{pow_mono}
use Rattle.meaning.specs.Counter.{digits}
use Rattle.bytes_out.specs.Filled.{Put}
use Rattle.write_pieces.specs.Rooms.{Room}
use Rattle.bytes_out.specs.Laying.{Laying}
use Rattle.write_pieces.specs.Laying.{laying-start, laying-left, laying-put, room-first}
use Rattle.write_counter.proofs.Digits.{digit-one, digit-zero}
use Rattle.write_counter.proofs.PartNumbers.{parts_numbers, parts-behind_0, parts-behind_1}
use Rattle.write_counter.proofs.Running.{Running, running-start, running-one, running-zero, level_within}

pub record Parting (width left level bits count below : ℕ) (before : List ℕ) (at : ℕ) (after : List ℕ) (next : ℕ) : Type 0 where
  pub running : Running width left level count below
  pub fewer : bits < 2 ^ level
  pub laying : Laying (parts_numbers 0 0 0 width (digits width)) (parts_numbers level bits count below (digits left)) before at after next

pub parting-start : {before : List ℕ} {at : ℕ} (width : ℕ) → width ≤ 64 → Room (parts_numbers 0 0 0 width (digits width)) before at
    → Parting width width 0 0 0 width before at before at
parting-start width most room =
    record { running = running-start width most; fewer = omega arith; laying = laying-start room }

module _ {width left level bits count below : ℕ} {before : List ℕ} {at : ℕ} {after : List ℕ} {next : ℕ}
    (p : Parting width left level bits count below before at after next)
  where
    -- At a digit 1 the next part comes first of what is left.
    module _ (one : left % 2 ≡ 1) where
      part-next : Laying (parts_numbers 0 0 0 width (digits width))
          (parts_numbers level bits count below (true ∷ [])
          ++ parts_numbers (level + 1) (bits + 2 ^ level) (level + 1) (below + 3 * count) (digits (left / 2)))
          before at after next
      part-next = rw (digit-one left one, parts-behind_1 level bits count below (digits (left / 2))) at p.laying

      pub part_room : Room (parts_numbers level bits count below (true ∷ [])) after next
      part_room = room-first _ (laying-left part-next)

      pub bits-within : bits ≤ 64
      bits-within =
          let within = level_within p.running (omega arith) in
          omega (arith, p.fewer, pow_mono {i = level} {j = 6} within)

      pub parting-one : {size : ℕ} {later : List ℕ} {place : ℕ} → size ≡ 2 ^ level
          → Put (parts_numbers level bits count below (true ∷ [])) after next later place
          → Parting width (left / 2) (level + 1) (bits + size) (level + 1) (below + 3 * count) before at later place
      parting-one same put =
          rw same
          (record {
            running = running-one p.running one;
            fewer = rw (add-one level) (omega (arith, p.fewer, pow-suc 2 level));
            laying = laying-put put part-next;
          })

    pub parting-zero : 0 < left → (left % 2 ≡ 1 → ⊥) → Parting width (left / 2) (level + 1) bits count below before at after next
    parting-zero some other =
        record {
          running = running-zero p.running some other;
          fewer = rw (add-one level) (omega (arith, p.fewer, pow-suc 2 level));
          laying = rw (digit-zero left some other, parts-behind_0 level bits count below (digits (left / 2))) at p.laying;
        }
