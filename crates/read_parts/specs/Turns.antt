-- A loop that reads as many things as a count says: the way of what is left is the way of all of it.
use Rattle.std.specs.Prelude.{ℕ, suc, ◌-◌, ◌≤◌, ◌<◌, ◌≡◌, refl, List, drop, Result, Ok, Err}
use Rattle.std.proofs.Math.Path.{ap}
use Rattle.std.proofs.Common.{sym, ◌∙◌}
use native.Mathlib.Omega.{arith}
use Rattle.std.proofs.Math.ListN.{length}
use Rattle.meaning.specs.Reading.{Reader, read_many}
use Rattle.refusals.specs.declared.Refusal.{Refusal}
use Rattle.read_parts.specs.Numbers.{before}
use Rattle.read_parts.specs.Steps.{step_from, way_of, Stands, Lays, Takes}
use Rattle.read_parts.specs.Laid.{lays-none, lays-then, lays-length}
use Rattle.read_parts.specs.Reached.{Reached}
use Rattle.read_parts.specs.Alike.{skip, alike-many}
use Rattle.read_parts.specs.Taken.{takes-ended}
use Rattle.read_parts.specs.declared.way.Spot.{Spot}

-- Of `count` things from `start` on, so many are left, and reading stands at `spot`.
pub record Turning {A : Type 0} (r : Reader A) (bytes : List ℕ) (start : Spot) (count : ℕ) (old : List ℕ)
    (left : ℕ) (spot : Spot) (now : List ℕ)
    : Type 0 where
  pub stands : Stands bytes spot now
  pub due : way_of bytes (step_from (read_many r left) bytes spot) ≡ way_of bytes (step_from (read_many r count) bytes start)
  pub lays : Lays bytes start.place spot.place old now
  pub long : length now ≡ length old

pub turn-first : {A : Type 0} {r : Reader A} {bytes old : List ℕ} {count : ℕ} {spot : Spot} → Stands bytes spot old
    → Turning r bytes spot count old count spot old
turn-first stands = record { stands = stands; due = refl; lays = lays-none stands; long = refl }

module _ {A : Type 0} {r : Reader A} {bytes old now : List ℕ} {start spot : Spot} {count left : ℕ}
    (t : Turning r bytes start count old left spot now) where
  -- Nothing is left.
  pub turn_last : left ≤ 0 → Takes (read_many r count) bytes start old now (Ok spot)
  unfolding read_many
  turn_last h =
      let none : left ≡ 0 = omega arith in
      let here : Ok spot ≡ Ok (record { place = spot.place; filled = length (before bytes spot.place) }) =
      ap (λ (m : ℕ). Ok (record { place = spot.place; filled = m })) t.stands.count
      in
      record { answers = here ∙ rw none at t.due; lays = t.lays }

  -- One thing is due, and then the rest.
  due-next : 0 < left
      → way_of bytes (step_from (skip r (read_many r (left - 1))) bytes spot) ≡ way_of bytes (step_from (read_many r count) bytes start)
  due-next h =
      let e : left ≡ suc (left - 1) = omega arith in
      sym ((alike-many r (left - 1)).same bytes spot.place (drop spot.place bytes)) ∙ rw (← e) t.due

  pub turn-refused : {new : List ℕ} {way : Result Spot Refusal} {refusal : Refusal} → 0 < left → way ≡ Err refusal
      → Takes r bytes spot now new way → Takes (read_many r count) bytes start old new way
  turn-refused h e u =
      record {
        answers = (takes-ended (λ _. read_many r (left - 1)) e u).answers ∙ due-next h;
        lays = lays-then t.lays u.lays;
      }

  pub turn-next : {f : A → List ℕ} {new : List ℕ} {next : Spot} → 0 < left → Reached f r bytes spot now next new
      → Turning r bytes start count old (left - 1) next new
  turn-next h w =
      record {
        stands = w.stands;
        due = rw w.step at (due-next h);
        lays = lays-then t.lays w.lays;
        long = lays-length t.stands.room w.lays ∙ t.long;
      }
