-- A count that has been laid out is read back, and as many things are due as it says.
use Rattle.std.specs.Prelude.{ℕ, ◌-◌, ◌≤◌, ◌≡◌, refl, Bool, true, false, cond, List, leb, length, drop, Result, Ok}
use Rattle.std.proofs.Common.{ap, sym, arith, leb-true, length-append}
use Rattle.meaning.specs.Reading.{Step, got, refused, Reader, onward, bind, read_number, read_count, read_many}
use Rattle.laws.specs.Reading.{refused_not_got}
use Rattle.refusals.specs.declared.Refusal.{Refusal}
use Rattle.read_parts.specs.Numbers.{before}
use Rattle.read_parts.specs.Places.{before-length}
use Rattle.read_parts.specs.Sound.{one, sound-count}
use Rattle.read_parts.specs.Steps.{Stands, Takes, Some, last_of}
use Rattle.read_parts.specs.Laid.{laid-last}
use Rattle.read_parts.specs.Reached.{Reached, reached}
use Rattle.read_parts.specs.Taken.{takes-then}
use Rattle.read_parts.specs.declared.way.Spot.{Spot}

-- A count was read, and it is the last of the numbers that are laid out by then.
pub record CountTaken (ceiling : ℕ) (bytes : List ℕ) (spot : Spot) (old : List ℕ) (next : Spot) (mid : List ℕ) : Type 0 where
  pub there : Reached one (read_count ceiling) bytes spot old next mid
  pub some : Some next mid
  pub value : there.thing ≡ last_of next mid
  pub small : last_of next mid ≤ ceiling

count_small : (ceiling p : ℕ) (bytes : List ℕ) (v q : ℕ) (rest : List ℕ) → read_count ceiling p bytes ≡ got v q rest → v ≤ ceiling
unfolding read_count
count_small ceiling p bytes v q rest = at (read_number p bytes)
  where
    kept : (n o : ℕ) (left : List ℕ) (t : Bool) → leb n ceiling ≡ t → cond t (got n o left) (refused 4 p) ≡ got v q rest → v ≤ ceiling
    kept n o left true t e = let same : n ≡ v = cc in let h = leb-true n ceiling t in omega arith
    kept n o left false t e = absurd (refused_not_got e)

    at : (s : Step ℕ) → onward (λ n o left. cond (leb n ceiling) (got n o left) (refused 4 p)) s ≡ got v q rest → v ≤ ceiling
    at (got n o left) e = kept n o left (leb n ceiling) refl e
    at (refused number place) e = absurd (refused_not_got e)

pub counted : (ceiling : ℕ) {bytes old mid : List ℕ} {spot next : Spot} {way : Result Spot Refusal} → Stands bytes spot old → way ≡ Ok next
    → Takes (read_count ceiling) bytes spot old mid way → CountTaken ceiling bytes spot old next mid
counted ceiling {bytes} {old} {mid} {spot} {next} stands e t = at (reached (sound-count ceiling) stands e t)
  where
    at : Reached one (read_count ceiling) bytes spot old next mid → CountTaken ceiling bytes spot old next mid
    at w =
        let more = simp length-append at (ap length w.numbers) in
        let last : next.filled - 1 ≡ length (before bytes spot.place) = omega (arith, w.stands.count) in
        let value : last_of next mid ≡ w.thing =
        rw (w.lays.all, w.numbers, laid-last (before bytes spot.place) old (next.filled - 1) w.thing last)
        in
        let few = before-length bytes next.place in
        record {
          there = w;
          some = record { any = omega (arith, w.stands.count); within = omega (arith, w.stands.count, w.stands.room) };
          value = sym value;
          small = rw value (count_small ceiling spot.place (drop spot.place bytes) w.thing next.place _ w.step);
        }

-- As many things are due as the count says.
pub takes-list : {A : Type 0} (r : Reader A) {ceiling : ℕ} {bytes old mid new : List ℕ} {spot next : Spot} {way : Result Spot Refusal}
    {count : ℕ} → CountTaken ceiling bytes spot old next mid → count ≡ last_of next mid → Takes (read_many r count) bytes next mid new way
    → Takes (bind (read_count ceiling) (read_many r)) bytes spot old new way
takes-list r c e u = takes-then (read_many r) c.there (rw (c.value, ← e) u)
