-- The step that an answer of the code stands for: what was read and where reading stands behind it, or the refusal.
use Rattle.std.specs.Prelude.{ℕ, ◌≡◌, refl, List, ◌++◌, length, drop, Result, Ok, Err}
use Rattle.std.proofs.Common.{ap, sym, ◌∙◌, arith}
use Rattle.meaning.specs.Reading.{Step, got, refused, Reader}
use Rattle.refusals.specs.Refused.{refusal_at}
use Rattle.refusals.specs.declared.Refusal.{Refusal}
use Rattle.read_parts.specs.Numbers.{before}
use Rattle.read_parts.specs.Sound.{Kept, on, ended, Sound}
use Rattle.read_parts.specs.Steps.{step_from, way_of, Stands, Lays, Takes}
use Rattle.read_parts.specs.Ways.{ok_not_err}
use Rattle.read_parts.specs.Laid.{laid-over, lays-length}
use Rattle.read_parts.specs.declared.way.Spot.{Spot}

-- A thing was read, which stands for the numbers that f says, and the next may begin.
pub record Reached {A : Type 0} (f : A → List ℕ) (r : Reader A) (bytes : List ℕ)
    (spot : Spot) (old : List ℕ) (next : Spot) (new : List ℕ)
    : Type 0 where
  pub thing : A
  pub step : step_from r bytes spot ≡ got thing next.place (drop next.place bytes)
  pub numbers : before bytes next.place ≡ before bytes spot.place ++ f thing
  pub stands : Stands bytes next new
  pub lays : Lays bytes spot.place next.place old new

pub reached : {A : Type 0} {f : A → List ℕ} {r : Reader A} {bytes old new : List ℕ} {spot next : Spot} {way : Result Spot Refusal} → Sound f r
    → Stands bytes spot old → way ≡ Ok next → Takes r bytes spot old new way → Reached f r bytes spot old next new
reached {A} {f} {r} {bytes} {old} {new} {spot} {next} sound stands e t =
    at (step_from r bytes spot) refl (sound.keeps bytes spot.place stands.front) (sym e ∙ t.answers) (rw e at t.lays)
  where
    at : (s : Step A) → step_from r bytes spot ≡ s → Kept f bytes spot.place s → Ok next ≡ way_of bytes s
        → Lays bytes spot.place next.place old new → Reached f r bytes spot old next new
    at (got a q rest) is (on w) e lays =
        let same : next ≡ record { place = q; filled = length (before bytes q) } = cc in
        let there : q ≡ next.place = sym (ap (λ (s : Spot). s.place) same) in
        let long = lays-length stands.room lays in
        record {
          thing = a;
          step = is ∙ rw (← there, w.left);
          numbers = rw there at w.numbers;
          stands = record {
            front = rw there at w.front;
            count = ap (λ (s : Spot). s.filled) same ∙ rw there;
            lies = rw lays.all (laid-over (before bytes next.place) (before bytes next.place) old (omega arith));
            room = omega (arith, stands.room);
          };
          lays = lays;
        }
    at (refused k q) is ended e lays = absurd (ok_not_err e)

-- Nothing was.
pub refused-step : {A : Type 0} {r : Reader A} {bytes old new : List ℕ} {spot : Spot} {way : Result Spot Refusal} {refusal : Refusal}
    → way ≡ Err refusal → Takes r bytes spot old new way → step_from r bytes spot ≡ refused refusal.number refusal.place
refused-step {A} {r} {bytes} {spot} {refusal} e t = at (step_from r bytes spot) (sym e ∙ t.answers)
  where
    at : (s : Step A) → Err refusal ≡ way_of bytes s → s ≡ refused refusal.number refusal.place
    at (got a q rest) e = absurd (ok_not_err (sym e))
    at (refused k q) e =
        let same : refusal ≡ refusal_at k q = cc in
        rw same
