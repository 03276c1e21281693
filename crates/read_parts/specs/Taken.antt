-- Steps of the code one after the other, and what they come to.
use Rattle.std.specs.Prelude.{ℕ, ◌≡◌, List, drop, Result, Err}
use Rattle.std.proofs.Common.{sym, ◌∙◌}
use Rattle.meaning.specs.Reading.{Reader, bind}
use Rattle.refusals.specs.declared.Refusal.{Refusal}
use Rattle.read_parts.specs.Steps.{Takes}
use Rattle.read_parts.specs.Laid.{lays-then}
use Rattle.read_parts.specs.Reached.{Reached, refused-step}
use Rattle.read_parts.specs.Alike.{Alike, skip}
use Rattle.read_parts.specs.declared.way.Spot.{Spot}

-- A thing, and then what depends on it.
pub takes-then : {A B : Type 0} {f : A → List ℕ} {r : Reader A} (next : A → Reader B)
    {bytes old mid new : List ℕ} {spot there : Spot} {way : Result Spot Refusal} (w : Reached f r bytes spot old there mid)
    → Takes (next w.thing) bytes there mid new way → Takes (bind r next) bytes spot old new way
takes-then next w u = record { answers = rw w.step u.answers; lays = lays-then w.lays u.lays }

-- The same, where nothing does.
pub takes_skip : {A B : Type 0} {f : A → List ℕ} {r : Reader A} {s : Reader B}
    {bytes old mid new : List ℕ} {spot there : Spot} {way : Result Spot Refusal}
    → Reached f r bytes spot old there mid → Takes s bytes there mid new way → Takes (skip r s) bytes spot old new way
takes_skip {s} w u = takes-then (λ _. s) w u

-- A refusal ends all that was to follow.
pub takes-ended : {A B : Type 0} {r : Reader A} (next : A → Reader B)
    {bytes old new : List ℕ} {spot : Spot} {way : Result Spot Refusal} {refusal : Refusal}
    → way ≡ Err refusal → Takes r bytes spot old new way → Takes (bind r next) bytes spot old new way
takes-ended next e t = record { answers = e ∙ rw (refused-step e t); lays = t.lays }

pub takes-alike : {A B : Type 0} {r : Reader A} {s : Reader B} {bytes old new : List ℕ} {spot : Spot} {way : Result Spot Refusal}
    → Alike r s → Takes s bytes spot old new way → Takes r bytes spot old new way
takes-alike {bytes} {spot} alike t =
    record { answers = t.answers ∙ sym (alike.same bytes spot.place (drop spot.place bytes)); lays = t.lays }
