-- What a file has of a number.
use Rattle.std.specs.Prelude.{ℕ, List, length, Option, Some, None, Result, Ok, Err}
use Rattle.meaning.specs.Syntax.{Module}
use Rattle.meaning.specs.Boxlist.{Found, box, F, assoc}
use Rattle.meaning.specs.Reading.{File, holds, fails}
use Rattle.meaning.specs.Shelves.{part_of}
use Rattle.refusals.specs.Refused.{refusal_at}
use Rattle.refusals.specs.declared.Refusal.{Refusal}
use Rattle.call_look_up.specs.declared.seeking.Stretch.{Stretch}

abbrev pub sought_in : (number : ℕ) (ms : List Module) → Found → Option Stretch
sought_in number ms (box m) =
    let part = part_of number ms m in
    Some (record { start = part.start; length = length part.bytes })
sought_in number ms F = None

abbrev pub sought_of : (number : ℕ) → File → Result (Option Stretch) Refusal
sought_of number (holds ms) = Ok (sought_in number ms (assoc number ms))
sought_of number (fails why place) = Err (refusal_at why place)
