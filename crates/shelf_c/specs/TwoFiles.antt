-- What a C caller gets of a call on two files: where a module's bytes stand, written only where there are any.
use Rattle.std.specs.Prelude.{ℕ, length}
use Rattle.meaning.specs.Calls.{Decision, refusal, answer}
use Rattle.meaning.specs.Shelves.{Part}

abbrev pub start_after : Decision Part → ℕ → ℕ
start_after (refusal number place) before = before
start_after (answer part) before = part.start

abbrev pub length_after : Decision Part → ℕ → ℕ
length_after (refusal number place) before = before
length_after (answer part) before = length part.bytes
