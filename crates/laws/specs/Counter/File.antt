-- The counter's file at each width from 1 to 64: its numbers are few, each is its own byte, and they are within the ceilings. So
-- reading its bytes gives it back, and the check accepts them.
use Rattle.std.specs.Prelude.{ℕ, ◌≤◌, ◌≡◌}
use Rattle.std.proofs.Common.{ap, ◌∙◌, arith}
use Rattle.meaning.specs.Layout.{file_numbers, encode}
use Rattle.meaning.specs.Reading.{holds, read}
use Rattle.meaning.specs.Ceilings.{Within}
use Rattle.meaning.specs.Verdict.{good, verdict_of, verdict}
use Rattle.meaning.specs.Counter.{counter}
use Rattle.laws.specs.RoundTrip.{round_trip}
use Rattle.laws.specs.Counter.Low.{bytes-are-numbers, low-within}
use Rattle.laws.specs.Counter.Numbers.{counter-low}
pub use Rattle.laws.specs.Counter.Lengths.{counter-numbers-few}
pub use Rattle.laws.specs.Counter.Accepted.{counter-accepted}

pub bytes-of-counter : (n : ℕ) → 1 ≤ n → n ≤ 64 → encode (counter n) ≡ file_numbers (counter n)
bytes-of-counter n some most = bytes-are-numbers (counter n) (counter-low n most)

pub counter-within : (n : ℕ) → 1 ≤ n → n ≤ 64 → Within (counter n)
counter-within n some most = low-within (counter n) (counter-low n most) (omega (arith, counter-numbers-few n some most))

pub counter-read-back : (n : ℕ) → 1 ≤ n → n ≤ 64 → read (encode (counter n)) ≡ holds (counter n)
counter-read-back n some most = round_trip (counter n) (counter-within n some most)

pub counter-file-accepted : (n : ℕ) → 1 ≤ n → n ≤ 64 → verdict (encode (counter n)) ≡ good
unfolding verdict
counter-file-accepted n some most = ap verdict_of (counter-read-back n some most) ∙ counter-accepted n some most
