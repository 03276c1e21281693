-- A piece of text in a buffer.
use Rattle.std.specs.Prelude.{ℕ, ◌+◌, ◌≤◌, ◌≡◌, List, length, take, drop}
use Rattle.std.proofs.Common.{arith, take_at}
use Rattle.image.specs.Laid.{laid}

-- The text stands at its place, the rest is as it was, and the answer is the place behind the text, inside the buffer.
pub record PutDown (text out : List ℕ) (at : ℕ) (out' : List ℕ) (r : ℕ) : Type 0 where
  pub put : out' ≡ laid out at text
  pub next : r ≡ at + length text
  pub inside : r ≤ length out

-- A text that was put down at the front is what the buffer's first bytes are.
pub put-at-front : {text out out' : List ℕ} {r : ℕ} → PutDown text out 0 out' r → take r out' ≡ text
unfolding laid
put-at-front {text} {out} {r = r} d = rw d.put (take_at text (drop (0 + length text) out) r (omega (arith, d.next)))
