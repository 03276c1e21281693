-- How a flattening ends, once the bytes of the flattened file are known: 22, or the room cleared and the bytes written.
use Rattle.std.specs.Prelude.{Ok, Err}
use Rattle.refusals.specs.Refused.{refusal_at}
use Prim.Native.Nat.{ℕ, ◌<◌, ◌≤◌}
use mathlib.Core.Path.{◌≡◌, refl, ap}
use mathlib.Core.List.{List, ◌++◌}
use lib.ListN.{length, drop, replicate}
use borrow.Author.Tests.{le-leb, lt-leb}
use Rattle.bytes_out.specs.Filled.{Filled}
use Rattle.answers.specs.Settled.{Settles}
use Rattle.meaning.specs.Calls.{fitting}

module _ (bytes : List ℕ) (cleared : ℕ) (scratch out : List ℕ) where
  pub ends-short : length out < length bytes → Settles (fitting bytes cleared (length out)) scratch out scratch out (Err (refusal_at 22 0))
  ends-short short =
      rw (lt-leb (length bytes) (length out) short) (record { answered = record { is = refl; out = refl }; scratched = refl })

  pub ends-written :
      {scratch' out' : List ℕ} {count : ℕ}
      → length bytes ≤ length out
      → scratch' ≡ replicate cleared 0 ++ drop cleared scratch
      → Filled bytes out out' count
      → Settles (fitting bytes cleared (length out)) scratch out scratch' out' (Ok count)
  ends-written room clear filled =
      rw (le-leb (length bytes) (length out) room)
      (record { answered = record { is = ap Ok filled.size; out = rw (← filled.size) filled.holds }; scratched = clear })
