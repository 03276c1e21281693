-- `rewrite_bytes::used::seek` meets its contract. The loop's invariant: the unused numbers from here on are those that were asked for.
-- Assumes nothing.
use Prim.Native.Nat.{◌-◌}
use mathlib.Core.Path.{◌≡◌, sym, ◌∙◌}
use mathlib.Core.List.{◌∷◌}
use native.Mathlib.Omega.{arith}
use Rattle.rewrite_bytes.specs.Used.{unused_from, Seekable}
use Rattle.rewrite_bytes.proofs.Seeking.{low_of, used-here, told-used, found_here}
use Rattle.rewrite_bytes.proofs.used.seek.Statement.{statement}
use Rattle.rewrite_bytes.proofs.used.seek.Tie as tie

abbrev invariant-loop : tie.invariant-loop-i
invariant-loop table stamp from i₀ i = (s : Seekable table stamp from) → unused_from s.used i ≡ s.first ∷ s.rest

abbrev decreases-loop : tie.decreases-loop-i
decreases-loop table stamp from i₀ i = 16384 - i

pub seek_spec : {M : Type 1} → statement M
seek_spec =
    tie.close
    (tie.spec
    invariant-loop
    decreases-loop
    (λ c s. s.is)
    (λ c. let s = c.requires in omega (arith, s.long, low_of s.used c.loop-i.i (c.loop-i.invariant s)))
    (λ c. let s = c.requires in omega (arith, low_of s.used c.loop-i.i (c.loop-i.invariant s)))
    (λ c. let s = c.requires in omega (arith, low_of s.used c.loop-i.i (c.loop-i.invariant s)))
    (λ c s.
    let e = c.loop-i.invariant s in
    sym (used-here s.used c.loop-i.i (low_of s.used c.loop-i.i e) (told-used s.used s.stamped c.loop-i.i c.loop-i-test.true)) ∙ e)
    (λ c s. found_here s c.loop-i.i (c.loop-i.invariant s) c.loop-i-test.false))
