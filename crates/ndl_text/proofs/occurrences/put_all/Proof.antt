-- `occurrences::put_all` meets its contract. The loop's invariant: the occurrences passed are told, and the numbers of those left stand at
-- the pen. Assumes nothing.
use Prim.Native.Nat.{◌-◌}
use native.Mathlib.Omega.{arith}
use mathlib.Core.Path.{refl}
use Rattle.write_pieces.specs.Laying.{laying-length}
use Rattle.ndl_text.specs.Standing.{OccurrencesTold}
use Rattle.ndl_text.proofs.Going.{Going, going_start, going-all, next-told, going_more}
use Rattle.ndl_text.proofs.occurrences.put_all.Statement.{statement}
use Rattle.ndl_text.proofs.occurrences.put_all.Tie as tie

abbrev invariant-loop : tie.invariant-loop-i
invariant-loop names numbers from count out₀ at pen₀ i₀ out pen i = (t : OccurrencesTold names numbers from count out₀ at) → Going t i out pen

abbrev decreases-loop : tie.decreases-loop-i
decreases-loop names numbers from count out₀ at pen₀ i₀ out pen i = count - i

abbrev start : tie.In-loop-i invariant-loop decreases-loop → tie.Start invariant-loop decreases-loop
start c =
    c.before.before.before.before.before

put-requires : tie.Need-put-pen-requires invariant-loop decreases-loop
put-requires c κs =
    let t = (start c.before).requires in
    next-told t (c.loop-i.invariant t) c.loop-i-test.true

loop-again : tie.Need-loop-i-preserved invariant-loop decreases-loop
loop-again c t =
    going_more t (c.loop-i.invariant t) c.loop-i-test.true c.put-pen.ensures

returns : tie.Need-returns invariant-loop decreases-loop
returns c t = going-all t (c.loop-i.invariant t) c.loop-i-test.false

pub put_all_spec : {M : Type 1} → statement M
put_all_spec =
    tie.close
    (tie.spec
    invariant-loop
    decreases-loop
    (λ c t. going_start t _ refl refl)
    (λ c. omega (arith, (start c).requires.all, (start c).requires.few, c.loop-i-test.true))
    put-requires
    (λ c. omega (arith, c.loop-i-test.true))
    (λ c. omega (arith, c.loop-i-test.true))
    loop-again
    (λ c. let t = c.requires in laying-length (c.loop-i.invariant t).laid)
    returns)
