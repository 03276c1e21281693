-- `file::put_blocks` meets its contract. The loop's invariant: the blocks of the modules passed stand, and the numbers of those left stand at
-- the pen. Assumes nothing.
use Prim.Native.Nat.{◌-◌}
use native.Mathlib.Omega.{arith}
use mathlib.Core.Path.{refl}
use Rattle.write_pieces.specs.Laying.{laying-length}
use Rattle.ndl_text.specs.Standing.{ModulesTold}
use Rattle.ndl_text.proofs.Blocks.{Blocks, blocks_start, next-told, blocks_more, blocks-all}
use Rattle.ndl_text.proofs.file.put_blocks.Statement.{statement}
use Rattle.ndl_text.proofs.file.put_blocks.Tie as tie

abbrev invariant-loop : tie.invariant-loop
invariant-loop names numbers from count out₀ at pen₀ counter₀ out pen counter = (t : ModulesTold names numbers from count out₀ at) → Blocks t counter out pen

abbrev decreases-loop : tie.decreases-loop
decreases-loop names numbers from count out₀ at pen₀ counter₀ out pen counter = count - counter

put-requires : tie.Need-put-pen-requires invariant-loop decreases-loop
put-requires c κs =
    let t = c.requires in
    next-told t (c.loop.invariant t) c.loop-test.true

loop-again : tie.Need-loop-preserved invariant-loop decreases-loop
loop-again c t =
    blocks_more t (c.loop.invariant t) c.loop-test.true c.put-pen.ensures

returns : tie.Need-returns invariant-loop decreases-loop
returns c t = blocks-all t (c.loop.invariant t) c.loop-test.false

pub put_blocks_spec : {M : Type 1} → statement M
put_blocks_spec =
    tie.close
    (tie.spec
    invariant-loop
    decreases-loop
    (λ c t. blocks_start t _ refl refl)
    put-requires
    (λ c. omega (arith, c.loop-test.true))
    (λ c. omega (arith, c.loop-test.true))
    loop-again
    (λ c. let t = c.requires in laying-length (c.loop.invariant t).laid)
    returns)
