-- `nets::put_more` meets its contract. The loop's invariant: what is laid and the text of the nets left make the whole. Assumes nothing.
use Prim.Native.Nat.{◌+◌, ◌-◌}
use native.Mathlib.Omega.{arith}
use mathlib.Core.Path.{◌≡◌}
use mathlib.Core.List.{◌++◌}
use lib.ListN.{drop, get_or, drop_of_length-le}
use Rattle.meaning.specs.Layout.{each}
use Rattle.laws.specs.Lists.{all-at}
use Rattle.bytes_out.specs.Laying.{Laying}
use Rattle.write_pieces.specs.Laying.{laying-start, laying-length, laying-room, laying-more, laying-all}
use Rattle.write_pieces.specs.Runs.{rest-of-list}
use Rattle.ndl_pieces.specs.Apart.{signed}
use Rattle.ndl_pieces.proofs.Lists.{more-next, more-none}
use Rattle.ndl_pieces.proofs.nets.put_more.Statement.{statement}
use Rattle.ndl_pieces.proofs.nets.put_more.Tie as tie

abbrev invariant-loop : tie.invariant-loop-i
invariant-loop sign nets out₀ at at₀ i₀ i-end out at' i = Laying (each (signed sign) nets) (each (signed sign) (drop i nets)) out₀ at out at'

abbrev decreases-loop : tie.decreases-loop-i
decreases-loop sign nets out₀ at at₀ i₀ i-end out at' i = i-end - i

-- In a turn the text of a net comes first of those left.
next : (c : tie.In-loop-i invariant-loop decreases-loop)
    → each (signed c.args.sign) (drop c.loop-i.i c.args.nets.now)
    ≡ signed c.args.sign (get_or c.args.nets.now c.loop-i.i 0)
    ++ each (signed c.args.sign) (drop (c.loop-i.i + 1) c.args.nets.now)
next c = more-next c.args.sign (rest-of-list c.args.nets.now c.loop-i.i c.loop-i-test.true)

put-requires : tie.Need-put_signed-at-requires invariant-loop decreases-loop
put-requires c κs =
    let loop = c.loop-i in (
      all-at c.requires.0 loop.i 0 c.loop-i-test.true,
      omega (arith, laying-room loop.invariant (signed _ _) _ (next c.before.before)),
    )

loop-again : tie.Need-loop-i-preserved invariant-loop decreases-loop
loop-again c =
    laying-more c.loop-i.invariant (signed _ _) _ (next c.before.before.before.before.before) c.put_signed-at.ensures

returns : tie.Need-returns invariant-loop decreases-loop
returns c =
    let args = c.args in
    laying-all c.loop-i.invariant (more-none args.sign (drop_of_length-le args.nets.now c.loop-i-test.false))

pub put_more_spec : {M : Type 1} → statement M
put_more_spec =
    tie.close
    (tie.spec
    invariant-loop
    decreases-loop
    (λ c. laying-start c.requires.1)
    (λ c. omega arith)
    (λ c. omega arith)
    put-requires
    (λ c. omega arith)
    (λ c. omega arith)
    loop-again
    (λ c. laying-length c.loop-i.invariant)
    returns)
