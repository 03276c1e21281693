use Rattle.std.proofs.Common.{arith, ◌≡◌, ◌-◌, ◌+◌}
use Rattle.text_words.proofs.Steps.{passing-first, passing-on, passed-all, end-within}
use Rattle.text_words.proofs.atom_from.Goals as goal

pub loop-init : goal.loop-init
loop-init c =
    let all : c.args.more - 0 ≡ c.args.more = omega arith in
    rw all (passing-first _ _ c.args.more _ c.next_atom-i.ensures)

pub atom_end-requires : goal.atom_end-requires
atom_end-requires c = c.loop.invariant.few

pub next_atom-i-requires-in-loop : goal.next_atom-i-requires-in-loop
next_atom-i-requires-in-loop c = end-within _ _ _ c.loop.invariant.few c.atom_end.ensures

pub loop-preserved : goal.loop-preserved
loop-preserved c =
    let one_less : c.args.more - c.loop.counter - 1 ≡ c.args.more - (c.loop.counter + 1) = omega arith in
    rw one_less at
    (passing-on _ _ _ _ _ _ _ c.loop.invariant (omega arith) c.atom_end.ensures c.next_atom-i-in-loop.ensures)

pub returns : goal.returns
returns c = passed-all _ _ _ _ _ c.loop.invariant (omega arith)
