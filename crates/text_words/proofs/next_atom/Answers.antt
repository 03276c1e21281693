use Rattle.std.proofs.Common.{arith, ◌≡◌, length}
use Rattle.text_modes.specs.Kinds.{letter_known, no_letter_known}
use Rattle.text_words.proofs.Steps.{nearing_on, at-atom, no_atom}
use Rattle.text_words.proofs.next_atom.Goals as goal

pub returns-in-Letter : goal.returns-in-Letter
returns-in-Letter c =
    at-atom _ _ _ c.loop-i.invariant c.loop-i-test.true (letter_known _ c.kind.ensures c.in-Letter.is)

pub loop-i-preserved : goal.loop-i-preserved
loop-i-preserved c =
    nearing_on _ _ _ c.loop-i.invariant c.loop-i-test.true (no_letter_known _ c.kind.ensures c.in_default.not-Letter)

pub returns : goal.returns
returns c =
    let end : c.loop-i.i ≡ length c.args.text.now = omega arith in
    rw end at (no_atom _ _ _ c.loop-i.invariant c.loop-i-test.false)
