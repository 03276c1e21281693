-- Nets, a number and nets go the way of an occurrence.
use Rattle.meaning.specs.Layout.{list_numbers}
use Rattle.meaning.specs.Reading.{read_number, read_nets}
use Rattle.read_parts.specs.Sound.{one, sound-number, sound-nets}
use Rattle.read_parts.specs.Alike.{skip, alike-occurrence}
use Rattle.read_parts.specs.Ways.{handed_on}
use Rattle.read_parts.specs.Reached.{Reached, reached}
use Rattle.read_parts.specs.Taken.{takes_skip, takes-ended, takes-alike}
use Rattle.read_parts.proofs.parts.keep_occurrence.Goals as goal
use Rattle.read_parts.proofs.parts.keep_occurrence.Goals.{In_ok-driven, In_ok-refers}

driven : (c : In_ok-driven)
    → Reached list_numbers read_nets c.args.bytes.now c.args.spot c.args.numbers.now
    c.in_ok-driven.driven c.keep_nets.new.numbers
driven c = reached sound-nets c.requires c.in_ok-driven.was c.keep_nets.ensures

refers : (c : In_ok-refers)
    → Reached one read_number c.args.bytes.now
    c.in_ok-driven.driven c.keep_nets.new.numbers
    c.in_ok-refers.refers c.keep_number.new.numbers
refers c =
    let w = reached sound-nets c.requires c.in_ok-driven.was c.keep_nets.ensures in
    reached sound-number w.stands c.in_ok-refers.was c.keep_number.ensures

pub returns-in_err-driven : goal.returns-in_err-driven
returns-in_err-driven c =
    rw (handed_on c.from_residual.ensures.1, ← c.in_err-driven.was)
    (takes-alike alike-occurrence
    (takes-ended (λ _. skip read_number read_nets) c.in_err-driven.was c.keep_nets.ensures))

pub keep_number-requires : goal.keep_number-requires
keep_number-requires c = (driven (goal.at.keep_number-requires c).In_ok-driven).stands

pub returns-in_err-refers : goal.returns-in_err-refers
returns-in_err-refers c =
    rw (handed_on c.from_residual-in_err-refers.ensures.1, ← c.in_err-refers.was)
    (takes-alike alike-occurrence
    (takes_skip (driven (goal.at.returns-in_err-refers c).In_ok-driven)
    (takes-ended (λ _. read_nets) c.in_err-refers.was c.keep_number.ensures)))

pub keep_nets-requires-2 : goal.keep_nets-requires-2
keep_nets-requires-2 c = (refers (goal.at.keep_nets-requires-2 c).In_ok-refers).stands

pub returns : goal.returns
returns c =
    let at = goal.at.returns c in
    takes-alike alike-occurrence
    (takes_skip (driven at.In_ok-driven) (takes_skip (refers at.In_ok-refers) c.keep_nets-2.ensures))
