-- A number, nets, nets and a list of occurrences go the way of a module.
use Rattle.meaning.specs.Layout.{list_numbers}
use Rattle.meaning.specs.Reading.{read_number, read_nets}
use Rattle.read_parts.specs.Sound.{one, sound-number, sound-nets}
use Rattle.read_parts.specs.Steps.{read_body}
use Rattle.read_parts.specs.Alike.{skip, alike_module}
use Rattle.read_parts.specs.Ways.{handed_on}
use Rattle.read_parts.specs.Reached.{Reached, reached}
use Rattle.read_parts.specs.Taken.{takes_skip, takes-ended, takes-alike}
use Rattle.read_parts.proofs.parts.keep_module.Goals as goal
use Rattle.read_parts.proofs.parts.keep_module.Goals.{In_ok-number, In_ok-inputs, In_ok-outputs}

number : (c : In_ok-number)
    → Reached one read_number c.args.bytes.now c.args.spot c.args.numbers.now
    c.in_ok-number.number c.keep_number.new.numbers
number c = reached sound-number c.requires c.in_ok-number.was c.keep_number.ensures

inputs : (c : In_ok-inputs)
    → Reached list_numbers read_nets c.args.bytes.now
    c.in_ok-number.number c.keep_number.new.numbers
    c.in_ok-inputs.inputs c.keep_nets.new.numbers
inputs c =
    let w = reached sound-number c.requires c.in_ok-number.was c.keep_number.ensures in
    reached sound-nets w.stands c.in_ok-inputs.was c.keep_nets.ensures

outputs : (c : In_ok-outputs)
    → Reached list_numbers read_nets c.args.bytes.now
    c.in_ok-inputs.inputs c.keep_nets.new.numbers
    c.in_ok-outputs.outputs c.keep_nets-2.new.numbers
outputs c =
    let w = reached sound-number c.requires c.in_ok-number.was c.keep_number.ensures in
    let v = reached sound-nets w.stands c.in_ok-inputs.was c.keep_nets.ensures in
    reached sound-nets v.stands c.in_ok-outputs.was c.keep_nets-2.ensures

pub returns-in_err-number : goal.returns-in_err-number
returns-in_err-number c =
    rw (handed_on c.from_residual.ensures.1, ← c.in_err-number.was)
    (takes-alike alike_module
    (takes-ended (λ _. skip read_nets (skip read_nets read_body)) c.in_err-number.was c.keep_number.ensures))

pub keep_nets-requires : goal.keep_nets-requires
keep_nets-requires c = (number (goal.at.keep_nets-requires c).In_ok-number).stands

pub returns-in_err-inputs : goal.returns-in_err-inputs
returns-in_err-inputs c =
    rw (handed_on c.from_residual-in_err-inputs.ensures.1, ← c.in_err-inputs.was)
    (takes-alike alike_module
    (takes_skip (number (goal.at.returns-in_err-inputs c).In_ok-number)
    (takes-ended (λ _. skip read_nets read_body) c.in_err-inputs.was c.keep_nets.ensures)))

pub keep_nets-requires-2 : goal.keep_nets-requires-2
keep_nets-requires-2 c = (inputs (goal.at.keep_nets-requires-2 c).In_ok-inputs).stands

pub returns-in_err-outputs : goal.returns-in_err-outputs
returns-in_err-outputs c =
    let at = goal.at.returns-in_err-outputs c in
    rw (handed_on c.from_residual-in_err-outputs.ensures.1, ← c.in_err-outputs.was)
    (takes-alike alike_module
    (takes_skip (number at.In_ok-number)
    (takes_skip (inputs at.In_ok-inputs)
    (takes-ended (λ _. read_body) c.in_err-outputs.was c.keep_nets-2.ensures))))

pub keep_body-requires : goal.keep_body-requires
keep_body-requires c = (outputs (goal.at.keep_body-requires c).In_ok-outputs).stands

pub returns : goal.returns
returns c =
    let at = goal.at.returns c in
    takes-alike alike_module
    (takes_skip (number at.In_ok-number)
    (takes_skip (inputs at.In_ok-inputs)
    (takes_skip (outputs at.In_ok-outputs) c.keep_body.ensures)))
