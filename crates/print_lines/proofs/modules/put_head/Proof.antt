-- `modules::put_head` meets its contract: the title, the inputs, the outputs, and the bracket of the occurrences. Assumes nothing.
use native.Mathlib.Omega.{arith}
use mathlib.Core.List.{List, ◌++◌}
use Prim.Native.Nat.{ℕ}
use borrow.Author.Rules.{rules}
use Rattle.bytes_out.specs.Laying.{Laying}
use Rattle.write_pieces.specs.Laying.{laying-start, laying-left, laying-put, laying-last, room-first}
use Rattle.ndl_pieces.specs.Apart.{apart}
use Rattle.print_lines.specs.Parts.{behind_driven, title_part, behind_outputs, head_part}
use Rattle.print_lines.proofs.modules.put_head.Statement.{statement}
use Rattle.print_lines.proofs.modules.put_head.Tie as tie

-- What stands from the outputs on, from behind the inputs on, and from the inputs on.
abbrev from_outputs : List ℕ → List ℕ
from_outputs outputs = apart 32 outputs ++ behind_outputs

abbrev behind_inputs : List ℕ → List ℕ
behind_inputs outputs = behind_driven ++ from_outputs outputs

abbrev from_inputs : (inputs outputs : List ℕ) → List ℕ
from_inputs inputs outputs = apart 32 inputs ++ behind_inputs outputs

titled : (c : tie.After-put_title-first)
    → let a = c.args in
    Laying (head_part a.number a.inputs.now a.outputs.now) (from_inputs a.inputs.now a.outputs.now) a.out.now a.at
    c.put_title-first.new.out c.put_title-first.result
titled c =
    let a = c.args in
    laying-put {rest = from_inputs a.inputs.now a.outputs.now} c.put_title-first.ensures (laying-start c.requires.3)

taking : (c : tie.After-put_apart-second)
    → let a = c.args in
    Laying (head_part a.number a.inputs.now a.outputs.now) (behind_inputs a.outputs.now) a.out.now a.at
    c.put_apart-second.new.out c.put_apart-second.result
taking c = laying-put {rest = behind_inputs c.args.outputs.now} c.put_apart-second.ensures (titled c.before.before.before.before)

parting : (c : tie.After-copy-third)
    → let a = c.args in
    Laying (head_part a.number a.inputs.now a.outputs.now) (from_outputs a.outputs.now) a.out.now a.at
    c.copy-third.new.bytes c.copy-third.result
parting c =
    laying-put {rest = from_outputs c.args.outputs.now} c.copy-third.ensures (taking c.before.before.before.before.before.before)

giving : (c : tie.After-put_apart-last)
    → let a = c.args in
    Laying (head_part a.number a.inputs.now a.outputs.now) behind_outputs a.out.now a.at
    c.put_apart-last.new.out c.put_apart-last.result
giving c = laying-put {rest = behind_outputs} c.put_apart-last.ensures (parting c.before.before.before.before)

put-title-requires : tie.Need-put_title-first-requires
put-title-requires c κs =
    (c.requires.0, room-first {xs = title_part c.args.number} (from_inputs c.args.inputs.now c.args.outputs.now) c.requires.3)

put-apart-requires : tie.Need-put_apart-second-requires
put-apart-requires c κs =
    (c.requires.1, room-first {xs = apart 32 c.args.inputs.now} (behind_inputs c.args.outputs.now) (laying-left (titled c.before.before.before)))

copy-requires : tie.Need-copy-third-requires
copy-requires c κs =
    omega (arith, (room-first {xs = behind_driven} (from_outputs c.args.outputs.now) (laying-left (taking c.before.before.before.before.before))).fits)

put-apart-requires-2 : tie.Need-put_apart-last-requires
put-apart-requires-2 c κs =
    (c.requires.2, room-first {xs = apart 32 c.args.outputs.now} behind_outputs (laying-left (parting c.before.before.before)))

copy-requires-2 : tie.Need-copy-requires
copy-requires-2 c κs = omega (arith, (laying-left (giving c.before.before.before.before.before)).fits)

returns : tie.Need-returns
returns c =
    laying-last c.copy.ensures (giving c.before.before.before.before.before.before.before.before)

pub put_head_spec : {M : Type 1} → statement M
put_head_spec =
    tie.close
    (tie.spec
    put-title-requires
    put-apart-requires
    copy-requires
    put-apart-requires-2
    copy-requires-2
    (λ c. search rules)
    returns)
