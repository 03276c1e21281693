-- `modules::put_head` meets its contract: title, inputs, outputs and the two lines behind them. Assumes nothing.
use native.Mathlib.Omega.{arith}
use mathlib.Core.List.{List, ◌++◌}
use Prim.Native.Nat.{ℕ}
use borrow.Author.Rules.{rules}
use Rattle.meaning.specs.Ndl.{keyword_line, inputs_word, outputs_word, define_lines}
use Rattle.bytes_out.specs.Laying.{Laying}
use Rattle.write_pieces.specs.Laying.{laying-start, laying-left, laying-put, laying-last, room-first}
use Rattle.ndl_text.specs.Parts.{title_text, head_text}
use Rattle.ndl_text.proofs.modules.put_head.Statement.{statement}
use Rattle.ndl_text.proofs.modules.put_head.Tie as tie

-- What stands from the outputs on, and from the inputs on.
abbrev from_outputs : List ℕ → List ℕ
from_outputs outputs = keyword_line outputs_word outputs ++ define_lines

abbrev from_inputs : (inputs outputs : List ℕ) → List ℕ
from_inputs inputs outputs = keyword_line inputs_word inputs ++ from_outputs outputs

-- The places behind the title, the inputs and the outputs.
abbrev start : tie.After-put_title-first → tie.Start
start c =
    c.before.before.before.before.before

abbrev behind-title : tie.After-put_line-second → tie.After-put_title-first
behind-title c =
    c.before.before.before.before.before.before

abbrev behind-inputs : tie.After-put_line-third → tie.After-put_line-second
behind-inputs c =
    c.before.before.before.before.before.before

titled : (c : tie.After-put_title-first)
    → let a = (start c).args in
    Laying (head_text a.number a.inputs.now a.outputs.now) (from_inputs a.inputs.now a.outputs.now) a.out.now a.at
    c.put_title-first.new.out c.put_title-first.result
titled c =
    let a = (start c).args in
    laying-put {rest = from_inputs a.inputs.now a.outputs.now} c.put_title-first.ensures (laying-start (start c).requires.3)

taking : (c : tie.After-put_line-second)
    → let a = (start (behind-title c)).args in
    Laying (head_text a.number a.inputs.now a.outputs.now) (from_outputs a.outputs.now) a.out.now a.at
    c.put_line-second.new.out c.put_line-second.result
taking c = laying-put {rest = from_outputs (start (behind-title c)).args.outputs.now} c.put_line-second.ensures (titled (behind-title c))

giving : (c : tie.After-put_line-third)
    → let a = (start (behind-title (behind-inputs c))).args in
    Laying (head_text a.number a.inputs.now a.outputs.now) define_lines a.out.now a.at
    c.put_line-third.new.out c.put_line-third.result
giving c = laying-put {rest = define_lines} c.put_line-third.ensures (taking (behind-inputs c))

put-title-requires : tie.Need-put_title-first-requires
put-title-requires c κs =
    (c.requires.0, room-first {xs = title_text c.args.number} (from_inputs c.args.inputs.now c.args.outputs.now) c.requires.3)

put-line-requires : tie.Need-put_line-second-requires
put-line-requires c κs =
    let s = start c.before.before.before.before.before in
    (s.requires.1, room-first {xs = keyword_line inputs_word s.args.inputs.now} (from_outputs s.args.outputs.now) (laying-left (titled c.before.before.before.before.before)))

put-line-requires-2 : tie.Need-put_line-third-requires
put-line-requires-2 c κs =
    let s = start (behind-title c.before.before.before.before.before) in
    (s.requires.2, room-first {xs = keyword_line outputs_word s.args.outputs.now} define_lines (laying-left (taking c.before.before.before.before.before)))

copy-requires : tie.Need-copy-requires
copy-requires c κs = omega (arith, (laying-left (giving c.before.before.before.before.before)).fits)

returns : tie.Need-returns
returns c =
    laying-last c.copy.ensures (giving c.before.before.before.before.before.before.before.before)

pub put_head_spec : {M : Type 1} → statement M
put_head_spec =
    tie.close
    (tie.spec
    put-title-requires
    put-line-requires
    put-line-requires-2
    copy-requires
    (λ c. search rules)
    returns)
