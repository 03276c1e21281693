-- `is_like_module` meets its contract: two bytes at least, an M, and digits. Assumes nothing.
use mathlib.Core.Path.{ap, ◌∙◌}
use native.Mathlib.Omega.{arith}
use borrow.Author.Rules.{rules}
use borrow.Author.Rules.{part_to_end}
use Rattle.meaning.specs.Ndl.{every, is_digit}
use Rattle.ndl_names.proofs.Names.{like-short, like-other, like-digits}
use Rattle.ndl_names.proofs.is_like_module.Statement.{statement}
use Rattle.ndl_names.proofs.is_like_module.Tie as tie

returns : tie.Need-returns-then-word-lt2
returns c = like-short c.args.word.now c.if-word-lt2.true

returns-2 : tie.Need-returns-then-word-ne77
returns-2 c = like-other c.args.word.now c.if-word-ne77.true

returns-3 : tie.Need-returns
returns-3 c =
    let word = c.args.word.now in
    like-digits word c.are_of.result c.if-word-lt2.false c.if-word-ne77.false (c.are_of.ensures ∙ ap (every is_digit) (part_to_end word 1))

pub is_like_module_spec : {M : Type 1} → statement M
is_like_module_spec =
    tie.close
    (tie.spec
    returns
    (λ c. omega arith)
    returns-2
    (λ c. omega arith)
    (λ c. omega arith)
    (λ c. search rules)
    (λ c κs. search rules)
    returns-3)
