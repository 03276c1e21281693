-- `tell_through` meets its contract: what stands at the front of the list is the text. Assumes nothing.
use mathlib.Core.Path.{sym}
use borrow.Author.Rules.{rules}
use lib.Seq.{length-take-le}
use Rattle.meaning.specs.ListPrint.{list_text}
use Rattle.bytes_out.specs.Filled.{Filled}
use Rattle.bytes_out.specs.Puts.{put_front, front-within}
use Rattle.write_order.proofs.Answering.{answers-laid}
use Rattle.print_lines.specs.Standing.{FileTold}
use Rattle.print_answer.proofs.tell_through.Statement.{statement}
use Rattle.print_answer.proofs.tell_through.Tie as tie

front : (c : tie.After-put_file-count) (t : FileTold c.args.numbers.now c.args.text.now)
    → Filled (list_text t.ms) c.args.text.now c.put_file-count.new.out c.put_file-count.result
front c t = put_front (c.put_file-count.ensures t)

returns : tie.Need-returns
returns c t =
    answers-laid (list_text t.ms) c.args.out.now (front c.before.before.before.before.before.before t) c.answer.ensures

pub tell_through_spec : {M : Type 1} → statement M
tell_through_spec =
    tie.close
    (tie.spec
    (λ c κs. search rules)
    (λ c. front-within (front c.before.before c.requires))
    (λ c. sym (length-take-le _ _ (front-within (front c.before.before c.requires))))
    (λ c κs. search rules)
    (λ c. search rules)
    (λ c. search rules)
    returns)
