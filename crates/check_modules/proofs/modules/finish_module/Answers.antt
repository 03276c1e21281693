-- Whether the outputs are known is rule 15, and each way out is one of the rule's answers.
use Rattle.std.proofs.Common.{ℕ, ◌≤◌, ◌<◌, ◌≡◌, Bool, true, false, List, Ok, Err, arith, sym, ◌∙◌}
use borrow.Author.Tests.{le-leb, lt-leb}
use Rattle.check_modules.specs.Heads.{HeadWritten}
use Rattle.check_modules.specs.Modules.{end_rule, Ended}
use Rattle.check_modules.proofs.modules.finish_module.Goals as goal

module _
    {numbers slots : List ℕ} {base k nets : ℕ} {numbers' : List ℕ} {r : Bool}
    (h : HeadWritten numbers slots base k nets numbers' r)
  where
    unanswered : r ≡ false → Ended numbers slots base k nets numbers' (Err 15)
    unfolding end_rule
    unanswered e =
        record {
          ends = λ m known stands knows count inputs.
              (rw (sym (h.written m known stands knows count inputs).0 ∙ e), λ z. absurd (cc));
        }

    module _ (answered : r ≡ true) where
      many : 4096 < nets → Ended numbers slots base k nets numbers' (Err 16)
      unfolding end_rule
      many more =
          record {
            ends = λ m known stands knows count inputs.
                (rw (sym (h.written m known stands knows count inputs).0 ∙ answered, lt-leb nets 4096 more), λ z. absurd (cc));
          }

      fine : nets ≤ 4096 → Ended numbers slots base k nets numbers' (Ok tt)
      unfolding end_rule
      fine few =
          record {
            ends = λ m known stands knows count inputs.
                let w = h.written m known stands knows count inputs in
                (rw (sym w.0 ∙ answered, le-leb nets 4096 few), λ z. w.1 answered);
          }

pub returns-then-not-write_head : goal.returns-then-not-write_head
returns-then-not-write_head c = unanswered c.write_head.ensures c.if-not-write_head.true

pub returns-then-nets-gt4096 : goal.returns-then-nets-gt4096
returns-then-nets-gt4096 c = many c.write_head.ensures c.if-not-write_head.false (omega arith)

pub returns : goal.returns
returns c = fine c.write_head.ensures c.if-not-write_head.false (omega arith)
