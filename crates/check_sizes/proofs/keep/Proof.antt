-- `sizes::keep` meets its contract: the test is the limit's, and each way out leaves the tables as the contract says. Assumes nothing.
use mathlib.Core.Path.{refl, sym}
use mathlib.Core.Bool.{true≢false, false≢true}
use borrow.Author.Rules.{rules}
use borrow.Author.Tests.{le-leb, lt-leb}
use Rattle.check_sizes.proofs.keep.Statement.{statement}
use Rattle.check_sizes.proofs.keep.Tie as tie

returns : tie.Need-returns-then-sums-gt65535
returns c =
    record {
      answer = sym (lt-leb _ _ c.if-sums-gt65535.true);
      kept = λ e. absurd (false≢true e);
      left = λ e. (refl, refl);
    }

returns-2 : tie.Need-returns
returns-2 c =
    record {
      answer = sym (le-leb _ _ c.if-sums-gt65535.false);
      kept = λ e. (refl, refl);
      left = λ e. absurd (true≢false e);
    }

pub keep_spec : {M : Type 1} → statement M
keep_spec =
    tie.close
    (tie.spec
    returns
    (λ c. search rules)
    (λ c. search rules)
    (λ c. search rules)
    (λ c. search rules)
    (λ c. search rules)
    (λ c. search rules)
    (λ c. search rules)
    (λ c. search rules)
    returns-2)
