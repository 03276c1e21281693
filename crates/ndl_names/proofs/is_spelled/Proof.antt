-- `is_spelled` meets its contract, test by test. Assumes nothing.
use mathlib.Core.Path.{◌≡◌, sym, ap, ◌∙◌}
use mathlib.Core.Bool.{Bool, true, false, not, ◌&&◌}
use borrow.Author.Rules.{rules}
use borrow.Author.Tests.{le-leb, lt-leb}
use lib.ListN.{length}
use Rattle.ndl_names.proofs.is_spelled.Statement.{statement}
use Rattle.ndl_names.proofs.is_spelled.Tie as tie

-- Four tests in a row: the first that fails decides.
one-fails : {a : Bool} (b c d : Bool) → a ≡ false → false ≡ (a && b && c && d)
one-fails b c d e = rw e

two-fails : {a b : Bool} (c d : Bool) → a ≡ true → b ≡ false → false ≡ (a && b && c && d)
two-fails c d e f = rw (e, f)

three-fails : {a b c : Bool} (d : Bool) → a ≡ true → b ≡ true → c ≡ false → false ≡ (a && b && c && d)
three-fails d e f g = rw (e, f, g)

four-decides : {a b c d r : Bool} → a ≡ true → b ≡ true → c ≡ true → r ≡ d → r ≡ (a && b && c && d)
four-decides e f g h = rw (e, f, g) h

-- What a test that is met, or not, says of what it answers.
met : {r x : Bool} → r ≡ x → r ≡ true → x ≡ true
met e h = sym e ∙ h

unmet : {r x : Bool} → r ≡ x → r ≡ false → x ≡ false
unmet e h = sym e ∙ h

returns : tie.Need-returns-then-word-lt1
returns c = one-fails _ _ _ (lt-leb 1 (length c.args.word.now) c.if-word-lt1.true)

returns-2 : tie.Need-returns-then-not-are_of
returns-2 c =
    two-fails _ _ (le-leb 1 (length c.args.word.now) c.if-word-lt1.false) (unmet c.are_of.ensures c.if-not-are_of.true)

returns-3 : tie.Need-returns-then-not-are_of-2
returns-3 c =
    three-fails _ (le-leb 1 (length c.args.word.now) c.if-word-lt1.false) (met c.are_of.ensures c.if-not-are_of.false)
    (unmet c.are_of-2.ensures c.if-not-are_of-2.true)

returns-4 : tie.Need-returns
returns-4 c =
    four-decides (le-leb 1 (length c.args.word.now) c.if-word-lt1.false) (met c.are_of.ensures c.if-not-are_of.false)
    (met c.are_of-2.ensures c.if-not-are_of-2.false)
    (ap not c.is_like_module.ensures)

pub is_spelled_spec : {M : Type 1} → statement M
is_spelled_spec =
    tie.close
    (tie.spec
    returns
    (λ c κs. search rules)
    returns-2
    (λ c κs. search rules)
    returns-3
    (λ c κs. search rules)
    returns-4)
