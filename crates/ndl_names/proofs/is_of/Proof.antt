-- `is_of` meets its contract, kind by kind. Assumes nothing.
use Prim.Native.Nat.{ℕ}
use mathlib.Core.Path.{◌≡◌, refl, sym, ap, ◌∙◌}
use mathlib.Core.Bool.{Bool, true, false, ◌||◌}
use borrow.Author.Rules.{rules}
use Rattle.ndl_names.specs.declared.Kind.{Kind as Kinds}
use Rattle.ndl_names.specs.Kinds.{belongs}
use Rattle.ndl_names.proofs.is_of.Statement.{statement}
use Rattle.ndl_names.proofs.is_of.Tie as tie

-- What is answered for the kind that is met.
told : {k m : Kinds} {r : Bool} (b : ℕ) → k ≡ m → r ≡ belongs m b → r ≡ belongs k b
told b e h = h ∙ ap (λ (k : Kinds). belongs k b) (sym e)

-- Of two tests the first decides where it holds, else the second.
by_first : {x r : Bool} (y : Bool) → r ≡ x → r ≡ true → true ≡ (x || y)
by_first {x} y e h = ap (λ (z : Bool). z || y) (sym h ∙ e)

by-second : {x y r s : Bool} → r ≡ x → r ≡ false → s ≡ y → s ≡ (x || y)
by-second {y = y} e h f = f ∙ ap (λ (z : Bool). z || y) (sym h ∙ e)

returns : tie.Need-returns-in-Space
returns c = told c.args.b c.in-Space.is refl

returns-2 : tie.Need-returns-in-Digit
returns-2 c = told c.args.b c.in-Digit.is c.is_between.ensures

returns-3 : tie.Need-returns-then-is_between
returns-3 c =
    told c.args.b c.in-CapitalOrDigit.is
    (by_first _ c.is_between-in-CapitalOrDigit.ensures c.if-is_between.true)

returns-4 : tie.Need-returns-else-is_between
returns-4 c =
    told c.args.b c.in-CapitalOrDigit.is
    (by-second c.is_between-in-CapitalOrDigit.ensures c.if-is_between.false c.is_between-else-is_between.ensures)

pub is_of_spec : {M : Type 1} → statement M
is_of_spec =
    tie.close
    (tie.spec
    (λ c. search rules)
    (λ c. search rules)
    (λ c κs. search rules)
    (λ c. search rules)
    (λ c κs. search rules)
    (λ c κs. search rules)
    returns
    returns-2
    returns-3
    returns-4)
