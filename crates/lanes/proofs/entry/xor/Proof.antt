-- `lanes::entry::xor` meets its contract: it is made of the other three.
use Prim.Native.Nat.{ℕ}
use mathlib.Core.List.{List}
use mathlib.Core.Path.{ap, ap₂, ◌∙◌}
use borrow.Author.Rules.{rules}
use Rattle.lanes.specs.Entries.{and_of, or_of, xor_of}
use Rattle.lanes.proofs.entry.xor.Statement.{statement}
use Rattle.lanes.proofs.entry.xor.Tie as tie

returns : tie.Need-returns
unfolding xor_of
returns c =
    c.or.ensures
    ∙ ap₂ or_of (c.and.ensures ∙ ap (and_of c.args.a) c.not.ensures)
    (c.and-2.ensures ∙ ap (λ (x : List ℕ). and_of x c.args.b) c.not-2.ensures)

pub xor_spec : {M : Type 1} → statement M
xor_spec =
    tie.close
    (tie.spec
    (λ c κs. search rules)
    (λ c κs. search rules)
    (λ c κs. search rules)
    (λ c κs. search rules)
    (λ c κs. search rules)
    returns)
