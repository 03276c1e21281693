-- `is_good` meets its contract: the name falls into its letters and what stands behind them. Assumes nothing.
use mathlib.Core.Path.{◌≡◌, sym, ap, ap₂, ◌∙◌}
use mathlib.Core.List.{List}
use Prim.Native.Nat.{ℕ, ◌-◌}
use native.Mathlib.Omega.{arith}
use borrow.Author.Rules.{rules}
use borrow.Author.Rules.{part_to_end}
use lib.ListN.{length, take, drop}
use lib.Seq.{length-take-le}
use Rattle.meaning.specs.Ndl.{letters, good_name}
use Rattle.ndl_names.specs.Kinds.{spelled}
use Rattle.ndl_names.proofs.Names.{front-letters, few-letters}
use Rattle.ndl_names.proofs.is_good.Statement.{statement}
use Rattle.ndl_names.proofs.is_good.Tie as tie

parted : (name : List ℕ) (count : ℕ) → count ≡ length (letters name)
    → spelled (take count name) (take (length name - count) (drop count name)) ≡ good_name name
unfolding good_name
parted name count e =
    ap (λ (n : ℕ). spelled (take n name) (take (length name - n) (drop n name))) e
    ∙ ap₂ spelled (front-letters name) (part_to_end name (length (letters name)))

returns : tie.Need-returns
returns c =
    c.is_spelled.ensures ∙ parted c.args.name.now c.letters-count.result c.letters-count.ensures

pub is_good_spec : {M : Type 1} → statement M
is_good_spec =
    tie.close
    (tie.spec
    (λ c κs. search rules)
    (λ c. sym (length-take-le _ _ (omega (arith, few-letters c.args.name.now, c.letters-count.ensures))))
    (λ c. omega (arith, few-letters c.args.name.now, c.letters-count.ensures))
    (λ c. omega (arith, few-letters c.args.name.now, c.letters-count.ensures))
    (λ c. search rules)
    (λ c κs. search rules)
    returns)
