-- `references::put` meets its contract: a gate's letters, or an M and the number. Assumes nothing.
use native.Mathlib.Omega.{arith}
use mathlib.Core.Path.{◌≡◌, ap}
use mathlib.Core.List.{List, ◌∷◌}
use Prim.Native.Nat.{ℕ, ◌+◌, ◌-◌, ◌*◌, ◌<◌, ◌≤◌}
use borrow.Author.Rules.{rules}
use borrow.Author.Tests.{lt-ltb, le-ltb}
use lib.ListN.{take, drop}
use Rattle.meaning.specs.Listing.{decimal}
use Rattle.meaning.specs.Ndl.{letters, reference_text}
use Rattle.ndl_names.proofs.Names.{part-of-names}
use Rattle.ndl_pieces.proofs.references.put.Statement.{statement}
use Rattle.ndl_pieces.proofs.references.put.Tie as tie

by-gate : (names : List ℕ) (n : ℕ) → n < 16 → letters (take (8 * n + 8 - 8 * n) (drop (8 * n) names)) ≡ reference_text names n
unfolding reference_text
by-gate names n h = rw (lt-ltb n 16 h) (ap letters (part-of-names names n))

by-module : (names : List ℕ) (n : ℕ) → 16 ≤ n → 77 ∷ decimal n ≡ reference_text names n
unfolding reference_text
by-module names n h = rw (le-ltb n 16 h)

put-letters-requires : tie.Need-put_letters-requires
put-letters-requires c κs =
    rw (by-gate c.args.names.now c.args.number c.if-number-lt16.true) c.requires.2

returns : tie.Need-returns-then-number-lt16
returns c =
    rw (by-gate c.args.names.now c.args.number c.if-number-lt16.true) at c.put_letters.ensures

put-named-requires : tie.Need-put_named-requires
put-named-requires c κs =
    (c.requires.1, rw (by-module c.args.names.now c.args.number c.if-number-lt16.false) c.requires.2)

returns-2 : tie.Need-returns
returns-2 c =
    rw (by-module c.args.names.now c.args.number c.if-number-lt16.false) at c.put_named.ensures

pub put_spec : {M : Type 1} → statement M
put_spec =
    tie.close
    (tie.spec
    (λ c. omega (arith, c.if-number-lt16.true))
    (λ c. omega (arith, c.if-number-lt16.true))
    (λ c. omega (arith, c.if-number-lt16.true))
    (λ c. omega (arith, c.if-number-lt16.true))
    (λ c. omega (arith, c.if-number-lt16.true, c.requires.0))
    put-letters-requires
    (λ c. search rules)
    returns
    put-named-requires
    (λ c. search rules)
    returns-2)
