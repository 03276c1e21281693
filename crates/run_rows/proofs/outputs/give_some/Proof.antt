-- `run_rows::outputs::give_some` meets its contract: the bytes that are fetched hold the rows.
use Prim.Native.Nat.{ℕ}
use mathlib.Core.Path.{refl, sym}
use native.Mathlib.Omega.{arith}
use borrow.Author.Rules.{rules}
use lib.ListN.{length-replicate}
use Rattle.run_rows.specs.Giving.{shown-group}
use Rattle.run_rows.proofs.outputs.give_some.Statement.{statement}
use Rattle.run_rows.proofs.outputs.give_some.Tie as tie

abbrev fetched : tie.After-give_group-arg-1 → tie.After-fetch
fetched c = c.before.before.before.before.before

fetch-requires : tie.Need-fetch-requires
fetch-requires c κs =
    let g = c.requires in
    let all = length-replicate {A = ℕ} 192 0 in
    record {
      readable = g.readable;
      one = omega (arith, g.below);
      place = omega arith;
      low-long = omega (arith, g.narrow, all);
      high-long = omega (arith, g.narrow, all);
    }

give-group-requires : tie.Need-give_group-requires
give-group-requires c κs =
    let f = fetched c in
    let g = f.before.before.before.before.before.requires in
    let all = length-replicate {A = ℕ} 192 0 in
    shown-group g f.fetch.ensures.0 f.fetch.ensures.1 (omega (arith, g.narrow, all)) (omega (arith, g.narrow, all)) refl

returns : tie.Need-returns
returns c g =
    let f = fetched c.before.before.before in
    let all = length-replicate {A = ℕ} 192 0 in
    c.give_group.ensures
    (shown-group g f.fetch.ensures.0 f.fetch.ensures.1 (omega (arith, g.narrow, all)) (omega (arith, g.narrow, all)) refl)

pub give_some_spec : {M : Type 1} → statement M
give_some_spec =
    tie.close
    (tie.spec
    (λ c. search rules)
    (λ c. search rules)
    fetch-requires
    (λ c. c.requires.readable.ordered)
    (λ c. sym c.fetch.auto.low)
    (λ c. sym c.fetch.auto.high)
    give-group-requires
    (λ c. c.give_group.auto.out)
    returns)
