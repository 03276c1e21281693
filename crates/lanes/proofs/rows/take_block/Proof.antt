-- `lanes::rows::take_block` meets its contract: each word has its rows, and the words stand side by side.
use native.Mathlib.Omega.{arith}
use borrow.Author.Rules.{rules}
use mathlib.Core.Path.{sym}
use Prim.Native.Nat.{ℕ}
use lib.Dec.{lit≤}
use lib.ListN.{length-replicate}
use Rattle.lanes.specs.Blocks.{part_of, taken}
use Rattle.lanes.proofs.rows.take_block.Statement.{statement}
use Rattle.lanes.proofs.rows.take_block.Tie as tie

take-part-requires : tie.Need-take_part-requires
take-part-requires c κs = let g = c.requires in (part_of g 0 (lit≤ tt), part_of g 0 (lit≤ tt))

take-part-requires-2 : tie.Need-take_part-requires-2
take-part-requires-2 c κs =
    let g = c.requires in (part_of g 1 (lit≤ tt), part_of g 1 (lit≤ tt))

take-part-requires-3 : tie.Need-take_part-requires-3
take-part-requires-3 c κs =
    let g = c.requires in (part_of g 2 (lit≤ tt), part_of g 2 (lit≤ tt))

take-part-requires-4 : tie.Need-take_part-requires-4
take-part-requires-4 c κs =
    let g = c.requires in (part_of g 3 (lit≤ tt), part_of g 3 (lit≤ tt))

store-requires : tie.Need-store-requires
store-requires c κs =
    let all = length-replicate {A = ℕ} 192 0 in (
      record {
        a-long = omega (arith, c.requires.narrow, all, c.take_part.auto.low);
        b-long = omega (arith, c.requires.narrow, all, c.take_part-2.auto.low);
        c-long = omega (arith, c.requires.narrow, all, c.take_part-3.auto.low);
        d-long = omega (arith, c.requires.narrow, all, c.take_part-4.auto.low);
      },
      record {
        a-long = omega (arith, c.requires.narrow, all, c.take_part.auto.high);
        b-long = omega (arith, c.requires.narrow, all, c.take_part-2.auto.high);
        c-long = omega (arith, c.requires.narrow, all, c.take_part-3.auto.high);
        d-long = omega (arith, c.requires.narrow, all, c.take_part-4.auto.high);
      },
      c.requires.long,
    )

returns : tie.Need-returns
returns c =
    taken c.requires _ _ _ _ _ _ _ _
    (record {
      first = c.take_part.ensures.0;
      second = c.take_part-2.ensures.0;
      third = c.take_part-3.ensures.0;
      fourth = c.take_part-4.ensures.0;
    })
    (record {
      first = c.take_part.ensures.1;
      second = c.take_part-2.ensures.1;
      third = c.take_part-3.ensures.1;
      fourth = c.take_part-4.ensures.1;
    })
    c.store.ensures

pub take_block_spec : {M : Type 1} → statement M
take_block_spec =
    tie.close
    (tie.spec
    (λ c. search rules)
    (λ c. search rules)
    take-part-requires
    (λ c. search rules)
    (λ c. search rules)
    take-part-requires-2
    (λ c. search rules)
    (λ c. search rules)
    take-part-requires-3
    (λ c. search rules)
    (λ c. search rules)
    take-part-requires-4
    (λ c. sym c.take_part.auto.low)
    (λ c. sym c.take_part-2.auto.low)
    (λ c. sym c.take_part-3.auto.low)
    (λ c. sym c.take_part-4.auto.low)
    (λ c. sym c.take_part.auto.high)
    (λ c. sym c.take_part-2.auto.high)
    (λ c. sym c.take_part-3.auto.high)
    (λ c. sym c.take_part-4.auto.high)
    store-requires
    (λ c. c.store.ensures.size)
    returns)
