-- The largest load in a block of the written counter that is made of two. It is that of the "empty" of the high half, which stands once in
-- each choice and twice above them, and has load 1 inside the block that drives it.
use Rattle.std.specs.Prelude.{ℕ, suc, ◌+◌, ◌≤◌, ◌<◌, ◌≡◌, refl, Bool}
use Rattle.std.proofs.Common.{arith}
use Rattle.meaning.specs.Loads.{places_load, Loads, net_load}
use Rattle.meaning.specs.Adder.{up_from}
use Rattle.meaning.specs.Counter.{join_block}
use Rattle.laws.specs.Tests.{Tells, tells_true, tells_false, ltb_tells, eqb_tells}
use Rattle.laws.specs.Loads.Counter.Runs.{only, only_here, only-away, only-most, run-before, run-behind, run-most}
use Rattle.laws.specs.Loads.Counter.Runs.{row, row_before, row-behind, row-most}
use Rattle.laws.specs.Loads.Counter.Block.{BlockLoads, half, low, high, ands, ors, top, inputs, join-load}

module _ {later : ℕ → Loads} {i : ℕ} (block : BlockLoads later i) where
  entering : (net : ℕ) → places_load net (up_from 0 (half i)) (inputs block) + places_load net (up_from (half i) (half i)) (inputs block) ≤ 2
  entering net = go (ltb_tells net (half i))
    where
      go :
          {b : Bool}
          → Tells (net < half i) (half i ≤ net) b
          → places_load net (up_from 0 (half i)) (inputs block) + places_load net (up_from (half i) (half i)) (inputs block) ≤ 2
      go (tells_true h) =
          omega (arith, run-most net 0 (half i) (inputs block), run-before net (half i) (half i) (inputs block) h, block.inputs)
      go (tells_false h) =
          omega (arith, run-behind net 0 (half i) (inputs block) (omega arith), run-most net (half i) (half i) (inputs block), block.inputs)

  pub join-inputs : (net : ℕ) → net < low i → net_load later (join_block (suc i)).occurrences net ≤ 2
  join-inputs net h =
      omega (
        arith,
        join-load block net,
        entering net,
        only-away net (low i + suc i) 1 (λ e. omega arith),
        only-away net (suc (top i)) 1 (λ e. omega arith),
        only-away net (high i + suc i) 1 (λ e. omega arith),
        only-away net (high i + suc i) (suc i) (λ e. omega arith),
        row_before net (low i) (suc i) (omega arith),
        row_before net (high i) (suc i) (omega arith),
        row_before net (ands i) (suc i) (omega arith),
      )

  -- The nets that are driven, without the inputs' places.
  driven-load :
      (net : ℕ)
      → low i ≤ net
      → net_load later (join_block (suc i)).occurrences net
      ≡ only net (low i + suc i) 1 + only net (low i + suc i) 1 + only net (suc (top i)) 1
      + (only net (high i + suc i) 1 + only net (high i + suc i) 1 + only net (high i + suc i) 1 + only net (high i + suc i) (suc i))
      + (row net (low i) (suc i) + row net (high i) (suc i) + row net (ands i) (suc i))
  driven-load net h =
      omega (
        arith,
        join-load block net,
        run-behind net 0 (half i) (inputs block) (omega arith),
        run-behind net (half i) (half i) (inputs block) (omega arith),
      )

  pub join-empty : net_load later (join_block (suc i)).occurrences (high i + suc i) ≡ suc i + 3
  join-empty =
      let net = high i + suc i in
      omega (
        arith,
        driven-load net (omega arith),
        only-away net (low i + suc i) 1 (λ e. omega arith),
        only-away net (suc (top i)) 1 (λ e. omega arith),
        only_here net (high i + suc i) 1 refl,
        only_here net (high i + suc i) (suc i) refl,
        row-behind net (low i) (suc i) (omega arith),
        row-behind net (high i) (suc i) (omega arith),
        row_before net (ands i) (suc i) (omega arith),
      )

  pub join-outputs : (net : ℕ) → ors i ≤ net → net_load later (join_block (suc i)).occurrences net ≡ only net (suc (top i)) 1
  join-outputs net h =
      omega (
        arith,
        driven-load net (omega arith),
        only-away net (low i + suc i) 1 (λ e. omega arith),
        only-away net (high i + suc i) 1 (λ e. omega arith),
        only-away net (high i + suc i) (suc i) (λ e. omega arith),
        row-behind net (low i) (suc i) (omega arith),
        row-behind net (high i) (suc i) (omega arith),
        row-behind net (ands i) (suc i) (omega arith),
      )

  -- Any other driven net has load 3 at most: it stands in one of the rows.
  other-driven : (net : ℕ) → low i ≤ net → ¬ (net ≡ high i + suc i) → net_load later (join_block (suc i)).occurrences net ≤ 3
  other-driven net h other = go (ltb_tells net (high i)) (ltb_tells net (ands i))
    where
      not_empty : only net (high i + suc i) 1 ≡ 0
      not_empty = only-away net (high i + suc i) 1 other

      not_empty-chosen : only net (high i + suc i) (suc i) ≡ 0
      not_empty-chosen = only-away net (high i + suc i) (suc i) other

      go :
          {b c : Bool}
          → Tells (net < high i) (high i ≤ net) b
          → Tells (net < ands i) (ands i ≤ net) c
          → net_load later (join_block (suc i)).occurrences net ≤ 3
      go (tells_true below) c =
          omega (
            arith,
            driven-load net h,
            not_empty,
            not_empty-chosen,
            only-most net (low i + suc i) 1,
            only-away net (suc (top i)) 1 (λ e. omega arith),
            row-most net (low i) (suc i),
            row_before net (high i) (suc i) below,
            row_before net (ands i) (suc i) (omega arith),
          )
      go (tells_false above) (tells_true below) =
          omega (
            arith,
            driven-load net h,
            not_empty,
            not_empty-chosen,
            only-away net (low i + suc i) 1 (λ e. omega arith),
            only-away net (suc (top i)) 1 (λ e. omega arith),
            row-behind net (low i) (suc i) (omega arith),
            row-most net (high i) (suc i),
            row_before net (ands i) (suc i) below,
          )
      go (tells_false above) (tells_false further) =
          omega (
            arith,
            driven-load net h,
            not_empty,
            not_empty-chosen,
            only-away net (low i + suc i) 1 (λ e. omega arith),
            only-most net (suc (top i)) 1,
            row-behind net (low i) (suc i) (omega arith),
            row-behind net (high i) (suc i) (omega arith),
            row-most net (ands i) (suc i),
          )

  pub join-most : (net : ℕ) → net_load later (join_block (suc i)).occurrences net ≤ suc i + 3
  join-most net = go (ltb_tells net (low i)) (eqb_tells net (high i + suc i))
    where
      go :
          {b c : Bool}
          → Tells (net < low i) (low i ≤ net) b
          → Tells (net ≡ high i + suc i) (¬ (net ≡ high i + suc i)) c
          → net_load later (join_block (suc i)).occurrences net ≤ suc i + 3
      go (tells_true h) c = omega (arith, join-inputs net h)
      go (tells_false h) (tells_true e) = rw e (omega (arith, join-empty))
      go (tells_false h) (tells_false other) = omega (arith, other-driven net h other)
