-- Loads in module 32 of the written counter, part by part: a bit has load 2 at most, a count bit load 1, and the "empty" of a part one for
-- each count bit that is chosen, one inside its block, and one as a count bit of the parts above.
use Rattle.std.specs.Prelude.{ℕ, suc, ◌+◌, ◌*◌, ◌-◌, ◌^◌, ◌≤◌, ◌<◌, ◌≡◌, Bool, true, false}
use mathlib.Core.List.{List, [], ◌∷◌, ◌++◌}
use native.Mathlib.Omega.{arith}
use Rattle.std.proofs.Math.ListN.{length, length-append}
use Rattle.meaning.specs.Loads.{places_load, Loads, referred_loads, net_load}
use Rattle.meaning.specs.Adder.{up_from, binary}
use Rattle.meaning.specs.Counter.{block_number, join_parts}
use Rattle.laws.specs.Tests.{Tells, tells_true, tells_false, ltb_tells}
use Rattle.laws.specs.Adder.Nets.{length-up_from}
use Rattle.laws.specs.Counter.Digits.{worth_0, worth_1}
use Rattle.laws.specs.Loads.Places.{net_load-append}
use Rattle.laws.specs.Loads.Counter.Runs.{only, only-away, only-most, run-before, run-behind, run-most}
use Rattle.laws.specs.Loads.Counter.Runs.{row, row_before, row-behind, row-most, choose-load}
use Rattle.laws.specs.Loads.Counter.Block.{BlockLoads}
use Rattle.laws.specs.Loads.Counter.Part.{Inside, level_inside, part-drives, PartsLoad, no_parts}

module _ {later : ℕ → Loads} (k n : ℕ) (blocks : (i : ℕ) → i < k → BlockLoads later i) where
  -- A digit 1.
  module _ (j bits count below : ℕ) (ds : List Bool) (short : count ≤ j) (level : j ≤ k) (fits : bits + 2 ^ j ≤ n) (behind : n ≤ below)
      (rest :
      PartsLoad k n (bits + 2 ^ j) (suc j) (below + count + count + count)
      (net_load later (join_parts (suc j) (bits + 2 ^ j) (suc j) (below + count + count + count) ds))) where
    abbrev high : ℕ
    high = below + count

    abbrev ands : ℕ
    ands = high + count

    abbrev ors : ℕ
    ors = ands + count

    abbrev drives : List ℕ
    drives = up_from high count ++ up_from (ors + count) (suc j - count)

    abbrev inside : Loads
    inside = referred_loads later (record { drives = drives; refers = block_number j; takes = up_from bits (2 ^ j) })

    abbrev taken : ℕ → ℕ
    taken net = places_load net (up_from bits (2 ^ j)) inside.inputs

    abbrev above : ℕ → ℕ
    above = net_load later (join_parts (suc j) (bits + 2 ^ j) (suc j) ors ds)

    abbrev load : ℕ → ℕ
    load = net_load later (join_parts j bits count below (true ∷ ds))

    in_part : Inside inside j
    in_part = level_inside later (up_from bits (2 ^ j)) drives k blocks j level

    part-load :
        (net : ℕ)
        → load net
        ≤ taken net
        + (only net (ors + j) 1 + only net (ors + j) count)
        + (row net below count + row net high count + row net ands count)
        + above net
    unfolding net_load join_parts
    part-load net =
        let nets = up_from high count ++ up_from (ors + count) (j - count) in
        let size : length nets ≡ j
        = omega (
          arith,
          length-append (up_from high count) (up_from (ors + count) (j - count)),
          length-up_from high count,
          length-up_from (ors + count) (j - count),
        ) in
        rw (part-drives high ors j count short, net_load-append later)
        (omega (arith, in_part.outputs net nets (ors + j) size, choose-load later net (ors + j) high below ands ors count))

    -- Before the new count no net is "empty", and the parts above load only bits that are left.
    older :
        (net : ℕ)
        → net < ors
        → load net ≤ taken net + (row net below count + row net high count + row net ands count) + above net
    older net h =
        omega (
          arith,
          part-load net,
          only-away net (ors + j) 1 (λ e. omega arith),
          only-away net (ors + j) count (λ e. omega arith),
        )

    -- Among the bits and the nets before `below` nothing is chosen.
    before : (net : ℕ) → net < below → load net ≤ taken net + above net
    before net h =
        omega (
          arith,
          older net (omega arith),
          row_before net below count h,
          row_before net high count (omega arith),
          row_before net ands count (omega arith),
        )

    part-inputs : (net : ℕ) → net < n → load net ≤ 2
    part-inputs net h = go (ltb_tells net (bits + 2 ^ j))
      where
        go : {b : Bool} → Tells (net < bits + 2 ^ j) (bits + 2 ^ j ≤ net) b → load net ≤ 2
        go (tells_true low) =
            omega (
              arith,
              before net (omega arith),
              run-most net bits (2 ^ j) inside.inputs,
              in_part.inputs,
              rest.used net low,
            )
        go (tells_false past) =
            omega (arith, before net (omega arith), run-behind net bits (2 ^ j) inside.inputs past, rest.inputs net h)

    untaken : (net : ℕ) → n ≤ net → taken net ≡ 0
    untaken net h = run-behind net bits (2 ^ j) inside.inputs (omega arith)

    part-most : (net : ℕ) → high ≤ net → load net ≤ k + 2
    part-most net h = go (ltb_tells net ors) (ltb_tells net (ors + suc j))
      where
        newer :
            ors ≤ net → load net ≤ only net (ors + j) 1 + only net (ors + j) count + above net
        newer past =
            omega (
              arith,
              part-load net,
              untaken net (omega arith),
              row-behind net below count (omega arith),
              row-behind net high count (omega arith),
              row-behind net ands count (omega arith),
            )

        go :
            {b c : Bool}
            → Tells (net < ors) (ors ≤ net) b
            → Tells (net < ors + suc j) (ors + suc j ≤ net) c
            → load net ≤ k + 2
        go (tells_true low) c =
            omega (
              arith,
              older net low,
              untaken net (omega arith),
              row-behind net below count h,
              row-most net high count,
              row-most net ands count,
              rest.idle net (omega arith) low,
            )
        go (tells_false past) (tells_true low) =
            omega (
              arith,
              newer past,
              only-most net (ors + j) 1,
              only-most net (ors + j) count,
              rest.counted net past low,
            )
        go (tells_false past) (tells_false further) =
            omega (
              arith,
              newer past,
              only-away net (ors + j) 1 (λ e. omega arith),
              only-away net (ors + j) count (λ e. omega arith),
              rest.most net further,
            )

    part : PartsLoad k n bits count below load
    part =
        record {
          used = λ net h.
              omega (arith, before net (omega arith), run-before net bits (2 ^ j) inside.inputs h, rest.used net (omega arith));
          inputs = part-inputs;
          idle = λ net from past. omega (arith, before net past, untaken net from, rest.idle net from (omega arith));
          counted = λ net from past.
              omega (
                arith,
                older net (omega arith),
                untaken net (omega arith),
                row-most net below count,
                row_before net high count past,
                row_before net ands count (omega arith),
                rest.idle net (omega arith) (omega arith),
              );
          most = part-most;
        }

  pub parts-load :
      (j bits count below : ℕ) (ds : List Bool)
      → count ≤ j
      → j + length ds ≤ suc k
      → bits + 2 ^ j * binary ds ≡ n
      → n ≤ below
      → PartsLoad k n bits count below (net_load later (join_parts j bits count below ds))
  unfolding join_parts net_load
  parts-load j bits count below [] short levels worth behind = no_parts
  parts-load j bits count below (false ∷ ds) short levels worth behind =
      parts-load (suc j) bits count below ds (omega arith) (omega arith) (omega (arith, worth_0 j ds)) behind
  parts-load j bits count below (true ∷ ds) short levels worth behind =
      part j bits count below ds short (omega arith) (omega (arith, worth_1 j ds)) behind
      (parts-load (suc j) (bits + 2 ^ j) (suc j) (below + count + count + count) ds (omega arith) (omega arith)
      (omega (arith, worth_1 j ds)) (omega arith))
