-- `run_rows::outputs::fetch` meets its contract. The loop's invariant: the bytes of the outputs passed are fetched, of both rails.
use Prim.Native.Nat.{ℕ, ◌+◌, ◌-◌, ◌/◌, ◌%◌, ◌^◌, ◌≤◌, ◌<◌}
use mathlib.Core.Path.{◌≡◌, sym, ap, subst, ◌∙◌}
use mathlib.Core.List.{List, []}
use native.Mathlib.Omega.{arith}
use lib.ListN.{length, get_or}
use Rattle.image.specs.Slots.{values_at}
use Rattle.image.specs.Reading.{value-at}
use Rattle.run_rows.specs.Giving.{Fetched, fetched-none, fetched-more}
use Rattle.run_rows.proofs.outputs.fetch.Statement.{statement}
use Rattle.run_rows.proofs.outputs.fetch.Tie as tie

record Going (word shift : ℕ) (outs : List (List ℕ)) (low₀ high₀ low high : List ℕ) (count j : ℕ) : Type 0 where
  until : j ≤ count
  lows : Fetched word shift outs low₀ low j
  highs : Fetched (word + 4) shift outs high₀ high j

abbrev invariant-loop : tie.invariant-loop-j
invariant-loop image from to word shift entries low₀ high₀ count j₀ low high j =
    Going word shift (values_at [] image from to 0 entries) low₀ high₀ low high (to - from) j

abbrev decreases-loop : tie.decreases-loop-j
decreases-loop image from to word shift entries low₀ high₀ count j₀ low high j = to - from - j

abbrev slot : tie.After-byte_of-in-loop-j invariant-loop decreases-loop → tie.After-entry-slot invariant-loop decreases-loop
slot c = c.before.before.before.before

slot-inside : (c : tie.After-entry-slot invariant-loop decreases-loop) → c.entry-slot.result < length c.args.entries.now
slot-inside c =
    omega
    (arith, c.entry-slot.ensures, c.requires.readable.slots (c.args.from + c.loop-j.j) (omega arith) (omega (arith, c.loop-j-test.true)))

-- The entry that is read is the output's.
output :
    (c : tie.After-entry-slot invariant-loop decreases-loop)
    → let a = c.args in
    get_or a.entries.now c.entry-slot.result [] ≡ get_or (values_at [] a.image.now a.from a.to 0 a.entries.now) c.loop-j.j []
output c =
    let a = c.args in
    ap (λ (s : ℕ). get_or a.entries.now s []) c.entry-slot.ensures
    ∙ sym (value-at [] a.image.now a.from a.to a.entries.now c.loop-j.j c.loop-j-test.true c.requires.readable.inside)

loop-again : tie.Need-loop-j-preserved invariant-loop decreases-loop
loop-again c =
    let l = c.loop-j in
    let p = c.requires in
    let a = c.args in
    let taken = c.loop-j-test.true in
    record {
      until = omega (arith, taken);
      lows =
          fetched-more l.invariant.lows (omega (arith, l.invariant.lows.size, p.low-long, taken))
          (c.byte_of.ensures ∙ ap (λ (e : List ℕ). get_or e a.word 0 / 2 ^ a.shift % 256) (output c.before.before.before.before));
      highs =
          fetched-more l.invariant.highs (omega (arith, l.invariant.highs.size, p.high-long, taken))
          (c.byte_of-in-loop-j.ensures ∙ ap (λ (e : List ℕ). get_or e (a.word + 4) 0 / 2 ^ a.shift % 256) (output c.before.before.before.before));
    }

pub fetch_spec : {M : Type 1} → statement M
fetch_spec =
    tie.close
    (tie.spec
    invariant-loop
    decreases-loop
    (λ c. c.requires.readable.ordered)
    (λ c. record { until = omega arith; lows = fetched-none; highs = fetched-none })
    (λ c. omega (arith, c.ranges.from.fits))
    (λ c κs. omega (arith, c.requires.readable.inside))
    (λ c. let h = slot-inside c in omega arith)
    slot-inside
    (λ c κs. let p = c.requires in (omega (arith, p.one), p.place))
    (λ c.
    omega (arith, c.loop-j.invariant.lows.size, c.requires.low-long, c.loop-j-test.true))
    (λ c. let h = slot-inside c.before.before in omega arith)
    (λ c. slot-inside c.before.before)
    (λ c. omega (arith, c.requires.one))
    (λ c κs.
    let p = c.requires in (omega (arith, p.one), p.place))
    (λ c.
    omega (arith, c.loop-j.invariant.highs.size, c.requires.high-long, c.loop-j-test.true))
    (λ c. omega (arith, c.loop-j-test.true))
    (λ c. omega (arith, c.loop-j-test.true))
    loop-again
    (λ c. c.loop-j.invariant.lows.size)
    (λ c. c.loop-j.invariant.highs.size)
    (λ c.
    let l = c.loop-j in
    let all : l.j ≡ c.args.to - c.args.from = omega (arith, l.invariant.until, c.loop-j-test.false) in
    (subst (Fetched _ _ _ _ _) all l.invariant.lows, subst (Fetched _ _ _ _ _) all l.invariant.highs)))
