-- `run_rows::outputs::give_group` meets its contract. The loop's invariant: the rows passed are laid one behind the other.
use Prim.Native.Nat.{ℕ, ◌+◌, ◌-◌, ◌*◌, ◌≤◌}
use mathlib.Core.Path.{◌≡◌, refl, sym, ap, ◌∙◌}
use mathlib.Core.List.{List}
use native.Mathlib.Omega.{arith}
use native.Mathlib.Nat.{zero-mul, suc-mul}
use native.Mathlib.Numerals.{add-one}
use borrow.Rule.Slice.PartMut.{mid_of, mid_len, same_len_mid}
use lib.ListN.{length}
use Rattle.image.specs.Laid.{laid, laid-nothing}
use Rattle.run_rows.specs.Joined.{joined}
use Rattle.run_rows.specs.Giving.{given, Group, row-given, row_room, row_more}
use Rattle.run_rows.proofs.outputs.give_group.Statement.{statement}
use Rattle.run_rows.proofs.outputs.give_group.Tie as tie

record Going (count outputs : ℕ) (low high : List ℕ) (at : ℕ) (out₀ out : List ℕ) (place r : ℕ) : Type 0 where
  until : r ≤ count
  here : place ≡ at + r * outputs
  size : length out ≡ length out₀
  laid_so : (g : Group count outputs at low high (length out₀)) → out ≡ laid out₀ at (given g.values r)

abbrev invariant-loop : tie.invariant-loop-r
invariant-loop count outputs low high at out₀ place₀ r₀ out place r = Going count outputs low high at out₀ out place r

abbrev decreases-loop : tie.decreases-loop-r
decreases-loop count outputs low high at out₀ place₀ r₀ out place r = count - r

loop-holds : tie.Need-loop-r-init invariant-loop decreases-loop
unfolding joined
loop-holds c =
    let a = c.args in
    record {
      until = omega arith;
      here = omega (arith, zero-mul a.outputs);
      size = refl;
      laid_so = λ g. sym (laid-nothing a.out.now a.at);
    }

-- The row's part is one of the buffer.
inside : (c : tie.In-loop-r invariant-loop decreases-loop) → let l = c.loop-r in l.place + c.args.outputs ≤ length l.out
inside c =
    let l = c.loop-r in
    omega (arith, row_room c.requires l.r c.loop-r-test.true, l.invariant.here, l.invariant.size)

long : (c : tie.In-loop-r invariant-loop decreases-loop)
    → let l = c.loop-r in
    let outputs = c.args.outputs in
    length (mid_of l.place (l.place + outputs - l.place) l.out) ≡ outputs
long c =
    let l = c.loop-r in
    let outputs = c.args.outputs in
    mid_len l.place (l.place + outputs) l.out (inside c) ∙ omega arith

give-row-requires : tie.Need-give_row-requires invariant-loop decreases-loop
give-row-requires c κs =
    let g = c.requires in
    (omega (arith, c.loop-r-test.true, g.few), row-given g c.loop-r.r c.loop-r-test.true (long c.before))

loop-again : tie.Need-loop-r-preserved invariant-loop decreases-loop
loop-again c =
    let l = c.loop-r in
    let a = c.args in
    let taken = c.loop-r-test.true in
    record {
      until = omega (arith, taken);
      here = omega (arith, l.invariant.here, ap (λ (n : ℕ). n * a.outputs) (add-one l.r), suc-mul l.r a.outputs);
      size =
          same_len_mid l.place (l.place + a.outputs - l.place) l.out c.give_row.new.out c.give_row.auto.out
          ∙ l.invariant.size;
      laid_so = λ g.
          row_more g a.out.now refl (l.invariant.laid_so g) l.invariant.here refl taken
          (c.give_row.ensures (row-given g l.r taken (long c.before.before.before.before)));
    }

pub give_group_spec : {M : Type 1} → statement M
give_group_spec =
    tie.close
    (tie.spec
    invariant-loop
    decreases-loop
    loop-holds
    (λ c. omega (arith, inside c))
    (λ c. omega (arith, c.loop-r-test.true, c.requires.few))
    (λ c. omega arith)
    (λ c. omega arith)
    inside
    give-row-requires
    (λ c. omega arith)
    (λ c. omega arith)
    loop-again
    (λ c. c.loop-r.invariant.size)
    (λ c g.
    let l = c.loop-r in
    let all : l.r ≡ c.args.count = omega (arith, l.invariant.until, c.loop-r-test.false) in
    l.invariant.laid_so g ∙ ap (λ (n : ℕ). laid c.args.out.now c.args.at (given g.values n)) all))
