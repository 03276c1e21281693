-- `load_steps::keep` meets its contract: where the list ends before position k, nothing is set. Assumes nothing.
use mathlib.Core.Path.{refl, sym}
use Prim.Native.Nat.{◌+◌}
use native.Mathlib.Omega.{arith}
use borrow.Author.Rules.{rules}
use lib.Seq.{set_out}
use Rattle.load_steps.proofs.keep.Statement.{statement}
use Rattle.load_steps.proofs.keep.Tie as tie

-- Where the function began, from where the loads of the inputs are kept.
abbrev began : tie.After-copy → tie.Start
began c = c.before.before.before.before.before.before

keep-slots-requires : tie.Need-keep_slots-requires
keep-slots-requires c κs =
    let able = (began c.before.before.before).requires in
    (able.outputs, omega (arith, able.outputs_there, c.copy.auto.target))

returns : tie.Need-returns-then-k-known
returns c =
    record { middle = _; inputs = c.copy.ensures; outputs = c.keep_slots.ensures; largest = refl }

returns-2 : tie.Need-returns-else-k-known
returns-2 c =
    let a = (began c.before.before.before.before.before.before.before).args in
    record {
      middle = _;
      inputs = c.copy.ensures;
      outputs = c.keep_slots.ensures;
      largest = sym (set_out a.known.now a.k (a.load + 1) c.if-k-known.false);
    }

pub keep_spec : {M : Type 1} → statement M
keep_spec =
    tie.close
    (tie.spec
    (λ c. omega (arith, c.requires.there))
    (λ c κs. let able = c.requires in (omega (arith, able.frame), omega (arith, able.there)))
    keep-slots-requires
    (λ c. search rules)
    (λ c. search rules)
    (λ c. search rules)
    (λ c. search rules)
    (λ c. search rules)
    returns
    (λ c. search rules)
    returns-2)
