-- `lanes::rows::may` meets its contract: only 0 cannot be 1.
use mathlib.Core.Bool.{Bool, true, false, cond}
use mathlib.Core.Path.{◌≡◌, refl}
use borrow.Author.Tests.{ne_eqb}
use lib.Dec.{eqb}
use Rattle.meaning.specs.Values.{known, un}
use Rattle.lanes.specs.Lanes.{maybe}
use Rattle.lanes.specs.Words.{digit}
use Rattle.lanes.proofs.rows.may.Statement.{statement}
use Rattle.lanes.proofs.rows.may.Tie as tie

other : (b : Bool) → 1 ≡ digit (maybe (cond b (known true) un))
other true = refl
other false = refl

pub may_spec : {M : Type 1} → statement M
may_spec =
    tie.close
    (tie.spec (λ c. rw c.if-v-eq0.true) (λ c. simp (ne_eqb _ 0 c.if-v-eq0.false) (other (eqb c.args.v 1))))
