-- `lanes::rows::sure` meets its contract: only 1 is surely 1.
use mathlib.Core.Bool.{Bool, true, false, cond}
use mathlib.Core.Path.{◌≡◌, refl}
use borrow.Author.Tests.{ne_eqb}
use lib.Dec.{eqb}
use Rattle.meaning.specs.Values.{known, un}
use Rattle.lanes.specs.Lanes.{surely}
use Rattle.lanes.specs.Words.{digit}
use Rattle.lanes.proofs.rows.sure.Statement.{statement}
use Rattle.lanes.proofs.rows.sure.Tie as tie

other : (b : Bool) → 0 ≡ digit (surely (cond b (known false) un))
other true = refl
other false = refl

pub sure_spec : {M : Type 1} → statement M
sure_spec =
    tie.close
    (tie.spec (λ c. rw c.if-v-eq1.true) (λ c. simp (ne_eqb _ 1 c.if-v-eq1.false) (other (eqb c.args.v 0))))
