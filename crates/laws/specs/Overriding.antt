-- The surprise of a joined file: a module of the house that refers to a number which the group's file overrides finds that number in front of
-- itself and not behind. So it breaks rule 13, and the joined file is not accepted.
use Rattle.std.specs.Prelude.{ℕ, ◌≤◌, ◌≡◌, List, [], ◌∷◌, ◌++◌}
use Rattle.std.proofs.Common.{sym, ap, subst}
use Rattle.meaning.specs.Syntax.{Occurrence, Module}
use Rattle.meaning.specs.Members.{◌∈◌}
use Rattle.meaning.specs.Boxlist.{box, F, assoc, is_box}
use Rattle.meaning.specs.Rules.{Unresolved}
use Rattle.meaning.specs.Verdict.{good, file_verdict}
use Rattle.meaning.specs.Shelves.{lacking, joined}
use Rattle.laws.specs.WellFormed.{Body, done, step, Accepted, none, some}
use Rattle.laws.specs.Accepted.{good-accepted}
use Rattle.laws.specs.Members.{here, there, in-none}
use Rattle.laws.specs.Tests.{if_false}
use Rattle.laws.specs.Finding.{found-tells, reference-resolved}
use Rattle.laws.specs.Suffix.{unmet}
use Rattle.laws.specs.Joining.{overridden}

-- A module with the modules behind it.
pub data InFrontOf (m : Module) (later : List Module) : List Module → Type 0 where
  first : InFrontOf m later (m ∷ later)
  further : {other : Module} {ms : List Module} → InFrontOf m later ms → InFrontOf m later (other ∷ ms)

-- A number that no module of a list has, none behind one of them has.
none-behind : (number : ℕ) {m : Module} {later ms : List Module} → assoc number ms ≡ F → InFrontOf m later ms → assoc number later ≡ F
none-behind number {m} {later} absent first = (unmet number m later absent).further
none-behind number absent (further {other} {ms} i) = none-behind number (unmet number other ms absent).further i

-- The house's modules of the joined list, behind one of them.
pub overridden-unresolved :
    (own others : List Module) {m k : Module} {later : List Module} (o : Occurrence)
    → InFrontOf m later (lacking own others)
    → 16 ≤ o.refers
    → assoc o.refers own ≡ box k
    → Unresolved o later
overridden-unresolved own others {later = later} o i above found =
    record {
      no_gate = above;
      no_module = if_false (found-tells o.refers later) (ap is_box (none-behind o.refers (overridden o.refers own others found) i));
    }

accepted-behind : (front : List Module) {ms : List Module} → Accepted (front ++ ms) → Accepted ms
accepted-behind [] a = a
accepted-behind (m ∷ front) (some ok rest) = accepted-behind front rest

resolved_in : {later : List Module} {signals : List ℕ} {os : List Occurrence} {o : Occurrence} → Body later signals os → o ∈ os → ¬ (Unresolved o later)
resolved_in done i = absurd (in-none i)
resolved_in {later} {o = o} (step {o = p} ok rest) (here e) = subst (λ (x : Occurrence). ¬ (Unresolved x later)) (sym e) (reference-resolved ok.reference)
resolved_in (step ok rest) (there i) = resolved_in rest i

-- No occurrence of an accepted list is unresolved.
accepted-resolved : {m : Module} {later ms : List Module} {o : Occurrence} → Accepted ms → InFrontOf m later ms → o ∈ m.occurrences → ¬ (Unresolved o later)
accepted-resolved none f i = elim f [ ]
accepted-resolved (some ok rest) first i = resolved_in ok.body i
accepted-resolved (some ok rest) (further f) i = accepted-resolved rest f i

pub overridden-refused :
    (own others : List Module) {m k : Module} {later : List Module} (o : Occurrence)
    → InFrontOf m later (lacking own others)
    → o ∈ m.occurrences
    → 16 ≤ o.refers
    → assoc o.refers own ≡ box k
    → ¬ (file_verdict (joined own others) ≡ good)
unfolding joined
overridden-refused own others o i inside above found accepts =
    accepted-resolved (accepted-behind own (good-accepted (own ++ lacking own others) accepts)) i inside
    (overridden-unresolved own others o i above found)
