-- Where a module stands in a list: what looking up its number found, as data. A module that stands in an accepted list keeps the
-- rules in front of the modules after it.
use Rattle.std.specs.Prelude.{ℕ, ◌≡◌, refl, Bool, true, false, cond, List, [], ◌∷◌, eqb}
use Rattle.std.proofs.Common.{subst, eqb-true, arith}
use Rattle.meaning.specs.Lists.{All, more}
use Rattle.meaning.specs.Syntax.{Module}
use Rattle.meaning.specs.Boxlist.{box, assoc}
use Rattle.laws.specs.WellFormed.{ModuleOk, Accepted, none, some}

-- A module is the first in a list that has the number.
pub data Stands (number : ℕ) (m : Module) : List Module → Type 0 where
  here : {later : List Module} → eqb number m.number ≡ true → Stands number m (m ∷ later)
  there :
      {other : Module} {later : List Module}
      → eqb number other.number ≡ false
      → Stands number m later
      → Stands number m (other ∷ later)

pub stands : (number : ℕ) (ms : List Module) {m : Module} → assoc number ms ≡ box m → Stands number m ms
unfolding assoc
stands number [] e = absurd (let z : ◌≡◌ {A = ℕ} 0 1 = cc in omega arith)
stands number (other ∷ ms) {m} e = go (eqb number other.number) refl e (stands number ms)
  where
    go :
        (b : Bool)
        → eqb number other.number ≡ b
        → cond b (box other) (assoc number ms) ≡ box m
        → (assoc number ms ≡ box m → Stands number m ms)
        → Stands number m (other ∷ ms)
    go true h found rest = let same : other ≡ m = cc in subst (λ (x : Module). Stands number x (other ∷ ms)) same (here h)
    go false h found rest = there h (rest found)

pub number_of : {number : ℕ} {m : Module} {ms : List Module} → Stands number m ms → number ≡ m.number
number_of {number} {m} (here h) = eqb-true number m.number h
number_of (there h rest) = number_of rest

pub keeps-rules :
    {number : ℕ} {m : Module} {ms : List Module}
    → Accepted ms
    → Stands number m ms
    → (later : List Module) × ModuleOk m later
keeps-rules none s = elim s [ ]
keeps-rules (some {later} ok rest) (here h) = (later, ok)
keeps-rules (some ok rest) (there h s) = keeps-rules rest s

-- What holds of every module of a list holds of one that stands in it.
pub holds-standing : {P : Module → Type 0} {number : ℕ} {m : Module} {ms : List Module} → All P ms → Stands number m ms → P m
holds-standing Rattle.meaning.specs.Lists.none s = elim s [ ]
holds-standing (more p rest) (here h) = p
holds-standing (more p rest) (there h s) = holds-standing rest s
