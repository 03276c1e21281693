-- How references are renumbered in the part of a file that begins at a position: a gate keeps its number, and the number of a module
-- of that part becomes 16 plus the module's position. It holds of the whole file, and with it of every part.
use Rattle.std.specs.Prelude.{ℕ, suc, ◌+◌, ◌≤◌, ◌≡◌, refl, Bool, true, false, List, ◌∷◌, eqb}
use Rattle.std.proofs.Common.{◌∙◌, arith, eqb-true, le-ltb}
use Rattle.meaning.specs.Syntax.{Module}
use Rattle.meaning.specs.Gates.{is_gate}
use Rattle.meaning.specs.Boxlist.{box, assoc}
use Rattle.laws.specs.Standing.{Stands, here, there, stands, number_of}
use Rattle.image.specs.Resolved.{position_of, refer_to}
use Rattle.image.specs.Fitting.{ModuleFits, Fits, none, some}

pub record Refers (refer : ℕ → ℕ) (position : ℕ) (ms : List Module) : Type 0 where
  pub gates : (number : ℕ) → is_gate number ≡ true → refer number ≡ number
  pub modules : (number : ℕ) (m : Module) → assoc number ms ≡ box m → refer number ≡ 16 + (position + position_of number ms)

above-gates : {ms : List Module} {number : ℕ} {m : Module} → Fits ms → Stands number m ms → 16 ≤ m.number
above-gates none s = elim s [ ]
above-gates (some ok rest) (here h) = ok.above
above-gates (some ok rest) (there h s) = above-gates rest s

-- No module of a file that fits has a gate's number.
found_no_gate : {ms : List Module} → Fits ms → (number : ℕ) {m : Module} → assoc number ms ≡ box m → is_gate number ≡ false
found_no_gate {ms} fits number {m} e =
    let there = stands number ms e in
    rw (number_of there) (le-ltb m.number 16 (above-gates fits there))

pub refers-whole : {ms : List Module} → Fits ms → Refers (refer_to ms) 0 ms
unfolding refer_to
refers-whole {ms} fits =
    record {
      gates = λ number h. rw h;
      modules = λ number m e.
          let place : 16 + position_of number ms ≡ 16 + (0 + position_of number ms) = omega arith in
          rw (found_no_gate fits number e) place;
    }

-- A number that later modules have is not the first one's.
pub not_first :
    {m : Module} {later : List Module} → ModuleFits m later
    → (number : ℕ) {n : Module} → assoc number later ≡ box n → eqb number m.number ≡ false
not_first {m} {later} ok number {n} e = go (eqb number m.number) refl
  where
    go : (b : Bool) → eqb number m.number ≡ b → b ≡ false
    go true h = let same : number ≡ m.number = eqb-true number m.number h in let unique = ok.unique in cc
    go false h = refl

pub refers-behind :
    {refer : ℕ → ℕ} {position : ℕ} {m : Module} {later : List Module}
    → ModuleFits m later
    → Refers refer position (m ∷ later)
    → Refers refer (suc position) later
unfolding assoc position_of
refers-behind {position = position} {later = later} ok refers =
    record {
      gates = refers.gates;
      modules = λ number n e.
          let another = not_first ok number e in
          let place = refers.modules number n (rw another e) in
          let further : 16 + (position + suc (position_of number later)) ≡ 16 + (suc position + position_of number later) = omega arith in
          rw another at place ∙ further;
    }

-- The first module's number.
pub refer_first :
    {refer : ℕ → ℕ} {position : ℕ} {m : Module} {later : List Module}
    → Refers refer position (m ∷ later)
    → (number : ℕ)
    → eqb number m.number ≡ true
    → refer number ≡ 16 + position
unfolding assoc position_of
refer_first {position = position} {m = m} refers number h =
    let place = refers.modules number m (rw h) in
    let first : 16 + (position + 0) ≡ 16 + position = omega arith in
    rw h at place ∙ first

-- A reference to a module goes to no gate after resolution either.
pub refer_no_gate :
    {refer : ℕ → ℕ} {position : ℕ} {later : List Module}
    → Refers refer position later
    → (number : ℕ) (m : Module)
    → assoc number later ≡ box m
    → is_gate (refer number) ≡ false
refer_no_gate {refer} refers number m e = let place = refers.modules number m e in le-ltb (refer number) 16 (omega arith)
