-- Modules behind an accepted list change nothing of what the list says of its own numbers: its references go to its own modules, and the
-- first module of a number is meant. Evaluation, figures and flattening are all of one form, so this is proved once.
use Rattle.std.specs.Prelude.{ℕ, ◌≡◌, refl, Bool, true, false, cond, List, ◌∷◌, ◌++◌, eqb}
use Rattle.std.proofs.Common.{sym, ap, ◌∙◌, true≢false, arith}
use Rattle.meaning.specs.Syntax.{Occurrence, Module}
use Rattle.meaning.specs.Gates.{is_gate}
use Rattle.meaning.specs.Boxlist.{box, assoc}
use Rattle.laws.specs.WellFormed.{Reference, to_gate, to_module, Body, done, step, Accepted, none, some}
use Rattle.laws.specs.References.{Refer, nothing, also}
use Rattle.laws.specs.Suffix.{Searches}

-- Two lists of modules say the same of a number, if it is no gate's.
pub record Alike {C : Type 0} (l l' : ℕ → C) (number : ℕ) : Type 0 where
  pub same : is_gate number ≡ false → l number ≡ l' number

-- What a list says of a number it says of the first module that has it, by what the modules behind say of the numbers that it refers to.
pub record Refers {C : Type 0} (f : List Module → ℕ → C) (own : (later : ℕ → C) → Module → C) : Type 0 where
  pub here : (m : Module) (ms : List Module) (number : ℕ) → eqb number m.number ≡ true → f (m ∷ ms) number ≡ own (f ms) m
  pub past : Searches f
  pub alike : (m : Module) {l l' : ℕ → C} → Refer (Alike l l') m.occurrences → own l m ≡ own l' m

-- Whoever hands on what is said of a number that is no gate's hands on the same.
pub through-gate :
    {C D : Type 0} (gate : D) (hand : C → D) {l l' : ℕ → C} {number : ℕ}
    → Alike l l' number
    → cond (is_gate number) gate (hand (l number)) ≡ cond (is_gate number) gate (hand (l' number))
through-gate gate hand {l} {l'} {number} alike = go (is_gate number) refl
  where
    go : (b : Bool) → is_gate number ≡ b → cond b gate (hand (l number)) ≡ cond b gate (hand (l' number))
    go true e = refl
    go false e = ap hand (alike.same e)

-- The references of a body go to modules behind it.
body_alike :
    {C : Type 0} {l l' : ℕ → C} {later : List Module} {signals : List ℕ} {os : List Occurrence}
    → Body later signals os
    → ((x : ℕ) (k : Module) → assoc x later ≡ box k → l x ≡ l' x)
    → Refer (Alike l l') os
body_alike done below = nothing
body_alike {l = l} {l'} {later} (step {o = o} ok os) below = also (record { same = go ok.reference }) (body_alike os below)
  where
    go : Reference later o → is_gate o.refers ≡ false → l o.refers ≡ l' o.refers
    go (to_gate h arity one) e = absurd (true≢false (sym h ∙ e))
    go (to_module m h found takes drives) e = below o.refers m found

pub nothing-behind :
    {C : Type 0} {f : List Module → ℕ → C} {own : (ℕ → C) → Module → C}
    → Refers f own
    → {ms : List Module}
    → Accepted ms
    → (behind : List Module) (number : ℕ) (k : Module)
    → assoc number ms ≡ box k
    → f (ms ++ behind) number ≡ f ms number
unfolding assoc
nothing-behind r none behind number k found = absurd (let z : ◌≡◌ {A = ℕ} 0 1 = cc in omega arith)
nothing-behind {C} {f} r (some {m} {later} ok rest) behind number k found =
    go (eqb number m.number) refl found (nothing-behind r rest behind)
  where
    go :
        (b : Bool)
        → eqb number m.number ≡ b
        → cond b (box m) (assoc number later) ≡ box k
        → ((x : ℕ) (j : Module) → assoc x later ≡ box j → f (later ++ behind) x ≡ f later x)
        → f (m ∷ (later ++ behind)) number ≡ f (m ∷ later) number
    go true e h below =
        r.here m (later ++ behind) number e
        ∙ r.alike m (body_alike ok.body below)
        ∙ sym (r.here m later number e)
    go false e h below =
        r.past.passes m (later ++ behind) number e
        ∙ below number k h
        ∙ sym (r.past.passes m later number e)
