-- The modules in front of a position are named.
use Prim.Native.Nat.{ℕ, ◌+◌, ◌≤◌, ◌<◌}
use mathlib.Core.Path.{◌≡◌, ap, ◌∙◌}
use mathlib.Core.List.{List, ◌∷◌}
use native.Mathlib.Decide.{dec_lt}
use native.Mathlib.Omega.{arith}
use lib.ListN.{length, get_or, set, drop, length-drop}
use lib.Seq.{get_or-set_same, get_or-set_other}
use Rattle.meaning.specs.Syntax.{Module}
use Rattle.open_places.specs.Places.{Named}

pub record NamedTo (ms : List Module) (names : List ℕ) (k : ℕ) : Type 0 where
  pub name : (j : ℕ) {m : Module} {later : List Module} → j < k → drop j ms ≡ m ∷ later → get_or names j 0 ≡ m.number

pub named_none : (ms : List Module) (names : List ℕ) → NamedTo ms names 0
named_none ms names = record { name = λ j h e. absurd (omega arith) }

pub named_more :
    {ms : List Module} {names : List ℕ} {k x : ℕ}
    → NamedTo ms names k
    → k < length names
    → ((m : Module) (later : List Module) → drop k ms ≡ m ∷ later → x ≡ m.number)
    → NamedTo ms (set names k x) (k + 1)
named_more {ms} {names} {k} {x} n room is = record { name = at }
  where
    go : (j : ℕ) {m : Module} {later : List Module} → Dec (j < k) → j < k + 1 → drop j ms ≡ m ∷ later → get_or (set names k x) j 0 ≡ m.number
    go j (yes before) h here = get_or-set_other names k j x 0 (λ e. omega arith) ∙ n.name j before here
    go j {m} {later} (no e) h here = let same : j ≡ k = omega arith in rw same (get_or-set_same names k x 0 room ∙ is m later (rw same at here))

    at : (j : ℕ) {m : Module} {later : List Module} → j < k + 1 → drop j ms ≡ m ∷ later → get_or (set names k x) j 0 ≡ m.number
    at j h here = go j (dec_lt j k) h here

pub named-all : {ms : List Module} {names : List ℕ} {k : ℕ} → NamedTo ms names k → length ms ≤ k → Named ms names
named-all {ms} n all = record { name = λ j e. n.name j (omega (arith, ap length e, length-drop j ms)) e }
