-- A search for the module of a number: what is left of the list says the same of the number as the whole.
use Prim.Native.Nat.{ℕ, ◌+◌, ◌≤◌}
use mathlib.Core.Path.{◌≡◌, refl, sym, ap, ◌∙◌}
use mathlib.Core.List.{List}
use native.Mathlib.Omega.{arith}
use lib.ListN.{length, drop, drop_of_length-le}
use borrow.Author.Tests.{eq-eqb, ne_eqb}
use Rattle.meaning.specs.Syntax.{Module}
use Rattle.meaning.specs.Boxlist.{F, assoc}
use Rattle.image.specs.Resolved.{position_of}
use Rattle.open_finding.specs.Finding.{FoundAt}
use Rattle.open_finding.specs.Here.{Here}

-- None of the first k modules has the number.
pub record Sought (ms : List Module) (number k : ℕ) : Type 0 where
  pub same : assoc number ms ≡ assoc number (drop k ms)
  pub further : position_of number ms ≡ k + position_of number (drop k ms)

pub sought_none : (ms : List Module) (number : ℕ) → Sought ms number 0
sought_none ms number = record { same = refl; further = omega arith }

module _ {ms : List Module} {number k : ℕ} (s : Sought ms number k) where
  pub sought_here : (h : Here ms k) → h.m.number ≡ number → FoundAt ms number k
  unfolding assoc position_of
  sought_here h e =
      let t = eq-eqb number h.m.number (sym e) in
      record {
        m = h.m;
        later = h.later;
        here = h.here;
        named = e;
        found = s.same ∙ rw (h.here, t);
        placed = s.further ∙ rw (h.here, t) (omega arith);
      }

  pub sought_more : (h : Here ms k) → (h.m.number ≡ number → ⊥) → Sought ms number (k + 1)
  unfolding assoc position_of
  sought_more h differ =
      let t = ne_eqb number h.m.number (λ e. differ (sym e)) in
      record {
        same = s.same ∙ rw (h.here, h.after, t);
        further = s.further ∙ rw (h.here, h.after, t) (omega arith);
      }

  pub sought_all : length ms ≤ k → assoc number ms ≡ F
  unfolding assoc
  sought_all h = s.same ∙ ap (assoc number) (drop_of_length-le ms h)
