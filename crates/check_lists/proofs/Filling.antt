-- The tables that know the modules from a position on: one more module in front of those.
use Prim.Native.Nat.{ℕ, zero, suc, ◌+◌, ◌≤◌, ◌<◌}
use mathlib.Core.Path.{◌≡◌, refl, ◌∙◌}
use mathlib.Core.List.{List, []}
use mathlib.Core.Logic.{◌⊎◌, ⊎_elim}
use native.Mathlib.Omega.{arith}
use native.Mathlib.Nat.{zero-add}
use lib.ListN.{length, get_or, set, drop, drop_of_length-le}
use Rattle.meaning.specs.Syntax.{Module}
use Rattle.check_sizes.specs.Behind.{Here, inside, behind}
use Rattle.check_sizes.specs.Measuring.{stored}
use Rattle.check_lists.specs.Filed.{At}
use Rattle.check_lists.specs.Numbering.{shifted, first_of, first_repeat, Entered}
use Rattle.check_lists.specs.Numbers.{Tabled, tabled-more, repeat_here, repeat_later}

-- A table by position has what it is to say of each module from position k on.
pub record Filled (of : Module → ℕ) (table : List ℕ) (k : ℕ) (ms : List Module) : Type 0 where
  pub entry : (j : ℕ) (m : Module) (later : List Module) → k ≤ j → At ms j m later → get_or table j 0 ≡ of m

module _ {of : Module → ℕ} {table : List ℕ} {ms : List Module} {k : ℕ} where
  pub filled_none : length ms ≤ k → Filled of table k ms
  filled_none h = record { entry = λ j m later le e. absurd (omega (arith, inside ms j e)) }

  pub filled_more :
      {m : Module} {later : List Module} {v : ℕ}
      → At ms k m later
      → k < length table
      → Filled of table (k + 1) ms
      → v ≡ of m
      → Filled of (set table k v) k ms
  filled_more {v = v} here room before is = record { entry = stored ms k here (λ m later. of m) table v room is before.entry }

-- What all four tables know of the modules from position k on, and where the first of these is that repeats.
pub record Known (ms : List Module) (k : ℕ) (first names inputs outputs : List ℕ) (repeated : ℕ) : Type 0 where
  pub numbered : Tabled first k (drop k ms)
  pub named : Filled (λ (m : Module). m.number) names k ms
  pub taken : Filled (λ (m : Module). length m.inputs) inputs k ms
  pub driven : Filled (λ (m : Module). length m.outputs) outputs k ms
  pub repeats : repeated ≡ k + first_repeat (drop k ms)

-- Behind the last module there is nothing to know.
pub known-none :
    {first names inputs outputs : List ℕ} (ms : List Module) (k : ℕ)
    → k ≡ length ms
    → ((x : ℕ) → get_or first x 0 ≡ 0)
    → Known ms k first names inputs outputs k
unfolding Tabled first_of first_repeat
known-none ms k e clear =
    let gone : drop k ms ≡ [] = drop_of_length-le ms {i = k} (omega arith) in
    record {
      numbered = rw gone (λ x. clear x);
      named = filled_none (omega arith);
      taken = filled_none (omega arith);
      driven = filled_none (omega arith);
      repeats = rw gone (omega arith);
    }

-- One module more, whose numbers were read.
pub known_more :
    {ms : List Module} {k : ℕ} {first names inputs outputs : List ℕ} {repeated repeated' x y n o : ℕ} (p : Here ms k)
    → Known ms (k + 1) first names inputs outputs repeated
    → x ≡ p.m.number
    → y ≡ p.m.number
    → n ≡ length p.m.inputs
    → o ≡ length p.m.outputs
    → x < length first
    → k < length names
    → k < length inputs
    → k < length outputs
    → ((get_or first x 0 ≡ 0 → ⊥) × (repeated' ≡ k)) ⊎ ((get_or first x 0 ≡ 0) × (repeated' ≡ repeated))
    → Known ms k (set first x (k + 1)) (set names k y) (set inputs k n) (set outputs k o) repeated'
known_more {ms} {k} {first} {repeated = repeated} {x = x} p known number name taken driven index named takes drives came =
    let after : drop (k + 1) ms ≡ p.later = behind ms k p.at in
    let before : Tabled first (k + 1) p.later = rw after at known.numbered in
    let counted : repeated ≡ k + 1 + first_repeat p.later = rw after at known.repeats in
    record {
      numbered = rw (p.at, number) (tabled-more first k p.m p.later before (rw number at index));
      named = filled_more p.at named known.named name;
      taken = filled_more p.at takes known.taken taken;
      driven = filled_more p.at drives known.driven driven;
      repeats =
          rw p.at
          (⊎_elim
          (λ w. w.1 ∙ repeat_here first k p.m p.later before (rw number at w.0))
          (λ w. w.1 ∙ repeat_later first k p.m p.later before repeated counted (rw number at w.0))
          came);
    }

-- From position 0 on they know all.
pub known-all :
    {ms : List Module} {first names inputs outputs : List ℕ} {repeated : ℕ}
    → Known ms 0 first names inputs outputs repeated
    → length ms ≤ length names
    → length ms ≤ length inputs
    → length ms ≤ length outputs
    → Entered ms first names inputs outputs repeated
unfolding Tabled
known-all {ms} known named takes drives =
    record {
      numbered = record { place = λ x. known.numbered x ∙ unshifted (first_of x ms) };
      named = record { name = λ k m later e. known.named.entry k m later (omega arith) e; listed = named };
      ported =
          record {
            taken = λ k m later e. known.taken.entry k m later (omega arith) e;
            driven = λ k m later e. known.driven.entry k m later (omega arith) e;
            inputs_listed = takes;
            outputs_listed = drives;
          };
      repeats = known.repeats ∙ zero-add (first_repeat ms);
    }
  where
    unshifted : (place : ℕ) → shifted 0 place ≡ place
    unshifted zero = refl
    unshifted (suc j) = omega arith
