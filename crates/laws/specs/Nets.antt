-- The nets of an accepted module, inputs and driven nets, are all different: there are no busses, as document 000 has it.
use Rattle.std.specs.Prelude.{ℕ, ◌⊎◌, List, [], ◌∷◌, ◌++◌, refl}
use Rattle.std.proofs.Common.{inl, inr}
use Rattle.meaning.specs.Syntax.{Occurrence, Module}
use Rattle.meaning.specs.Members.{◌∈◌, Twice, again, further, Common}
use Rattle.meaning.specs.Limits.{driven}
use Rattle.laws.specs.Tests.{if_true, if_false}
use Rattle.laws.specs.Members.{here, there, in-none, in_left, in_right, in_either}
use Rattle.laws.specs.Members.{twice-none, duplicates-tells, disjoint-tells}
use Rattle.laws.specs.WellFormed.{Body, done, step, ModuleOk}

-- Two lists without repetition and with no net in common are without repetition one after the other.
pub twice-append : (xs ys : List ℕ) → ¬ (Twice xs) → ¬ (Twice ys) → ¬ (Common xs ys) → ¬ (Twice (xs ++ ys))
twice-append [] ys first second apart t = second t
twice-append (x ∷ xs) ys first second apart (again i) = at (in_either xs i)
  where
    at : (x ∈ xs) ⊎ (x ∈ ys) → ⊥
    at (inl k) = first (again k)
    at (inr k) = apart (record { net = x; in_first = here refl; in_second = k })
twice-append (x ∷ xs) ys first second apart (further t) =
    twice-append xs ys (λ d. first (further d)) second
    (λ c. apart (record { net = c.net; in_first = there c.in_first; in_second = c.in_second }))
    t

-- What occurrences drive is driven once, and was no signal before.
record Fresh (signals : List ℕ) (os : List Occurrence) : Type 0 where
  once : ¬ (Twice (driven os))
  apart : ¬ (Common signals (driven os))

body-fresh : {later : List Module} {signals : List ℕ} {os : List Occurrence} → Body later signals os → Fresh signals os
unfolding driven
body-fresh done = record { once = twice-none; apart = λ c. in-none c.in_second }
body-fresh {later} {signals} (step {o = o} {os = os} ok rest) = here-fresh (body-fresh rest)
  where
    here-fresh : Fresh (o.drives ++ signals) os → Fresh signals (o ∷ os)
    here-fresh f =
        record {
          once =
              twice-append o.drives (driven os) (if_false (duplicates-tells o.drives) ok.distinct) f.once
              (λ c. f.apart (record { net = c.net; in_first = in_left signals c.in_first; in_second = c.in_second }));
          apart = λ c. at c.net c.in_first (in_either o.drives c.in_second);
        }
      where
        at : (x : ℕ) → x ∈ signals → (x ∈ o.drives) ⊎ (x ∈ driven os) → ⊥
        at x i (inl k) = if_true (disjoint-tells o.drives signals) ok.fresh (record { net = x; in_first = k; in_second = i })
        at x i (inr k) = f.apart (record { net = x; in_first = in_right o.drives i; in_second = k })

pub nets-once : {m : Module} {later : List Module} → ModuleOk m later → ¬ (Twice (m.inputs ++ driven m.occurrences))
nets-once {m} ok =
    let fresh = body-fresh ok.body in
    let inputs = if_false (duplicates-tells m.inputs) ok.inputs_distinct in
    twice-append m.inputs (driven m.occurrences) inputs fresh.once fresh.apart
