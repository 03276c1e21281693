-- What was said of the walk over the occurrences behind one is true of the walk from it on.
use Rattle.std.specs.Prelude.{ℕ, ◌≤◌, ◌<◌, ◌≡◌, Bool, ◌⊎◌, List, ◌∷◌, ◌++◌}
use Rattle.std.proofs.Math.Path.{sym}
use Rattle.std.proofs.Common.{◌∙◌, inl, inr}
use native.Mathlib.Omega.{arith}
use Rattle.meaning.specs.Syntax.{Occurrence, Module}
use Rattle.meaning.specs.Members.{◌∈◌}
use Rattle.meaning.specs.Limits.{driven}
use Rattle.meaning.specs.Evaluation.{look}
use Rattle.meaning.specs.Figures.{largest_referred}
use Rattle.meaning.specs.Loads.{referred_loads, net_load, loads_inside, largest_load}
use Rattle.meaning.specs.Flattening.{Placed, Walked}
use Rattle.laws.specs.WellFormed.{OccurrenceOk}
use Rattle.laws.specs.Tests.{Tells, tells_true, tells_false, ltb_tells}
use Rattle.laws.specs.Members.{in_left, in_right, in_either, subset_in}
use Rattle.laws.specs.OutputCount.{length-of-look_all}
use Rattle.laws.specs.Flatten.Numbered.{Between}
use Rattle.laws.specs.Loads.Places.{load_somewhere}
use Rattle.laws.specs.Loads.Flat.Through.{Someone, someone, noone, seek, through-away}
use Rattle.laws.specs.Loads.Flat.Board.{load_on}
use Rattle.laws.specs.Loads.Flat.Walk.{Signals, Walks, PlacedAt, after}
use Rattle.laws.specs.Loads.Flat.Step.{stands-before, in_the_end, not_a-signal, still}
use Rattle.laws.specs.Loads.Flat.Step.{further-old, further-new, further-apart, further-drives}

module _ {ms : List Module} {signals : List ℕ} {o : Occurrence} {os : List Occurrence} {w w' : Walked} {p : Placed}
    (ok : OccurrenceOk ms signals o) (s : Signals signals w) (l : PlacedAt ms o w p)
    (rest : Walks ms (o.drives ++ signals) os (after o w p) w') where
  abbrev stands : ℕ → ℕ
  stands x = look 0 x (after o w p).env

  abbrev load : ℕ → ℕ
  load = net_load (loads_inside ms) os

  -- Every load of the walk over the rest is part of one of the whole.
  part : (x : ℕ) → load x ≤ net_load (loads_inside ms) (o ∷ os) x
  unfolding net_load
  part x = omega arith

  further-within :
      (n : ℕ)
      → ((x : ℕ) → x ∈ (o.drives ++ driven os) → net_load (loads_inside ms) (o ∷ os) x ≤ n)
      → largest_referred (largest_load ms) (o ∷ os) ≤ n
      → (net : ℕ)
      → Between w.board.next w'.board.next net
      → load_on w'.board net ≤ n
  unfolding largest_referred
  further-within n own deeper net between = go (ltb_tells net p.board.next)
    where
      placed : net < p.board.next → Someone stands o.drives net → load_on w'.board net ≤ n
      placed low (someone x i e) =
          let at : look 0 x w'.env ≡ net = still ok s l rest x i ∙ sym e in
          omega (arith, rw at at (further-drives ok s l rest x (inl i)), own x (in_left (driven os) i))
      placed low (noone out) =
          omega (
            arith,
            in_the_end ok s l rest net low,
            through-away stands net load o.drives out,
            not_a-signal ok s l rest net between.from,
            l.within net (record { from = between.from; below = low }),
          )

      go : {b : Bool} → Tells (net < p.board.next) (p.board.next ≤ net) b → load_on w'.board net ≤ n
      go (tells_true low) = placed low (seek stands o.drives net)
      go (tells_false high) =
          rest.within n (λ x i. omega (arith, part x, own x (in_right o.drives i))) (omega arith) net
          (record { from = high; below = between.below })

  further-least :
      (n : ℕ)
      → ((net : ℕ) → Between w.board.next w'.board.next net → load_on w'.board net ≤ n)
      → ((x : ℕ) → x ∈ signals → net_load (loads_inside ms) (o ∷ os) x ≤ n)
      → largest_referred (largest_load ms) (o ∷ os) ≤ n
  unfolding net_load largest_referred
  further-least n new own =
      let count = l.arity ∙ length-of-look_all 0 o.takes w.env in
      omega (
        arith,
        l.least n (λ net b. omega (arith, in_the_end ok s l rest net b.below, new net (omega (arith, rest.grown))))
            (load_somewhere o.takes (referred_loads (loads_inside ms) o).inputs n count
            (λ x i. omega (arith, own x (subset_in o.takes signals ok.bound i)))),
        rest.least n (λ net b. new net (omega (arith, l.new.grown))) (λ x i. signal x (in_either o.drives i)),
      )
    where
      signal : (x : ℕ) → (x ∈ o.drives) ⊎ (x ∈ signals) → load x ≤ n
      signal x (inl i) = omega (arith, part x, further-drives ok s l rest x (inl i), new (look 0 x w'.env) (further-new ok s l rest x (inl i)))
      signal x (inr i) = omega (arith, part x, own x i)

  pub walks-further : Walks ms signals (o ∷ os) w w'
  unfolding driven
  walks-further =
      record {
        grown = omega (arith, l.new.grown, rest.grown);
        clean = rest.clean;
        kept = λ x i. rest.kept x (in_right o.drives i) ∙ stands-before ok s l x i;
        apart = λ x i. further-apart ok s l rest x (in_either o.drives i);
        new = λ x i. further-new ok s l rest x (in_either o.drives i);
        old = further-old ok s l rest;
        drives = λ x i. further-drives ok s l rest x (in_either o.drives i);
        within = further-within;
        least = further-least;
      }
