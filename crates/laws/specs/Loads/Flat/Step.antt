-- One occurrence of a walk. What it refers to is placed; the rest of the walk is over the occurrences behind it: what each net of the board
-- then stands for, and its load.
use Prim.Native.Nat.{ℕ, ◌+◌, ◌≤◌, ◌<◌}
use Rattle.std.specs.Prelude.{◌≡◌, ◌⊎◌, List, ◌∷◌, ◌++◌}
use Rattle.std.proofs.Math.Path.{sym}
use Rattle.std.proofs.Common.{inl, inr}
use native.Mathlib.Omega.{arith}
use Rattle.meaning.specs.Syntax.{Occurrence, Module}
use Rattle.meaning.specs.Members.{◌∈◌, Twice}
use Rattle.meaning.specs.Limits.{driven}
use Rattle.meaning.specs.Evaluation.{look}
use Rattle.meaning.specs.Loads.{places_load, Loads, referred_loads, net_load, loads_inside}
use Rattle.meaning.specs.Flattening.{Placed, Walked}
use Rattle.laws.specs.WellFormed.{OccurrenceOk}
use Rattle.laws.specs.Tests.{if_false}
use Rattle.laws.specs.Members.{in_left, in_right, in_either, duplicates-tells, disjoint-out, subset_in}
use Rattle.laws.specs.Nets.{twice-append}
use Rattle.laws.specs.Flatten.Numbered.{Between}
use Rattle.laws.specs.Flatten.Environments.{look-given, look-apart, look-other}
use Rattle.laws.specs.Loads.Places.{load-nowhere, load_given}
use Rattle.laws.specs.Loads.Flat.Through.{through, through-both, through-append}
use Rattle.laws.specs.Loads.Flat.Through.{through-away, through-idle, through-places, through_same, through-alone}
use Rattle.laws.specs.Loads.Flat.Board.{load_on}
use Rattle.laws.specs.Loads.Flat.Walk.{Signals, Walks, PlacedAt, after}

-- One occurrence, and what it refers to is placed.
module _ {ms : List Module} {signals : List ℕ} {o : Occurrence} {w : Walked} {p : Placed}
    (ok : OccurrenceOk ms signals o) (s : Signals signals w) (l : PlacedAt ms o w p) where
  abbrev stands : ℕ → ℕ
  stands x = look 0 x (after o w p).env

  abbrev inside : Loads
  inside = referred_loads (loads_inside ms) o

  distinct : ¬ (Twice o.drives)
  distinct = if_false (duplicates-tells o.drives) ok.distinct

  fresh : (x : ℕ) → x ∈ o.drives → ¬ (x ∈ signals)
  fresh x i = disjoint-out o.drives signals ok.fresh i

  pub stands-before : (x : ℕ) → x ∈ signals → stands x ≡ look 0 x w.env
  stands-before x i = look-other w.env o.drives p.nets x (λ j. fresh x j i)

  stands-new : (x : ℕ) → x ∈ o.drives → Between w.board.next p.board.next (stands x)
  stands-new x i = l.new.between (stands x) (look-given w.env o.drives p.nets (sym l.new.counted) x i)

  pub signals-after : Signals (o.drives ++ signals) (after o w p)
  signals-after =
      record {
        once = twice-append o.drives signals distinct s.once (λ c. fresh c.net c.in_first c.in_second);
        bound = λ x i. bound x (in_either o.drives i);
        clean = l.clean;
      }
    where
      bound : (x : ℕ) → (x ∈ o.drives) ⊎ (x ∈ signals) → stands x < p.board.next
      bound x (inl i) = (stands-new x i).below
      bound x (inr i) = omega (arith, stands-before x i, s.bound x i, l.new.grown)

  untaken : (x : ℕ) → ¬ (x ∈ signals) → places_load x o.takes inside.inputs ≡ 0
  untaken x out = load-nowhere x o.takes inside.inputs (λ i. out (subset_in o.takes signals ok.bound i))

  undriven : (x : ℕ) → ¬ (x ∈ o.drives) → places_load x o.drives inside.outputs ≡ 0
  undriven x = load-nowhere x o.drives inside.outputs

  -- The rest of the occurrences.
  module _ {os : List Occurrence} {w' : Walked} (rest : Walks ms (o.drives ++ signals) os (after o w p) w') where
    abbrev load : ℕ → ℕ
    load = net_load (loads_inside ms) os

    pub in_the_end :
        (net : ℕ)
        → net < p.board.next
        → load_on w'.board net
        ≡ load_on p.board net + through stands load o.drives net + through stands load signals net
    in_the_end net low = omega (arith, rest.old net low, through-append stands net load o.drives signals)

    -- No signal stands for a net that is newer than it.
    pub not_a-signal : (net : ℕ) → w.board.next ≤ net → through stands load signals net ≡ 0
    not_a-signal net high =
        through-away stands net load signals (λ x i e. omega (arith, stands-before x i, s.bound x i))

    pub further-old :
        (net : ℕ)
        → net < w.board.next
        → load_on w'.board net
        ≡ load_on w.board net + through (λ x. look 0 x w.env) (net_load (loads_inside ms) (o ∷ os)) signals net
    unfolding net_load
    further-old net low =
        let before : ℕ → ℕ = λ x. look 0 x w.env in
        let taken : ℕ → ℕ = λ x. places_load x o.takes inside.inputs in
        let given : ℕ → ℕ = λ x. places_load x o.drives inside.outputs in
        omega (
          arith,
          in_the_end net (omega (arith, l.new.grown)),
          l.old net low,
          through-away stands net load o.drives (λ x i e. omega (arith, stands-new x i)),
          through_same stands before load signals net stands-before,
          through-both before net (λ x. taken x + given x) load signals,
          through-both before net taken given signals,
          through-places w.env net o.takes inside.inputs signals s.once
              (λ t i. subset_in o.takes signals ok.bound i),
          through-idle before net given signals (λ x i. undriven x (λ j. fresh x j i)),
        )

    -- A net driven by the occurrence stands in the end for what it was given.
    pub still : (x : ℕ) → x ∈ o.drives → look 0 x w'.env ≡ stands x
    still x i = rest.kept x (in_left signals i)

    pub further-new :
        (x : ℕ)
        → (x ∈ o.drives) ⊎ (x ∈ driven os)
        → Between w.board.next w'.board.next (look 0 x w'.env)
    further-new x (inl i) = rw (still x i) (omega (arith, stands-new x i, rest.grown))
    further-new x (inr i) = omega (arith, rest.new x i, l.new.grown)

    pub further-apart : (x : ℕ) → (x ∈ o.drives) ⊎ (x ∈ driven os) → ¬ (x ∈ signals)
    further-apart x (inl i) j = fresh x i j
    further-apart x (inr i) j = rest.apart x i (in_right o.drives j)

    pub further-drives :
        (x : ℕ)
        → (x ∈ o.drives) ⊎ (x ∈ driven os)
        → load_on w'.board (look 0 x w'.env) ≡ net_load (loads_inside ms) (o ∷ os) x
    unfolding net_load
    further-drives x (inl i) =
        let at = stands-new x i in
        let count = sym l.new.counted in
        rw (still x i)
        (omega (
          arith,
          in_the_end (stands x) at.below,
          not_a-signal (stands x) at.from,
          through-alone stands load o.drives x distinct i
              (λ y j e. look-apart w.env o.drives p.nets count l.new.once x y i j e),
          untaken x (fresh x i),
          rw l.outputs at (load_given (load_on p.board) w.env o.drives p.nets distinct count x i),
        ))
    further-drives x (inr i) =
        omega (
          arith,
          rest.drives x i,
          untaken x (λ j. rest.apart x i (in_right o.drives j)),
          undriven x (λ j. rest.apart x i (in_left signals j)),
        )
