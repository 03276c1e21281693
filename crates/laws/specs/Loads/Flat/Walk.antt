-- Loads along a walk over the occurrences of a module: the load of each net of the board is that of the signals that stand for it, taken
-- together. For an old net there may be several signals, for a net that the walk drives there is one at most.
use Rattle.std.specs.Prelude.{ℕ, ◌+◌, ◌≤◌, ◌<◌, ◌≡◌, refl, cond, List, [], ◌++◌, length}
use Rattle.std.proofs.Common.{arith}
use Rattle.meaning.specs.Syntax.{Occurrence, Module}
use Rattle.meaning.specs.Gates.{is_gate}
use Rattle.meaning.specs.Members.{◌∈◌, Twice}
use Rattle.meaning.specs.Limits.{driven}
use Rattle.meaning.specs.Evaluation.{look, look_all, pairs}
use Rattle.meaning.specs.Figures.{largest_referred}
use Rattle.meaning.specs.Loads.{referred_loads, net_load, loads_inside, largest_load}
use Rattle.meaning.specs.Flattening.{Placed, Walked}
use Rattle.laws.specs.Members.{in-none}
use Rattle.laws.specs.Flatten.Numbered.{Between}
use Rattle.laws.specs.Loads.Flat.Through.{through, through-idle}
use Rattle.laws.specs.Loads.Flat.Board.{load_on, Clean, Loaded}

-- The signals before a walk: none is listed twice, and each stands for a net of the board.
pub record Signals (signals : List ℕ) (w : Walked) : Type 0 where
  pub once : ¬ (Twice signals)
  pub bound : (x : ℕ) → x ∈ signals → look 0 x w.env < w.board.next
  pub clean : Clean w.board

-- What a walk over occurrences, their references among these modules, has done.
pub record Walks (ms : List Module) (signals : List ℕ) (os : List Occurrence) (w w' : Walked) : Type 0 where
  pub grown : w.board.next ≤ w'.board.next
  pub clean : Clean w'.board
  pub kept : (x : ℕ) → x ∈ signals → look 0 x w'.env ≡ look 0 x w.env
  pub apart : (x : ℕ) → x ∈ driven os → ¬ (x ∈ signals)
  pub new : (x : ℕ) → x ∈ driven os → Between w.board.next w'.board.next (look 0 x w'.env)
  pub old :
      (net : ℕ)
      → net < w.board.next
      → load_on w'.board net
      ≡ load_on w.board net + through (λ x. look 0 x w.env) (net_load (loads_inside ms) os) signals net
  pub drives : (x : ℕ) → x ∈ driven os → load_on w'.board (look 0 x w'.env) ≡ net_load (loads_inside ms) os x
  pub within :
      (n : ℕ)
      → ((x : ℕ) → x ∈ driven os → net_load (loads_inside ms) os x ≤ n)
      → largest_referred (largest_load ms) os ≤ n
      → (net : ℕ)
      → Between w.board.next w'.board.next net
      → load_on w'.board net ≤ n
  pub least :
      (n : ℕ)
      → ((net : ℕ) → Between w.board.next w'.board.next net → load_on w'.board net ≤ n)
      → ((x : ℕ) → x ∈ signals → net_load (loads_inside ms) os x ≤ n)
      → largest_referred (largest_load ms) os ≤ n

-- What an occurrence refers to is placed where the walk stands, and the walk goes on from there.
abbrev pub PlacedAt : (ms : List Module) (o : Occurrence) (w : Walked) (p : Placed) → Type 0
PlacedAt ms o w p =
    Loaded w.board
    (look_all 0 o.takes w.env)
    p
    (referred_loads (loads_inside ms) o)
    (cond (is_gate o.refers) 0 (largest_load ms o.refers))
    (length o.drives)

abbrev pub after : Occurrence → Walked → Placed → Walked
after o w p = record { env = pairs 0 o.drives p.nets ++ w.env; board = p.board }

pub walks-none : {ms : List Module} {signals : List ℕ} (w : Walked) → Clean w.board → Walks ms signals [] w w
unfolding net_load largest_referred driven
walks-none {signals = signals} w clean =
    record {
      grown = omega arith;
      clean = clean;
      kept = λ x i. refl;
      apart = λ x i. absurd (in-none i);
      new = λ x i. absurd (in-none i);
      old = λ net low. omega (arith, through-idle (λ x. look 0 x w.env) net (λ x. 0) signals (λ x i. refl));
      drives = λ x i. absurd (in-none i);
      within = λ n own deeper net between. absurd (omega arith);
      least = λ n new own. omega arith;
    }
