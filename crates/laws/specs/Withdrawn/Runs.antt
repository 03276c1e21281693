-- Every run comes to the same on a file and on its rewriting, where scratch is enough for both: the same outputs, or the same refusal.
use Rattle.std.specs.Prelude.{ℕ, ◌+◌, ◌≤◌, max, ◌≡◌, Bool, cond, List, [], ◌∷◌, ◌++◌, map, eqb, leb, length, get_or, drop}
use Rattle.std.proofs.Math.Path.{refl, ap}
use Rattle.std.proofs.Math.Bool.{true, false}
use Rattle.std.proofs.Common.{true≢false, arith, le_trans, le-leb}
use Rattle.meaning.specs.Values.{value, code}
use Rattle.meaning.specs.Syntax.{Occurrence, Module}
use Rattle.meaning.specs.Gates.{is_gate}
use Rattle.meaning.specs.Boxlist.{Found, box, F, assoc}
use Rattle.meaning.specs.Figures.{largest_referred, room}
use Rattle.meaning.specs.Calls.{answer, demand, on_module, on_file, Written, first_above, evaluation, evaluation_on}
use Rattle.meaning.specs.Withdrawn.{withdrawn, three_gates, rewrite_body, unused, rewrite_module, rewrite_file}
use Rattle.laws.specs.Accepted.{accepted-good}
use Rattle.laws.specs.Runs.{run_writes}
use Rattle.laws.specs.Demands.Terms.{outputs}
use Rattle.laws.specs.Withdrawn.Kinds.{four-told, four_is}
use Rattle.laws.specs.Withdrawn.Values.{same-outputs}
use Rattle.laws.specs.Withdrawn.Counts.{nets_grow}
use Rattle.laws.specs.Withdrawn.Delay.{found-rewritten, none-rewritten}
use Rattle.laws.specs.Withdrawn.Answered.{Rewritten, new-reads}

-- Room does not shrink.
referred-grows :
    (l l' : ℕ → ℕ)
    → ((x : ℕ) → l x ≤ l' x)
    → (fresh : List ℕ) (os : List Occurrence)
    → largest_referred l os ≤ largest_referred l' (rewrite_body fresh os)
unfolding largest_referred rewrite_body three_gates
referred-grows l l' below fresh [] = omega arith
referred-grows l l' below fresh (o ∷ os) =
    go (withdrawn o.refers) refl (is_gate o.refers) refl (referred-grows l l' below fresh os) (referred-grows l l' below (drop 2 fresh) os)
  where
    go :
        (b : Bool)
        → withdrawn o.refers ≡ b
        → (c : Bool)
        → is_gate o.refers ≡ c
        → largest_referred l os ≤ largest_referred l' (rewrite_body fresh os)
        → largest_referred l os ≤ largest_referred l' (rewrite_body (drop 2 fresh) os)
        → max (cond c 0 (l o.refers)) (largest_referred l os)
        ≤ largest_referred l'
        (cond b (three_gates (get_or fresh 0 0) (get_or fresh 1 0) o ++ rewrite_body (drop 2 fresh) os) (o ∷ rewrite_body fresh os))
    go true is true gate same less = let four = four_is (four-told o.refers is) in rw (four.pair_gate, four.two_gate) (omega arith)
    go true is false gate same less = let one = (four_is (four-told o.refers is)).is_one in absurd (let z : ◌≡◌ {A = Bool} true false = cc in true≢false z)
    go false is true gate same less = rw gate (omega arith)
    go false is false gate same less = rw gate (omega (arith, below o.refers))

pub room-grows : (ms : List Module) (number : ℕ) → room ms number ≤ room (rewrite_file ms) number
unfolding room rewrite_file rewrite_module
room-grows [] number = omega arith
room-grows (m ∷ ms) number =
    go (eqb number m.number)
    (omega (arith, nets_grow m, referred-grows (room ms) (room (rewrite_file ms)) (room-grows ms) (unused m) m.occurrences))
    (room-grows ms number)
  where
    go : (b : Bool) {x y x' y' : ℕ} → x ≤ y → x' ≤ y' → cond b x x' ≤ cond b y y'
    go true h k = h
    go false h k = k

module _ {file : List ℕ} {w : Written} (r : Rewritten file w) (number : ℕ) (values : List ℕ) (scratch out : ℕ) where
  on_new : evaluation w.bytes number values scratch out
      ≡ on_module (assoc number (rewrite_file r.ms)) (evaluation_on number values scratch out (rewrite_file r.ms))
  unfolding evaluation on_file
  on_new = rw (new-reads r, accepted-good r.accepted_new)

  on_old : evaluation file number values scratch out ≡ on_module (assoc number r.ms) (evaluation_on number values scratch out r.ms)
  unfolding evaluation on_file
  on_old = rw (r.reads, accepted-good r.accepted)

  pub same_runs :
      room (rewrite_file r.ms) number ≤ scratch
      → outputs (evaluation w.bytes number values scratch out) ≡ outputs (evaluation file number values scratch out)
  unfolding rewrite_module
  same_runs enough = rw (on_new, on_old) (go (assoc number r.ms) refl)
    where
      tests : (a b d : Bool) (place : ℕ) (x y : Written) → x.bytes ≡ y.bytes
          → outputs (demand 19 0 a (demand 20 place b (demand 22 0 d (answer x))))
          ≡ outputs (demand 19 0 a (demand 20 place b (demand 22 0 d (answer y))))
      tests true true true place x y same = ap answer same
      tests true true false place x y same = refl
      tests true false d place x y same = refl
      tests false b d place x y same = refl

      go :
          (f : Found) → assoc number r.ms ≡ f
          → outputs (on_module (assoc number (rewrite_file r.ms)) (evaluation_on number values scratch out (rewrite_file r.ms)))
          ≡ outputs (on_module f (evaluation_on number values scratch out r.ms))
      go F e = rw (none-rewritten number r.ms e)
      go (box m) e =
          rw (
            found-rewritten number r.ms e,
            le-leb (room (rewrite_file r.ms) number) scratch enough,
            le-leb (room r.ms number) scratch (le_trans (room-grows r.ms number) enough),
          )
          (tests (eqb (length values) (length m.inputs)) (eqb (first_above values) (length values)) (leb (length m.outputs) out) (first_above values)
          (run_writes (rewrite_file r.ms) number values) (run_writes r.ms number values) (ap (map code) (same-outputs r.accepted number (map value values))))
