-- Evaluation and HEVAL of document 000 (demand 2): for an accepted file, a module in it and known input values, the outputs are
-- HEVAL's. So an output that is known early is HEVAL's value for every filling of the unknown inputs. And HEVAL too depends only
-- on the modules from the named one on.
use Rattle.std.specs.Prelude.{ℕ, zero, suc, ◌≡◌, Bool, false, length}
use mathlib.Core.List.Forall₂
use mathlib.Core.List.{List, [], ◌∷◌, ◌++◌, map}
use Rattle.std.proofs.Math.Option.{some}
use Rattle.std.proofs.Math.ListN.{get_elem?}
use Rattle.std.proofs.Common.{le-ltb}
use Rattle.meaning.specs.Syntax.{Module}
use Rattle.meaning.specs.Values.{Val, known, Fills, done, kept, put}
use Rattle.meaning.specs.Gates.{is_gate}
use Rattle.meaning.specs.Boxlist.{box, F, assoc}
use Rattle.meaning.specs.Verdict.{good, file_verdict}
use Rattle.meaning.specs.Evaluation.{evaluate}
use Rattle.meaning.specs.Heval.{Pair, collect_eval_name, pairlist, happly, heval}
use Rattle.laws.specs.Fillings.{any, same, Refines}
use Rattle.laws.specs.WellFormed.{Accepted, some as ahead}
use Rattle.laws.specs.Accepted.{good-accepted}
use Rattle.laws.specs.Standing.{stands, number_of, keeps-rules}
use Rattle.laws.specs.Suffix.{past-front, run_searches}
use Rattle.laws.specs.Known.{boolean_run, evaluate-on-known}
use Rattle.laws.specs.Evaluation.{refines_agrees, evaluate-monotone}
use Rattle.laws.specs.HevalRun.{heval-is-run}
use Rattle.laws.specs.Pairlist.{collect_of-pairlist}

-- A filling refines the values that it fills.
fills_refines : {vs : List Val} {bs : List Bool} → Fills vs bs → Refines vs (map known bs)
fills_refines done = Forall₂.nil
fills_refines (kept rest) = Forall₂.cons same (fills_refines rest)
fills_refines (put rest) = Forall₂.cons any (fills_refines rest)

known_at : (bs : List Bool) (i : ℕ) (b : Bool) → get_elem? (map known bs) i ≡ some (known b) → get_elem? bs i ≡ some b
known_at [] i b e = cc
known_at (c ∷ bs) zero b e = cc
known_at (c ∷ bs) (suc i) b e = known_at bs i b e

module _ (ms : List Module) (number : ℕ) (m : Module) (accepted : file_verdict ms ≡ good) (found : assoc number ms ≡ box m) where
  not_a-gate : is_gate number ≡ false
  not_a-gate =
      let there = stands number ms found in
      rw (number_of there) (le-ltb m.number 16 (keeps-rules (good-accepted ms accepted) there).1.above)

  -- HEVAL of a module is its run on Booleans.
  pub heval-of_module :
      (args : List ℕ) (alist : List Pair)
      → heval ms number args alist ≡ boolean_run ms number (collect_eval_name args alist)
  heval-of_module args alist = rw ((heval-is-run (good-accepted ms accepted) number).answers args alist, not_a-gate)

  -- Demand 2: on known input values, given as the values of any arguments in any association list, the outputs are HEVAL's.
  pub evaluate-is-heval :
      (bs : List Bool) (args : List ℕ) (alist : List Pair)
      → collect_eval_name args alist ≡ bs
      → evaluate ms number (map known bs) ≡ map known (heval ms number args alist)
  evaluate-is-heval bs args alist actuals = rw (heval-of_module args alist, actuals) (evaluate-on-known ms number bs)

  -- An output known early is HEVAL's value for every filling of the unknown inputs.
  pub known-early :
      (vs : List Val) (bs : List Bool) (args : List ℕ) (alist : List Pair)
      → Fills vs bs
      → collect_eval_name args alist ≡ bs
      → (i : ℕ) (b : Bool)
      → get_elem? (evaluate ms number vs) i ≡ some (known b)
      → get_elem? (heval ms number args alist) i ≡ some b
  known-early vs bs args alist fills actuals i b e =
      let still = (refines_agrees (evaluate-monotone ms number (fills_refines fills))).where_known i b e in
      known_at (heval ms number args alist) i b (rw (evaluate-is-heval bs args alist actuals) at still)

  -- An association list that binds the module's inputs to as many values will do.
  pub inputs-bound :
      (bs : List Bool) → length bs ≡ length m.inputs → collect_eval_name m.inputs (pairlist m.inputs bs) ≡ bs
  inputs-bound bs =
      collect_of-pairlist m.inputs bs
      (keeps-rules (good-accepted ms accepted) (stands number ms found)).1.inputs_distinct

  pub evaluate-is-heval-on-inputs :
      (bs : List Bool)
      → length bs ≡ length m.inputs
      → evaluate ms number (map known bs) ≡ map known (heval ms number m.inputs (pairlist m.inputs bs))
  evaluate-is-heval-on-inputs bs count = evaluate-is-heval bs m.inputs (pairlist m.inputs bs) (inputs-bound bs count)

accepted-behind : (front ms : List Module) → Accepted (front ++ ms) → Accepted ms
accepted-behind [] ms accepted = accepted
accepted-behind (m ∷ front) ms (ahead ok rest) = accepted-behind front ms rest

-- HEVAL depends only on the modules from the named one on, since no number stands twice and references go to later modules.
pub heval-past-front :
    (front ms : List Module) (number : ℕ)
    → file_verdict (front ++ ms) ≡ good
    → assoc number front ≡ F
    → (args : List ℕ) (alist : List Pair)
    → heval (front ++ ms) number args alist ≡ heval ms number args alist
heval-past-front front ms number accepted new args alist =
    let whole = good-accepted (front ++ ms) accepted in
    rw (
      (heval-is-run whole number).answers args alist,
      (heval-is-run (accepted-behind front ms whole) number).answers args alist,
      past-front (run_searches false happly) front ms number new,
    )
