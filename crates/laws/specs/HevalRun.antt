-- HEVAL of document 000 is, on an accepted list, the run of the list on Booleans, though it evaluates a body among all modules but
-- the first, whichever module was found.
use Rattle.std.specs.Prelude.{ℕ, ◌≡◌, Bool, true, cond, eqb}
use Rattle.std.proofs.Math.Path.{refl}
use Rattle.std.proofs.Common.{sym, ap, ◌∙◌}
use Rattle.std.proofs.Math.Bool.{false}
use mathlib.Core.List.{List, [], ◌∷◌, map, map-append}
use Rattle.meaning.specs.Syntax.{Occurrence, Module}
use Rattle.meaning.specs.Gates.{is_gate}
use Rattle.meaning.specs.Boxlist.{Found, box, F, assoc}
use Rattle.meaning.specs.Evaluation.{Binding, Env, look, look_all, pairs, Meaning, apply, walk, run_module, run}
use Rattle.meaning.specs.Heval.{Pair, eval_name, collect_eval_name, pairlist, happly, Reference, heval_body, heval_box, heval}
use Rattle.laws.specs.WellFormed.{Accepted, none, some}
use Rattle.laws.specs.Known.{boolean_run}
use Rattle.laws.specs.Suffix.{no_module, run_searches}
use Rattle.laws.specs.Standing.{stands}
use Rattle.laws.specs.References.{Refer, nothing, also, refer_all, run_in_whole}

-- HEVAL's association lists are environments of Booleans.
abbrev as_pair : Binding Bool → Pair
as_pair b = record { name = b.net; value = b.value }

eval_name-is-look : (name : ℕ) (env : Env Bool) → eval_name name (map as_pair env) ≡ look false name env
unfolding eval_name look
eval_name-is-look name [] = refl
eval_name-is-look name (b ∷ env) = rw (eval_name-is-look name env)

collect_eval_name-is-look_all :
    (names : List ℕ) (env : Env Bool) → collect_eval_name names (map as_pair env) ≡ look_all false names env
unfolding collect_eval_name look_all
collect_eval_name-is-look_all [] env = refl
collect_eval_name-is-look_all (name ∷ names) env = rw (eval_name-is-look name env, collect_eval_name-is-look_all names env)

pairlist-is-pairs : (names : List ℕ) (bs : List Bool) → pairlist names bs ≡ map as_pair (pairs false names bs)
unfolding pairlist pairs
pairlist-is-pairs [] bs = refl
pairlist-is-pairs (name ∷ names) [] = rw (pairlist-is-pairs names [])
pairlist-is-pairs (name ∷ names) (b ∷ bs) = rw (pairlist-is-pairs names bs)

-- An evaluator of references does at a number what a run does with these later modules.
pub record Answers (reference : Reference) (later : Meaning Bool) (number : ℕ) : Type 0 where
  pub answers :
      (args : List ℕ) (alist : List Pair)
      → reference number args alist ≡ apply happly later number (collect_eval_name args alist)

module _ {reference : Reference} {later : Meaning Bool} where
  heval_body-is-walk :
      {os : List Occurrence}
      → Refer (Answers reference later) os
      → (env : Env Bool)
      → heval_body reference os (map as_pair env) ≡ map as_pair (walk false happly later os env)
  unfolding heval_body walk
  heval_body-is-walk nothing env = refl
  heval_body-is-walk (also {o} same rest) env =
      rw (
        same.answers o.takes (map as_pair env),
        collect_eval_name-is-look_all o.takes env,
        pairlist-is-pairs o.drives (apply happly later o.refers (look_all false o.takes env)),
        ← map-append,
      )
      (heval_body-is-walk rest _)

  heval_box-is-run_module :
      (m : Module)
      → Refer (Answers reference later) m.occurrences
      → (bs : List Bool)
      → heval_box reference (box m) bs ≡ run_module false happly later m bs
  unfolding run_module
  heval_box-is-run_module m same bs =
      rw
      (pairlist-is-pairs m.inputs bs, heval_body-is-walk same (pairs false m.inputs bs))
      (collect_eval_name-is-look_all m.outputs _)

-- The box of a number, its body evaluated in the very list where it was found.
heval_box-is-run :
    {ms : List Module}
    → Accepted ms
    → ((number : ℕ) → Answers (heval ms) (boolean_run ms) number)
    → (number : ℕ) (bs : List Bool)
    → heval_box (heval ms) (assoc number ms) bs ≡ boolean_run ms number bs
unfolding run
heval_box-is-run {ms} ok same number bs = go (assoc number ms) refl
  where
    go : (found : Found) → assoc number ms ≡ found → heval_box (heval ms) found bs ≡ boolean_run ms number bs
    go (box m) e =
        heval_box-is-run_module m (refer_all same m.occurrences) bs
        ∙ sym (run_in_whole false happly ok (stands number ms e) bs)
    go F e = sym (ap (λ (f : List Bool → List Bool). f bs) (no_module (run_searches false happly) ms number e))

-- HEVAL is the run on Booleans.
pub heval-is-run : {ms : List Module} → Accepted ms → (number : ℕ) → Answers (heval ms) (boolean_run ms) number
unfolding heval run assoc
heval-is-run none number = record { answers = λ args alist. refl }
heval-is-run (some {m} {later} ok rest) number =
    record {
      answers = λ args alist.
          ap (cond (is_gate number) _) (go (eqb number m.number) (heval-is-run rest) (collect_eval_name args alist));
    }
  where
    go :
        (b : Bool)
        → ((number : ℕ) → Answers (heval later) (boolean_run later) number)
        → (bs : List Bool)
        → heval_box (heval later) (cond b (box m) (assoc number later)) bs
        ≡ cond b (run_module false happly (boolean_run later) m bs) (boolean_run later number bs)
    go true same bs = heval_box-is-run_module m (refer_all same m.occurrences) bs
    go false same bs = heval_box-is-run rest same number bs
