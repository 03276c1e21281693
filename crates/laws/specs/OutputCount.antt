-- A module gives as many values as it has outputs, whatever the list, the values and the gates.
use Rattle.std.specs.Prelude.{ℕ, suc, ◌≡◌, refl, Bool, true, false, cond, List, [], ◌∷◌, eqb, length}
use Rattle.std.proofs.Common.{ap}
use Rattle.meaning.specs.Syntax.{Module}
use Rattle.meaning.specs.Boxlist.{box, assoc}
use Rattle.meaning.specs.Values.{Val, known}
pub use Rattle.meaning.specs.Figures.{output_count}
use Rattle.meaning.specs.Evaluation.{Env, look_all, walk, pairs, Meaning, run_module, run, gate_outputs, evaluate}

pub length-of-look_all : {A : Type 0} (none : A) (nets : List ℕ) (env : Env A) → length (look_all none nets env) ≡ length nets
unfolding look_all
length-of-look_all none [] env = refl
length-of-look_all none (net ∷ nets) env = ap suc (length-of-look_all none nets env)

pub length-of-run_module :
    {A : Type 0} (none : A) (gate_meaning later : Meaning A) (m : Module) (vs : List A)
    → length (run_module none gate_meaning later m vs) ≡ length m.outputs
unfolding run_module
length-of-run_module none gate_meaning later m vs =
    length-of-look_all none m.outputs (walk none gate_meaning later m.occurrences (pairs none m.inputs vs))

pub length-of-run :
    {A : Type 0} (none : A) (gate_meaning : Meaning A) (ms : List Module) (number : ℕ) (vs : List A)
    → length (run none gate_meaning ms number vs) ≡ output_count (assoc number ms)
unfolding run assoc
length-of-run none gate_meaning [] number vs = refl
length-of-run {A} none gate_meaning (m ∷ ms) number vs =
    go (eqb number m.number) _ _
    (length-of-run_module none gate_meaning (run none gate_meaning ms) m vs)
    (length-of-run none gate_meaning ms number vs)
  where
    go :
        (b : Bool) (here there : List A)
        → length here ≡ length m.outputs
        → length there ≡ output_count (assoc number ms)
        → length (cond b here there) ≡ output_count (cond b (box m) (assoc number ms))
    go true here there h t = h
    go false here there h t = t

pub length-of-evaluate :
    (ms : List Module) (number : ℕ) (vs : List Val) → length (evaluate ms number vs) ≡ output_count (assoc number ms)
unfolding evaluate
length-of-evaluate = length-of-run (known false) gate_outputs
