-- In an accepted list of modules the references of a module mean the same in the whole list as among the modules after it: they
-- go to later modules, and no number stands twice.
use Rattle.std.specs.Prelude.{ℕ, ◌≡◌, Bool, true, false, List, [], ◌∷◌, eqb}
use Rattle.std.proofs.Math.Path.{refl, sym, ap}
use Rattle.std.proofs.Common.{◌∙◌, eqb-true}
use Rattle.meaning.specs.Syntax.{Occurrence, Module}
use Rattle.meaning.specs.Gates.{is_gate}
use Rattle.meaning.specs.Boxlist.{box, F, assoc}
use Rattle.meaning.specs.Evaluation.{Env, look_all, pairs, Meaning, apply, walk, run_module, run}
use Rattle.laws.specs.WellFormed.{Reference, to_gate, to_module, Body, done, step, Accepted, none, some}
use Rattle.laws.specs.Standing.{Stands, here, there}
use Rattle.laws.specs.Suffix.{run_searches}

-- Every number that occurrences refer to has a property.
pub data Refer (P : ℕ → Type 0) : List Occurrence → Type 0 where
  nothing : Refer P []
  also : {o : Occurrence} {os : List Occurrence} → P o.refers → Refer P os → Refer P (o ∷ os)

pub refer_all : {P : ℕ → Type 0} → ((number : ℕ) → P number) → (os : List Occurrence) → Refer P os
refer_all p [] = nothing
refer_all p (o ∷ os) = also (p o.refers) (refer_all p os)

refer_map :
    {P Q : ℕ → Type 0} → ((number : ℕ) → P number → Q number) → {os : List Occurrence} → Refer P os → Refer Q os
refer_map f nothing = nothing
refer_map f (also {o} p ps) = also (f o.refers p) (refer_map f ps)

-- A number of a gate or of one of these modules.
data Resolves (ms : List Module) (number : ℕ) : Type 0 where
  a_gate : is_gate number ≡ true → Resolves ms number
  a_module : (m : Module) → assoc number ms ≡ box m → Resolves ms number

-- With these two meanings of modules, a gate or a module of this number does the same.
pub record Agree {A : Type 0} (gate_meaning l l' : Meaning A) (number : ℕ) : Type 0 where
  pub agree : (vs : List A) → apply gate_meaning l number vs ≡ apply gate_meaning l' number vs

module _ {A : Type 0} (unset : A) {gate_meaning l l' : Meaning A} where
  walk-agree :
      {os : List Occurrence}
      → Refer (Agree gate_meaning l l') os
      → (env : Env A)
      → walk unset gate_meaning l os env ≡ walk unset gate_meaning l' os env
  unfolding walk
  walk-agree nothing env = refl
  walk-agree (also {o} same rest) env = rw (same.agree (look_all unset o.takes env)) (walk-agree rest _)

  pub run_module-agree :
      (m : Module)
      → Refer (Agree gate_meaning l l') m.occurrences
      → (vs : List A)
      → run_module unset gate_meaning l m vs ≡ run_module unset gate_meaning l' m vs
  unfolding run_module
  run_module-agree m references vs = ap (look_all unset m.outputs) (walk-agree references (pairs unset m.inputs vs))

-- A number that is resolved stays so with a module in front.
resolves_behind : (m : Module) (ms : List Module) (number : ℕ) → Resolves ms number → Resolves (m ∷ ms) number
unfolding assoc
resolves_behind m ms number (a_gate h) = a_gate h
resolves_behind m ms number (a_module found e) = go (eqb number m.number) refl
  where
    go : (b : Bool) → eqb number m.number ≡ b → Resolves (m ∷ ms) number
    go true h = a_module m (rw h)
    go false h = a_module found (rw h e)

-- A number that a list has and one that it has not are two.
pub another-number : (x y : ℕ) (ms : List Module) {m : Module} → assoc x ms ≡ box m → assoc y ms ≡ F → eqb x y ≡ false
another-number x y ms e unique = go (eqb x y) refl
  where
    go : (b : Bool) → eqb x y ≡ b → b ≡ false
    go true h = let same : x ≡ y = eqb-true x y h in cc
    go false h = refl

references_resolve :
    {later : List Module} {signals : List ℕ} {os : List Occurrence} → Body later signals os → Refer (Resolves later) os
references_resolve done = nothing
references_resolve (step o os) = also (go o.reference) (references_resolve os)
  where
    go : {later : List Module} {o : Occurrence} → Reference later o → Resolves later o.refers
    go (to_gate h arity one) = a_gate h
    go (to_module m h e takes drives) = a_module m e

-- The references of a module of an accepted list are found in the list.
found_resolves :
    {ms : List Module} {number : ℕ} {m : Module} → Accepted ms → Stands number m ms → Refer (Resolves ms) m.occurrences
found_resolves none s = elim s [ ]
found_resolves (some {m} {later} ok rest) (here h) = refer_map (resolves_behind m later) (references_resolve ok.body)
found_resolves (some {m = other} {later} ok rest) (there h s) = refer_map (resolves_behind other later) (found_resolves rest s)

module _ {A : Type 0} (unset : A) (gate_meaning : Meaning A) where
  -- With a module of a new number in front, a number that is resolved means the same.
  agree-behind :
      (m : Module) (ms : List Module)
      → assoc m.number ms ≡ F
      → (number : ℕ)
      → Resolves ms number
      → Agree gate_meaning (run unset gate_meaning (m ∷ ms)) (run unset gate_meaning ms) number
  agree-behind m ms unique number (a_gate h) = record { agree = λ vs. rw h }
  agree-behind m ms unique number (a_module found e) =
      let another = another-number number m.number ms e unique in
      record { agree = λ vs. rw ((run_searches unset gate_meaning).passes m ms number another) }

  pub run_in_whole :
      {ms : List Module} {number : ℕ} {m : Module}
      → Accepted ms
      → Stands number m ms
      → (vs : List A)
      → run unset gate_meaning ms number vs ≡ run_module unset gate_meaning (run unset gate_meaning ms) m vs
  unfolding run
  run_in_whole none s vs = elim s [ ]
  run_in_whole (some {m} {later} ok rest) (here h) vs =
      let same = refer_map (agree-behind m later ok.unique) (references_resolve ok.body) in
      rw h (sym (run_module-agree unset m same vs))
  run_in_whole {m} (some {m = other} {later} ok rest) (there h s) vs =
      let same = refer_map (agree-behind other later ok.unique) (found_resolves rest s) in
      rw h (run_in_whole rest s vs ∙ sym (run_module-agree unset m same vs))
