-- In a body that the check lets pass, each net is driven once and taken only afterwards. So when all occurrences have run, the values
-- of the nets satisfy every occurrence as an equation between what it takes and what it drives, and inputs still hold what they were
-- given. What a module computes can then be proved from equations alone. For values of any kind and whatever a gate makes of them.
use Rattle.std.specs.Prelude.{ℕ, ◌≡◌, false, length}
use Rattle.std.proofs.Math.Path.{refl, ap, ap₂}
use Rattle.std.proofs.Common.{sym, ◌∙◌, arith}
use mathlib.Core.List.{List, [], ◌∷◌, ◌++◌, append-nil}
use Rattle.meaning.specs.Lists.{All, none, more}
use Rattle.meaning.specs.Syntax.{Occurrence, Module}
use Rattle.meaning.specs.Members.{◌∈◌, Twice, again, further}
use Rattle.meaning.specs.Boxlist.{duplicates}
use Rattle.meaning.specs.Evaluation.{Env, Meaning, look, look_all, pairs, apply, walk, run_module, run}
use Rattle.laws.specs.Tests.{if_false}
use Rattle.laws.specs.Members.{here, there, in_left, in_right, same_in, duplicates-tells, disjoint-out, subset_in}
use Rattle.laws.specs.WellFormed.{Reference, to_gate, to_module, Body, done, step}
use Rattle.laws.specs.OutputCount.{output_count, length-of-run}
use Rattle.laws.specs.Adder.Nets.{look-here, look-past}
use Rattle.laws.specs.Adder.Outputs.{one_output}

module _ {A : Type 0} (unset : A) where
  look-behind :
      (nets : List ℕ) (vs : List A) (env : Env A) (net : ℕ)
      → ¬ (net ∈ nets)
      → look unset net (pairs unset nets vs ++ env) ≡ look unset net env
  unfolding pairs
  look-behind [] vs env net out = refl
  look-behind (x ∷ nets) [] env net out =
      look-past unset net x unset _ (λ e. out (here e)) ∙ look-behind nets [] env net (λ i. out (there i))
  look-behind (x ∷ nets) (v ∷ vs) env net out =
      look-past unset net x v _ (λ e. out (here e)) ∙ look-behind nets vs env net (λ i. out (there i))

  look_all-alike :
      (nets : List ℕ) (old new : Env A)
      → ((net : ℕ) → net ∈ nets → look unset net new ≡ look unset net old)
      → look_all unset nets new ≡ look_all unset nets old
  unfolding look_all
  look_all-alike [] old new same = refl
  look_all-alike (x ∷ nets) old new same =
      ap₂ ◌∷◌ (same x (here refl)) (look_all-alike nets old new (λ net i. same net (there i)))

  -- Different nets that are given values hold them.
  look_all-given :
      (nets : List ℕ) (vs : List A) (env : Env A)
      → ¬ (Twice nets)
      → length vs ≡ length nets
      → look_all unset nets (pairs unset nets vs ++ env) ≡ vs
  unfolding look_all pairs
  look_all-given [] [] env once fits = refl
  look_all-given [] (v ∷ vs) env once fits = absurd (omega arith)
  look_all-given (x ∷ nets) [] env once fits = absurd (omega arith)
  look_all-given (x ∷ nets) (v ∷ vs) env once fits =
      ap₂ ◌∷◌ (look-here unset x v _)
      (look_all-alike nets (pairs unset nets vs ++ env) _ (λ net i. look-past unset net x v _ (λ e. once (again (same_in (sym e) i))))
      ∙ look_all-given nets vs env (λ t. once (further t)) (omega arith))

module _ {A : Type 0} (unset : A) (gate_result : ℕ → List A → A) (later : List Module) where
  -- What a number referred to makes of its arguments, and the environment after some occurrences.
  abbrev pub means : Meaning A
  means = apply (one_output gate_result) (run unset (one_output gate_result) later)

  abbrev pub ran : List Occurrence → Env A → Env A
  ran os env = walk unset (one_output gate_result) (run unset (one_output gate_result) later) os env

  pub record Satisfied (env : Env A) (o : Occurrence) : Type 0 where
    pub equation : look_all unset o.drives env ≡ means o.refers (look_all unset o.takes env)

  outputs-fit : (o : Occurrence) → Reference later o → (vs : List A) → length (means o.refers vs) ≡ length o.drives
  outputs-fit o (to_gate is_gate arity one) vs = rw is_gate one
  outputs-fit o (to_module m no_gate found takes drives) vs =
      rw no_gate (length-of-run unset (one_output gate_result) later o.refers vs ∙ ap output_count found ∙ sym drives)

  -- A net that is there before the occurrences keeps its value.
  kept :
      {signals : List ℕ} {os : List Occurrence}
      → Body later signals os
      → (env : Env A) (net : ℕ)
      → net ∈ signals
      → look unset net (ran os env) ≡ look unset net env
  unfolding walk
  kept done env net i = refl
  kept {signals} (step {o = o} ok rest) env net i =
      kept rest _ net (in_right o.drives i)
      ∙ look-behind unset o.drives _ env net (λ j. disjoint-out o.drives signals ok.fresh j i)

  all-satisfied :
      {signals : List ℕ} {os : List Occurrence} → Body later signals os → (env : Env A) → All (Satisfied (ran os env)) os
  unfolding walk
  all-satisfied done env = none
  all-satisfied {signals} (step {o = o} {os = os} ok rest) env =
      let given = means o.refers (look_all unset o.takes env) in
      let next = pairs unset o.drives given ++ env in
      let taken : look_all unset o.takes (ran os next) ≡ look_all unset o.takes env =
      look_all-alike unset o.takes env (ran os next) (λ net i.
      let signal = subset_in o.takes signals ok.bound i in
      kept rest next net (in_right o.drives signal)
      ∙ look-behind unset o.drives given env net (λ j. disjoint-out o.drives signals ok.fresh j signal))
      in
      more
      (record {
        equation =
            look_all-alike unset o.drives next (ran os next) (λ net i. kept rest next net (in_left signals i))
            ∙ look_all-given unset o.drives given env
            (if_false (duplicates-tells o.drives) ok.distinct)
            (outputs-fit o ok.reference (look_all unset o.takes env))
            ∙ ap (means o.refers) (sym taken);
      })
      (all-satisfied rest next)

  -- Values of a module's nets that satisfy all its occurrences, with given inputs, and give its outputs.
  pub record Solved (m : Module) (vs : List A) : Type 0 where
    pub env : Env A
    pub inputs : look_all unset m.inputs env ≡ vs
    pub satisfied : All (Satisfied env) m.occurrences
    pub outputs :
        run_module unset (one_output gate_result) (run unset (one_output gate_result) later) m vs ≡ look_all unset m.outputs env

  pub solved :
      (m : Module) (vs : List A)
      → duplicates m.inputs ≡ false
      → Body later m.inputs m.occurrences
      → length vs ≡ length m.inputs
      → Solved m vs
  unfolding run_module
  solved m vs distinct body fits =
      let first = pairs unset m.inputs vs in
      record {
        env = ran m.occurrences first;
        inputs =
            look_all-alike unset m.inputs first _ (λ net i. kept body first net i)
            ∙ (rw append-nil at
            (look_all-given unset m.inputs vs [] (if_false (duplicates-tells m.inputs) distinct) fits));
        satisfied = all-satisfied body first;
        outputs = refl;
      }
