-- A module without inputs drives nothing, so it has no outputs: a gate takes at least one argument, which nothing could drive, and
-- a module that it refers to has no inputs either.
use Rattle.std.specs.Prelude.{ℕ, zero, suc, ◌≤◌, ◌<◌, ◌≡◌, Bool, true, ◌&&◌, List, [], ◌∷◌, leb, length, get_or}
use Rattle.std.proofs.Math.Path.{refl}
use Rattle.std.proofs.Common.{ap, arith, ltb-true, leb-true}
use Rattle.std.proofs.lemmas.Bool.{false≢true}
use Rattle.meaning.specs.Syntax.{Occurrence, Module}
use Rattle.meaning.specs.Gates.{Gate, is_gate, gate, gates}
use Rattle.meaning.specs.Boxlist.{member, subset, box, assoc}
use Rattle.meaning.specs.Limits.{driven}
use Rattle.laws.specs.WellFormed.{Reference, to_gate, to_module, Body, done, step, ModuleOk, Accepted}
use Rattle.laws.specs.Tests.{and_both}
use Rattle.laws.specs.Finding.{found-every}

-- Every gate takes an argument.
takes_some : List Gate → Bool
takes_some [] = true
takes_some (g ∷ gs) = leb 1 g.arity && takes_some gs

takes-some : (gs : List Gate) (i : ℕ) (d : Gate) → takes_some gs ≡ true → i < length gs → 1 ≤ (get_or gs i d).arity
unfolding takes_some
takes-some [] i d e h = absurd (omega arith)
takes-some (g ∷ gs) zero d e h = leb-true 1 g.arity (and_both (leb 1 g.arity) (takes_some gs) e).0
takes-some (g ∷ gs) (suc i) d e h = takes-some gs i d (and_both (leb 1 g.arity) (takes_some gs) e).1 (omega arith)

gate-takes : (x : ℕ) → is_gate x ≡ true → 1 ≤ (gate x).arity
unfolding gate gates takes_some
gate-takes x g = takes-some gates x _ refl (ltb-true x 16 g)

subset-none : (xs : List ℕ) → subset xs [] ≡ true → xs ≡ []
unfolding subset member
subset-none [] e = refl
subset-none (x ∷ xs) e = absurd (false≢true e)

length_none : (xs : List ℕ) → length xs ≡ 0 → xs ≡ []
length_none [] e = refl
length_none (x ∷ xs) e = absurd (omega arith)

-- A module that does nothing.
pub record Idle (m : Module) : Type 0 where
  pub drives_nothing : driven m.occurrences ≡ []
  pub no_outputs : m.outputs ≡ []

-- Where this is so of the modules referred to, occurrences without signals drive nothing.
module _ (later : List Module) (idle : (x : ℕ) (k : Module) → assoc x later ≡ box k → k.inputs ≡ [] → Idle k) where
  reference-idle : (o : Occurrence) → Reference later o → o.takes ≡ [] → o.drives ≡ []
  reference-idle o (to_gate g a d) e =
      let z : length o.takes ≡ 0 = ap length e in
      absurd (omega (arith, gate-takes o.refers g))
  reference-idle o (to_module m g f a d) e =
      let z : length o.takes ≡ 0 = ap length e in
      let y : length m.outputs ≡ 0 = ap length (idle o.refers m f (length_none m.inputs (omega arith))).no_outputs in
      length_none o.drives (omega arith)

  body-idle : {signals : List ℕ} {os : List Occurrence} → Body later signals os → signals ≡ [] → driven os ≡ []
  unfolding driven
  body-idle done e = refl
  body-idle (step {o = o} ok rest) e =
      let drives = reference-idle o ok.reference (subset-none o.takes (rw e at ok.bound)) in
      rw drives (body-idle rest (rw (drives, e)))

pub no_inputs-idle : {ms : List Module} → Accepted ms → (x : ℕ) (m : Module) → assoc x ms ≡ box m → m.inputs ≡ [] → Idle m
no_inputs-idle =
    found-every {P = λ m. m.inputs ≡ [] → Idle m} (λ m later ok idle e. each m later ok (body-idle later idle ok.body e))
  where
    each : (m : Module) (later : List Module) → ModuleOk m later → driven m.occurrences ≡ [] → Idle m
    each m later ok e = record { drives_nothing = e; no_outputs = subset-none m.outputs (rw e at ok.outputs_driven) }
