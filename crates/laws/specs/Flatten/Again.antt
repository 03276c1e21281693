-- Flattening a flattened file gives it back: in a module of that shape every net stands for itself.
use Rattle.std.specs.Prelude.{ℕ, suc, ◌<◌, ◌≡◌, refl, Bool, true, false, cond, ◌⊎◌, List, [], ◌∷◌, ◌++◌, eqb, length}
use Rattle.std.proofs.Common.{sym, ap₂, ◌∙◌, inl, inr, append-nil, append_assoc, eq-or-lt_of_le, arith, eqb-true, eq-eqb}
use Rattle.std.proofs.lemmas.Bool.{eqb-false}
use Rattle.meaning.specs.Syntax.{Occurrence, Module}
use Rattle.meaning.specs.Members.{◌∈◌}
use Rattle.meaning.specs.Boxlist.{box, assoc}
use Rattle.meaning.specs.Verdict.{good, file_verdict}
use Rattle.meaning.specs.Evaluation.{Env, look, look_all, pairs}
use Rattle.meaning.specs.Flattening.{Placing, place_referred, Walked, place_body, place_module, place, flat_module}
use Rattle.meaning.specs.Adder.{up_from}
use Rattle.laws.specs.Members.{here, there, in-none}
use Rattle.laws.specs.Adder.Nets.{look-here, look-past}
use Rattle.laws.specs.Flatten.Numbered.{in_run}
use Rattle.laws.specs.Flatten.Wired.{GateAt, Wired, done, more}
use Rattle.laws.specs.Flatten.Shape.{Flat, flat_shape}

-- The nets below a number stand for themselves.
record Mirrors (n : ℕ) (env : Env ℕ) : Type 0 where
  same : (x : ℕ) → x < n → look 0 x env ≡ x

look_all_mirrors :
    {n : ℕ} {env : Env ℕ} → Mirrors n env → (nets : List ℕ) → ((x : ℕ) → x ∈ nets → x < n) → look_all 0 nets env ≡ nets
unfolding look_all
look_all_mirrors m [] below = refl
look_all_mirrors m (x ∷ nets) below =
    ap₂ {C = List ℕ} ◌∷◌ (m.same x (below x (here refl))) (look_all_mirrors m nets (λ y i. below y (there i)))

mirrors_further : {n : ℕ} {env : Env ℕ} → Mirrors n env → Mirrors (suc n) (record { net = n; value = n } ∷ env)
mirrors_further {n} {env} m = record { same = λ x l. go x (eq-or-lt_of_le l) }
  where
    go : (x : ℕ) → (suc x ≡ suc n) ⊎ (suc x < suc n) → look 0 x (record { net = n; value = n } ∷ env) ≡ x
    go x (inl e) = let at : x ≡ n = omega arith in rw at (look-here 0 n n env)
    go x (inr l) = look-past 0 x n n env (λ e. omega arith) ∙ m.same x (omega arith)

pairs_mirror : (nets : List ℕ) (x : ℕ) → x ∈ nets → look 0 x (pairs 0 nets nets) ≡ x
unfolding look pairs
pairs_mirror [] x i = absurd (in-none i)
pairs_mirror (net ∷ nets) x i = go (eqb x net) refl i (pairs_mirror nets x)
  where
    go : (b : Bool) → eqb x net ≡ b → x ∈ (net ∷ nets) → (x ∈ nets → look 0 x (pairs 0 nets nets) ≡ x)
        → cond b net (look 0 x (pairs 0 nets nets)) ≡ x
    go true e i rest = sym (eqb-true x net e)
    go false e (here same) rest = absurd (eqb-false x net e same)
    go false e (there i) rest = rest i

inputs_mirror : (inputs : ℕ) → Mirrors inputs (pairs 0 (up_from 0 inputs) (up_from 0 inputs))
inputs_mirror inputs = record { same = λ x l. pairs_mirror (up_from 0 inputs) x (in_run 0 inputs x (omega arith)) }

-- A gate on nets that stand for themselves is set down as it is.
gate-again :
    {n : ℕ} {o : Occurrence} {env : Env ℕ} (later : Placing) (front : List Occurrence)
    → GateAt n o
    → Mirrors n env
    → place_referred later o.refers (look_all 0 o.takes env) (record { next = n; gates = front })
    ≡ record { nets = n ∷ []; board = record { next = suc n; gates = front ++ (o ∷ []) } }
gate-again {o = o} later front g m = rw (g.kind, look_all_mirrors m o.takes g.below, ← g.drives)

-- Gates in their order, set down behind others.
record Repeats (front os : List Occurrence) (n : ℕ) (w : Walked) : Type 0 where
  gates : w.board.gates ≡ front ++ os
  nets : Mirrors n w.env

body-again :
    {n k : ℕ} {os : List Occurrence} {env : Env ℕ} (later : Placing) (front : List Occurrence)
    → Wired n os k
    → Mirrors n env
    → Repeats front os k (place_body later os (record { env = env; board = record { next = n; gates = front } }))
unfolding place_body pairs
body-again later front done m = record { gates = sym (append-nil front); nets = m }
body-again {n} later front (more {o = o} {os = os} g rest) m =
    let bound : pairs 0 o.drives (n ∷ []) ≡ record { net = n; value = n } ∷ [] = rw g.drives in
    rw (gate-again later front g m, bound)
    (let w = body-again later (front ++ (o ∷ [])) rest (mirrors_further m) in
    record { gates = w.gates ∙ append_assoc front (o ∷ []) os; nets = w.nets })

flat-again : {inputs : ℕ} (f : Module) → Flat inputs f → flat_module (f ∷ []) f.number inputs ≡ f
unfolding flat_module place place_module
flat-again {inputs} f flat =
    let start : Mirrors inputs (pairs 0 f.inputs f.inputs) = rw flat.inputs_are (inputs_mirror inputs) in
    let w = body-again (place []) [] flat.wired start in
    let outputs = look_all_mirrors w.nets f.outputs (λ x i. (flat.outputs-driven x i).below) in
    rw (eq-eqb f.number f.number refl, ← flat.inputs_are, outputs, w.gates)

pub flat-of-flat :
    (ms : List Module) (number : ℕ) (m : Module)
    → file_verdict ms ≡ good
    → assoc number ms ≡ box m
    → flat_module (flat_module ms number (length m.inputs) ∷ []) number (length m.inputs)
    ≡ flat_module ms number (length m.inputs)
unfolding flat_module
flat-of-flat ms number m accepted found =
    flat-again (flat_module ms number (length m.inputs)) (flat_shape ms number m accepted found)
