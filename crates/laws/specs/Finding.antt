-- What looking up a number tells: (ASSOC NAME BOXLIST) finds a module exactly where the number is one of the list's, and the checks
-- of existence and arity of BODY-OKP say what a `Reference` says. In an accepted list, what is found is accepted.
use Rattle.std.specs.Prelude.{ℕ, ◌≤◌, ◌<◌, ◌⊎◌, ◌≡◌, refl, Bool, true, false, cond, ◌&&◌, ◌||◌, List, [], ◌∷◌, eqb, length}
use Rattle.std.proofs.Common.{inl, inr, sym, ◌∙◌, ap, subst, true≢false, arith, ltb-true, ltb-false}
use Rattle.meaning.specs.Syntax.{Occurrence, Module}
use Rattle.meaning.specs.Gates.{is_gate, gate}
use Rattle.meaning.specs.Members.{◌∈◌}
use Rattle.meaning.specs.Boxlist.{Found, box, F, assoc, is_box, submodule_okp, arity_okp}
use Rattle.meaning.specs.Rules.{numbers, Unresolved, Mismatch, with_gate, with_module}
use Rattle.laws.specs.WellFormed.{Reference, to_gate, to_module, ModuleOk, Accepted, none, some}
use Rattle.laws.specs.Tests.{Tells, tells_true, tells_false, if_false, is_false, neither}
use Rattle.laws.specs.Tests.{tells, tells-and, tells-or, eqb_tells, ltb_tells}
use Rattle.laws.specs.Members.{here, there, in-none}

pub found-tells : (x : ℕ) (ms : List Module) → Tells (x ∈ numbers ms) (¬ (x ∈ numbers ms)) (is_box (assoc x ms))
unfolding assoc
found-tells x [] = tells_false in-none
found-tells x (m ∷ ms) = go (eqb_tells x m.number) (found-tells x ms)
  where
    go :
        {b : Bool}
        → Tells (x ≡ m.number) (¬ (x ≡ m.number)) b
        → Tells (x ∈ numbers ms) (¬ (x ∈ numbers ms)) (is_box (assoc x ms))
        → Tells (x ∈ numbers (m ∷ ms)) (¬ (x ∈ numbers (m ∷ ms))) (is_box (cond b (box m) (assoc x ms)))
    go (tells_true e) t = tells_true (here e)
    go (tells_false h) t = tells there absent t
      where
        absent : ¬ (x ∈ numbers ms) → ¬ (x ∈ numbers (m ∷ ms))
        absent out (here e) = h e
        absent out (there i) = out i

-- Rule 13's test: a gate, or a later module that is found.
pub resolved_tells :
    (o : Occurrence) (later : List Module)
    → Tells (¬ (Unresolved o later)) (Unresolved o later) (is_gate o.refers || is_box (assoc o.refers later))
resolved_tells o later = tells either unresolved (tells-or (ltb_tells o.refers 16) (found-tells o.refers later))
  where
    either : (o.refers < 16) ⊎ (o.refers ∈ numbers later) → ¬ (Unresolved o later)
    either (inl l) u = omega arith
    either (inr i) u = u.no_module i

    unresolved : (16 ≤ o.refers) × (¬ (o.refers ∈ numbers later)) → Unresolved o later
    unresolved h = record { no_gate = h.0; no_module = h.1 }

-- The arity checks of BODY-OKP tell a fitting reference from one that breaks rule 13 or 14.
pub reference-tells :
    (o : Occurrence) (later : List Module)
    → Tells (Reference later o) (Unresolved o later ⊎ Mismatch o later) (arity_okp o.refers o.takes o.drives later)
unfolding arity_okp
reference-tells o later = go (is_gate o.refers) refl
  where
    both : (a b c d : ℕ) → Tells ((a ≡ b) × (c ≡ d)) (¬ ((a ≡ b) × (c ≡ d))) (eqb a b && eqb c d)
    both a b c d = tells (λ h. h) either (tells-and (eqb_tells a b) (eqb_tells c d))
      where
        either : (¬ (a ≡ b)) ⊎ (¬ (c ≡ d)) → ¬ ((a ≡ b) × (c ≡ d))
        either (inl h) e = h e.0
        either (inr h) e = h e.1

    found :
        (f : Found)
        → assoc o.refers later ≡ f
        → is_gate o.refers ≡ false
        → Tells (Reference later o) (Unresolved o later ⊎ Mismatch o later) (submodule_okp f o.takes o.drives)
    found (box m) e g = tells (λ h. to_module m g e h.0 h.1) (λ h. inr (with_module m (ltb-false _ _ g) e h)) (both _ _ _ _)
    found F e g =
        tells_false
        (inl (record { no_gate = ltb-false _ _ g; no_module = if_false (found-tells o.refers later) (ap is_box e) }))

    go :
        (b : Bool)
        → is_gate o.refers ≡ b
        → Tells (Reference later o) (Unresolved o later ⊎ Mismatch o later)
        (cond b
        (eqb (gate o.refers).arity (length o.takes) && eqb 1 (length o.drives))
        (submodule_okp (assoc o.refers later) o.takes o.drives))
    go true g = tells (λ h. to_gate g h.0 h.1) (λ h. inr (with_gate (ltb-true _ _ g) h)) (both _ _ _ _)
    go false g = found (assoc o.refers later) refl g

-- A fitting reference breaks neither rule.
pub reference-resolved : {o : Occurrence} {later : List Module} → Reference later o → ¬ (Unresolved o later)
reference-resolved (to_gate g a b) u = omega (arith, ltb-true)
reference-resolved {o} {later} (to_module m g e a b) u =
    true≢false (ap is_box (sym e) ∙ is_false (found-tells o.refers later) u.no_module)

pub reference-matches : {o : Occurrence} {later : List Module} → Reference later o → ¬ (Mismatch o later)
reference-matches (to_gate g a b) (with_gate l h) = h (a, b)
reference-matches (to_gate g a b) (with_module m l e h) = omega (arith, ltb-true)
reference-matches (to_module m g e a b) (with_gate l h) = omega (arith, ltb-false)
reference-matches (to_module m g e a b) (with_module m' l e' h) = h (cc, cc)

pub reference-fits : {o : Occurrence} {later : List Module} → Reference later o → ¬ (Unresolved o later ⊎ Mismatch o later)
reference-fits r = neither (reference-resolved r) (reference-matches r)

-- A number that no module has is not found.
pub not_box : (f : Found) → is_box f ≡ false → f ≡ F
not_box (box m) e = absurd (true≢false e)
not_box F e = refl

pub not_found : (x : ℕ) (ms : List Module) → ¬ (x ∈ numbers ms) → assoc x ms ≡ F
not_found x ms out = not_box (assoc x ms) (is_false (found-tells x ms) out)

-- A property that a module has wherever the modules it can refer to have it, every module has that a number finds.
pub found-every :
    {ms : List Module} {P : Module → Type 0}
    → ((m : Module) (later : List Module) → ModuleOk m later → ((x : ℕ) (k : Module) → assoc x later ≡ box k → P k) → P m)
    → Accepted ms
    → (x : ℕ) (k : Module)
    → assoc x ms ≡ box k
    → P k
unfolding assoc
found-every f none x k e = let z : ◌≡◌ {A = ℕ} 0 1 = cc in absurd (omega arith)
found-every {P = P} f (some {m} {later} ok rest) x k e = go (eqb x m.number) refl (found-every f rest)
  where
    go : (b : Bool) → eqb x m.number ≡ b → ((x : ℕ) (k : Module) → assoc x later ≡ box k → P k) → P k
    go true t below = let same : m ≡ k = cc (rw t at e) in subst P same (f m later ok below)
    go false t below = below x k (rw t at e)
