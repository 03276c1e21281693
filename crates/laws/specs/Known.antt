-- On known bits evaluation is the run of the same list on Booleans, where each gate is the Boolean function of its name. Nothing is
-- asked of the list.
use Rattle.std.specs.Prelude.{ℕ, ◌≡◌, refl, Bool, false}
use Rattle.std.proofs.Common.{ap, ap₂, ◌∙◌}
use mathlib.Core.List.{List, [], ◌∷◌, map, Forall₂}
use Rattle.meaning.specs.Syntax.{Module}
use Rattle.meaning.specs.Values.{Val, known}
use Rattle.meaning.specs.Gates.{gate_value}
use Rattle.meaning.specs.Evaluation.{Meaning, run, gate_outputs, evaluate}
use Rattle.meaning.specs.Heval.{happly}
use Rattle.laws.specs.Gates.{gate-on-known}
use Rattle.laws.specs.Related.{Respects, run-related}

-- The run of a list of modules on Booleans.
abbrev pub boolean_run : List Module → Meaning Bool
boolean_run = run false happly

-- A value is known to be a bit.
abbrev Is : Val → Bool → Type 0
Is v b = v ≡ known b

are-known : (bs : List Bool) → Forall₂ Is (map known bs) bs
are-known [] = Forall₂.nil
are-known (b ∷ bs) = Forall₂.cons refl (are-known bs)

known_of : {vs : List Val} {bs : List Bool} → Forall₂ Is vs bs → vs ≡ map known bs
known_of Forall₂.nil = refl
known_of (Forall₂.cons e rest) = ap₂ {C = List Val} (λ v vs. v ∷ vs) e (known_of rest)

gates-on-known : Respects Is gate_outputs happly
unfolding happly
gates-on-known =
    record {
      keeps = λ number {vs} {ws = bs} are.
          Forall₂.cons (ap (gate_value number) (known_of are) ∙ gate-on-known number bs) Forall₂.nil;
    }

pub evaluate-on-known :
    (ms : List Module) (number : ℕ) (bs : List Bool)
    → evaluate ms number (map known bs) ≡ map known (boolean_run ms number bs)
unfolding evaluate
evaluate-on-known ms number bs =
    known_of ((run-related Is (known false) false refl gates-on-known ms).keeps number (are-known bs))
