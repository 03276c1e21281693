-- A second chip family (document 02, M-108). With all delays 1 the family's delay is the unit delay; lengthening a gate shortens no
-- arrival; the family's delay is at most 255 times the gate count, and gates that the module does not reach have no part in it. And a count
-- with a family is the count that it is without.
use Prim.Native.Nat.{ℕ, zero, suc, ◌+◌, ◌*◌, ◌≤◌, ◌<◌}
use Rattle.std.specs.Prelude.{◌≡◌, refl, Bool, true, false, eqb, length, get_or, set}
use Rattle.std.proofs.Common.{sym, ap, ◌∙◌, le_refl, arith, ltb-true, eqb-true, get_or-set_same, get_or-set_other}
use mathlib.Core.List.{List, [], ◌∷◌, Forall₂}
use Rattle.std.proofs.lemmas.Bool.{eqb-false}
use Rattle.std.proofs.lemmas.List.{get_or-replicate}
use Rattle.meaning.specs.Lists.{none, more}
use Rattle.meaning.specs.Syntax.{Module}
use Rattle.meaning.specs.Gates.{is_gate}
use Rattle.meaning.specs.Ceilings.{Bytes}
use Rattle.meaning.specs.Figures.{kind_count, gate_count, arrivals, delay_by, delay}
use Rattle.meaning.specs.Family.{Family, unit_family, delay_in, net_arrival, family_delay}
use Rattle.laws.specs.Related.{look-related, pairs-related, walk-related, run-related}
use Rattle.laws.specs.Figures.Delay.{gates_slower, delay_by-monotone, delay_by-below-gates}
use Rattle.laws.specs.Figures.Reached.{delay_by-of-reached}

-- "with all at 1 the two agree": the family of ones works out the unit delay.
pub unit-family-agrees : (ms : List Module) (number : ℕ) → family_delay unit_family ms number ≡ delay ms number
unfolding family_delay delay
unit-family-agrees ms number =
    delay_by-of-reached (delay_in unit_family) (λ kind. 1) ms number
    (λ kind gate reached. get_or-replicate 16 kind 1 0 (ltb-true kind 16 gate))

-- No gate of the first family is slower than that of the second.
pub record Slower (family slower : List ℕ) : Type 0 where
  pub each : (kind : ℕ) → delay_in family kind ≤ delay_in slower kind

-- "lengthening one gate" is such a change,
pub lengthened :
    (family : List ℕ) (kind longer : ℕ)
    → kind < length family
    → delay_in family kind ≤ longer
    → Slower family (set family kind longer)
lengthened family kind longer within h = record { each = λ other. go other (eqb other kind) refl }
  where
    go : (other : ℕ) (b : Bool) → eqb other kind ≡ b → delay_in family other ≤ delay_in (set family kind longer) other
    go other true e =
        let same : other ≡ kind = eqb-true other kind e in
        rw same (omega (arith, get_or-set_same family kind longer 0 within))
    go other false e = omega (arith, get_or-set_other family kind other longer 0 (eqb-false other kind e))

module _ {family slower : List ℕ} (slow : Slower family slower) where
  -- and it "never shortens any arrival": every net of a module arrives as late or later, also where its inputs do,
  pub no_net-earlier :
      (later : List Module) (m : Module) {times times' : List ℕ}
      → Forall₂ ◌≤◌ times times'
      → (net : ℕ)
      → net_arrival family later m times net ≤ net_arrival slower later m times' net
  unfolding net_arrival arrivals
  no_net-earlier later m times net =
      let gates = gates_slower (delay_in family) (delay_in slower) slow.each in
      look-related ◌≤◌ 0 0 (le_refl 0) net
      (walk-related ◌≤◌ 0 0 (le_refl 0) gates (run-related ◌≤◌ 0 0 (le_refl 0) gates later) m.occurrences
      (pairs-related ◌≤◌ 0 0 (le_refl 0) m.inputs times))

  -- and so does the module.
  pub no_delay_shorter : (ms : List Module) (number : ℕ) → family_delay family ms number ≤ family_delay slower ms number
  unfolding family_delay
  no_delay_shorter = delay_by-monotone (delay_in family) (delay_in slower) slow.each

-- "The family's delay is at most 255 times the gate count."
bytes-at : {xs : List ℕ} → Bytes xs → (i : ℕ) → get_or xs i 0 ≤ 255
bytes-at none i = omega arith
bytes-at (more b bs) zero = omega arith
bytes-at (more b bs) (suc i) = bytes-at bs i

pub family-delay-below : {family : List ℕ} → Family family → (ms : List Module) (number : ℕ) → family_delay family ms number ≤ 255 * gate_count ms number
unfolding family_delay
family-delay-below {family} f = delay_by-below-gates (delay_in family) 255 (bytes-at f.bytes)

-- Families that agree on the gates that the module reaches give it one delay.
pub unreached_do_not_count :
    (family other : List ℕ) (ms : List Module) (number : ℕ)
    → ((kind : ℕ) → 1 ≤ kind_count kind ms number → delay_in family kind ≡ delay_in other kind)
    → family_delay family ms number ≡ family_delay other ms number
unfolding family_delay
unreached_do_not_count family other ms number same =
    delay_by-of-reached (delay_in family) (delay_in other) ms number (λ kind gate reached. same kind reached)
