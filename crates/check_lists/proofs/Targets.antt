-- What a reference comes to, case by case, and what the tables say of the module that it means.
use Prim.Native.Nat.{ℕ, suc, ◌+◌, ◌-◌, ◌<◌}
use mathlib.Core.Path.{◌≡◌, sym, ap, ap₂, ◌∙◌}
use mathlib.Core.Bool.{Bool, true, false, ◌&&◌, and-false}
use mathlib.Core.List.{List}
use native.Mathlib.Omega.{arith}
use borrow.Author.Tests.{eq-eqb, ne_eqb}
use lib.Dec.{eqb}
use lib.ListN.{length, get_or, drop}
use Rattle.meaning.specs.Syntax.{Module}
use Rattle.meaning.specs.Gates.{is_gate, gate}
use Rattle.meaning.specs.Boxlist.{box, F, assoc, arity_okp}
use Rattle.image.specs.Resolved.{position_of}
use Rattle.check_sizes.specs.Behind.{inside}
use Rattle.check_lists.specs.Numbering.{Numbered, Ported, first_of, first_repeat}
use Rattle.std.specs.Prelude.{Ok, Err}
use Rattle.check_lists.specs.References.{reference_of, pick}
use Rattle.check_lists.specs.declared.references.Reference.TheVariants as reference
use Rattle.check_lists.specs.Later.{later-found}

module _ (ms : List Module) (k number : ℕ) (takes drives : List ℕ) where
  pub to-gate :
      is_gate number ≡ true → (b : Bool) → (eqb (gate number).arity (length takes) && eqb 1 (length drives)) ≡ b
      → reference_of ms k number takes drives ≡ pick b (Ok reference.Gate) (Err 14)
  unfolding reference_of arity_okp
  to-gate g b e = rw (g, e)

  pub to_none :
      is_gate number ≡ false → assoc number (drop (k + 1) ms) ≡ F → reference_of ms k number takes drives ≡ Err 13
  unfolding reference_of
  to_none g e = rw (g, e)

  to_module :
      is_gate number ≡ false → (m : Module) → assoc number (drop (k + 1) ms) ≡ box m
      → (b : Bool) → (eqb (length takes) (length m.inputs) && eqb (length drives) (length m.outputs)) ≡ b
      → reference_of ms k number takes drives ≡ pick b (Ok (reference.Module (position_of number ms))) (Err 14)
  unfolding reference_of arity_okp
  to_module g m e b f = rw (g, e, f)

-- The module that a number means, where its place in the table lies behind k + 1.
pub record Target (inputs outputs : List ℕ) (ms : List Module) (k number place : ℕ) : Type 0 where
  pub m : Module
  pub found : assoc number (drop (k + 1) ms) ≡ box m
  pub placed : position_of number ms ≡ place - 1
  pub in_inputs : place - 1 < length inputs
  pub in_outputs : place - 1 < length outputs
  pub input_count : get_or inputs (place - 1) 0 ≡ length m.inputs
  pub output_count : get_or outputs (place - 1) 0 ≡ length m.outputs

pub target :
    (first inputs outputs : List ℕ) (ms : List Module) (k number place : ℕ)
    → Numbered first ms → Ported inputs outputs ms → k < first_repeat ms → place ≡ get_or first number 0 → k + 1 < place
    → Target inputs outputs ms k number place
target first inputs outputs ms k number place numbered ported unrepeated is behind =
    let one : first_of number ms ≡ suc (place - 1) = sym (numbered.place number) ∙ sym is ∙ omega arith in
    let meant = later-found ms k number (place - 1) unrepeated one (omega arith) in
    let listed = inside ms (place - 1) meant.here in
    record {
      m = meant.m;
      found = meant.found;
      placed = meant.placed;
      in_inputs = omega (arith, ported.inputs_listed);
      in_outputs = omega (arith, ported.outputs_listed);
      input_count = ported.taken (place - 1) meant.m meant.later meant.here;
      output_count = ported.driven (place - 1) meant.m meant.later meant.here;
    }

-- The verdict on the counts of a module that is meant.
module _
    {inputs outputs : List ℕ} {ms : List Module} {k number place : ℕ} (t : Target inputs outputs ms k number place)
    (g : is_gate number ≡ false) (takes drives : List ℕ)
  where
    pub inputs-differ : (length takes ≡ length t.m.inputs → ⊥) → reference_of ms k number takes drives ≡ Err 14
    inputs-differ differ =
        to_module ms k number takes drives g t.m t.found false
        (ap (λ (b : Bool). b && eqb (length drives) (length t.m.outputs)) (ne_eqb (length takes) (length t.m.inputs) differ))

    pub outputs-differ : (length drives ≡ length t.m.outputs → ⊥) → reference_of ms k number takes drives ≡ Err 14
    outputs-differ differ =
        to_module ms k number takes drives g t.m t.found false
        (ap (λ (b : Bool). eqb (length takes) (length t.m.inputs) && b) (ne_eqb (length drives) (length t.m.outputs) differ)
        ∙ and-false (eqb (length takes) (length t.m.inputs)))

    pub counts-agree :
        length takes ≡ length t.m.inputs → length drives ≡ length t.m.outputs
        → reference_of ms k number takes drives ≡ Ok (reference.Module (place - 1))
    counts-agree takes-agree drives-agree =
        to_module ms k number takes drives g t.m t.found true
        (ap₂ ◌&&◌ (eq-eqb (length takes) (length t.m.inputs) takes-agree) (eq-eqb (length drives) (length t.m.outputs) drives-agree))
        ∙ ap (λ (j : ℕ). Ok (reference.Module j)) t.placed
