-- The occurrences of a module that fits, with the nets known so far listed in the order of their slots: what an occurrence drives
-- comes at the end. `Body` lists the same nets newest first.
use Rattle.std.specs.Prelude.{ℕ, ◌≡◌, refl, true, List, [], ◌∷◌, ◌++◌}
use Rattle.std.proofs.Common.{sym, ap, ◌∙◌}
use Rattle.std.proofs.Math.Bool.{or_comm, or-true}
use Rattle.meaning.specs.Syntax.{Occurrence, Module}
use Rattle.meaning.specs.Boxlist.{member, subset}
use Rattle.meaning.specs.Limits.{driven}
use Rattle.laws.specs.WellFormed.{OccurrenceOk, Body}
use Rattle.nets.specs.Slots.{slot_of}
use Rattle.nets.specs.Booleans.{and_left, and_right}
use Rattle.nets.specs.Members.{member-append, disjoint-same, subset-same}
use Rattle.nets.specs.SlotLaws.{slot-append}
use Rattle.image.specs.Resolved.{nets_of}
use Rattle.image.specs.Fitting.{ModuleFits}

pub data Ordered (later : List Module) : (nets : List ℕ) → List Occurrence → Type 0 where
  done : {nets : List ℕ} → Ordered later nets []
  step :
      {nets : List ℕ} {o : Occurrence} {os : List Occurrence}
      → OccurrenceOk later nets o
      → Ordered later (nets ++ o.drives) os
      → Ordered later nets (o ∷ os)

in_order :
    {later : List Module} {signals : List ℕ} {os : List Occurrence} (nets : List ℕ)
    → ((x : ℕ) → member x signals ≡ member x nets)
    → Body later signals os
    → Ordered later nets os
in_order nets same Body.done = done
in_order nets same (Body.step {signals} {o} ok rest) =
    step
    (record {
      distinct = ok.distinct;
      fresh = sym (disjoint-same signals nets same o.drives) ∙ ok.fresh;
      bound = sym (subset-same signals nets same o.takes) ∙ ok.bound;
      reference = ok.reference;
    })
    (in_order (nets ++ o.drives) (λ x. both x) rest)
  where
    both : (x : ℕ) → member x (o.drives ++ signals) ≡ member x (nets ++ o.drives)
    both x =
        rw (member-append x o.drives signals, member-append x nets o.drives, same x)
        (or_comm (member x o.drives) (member x nets))

pub ordered : {m : Module} {later : List Module} → ModuleFits m later → Ordered later m.inputs m.occurrences
ordered {m} ok = in_order m.inputs (λ x. refl) ok.body

-- A net keeps its slot when nets are added.
pub slot-known :
    (all nets further : List ℕ) → all ≡ nets ++ further → (x : ℕ) → member x nets ≡ true → slot_of x all ≡ slot_of x nets
slot-known all nets further e x among = ap (slot_of x) e ∙ slot-append x nets further among

subset_append_right : (l ns ms : List ℕ) → subset l ms ≡ true → subset l (ns ++ ms) ≡ true
unfolding subset
subset_append_right [] ns ms s = refl
subset_append_right (x ∷ l) ns ms s =
    rw (member-append x ns ms, and_left (member x ms) (subset l ms) s, or-true (member x ns))
    (subset_append_right l ns ms (and_right (member x ms) (subset l ms) s))

pub outputs-known : {m : Module} {later : List Module} → ModuleFits m later → subset m.outputs (nets_of m) ≡ true
unfolding nets_of
outputs-known {m} ok = subset_append_right m.outputs m.inputs (driven m.occurrences) ok.outputs_driven
