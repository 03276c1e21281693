-- The entries of one occurrence.
use Prim.Native.Nat.{ℕ, ◌+◌, ◌≤◌}
use native.Mathlib.Omega.{arith}
use mathlib.Core.Path.{◌≡◌, refl, sym, ◌∙◌, ap, subst}
use mathlib.Core.Bool.{Bool, true, false, cond}
use mathlib.Core.List.{List, ◌++◌}
use lib.Dec.{ltb}
use lib.ListN.{length, take, drop}
use borrow.Author.Tests.{ltb-true, ltb-false}
use Rattle.meaning.specs.Syntax.{Occurrence, Module}
use Rattle.meaning.specs.Boxlist.{arity_okp}
use Rattle.image.specs.Stands.{Stands, stands-part}
use Rattle.fault_parts.specs.Fronts.{new_front, known_front}
use Rattle.fault_parts.specs.Asked.{Marked}
use Rattle.text_faults.specs.Faults.{entry_at_fault, entries, fault_in}
use Rattle.text_faults.specs.FrontLaws.{new-within}

-- A part that is lent is the list that stands there.
pub part-is : {im : List ℕ} {at : ℕ} {xs : List ℕ} (n : ℕ) → Stands im at xs → n ≡ length xs → take n (drop at im) ≡ xs
part-is {im} {at} n s e = ap (λ k. take k (drop at im)) e ∙ stands-part s

module _ (o : Occurrence) (known : List ℕ) (later : List Module) where
  -- By what was counted.
  pub fault_is :
      {new driven front taken : ℕ} {fit : Bool}
      → new ≡ new_front o.drives known
      → driven ≡ length o.drives
      → front ≡ known_front o.takes known
      → taken ≡ length o.takes
      → fit ≡ arity_okp o.refers o.takes o.drives later
      → entry_at_fault new driven front taken fit ≡ fault_in o known later
  unfolding fault_in
  fault_is n d f t a = rw (n, d, f, t, a)

-- Where no entry is at fault all nets that it drives are new.
all-driven : (new driven known taken : ℕ) (fit : Bool) → driven + 1 + taken ≤ entry_at_fault new driven known taken fit → driven ≤ new
unfolding entry_at_fault
all-driven new driven known taken fit h = go (ltb new driven) refl h
  where
    go : (t : Bool) → ltb new driven ≡ t
        → driven + 1 + taken ≤ cond t new (cond (ltb known taken) (driven + 1 + known) (cond fit (driven + 1 + taken) driven)) → driven ≤ new
    go true e l = absurd (omega (arith, ltb-true new driven e))
    go false e l = ltb-false new driven e

pub all_new : (o : Occurrence) (known : List ℕ) (later : List Module) → entries o ≤ fault_in o known later
    → new_front o.drives known ≡ length o.drives
unfolding fault_in
all_new o known later h = omega (arith, all-driven _ _ _ _ _ h, new-within o.drives known)

-- These are marked then.
pub marked_all : {drives marks : List ℕ} (known list : List ℕ) (new : ℕ) → list ≡ drives → new ≡ new_front drives known → new_front drives known ≡ length drives
    → (new ≡ length list → Marked marks (list ++ known)) → Marked marks (drives ++ known)
marked_all {marks = marks} known list new e n a h = subst (λ l. Marked marks (l ++ known)) e (h (n ∙ a ∙ ap length (sym e)))
