-- The module at a position, and its body behind the marked inputs.
use Prim.Native.Nat.{ℕ, ◌+◌, ◌<◌}
use native.Mathlib.Omega.{arith}
use mathlib.Core.Path.{◌≡◌, refl, sym, ◌∙◌, ap, subst}
use mathlib.Core.List.{List, [], ◌++◌, append-nil}
use lib.ListN.{length, get_or, take, drop}
use Rattle.meaning.specs.Syntax.{Module}
use Rattle.meaning.specs.Layout.{module_numbers}
use Rattle.image.specs.Stands.{Stands}
use Rattle.image.specs.Pieces.{module_at}
use Rattle.image.specs.Places.{HeaderOf}
use Rattle.image.specs.declared.places.Header.{Header}
use Rattle.check_sizes.specs.Behind.{here, behind}
use Rattle.check_lists.specs.Filed.{At}
use Rattle.fault_parts.specs.Asked.{Placed, Marked}
use Rattle.text_faults.specs.declared.Fault.{Fault}
use Rattle.text_faults.specs.Faults.{first_fault, fault_at}
use Rattle.text_faults.specs.Body.{Body}
use Rattle.text_faults.proofs.Entries.{part-is}

pub record Beginning (numbers : List ℕ) (start position : ℕ) (ms : List Module) : Type 0 where
  pub m : Module
  pub later : List Module
  pub at : At ms position m later
  pub stands : Stands numbers start (module_numbers m)

pub beginning : {numbers starts : List ℕ} {modules : ℕ} (p : Placed numbers starts modules) (position : ℕ) → position < modules
    → Beginning numbers (get_or starts position 0) position p.ms
beginning p position l =
    let h = here p.ms position (omega (arith, p.counted)) in
    record { m = h.m; later = h.later; at = h.at; stands = p.filed.standing position h.m h.later h.at }

module _ {numbers : List ℕ} {start position : ℕ} {ms : List Module} (b : Beginning numbers start position ms) where
  pub inputs : Stands numbers (start + 2) b.m.inputs
  inputs = (module_at b.m b.stands).inputs (start + 2) refl

  -- The inputs are marked where none was.
  abbrev pub begun-body : {h : Header} {marks : List ℕ} (n : ℕ) → HeaderOf numbers start b.m h → n ≡ length b.m.inputs
      → Marked marks (take n (drop (start + 2) numbers) ++ []) → Body numbers marks (h.to + 1) h.count
  begun-body {h} {marks} n header e m =
      record {
        os = b.m.occurrences;
        known = b.m.inputs;
        stands = header.body;
        counted = header.count;
        marked = subst (Marked marks) (append-nil _ ∙ part-is n inputs e) m;
      }

  pub whole_fault : {r : Fault} → r ≡ first_fault 0 b.m.occurrences b.m.inputs (drop (position + 1) ms) → r ≡ fault_at (drop position ms)
  whole_fault e = e ∙ ap (first_fault 0 b.m.occurrences b.m.inputs) (behind ms position b.at) ∙ ap fault_at (sym b.at)
