-- What a reference comes to: a gate, the module at a position, or the one of rules 13 and 14 that it breaks.
use Rattle.std.specs.Prelude.{ℕ, Result, Ok, Err, ◌+◌, Bool, true, false, List, drop}
use Rattle.meaning.specs.Syntax.{Module}
use Rattle.meaning.specs.Gates.{is_gate}
use Rattle.meaning.specs.Boxlist.{assoc, is_box, arity_okp}
use Rattle.image.specs.Resolved.{position_of}
use Rattle.check_lists.specs.declared.references.Reference.{Reference}
use Rattle.check_lists.specs.declared.references.Reference.TheVariants as reference

abbrev pub pick : Bool → Result Reference ℕ → Result Reference ℕ → Result Reference ℕ
pick true r s = r
pick false r s = s

-- For a reference in the module at position k of a file.
unfoldable pub reference_of : List Module → (k number : ℕ) → (takes drives : List ℕ) → Result Reference ℕ
reference_of ms k number takes drives =
    pick (is_gate number)
    (pick fits (Ok reference.Gate) (Err 14))
    (pick (is_box (assoc number (drop (k + 1) ms)))
    (pick fits (Ok (reference.Module (position_of number ms))) (Err 14))
    (Err 13))
  where
    fits : Bool
    fits = arity_okp number takes drives (drop (k + 1) ms)
