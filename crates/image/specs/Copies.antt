-- A part of a list that is copied into another: entry by entry, and what the parts of the other list are afterwards.
use Rattle.std.specs.Prelude.{ℕ, zero, suc, ◌+◌, ◌≤◌, ◌<◌, ◌≡◌, refl, Bool, true, false, ◌≢◌, ◌⊎◌, List, [], ◌∷◌, ◌++◌, ltb, length, get_or, take, drop, set}
use Rattle.std.proofs.Common.{sym, ap, ◌∙◌, inl, inr, ⊎_elim, append_assoc, arith, add-one, ltb-true, ltb-false, length-set, length-drop, get_or-drop, take-take, take_at, drop_at, length-take-le}
use Rattle.std.proofs.Math.Numerals.{lt_of_le_of_ne}
use Rattle.std.proofs.Math.Seq.{paste, paste-zero, paste-suc}
use Rattle.std.proofs.lemmas.List.Edits.{drop-paste}
use Rattle.image.specs.Entries.{same-further}

-- The first entries are copied.
pub record Copying (source : List ℕ) (from : ℕ) (target : List ℕ) (at i : ℕ) (target' : List ℕ) : Type 0 where
  pub long : length target' ≡ length target
  pub is : target' ≡ paste target at (drop from source) i

pub none-copied : (source : List ℕ) (from : ℕ) (target : List ℕ) (at : ℕ) → Copying source from target at 0 target
none-copied source from target at = record { long = refl; is = paste-zero target at (drop from source) }

pub more-copied :
    {source : List ℕ} {from : ℕ} {target : List ℕ} {at i : ℕ} {target' : List ℕ}
    → from + i < length source
    → at + i < length target
    → Copying source from target at i target'
    → Copying source from target at (i + 1) (set target' (at + i) (get_or source (from + i) 0))
more-copied {source} {from} {target} {at} {i} {target'} there here c =
    record {
      long = length-set target' (at + i) (get_or source (from + i) 0) ∙ c.long;
      is =
          ap (λ (l : List ℕ). set l (at + i) (get_or source (from + i) 0)) c.is
          ∙ rw (← get_or-drop from source i 0, add-one i)
          (paste-suc target at (drop from source) i 0 here (omega (arith, length-drop from source)));
    }

-- A part of a list, in a longer part at the front.
part_in_front : (at count front : ℕ) (l : List ℕ) → at + count ≤ front → take count (drop at (take front l)) ≡ take count (drop at l)
part_in_front zero count front l h = take-take count front l (omega arith)
part_in_front (suc at) count zero l h = absurd (omega arith)
part_in_front (suc at) count (suc front) [] h = refl
part_in_front (suc at) count (suc front) (x ∷ l) h = part_in_front at count front l (omega arith)

-- Of two different positions one is earlier.
pub either_first : (j k : ℕ) → j ≢ k → (j < k) ⊎ (k < j)
either_first j k other = go (ltb j k) refl
  where
    go : (b : Bool) → ltb j k ≡ b → (j < k) ⊎ (k < j)
    go true e = inl (ltb-true j k e)
    go false e = inr (lt_of_le_of_ne (ltb-false j k e) (λ same. other (sym same)))

-- The parts of the other list: the copy, and a part that lies before it or behind it, as it was.
module _ (target : List ℕ) (at : ℕ) (source : List ℕ) (count : ℕ) (fits : at + count ≤ length target) (long : count ≤ length source) where
  front : take at (paste target at source count) ≡ take at target
  front = rw append_assoc (take_at (take at target) (take count source ++ drop (at + count) target) at (length-take-le at target (omega arith)))

  pub copy_there : take count (drop at (paste target at source count)) ≡ take count source
  copy_there =
      rw append_assoc
      (ap (take count) (drop_at (take at target) (take count source ++ drop (at + count) target) at (length-take-le at target (omega arith)))
      ∙ take_at (take count source) (drop (at + count) target) count (length-take-le count source long))

  pub part-elsewhere :
      (from size : ℕ)
      → (from + size ≤ at) ⊎ (at + count ≤ from)
      → take size (drop from (paste target at source count)) ≡ take size (drop from target)
  part-elsewhere from size =
      ⊎_elim
      (λ before.
      sym (part_in_front from size at (paste target at source count) before)
      ∙ ap (λ (l : List ℕ). take size (drop from l)) front
      ∙ part_in_front from size at target before)
      (λ behind.
      ap (take size)
      (same-further (paste target at source count) target (at + count) from behind (drop-paste target at source count (omega arith) long)))
