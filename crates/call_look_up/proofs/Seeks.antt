-- From a file's modules by number and place to what it has of a number.
use Prim.Native.Nat.{ℕ, suc, ◌+◌, ◌-◌, ◌≤◌, ◌<◌}
use mathlib.Core.Path.{◌≡◌, refl, sym, ap, ap₂, subst, ◌∙◌}
use mathlib.Core.Bool.{Bool, true, false, cond}
use mathlib.Core.List.{List, [], ◌∷◌}
use native.Mathlib.Omega.{arith}
use lib.Dec.{eqb}
use lib.ListN.{length, get_or, take}
use Rattle.meaning.specs.Syntax.{Module}
use Rattle.meaning.specs.Boxlist.{F, assoc}
use Rattle.meaning.specs.Layout.{each, number_bytes, module_numbers}
use Rattle.meaning.specs.Reading.{fails, read}
use Rattle.meaning.specs.Shelves.{bytes_of, ahead}
use Rattle.image.specs.Resolved.{position_of}
use Rattle.open_finding.specs.Finding.{Searchable, FoundAt, Finds}
use Rattle.open_places.specs.Places.{Shelved, Notes}
use Rattle.open_places.specs.Parts.{part-within, part-next}
use Rattle.refusals.specs.declared.Refusal.{Refusal}
use Rattle.call_look_up.specs.Seeking.{sought_of}
use Rattle.call_look_up.specs.declared.seeking.Stretch.{Stretch}
use Rattle.std.specs.Prelude.{Option, Some, None, Result, Ok, Err}

-- The modules in front of the first of a number are those in front of its position.
ahead-taken : (number : ℕ) (ms : List Module) → ahead number ms ≡ take (position_of number ms) ms
unfolding ahead position_of
ahead-taken number [] = refl
ahead-taken number (m ∷ ms) = go (eqb number m.number) (ahead-taken number ms)
  where
    go :
        (b : Bool)
        → ahead number ms ≡ take (position_of number ms) ms
        → cond b [] (m ∷ ahead number ms) ≡ take (cond b 0 (suc (position_of number ms))) (m ∷ ms)
    go true e = refl
    go false e = ap (◌∷◌ m) e

abbrev pub there : (start count : ℕ) → Result (Option Stretch) Refusal
there start count = Ok (Some (record { start = start; length = count }))

module _ (file names places : List ℕ) (r : Result ℕ Refusal) (n : Notes r file names places) where
  pub noted-shelved : (modules : ℕ) → r ≡ Ok modules → Shelved file modules names places
  noted-shelved modules e = subst (λ (x : Result ℕ Refusal). Notes x file names places) e n

  pub noted-fails : (refusal : Refusal) → r ≡ Err refusal → read file ≡ fails refusal.number refusal.place
  noted-fails refusal e = subst (λ (x : Result ℕ Refusal). Notes x file names places) e n

module _ {file : List ℕ} {modules : ℕ} {names places : List ℕ} (s : Shelved file modules names places) where
  abbrev pub searchable : Searchable names modules
  searchable = record { ms = s.ms; all = s.all; listed = s.listed; name = λ k e. s.named.name k e }

  module _ (number : ℕ) (r : Option ℕ) (finds : Finds r s.ms number) where
    pub sought_nowhere : r ≡ None → Ok None ≡ sought_of number (read file)
    sought_nowhere e =
        let none : assoc number s.ms ≡ F = subst (λ (x : Option ℕ). Finds x s.ms number) e finds in
        rw (s.reads, none)

    module _ (k : ℕ) (e : r ≡ Some k) where
      at : FoundAt s.ms number k
      at = subst (λ (x : Option ℕ). Finds x s.ms number) e finds

      pub sought_index : k < 128
      sought_index = omega (arith, part-within s k at.here, s.encodes.within.modules.count)

      pub sought_order : get_or places k 0 ≤ get_or places (k + 1) 0
      sought_order = omega (arith, part-next s k at.here)

      pub sought_at : there (get_or places k 0) (get_or places (k + 1) 0 - get_or places k 0) ≡ sought_of number (read file)
      sought_at =
          let within = part-within s k at.here in
          let front : take k s.ms ≡ ahead number s.ms
          = ap (λ (i : ℕ). take i s.ms) (sym at.placed) ∙ sym (ahead-taken number s.ms) in
          let start : get_or places k 0 ≡ length (each number_bytes (length s.ms ∷ each module_numbers (ahead number s.ms)))
          = s.begins k (omega arith) ∙ ap (λ (l : List Module). length (each number_bytes (length s.ms ∷ each module_numbers l))) front in
          let long : get_or places (k + 1) 0 - get_or places k 0 ≡ length (bytes_of at.m) = omega (arith, part-next s k at.here) in
          rw (s.reads, at.found) (ap₂ there start long)
