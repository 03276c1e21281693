-- The numbers of the file as they stand while the text is read: a list's count is written when it opens and raised with each entry, so
-- that at every stage the sheet is the file of what was read. `names` are the module names known, `nets` those of the module.
use Prim.Native.Nat.{ℕ, zero, suc, ◌+◌}
use Rattle.std.proofs.Common.{arith, sym, ◌∙◌, append-nil, append_assoc}
use Rattle.std.specs.Prelude.{◌≡◌, refl, List, [], ◌∷◌, ◌++◌, map, set}
use Rattle.std.proofs.Math.Path.{ap}
use Rattle.std.proofs.lemmas.List.{map-append}
use Rattle.std.proofs.Math.ListN.{length, length-append, length-map}
use Rattle.meaning.specs.Syntax.{Occurrence, Module}
use Rattle.meaning.specs.Layout.{each, occurrence_numbers, module_numbers, file_numbers}
use Rattle.laws.specs.Lists.{each_append}
use Rattle.meaning.specs.ListForm.{Name, ListedOccurrence, ListedModule}
use Rattle.meaning.specs.ListReader.{Stage, list_due, modules, name_due, inputs_due, inputs, outputs_due, outputs, body_due, body, drives_due, drives, call_due, refers_due, takes, occurrence_end, module_end, ◌and◌}
use Rattle.meaning.specs.ListNumbers.{position, entered, nets_of, number_among, numbered_occurrence, numbered_with, numbered_module, numbered, mentions}

module _ (names nets : List Name) where
  unfoldable pub done : List ListedModule → List ℕ
  done ms = each module_numbers (map (numbered_module names) ms)

  unfoldable pub occurred : List ListedOccurrence → List ℕ
  occurred cs = each occurrence_numbers (map (numbered_occurrence names nets) cs)

  -- A list of nets behind what stands already: its count and their numbers.
  unfoldable pub with_nets : List ℕ → List Name → List ℕ
  with_nets xs l = xs ++ (length l ∷ map (λ a. position a nets) l)

  abbrev pub heading : List ListedModule → Name → List ℕ
  heading ms n = (suc (length ms) ∷ done ms) and number_among names n

  abbrev pub ports : List ListedModule → Name → (i o : List Name) → List ℕ
  ports ms n i o = with_nets (with_nets (heading ms n) i) o

  -- The occurrences read, and the count that stands for them.
  abbrev pub with_body : List ℕ → (count : ℕ) → List ListedOccurrence → List ℕ
  with_body xs count cs = xs ++ (count ∷ occurred cs)

  abbrev pub called : List ℕ → List Name → Name → List Name → List ℕ
  called xs d r t = with_nets (with_nets xs d and number_among names r) t

  unfoldable pub sheet : Stage → List ℕ
  sheet list_due = []
  sheet (modules ms) = length ms ∷ done ms
  sheet (name_due ms) = suc (length ms) ∷ done ms
  sheet (inputs_due ms n) = with_nets (heading ms n) []
  sheet (inputs ms n i) = with_nets (heading ms n) i
  sheet (outputs_due ms n i) = with_nets (heading ms n) i
  sheet (outputs ms n i o) = ports ms n i o
  sheet (body_due ms n i o) = ports ms n i o
  sheet (body ms n i o cs) = with_body (ports ms n i o) (length cs) cs
  sheet (drives_due ms n i o cs) = with_body (ports ms n i o) (suc (length cs)) cs
  sheet (drives ms n i o cs d) = with_nets (with_body (ports ms n i o) (suc (length cs)) cs) d
  sheet (call_due ms n i o cs d) = with_nets (with_body (ports ms n i o) (suc (length cs)) cs) d
  sheet (refers_due ms n i o cs d) = with_nets (with_body (ports ms n i o) (suc (length cs)) cs) d
  sheet (takes ms n i o cs d r t) = called (with_body (ports ms n i o) (suc (length cs)) cs) d r t
  sheet (occurrence_end ms n i o cs d r t) = called (with_body (ports ms n i o) (suc (length cs)) cs) d r t
  sheet (module_end ms n i o cs) = with_body (ports ms n i o) (length cs) cs

pub set-behind : (xs : List ℕ) (x y : ℕ) (ys : List ℕ) → set (xs ++ (x ∷ ys)) (length xs) y ≡ xs ++ (y ∷ ys)
set-behind [] x y ys = refl
set-behind (z ∷ xs) x y ys = ap (λ r. z ∷ r) (set-behind xs x y ys)

module _ (names nets : List Name) where
  -- A net more: its list's count is raised, and its number comes behind all.
  pub net-laid : (xs : List ℕ) (l : List Name) (a : Name)
      → with_nets names nets xs (l and a) ≡ set (with_nets names nets xs l) (length xs) (length l + 1) and position a nets
  unfolding with_nets
  net-laid xs l a =
      rw (set-behind xs (length l) (length l + 1) (map (λ a. position a nets) l))
      (simp (map-append, length-append, append_assoc))

  -- An occurrence begins: the count of occurrences is raised.
  pub occurrence-begun : (xs : List ℕ) (cs : List ListedOccurrence)
      → with_body names nets xs (suc (length cs)) cs ≡ set (with_body names nets xs (length cs) cs) (length xs) (suc (length cs))
  occurrence-begun xs cs = sym (set-behind xs (length cs) (suc (length cs)) (occurred names nets cs))

  occurred-and : (cs : List ListedOccurrence) (c : ListedOccurrence)
      → occurred names nets (cs and c) ≡ occurred names nets cs ++ occurrence_numbers (numbered_occurrence names nets c)
  unfolding occurred each
  occurred-and cs c =
      ap (each occurrence_numbers) (map-append (numbered_occurrence names nets) cs (c ∷ []))
      ∙ each_append occurrence_numbers (map (numbered_occurrence names nets) cs) (numbered_occurrence names nets c ∷ [])
      ∙ ap (λ r. each occurrence_numbers (map (numbered_occurrence names nets) cs) ++ r) (append-nil (occurrence_numbers (numbered_occurrence names nets c)))

  done-and : (ms : List ListedModule) (m : ListedModule) → done names nets (ms and m) ≡ done names nets ms ++ module_numbers (numbered_module names m)
  unfolding done each
  done-and ms m =
      ap (each module_numbers) (map-append (numbered_module names) ms (m ∷ []))
      ∙ each_append module_numbers (map (numbered_module names) ms) (numbered_module names m ∷ [])
      ∙ ap (λ r. each module_numbers (map (numbered_module names) ms) ++ r) (append-nil (module_numbers (numbered_module names m)))

  numbers_of : (m : ListedModule) → nets ≡ entered [] (nets_of m) → module_numbers (numbered_module names m) ≡ module_numbers (numbered_with names nets m)
  unfolding numbered_module
  numbers_of m e = ap (λ k. module_numbers (numbered_with names k m)) (sym e)

  this : (ms : List ListedModule) (n : Name) (i o : List Name) (cs : List ListedOccurrence)
      → with_body names nets (ports names nets ms n i o) (length cs) cs
      ≡ suc (length ms) ∷ (done names nets ms ++ module_numbers (numbered_with names nets (record { name = n; inputs = i; outputs = o; occurrences = cs })))
  unfolding with_nets module_numbers occurred
  this ms n i o cs = simp (append_assoc, length-map)

  -- An occurrence ends: it stands behind the others.
  pub occurrence-laid : (xs : List ℕ) (cs : List ListedOccurrence) (c : ListedOccurrence)
      → called names nets (with_body names nets xs (suc (length cs)) cs) c.drives c.refers c.takes
      ≡ with_body names nets xs (length (cs and c)) (cs and c)
  unfolding with_nets occurrence_numbers
  occurrence-laid xs cs c =
      let one : length (cs and c) ≡ suc (length cs) = rw length-append (omega arith) in
      rw (one, occurred-and cs c) (simp (append_assoc, length-map))

  -- A module ends: it stands behind the others.
  pub module_laid : (ms : List ListedModule) (n : Name) (i o : List Name) (cs : List ListedOccurrence)
      → nets ≡ entered [] (nets_of (record { name = n; inputs = i; outputs = o; occurrences = cs }))
      → sheet names nets (module_end ms n i o cs)
      ≡ sheet names nets (modules (ms and record { name = n; inputs = i; outputs = o; occurrences = cs }))
  unfolding sheet
  module_laid ms n i o cs e =
      let m : ListedModule = record { name = n; inputs = i; outputs = o; occurrences = cs } in
      let one : length (ms and m) ≡ suc (length ms) = rw length-append (omega arith) in
      rw (one, done-and ms m, numbers_of m e) (this ms n i o cs)

  -- The last bracket: the sheet is the file.
  pub file-laid : (ms : List ListedModule) → sheet names nets (modules ms) ≡ file_numbers (map (numbered_module names) ms)
  unfolding sheet done file_numbers
  file-laid ms = rw length-map
