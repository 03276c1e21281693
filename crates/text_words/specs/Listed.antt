-- What is found in a text is what it lists: the name of a module, and the atoms of an occurrence.
use Rattle.std.specs.Prelude.{ℕ, ◌<◌, ◌≡◌, refl, List, [], ◌∷◌, ◌++◌, map, length}
use Rattle.std.proofs.Common.{arith, sym, ◌∙◌, ap, subst, append_assoc}
use Rattle.meaning.specs.ListForm.{Name, ListedOccurrence, ListedModule, opening, closing, Part, sign, atom, in_brackets, parts_of, net_parts, occurrence_parts, module_parts, list_parts, Written, Lists, plain, quoted}
use Rattle.meaning.specs.ListCall.{word}
use Rattle.text_words.specs.Seeking.{atom_from, module_from, occurrence_from}
use Rattle.text_words.specs.Brackets.{behind_parts, parts-behind, Passed, pass_both, pass_atom, pass_atoms, pass_each, opened, over-list, pass_list, in_order}
use Rattle.text_words.specs.Atoms.{atoms_in, atom-found}

-- What stands inside the brackets of an occurrence and of a module.
abbrev inside_occurrence : ListedOccurrence → List Part
inside_occurrence o = net_parts o.drives ++ in_brackets (atom o.refers ∷ map atom o.takes)

abbrev inside_module : ListedModule → List Part
inside_module m =
    atom m.name ∷ (net_parts m.inputs ++ (net_parts m.outputs ++ in_brackets (parts_of occurrence_parts m.occurrences)))

-- The search for a list of a lower level passes all of it.
module _ (level low : ℕ) (above : level < low) where
  pass_nets : (names : List Name) → Passed level low (net_parts names)
  unfolding net_parts
  pass_nets names = pass_list level low above (pass_atoms level low names)

  pass_occurrence : (o : ListedOccurrence) → Passed level low (inside_occurrence o)
  pass_occurrence o =
      pass_both level low (pass_nets o.drives)
      (pass_list level low above (pass_atom level low o.refers (pass_atoms level low o.takes)))

  pass_body : (os : List ListedOccurrence) → Passed level low (parts_of occurrence_parts os)
  unfolding occurrence_parts
  pass_body os = pass_each level low occurrence_parts (λ o. pass_list level low above (pass_occurrence o)) os

  pass_module : (m : ListedModule) → Passed level low (inside_module m)
  pass_module m =
      pass_atom level low m.name
      (pass_both level low (pass_nets m.inputs)
      (pass_both level low (pass_nets m.outputs) (pass_list level low above (pass_body m.occurrences))))

-- The module that is found.
module_behind : (before : List ListedModule) (m : ListedModule) (later : List ListedModule)
    → behind_parts 1 0 (length before) (list_parts (before ++ (m ∷ later)))
    ≡ inside_module m ++ (sign closing ∷ (parts_of module_parts later ++ (sign closing ∷ [])))
unfolding list_parts module_parts in_brackets
module_behind before m later =
    opened 1 0 (length before) (parts_of module_parts (before ++ (m ∷ later)) ++ (sign closing ∷ [])) (λ e. omega arith)
    ∙ in_order 1 inside_module (pass_module 1 2 (omega arith)) before m later (sign closing ∷ [])

-- Its nets at the ends stand in lists that have no lists inside.
over-nets : (more : ℕ) (names : List Name) (qs : List Part) → behind_parts 3 2 more (net_parts names ++ qs) ≡ behind_parts 3 2 more qs
unfolding net_parts
over-nets more names qs = over-list 3 0 2 more qs (λ e. omega arith) (omega arith) (pass_atoms 3 0 names)

-- The occurrence that is found in it.
occurrence-behind : (m : ListedModule) (before : List ListedOccurrence) (o : ListedOccurrence) (later : List ListedOccurrence) (rest : List Part)
    → m.occurrences ≡ before ++ (o ∷ later)
    → behind_parts 3 2 (length before) (inside_module m ++ rest)
    ≡ inside_occurrence o ++ (sign closing ∷ (parts_of occurrence_parts later ++ (sign closing ∷ rest)))
unfolding behind_parts occurrence_parts in_brackets
occurrence-behind m before o later rest e =
    ap (behind_parts 3 2 count)
    (append_assoc (net_parts m.inputs) (net_parts m.outputs ++ body) rest
    ∙ ap (λ ps. net_parts m.inputs ++ ps) (append_assoc (net_parts m.outputs) body rest))
    ∙ over-nets count m.inputs (net_parts m.outputs ++ (body ++ rest))
    ∙ over-nets count m.outputs (body ++ rest)
    ∙ opened 3 2 count ((parts_of occurrence_parts m.occurrences ++ (sign closing ∷ [])) ++ rest) (λ e. omega arith)
    ∙ ap (behind_parts 3 3 count) (append_assoc (parts_of occurrence_parts m.occurrences) (sign closing ∷ []) rest)
    ∙ ap (λ os. behind_parts 3 3 count (parts_of occurrence_parts os ++ (sign closing ∷ rest))) e
    ∙ in_order 3 inside_occurrence (pass_occurrence 3 4 (omega arith)) before o later (sign closing ∷ rest)
  where
    count : ℕ
    count = length before

    body : List Part
    body = in_brackets (parts_of occurrence_parts m.occurrences)

-- The quote mark changes nothing.
found_in : {text : List ℕ} {ms : List ListedModule} (position : ℕ) → Lists text ms → Written (behind_parts 1 0 position (list_parts ms)) (module_from position text)
unfolding behind_parts
found_in position (plain w) = parts-behind 1 0 position w
found_in position (quoted w) = parts-behind 1 0 position w

module_written : {text : List ℕ} (before : List ListedModule) (m : ListedModule) (later : List ListedModule) → Lists text (before ++ (m ∷ later))
    → Written (inside_module m ++ (sign closing ∷ (parts_of module_parts later ++ (sign closing ∷ [])))) (module_from (length before) text)
module_written {text} before m later l =
    subst (λ ps. Written ps (module_from (length before) text)) (module_behind before m later) (found_in (length before) l)

-- The first atom behind the bracket of a module is its name.
pub name-found : {text : List ℕ} (before : List ListedModule) (m : ListedModule) (later : List ListedModule) → Lists text (before ++ (m ∷ later))
    → word (atom_from 0 (module_from (length before) text)) ≡ m.name
unfolding atoms_in
name-found before m later l = atom-found [] m.name _ (module_written before m later l) refl

atoms_all : (names : List Name) (qs : List Part) → atoms_in (map atom names ++ qs) ≡ names ++ atoms_in qs
unfolding atoms_in
atoms_all [] qs = refl
atoms_all (a ∷ names) qs = ap (λ as'. a ∷ as') (atoms_all names qs)

-- The atoms of an occurrence, as they stand: the nets that it drives, the name that it refers to, its arguments.
abbrev pub occurrence_atoms : ListedOccurrence → List Name
occurrence_atoms o = o.drives ++ (o.refers ∷ o.takes)

atoms_of : (o : ListedOccurrence) (rest : List Part) → atoms_in (inside_occurrence o ++ rest) ≡ occurrence_atoms o ++ atoms_in rest
unfolding atoms_in net_parts in_brackets
atoms_of o rest =
    ap atoms_in (append_assoc (net_parts o.drives) call rest ∙ ap (λ ps. sign opening ∷ ps) (append_assoc (map atom o.drives) (sign closing ∷ []) (call ++ rest)))
    ∙ atoms_all o.drives (sign closing ∷ (call ++ rest))
    ∙ ap (λ as'. o.drives ++ (o.refers ∷ as'))
    (ap atoms_in (append_assoc (map atom o.takes) (sign closing ∷ []) rest) ∙ atoms_all o.takes (sign closing ∷ rest))
    ∙ sym (append_assoc o.drives (o.refers ∷ o.takes) (atoms_in rest))
  where
    call : List Part
    call = in_brackets (atom o.refers ∷ map atom o.takes)

-- An atom that is found by its count in an occurrence is that atom of it.
pub occurrence-found : {text : List ℕ} (before : List ListedModule) (m : ListedModule) (later : List ListedModule)
    (earlier : List ListedOccurrence) (o : ListedOccurrence) (others : List ListedOccurrence) (front : List Name) (a : Name) (rest : List Name)
    → Lists text (before ++ (m ∷ later)) → m.occurrences ≡ earlier ++ (o ∷ others) → occurrence_atoms o ≡ front ++ (a ∷ rest)
    → word (atom_from (length front) (occurrence_from (length before) (length earlier) text)) ≡ a
occurrence-found {text} before m later earlier o others front a rest l e is =
    atom-found front a (rest ++ atoms_in tail) (subst (λ ps. Written ps here) (occurrence-behind m earlier o others outside e) (parts-behind 3 2 (length earlier) (module_written before m later l)))
    (atoms_of o tail ∙ ap (λ as'. as' ++ atoms_in tail) is ∙ append_assoc front (a ∷ rest) (atoms_in tail))
  where
    outside : List Part
    outside = sign closing ∷ (parts_of module_parts later ++ (sign closing ∷ []))

    tail : List Part
    tail = sign closing ∷ (parts_of occurrence_parts others ++ (sign closing ∷ outside))

    here : List ℕ
    here = occurrence_from (length before) (length earlier) text
