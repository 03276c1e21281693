-- Occurrences and modules: under one list of good names their text determines them.
use Rattle.std.specs.Prelude.{ℕ, suc}
use Rattle.std.proofs.Math.Path.{◌≡◌, refl}
use Rattle.std.proofs.Common.{sym, ◌∙◌, arith}
use mathlib.Core.List.{List, [], ◌∷◌, ◌++◌, append_assoc}
use Rattle.meaning.specs.Lists.{All, none, more}
use Rattle.meaning.specs.Syntax.{Occurrence, Module}
use Rattle.meaning.specs.Ceilings.{OccurrenceWithin, ModuleWithin}
use Rattle.meaning.specs.Layout.{each}
use Rattle.meaning.specs.Listing.{decimal}
use Rattle.meaning.specs.Ndl.{reference_text, nets_text, line_end, keyword_line, occurrence_text, occurrences_text, module_word, inputs_word, outputs_word, define_lines, end_module_lines, module_text, end_lines}
use Rattle.laws.specs.Ndl.Spans.{Stops, stops, cut_word}
use Rattle.laws.specs.Ndl.Numerals.{cut-number}
use Rattle.laws.specs.Ndl.Names.{GoodNames}
use Rattle.laws.specs.Ndl.References.{cut-reference}
use Rattle.laws.specs.Ndl.Nets.{cut-bracketed, cut_line}

-- Equal parts make equal wholes.
equal-occurrences : {d d' t t' : List ℕ} {n n' : ℕ} → d ≡ d' → n ≡ n' → t ≡ t'
    → ◌≡◌ {A = Occurrence} (record { drives = d; refers = n; takes = t }) (record { drives = d'; refers = n'; takes = t' })
equal-occurrences a b c = cc

equal-modules : {n n' : ℕ} {i i' o o' : List ℕ} {os os' : List Occurrence} → n ≡ n' → i ≡ i' → o ≡ o' → os ≡ os'
    → ◌≡◌ {A = Module} (record { number = n; inputs = i; outputs = o; occurrences = os }) (record { number = n'; inputs = i'; outputs = o'; occurrences = os' })
equal-modules a b c d = cc

module _ {names : List ℕ} (g : GoodNames names) where
  -- An occurrence's text with what is behind it, from each part on.
  abbrev from_takes : Occurrence → List ℕ → List ℕ
  from_takes o r = nets_text o.takes ++ (41 ∷ (line_end ++ r))

  abbrev from_refers : Occurrence → List ℕ → List ℕ
  from_refers o r = reference_text names o.refers ++ (40 ∷ from_takes o r)

  abbrev from_drives : Occurrence → List ℕ → List ℕ
  from_drives o r = nets_text o.drives ++ (41 ∷ 32 ∷ 61 ∷ 32 ∷ from_refers o r)

  abbrev front : ℕ → List ℕ
  front position = 71 ∷ (decimal position ++ (40 ∷ []))

  by_parts : (position : ℕ) (o : Occurrence) (r : List ℕ) → occurrence_text names position o ++ r ≡ front position ++ from_drives o r
  unfolding occurrence_text
  by_parts position o r = simp append_assoc

  cut-occurrence : (position : ℕ) (o p : Occurrence) (r s : List ℕ) → OccurrenceWithin o → OccurrenceWithin p
      → occurrence_text names position o ++ r ≡ occurrence_text names position p ++ s → (o ≡ p) × (r ≡ s)
  cut-occurrence position o p r s w v same =
      let whole : from_drives o r ≡ from_drives p s =
      cut_word (front position) (sym (by_parts position o r) ∙ same ∙ by_parts position p s) in
      let one = cut-bracketed o.drives p.drives w.drives.numbers v.drives.numbers whole in
      let onward : from_refers o r ≡ from_refers p s = cut_word (32 ∷ 61 ∷ 32 ∷ []) one.1 in
      let two = cut-reference g o.refers p.refers w.refers v.refers (stops (from_takes o r) refl) (stops (from_takes p s) refl) onward in
      let further : from_takes o r ≡ from_takes p s = cut_word (40 ∷ []) two.1 in
      let three = cut-bracketed o.takes p.takes w.takes.numbers v.takes.numbers further in
      (equal-occurrences one.0 two.0 three.0, cut_word line_end three.1)

  -- A G begins an occurrence, an E what is behind the last.
  cut-occurrences : (position : ℕ) (os ps : List Occurrence) {r s : List ℕ} → All OccurrenceWithin os → All OccurrenceWithin ps
      → occurrences_text names position os ++ (69 ∷ r) ≡ occurrences_text names position ps ++ (69 ∷ s) → (os ≡ ps) × (69 ∷ r ≡ 69 ∷ s)
  unfolding occurrences_text occurrence_text
  cut-occurrences position [] [] w v same = (refl, same)
  cut-occurrences position [] (p ∷ ps) w v same = let z : ◌≡◌ {A = ℕ} 69 71 = cc in absurd (omega arith)
  cut-occurrences position (o ∷ os) [] w v same = let z : ◌≡◌ {A = ℕ} 69 71 = cc in absurd (omega arith)
  cut-occurrences position (o ∷ os) (p ∷ ps) {r} {s} (more w ws) (more v vs) same =
      let cut = cut-occurrence position o p (occurrences_text names (suc position) os ++ (69 ∷ r)) (occurrences_text names (suc position) ps ++ (69 ∷ s)) w v
      (sym (append_assoc (occurrence_text names position o) _ _) ∙ same ∙ append_assoc (occurrence_text names position p) _ _) in
      let on = cut-occurrences (suc position) os ps ws vs cut.1 in
      let heads : o ≡ p = cut.0 in
      let tails : os ≡ ps = on.0 in
      (cc, on.1)

  -- The same for a module.
  abbrev from_body : Module → List ℕ → List ℕ
  from_body m r = occurrences_text names 0 m.occurrences ++ (end_module_lines ++ r)

  abbrev from_outputs : Module → List ℕ → List ℕ
  from_outputs m r = keyword_line outputs_word m.outputs ++ (define_lines ++ from_body m r)

  abbrev from_inputs : Module → List ℕ → List ℕ
  from_inputs m r = keyword_line inputs_word m.inputs ++ from_outputs m r

  abbrev from_number : Module → List ℕ → List ℕ
  from_number m r = decimal m.number ++ (line_end ++ from_inputs m r)

  module_by-parts : (m : Module) (r : List ℕ) → module_text names m ++ r ≡ (module_word ++ (77 ∷ [])) ++ from_number m r
  unfolding module_text
  module_by-parts m r = simp append_assoc

  cut_module : (m n : Module) (r s : List ℕ) → ModuleWithin m → ModuleWithin n
      → module_text names m ++ r ≡ module_text names n ++ s → (m ≡ n) × (r ≡ s)
  cut_module m n r s w v same =
      let whole : from_number m r ≡ from_number n s =
      cut_word (module_word ++ (77 ∷ [])) (sym (module_by-parts m r) ∙ same ∙ module_by-parts n s) in
      let one = cut-number m.number n.number w.number v.number (stops _ refl) (stops _ refl) whole in
      let two = cut_line inputs_word m.inputs n.inputs w.inputs.numbers v.inputs.numbers (cut_word line_end one.1) in
      let three = cut_line outputs_word m.outputs n.outputs w.outputs.numbers v.outputs.numbers two.1 in
      let four = cut-occurrences 0 m.occurrences n.occurrences w.occurrences v.occurrences (cut_word define_lines three.1) in
      (equal-modules one.0 two.0 three.0 four.0, cut_word end_module_lines four.1)

  -- An M begins a module, an E what is behind the last.
  pub cut-modules : (ms ns : List Module) → All ModuleWithin ms → All ModuleWithin ns
      → each (module_text names) ms ++ end_lines ≡ each (module_text names) ns ++ end_lines → ms ≡ ns
  unfolding each module_text
  cut-modules [] [] w v same = refl
  cut-modules [] (n ∷ ns) w v same = let z : ◌≡◌ {A = ℕ} 69 77 = cc in absurd (omega arith)
  cut-modules (m ∷ ms) [] w v same = let z : ◌≡◌ {A = ℕ} 69 77 = cc in absurd (omega arith)
  cut-modules (m ∷ ms) (n ∷ ns) (more w ws) (more v vs) same =
      let cut = cut_module m n (each (module_text names) ms ++ end_lines) (each (module_text names) ns ++ end_lines) w v
      (sym (append_assoc (module_text names m) _ _) ∙ same ∙ append_assoc (module_text names n) _ _) in
      let tails : ms ≡ ns = cut-modules ms ns ws vs cut.1 in
      let heads : m ≡ n = cut.0 in
      cc
