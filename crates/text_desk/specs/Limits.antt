-- When an atom is too much.
use Rattle.std.specs.Prelude.{ℕ, suc, ◌+◌, ◌≡◌, refl, Bool, true, false, not, ◌&&◌, ◌||◌, length}
use Rattle.std.proofs.Common.{arith, ◌∙◌}
use Rattle.std.proofs.Math.Path.{sym, ap}
use mathlib.Core.List.{List, [], ◌∷◌, ◌++◌, map}
use Rattle.std.proofs.Math.Dec.{leb}
use Rattle.std.proofs.Math.ListN.{get_or}
use Rattle.std.proofs.Math.Seq.{get_or-append_seam}
use Rattle.meaning.specs.ListForm.{Name, ListedOccurrence, ListedModule, Part, sign, atom}
use Rattle.meaning.specs.ListReader.{Stage, list_due, modules, name_due, inputs_due, inputs, outputs_due, outputs, body_due, body, drives_due, drives, call_due, refers_due, takes, occurrence_end, module_end, Stand, start, at, finished, astray, next, ◌and◌, is_astray}
use Rattle.meaning.specs.ListNumbers.{among, position, number_among}
use Rattle.meaning.specs.ListCall.{over_at, too_long}
use Rattle.laws.specs.Texts.Sheets.{heading, ports, with_nets, with_body, sheet}
use Rattle.text_modes.specs.Modes.{mode_of}
use Rattle.text_desk.specs.Desk.{Desk, is_name}
use Rattle.text_desk.specs.Known.{nets-full, names-full}
use Rattle.text_desk.specs.On.{mentioned_at, nets_at, Laid, On}
use Rattle.text_desk.specs.Closing.{names_at, laid-now}

-- No number is left for a name.
abbrev pub none_left : List Name → Name → Bool
none_left known a = not (among a known) && leb 16384 (length known)

abbrev pub name_over : List Name → Name → Bool
name_over known a = too_long a || none_left known a

abbrev pub net_over : Desk → List Name → Name → Bool
net_over d heard a = too_long a || leb 192 (get_or d.numbers d.list 0) || none_left heard a

not-false : {A : Type 0} → false ≡ true → A
not-false e = absurd (let z : ◌≡◌ {A = ℕ} 0 1 = cc in omega arith)

module _ (d : Desk) (known heard : List Name) (a : Name) where
  pub name-over : (s : Stage) → is_name (mode_of (at s)) ≡ true → On s d known heard → over_at s (atom a) ≡ name_over known a
  unfolding over_at
  name-over list_due e o = not-false e
  name-over (modules ms) e o = not-false e
  name-over (name_due ms) e o = ap (λ t. too_long a || t) (names-full (mentioned_at (name_due ms)) a known o.names)
  name-over (inputs_due ms n) e o = not-false e
  name-over (inputs ms n i) e o = not-false e
  name-over (outputs_due ms n i) e o = not-false e
  name-over (outputs ms n i os) e o = not-false e
  name-over (body_due ms n i os) e o = not-false e
  name-over (body ms n i os cs) e o = not-false e
  name-over (drives_due ms n i os cs) e o = not-false e
  name-over (drives ms n i os cs ds) e o = not-false e
  name-over (call_due ms n i os cs ds) e o = not-false e
  name-over (refers_due ms n i os cs ds) e o = ap (λ t. too_long a || t) (names-full (mentioned_at (refers_due ms n i os cs ds)) a known o.names)
  name-over (takes ms n i os cs ds r t) e o = not-false e
  name-over (occurrence_end ms n i os cs ds r t) e o = not-false e
  name-over (module_end ms n i os cs) e o = not-false e

  count-is : (ns ls : List Name) (xs : List ℕ) (l : List Name) → d.numbers ≡ with_nets ns ls xs l → d.list ≡ length xs
      → length l ≡ get_or d.numbers d.list 0
  unfolding with_nets
  count-is ns ls xs l h at-list =
      sym (ap (λ k. get_or k d.list 0) h ∙ ap (λ q. get_or (with_nets ns ls xs l) q 0) at-list
      ∙ get_or-append_seam xs (length l) (map (λ c. position c ls) l) 0)

  net-limit : (s : Stage) (l : List Name) → On s d known heard → length l ≡ get_or d.numbers d.list 0
      → (too_long a || leb 192 (length l) || not (among a heard) && leb 16384 (length heard)) ≡ net_over d heard a
  net-limit s l o e = ap (λ k. too_long a || leb 192 k || none_left heard a) e

  pub net-over : (s : Stage) → is_astray (next s (atom a)) ≡ false → is_name (mode_of (at s)) ≡ false → On s d known heard
      → over_at s (atom a) ≡ net_over d heard a
  unfolding over_at next sheet
  net-over list_due g e o = not-false (sym g)
  net-over (modules ms) g e o = not-false (sym g)
  net-over (name_due ms) g e o = not-false (sym e)
  net-over (inputs_due ms n) g e o = not-false (sym g)
  net-over (inputs ms n i) g e o =
      let h : Laid (names_at (inputs ms n i)) heard (inputs ms n i) d = laid-now (inputs ms n i) d known heard o in
      ap (λ t. too_long a || leb 192 (length i) || t) (nets-full (nets_at (inputs ms n i)) a heard o.nets)
      ∙ net-limit (inputs ms n i) i o (count-is (names_at (inputs ms n i)) heard (heading (names_at (inputs ms n i)) heard ms n) i h.numbers h.list)
  net-over (outputs_due ms n i) g e o = not-false (sym g)
  net-over (outputs ms n i os) g e o =
      let h : Laid (names_at (outputs ms n i os)) heard (outputs ms n i os) d = laid-now (outputs ms n i os) d known heard o in
      ap (λ t. too_long a || leb 192 (length os) || t) (nets-full (nets_at (outputs ms n i os)) a heard o.nets)
      ∙ net-limit (outputs ms n i os) os o (count-is (names_at (outputs ms n i os)) heard
      (with_nets (names_at (outputs ms n i os)) heard (heading (names_at (outputs ms n i os)) heard ms n) i) os h.numbers h.list)
  net-over (body_due ms n i os) g e o = not-false (sym g)
  net-over (body ms n i os cs) g e o = not-false (sym g)
  net-over (drives_due ms n i os cs) g e o = not-false (sym g)
  net-over (drives ms n i os cs ds) g e o =
      let h : Laid (names_at (drives ms n i os cs ds)) heard (drives ms n i os cs ds) d = laid-now (drives ms n i os cs ds) d known heard o in
      ap (λ t. too_long a || leb 192 (length ds) || t) (nets-full (nets_at (drives ms n i os cs ds)) a heard o.nets)
      ∙ net-limit (drives ms n i os cs ds) ds o (count-is (names_at (drives ms n i os cs ds)) heard
      (with_body (names_at (drives ms n i os cs ds)) heard (ports (names_at (drives ms n i os cs ds)) heard ms n i os) (suc (length cs)) cs) ds h.numbers h.list)
  net-over (call_due ms n i os cs ds) g e o = not-false (sym g)
  net-over (refers_due ms n i os cs ds) g e o = not-false (sym e)
  net-over (takes ms n i os cs ds r t) g e o =
      let ns : List Name = names_at (takes ms n i os cs ds r t) in
      let h : Laid (names_at (takes ms n i os cs ds r t)) heard (takes ms n i os cs ds r t) d = laid-now (takes ms n i os cs ds r t) d known heard o in
      ap (λ u. too_long a || leb 192 (length t) || u) (nets-full (nets_at (takes ms n i os cs ds r t)) a heard o.nets)
      ∙ net-limit (takes ms n i os cs ds r t) t o (count-is (names_at (takes ms n i os cs ds r t)) heard
      (with_nets (names_at (takes ms n i os cs ds r t)) heard (with_body (names_at (takes ms n i os cs ds r t)) heard (ports (names_at (takes ms n i os cs ds r t)) heard ms n i os) (suc (length cs)) cs) ds and number_among (names_at (takes ms n i os cs ds r t)) r) t h.numbers h.list)
  net-over (occurrence_end ms n i os cs ds r t) g e o = not-false (sym g)
  net-over (module_end ms n i os cs) g e o = not-false (sym g)
