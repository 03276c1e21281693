-- Where the counts stand is on the desk.
use Prim.Native.Nat.{ℕ, suc, ◌+◌, ◌≤◌, ◌<◌}
use Rattle.std.proofs.Common.{arith, sym, ◌∙◌, length-append}
use Rattle.std.specs.Prelude.{◌≡◌, refl, Bool, true, false, List, [], ◌∷◌, ◌++◌, map}
use Rattle.std.proofs.Math.Path.{ap}
use Rattle.std.proofs.Math.ListN.{length}
use Rattle.meaning.specs.ListForm.{Name, ListedOccurrence, ListedModule, Part, sign, atom}
use Rattle.meaning.specs.ListReader.{Stage, list_due, modules, name_due, inputs_due, inputs, outputs_due, outputs, body_due, body, drives_due, drives, call_due, refers_due, takes, occurrence_end, module_end, Stand, start, at, finished, astray, next, ◌and◌, is_astray}
use Rattle.meaning.specs.ListNumbers.{position, number_among}
use Rattle.laws.specs.Texts.Sheets.{done, heading, ports, with_nets, with_body, occurred, sheet}
use Rattle.text_modes.specs.Modes.{mode_of}
use Rattle.text_desk.specs.Desk.{Desk, is_name}
use Rattle.text_desk.specs.On.{Laid, On}
use Rattle.text_desk.specs.Closing.{names_at, laid-now}

-- For `(`: the count of modules, and that of occurrences.
pub record Openable (mode : ℕ) (d : Desk) : Type 0 where
  pub first : mode ≡ 2 → 0 < length d.numbers
  pub body : mode ≡ 9 → d.body < length d.numbers

inside : (xs : List ℕ) (x : ℕ) (ys : List ℕ) (q : ℕ) → q ≡ length xs → q < length (xs ++ (x ∷ ys))
inside xs x ys q e = let l : _ = length-append xs (x ∷ ys) in omega arith

not-false : {A : Type 0} → false ≡ true → A
not-false e = absurd (let z : ◌≡◌ {A = ℕ} 0 1 = cc in omega arith)

module _ (d : Desk) (known heard : List Name) where
  elsewhere : (m : ℕ) → (m ≡ 2 → ⊥) → (m ≡ 9 → ⊥) → Openable m d
  elsewhere m f g = record { first = λ e. absurd (f e); body = λ e. absurd (g e) }

  at-modules : (ms : List ListedModule) → On (modules ms) d known heard → Openable 2 d
  unfolding sheet
  at-modules ms o =
      let l : length d.numbers ≡ suc (length (done (names_at (modules ms)) heard ms)) = ap length (laid-now (modules ms) d known heard o).numbers in
      record { first = λ e. omega arith; body = λ e. absurd (omega arith) }

  at_body : (ms : List ListedModule) (n : Name) (i o : List Name) (cs : List ListedOccurrence) → On (body ms n i o cs) d known heard → Openable 9 d
  unfolding sheet
  at_body ms n i o cs on =
      let h : Laid (names_at (body ms n i o cs)) heard (body ms n i o cs) d = laid-now (body ms n i o cs) d known heard on in
      record {
        first = λ e. absurd (omega arith);
        body = λ e. rw h.numbers
            (inside (ports (names_at (body ms n i o cs)) heard ms n i o) (length cs) (occurred (names_at (body ms n i o cs)) heard cs) d.body h.body);
      }

  pub openable : (s : Stage) → On s d known heard → Openable (mode_of (at s)) d
  openable list_due o = elsewhere 1 (λ e. omega arith) (λ e. omega arith)
  openable (modules ms) o = at-modules ms o
  openable (name_due ms) o = elsewhere 3 (λ e. omega arith) (λ e. omega arith)
  openable (inputs_due ms n) o = elsewhere 4 (λ e. omega arith) (λ e. omega arith)
  openable (inputs ms n i) o = elsewhere 5 (λ e. omega arith) (λ e. omega arith)
  openable (outputs_due ms n i) o = elsewhere 6 (λ e. omega arith) (λ e. omega arith)
  openable (outputs ms n i os) o = elsewhere 7 (λ e. omega arith) (λ e. omega arith)
  openable (body_due ms n i os) o = elsewhere 8 (λ e. omega arith) (λ e. omega arith)
  openable (body ms n i os cs) o = at_body ms n i os cs o
  openable (drives_due ms n i os cs) o = elsewhere 10 (λ e. omega arith) (λ e. omega arith)
  openable (drives ms n i os cs ds) o = elsewhere 11 (λ e. omega arith) (λ e. omega arith)
  openable (call_due ms n i os cs ds) o = elsewhere 12 (λ e. omega arith) (λ e. omega arith)
  openable (refers_due ms n i os cs ds) o = elsewhere 13 (λ e. omega arith) (λ e. omega arith)
  openable (takes ms n i os cs ds r t) o = elsewhere 14 (λ e. omega arith) (λ e. omega arith)
  openable (occurrence_end ms n i os cs ds r t) o = elsewhere 15 (λ e. omega arith) (λ e. omega arith)
  openable (module_end ms n i os cs) o = elsewhere 16 (λ e. omega arith) (λ e. omega arith)

  -- For a net: the count of its list.
  list-there : (ns ls : List Name) (xs : List ℕ) (l : List Name) → d.numbers ≡ with_nets ns ls xs l → d.list ≡ length xs → d.list < length d.numbers
  unfolding with_nets
  list-there ns ls xs l h e = rw h (inside xs (length l) (map (λ c. position c ls) l) d.list e)

  pub listable : (s : Stage) (a : Name) → is_astray (next s (atom a)) ≡ false → is_name (mode_of (at s)) ≡ false → On s d known heard
      → d.list < length d.numbers
  unfolding next sheet
  listable list_due a g e o = not-false (sym g)
  listable (modules ms) a g e o = not-false (sym g)
  listable (name_due ms) a g e o = not-false (sym e)
  listable (inputs_due ms n) a g e o = not-false (sym g)
  listable (inputs ms n i) a g e o =
      let h : Laid (names_at (inputs ms n i)) heard (inputs ms n i) d = laid-now (inputs ms n i) d known heard o in
      list-there (names_at (inputs ms n i)) heard (heading (names_at (inputs ms n i)) heard ms n) i h.numbers h.list
  listable (outputs_due ms n i) a g e o = not-false (sym g)
  listable (outputs ms n i os) a g e o =
      let h : Laid (names_at (outputs ms n i os)) heard (outputs ms n i os) d = laid-now (outputs ms n i os) d known heard o in
      list-there (names_at (outputs ms n i os)) heard _ os h.numbers h.list
  listable (body_due ms n i os) a g e o = not-false (sym g)
  listable (body ms n i os cs) a g e o = not-false (sym g)
  listable (drives_due ms n i os cs) a g e o = not-false (sym g)
  listable (drives ms n i os cs ds) a g e o =
      let h : Laid (names_at (drives ms n i os cs ds)) heard (drives ms n i os cs ds) d = laid-now (drives ms n i os cs ds) d known heard o in
      list-there (names_at (drives ms n i os cs ds)) heard _ ds h.numbers h.list
  listable (call_due ms n i os cs ds) a g e o = not-false (sym g)
  listable (refers_due ms n i os cs ds) a g e o = not-false (sym e)
  listable (takes ms n i os cs ds r t) a g e o =
      let h : Laid (names_at (takes ms n i os cs ds r t)) heard (takes ms n i os cs ds r t) d = laid-now (takes ms n i os cs ds r t) d known heard o in
      list-there (names_at (takes ms n i os cs ds r t)) heard _ t h.numbers h.list
  listable (occurrence_end ms n i os cs ds r t) a g e o = not-false (sym g)
  listable (module_end ms n i os cs) a g e o = not-false (sym g)
