-- The laws of the desk at any stand, by its mode.
use Rattle.std.specs.Prelude.{ℕ, ◌<◌, ◌≡◌, refl, true, false, List, [], ◌∷◌, ◌++◌, length}
use Rattle.std.proofs.Common.{arith, sym, ◌∙◌}
use Rattle.std.proofs.Math.Path.{ap}
use Rattle.meaning.specs.Layout.{each}
use Rattle.meaning.specs.ListForm.{Name, mark, opening, closing, sign, atom}
use Rattle.meaning.specs.ListReader.{Stage, list_due, modules, name_due, inputs_due, inputs, outputs_due, outputs, body_due, body, drives_due, drives, call_due, refers_due, takes, occurrence_end, module_end, Stand, start, at, finished, astray, next, step, is_astray}
use Rattle.meaning.specs.ListNumbers.{entered, each_name, position}
use Rattle.meaning.specs.ListCall.{over}
use Rattle.laws.specs.Texts.Sheets.{done, sheet}
use Rattle.text_modes.specs.Modes.{mode_of}
use Rattle.text_desk.specs.Desk.{Desk, opened, opened_over, is_name, with_name, with_net}
use Rattle.text_desk.specs.On.{On, Empty, Stands}
use Rattle.text_desk.specs.Signs.{heard_after, opening_on}
use Rattle.text_desk.specs.Closing.{closing-on, opening_over, closing-fine}
use Rattle.text_desk.specs.Atoms.{name-on, net-on}
use Rattle.text_desk.specs.Limits.{name_over, net_over, name-over, net-over}
use Rattle.text_desk.specs.Ready.{Openable, openable, listable}

not-false : {A : Type 0} → false ≡ true → A
not-false e = absurd (let z : ◌≡◌ {A = ℕ} 0 1 = cc in omega arith)

-- The quote mark is for the front only.
pub mark-stage : (s : Stage) → next s (sign mark) ≡ astray
unfolding next
mark-stage list_due = refl
mark-stage (modules ms) = refl
mark-stage (name_due ms) = refl
mark-stage (inputs_due ms n) = refl
mark-stage (inputs ms n i) = refl
mark-stage (outputs_due ms n i) = refl
mark-stage (outputs ms n i os) = refl
mark-stage (body_due ms n i os) = refl
mark-stage (body ms n i os cs) = refl
mark-stage (drives_due ms n i os cs) = refl
mark-stage (drives ms n i os cs ds) = refl
mark-stage (call_due ms n i os cs ds) = refl
mark-stage (refers_due ms n i os cs ds) = refl
mark-stage (takes ms n i os cs ds r t) = refl
mark-stage (occurrence_end ms n i os cs ds r t) = refl
mark-stage (module_end ms n i os cs) = refl

module _ (d : Desk) (known heard : List Name) where
  first-list : Empty d known heard → On (modules []) (opened 0 d) known heard
  unfolding sheet done each each_name entered
  first-list e =
      record {
        names = e.names;
        nets = e.nets;
        laid = λ ns ls b c. record { numbers = ap (λ l. l ++ (0 ∷ [])) e.numbers; list = tt; body = tt };
      }

  pub opening_stands : (s : Stand) → Stands s d known heard → Stands (step s (sign opening)) (opened (mode_of s) d) known heard
  opening_stands start o = first-list o
  opening_stands (at s) o = opening_on d known heard s o
  opening_stands (finished ms) o = tt
  opening_stands astray o = tt

  pub opening_exceeds : (s : Stand) → Stands s d known heard → over s (sign opening) ≡ opened_over (mode_of s) d
  opening_exceeds start o = refl
  opening_exceeds (at s) o = opening_over d known heard s o
  opening_exceeds (finished ms) o = refl
  opening_exceeds astray o = refl

  pub openable-stands : (s : Stand) → Stands s d known heard → Openable (mode_of s) d
  openable-stands start o = record { first = λ e. absurd (omega arith); body = λ e. absurd (omega arith) }
  openable-stands (at s) o = openable d known heard s o
  openable-stands (finished ms) o = record { first = λ e. absurd (omega arith); body = λ e. absurd (omega arith) }
  openable-stands astray o = record { first = λ e. absurd (omega arith); body = λ e. absurd (omega arith) }

  pub closing-stands : (s : Stand) → Stands s d known heard → Stands (step s (sign closing)) d known (heard_after (mode_of s) heard)
  closing-stands start o = tt
  closing-stands (at s) o = closing-on d known heard s o
  closing-stands (finished ms) o = tt
  closing-stands astray o = tt

  quoted : Empty d known heard → On list_due d known heard
  unfolding sheet entered
  quoted e =
      record { names = e.names; nets = e.nets; laid = λ ns ls b c. record { numbers = e.numbers; list = tt; body = tt } }

  pub mark-stands : (s : Stand) → Stands s d known heard → Stands (step s (sign mark)) d known heard
  mark-stands start o = quoted o
  mark-stands (at s) o = rw (mark-stage s) tt
  mark-stands (finished ms) o = tt
  mark-stands astray o = tt

  module _ (a : Name) where
    pub name-stands : (x : ℕ) → x ≡ position a (entered known (a ∷ [])) → (s : Stand) → is_name (mode_of s) ≡ true → Stands s d known heard
        → Stands (step s (atom a)) (with_name x d) (entered known (a ∷ [])) heard
    name-stands x is start e o = tt
    name-stands x is (at s) e o = name-on d known heard a x is s e o
    name-stands x is (finished ms) e o = tt
    name-stands x is astray e o = tt

    pub net-stands : (x : ℕ) → x ≡ position a (entered heard (a ∷ [])) → (s : Stand) → is_name (mode_of s) ≡ false → Stands s d known heard
        → Stands (step s (atom a)) (with_net x d) known (entered heard (a ∷ []))
    net-stands x is start e o = tt
    net-stands x is (at s) e o = net-on d known heard a x is s e o
    net-stands x is (finished ms) e o = tt
    net-stands x is astray e o = tt

    pub name-exceeds : (s : Stand) → is_name (mode_of s) ≡ true → Stands s d known heard → over s (atom a) ≡ name_over known a
    name-exceeds start e o = not-false e
    name-exceeds (at s) e o = name-over d known heard a s e o
    name-exceeds (finished ms) e o = not-false e
    name-exceeds astray e o = not-false e

    pub net-exceeds : (s : Stand) → is_astray (step s (atom a)) ≡ false → is_name (mode_of s) ≡ false → Stands s d known heard
        → over s (atom a) ≡ net_over d heard a
    net-exceeds start g e o = not-false (sym g)
    net-exceeds (at s) g e o = net-over d known heard a s g e o
    net-exceeds (finished ms) g e o = not-false (sym g)
    net-exceeds astray g e o = not-false (sym g)

    pub listable-stands : (s : Stand) → is_astray (step s (atom a)) ≡ false → is_name (mode_of s) ≡ false → Stands s d known heard
        → d.list < length d.numbers
    listable-stands start g e o = not-false (sym g)
    listable-stands (at s) g e o = listable d known heard s a g e o
    listable-stands (finished ms) g e o = not-false (sym g)
    listable-stands astray g e o = not-false (sym g)

-- No `)` and no mark is too much.
pub closing-never : (s : Stand) → over s (sign closing) ≡ false
closing-never start = refl
closing-never (at s) = closing-fine s
closing-never (finished ms) = refl
closing-never astray = refl

-- A mark that goes on stands in front of all.
pub mark-never : (s : Stand) → is_astray (step s (sign mark)) ≡ false → over s (sign mark) ≡ false
mark-never start e = refl
mark-never (at s) e = not-false (sym e ∙ ap is_astray (mark-stage s))
mark-never (finished ms) e = refl
mark-never astray e = refl
