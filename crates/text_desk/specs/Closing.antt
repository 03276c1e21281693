-- What `)` does: nothing is written, and what was read is complete. And the two counts that `(` may find full.
use Rattle.std.specs.Prelude.{ℕ, suc, ◌+◌, ◌≡◌, Bool, true, false, cond, length}
use Rattle.std.proofs.Math.Path.{refl, sym, ap}
use Rattle.std.proofs.Common.{◌∙◌}
use mathlib.Core.List.{List, [], ◌∷◌, ◌++◌, map, append-nil, append_assoc, map-append}
use Rattle.std.proofs.Math.Dec.{leb}
use Rattle.std.proofs.Math.ListN.{get_or}
use Rattle.std.proofs.Math.Seq.{get_or-append_seam}
use Rattle.meaning.specs.Layout.{file_numbers}
use Rattle.meaning.specs.ListForm.{Name, ListedOccurrence, ListedModule, Sign, mark, opening, closing, stray, Part, sign, atom}
use Rattle.meaning.specs.ListReader.{Stage, list_due, modules, name_due, inputs_due, inputs, outputs_due, outputs, body_due, body, drives_due, drives, call_due, refers_due, takes, occurrence_end, module_end, Stand, start, at, finished, astray, next, step, ◌and◌}
use Rattle.meaning.specs.ListNumbers.{gate_names, entered, each_name, nets_of, occurrence_nets, apart_from_gates, mentions, mentions_of, numbered, numbered_module}
use Rattle.meaning.specs.ListCall.{over_at, over}
use Rattle.laws.specs.Texts.Fitting.{each_append, each-one, listed, occurs}
use Rattle.laws.specs.Texts.Numbering.{Behind, behind-itself}
use Rattle.laws.specs.Texts.Sheets.{done, ports, with_body, occurred, sheet, occurrence-laid, module_laid, file-laid}
use Rattle.text_modes.specs.Modes.{mode_of}
use Rattle.text_desk.specs.Desk.{Desk, opened, opened_over}
use Rattle.text_desk.specs.Known.{behind-gates}
use Rattle.text_desk.specs.On.{mentioned_at, nets_at, Laid, On, Empty, Stands}
use Rattle.text_desk.specs.Signs.{heard_after}

-- The names known, without the gates.
abbrev pub names_at : Stage → List Name
names_at s = entered [] (apart_from_gates (mentioned_at s))

pub known_is : (known mentioned : List Name) → known ≡ entered gate_names mentioned → known ≡ gate_names ++ entered [] (apart_from_gates mentioned)
known_is known mentioned e = e ∙ ap (λ g. entered g mentioned) (sym (append-nil gate_names)) ∙ behind-gates [] mentioned

pub laid-now : (s : Stage) (d : Desk) (known heard : List Name) → On s d known heard → Laid (names_at s) heard s d
laid-now s d known heard o =
    o.laid (names_at s) heard
    (record { new = []; is = sym (known_is known (mentioned_at s) o.names) ∙ sym (append-nil known) })
    (behind-itself heard)

module _ (d : Desk) (known heard : List Name) where
  abbrev Closed : Stage → Type 0
  Closed s = On s d known heard → Stands (next s (sign closing)) d known (heard_after (mode_of (at s)) heard)

  close-list : (ms : List ListedModule) → Closed (modules ms)
  unfolding next numbered mentions
  close-list ms o = (laid-now (modules ms) d known heard o).numbers ∙ file-laid (entered [] (mentions ms)) heard ms

  module _ (ms : List ListedModule) (n : Name) (i o : List Name) where
    close-inputs : Closed (inputs ms n i)
    unfolding next sheet
    close-inputs on =
        record {
          names = on.names;
          nets = on.nets;
          laid = λ ns ls b c. record { numbers = (on.laid ns ls b c).numbers; list = tt; body = tt };
        }

    close-outputs : Closed (outputs ms n i o)
    unfolding next sheet
    close-outputs on =
        record {
          names = on.names;
          nets = on.nets;
          laid = λ ns ls b c. record { numbers = (on.laid ns ls b c).numbers; list = tt; body = tt };
        }

    module _ (cs : List ListedOccurrence) where
      close-body : Closed (body ms n i o cs)
      unfolding next sheet
      close-body on =
          record {
            names = on.names;
            nets = on.nets;
            laid = λ ns ls b c. record { numbers = (on.laid ns ls b c).numbers; list = tt; body = tt };
          }

      close-drives : (ds : List Name) → Closed (drives ms n i o cs ds)
      unfolding next sheet
      close-drives ds on =
          record {
            names = on.names;
            nets = on.nets;
            laid = λ ns ls b c.
                let h : Laid ns ls (drives ms n i o cs ds) d = on.laid ns ls b c in
                record { numbers = h.numbers; list = tt; body = h.body };
          }

      close-takes : (ds : List Name) (r : Name) (t : List Name) → Closed (takes ms n i o cs ds r t)
      unfolding next sheet
      close-takes ds r t on =
          record {
            names = on.names;
            nets = on.nets;
            laid = λ ns ls b c.
                let h : Laid ns ls (takes ms n i o cs ds r t) d = on.laid ns ls b c in
                record { numbers = h.numbers; list = tt; body = h.body };
          }

      close-occurrence : (ds : List Name) (r : Name) (t : List Name) → Closed (occurrence_end ms n i o cs ds r t)
      unfolding next sheet
      close-occurrence ds r t on =
          record {
            names = on.names ∙ ap (entered gate_names) mentioned;
            nets = on.nets ∙ ap (entered []) nets;
            laid = λ ns ls b c.
                let h : Laid ns ls (occurrence_end ms n i o cs ds r t) d = on.laid ns ls b c in
                record { numbers = h.numbers ∙ occurrence-laid ns ls (ports ns ls ms n i o) cs (occurs ds r t); list = tt; body = h.body };
          }
        where
          mentioned : mentioned_at (occurrence_end ms n i o cs ds r t) ≡ mentioned_at (body ms n i o (cs and occurs ds r t))
          mentioned = simp (append_assoc, map-append)

          nets : nets_at (occurrence_end ms n i o cs ds r t) ≡ nets_at (body ms n i o (cs and occurs ds r t))
          nets = simp (append_assoc, each_append, each-one)

      close_module : Closed (module_end ms n i o cs)
      unfolding next sheet done entered nets_of
      close_module on =
          record {
            names = on.names ∙ ap (entered gate_names) mentioned;
            nets = refl;
            laid = λ ns ls b c.
                let h : Laid ns heard (module_end ms n i o cs) d = on.laid ns heard b (behind-itself heard) in
                record { numbers = h.numbers ∙ module_laid ns heard ms n i o cs on.nets; list = tt; body = tt };
          }
        where
          mentioned : mentioned_at (module_end ms n i o cs) ≡ mentioned_at (modules (ms and listed n i o cs))
          mentioned = simp (each_append, each-one)

  pub closing-on : (s : Stage) → On s d known heard → Stands (next s (sign closing)) d known (heard_after (mode_of (at s)) heard)
  unfolding next
  closing-on list_due o = tt
  closing-on (modules ms) o = close-list ms o
  closing-on (name_due ms) o = tt
  closing-on (inputs_due ms n) o = tt
  closing-on (inputs ms n i) o = close-inputs ms n i [] o
  closing-on (outputs_due ms n i) o = tt
  closing-on (outputs ms n i os) o = close-outputs ms n i os o
  closing-on (body_due ms n i os) o = tt
  closing-on (body ms n i os cs) o = close-body ms n i os cs o
  closing-on (drives_due ms n i os cs) o = tt
  closing-on (drives ms n i os cs ds) o = close-drives ms n i os cs ds o
  closing-on (call_due ms n i os cs ds) o = tt
  closing-on (refers_due ms n i os cs ds) o = tt
  closing-on (takes ms n i os cs ds r t) o = close-takes ms n i os cs ds r t o
  closing-on (occurrence_end ms n i os cs ds r t) o = close-occurrence ms n i os cs ds r t o
  closing-on (module_end ms n i os cs) o = close_module ms n i os cs o

  -- `(` is too much where the count of modules or of occurrences is full.
  pub opening_over : (s : Stage) → On s d known heard → over_at s (sign opening) ≡ opened_over (mode_of (at s)) d
  unfolding over_at sheet
  opening_over list_due o = refl
  opening_over (modules ms) o = ap (λ l. leb 128 (get_or l 0 0)) (sym (laid-now (modules ms) d known heard o).numbers)
  opening_over (name_due ms) o = refl
  opening_over (inputs_due ms n) o = refl
  opening_over (inputs ms n i) o = refl
  opening_over (outputs_due ms n i) o = refl
  opening_over (outputs ms n i os) o = refl
  opening_over (body_due ms n i os) o = refl
  opening_over (body ms n i os cs) o =
      let h : Laid (names_at (body ms n i os cs)) heard (body ms n i os cs) d = laid-now (body ms n i os cs) d known heard o in
      sym (ap (leb 4096)
      (ap (λ l. get_or l d.body 0) h.numbers
      ∙ ap (λ q. get_or (sheet (names_at (body ms n i os cs)) heard (body ms n i os cs)) q 0) h.body
      ∙ get_or-append_seam (ports (names_at (body ms n i os cs)) heard ms n i os) (length cs) (occurred (names_at (body ms n i os cs)) heard cs) 0))
  opening_over (drives_due ms n i os cs) o = refl
  opening_over (drives ms n i os cs ds) o = refl
  opening_over (call_due ms n i os cs ds) o = refl
  opening_over (refers_due ms n i os cs ds) o = refl
  opening_over (takes ms n i os cs ds r t) o = refl
  opening_over (occurrence_end ms n i os cs ds r t) o = refl
  opening_over (module_end ms n i os cs) o = refl

-- No other sign is ever too much.
pub closing-fine : (s : Stage) → over_at s (sign closing) ≡ false
unfolding over_at
closing-fine list_due = refl
closing-fine (modules ms) = refl
closing-fine (name_due ms) = refl
closing-fine (inputs_due ms n) = refl
closing-fine (inputs ms n i) = refl
closing-fine (outputs_due ms n i) = refl
closing-fine (outputs ms n i os) = refl
closing-fine (body_due ms n i os) = refl
closing-fine (body ms n i os cs) = refl
closing-fine (drives_due ms n i os cs) = refl
closing-fine (drives ms n i os cs ds) = refl
closing-fine (call_due ms n i os cs ds) = refl
closing-fine (refers_due ms n i os cs ds) = refl
closing-fine (takes ms n i os cs ds r t) = refl
closing-fine (occurrence_end ms n i os cs ds r t) = refl
closing-fine (module_end ms n i os cs) = refl
