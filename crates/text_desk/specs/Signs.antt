-- What a bracket does to the desk.
use Prim.Native.Nat.{ℕ, suc, ◌+◌, ◌≤◌, ◌<◌}
use Rattle.std.proofs.Common.{add-one, ◌∙◌, length-append}
use native.Mathlib.Omega.{arith}
use Rattle.std.specs.Prelude.{◌≡◌, refl, Bool, true, false, cond, eqb, leb}
use Rattle.std.proofs.Math.Path.{sym, ap}
use mathlib.Core.List.{List, [], ◌∷◌, ◌++◌, map, append-nil, append_assoc, map-append}
use Rattle.std.proofs.Math.ListN.{length, get_or, set}
use Rattle.std.proofs.Math.Seq.{get_or-append_seam}
use Rattle.meaning.specs.Layout.{each, file_numbers}
use Rattle.meaning.specs.ListForm.{Name, ListedOccurrence, ListedModule, Sign, mark, opening, closing, stray, Part, sign, atom}
use Rattle.meaning.specs.ListReader.{Stage, list_due, modules, name_due, inputs_due, inputs, outputs_due, outputs, body_due, body, drives_due, drives, call_due, refers_due, takes, occurrence_end, module_end, Stand, start, at, finished, astray, next, step, ◌and◌}
use Rattle.meaning.specs.ListNumbers.{gate_names, entered, each_name, nets_of, occurrence_nets, mentions, mentions_of, number_among, numbered, numbered_module}
use Rattle.meaning.specs.ListCall.{over_at, over, full}
use Rattle.laws.specs.Texts.Fitting.{each_append, each-one, listed, occurs}
use Rattle.laws.specs.Texts.Numbering.{Behind, behind-itself}
use Rattle.laws.specs.Texts.Sheets.{done, heading, ports, with_nets, with_body, occurred, called, sheet, occurrence-begun, occurrence-laid, module_laid, file-laid}
use Rattle.text_modes.specs.Modes.{mode_of}
use Rattle.text_desk.specs.Desk.{Desk, opened, opened_over}
use Rattle.text_desk.specs.Known.{behind-gates}
use Rattle.text_desk.specs.On.{mentioned_at, nets_at, ListAt, BodyAt, Laid, On, Empty, Stands}

-- `)` ends a module where its occurrences have ended (mode 16): the next one has nets of its own.
abbrev pub heard_after : ℕ → List Name → List Name
heard_after m heard = cond (eqb m 16) [] heard

-- The count that stands in front of a list.
count-there : (xs : List ℕ) (x : ℕ) (ys : List ℕ) (q : ℕ) → q ≡ length xs → get_or (xs ++ (x ∷ ys)) q 0 ≡ x
count-there xs x ys q e = ap (λ j. get_or (xs ++ (x ∷ ys)) j 0) e ∙ get_or-append_seam xs x ys 0

module _ (d : Desk) (known heard : List Name) where
  abbrev Opened : Stage → Type 0
  Opened s = On s d known heard → Stands (next s (sign opening)) (opened (mode_of (at s)) d) known heard

  -- The same numbers, with a list that begins.
  list-begun : (ns ls : List Name) (xs : List ℕ) → d.numbers ≡ xs → d.numbers ++ (0 ∷ []) ≡ with_nets ns ls xs []
  unfolding with_nets
  list-begun ns ls xs e = ap (λ l. l ++ (0 ∷ [])) e

  open_modules : (ms : List ListedModule) → Opened (modules ms)
  unfolding next sheet
  open_modules ms o =
      record {
        names = o.names;
        nets = o.nets;
        laid = λ ns ls b c.
            record {
              numbers = let one : length ms + 1 ≡ suc (length ms) = omega arith in
                  ap (λ l. set l 0 (get_or l 0 0 + 1)) (o.laid ns ls b c).numbers ∙ ap (λ k. k ∷ done ns ls ms) one;
              list = tt;
              body = tt;
            };
      }

  open_inputs : (ms : List ListedModule) (n : Name) → Opened (inputs_due ms n)
  unfolding next sheet
  open_inputs ms n o =
      record {
        names = o.names;
        nets = o.nets;
        laid = λ ns ls b c.
            let h : Laid ns ls (inputs_due ms n) d = o.laid ns ls b c in
            record { numbers = h.numbers; list = h.list; body = tt };
      }

  open_outputs : (ms : List ListedModule) (n : Name) (i : List Name) → Opened (outputs_due ms n i)
  unfolding next sheet
  open_outputs ms n i o =
      record {
        names = o.names;
        nets = o.nets ∙ ap (entered []) (sym (append-nil i));
        laid = λ ns ls b c.
            let h : Laid ns ls (outputs_due ms n i) d = o.laid ns ls b c in
            record { numbers = list-begun ns ls (with_nets ns ls (heading ns ls ms n) i) h.numbers; list = ap length h.numbers; body = tt };
      }

  open_body : (ms : List ListedModule) (n : Name) (i o : List Name) → Opened (body_due ms n i o)
  unfolding next sheet occurred each each_name
  open_body ms n i o on =
      record {
        names = on.names;
        nets = on.nets ∙ ap (λ l. entered [] (i ++ l)) (sym (append-nil o));
        laid = λ ns ls b c.
            let h : Laid ns ls (body_due ms n i o) d = on.laid ns ls b c in
            record { numbers = ap (λ l. l ++ (0 ∷ [])) h.numbers; list = tt; body = ap length h.numbers };
      }

  module _ (ms : List ListedModule) (n : Name) (i o : List Name) (cs : List ListedOccurrence) where
    open_occurrence : Opened (body ms n i o cs)
    unfolding next sheet
    open_occurrence on =
        record {
          names = on.names;
          nets = on.nets;
          laid = λ ns ls b c.
              let h : Laid ns ls (body ms n i o cs) d = on.laid ns ls b c in
              record { numbers = raised-there ns ls h.numbers h.body; list = tt; body = h.body };
        }
      where
        raised-there : (ns ls : List Name) → d.numbers ≡ with_body ns ls (ports ns ls ms n i o) (length cs) cs → d.body ≡ length (ports ns ls ms n i o)
            → set d.numbers d.body (get_or d.numbers d.body 0 + 1) ≡ with_body ns ls (ports ns ls ms n i o) (suc (length cs)) cs
        raised-there ns ls e f =
            let count : get_or d.numbers d.body 0 ≡ length cs
            = ap (λ l. get_or l d.body 0) e ∙ count-there (ports ns ls ms n i o) (length cs) (occurred ns ls cs) d.body f in
            let one : get_or d.numbers d.body 0 + 1 ≡ suc (length cs) = omega arith in
            ap (λ k. set d.numbers d.body k) one
            ∙ ap (λ l. set l d.body (suc (length cs))) e
            ∙ ap (λ q. set (with_body ns ls (ports ns ls ms n i o) (length cs) cs) q (suc (length cs))) f
            ∙ sym (occurrence-begun ns ls (ports ns ls ms n i o) cs)

    open_drives : Opened (drives_due ms n i o cs)
    unfolding next sheet
    open_drives on =
        record {
          names = on.names;
          nets = on.nets ∙ ap (entered []) (sym (append-nil _));
          laid = λ ns ls b c.
              let h : Laid ns ls (drives_due ms n i o cs) d = on.laid ns ls b c in
              record {
                numbers = list-begun ns ls (with_body ns ls (ports ns ls ms n i o) (suc (length cs)) cs) h.numbers;
                list = ap length h.numbers;
                body = h.body;
              };
        }

    open_call : (ds : List Name) → Opened (call_due ms n i o cs ds)
    unfolding next sheet
    open_call ds on =
        record {
          names = on.names;
          nets = on.nets;
          laid = λ ns ls b c.
              let h : Laid ns ls (call_due ms n i o cs ds) d = on.laid ns ls b c in
              record { numbers = h.numbers; list = tt; body = h.body };
        }

  open_list : Opened list_due
  unfolding next sheet done each each_name
  open_list o =
      record {
        names = o.names;
        nets = o.nets;
        laid = λ ns ls b c.
            let h : Laid ns ls list_due d = o.laid ns ls b c in
            record { numbers = ap (λ l. l ++ (0 ∷ [])) h.numbers; list = tt; body = tt };
      }

  pub opening_on : (s : Stage) → On s d known heard → Stands (next s (sign opening)) (opened (mode_of (at s)) d) known heard
  unfolding next
  opening_on list_due o = open_list o
  opening_on (modules ms) o = open_modules ms o
  opening_on (name_due ms) o = tt
  opening_on (inputs_due ms n) o = open_inputs ms n o
  opening_on (inputs ms n i) o = tt
  opening_on (outputs_due ms n i) o = open_outputs ms n i o
  opening_on (outputs ms n i os) o = tt
  opening_on (body_due ms n i os) o = open_body ms n i os o
  opening_on (body ms n i os cs) o = open_occurrence ms n i os cs o
  opening_on (drives_due ms n i os cs) o = open_drives ms n i os cs o
  opening_on (drives ms n i os cs ds) o = tt
  opening_on (call_due ms n i os cs ds) o = open_call ms n i os cs ds o
  opening_on (refers_due ms n i os cs ds) o = tt
  opening_on (takes ms n i os cs ds r t) o = tt
  opening_on (occurrence_end ms n i os cs ds r t) o = tt
  opening_on (module_end ms n i os cs) o = tt
