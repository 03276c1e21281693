-- One part more, and the end of the text.
use Rattle.std.specs.Prelude.{ℕ, ◌+◌, ◌≤◌, ◌<◌, ◌≡◌, true, false, List, [], ◌∷◌, length, drop, get_or}
use Rattle.std.proofs.Common.{arith, sym, ◌∙◌, drop_of_length-le}
use Rattle.std.proofs.Math.Path.{ap}
use Rattle.meaning.specs.Layout.{file_numbers}
use Rattle.meaning.specs.Calls.{refusal, answer}
use Rattle.meaning.specs.ListForm.{Name, ListedModule, Sign, mark, opening, closing, letter, Kind.sign as sign_kind, kind_of, sign, atom}
use Rattle.meaning.specs.ListReader.{list_due, modules, name_due, inputs_due, inputs, outputs_due, outputs, body_due, body, drives_due, drives, call_due, refers_due, takes, occurrence_end, module_end, Stand, start, at, finished, astray, step, is_astray}
use Rattle.meaning.specs.ListNumbers.{entered, position, numbered}
use Rattle.meaning.specs.ListCall.{over, word, concluded, reading_from, reading}
use Rattle.laws.specs.Texts.Divided.{spot}
use Rattle.text_modes.specs.Modes.{sign_code, mode_of, mode_after}
use Rattle.text_desk.specs.Desk.{Desk, opened, opened_over, is_name, with_name, with_net}
use Rattle.text_desk.specs.On.{Stands}
use Rattle.text_desk.specs.Signs.{heard_after}
use Rattle.text_desk.specs.Limits.{name_over, net_over}
use Rattle.text_desk.specs.Ready.{Openable}
use Rattle.text_reader.specs.Parse.{Parse, gone, exceeded, went_on, lost, kept, sign-tested, atom-tested}
use Rattle.text_reader.specs.Standing.{opening_stands, opening_exceeds, openable-stands, closing-stands, mark-stands, name-stands, net-stands, name-exceeds, net-exceeds, listable-stands, closing-never, mark-never}

module _ (text : List ℕ) (i mode : ℕ) (d : Desk) (known heard : List Name) (p : Parse text i mode d known heard) where
  pub parse-openable : Openable mode d
  parse-openable = rw p.mode_is (openable-stands d known heard p.stand p.stands)

  module _ (l : i < length text) where
    -- A sign that leads nowhere.
    pub sign-off : (c : Sign) → kind_of (get_or text i 0) ≡ sign_kind c → 18 ≤ mode_after mode (sign_code c) → reading text ≡ refusal 25 i
    sign-off c e off = gone text i mode d known heard p (sign c) 1 (sign-tested text i mode d known heard p l c e) (lost text i mode d known heard p (sign c) off)

    module _ (e : kind_of (get_or text i 0) ≡ sign_kind opening) (on : mode_after mode 1 < 18) where
      limit : over p.stand (sign opening) ≡ opened_over mode d
      limit = opening_exceeds d known heard p.stand p.stands ∙ ap (λ m. opened_over m d) (sym p.mode_is)

      pub open_over : opened_over mode d ≡ true → reading text ≡ refusal 26 i
      open_over o =
          exceeded text i mode d known heard p (sign opening) 1 (sign-tested text i mode d known heard p l opening e)
          (kept text i mode d known heard p (sign opening) on) (limit ∙ o)

      pub open_on : opened_over mode d ≡ false → Parse text (i + 1) (mode_after mode 1) (opened mode d) known heard
      open_on o =
          went_on text i mode d known heard p (sign opening) 1 (opened mode d) known heard (sign-tested text i mode d known heard p l opening e)
          (kept text i mode d known heard p (sign opening) on) (limit ∙ o)
          (rw p.mode_is (opening_stands d known heard p.stand p.stands))

    pub close-on : kind_of (get_or text i 0) ≡ sign_kind closing → mode_after mode 2 < 18
        → Parse text (i + 1) (mode_after mode 2) d known (heard_after mode heard)
    close-on e on =
        went_on text i mode d known heard p (sign closing) 1 d known (heard_after mode heard) (sign-tested text i mode d known heard p l closing e)
        (kept text i mode d known heard p (sign closing) on) (closing-never p.stand)
        (rw p.mode_is (closing-stands d known heard p.stand p.stands))

    pub mark_on : kind_of (get_or text i 0) ≡ sign_kind mark → mode_after mode 0 < 18 → Parse text (i + 1) (mode_after mode 0) d known heard
    mark_on e on =
        let fine : is_astray (step p.stand (sign mark)) ≡ false = kept text i mode d known heard p (sign mark) on in
        went_on text i mode d known heard p (sign mark) 1 d known heard (sign-tested text i mode d known heard p l mark e)
        fine (mark-never p.stand fine) (mark-stands d known heard p.stand p.stands)

    -- The atom that begins here.
    module _ (e : kind_of (get_or text i 0) ≡ letter) where
      here : Name
      here = word (drop i text)

      pub atom-off : 18 ≤ mode_after mode 4 → reading text ≡ refusal 25 i
      atom-off off =
          gone text i mode d known heard p (atom (word (drop i text))) (length (word (drop i text))) (atom-tested text i mode d known heard p l e)
          (lost text i mode d known heard p (atom (word (drop i text))) off)

      module _ (on : mode_after mode 4 < 18) where
        fine : is_astray (step p.stand (atom (word (drop i text)))) ≡ false
        fine = kept text i mode d known heard p (atom (word (drop i text))) on

        module _ (named : is_name mode ≡ true) where
          named-there : is_name (mode_of p.stand) ≡ true
          named-there = sym (ap is_name p.mode_is) ∙ named

          pub name-over : name_over known (word (drop i text)) ≡ true → reading text ≡ refusal 26 i
          name-over o =
              exceeded text i mode d known heard p (atom (word (drop i text))) (length (word (drop i text))) (atom-tested text i mode d known heard p l e) fine
              (name-exceeds d known heard (word (drop i text)) p.stand named-there p.stands ∙ o)

          pub name-on : (x : ℕ) → x ≡ position (word (drop i text)) (entered known (word (drop i text) ∷ [])) → name_over known (word (drop i text)) ≡ false
              → Parse text (i + length (word (drop i text))) (mode_after mode 4) (with_name x d) (entered known (word (drop i text) ∷ [])) heard
          name-on x is o =
              went_on text i mode d known heard p (atom (word (drop i text))) (length (word (drop i text))) (with_name x d) (entered known (word (drop i text) ∷ [])) heard
              (atom-tested text i mode d known heard p l e) fine
              (name-exceeds d known heard (word (drop i text)) p.stand named-there p.stands ∙ o)
              (name-stands d known heard (word (drop i text)) x is p.stand named-there p.stands)

        module _ (netted : is_name mode ≡ false) where
          netted-there : is_name (mode_of p.stand) ≡ false
          netted-there = sym (ap is_name p.mode_is) ∙ netted

          pub net-listed : d.list < length d.numbers
          net-listed = listable-stands d known heard (word (drop i text)) p.stand fine netted-there p.stands

          pub net-over : net_over d heard (word (drop i text)) ≡ true → reading text ≡ refusal 26 i
          net-over o =
              exceeded text i mode d known heard p (atom (word (drop i text))) (length (word (drop i text))) (atom-tested text i mode d known heard p l e) fine
              (net-exceeds d known heard (word (drop i text)) p.stand fine netted-there p.stands ∙ o)

          pub net-on : (x : ℕ) → x ≡ position (word (drop i text)) (entered heard (word (drop i text) ∷ [])) → net_over d heard (word (drop i text)) ≡ false
              → Parse text (i + length (word (drop i text))) (mode_after mode 4) (with_net x d) known (entered heard (word (drop i text) ∷ []))
          net-on x is o =
              went_on text i mode d known heard p (atom (word (drop i text))) (length (word (drop i text))) (with_net x d) known (entered heard (word (drop i text) ∷ []))
              (atom-tested text i mode d known heard p l e) fine
              (net-exceeds d known heard (word (drop i text)) p.stand fine netted-there p.stands ∙ o)
              (net-stands d known heard (word (drop i text)) x is p.stand netted-there p.stands)

-- At the end: the file's numbers, or 25.
pub record Listed (text : List ℕ) (d : Desk) : Type 0 where
  pub ms : List ListedModule
  pub is : reading text ≡ answer ms
  pub numbers : d.numbers ≡ file_numbers (numbered ms)

module _ (text : List ℕ) (i : ℕ) (d : Desk) (known heard : List Name) (e : length text ≤ i) where
  ended : (s : Stand) → reading_from i (spot s []) (drop i text) ≡ concluded i s
  unfolding reading_from
  ended s = ap (reading_from i (spot s [])) (drop_of_length-le text e)

  pub all_read : (s : Stand) → reading text ≡ concluded i s → Stands s d known heard → 17 ≤ mode_of s → is_astray s ≡ false → Listed text d
  all_read start r o m f = absurd (omega arith)
  all_read (finished ms) r o m f = record { ms = ms; is = r; numbers = o }
  all_read astray r o m f = absurd (let z : ◌≡◌ {A = ℕ} 0 1 = cc in omega arith)
  all_read (at list_due) r o m f = absurd (omega arith)
  all_read (at (modules ms)) r o m f = absurd (omega arith)
  all_read (at (name_due ms)) r o m f = absurd (omega arith)
  all_read (at (inputs_due ms n)) r o m f = absurd (omega arith)
  all_read (at (inputs ms n i)) r o m f = absurd (omega arith)
  all_read (at (outputs_due ms n i)) r o m f = absurd (omega arith)
  all_read (at (outputs ms n i os)) r o m f = absurd (omega arith)
  all_read (at (body_due ms n i os)) r o m f = absurd (omega arith)
  all_read (at (body ms n i os cs)) r o m f = absurd (omega arith)
  all_read (at (drives_due ms n i os cs)) r o m f = absurd (omega arith)
  all_read (at (drives ms n i os cs ds)) r o m f = absurd (omega arith)
  all_read (at (call_due ms n i os cs ds)) r o m f = absurd (omega arith)
  all_read (at (refers_due ms n i os cs ds)) r o m f = absurd (omega arith)
  all_read (at (takes ms n i os cs ds q t)) r o m f = absurd (omega arith)
  all_read (at (occurrence_end ms n i os cs ds q t)) r o m f = absurd (omega arith)
  all_read (at (module_end ms n i os cs)) r o m f = absurd (omega arith)

  pub not_all : (s : Stand) → reading text ≡ concluded i s → mode_of s < 17 → reading text ≡ refusal 25 i
  not_all start r m = r
  not_all (at s) r m = r
  not_all (finished ms) r m = absurd (omega arith)
  not_all astray r m = r

  pub parse-whole : (mode : ℕ) → Parse text i mode d known heard → 17 ≤ mode → Listed text d
  parse-whole mode p m =
      let is : mode ≡ mode_of p.stand = p.mode_is in
      all_read p.stand (p.is ∙ ended p.stand) p.stands (omega arith) p.fine

  pub parse-short : (mode : ℕ) → Parse text i mode d known heard → mode < 17 → reading text ≡ refusal 25 i
  parse-short mode p m =
      let is : mode ≡ mode_of p.stand = p.mode_is in
      not_all p.stand (p.is ∙ ended p.stand) (omega arith)
