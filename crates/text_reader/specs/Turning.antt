-- A turn at a space or a sign.
use Rattle.std.specs.Prelude.{Ok, Err, ℕ, ◌+◌, ◌*◌, ◌≤◌, ◌<◌, ◌≡◌, refl, true, false, cond, List, [], length, get_or}
use Rattle.std.proofs.Common.{arith, sym, ◌∙◌, ap, eq-eqb, ne_eqb}
use Rattle.std.proofs.Math.Decide.{ℕ_discrete}
use Rattle.meaning.specs.Calls.{refusal}
use Rattle.meaning.specs.ListForm.{Name, Sign, mark, opening, closing, stray, Kind.sign as sign_kind, kind_of}
use Rattle.meaning.specs.ListCall.{reading}
use Rattle.text_modes.specs.Modes.{sign_code, kind_code, mode_of, mode_after}
use Rattle.text_modes.specs.Right.{mode_below, stray_mode, mark_mode}
use Rattle.text_modes.specs.Codes.{code-space, SignOf, sign_of}
use Rattle.text_desk.specs.declared.Marks.{Marks}
use Rattle.text_desk.specs.Desk.{opened_over}
use Rattle.text_desk.specs.Signs.{heard_after}
use Rattle.text_desk.specs.Paper.{desk_of, Testable, Opening, Opens}
use Rattle.refusals.specs.Refused.{refusal_at}
use Rattle.text_reader.specs.declared.turns.State.{State}
use Rattle.text_reader.specs.Parse.{Parse, parse-space}
use Rattle.text_reader.specs.Parts.{parse-openable, sign-off, open_over, open_on, close-on, mark_on}
use Rattle.text_reader.specs.Dict.{fresh}
use Rattle.text_reader.specs.Refusing.{refusal-numbered}
use Rattle.text_reader.specs.Reading.{in_mode, rooted, closed, Rooms, Reading, Turnable, Turned, Openable}

-- A turn that goes on, and one that refuses.
pub turned_on : (text : List ℕ) (i next : ℕ) (s : State) (numbers tree : List ℕ) → Reading text next s numbers tree → i < next
    → Turned text i (Ok (record { next = next; state = s })) numbers tree
turned_on text i next s numbers tree r l = record { on = r; further = l }

pub refused_turn : (text : List ℕ) (i number : ℕ) (numbers tree : List ℕ) → reading text ≡ refusal number i
    → Turned text i (Err (refusal_at number i)) numbers tree
refused_turn text i number numbers tree e = (refl, e, refusal-numbered text e)

pub state_mode : (text : List ℕ) (i : ℕ) (s : State) (numbers tree : List ℕ) → Reading text i s numbers tree → s.mode < 19
state_mode text i s numbers tree r =
    let is : s.mode ≡ mode_of r.parse.stand = r.parse.mode_is in
    let l : mode_of r.parse.stand < 19 = mode_below r.parse.stand in
    omega arith

module _ (text : List ℕ) (i : ℕ) (s : State) (numbers tree : List ℕ) (t : Turnable text i s numbers tree) where
  rooms-on : (n at count : ℕ) (numbers' : List ℕ) → length numbers' ≡ length numbers → i + n ≤ length text → at ≤ s.marks.at + 2 * n
      → count ≤ s.count + n → Rooms text (i + n) at count numbers' tree
  rooms-on n at count numbers' same few a c =
      let r : Rooms text i s.marks.at s.count numbers tree = t.reading.rooms in
      let am : s.marks.at ≤ 2 * i = r.at_most in
      let cm : s.count ≤ i + 128 = r.count_most in
      let nr : 2 * length text + 2 ≤ length numbers = r.numbers-room in
      record { within = few; at_most = omega arith; count_most = omega arith; numbers-room = omega arith; tree_room = r.tree_room; text-most = r.text-most }

  pub state_small : s.count < 1048576
  state_small =
      let r : Rooms text i s.marks.at s.count numbers tree = t.reading.rooms in
      let cm : s.count ≤ i + 128 = r.count_most in
      let l : i ≤ length text = r.within in
      let m : length text ≤ 262144 = r.text-most in
      omega arith

  pub at-space : (part : ℕ) → part ≡ kind_code (kind_of (get_or text i 0)) → part ≡ 5
      → Turned text i (Ok (record { next = i + 1; state = s })) numbers tree
  at-space part k e =
      let l : i < length text = t.inside in
      turned_on text i (i + 1) s numbers tree
      (record {
        known = t.reading.known;
        heard = t.reading.heard;
        parse = parse-space text i s.mode (desk_of numbers s.marks) t.reading.known t.reading.heard t.reading.parse l
            (code-space (kind_of (get_or text i 0)) (sym k ∙ e));
        dict = t.reading.dict;
        rooms = rooms-on 1 s.marks.at s.count numbers refl (omega arith) (omega arith) (omega arith);
      })
      (omega arith)

  module _ (part mode : ℕ) (k : part ≡ kind_code (kind_of (get_or text i 0))) (nl : part ≡ 4 → ⊥) (ns : part ≡ 5 → ⊥) (leads : mode ≡ mode_after s.mode part) where
    this : SignOf (kind_of (get_or text i 0)) part
    this = sign_of (kind_of (get_or text i 0)) part k nl ns

    pub sign-lost : 18 ≤ mode → Turned text i (Err (refusal_at 25 i)) numbers tree
    sign-lost off =
        let same : mode_after s.mode part ≡ mode_after s.mode (sign_code this.it) = ap (mode_after s.mode) this.code in
        refused_turn text i 25 numbers tree
        (sign-off text i s.mode (desk_of numbers s.marks) t.reading.known t.reading.heard t.reading.parse t.inside this.it this.is
        (omega arith))

    pub sign_open : mode < 18 → part ≡ 1 → Openable text i mode s numbers tree
    sign_open on e = go this.it this.is this.code
      where
        go : (c : Sign) → kind_of (get_or text i 0) ≡ sign_kind c → part ≡ sign_code c → Openable text i mode s numbers tree
        go mark is code = absurd (omega arith)
        go opening is code = record { here = t; is = is; leads = leads ∙ ap (mode_after s.mode) e; fine = on }
        go closing is code = absurd (omega arith)
        go stray is code = absurd (omega arith)

    -- `)`, or the quote mark.
    record Went : Type 0 where
      heard' : List Name
      parse : Parse text (i + 1) mode (desk_of numbers s.marks) t.reading.known heard'
      is : heard' ≡ heard_after s.mode t.reading.heard

    went : mode < 18 → (part ≡ 1 → ⊥) → Went
    went on other = go this.it this.is this.code
      where
        go : (c : Sign) → kind_of (get_or text i 0) ≡ sign_kind c → part ≡ sign_code c → Went
        go mark is code =
            let leads' : mode ≡ mode_after s.mode 0 = leads ∙ ap (mode_after s.mode) code in
            record {
              heard' = t.reading.heard;
              parse = rw leads' (mark_on text i s.mode (desk_of numbers s.marks) t.reading.known t.reading.heard t.reading.parse t.inside is (omega arith));
              is = sym (ap (λ u. cond u [] t.reading.heard) (ne_eqb s.mode 16 (λ z. unmarked leads' z)));
            }
          where
            unmarked : mode ≡ mode_after s.mode 0 → s.mode ≡ 16 → ⊥
            unmarked e z =
                let m : mode_after s.mode 0 ≡ 18 = ap (λ n. mode_after n 0) z ∙ mark_mode in
                omega arith
        go opening is code = absurd (other code)
        go closing is code =
            let leads' : mode ≡ mode_after s.mode 2 = leads ∙ ap (mode_after s.mode) code in
            record {
              heard' = heard_after s.mode t.reading.heard;
              parse = rw leads' (close-on text i s.mode (desk_of numbers s.marks) t.reading.known t.reading.heard t.reading.parse t.inside is (omega arith));
              is = refl;
            }
        go stray is code =
            let m : mode_after s.mode 3 ≡ 18 = stray_mode s.mode (state_mode text i s numbers tree t.reading) in
            let same : mode_after s.mode part ≡ mode_after s.mode 3 = ap (mode_after s.mode) code in
            absurd (omega arith)

    pub sign-closed : mode < 18 → (part ≡ 1 → ⊥) → (s' : State) → s' ≡ closed s mode
        → Turned text i (Ok (record { next = i + 1; state = s' })) numbers tree
    sign-closed on other s' e = rw e (go (ℕ_discrete s.mode 16) (went on other))
      where
        l : i < length text
        l = t.inside

        go : Dec (s.mode ≡ 16) → Went → Turned text i (Ok (record { next = i + 1; state = closed s mode })) numbers tree
        go (yes z) w =
            let none : w.heard' ≡ [] = w.is ∙ ap (λ u. cond u [] t.reading.heard) (eq-eqb s.mode 16 z) in
            rw (eq-eqb s.mode 16 z)
            (turned_on text i (i + 1) (rooted s mode) numbers tree
            (record {
              known = t.reading.known;
              heard = [];
              parse = rw none at w.parse;
              dict = fresh tree s.names s.nets s.root s.count t.reading.known t.reading.heard t.reading.dict;
              rooms = rooms-on 1 s.marks.at (s.count + 1) numbers refl (omega arith) (omega arith) (omega arith);
            })
            (omega arith))
        go (no z) w =
            let same : w.heard' ≡ t.reading.heard = w.is ∙ ap (λ u. cond u [] t.reading.heard) (ne_eqb s.mode 16 z) in
            rw (ne_eqb s.mode 16 z)
            (turned_on text i (i + 1) (in_mode s mode) numbers tree
            (record {
              known = t.reading.known;
              heard = t.reading.heard;
              parse = rw same at w.parse;
              dict = t.reading.dict;
              rooms = rooms-on 1 s.marks.at s.count numbers refl (omega arith) (omega arith) (omega arith);
            })
            (omega arith))

-- `(`.
module _ (text : List ℕ) (i mode : ℕ) (s : State) (numbers tree : List ℕ) (o : Openable text i mode s numbers tree) where
  pub open_testable : Testable s.mode numbers s.marks
  open_testable =
      let r : Rooms text i s.marks.at s.count numbers tree = o.here.reading.rooms in
      let am : s.marks.at ≤ 2 * i = r.at_most in
      let nr : 2 * length text + 2 ≤ length numbers = r.numbers-room in
      let l : i < length text = o.here.inside in
      record {
        room = omega arith;
        ready = parse-openable text i s.mode (desk_of numbers s.marks) o.here.reading.known o.here.reading.heard o.here.reading.parse;
      }

  leads-on : mode_after s.mode 1 < 18
  leads-on = let e : mode ≡ mode_after s.mode 1 = o.leads in let l : mode < 18 = o.fine in omega arith

  pub open_refused : opened_over s.mode (desk_of numbers s.marks) ≡ true → Turned text i (Err (refusal_at 26 i)) numbers tree
  open_refused e =
      refused_turn text i 26 numbers tree
      (open_over text i s.mode (desk_of numbers s.marks) o.here.reading.known o.here.reading.heard o.here.reading.parse o.here.inside o.is
      leads-on e)

  pub open_opening : opened_over s.mode (desk_of numbers s.marks) ≡ false → Opening s.mode numbers s.marks
  open_opening e =
      let r : Rooms text i s.marks.at s.count numbers tree = o.here.reading.rooms in
      let am : s.marks.at ≤ 2 * i = r.at_most in
      let nr : 2 * length text + 2 ≤ length numbers = r.numbers-room in
      let l : i < length text = o.here.inside in
      record { room = omega arith; ready = open_testable.ready; few = e }

  pub open_turned : opened_over s.mode (desk_of numbers s.marks) ≡ false → (numbers' : List ℕ) (marks : Marks) → length numbers' ≡ length numbers
      → Opens s.mode numbers s.marks numbers' marks
      → Turned text i
      (Ok (record {
        next = i + 1;
        state = record { mode = mode; marks = marks; names = s.names; nets = s.nets; root = s.root; count = s.count };
      })) numbers' tree
  open_turned e numbers' marks same p =
      let l : i < length text = o.here.inside in
      let m : marks.at ≤ s.marks.at + 1 = p.most in
      turned_on text i (i + 1) _ numbers' tree
      (record {
        known = o.here.reading.known;
        heard = o.here.reading.heard;
        parse = rw (p.is, o.leads)
            (open_on text i s.mode (desk_of numbers s.marks) o.here.reading.known o.here.reading.heard o.here.reading.parse o.here.inside o.is
            leads-on e);
        dict = o.here.reading.dict;
        rooms = rooms-on text i s numbers tree o.here 1 marks.at s.count numbers' same (omega arith) (omega arith) (omega arith);
      })
      (omega arith)
