-- The loop over the parts: before the first, and behind the last.
use Rattle.std.specs.Prelude.{Ok, Err, ℕ, ◌+◌, ◌*◌, ◌≤◌, ◌<◌, ◌≡◌, refl, List, [], length}
use Rattle.std.proofs.Common.{arith}
use Rattle.meaning.specs.ListNumbers.{gate_names}
use Rattle.text_desk.specs.Paper.{desk_of}
use Rattle.refusals.specs.declared.Refusal.{Refusal}
use Rattle.refusals.specs.Refused.{refusal_at}
use Rattle.text_reader.specs.declared.turns.State.{State}
use Rattle.text_reader.specs.Parse.{parse-first}
use Rattle.text_reader.specs.Parts.{Listed, parse-whole, parse-short}
use Rattle.text_reader.specs.Gating.{Blank, Gated}
use Rattle.text_reader.specs.Reading.{Reading, Turned, Readable, Reads}

pub record Looping (text numbers₀ tree₀ numbers tree : List ℕ) (s : State) (i : ℕ) : Type 0 where
  pub reading : Reading text i s numbers tree
  pub same_numbers : length numbers ≡ length numbers₀
  pub same_tree : length tree ≡ length tree₀

pub blank_of : (text numbers tree : List ℕ) → Readable text numbers tree → Blank tree
blank_of text numbers tree r =
    let room : 4 * (length text + 128) ≤ length tree = r.tree_room in
    record { zeros = r.blank; room = omega arith }

abbrev pub first_state : ℕ → State
first_state count = record { mode = 0; marks = record { at = 0; list = 0; body = 0 }; names = 16; nets = 0; root = 2; count = count }

pub looping_first : (text numbers tree tree' : List ℕ) (count : ℕ) → Readable text numbers tree → length tree' ≡ length tree → Gated tree tree' count
    → Looping text numbers tree' numbers tree' (first_state count) 0
looping_first text numbers tree tree' count r same g =
    let few : count ≤ 128 = g.few in
    let room : 4 * (length text + 128) ≤ length tree = r.tree_room in
    record {
      reading = record {
        known = gate_names;
        heard = [];
        parse = parse-first text (desk_of numbers (first_state count).marks) refl;
        dict = g.dict;
        rooms = record {
          within = omega arith;
          at_most = omega arith;
          count_most = omega arith;
          numbers-room = r.numbers-room;
          tree_room = omega arith;
          text-most = r.text-most;
        };
      };
      same_numbers = refl;
      same_tree = refl;
    }

-- A refusal at a part.
pub turn-refused : (text numbers tree : List ℕ) (i : ℕ) (r : Refusal) → Turned text i (Err r) numbers tree → Reads text numbers (Err r)
turn-refused text numbers tree i r (place, is, some) = record { right = rw is (refl, some) }

module _ (text numbers₀ tree₀ numbers tree : List ℕ) (s : State) (i : ℕ) (l : Looping text numbers₀ tree₀ numbers tree s i) (e : length text ≤ i) where
  pub short-reads : s.mode < 17 → Reads text numbers (Err (refusal_at 25 i))
  short-reads m =
      record {
        right = rw (parse-short text i (desk_of numbers s.marks) l.reading.known l.reading.heard e s.mode l.reading.parse m)
            (refl, λ z. omega arith);
      }

  pub whole-reads : 17 ≤ s.mode → Reads text numbers (Ok s.marks.at)
  whole-reads m =
      let r : Listed text (desk_of numbers s.marks)
      = parse-whole text i (desk_of numbers s.marks) l.reading.known l.reading.heard e s.mode l.reading.parse m in
      let am : s.marks.at ≤ 2 * i = l.reading.rooms.at_most in
      let w : i ≤ length text = l.reading.rooms.within in
      let nr : 2 * length text + 2 ≤ length numbers = l.reading.rooms.numbers-room in
      record { right = rw r.is (s.marks.at, refl, r.numbers, omega arith) }
