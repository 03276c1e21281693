-- A turn at an atom.
use Rattle.std.specs.Prelude.{Ok, Err, ℕ, ◌+◌, ◌*◌, ◌-◌, ◌≤◌, ◌<◌, ◌≡◌, refl, Bool, true, false, ◌||◌, ◌⊎◌, List, [], ◌∷◌, leb, length, take, drop, get_or}
use Rattle.std.proofs.Common.{arith, sym, ◌∙◌, ap, inl, inr, length-drop, get_or-take, length-take-le, ne_eqb, le-leb, lt-ltb, le-ltb}
use Rattle.std.proofs.lemmas.Bool.{lt-leb}
use Rattle.meaning.specs.Calls.{refusal}
use Rattle.meaning.specs.ListNumbers.{entered, position}
use Rattle.meaning.specs.ListCall.{word, reading, too_long}
use Rattle.laws.specs.Texts.Numbering.{or-true}
use Rattle.text_names.specs.Walking.{grown_by}
use Rattle.text_names.specs.Needs.{name_of, Numberable, Numbered}
use Rattle.text_modes.specs.Modes.{kind_code, mode_after}
use Rattle.text_modes.specs.Ends.{spelt, word_on}
use Rattle.text_desk.specs.declared.Marks.{Marks}
use Rattle.text_desk.specs.Desk.{is_name, with_name, with_net}
use Rattle.text_desk.specs.Limits.{none_left}
use Rattle.text_desk.specs.Paper.{desk_of, Naming, Netting, Puts}
use Rattle.refusals.specs.Refused.{refusal_at}
use Rattle.text_reader.specs.declared.turns.State.{State}
use Rattle.text_reader.specs.Parts.{atom-off, name-over, name-on, net-listed, net-over, net-on}
use Rattle.text_reader.specs.Dict.{Named, Netted, none, some, named_so, netted_so}
use Rattle.text_reader.specs.Reading.{Rooms, Turnable, Turned, AtomAt, ShortAtom}
use Rattle.text_reader.specs.Turning.{turned_on, refused_turn}

-- The mode tells whether a name is due.
pub named_mode : (mode : ℕ) → (mode ≡ 3) ⊎ (mode ≡ 13) → is_name mode ≡ true
named_mode mode (inl e) = ap is_name e
named_mode mode (inr e) = ap is_name e

pub netted_mode : (mode : ℕ) → ((mode ≡ 3) ⊎ (mode ≡ 13) → ⊥) → is_name mode ≡ false
netted_mode mode f = rw (ne_eqb mode 3 (λ e. f (inl e)), ne_eqb mode 13 (λ e. f (inr e)))

module _ (text : List ℕ) (i : ℕ) (s : State) (numbers tree : List ℕ) (a : AtomAt text i s numbers tree) where
  pub atom-lost : (mode : ℕ) → mode ≡ mode_after s.mode 4 → 18 ≤ mode → Turned text i (Err (refusal_at 25 i)) numbers tree
  atom-lost mode leads off =
      refused_turn text i 25 numbers tree
      (atom-off text i s.mode (desk_of numbers s.marks) a.here.reading.known a.here.reading.heard a.here.reading.parse a.here.inside a.is
      (omega arith))

  -- An atom of over 32 bytes.
  pub atom-long : (mode end : ℕ) → mode ≡ mode_after s.mode 4 → mode < 18 → end ≡ i + length (word (drop i text)) → 32 < end - i
      → Turned text i (Err (refusal_at 26 i)) numbers tree
  atom-long mode end leads fine ends long = refused_turn text i 26 numbers tree (go (is_name s.mode) refl)
    where
      on : mode_after s.mode 4 < 18
      on = omega arith

      over : too_long (word (drop i text)) ≡ true
      over = lt-ltb 32 (length (word (drop i text))) (omega arith)

      go : (t : Bool) → is_name s.mode ≡ t → reading text ≡ refusal 26 i
      go true e =
          name-over text i s.mode (desk_of numbers s.marks) a.here.reading.known a.here.reading.heard a.here.reading.parse a.here.inside a.is
          on e (ap (λ t. t || none_left a.here.reading.known (word (drop i text))) over)
      go false e =
          net-over text i s.mode (desk_of numbers s.marks) a.here.reading.known a.here.reading.heard a.here.reading.parse a.here.inside a.is
          on e
          (ap (λ t. t || leb 192 (get_or (take s.marks.at numbers) s.marks.list 0) || none_left a.here.reading.heard (word (drop i text))) over)

module _ (text : List ℕ) (i end mode : ℕ) (s : State) (numbers tree : List ℕ) (a : ShortAtom text i end mode s numbers tree) where
  here : Turnable text i s numbers tree
  here = a.atom.here

  on : mode_after s.mode 4 < 18
  on = let e : mode ≡ mode_after s.mode 4 = a.leads in let l : mode < 18 = a.fine in omega arith

  pub atom-within : end ≤ length text
  atom-within =
      let few : length (word (drop i text)) ≤ length (drop i text) = (spelt (drop i text)).few in
      let left : length (drop i text) ≡ length text - i = length-drop i text in
      let e : end ≡ i + length (word (drop i text)) = a.ends in
      let l : i < length text = a.atom.here.inside in
      omega arith

  pub atom-some : i < end
  atom-some =
      let one : _ = word_on text i a.atom.here.inside (ap kind_code a.atom.is) in
      let e : end ≡ i + length (word (drop i text)) = a.ends in
      omega arith

  module _ (name : List ℕ) (is : name ≡ take (end - i) (drop i text)) where
    size : end - i ≡ length (word (drop i text))
    size = let e : end ≡ i + length (word (drop i text)) = a.ends in omega arith

    name-is : name_of name ≡ word (drop i text)
    name-is = ap name_of is ∙ ap (λ n. name_of (take n (drop i text))) size ∙ (spelt (drop i text)).is

    name-long : length name ≡ end - i
    name-long =
        let left : length (drop i text) ≡ length text - i = length-drop i text in
        let w : end ≤ length text = atom-within in
        ap length is ∙ length-take-le (end - i) (drop i text) (omega arith)

    short : too_long (word (drop i text)) ≡ false
    short =
        let e : end ≡ i + length (word (drop i text)) = a.ends in
        let m : end ≤ i + 32 = a.short in
        le-ltb 32 (length (word (drop i text))) (omega arith)

    pub name_numberable : Numberable name tree 1 s.names s.count
    name_numberable =
        let r : Rooms text i s.marks.at s.count numbers tree = a.atom.here.reading.rooms in
        let d : _ = a.atom.here.reading.dict in
        let cm : s.count ≤ i + 128 = r.count_most in
        let tr : 4 * (length text + 128) ≤ length tree = r.tree_room in
        let tm : length text ≤ 262144 = r.text-most in
        let w : end ≤ length text = atom-within in
        let p : i < end = atom-some in
        let n : length name ≡ end - i = name-long in
        record { book = d.book; rooted = d.first; room = omega arith; few = omega arith; most = d.names-most }

    pub net_numberable : Numberable name tree s.root s.nets s.count
    net_numberable =
        let r : Rooms text i s.marks.at s.count numbers tree = a.atom.here.reading.rooms in
        let d : _ = a.atom.here.reading.dict in
        let cm : s.count ≤ i + 128 = r.count_most in
        let tr : 4 * (length text + 128) ≤ length tree = r.tree_room in
        let tm : length text ≤ 262144 = r.text-most in
        let w : end ≤ length text = atom-within in
        let p : i < end = atom-some in
        let n : length name ≡ end - i = name-long in
        record { book = d.book; rooted = d.second; room = omega arith; few = omega arith; most = d.nets-most }

    rooms-on : (at count : ℕ) (numbers' tree' : List ℕ) → length numbers' ≡ length numbers → length tree' ≡ length tree → at ≤ s.marks.at + 2
        → count ≤ s.count + length name → Rooms text end at count numbers' tree'
    rooms-on at count numbers' tree' same same' m c =
        let r : Rooms text i s.marks.at s.count numbers tree = a.atom.here.reading.rooms in
        let am : s.marks.at ≤ 2 * i = r.at_most in
        let cm : s.count ≤ i + 128 = r.count_most in
        let nr : 2 * length text + 2 ≤ length numbers = r.numbers-room in
        let tr : 4 * (length text + 128) ≤ length tree = r.tree_room in
        let p : i < end = atom-some in
        let n : length name ≡ end - i = name-long in
        record { within = atom-within; at_most = omega arith; count_most = omega arith; numbers-room = omega arith; tree_room = omega arith; text-most = r.text-most }

    numbers_fit : s.marks.at + 2 ≤ length numbers
    numbers_fit =
        let r : Rooms text i s.marks.at s.count numbers tree = a.atom.here.reading.rooms in
        let am : s.marks.at ≤ 2 * i = r.at_most in
        let nr : 2 * length text + 2 ≤ length numbers = r.numbers-room in
        let l : i < length text = a.atom.here.inside in
        omega arith

    -- The name of a module.
    module _ (named : is_name s.mode ≡ true) (tree' : List ℕ) (count' number : ℕ) (n : Numbered name tree 1 s.names s.count tree' count' number) where
      given : Named name tree s.names s.nets s.root s.count a.atom.here.reading.known a.atom.here.reading.heard a.atom.here.reading.dict tree' count' number
      given =
          named_so name tree s.names s.nets s.root s.count a.atom.here.reading.known a.atom.here.reading.heard a.atom.here.reading.dict
          tree' count' number n

      pub name-refused : 16384 ≤ number → Turned text i (Err (refusal_at 26 i)) numbers tree'
      name-refused l = go given
        where
          go : Named name tree s.names s.nets s.root s.count a.atom.here.reading.known a.atom.here.reading.heard a.atom.here.reading.dict tree' count' number
              → Turned text i (Err (refusal_at 26 i)) numbers tree'
          go (none e left) =
              refused_turn text i 26 numbers tree'
              (name-over text i s.mode (desk_of numbers s.marks) a.atom.here.reading.known a.atom.here.reading.heard a.atom.here.reading.parse
              a.atom.here.inside a.atom.is on named
              (ap (λ t. too_long (word (drop i text)) || t) (ap (none_left a.atom.here.reading.known) (sym name-is) ∙ left) ∙ or-true (too_long (word (drop i text)))))
          go (some small left is' d) = absurd (omega arith)

      pub name-turned : number < 16384 → (numbers' : List ℕ) (marks : Marks) (names' : ℕ) → length numbers' ≡ length numbers
          → Puts (with_name number) numbers s.marks numbers' marks → names' ≡ grown_by s.names number
          → Turned text i
          (Ok (record {
            next = end;
            state = record { mode = mode; marks = marks; names = names'; nets = s.nets; root = s.root; count = count' };
          })) numbers' tree'
      name-turned l numbers' marks names' same p g = rw g (go given)
        where
          go : Named name tree s.names s.nets s.root s.count a.atom.here.reading.known a.atom.here.reading.heard a.atom.here.reading.dict tree' count' number
              → Turned text i
              (Ok (record {
                next = end;
                state = record { mode = mode; marks = marks; names = grown_by s.names number; nets = s.nets; root = s.root; count = count' };
              })) numbers' tree'
          go (none e left) = absurd (omega arith)
          go (some small left is' d) =
              let m : marks.at ≤ s.marks.at + 2 = p.most in
              let grown : count' ≤ s.count + length name = n.most in
              let long : length tree' ≡ length tree = (n.entered a.atom.here.reading.dict.book a.atom.here.reading.dict.first).room in
              turned_on text i end _ numbers' tree'
              (record {
                known = entered a.atom.here.reading.known (word (drop i text) ∷ []);
                heard = a.atom.here.reading.heard;
                parse = rw (p.is, a.leads, a.ends)
                    (name-on text i s.mode (desk_of numbers s.marks) a.atom.here.reading.known a.atom.here.reading.heard a.atom.here.reading.parse
                    a.atom.here.inside a.atom.is on named number
                    (is' ∙ ap (λ w. position w (entered a.atom.here.reading.known (w ∷ []))) name-is)
                    (ap (λ t. t || none_left a.atom.here.reading.known (word (drop i text))) short ∙ ap (none_left a.atom.here.reading.known) (sym name-is) ∙ left));
                dict = rw name-is at d;
                rooms = rooms-on marks.at count' numbers' tree' same long (omega arith) (omega arith);
              })
              atom-some

    pub name_naming : Naming numbers s.marks
    name_naming = record { room = numbers_fit }

    -- A net.
    module _ (netted : is_name s.mode ≡ false) where
      pub net-list : s.marks.list < s.marks.at
      net-list =
          let l : s.marks.list < length (take s.marks.at numbers)
          = net-listed text i s.mode (desk_of numbers s.marks) a.atom.here.reading.known a.atom.here.reading.heard a.atom.here.reading.parse
          a.atom.here.inside a.atom.is on netted in
          let f : s.marks.at + 2 ≤ length numbers = numbers_fit in
          let e : length (take s.marks.at numbers) ≡ s.marks.at = length-take-le s.marks.at numbers (omega arith) in
          omega arith

      pub net-there : s.marks.list < length numbers
      net-there = let l : s.marks.list < s.marks.at = net-list in let f : s.marks.at + 2 ≤ length numbers = numbers_fit in omega arith

      counted : get_or (take s.marks.at numbers) s.marks.list 0 ≡ get_or numbers s.marks.list 0
      counted = get_or-take s.marks.at numbers s.marks.list 0 net-list

      -- 192 nets in the list.
      pub net-full : 192 ≤ get_or numbers s.marks.list 0 → Turned text i (Err (refusal_at 26 i)) numbers tree
      net-full l =
          refused_turn text i 26 numbers tree
          (net-over text i s.mode (desk_of numbers s.marks) a.atom.here.reading.known a.atom.here.reading.heard a.atom.here.reading.parse
          a.atom.here.inside a.atom.is on netted
          (ap (λ t. too_long (word (drop i text)) || t || none_left a.atom.here.reading.heard (word (drop i text))) (ap (leb 192) counted ∙ le-leb 192 (get_or numbers s.marks.list 0) l)
          ∙ full-or (too_long (word (drop i text))) (none_left a.atom.here.reading.heard (word (drop i text)))))
        where
          full-or : (t u : Bool) → (t || true || u) ≡ true
          full-or true u = refl
          full-or false u = refl

      pub net_netting : get_or numbers s.marks.list 0 < 192 → Netting numbers s.marks
      net_netting l = record { room = numbers_fit; within = net-list; few = omega arith }

      module _ (tree' : List ℕ) (count' number : ℕ) (n : Numbered name tree s.root s.nets s.count tree' count' number) where
        given-net : Netted name tree s.names s.nets s.root s.count a.atom.here.reading.known a.atom.here.reading.heard a.atom.here.reading.dict tree' count' number
        given-net =
            netted_so name tree s.names s.nets s.root s.count a.atom.here.reading.known a.atom.here.reading.heard a.atom.here.reading.dict
            tree' count' number n

        pub net-refused : 16384 ≤ number → Turned text i (Err (refusal_at 26 i)) numbers tree'
        net-refused l = go given-net
          where
            last_or : (t u : Bool) → (t || u || true) ≡ true
            last_or true u = refl
            last_or false true = refl
            last_or false false = refl

            go : Netted name tree s.names s.nets s.root s.count a.atom.here.reading.known a.atom.here.reading.heard a.atom.here.reading.dict tree' count' number
                → Turned text i (Err (refusal_at 26 i)) numbers tree'
            go (none e left) =
                refused_turn text i 26 numbers tree'
                (net-over text i s.mode (desk_of numbers s.marks) a.atom.here.reading.known a.atom.here.reading.heard a.atom.here.reading.parse
                a.atom.here.inside a.atom.is on netted
                (ap (λ t. too_long (word (drop i text)) || leb 192 (get_or (take s.marks.at numbers) s.marks.list 0) || t)
                (ap (none_left a.atom.here.reading.heard) (sym name-is) ∙ left)
                ∙ last_or (too_long (word (drop i text))) (leb 192 (get_or (take s.marks.at numbers) s.marks.list 0))))
            go (some small left is' d) = absurd (omega arith)

        pub net-turned : get_or numbers s.marks.list 0 < 192 → number < 16384 → (numbers' : List ℕ) (marks : Marks) (nets' : ℕ)
            → length numbers' ≡ length numbers → Puts (with_net number) numbers s.marks numbers' marks → nets' ≡ grown_by s.nets number
            → Turned text i
            (Ok (record {
              next = end;
              state = record { mode = mode; marks = marks; names = s.names; nets = nets'; root = s.root; count = count' };
            })) numbers' tree'
        net-turned few l numbers' marks nets' same p g = rw g (go given-net)
          where
            fits : (leb 192 (get_or (take s.marks.at numbers) s.marks.list 0)) ≡ false
            fits = ap (leb 192) counted ∙ lt-leb 192 (get_or numbers s.marks.list 0) few

            go : Netted name tree s.names s.nets s.root s.count a.atom.here.reading.known a.atom.here.reading.heard a.atom.here.reading.dict tree' count' number
                → Turned text i
                (Ok (record {
                  next = end;
                  state = record { mode = mode; marks = marks; names = s.names; nets = grown_by s.nets number; root = s.root; count = count' };
                })) numbers' tree'
            go (none e left) = absurd (omega arith)
            go (some small left is' d) =
                let m : marks.at ≤ s.marks.at + 2 = p.most in
                let grown : count' ≤ s.count + length name = n.most in
                let long : length tree' ≡ length tree = (n.entered a.atom.here.reading.dict.book a.atom.here.reading.dict.second).room in
                turned_on text i end _ numbers' tree'
                (record {
                  known = a.atom.here.reading.known;
                  heard = entered a.atom.here.reading.heard (word (drop i text) ∷ []);
                  parse = rw (p.is, a.leads, a.ends)
                      (net-on text i s.mode (desk_of numbers s.marks) a.atom.here.reading.known a.atom.here.reading.heard a.atom.here.reading.parse
                      a.atom.here.inside a.atom.is on netted number
                      (is' ∙ ap (λ w. position w (entered a.atom.here.reading.heard (w ∷ []))) name-is)
                      (ap (λ t. t || leb 192 (get_or (take s.marks.at numbers) s.marks.list 0) || none_left a.atom.here.reading.heard (word (drop i text))) short
                      ∙ ap (λ t. t || none_left a.atom.here.reading.heard (word (drop i text))) fits
                      ∙ ap (none_left a.atom.here.reading.heard) (sym name-is) ∙ left));
                  dict = rw name-is at d;
                  rooms = rooms-on marks.at count' numbers' tree' same long (omega arith) (omega arith);
                })
                atom-some
