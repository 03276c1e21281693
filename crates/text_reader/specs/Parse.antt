-- Reading as the code does it: between two parts, by the mode, with the numbers on the desk.
use Rattle.std.specs.Prelude.{ℕ, suc, ◌+◌, ◌≤◌, ◌<◌, ◌≡◌, refl, true, false, not, List, [], ◌∷◌, leb, length, drop, get_or}
use Rattle.std.proofs.Common.{add-one, sym, ◌∙◌, ap, drop-cons, drop-drop, le-leb}
use Rattle.std.proofs.lemmas.Bool.{lt-leb}
use Rattle.meaning.specs.Calls.{refusal, demand}
use Rattle.meaning.specs.ListForm.{Name, Sign, letter, space, Kind.sign as sign_kind, kind_of, Part, sign, atom}
use Rattle.meaning.specs.ListReader.{Stand, start, step, is_astray}
use Rattle.meaning.specs.ListNumbers.{gate_names}
use Rattle.meaning.specs.ListCall.{over, word, reading_from, reading}
use Rattle.laws.specs.Texts.Divided.{spot}
use Rattle.laws.specs.Texts.Words.{by_kind, whole-atom}
use Rattle.text_modes.specs.Modes.{part_code, mode_of, mode_after}
use Rattle.text_modes.specs.Right.{mode_step, astray_mode}
use Rattle.text_desk.specs.Desk.{Desk}
use Rattle.text_desk.specs.On.{Stands}

pub record Parse (text : List ℕ) (i mode : ℕ) (d : Desk) (known heard : List Name) : Type 0 where
  pub stand : Stand
  pub is : reading text ≡ reading_from i (spot stand []) (drop i text)
  pub mode_is : mode ≡ mode_of stand
  pub fine : is_astray stand ≡ false
  pub stands : Stands stand d known heard

-- Before the first byte.
pub parse-first : (text : List ℕ) (d : Desk) → d.numbers ≡ [] → Parse text 0 0 d gate_names []
unfolding reading
parse-first text d e = record { stand = start; is = refl; mode_is = refl; fine = refl; stands = record { numbers = e; names = refl; nets = refl } }

module _ (text : List ℕ) (i mode : ℕ) (d : Desk) (known heard : List Name) (p : Parse text i mode d known heard) where
  -- What a part does, as the reader says: 25, 26, or it goes on.
  abbrev Tested : Part → ℕ → Type 0
  Tested part n =
      reading text
      ≡ demand 25 i (not (is_astray (step p.stand part)))
      (demand 26 i (not (over p.stand part)) (reading_from (i + n) (spot (step p.stand part) []) (drop (i + n) text)))

  pub mode_next : (part : Part) → mode_after mode (part_code part) ≡ mode_of (step p.stand part)
  mode_next part = ap (λ m. mode_after m (part_code part)) p.mode_is ∙ sym (mode_step p.stand part)

  astray-is : (part : Part) → is_astray (step p.stand part) ≡ leb 18 (mode_after mode (part_code part))
  astray-is part = astray_mode (step p.stand part) ∙ ap (leb 18) (sym (mode_next part))

  -- 25 where nothing goes on so.
  pub gone : (part : Part) (n : ℕ) → Tested part n → is_astray (step p.stand part) ≡ true → reading text ≡ refusal 25 i
  gone part n t e =
      t ∙ ap (λ u. demand 25 i (not u) (demand 26 i (not (over p.stand part)) (reading_from (i + n) (spot (step p.stand part) []) (drop (i + n) text)))) e

  pub exceeded : (part : Part) (n : ℕ) → Tested part n → is_astray (step p.stand part) ≡ false → over p.stand part ≡ true → reading text ≡ refusal 26 i
  exceeded part n t e o =
      t ∙ ap (λ u. demand 25 i (not u) (demand 26 i (not (over p.stand part)) (reading_from (i + n) (spot (step p.stand part) []) (drop (i + n) text)))) e
      ∙ ap (λ u. demand 26 i (not u) (reading_from (i + n) (spot (step p.stand part) []) (drop (i + n) text))) o

  pub went_on : (part : Part) (n : ℕ) (d' : Desk) (known' heard' : List Name) → Tested part n → is_astray (step p.stand part) ≡ false
      → over p.stand part ≡ false → Stands (step p.stand part) d' known' heard'
      → Parse text (i + n) (mode_after mode (part_code part)) d' known' heard'
  went_on part n d' known' heard' t e o s =
      record {
        stand = step p.stand part;
        is = t ∙ ap (λ u. demand 25 i (not u) (demand 26 i (not (over p.stand part)) (reading_from (i + n) (spot (step p.stand part) []) (drop (i + n) text)))) e
            ∙ ap (λ u. demand 26 i (not u) (reading_from (i + n) (spot (step p.stand part) []) (drop (i + n) text))) o;
        mode_is = mode_next part;
        fine = e;
        stands = s;
      }

  -- The mode tells.
  pub lost : (part : Part) → 18 ≤ mode_after mode (part_code part) → is_astray (step p.stand part) ≡ true
  lost part l = astray-is part ∙ le-leb 18 (mode_after mode (part_code part)) l

  pub kept : (part : Part) → mode_after mode (part_code part) < 18 → is_astray (step p.stand part) ≡ false
  kept part l = astray-is part ∙ lt-leb 18 (mode_after mode (part_code part)) l

  module _ (l : i < length text) where
    cut : drop i text ≡ get_or text i 0 ∷ drop (suc i) text
    cut = drop-cons text i 0 l

    one_on : (s : Stand) → reading_from (suc i) (spot s []) (drop (suc i) text) ≡ reading_from (i + 1) (spot s []) (drop (i + 1) text)
    one_on s = ap (λ j. reading_from j (spot s []) (drop j text)) (sym (add-one i))

    pub sign-tested : (c : Sign) → kind_of (get_or text i 0) ≡ sign_kind c → Tested (sign c) 1
    sign-tested c e =
        p.is
        ∙ ap (reading_from i (spot p.stand [])) cut
        ∙ by_kind i (spot p.stand []) (get_or text i 0) (drop (suc i) text) (sign_kind c) e
        ∙ ap (λ r. demand 25 i (not (is_astray (step p.stand (sign c)))) (demand 26 i (not (over p.stand (sign c))) r)) (one_on (step p.stand (sign c)))

    pub atom-tested : kind_of (get_or text i 0) ≡ letter → Tested (atom (word (drop i text))) (length (word (drop i text)))
    atom-tested e =
        p.is
        ∙ ap (reading_from i (spot p.stand [])) cut
        ∙ whole-atom i p.stand (get_or text i 0) (drop (suc i) text) e
        ∙ ap (λ rest. demand 25 i (not (is_astray (step p.stand (atom (word rest)))))
        (demand 26 i (not (over p.stand (atom (word rest))))
        (reading_from (i + length (word rest)) (spot (step p.stand (atom (word rest))) []) (drop (length (word rest)) rest)))) (sym cut)
        ∙ ap (λ rest. demand 25 i (not (is_astray (step p.stand (atom (word (drop i text))))))
        (demand 26 i (not (over p.stand (atom (word (drop i text)))))
        (reading_from (i + length (word (drop i text))) (spot (step p.stand (atom (word (drop i text)))) []) rest)))
        (drop-drop (length (word (drop i text))) i text)

    -- A space or line end.
    pub parse-space : kind_of (get_or text i 0) ≡ space → Parse text (i + 1) mode d known heard
    parse-space e =
        record {
          stand = p.stand;
          is = p.is
              ∙ ap (reading_from i (spot p.stand [])) cut
              ∙ by_kind i (spot p.stand []) (get_or text i 0) (drop (suc i) text) space e
              ∙ ap (λ u. demand 25 i (not u) (reading_from (suc i) (spot p.stand []) (drop (suc i) text))) p.fine
              ∙ one_on p.stand;
          mode_is = p.mode_is;
          fine = p.fine;
          stands = p.stands;
        }
