-- What the look-up hands back stands in the file that it names, at the place that it names.
use Rattle.std.specs.Prelude.{ℕ, ◌+◌, ◌≤◌, ◌≡◌, refl, Bool, true, false, cond, List, [], ◌∷◌, ◌++◌, eqb, length, take, drop}
use Rattle.std.proofs.Common.{sym, ap, ◌∙◌, arith, length-append}
use Rattle.std.proofs.Math.Seq.{take-append_seam, drop-append_seam}
use Rattle.meaning.specs.Syntax.{Module}
use Rattle.meaning.specs.Boxlist.{Found, box, F, assoc}
use Rattle.meaning.specs.Layout.{each, number_bytes, module_numbers, file_numbers, encode}
use Rattle.meaning.specs.Ceilings.{Bytes, Encodes}
use Rattle.meaning.specs.Reading.{File, holds, fails, read}
use Rattle.meaning.specs.Calls.{refusal, answer}
use Rattle.meaning.specs.Shelves.{on_both, bytes_of, ahead, Part, part_of, or_else, look_up_on, look_up}
use Rattle.laws.specs.Lists.{each_append}
use Rattle.laws.specs.Exactness.{exactness}
use Rattle.laws.specs.Calls.{same_answer}

-- The first module of a number, with those in front of it and behind it.
pub record Split (number : ℕ) (ms : List Module) (m : Module) : Type 0 where
  pub later : List Module
  pub splits : ms ≡ ahead number ms ++ (m ∷ later)

pub split_at : (number : ℕ) (ms : List Module) {m : Module} → assoc number ms ≡ box m → Split number ms m
unfolding assoc ahead
split_at number [] e = absurd (let z : ◌≡◌ {A = ℕ} 0 1 = cc in omega arith)
split_at number (other ∷ ms) {m} e = go (eqb number other.number) refl e (split_at number ms)
  where
    go :
        (b : Bool)
        → eqb number other.number ≡ b
        → cond b (box other) (assoc number ms) ≡ box m
        → (assoc number ms ≡ box m → Split number ms m)
        → Split number (other ∷ ms) m
    go true h found rest = let same : other ≡ m = cc in record { later = ms; splits = rw (h, same) }
    go false h found rest = let s = rest found in record { later = s.later; splits = rw h (ap (◌∷◌ other) s.splits) }

-- A part stands in a file at its place.
pub record StandsIn (file : List ℕ) (part : Part) : Type 0 where
  pub within : part.start + length part.bytes ≤ length file
  pub is : take (length part.bytes) (drop part.start file) ≡ part.bytes

stands-between : (xs ys zs : List ℕ) → StandsIn (xs ++ (ys ++ zs)) (record { start = length xs; bytes = ys })
stands-between xs ys zs =
    record {
      within = omega (arith, length-append xs (ys ++ zs), length-append ys zs);
      is = rw (drop-append_seam xs (ys ++ zs)) (take-append_seam ys zs);
    }

pub part-stands : {file : List ℕ} {ms : List Module} (number : ℕ) {m : Module} → Encodes file ms → assoc number ms ≡ box m → StandsIn file (part_of number ms m)
unfolding encode file_numbers each
part-stands {file} {ms} number {m} e found =
    let s = split_at number ms found in
    let front : List ℕ = length ms ∷ each module_numbers (ahead number ms) in
    let numbers : file_numbers ms ≡ front ++ (module_numbers m ++ each module_numbers s.later) =
    ap (λ (l : List Module). length ms ∷ each module_numbers l) s.splits
    ∙ ap (◌∷◌ (length ms)) (each_append module_numbers (ahead number ms) (m ∷ s.later)) in
    let bytes : file ≡ each number_bytes front ++ (bytes_of m ++ each number_bytes (each module_numbers s.later)) =
    sym e.encoded
    ∙ ap (each number_bytes) numbers
    ∙ each_append number_bytes front (module_numbers m ++ each module_numbers s.later)
    ∙ ap (λ (l : List ℕ). each number_bytes front ++ l) (each_append number_bytes (module_numbers m) (each module_numbers s.later)) in
    rw bytes (stands-between (each number_bytes front) (bytes_of m) (each number_bytes (each module_numbers s.later)))

-- The file that an answer is about.
abbrev pub chosen : (which : ℕ) (group house : List ℕ) → List ℕ
chosen which group house = cond (eqb which 1) group house

pub refusal_no_answer : {R : Type 0} {number place : ℕ} {r : R} → refusal number place ≡ answer r → ⊥
refusal_no_answer h = let z : ◌≡◌ {A = ℕ} 0 1 = cc in omega arith

-- What is handed back is a part of the file that is named, at the place that is named.
pub look_up_stands :
    (group house : List ℕ) (number : ℕ) {part : Part}
    → Bytes group
    → Bytes house
    → (look_up group house number).decision ≡ answer part
    → StandsIn (chosen (look_up group house number).which group house) part
unfolding look_up
look_up_stands group house number {part} b c = go (read group) refl (read house) refl
  where
    in_house :
        (others : List Module)
        → read house ≡ holds others
        → (f : Found)
        → assoc number others ≡ f
        → (let a = or_else 2 number others f (record { which = 0; decision = refusal 18 0 }) in
        a.decision ≡ answer part → StandsIn (chosen a.which group house) part)
    in_house others reads (box m) e h =
        let same : part_of number others m ≡ part = same_answer h in
        rw (← same) (part-stands number (exactness house c others reads) e)
    in_house others reads F e h = absurd (refusal_no_answer h)

    in_group :
        (own others : List Module)
        → read group ≡ holds own
        → read house ≡ holds others
        → (f : Found)
        → assoc number own ≡ f
        → (let a = or_else 1 number own f (or_else 2 number others (assoc number others) (record { which = 0; decision = refusal 18 0 })) in
        a.decision ≡ answer part → StandsIn (chosen a.which group house) part)
    in_group own others reads reads' (box m) e h =
        let same : part_of number own m ≡ part = same_answer h in
        rw (← same) (part-stands number (exactness group b own reads) e)
    in_group own others reads reads' F e h = in_house others reads' (assoc number others) refl h

    go :
        (f : File)
        → read group ≡ f
        → (g : File)
        → read house ≡ g
        → (let a = on_both f g (look_up_on number) in a.decision ≡ answer part → StandsIn (chosen a.which group house) part)
    go (fails n p) e g i h = absurd (refusal_no_answer h)
    go (holds own) e (fails n p) i h = absurd (refusal_no_answer h)
    go (holds own) e (holds others) i h = in_group own others e i (assoc number own) refl h
