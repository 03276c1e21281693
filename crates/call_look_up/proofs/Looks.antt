-- From what two files have of a number to the look-up, and from there to the part that is handed back.
use Prim.Native.Nat.{ℕ, ◌+◌, ◌≤◌}
use mathlib.Core.Path.{◌≡◌, refl, sym, ap, ap₂, ◌∙◌}
use mathlib.Core.Bool.{Bool, true, false, cond}
use mathlib.Core.List.{List}
use native.Mathlib.Omega.{arith}
use lib.Dec.{eqb}
use lib.ListN.{length, take, drop}
use Rattle.meaning.specs.Boxlist.{Found, box, F, assoc}
use Rattle.meaning.specs.Ceilings.{Bytes}
use Rattle.meaning.specs.Reading.{File, holds, fails, read}
use Rattle.meaning.specs.Calls.{Decision, refusal, answer}
use Rattle.meaning.specs.Shelves.{About, Part, on_both, or_else, look_up_on, look_up, handed}
use Rattle.read_parts.specs.Ways.{ok_not_err}
use Rattle.laws.specs.LookUp.{StandsIn, look_up_stands}
use Rattle.call_look_up.specs.Seeking.{sought_in, sought_of}
use Rattle.call_look_up.specs.Looking.{chosen_of, stretch_of, looked_as, looked_of}
use Rattle.refusals.specs.declared.Refusal.{Refusal}
use Rattle.call_look_up.specs.declared.seeking.Stretch.{Stretch}
use Rattle.std.specs.Prelude.{Option, Result, Ok, Err}
use Rattle.two_files.specs.Whose.{refusal_of}
use Rattle.two_files.specs.declared.ShelfRefusal.{ShelfRefusal}
use Rattle.call_look_up.specs.declared.Looked.{Looked}
use Rattle.call_look_up.specs.declared.Looked.TheVariants.{Group, House}

chosen-looked : (number : ℕ) (f g : File) → chosen_of (sought_of number f) (sought_of number g) ≡ looked_of (on_both f g (look_up_on number))
chosen-looked number (fails n p) g = refl
chosen-looked number (holds own) (fails n p) = go (assoc number own)
  where
    go : (f : Found) → chosen_of (Ok (sought_in number own f)) (sought_of number (fails n p)) ≡ Err (refusal_of 2 n p)
    go (box m) = refl
    go F = refl
chosen-looked number (holds own) (holds others) = go (assoc number own) (assoc number others)
  where
    go :
        (f g : Found)
        → chosen_of (Ok (sought_in number own f)) (Ok (sought_in number others g))
        ≡ looked_of (or_else 1 number own f (or_else 2 number others g (record { which = 0; decision = refusal 18 0 })))
    go (box m) (box k) = refl
    go (box m) F = refl
    go F (box k) = refl
    go F F = refl

pub looks :
    (group house : List ℕ) (number : ℕ) {f g : Result (Option Stretch) Refusal}
    → f ≡ sought_of number (read group)
    → g ≡ sought_of number (read house)
    → chosen_of f g ≡ looked_of (look_up group house number)
unfolding look_up
looks group house number e h = ap₂ chosen_of e h ∙ chosen-looked number (read group) (read house)

-- An answer, and which file it is about.
record Answered (a : About Part) (first : Bool) (s : Stretch) : Type 0 where
  part : Part
  decided : a.decision ≡ answer part
  start_is : s.start ≡ part.start
  count_is : s.length ≡ length part.bytes
  about : eqb a.which 1 ≡ first

abbrev side_of : Bool → Stretch → Looked
side_of true s = Group s
side_of false s = House s

answered : (a : About Part) (b : Bool) (s : Stretch) → Ok (side_of b s) ≡ looked_of a → Answered a b s
answered a b s = go a.decision refl
  where
    same :
        (b c : Bool) (part : Part)
        → a.decision ≡ answer part
        → eqb a.which 1 ≡ c
        → ◌≡◌ {A = Result Looked ShelfRefusal} (Ok (side_of b s)) (Ok (cond c (Group (stretch_of part)) (House (stretch_of part))))
        → Answered a b s
    same true true part d w e = record { part = part; decided = d; start_is = cc; count_is = cc; about = w }
    same false false part d w e = record { part = part; decided = d; start_is = cc; count_is = cc; about = w }
    same true false part d w e = absurd (let z : ◌≡◌ {A = ℕ} 0 1 = cc in omega arith)
    same false true part d w e = absurd (let z : ◌≡◌ {A = ℕ} 0 1 = cc in omega arith)

    go : (d : Decision Part) → a.decision ≡ d → Ok (side_of b s) ≡ looked_as a.which d → Answered a b s
    go (refusal n p) d e = absurd (ok_not_err e)
    go (answer part) d e = same b (eqb a.which 1) part d refl e

-- The part that is handed back.
pub record Handed (file : List ℕ) (start count : ℕ) (part : List ℕ) : Type 0 where
  pub within : start + count ≤ length file
  pub is : take count (drop start file) ≡ part

module _ (group house : List ℕ) (number : ℕ) (b : Bytes group) (c : Bytes house) where
  handed-part :
      (first : Bool) (s : Stretch)
      → Ok (side_of first s) ≡ looked_of (look_up group house number)
      → Handed (cond first group house) s.start s.length (handed (look_up group house number).decision)
  handed-part first s e =
      let a = answered (look_up group house number) first s e in
      let t = look_up_stands group house number b c a.decided in
      let about = a.about in
      let stands : StandsIn (cond first group house) a.part = rw about at t in
      record {
        within = omega (arith, stands.within, a.start_is, a.count_is);
        is =
            ap₂ (λ (n i : ℕ). take n (drop i (cond first group house))) a.count_is a.start_is
            ∙ stands.is
            ∙ sym (ap handed a.decided);
      }

  pub out-of-group :
      (s : Stretch) → Ok (Group s) ≡ looked_of (look_up group house number)
      → Handed group s.start s.length (handed (look_up group house number).decision)
  out-of-group s e = handed-part true s e

  pub out-of_house :
      (s : Stretch) → Ok (House s) ≡ looked_of (look_up group house number)
      → Handed house s.start s.length (handed (look_up group house number).decision)
  out-of_house s e = handed-part false s e
