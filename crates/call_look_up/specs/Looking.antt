-- What is found of a number in two files, and what the answer means in the words of the definition.
use Rattle.std.specs.Prelude.{ℕ, ◌≡◌, refl, cond, List, eqb, length, Option, Some, None, Result, Ok, Err}
use Rattle.std.proofs.Common.{ap, sym, ◌∙◌}
use Rattle.meaning.specs.Boxlist.{Found, box, F, assoc}
use Rattle.meaning.specs.Reading.{File, holds, fails, read}
use Rattle.meaning.specs.Calls.{Decision, refusal, answer}
use Rattle.meaning.specs.Shelves.{About, Part, on_both, or_else, look_up_on, look_up, handed}
use Rattle.refusals.specs.declared.Refusal.{Refusal}
use Rattle.call_look_up.specs.declared.seeking.Stretch.{Stretch}
use Rattle.call_look_up.specs.declared.Looked.{Looked}
use Rattle.call_look_up.specs.declared.Looked.TheVariants.{Group, House}
use Rattle.two_files.specs.Whose.{which_number, refusal_of}
use Rattle.two_files.specs.declared.ShelfRefusal.{ShelfRefusal}

-- Both files are asked, the group's first.
abbrev pub chosen_of : (group house : Result (Option Stretch) Refusal) → Result Looked ShelfRefusal
chosen_of (Err why) house = Err (refusal_of 1 why.number why.place)
chosen_of (Ok (Some own)) (Err why) = Err (refusal_of 2 why.number why.place)
chosen_of (Ok (Some own)) (Ok (Some other)) = Ok (Group own)
chosen_of (Ok (Some own)) (Ok None) = Ok (Group own)
chosen_of (Ok None) (Err why) = Err (refusal_of 2 why.number why.place)
chosen_of (Ok None) (Ok (Some other)) = Ok (House other)
chosen_of (Ok None) (Ok None) = Err (refusal_of 0 18 0)

-- The answer for each case of the definition: which file by the case, and where the part stands.
abbrev pub stretch_of : Part → Stretch
stretch_of part = record { start = part.start; length = length part.bytes }

abbrev pub looked_as : (which : ℕ) → Decision Part → Result Looked ShelfRefusal
looked_as which (refusal number place) = Err (refusal_of which number place)
looked_as which (answer part) = Ok (cond (eqb which 1) (Group (stretch_of part)) (House (stretch_of part)))

abbrev pub looked_of : About Part → Result Looked ShelfRefusal
looked_of a = looked_as a.which a.decision

-- The file that an answer names, by its number: that is the definition's, on a refusal too.
abbrev pub which_in : Result Looked ShelfRefusal → ℕ
which_in (Ok (Group part)) = 1
which_in (Ok (House part)) = 2
which_in (Err why) = which_number why.which

look-which : (number : ℕ) (f g : File) → (let a = on_both f g (look_up_on number) in which_in (looked_of a) ≡ a.which)
look-which number (fails n p) g = refl
look-which number (holds own) (fails n p) = refl
look-which number (holds own) (holds others) = go (assoc number own) (assoc number others)
  where
    go : (f g : Found)
        → (let a = or_else 1 number own f (or_else 2 number others g (record { which = 0; decision = refusal 18 0 })) in which_in (looked_of a) ≡ a.which)
    go (box m) g = refl
    go F (box m) = refl
    go F F = refl

pub look-told :
    (group house : List ℕ) (number : ℕ) {r : Result Looked ShelfRefusal} → r ≡ looked_of (look_up group house number)
    → which_in r ≡ (look_up group house number).which
unfolding look_up
look-told group house number e = ap which_in e ∙ look-which number (read group) (read house)

-- Each contract is an equation, so any two outcomes that it permits coincide.
pub one-look :
    (group house : List ℕ) (number : ℕ) {result result' : Result Looked ShelfRefusal}
    → result ≡ looked_of (look_up group house number)
    → result' ≡ looked_of (look_up group house number)
    → result ≡ result'
one-look group house number one other = one ∙ sym other

pub one-part :
    (group house : List ℕ) (number : ℕ) {part part' : List ℕ}
    → part ≡ handed (look_up group house number).decision
    → part' ≡ handed (look_up group house number).decision
    → part ≡ part'
one-part group house number one other = one ∙ sym other
