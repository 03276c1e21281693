-- What joining answers, and what it leaves in the buffer that was lent to it.
use Rattle.std.specs.Prelude.{ℕ, ◌≡◌, refl, List, length, Result, Ok, Err}
use Rattle.refusals.specs.declared.Refusal.{Refusal}
use Rattle.std.proofs.Common.{ap, sym, ◌∙◌}
use Rattle.meaning.specs.Reading.{File, holds, fails, read}
use Rattle.meaning.specs.Calls.{Decision, refusal, answer, Written, out_after}
use Rattle.meaning.specs.Shelves.{About, on_both, joined, join_on, joining}
use Rattle.two_files.specs.Whose.{which_number, refusal_of}
use Rattle.two_files.specs.declared.ShelfRefusal.{ShelfRefusal}

-- The number of bytes written; or the refusal's number and place, and which file it is about.
abbrev pub joining_as : (which : ℕ) → Decision Written → Result ℕ ShelfRefusal
joining_as which (refusal number place) = Err (refusal_of which number place)
joining_as which (answer w) = Ok (length w.bytes)

pub record Joins (about : About Written) (before after : List ℕ) (result : Result ℕ ShelfRefusal) : Type 0 where
  pub is : result ≡ joining_as about.which about.decision
  pub out : after ≡ out_after about.decision before

-- Any two outcomes that it permits coincide.
pub one-join :
    {about : About Written} {before after after' : List ℕ} {result result' : Result ℕ ShelfRefusal}
    → Joins about before after result
    → Joins about before after' result'
    → (result ≡ result') × (after ≡ after')
one-join one other = (one.is ∙ sym other.is, one.out ∙ sym other.out)

-- The file that an answer names, by its number: that is the definition's, and none where it is answered.
abbrev pub join_which : Result ℕ ShelfRefusal → ℕ
join_which (Ok count) = 0
join_which (Err why) = which_number why.which

join-of : (out : ℕ) (f g : File)
    → (let a = on_both f g (λ own others. record { which = 0; decision = join_on out (joined own others) }) in
    join_which (joining_as a.which a.decision) ≡ a.which)
join-of out (fails n p) g = refl
join-of out (holds own) (fails n p) = refl
join-of out (holds own) (holds others) = go (join_on out (joined own others))
  where
    go : (d : Decision Written) → ◌≡◌ {A = ℕ} (join_which (joining_as 0 d)) 0
    go (refusal n p) = refl
    go (answer w) = refl

pub join-told :
    (group house : List ℕ) (out : ℕ) {r : Result ℕ ShelfRefusal}
    → r ≡ joining_as (joining group house out).which (joining group house out).decision
    → join_which r ≡ (joining group house out).which
unfolding joining
join-told group house out e = ap join_which e ∙ join-of out (read group) (read house)

-- What is about the joined file is about neither of the two.
abbrev pub neither : Decision Written → About Written
neither decision = record { which = 0; decision = decision }

abbrev pub of_writing : Result ℕ Refusal → Result ℕ ShelfRefusal
of_writing (Ok count) = Ok count
of_writing (Err why) = Err (refusal_of 0 why.number why.place)
