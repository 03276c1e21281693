-- The check of a whole file, and then its answer.
use Rattle.std.specs.Prelude.{Result, Err, Ok}
use Rattle.refusals.specs.declared.Refusal.{Refusal}
use Prim.Native.Nat.{ℕ}
use mathlib.Core.Path.{◌≡◌, refl, sym, ap, subst, ◌∙◌}
use mathlib.Core.List.{List}
use lib.ListN.{length}
use Rattle.meaning.specs.Layout.{encode}
use Rattle.meaning.specs.Verdict.{Verdict, good, refused, file_verdict}
use Rattle.meaning.specs.Calls.{Decision, refusal, answer, if_good, Written, fitting, on_file, module_count}
use Rattle.laws.specs.RoundTrip.{round_trip}
use Rattle.answers.specs.Answers.{writing_of, Answers, ok_not_err}
use Rattle.answers.specs.Contents.{found_of}
use Rattle.join_ending.specs.Joins.{joining_as, Joins, neither, of_writing}
use Rattle.join_ending.specs.Assembling.{Whole}
use Rattle.two_files.specs.declared.ShelfRefusal.{ShelfRefusal}

-- The count of a whole file's modules is its check.
count_of : {file : List ℕ} (w : Whole file) → module_count file ≡ if_good (file_verdict w.ms) (answer (length w.ms))
unfolding module_count on_file
count_of w = rw (w.is, round_trip w.ms w.within)

of-decision : (d : Decision Written) → of_writing (writing_of d) ≡ joining_as 0 d
of-decision (refusal number place) = refl
of-decision (answer w) = refl

-- What is refused of the joined file is about neither of the two.
pub joins_writing : {d : Decision Written} {before after : List ℕ} {writing : Result ℕ Refusal} {result : Result ℕ ShelfRefusal}
    → Answers d before after writing → result ≡ of_writing writing → Joins (neither d) before after result
joins_writing {d} a e = record { is = e ∙ ap of_writing a.is ∙ of-decision d; out = a.out }

-- The check's refusal, or the answer of the file.
module _ {file : List ℕ} (w : Whole file) (out : ℕ) (before : List ℕ) where
  pub delivers-refused : {why : Refusal} → Err why ≡ found_of (module_count file)
      → Answers (if_good (file_verdict w.ms) (fitting (encode w.ms) 0 out)) before before (Err why)
  delivers-refused {why} e = go (file_verdict w.ms) (e ∙ ap found_of (count_of w))
    where
      go : (v : Verdict) → Err why ≡ found_of (if_good v (answer (length w.ms)))
          → Answers (if_good v (fitting (encode w.ms) 0 out)) before before (Err why)
      go good h = absurd (ok_not_err (sym h))
      go (refused n p) h = record { is = h; out = refl }

  pub delivers :
      {count : ℕ} {after : List ℕ} {writing : Result ℕ Refusal}
      → Ok count ≡ found_of (module_count file)
      → Answers (fitting file 0 out) before after writing
      → Answers (if_good (file_verdict w.ms) (fitting (encode w.ms) 0 out)) before after writing
  delivers {count} {after} {writing} e a = go (file_verdict w.ms) (e ∙ ap found_of (count_of w))
    where
      go : (v : Verdict) → Ok count ≡ found_of (if_good v (answer (length w.ms)))
          → Answers (if_good v (fitting (encode w.ms) 0 out)) before after writing
      go good h = subst (λ (l : List ℕ). Answers (fitting l 0 out) before after writing) w.is a
      go (refused n p) h = absurd (ok_not_err h)
