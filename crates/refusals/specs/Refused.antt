-- A refusal by its number and place, and what is read off an answer that may be one.
use Rattle.std.specs.Prelude.{ℕ, Result, Ok, Err}
use Rattle.refusals.specs.declared.Refusal.{Refusal}

abbrev pub refusal_at : (number place : ℕ) → Refusal
refusal_at number place = record { number = number; place = place }

-- Document 01's number and place of an answer. Success is number 0 with place 0.
abbrev pub number_in : {A : Type 0} → Result A Refusal → ℕ
number_in (Ok answer) = 0
number_in (Err r) = r.number

abbrev pub place_in : {A : Type 0} → Result A Refusal → ℕ
place_in (Ok answer) = 0
place_in (Err r) = r.place
