-- The meaning of a module depends only on the modules from it to the end of the list, and so do its figures and its flattening.
-- Every one of them goes through the list until it meets the module's number: that is all that the one law here asks.
use Rattle.std.specs.Prelude.{ℕ, ◌≡◌, refl, Bool, true, false, cond, List, [], ◌∷◌, ◌++◌, eqb}
use Rattle.std.proofs.Math.Path.{fun_ext}
use Rattle.std.proofs.Common.{◌∙◌, arith}
use Rattle.meaning.specs.Syntax.{Module}
use Rattle.meaning.specs.Boxlist.{box, F, assoc}
use Rattle.meaning.specs.Limits.{expanded_size}
use Rattle.meaning.specs.Values.{known}
use Rattle.meaning.specs.Evaluation.{Meaning, run, gate_outputs, evaluate}
use Rattle.meaning.specs.Figures.{gate_weight, gate_count, kind_count, tally, room}
use Rattle.meaning.specs.Figures.{gate_arrival, arrivals, delay_by, delay}
use Rattle.meaning.specs.Flattening.{place, flat_module}

-- What a list of modules says of a number stays the same with a module of another number in front.
pub record Searches {C : Type 0} (f : List Module → ℕ → C) : Type 0 where
  pub passes :
      (m : Module) (ms : List Module) (number : ℕ) → eqb number m.number ≡ false → f (m ∷ ms) number ≡ f ms number

-- A number that no module of a list has is another than the first one's, and none of the rest has it.
pub record Unmet (number : ℕ) (m : Module) (ms : List Module) : Type 0 where
  pub another : eqb number m.number ≡ false
  pub further : assoc number ms ≡ F

pub unmet : (number : ℕ) (m : Module) (ms : List Module) → assoc number (m ∷ ms) ≡ F → Unmet number m ms
unfolding assoc
unmet number m ms = go (eqb number m.number) refl
  where
    go : (b : Bool) → eqb number m.number ≡ b → cond b (box m) (assoc number ms) ≡ F → Unmet number m ms
    go true e h = absurd (let z : ◌≡◌ {A = ℕ} 0 1 = cc in omega arith)
    go false e h = record { another = e; further = h }

-- Modules in front, none of which has the number, change nothing.
pub past-front :
    {C : Type 0} {f : List Module → ℕ → C}
    → Searches f
    → (front ms : List Module) (number : ℕ)
    → assoc number front ≡ F
    → f (front ++ ms) number ≡ f ms number
past-front search [] ms number h = refl
past-front search (m ∷ front) ms number h =
    let there = unmet number m front h in
    search.passes m (front ++ ms) number there.another ∙ past-front search front ms number there.further

-- A list of which no module has the number says what the empty list says.
pub no_module :
    {C : Type 0} {f : List Module → ℕ → C}
    → Searches f
    → (ms : List Module) (number : ℕ)
    → assoc number ms ≡ F
    → f ms number ≡ f [] number
no_module search [] number h = refl
no_module search (m ∷ ms) number h =
    let there = unmet number m ms h in
    search.passes m ms number there.another ∙ no_module search ms number there.further

-- All of these search in that way.
pub assoc_searches : Searches (λ ms number. assoc number ms)
unfolding assoc
assoc_searches = record { passes = λ m ms number h. rw h }

pub run_searches : {A : Type 0} (none : A) (gate_meaning : Meaning A) → Searches (run none gate_meaning)
unfolding run
run_searches none gate_meaning = record { passes = λ m ms number h. fun_ext (λ vs. rw h) }

pub run-past-front :
    {A : Type 0} (none : A) (gate_meaning : Meaning A) (front ms : List Module) (number : ℕ)
    → assoc number front ≡ F
    → (vs : List A)
    → run none gate_meaning (front ++ ms) number vs ≡ run none gate_meaning ms number vs
run-past-front none gate_meaning front ms number new vs = rw (past-front (run_searches none gate_meaning) front ms number new)

pub evaluate_searches : Searches evaluate
unfolding evaluate
evaluate_searches = run_searches (known false) gate_outputs

pub expanded_size_searches : Searches expanded_size
unfolding expanded_size
expanded_size_searches = record { passes = λ m ms number h. rw h }

pub gate_weight_searches : (weight : ℕ → ℕ) → Searches (gate_weight weight)
unfolding gate_weight
gate_weight_searches weight = record { passes = λ m ms number h. rw h }

pub gate_count_searches : Searches gate_count
unfolding gate_count
gate_count_searches = gate_weight_searches (λ kind. 1)

pub kind_count_searches : (kind : ℕ) → Searches (kind_count kind)
unfolding kind_count
kind_count_searches kind = gate_weight_searches (λ other. cond (eqb other kind) 1 0)

pub tally_searches : Searches tally
unfolding tally
tally_searches =
    record {
      passes = λ m ms number h.
          let past : (kind : ℕ) → kind_count kind (m ∷ ms) number ≡ kind_count kind ms number
          = λ kind. (kind_count_searches kind).passes m ms number h in
          simp past;
    }

pub room_searches : Searches room
unfolding room
room_searches = record { passes = λ m ms number h. rw h }

pub arrivals_searches : (delay : ℕ → ℕ) → Searches (arrivals delay)
unfolding arrivals
arrivals_searches delay = run_searches 0 (gate_arrival delay)

pub delay_by_searches : (delay : ℕ → ℕ) → Searches (delay_by delay)
unfolding delay_by
delay_by_searches delay =
    record { passes = λ m ms number h. rw ((arrivals_searches delay).passes m ms number h, assoc_searches.passes m ms number h) }

pub delay_searches : Searches delay
unfolding delay
delay_searches = delay_by_searches (λ kind. 1)

pub place_searches : Searches place
unfolding place
place_searches = record { passes = λ m ms number h. fun_ext (λ nets. fun_ext (λ board. rw h)) }

pub flat_module_searches : Searches flat_module
unfolding flat_module
flat_module_searches = record { passes = λ m ms number h. fun_ext (λ inputs. rw (place_searches.passes m ms number h)) }
