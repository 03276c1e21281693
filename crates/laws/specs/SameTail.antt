-- Two accepted files that hold the same modules from the named one to the end answer alike whatever is asked of that module: the same
-- outputs, the same figures, the same flattened bytes, and the same refusals.
use Rattle.std.specs.Prelude.{ℕ, ◌≡◌, refl, List, [], ◌∷◌, ◌++◌, leb}
use Rattle.std.proofs.Common.{sym, ◌∙◌, eq-eqb}
use Rattle.meaning.specs.Syntax.{Module}
use Rattle.meaning.specs.Boxlist.{Found, box, F, assoc}
use Rattle.meaning.specs.Reading.{holds, read}
use Rattle.meaning.specs.Verdict.{good, file_verdict}
use Rattle.meaning.specs.Figures.{room}
use Rattle.meaning.specs.Calls.{Decision, answer, demand, on_module, on_file}
use Rattle.meaning.specs.Calls.{evaluation_on, evaluation, flat_file, flattening_on, flattening, figures_on, counting}
use Rattle.laws.specs.WellFormed.{Accepted, some}
use Rattle.laws.specs.Accepted.{good-accepted}
use Rattle.laws.specs.References.{another-number}
use Rattle.laws.specs.Suffix.{Searches, past-front, assoc_searches}
use Rattle.laws.specs.Suffix.{evaluate_searches, expanded_size_searches, gate_count_searches, tally_searches, room_searches}
use Rattle.laws.specs.Suffix.{delay_searches, flat_module_searches}
use Rattle.laws.specs.Loads.Suffix.{largest_load_searches}

-- An accepted file that ends with a module and those behind it.
pub record EndsWith (file : List ℕ) (m : Module) (behind : List Module) : Type 0 where
  pub front : List Module
  pub reads : read file ≡ holds (front ++ (m ∷ behind))
  pub accepted : file_verdict (front ++ (m ∷ behind)) ≡ good

found_first : (m : Module) (behind : List Module) → assoc m.number (m ∷ behind) ≡ box m
unfolding assoc
found_first m behind = rw (eq-eqb m.number m.number refl)

-- No module in front has its number.
none_in_front : (front : List Module) (m : Module) (behind : List Module) → Accepted (front ++ (m ∷ behind)) → assoc m.number front ≡ F
unfolding assoc
none_in_front [] m behind accepted = refl
none_in_front (other ∷ front) m behind (some ok accepted) =
    let further = none_in_front front m behind accepted in
    let found = past-front assoc_searches front (m ∷ behind) m.number further ∙ found_first m behind in
    rw (another-number m.number other.number (front ++ (m ∷ behind)) found ok.unique) further

-- What is asked of a number's module through the list is asked of the end alone.
module _ {R : Type 0} {ask : List Module → ℕ → Decision R} (search : Searches ask) where
  asked-of-end :
      (file : List ℕ) {m : Module} {behind : List Module}
      → EndsWith file m behind
      → on_file file (λ ms. ask ms m.number) ≡ ask (m ∷ behind) m.number
  unfolding on_file
  asked-of-end file {m} {behind} ends =
      rw (ends.reads, ends.accepted)
      (past-front search ends.front (m ∷ behind) m.number
      (none_in_front ends.front m behind (good-accepted (ends.front ++ (m ∷ behind)) ends.accepted)))

  asked-alike :
      (file file' : List ℕ) {m : Module} {behind : List Module}
      → EndsWith file m behind
      → EndsWith file' m behind
      → on_file file (λ ms. ask ms m.number) ≡ on_file file' (λ ms. ask ms m.number)
  asked-alike file file' ends ends' = asked-of-end file ends ∙ sym (asked-of-end file' ends')

-- Each call asks so: it looks the number up, and then asks what it needs of the module found.
module_alike :
    {R : Type 0} {found found' : Found} {ask ask' : Module → Decision R}
    → found ≡ found'
    → ((m : Module) → ask m ≡ ask' m)
    → on_module found ask ≡ on_module found' ask'
module_alike {found} {ask} {ask'} same alike = rw (← same) (go found)
  where
    go : (f : Found) → on_module f ask ≡ on_module f ask'
    go (box m) = alike m
    go F = refl

evaluation_searches :
    (values : List ℕ) (scratch out : ℕ)
    → Searches (λ ms number. on_module (assoc number ms) (evaluation_on number values scratch out ms))
evaluation_searches values scratch out =
    record {
      passes = λ m ms number h.
          module_alike (assoc_searches.passes m ms number h)
          (λ found. rw (room_searches.passes m ms number h, evaluate_searches.passes m ms number h));
    }

flattening_searches : (scratch out : ℕ) → Searches (λ ms number. on_module (assoc number ms) (flattening_on number scratch out ms))
unfolding flat_file
flattening_searches scratch out =
    record {
      passes = λ m ms number h.
          module_alike (assoc_searches.passes m ms number h)
          (λ found.
          rw (
            gate_count_searches.passes m ms number h,
            room_searches.passes m ms number h,
            flat_module_searches.passes m ms number h,
          ));
    }

counting_searches :
    (scratch : ℕ)
    → Searches (λ ms number. on_module (assoc number ms) λ m. demand 21 0 (leb (room ms number) scratch) (answer (figures_on number ms m)))
counting_searches scratch =
    record {
      passes = λ m ms number h.
          module_alike (assoc_searches.passes m ms number h)
          (λ found.
          rw (
            tally_searches.passes m ms number h,
            gate_count_searches.passes m ms number h,
            expanded_size_searches.passes m ms number h,
            room_searches.passes m ms number h,
            delay_searches.passes m ms number h,
            largest_load_searches.passes m ms number h,
          ));
    }

-- The module's own number is asked for.
module _ {file file' : List ℕ} {m : Module} {behind : List Module} (ends : EndsWith file m behind) (ends' : EndsWith file' m behind) where
  pub same-evaluation :
      (values : List ℕ) (scratch out : ℕ)
      → evaluation file m.number values scratch out ≡ evaluation file' m.number values scratch out
  unfolding evaluation
  same-evaluation values scratch out = asked-alike (evaluation_searches values scratch out) file file' ends ends'

  pub same-flattening :
      (scratch out : ℕ) → flattening file m.number scratch out ≡ flattening file' m.number scratch out
  unfolding flattening
  same-flattening scratch out = asked-alike (flattening_searches scratch out) file file' ends ends'

  pub same-counting : (scratch : ℕ) → counting file m.number scratch ≡ counting file' m.number scratch
  unfolding counting
  same-counting scratch = asked-alike (counting_searches scratch) file file' ends ends'
