-- Reading stops nowhere else: where it refuses, a front of a file stands in front of the place, and at it what is no number that is
-- due.
use Rattle.std.specs.Prelude.{ℕ, ◌≤◌, ◌≡◌, refl, List, [], ◌∷◌, ◌++◌}
use Rattle.std.proofs.Common.{ap, append-nil}
use Rattle.meaning.specs.Layout.{each, list_numbers, occurrence_numbers, module_numbers}
use Rattle.meaning.specs.Reading.{read_many, most_modules, most_nets, most_occurrences}
use Rattle.meaning.specs.Reading.{read_number, read_count, read_nets, read_occurrence, read_module, read_modules}
use Rattle.meaning.specs.Ceilings.{most_number, Small, NetsWithin, OccurrenceWithin, ModuleWithin}
use Rattle.meaning.specs.Fronts.{NetsFront, OccurrenceFront, ModuleFront, FileFront}
use Rattle.laws.specs.Exactness.{nets-exact, occurrence-exact, module_exact}
use Rattle.laws.specs.Unreadable.Refusing.{Refuses, Laid, refuses-give, refuses_as, refuses-bind, Among, among, many-refuses, many-laid}
use Rattle.laws.specs.Unreadable.Numbers.{NumberFront, due, number-laid, count-laid}

each-one : (xs : List ℕ) → each (λ x. x ∷ []) xs ≡ xs
unfolding each
each-one [] = refl
each-one (x ∷ xs) = ap (λ (l : List ℕ). x ∷ l) (each-one xs)

nets-laid : Laid read_nets list_numbers NetsWithin NetsFront
unfolding read_nets
nets-laid =
    record {
      exact = nets-exact;
      refuses =
          refuses-bind (read_count most_nets) _ (count-laid most_nets) first (λ n few.
          refuses_as (many-refuses number-laid n) (later n few));
    }
  where
    first : (before : List ℕ) (most : ℕ) → NumberFront most_nets before most → NetsFront before most
    first before most due = NetsFront.count

    later :
        (n : ℕ)
        → n ≤ most_nets
        → (before : List ℕ) (most : ℕ)
        → Among (λ x. x ∷ []) Small (NumberFront most_number) n before most
        → NetsFront (n ∷ before) most
    later n few before most (among xs all left due) = rw (append-nil, each-one xs) (NetsFront.net few all left)

occurrence-laid : Laid read_occurrence occurrence_numbers OccurrenceWithin OccurrenceFront
unfolding read_occurrence
occurrence-laid =
    record {
      exact = occurrence-exact;
      refuses =
          refuses-bind read_nets _ nets-laid (λ before most f. OccurrenceFront.drives f) (λ drives w.
          refuses-bind read_number _ number-laid (refers drives w) (λ x small.
          refuses-bind read_nets _ nets-laid (λ before most f. OccurrenceFront.takes w small f) (λ takes w'.
          refuses-give)));
    }
  where
    refers :
        (drives : List ℕ)
        → NetsWithin drives
        → (before : List ℕ) (most : ℕ)
        → NumberFront most_number before most
        → OccurrenceFront (list_numbers drives ++ before) most
    refers drives w before most due = rw append-nil (OccurrenceFront.refers w)

module _ {n : ℕ} {ins outs : List ℕ} (small : Small n) (i : NetsWithin ins) (o : NetsWithin outs) where
  count-front :
      (before : List ℕ) (most : ℕ)
      → NumberFront most_occurrences before most
      → ModuleFront (n ∷ (list_numbers ins ++ (list_numbers outs ++ before))) most
  count-front before most due = rw append-nil (ModuleFront.count small i o)

  occurrence-front :
      {k : ℕ}
      → k ≤ most_occurrences
      → (before : List ℕ) (most : ℕ)
      → Among occurrence_numbers OccurrenceWithin OccurrenceFront k before most
      → ModuleFront (n ∷ (list_numbers ins ++ (list_numbers outs ++ (k ∷ before)))) most
  occurrence-front few before most (among os all left f) = ModuleFront.occurrence small i o few all left f

module_laid : Laid read_module module_numbers ModuleWithin ModuleFront
unfolding read_module
module_laid =
    record {
      exact = module_exact;
      refuses =
          refuses-bind read_number _ number-laid number (λ n small.
          refuses-bind read_nets _ nets-laid (λ before most f. ModuleFront.inputs small f) (λ ins i.
          refuses-bind read_nets _ nets-laid (λ before most f. ModuleFront.outputs small i f) (λ outs o.
          refuses-bind (read_count most_occurrences) _ (count-laid most_occurrences) (count-front small i o) (λ k few.
          refuses-bind (read_many read_occurrence k) _ (many-laid occurrence-laid k) (occurrence-front small i o few) (λ os counted.
          refuses-give)))));
    }
  where
    number : (before : List ℕ) (most : ℕ) → NumberFront most_number before most → ModuleFront before most
    number before most due = ModuleFront.number

pub modules_refuse : Refuses read_modules FileFront
unfolding read_modules
modules_refuse =
    refuses-bind (read_count most_modules) _ (count-laid most_modules) first (λ k few.
    refuses_as (many-refuses module_laid k) (later few))
  where
    first : (before : List ℕ) (most : ℕ) → NumberFront most_modules before most → FileFront before most
    first before most due = FileFront.count

    later :
        {k : ℕ}
        → k ≤ most_modules
        → (before : List ℕ) (most : ℕ)
        → Among module_numbers ModuleWithin ModuleFront k before most
        → FileFront (k ∷ before) most
    later few before most (among ms all left f) = FileFront.in_module few all left f
