-- Readers that go the same way, whatever they hand back. So an occurrence is nets, a number and nets, and the code takes these
-- one after the other.
use Rattle.std.specs.Prelude.{ℕ, suc, ◌≡◌, refl, List, ◌∷◌}
use Rattle.meaning.specs.Reading.{Step, got, refused, Reader, onward, bind, give, read_number, read_count, read_many, read_nets, read_occurrence, read_module, most_occurrences}
use Rattle.read_parts.specs.Steps.{read_body, way_of}

pub record Alike {A B : Type 0} (r : Reader A) (s : Reader B) : Type 0 where
  pub same : (bytes : List ℕ) (p : ℕ) (rest : List ℕ) → way_of bytes (r p rest) ≡ way_of bytes (s p rest)

-- One after the other, the first only passed.
abbrev pub skip : {A B : Type 0} → Reader A → Reader B → Reader B
skip r s = bind r (λ _. s)

alike-give : {A B : Type 0} (r : Reader A) (f : A → B) → Alike (bind r (λ a. give (f a))) r
alike-give {A} r f = record { same = λ bytes p rest. step bytes (r p rest) }
  where
    step : (bytes : List ℕ) (s : Step A) → way_of bytes (onward (λ a. give (f a)) s) ≡ way_of bytes s
    step bytes (got a q rest) = refl
    step bytes (refused number q) = refl

alike-bind : {A B C : Type 0} (r : Reader A) {next : A → Reader B} {next' : A → Reader C}
    → ((a : A) → Alike (next a) (next' a)) → Alike (bind r next) (bind r next')
alike-bind {A} r {next} {next'} alike = record { same = λ bytes p rest. step bytes (r p rest) }
  where
    step : (bytes : List ℕ) (s : Step A) → way_of bytes (onward next s) ≡ way_of bytes (onward next' s)
    step bytes (got a q rest) = (alike a).same bytes q rest
    step bytes (refused number q) = refl

pub alike-many : {A : Type 0} (r : Reader A) (n : ℕ) → Alike (read_many r (suc n)) (skip r (read_many r n))
unfolding read_many
alike-many r n = alike-bind r (λ x. alike-give (read_many r n) (λ xs. x ∷ xs))

pub alike-occurrence : Alike read_occurrence (skip read_nets (skip read_number read_nets))
unfolding read_occurrence
alike-occurrence = alike-bind read_nets (λ drives. alike-bind read_number (λ refers. alike-give read_nets _))

pub alike_module : Alike read_module (skip read_number (skip read_nets (skip read_nets read_body)))
unfolding read_module
alike_module =
    alike-bind read_number (λ number.
    alike-bind read_nets (λ inputs.
    alike-bind read_nets (λ outputs.
    alike-bind (read_count most_occurrences) (λ n.
    alike-give (read_many read_occurrence n) _))))
