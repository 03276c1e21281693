-- Reading stops where no number stands that is due: behind any front of a file, at bytes that are no number or a count over its
-- ceiling, the refusal is that of those bytes.
use Rattle.std.specs.Prelude.{ℕ, zero, suc, ◌+◌, ◌*◌, ◌-◌, ◌≤◌, ◌<◌, ◌⊎◌, ◌≡◌, refl, Bool, true, false, cond, ◌||◌, leb, eqb, length}
use Rattle.std.proofs.Common.{add_assoc, arith, inl, inr, ap, lit≤, length-append, le-ltb, leb-false}
use mathlib.Core.List.{List, [], ◌∷◌, ◌++◌, append-nil, append_assoc}
use Rattle.std.proofs.lemmas.Bool.{lt-leb}
use Rattle.meaning.specs.Lists.{All, none, more}
use Rattle.meaning.specs.Layout.{each, list_numbers, occurrence_numbers, module_numbers, number_bytes}
use Rattle.meaning.specs.Reading.{got, refused, Reader, onward, bind, read_many, most_modules, most_nets, most_occurrences}
use Rattle.meaning.specs.Reading.{second_group, read_number, read_count, read_nets, read_occurrence, read_module, read_modules}
use Rattle.meaning.specs.Ceilings.{most_number}
use Rattle.meaning.specs.Fronts.{NetsFront, OccurrenceFront, ModuleFront, FileFront, IllFormed, nothing, half, bad_second, Unread, ill_formed, over}
use Rattle.laws.specs.Lists.{each_append, each-of-each, all_map}
use Rattle.laws.specs.Written.{nets_bytes}
use Rattle.laws.specs.Reading.{Undoes}
use Rattle.laws.specs.RoundTrip.{number_undone, count_undone, nets_undone, occurrence_undone, module_undone}

-- A reader stops behind some bytes, at those that follow.
pub record Stops {A : Type 0} (r : Reader A) (front rest : List ℕ) (number behind : ℕ) : Type 0 where
  pub stops : (p : ℕ) → r p (front ++ rest) ≡ refused number (p + length front + behind)

second-stops :
    (p first second : ℕ) (rest : List ℕ)
    → (second ≡ 0) ⊎ (128 ≤ second)
    → second_group (first - 128) p (second ∷ rest) ≡ refused 3 p
unfolding second_group
second-stops p first second rest (inl e) = rw e
second-stops p first second rest (inr h) = go (eqb second 0) (leb 128 second) refl
  where
    go :
        (a b : Bool)
        → leb 128 second ≡ b
        → cond (a || b) (refused 3 p) (got (first - 128 + 128 * second) (suc (suc p)) rest) ≡ refused 3 p
    go true b e = refl
    go false true e = refl
    go false false e = absurd (omega (arith, leb-false 128 second e))

-- Bytes that are no number stop the reader of one,
ill_formed_stops : {rest : List ℕ} {n k : ℕ} → IllFormed rest n k → Stops read_number [] rest n k
unfolding read_number second_group
ill_formed_stops nothing = record { stops = λ p. let place : p ≡ p + 0 + 0 = omega arith in ap (refused 2) place }
ill_formed_stops (half {first} high) =
    record { stops = λ p. let place : suc p ≡ p + 0 + 1 = omega arith in rw (le-ltb first 128 high, place) }
ill_formed_stops (bad_second {first} {second} {rest} high bad) =
    record {
      stops = λ p.
          let place : p ≡ p + 0 + 0 = omega arith in
          rw (le-ltb first 128 high, ← place) (second-stops p first second rest bad);
    }

number-stops : {rest : List ℕ} {n k : ℕ} → Unread most_number rest n k → Stops read_number [] rest n k
number-stops (ill_formed u) = ill_formed_stops u
number-stops (over n rest big small) = absurd (omega arith)

-- and that of a count, which a number over its ceiling stops too.
count-stops : {most : ℕ} {rest : List ℕ} {n k : ℕ} → Unread most rest n k → Stops (read_count most) [] rest n k
unfolding read_count
count-stops (ill_formed u) = record { stops = λ p. ap (onward _) ((ill_formed_stops u).stops p) }
count-stops {most} (over n rest big small) =
    record {
      stops = λ p.
          let place : p ≡ p + 0 + 0 = omega arith in
          rw ((number_undone n small).reads p rest, lt-leb n most big, ← place);
    }

-- The first of two readers stops, or reads its thing, and then the second stops.
stops-now :
    {A B : Type 0} (r : Reader A) (next : A → Reader B) {front rest : List ℕ} {n k : ℕ}
    → Stops r front rest n k
    → Stops (bind r next) front rest n k
stops-now r next h = record { stops = λ p. ap (onward next) (h.stops p) }

stops-later :
    {A B : Type 0} (r : Reader A) (next : A → Reader B) {a : A} {xs ys rest : List ℕ} {n k : ℕ}
    → Undoes r a xs
    → Stops (next a) ys rest n k
    → Stops (bind r next) (xs ++ ys) rest n k
stops-later r next {xs = xs} {ys = ys} {rest = rest} h s =
    record { stops = λ p. rw (append_assoc xs ys rest, h.reads p (ys ++ rest), s.stops, length-append, ← add_assoc p) }

-- Of many things some are read, and the next stops.
stops-many :
    {A : Type 0} {r : Reader A} {e : A → List ℕ} {xs : List A} {front rest : List ℕ} {n k : ℕ} (m : ℕ)
    → All (λ x. Undoes r x (e x)) xs
    → length xs < m
    → Stops r front rest n k
    → Stops (read_many r m) (each e xs ++ front) rest n k
unfolding read_many each
stops-many zero all few s = absurd (omega arith)
stops-many (suc m) none few s = stops-now _ _ s
stops-many {e = e} {front = front} (suc m) (more {x = x} {xs = xs} h hs) few s =
    rw (append_assoc (e x) (each e xs) front) (stops-later _ _ h (stops-now _ _ (stops-many m hs (omega arith) s)))

module _ {rest : List ℕ} {n k : ℕ} where
  nets-stop : {before : List ℕ} {most : ℕ} → NetsFront before most → Unread most rest n k → Stops read_nets (each number_bytes before) rest n k
  unfolding read_nets each
  nets-stop NetsFront.count u = stops-now _ _ (count-stops u)
  nets-stop (NetsFront.net {n = c} {nets} few small left) u =
      stops-later _ _ (count_undone most_nets c (lit≤ tt) few)
      (rw (← append-nil (each number_bytes nets)) (stops-many c (all_map number_undone small) left (number-stops u)))

  occurrence-stop :
      {before : List ℕ} {most : ℕ}
      → OccurrenceFront before most
      → Unread most rest n k
      → Stops read_occurrence (each number_bytes before) rest n k
  unfolding read_occurrence each
  occurrence-stop (OccurrenceFront.drives f) u = stops-now _ _ (nets-stop f u)
  occurrence-stop (OccurrenceFront.refers {driven} w) u =
      rw (← append-nil (nets_bytes driven)) (stops-later _ _ (nets_undone driven w) (stops-now _ _ (number-stops u)))
  occurrence-stop (OccurrenceFront.takes {driven} {reference = x} w small f) u =
      rw (each_append number_bytes (list_numbers driven) _)
      (stops-later _ _ (nets_undone driven w) (stops-later _ _ (number_undone x small) (stops-now _ _ (nets-stop f u))))

  module_stop :
      {before : List ℕ} {most : ℕ} → ModuleFront before most → Unread most rest n k → Stops read_module (each number_bytes before) rest n k
  unfolding read_module each
  module_stop ModuleFront.number u = stops-now _ _ (number-stops u)
  module_stop (ModuleFront.inputs {n = x} small f) u = stops-later _ _ (number_undone x small) (stops-now _ _ (nets-stop f u))
  module_stop (ModuleFront.outputs {n = x} {ins = ins} small i f) u =
      rw (each_append number_bytes (list_numbers ins) _)
      (stops-later _ _ (number_undone x small) (stops-later _ _ (nets_undone ins i) (stops-now _ _ (nets-stop f u))))
  module_stop (ModuleFront.count {n = x} {ins} {outs} small i o) u =
      rw (each_append number_bytes (list_numbers ins) _, ← append-nil (nets_bytes outs))
      (stops-later _ _ (number_undone x small)
      (stops-later _ _ (nets_undone ins i)
      (stops-later _ _ (nets_undone outs o)
      (stops-now _ _ (count-stops u)))))
  module_stop (ModuleFront.occurrence {n = x} {k = c} {ins = ins} {outs} {before} {os} small i o few all left f) u =
      rw (
        each_append number_bytes (list_numbers ins) _,
        each_append number_bytes (list_numbers outs) _,
        each_append number_bytes (each occurrence_numbers os) before,
        each-of-each number_bytes occurrence_numbers os,
      )
      (stops-later _ _ (number_undone x small)
      (stops-later _ _ (nets_undone ins i)
      (stops-later _ _ (nets_undone outs o)
      (stops-later _ _ (count_undone most_occurrences c (lit≤ tt) few)
      (stops-now _ _ (stops-many c (all_map occurrence_undone all) left (occurrence-stop f u)))))))

  pub file-stop :
      {before : List ℕ} {most : ℕ} → FileFront before most → Unread most rest n k → Stops read_modules (each number_bytes before) rest n k
  unfolding read_modules each
  file-stop FileFront.count u = stops-now _ _ (count-stops u)
  file-stop (FileFront.in_module {k = c} {before = before} {ms} few all left f) u =
      rw (each_append number_bytes (each module_numbers ms) before, each-of-each number_bytes module_numbers ms)
      (stops-later _ _ (count_undone most_modules c (lit≤ tt) few) (stops-many c (all_map module_undone all) left (module_stop f u)))
