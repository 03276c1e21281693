-- Reading refuses a file exactly where its bytes are unreadable, with the number and the place that `Unreadable` names. So that place
-- lies in the file or at its end, and of refusal 2 it is the end.
use Rattle.std.specs.Prelude.{ℕ, ◌+◌, ◌≤◌, ◌↔◌, ◌≡◌, refl, Bool, true, false, cond, List, [], ◌∷◌, leb, length}
use Rattle.std.proofs.Common.{arith, ap, ◌∙◌, length-append, le-leb, leb-true, leb-false}
use Rattle.std.proofs.lemmas.Bool.{lt-leb}
use Rattle.meaning.specs.Syntax.{Module}
use Rattle.meaning.specs.Layout.{each, number_bytes, encode}
use Rattle.meaning.specs.Reading.{Step, got, refused, at_end, holds, fails, read, read_modules, most_bytes}
use Rattle.meaning.specs.Ceilings.{Bytes}
use Rattle.meaning.specs.Fronts.{nothing, half, bad_second, Unread, ill_formed, over}
use Rattle.meaning.specs.Refusals.{Unreadable, too_long, stops, follows}
use Rattle.laws.specs.Exactness.{modules-exact}
use Rattle.laws.specs.RoundTrip.{modules_undone}
use Rattle.laws.specs.Unreadable.Stops.{file-stop}
use Rattle.laws.specs.Unreadable.Things.{modules_refuse}

holds_not_fails : {ms : List Module} {number place : ℕ} → holds ms ≡ fails number place → ⊥
holds_not_fails h = let z : ◌≡◌ {A = ℕ} 0 1 = cc in omega arith

-- A refusal by its number and place.
at : {bytes : List ℕ} {n p number place : ℕ} → Unreadable bytes n p → fails n p ≡ fails number place → Unreadable bytes number place
at {bytes} {n} {p} {number} {place} r e =
    let same : n ≡ number = cc in
    let there : p ≡ place = cc in
    rw (same, there) at r

refused-unreadable : (bytes : List ℕ) → Bytes bytes → (number place : ℕ) → read bytes ≡ fails number place → Unreadable bytes number place
unfolding read
refused-unreadable bytes ok number place = short (leb (length bytes) most_bytes) refl
  where
    at-end :
        length bytes ≤ most_bytes
        → (s : Step (List Module))
        → read_modules 0 bytes ≡ s
        → at_end s ≡ fails number place
        → Unreadable bytes number place
    at-end few (got ms q []) e h = absurd (holds_not_fails h)
    at-end few (got ms q (b ∷ rest)) e h =
        let t = modules-exact.took 0 bytes ok ms q (b ∷ rest) e in
        let there : length (encode ms) ≡ q = omega (arith, t.place_is) in
        at (follows ms b rest few t.good t.bytes-are) (ap (fails 5) there ∙ h)
    at-end few (refused n q) e h =
        let t = modules_refuse.told 0 bytes ok n q e in
        let there : length (each number_bytes t.before) + t.behind ≡ q = omega (arith, t.place_is) in
        at (stops few t.front t.unread t.bytes-are) (ap (fails n) there ∙ h)

    short :
        (b : Bool)
        → leb (length bytes) most_bytes ≡ b
        → cond b (at_end (read_modules 0 bytes)) (fails 1 0) ≡ fails number place
        → Unreadable bytes number place
    short true e h = at-end (leb-true (length bytes) most_bytes e) (read_modules 0 bytes) refl h
    short false e h = at (too_long (leb-false (length bytes) most_bytes e)) h

unreadable-refused : {bytes : List ℕ} {number place : ℕ} → Unreadable bytes number place → read bytes ≡ fails number place
unfolding read
unreadable-refused {bytes} (too_long h) = rw (lt-leb (length bytes) most_bytes h)
unreadable-refused {bytes} (stops {before} {rest} {number = n} {behind} few f u e) =
    let there : 0 + length (each number_bytes before) + behind ≡ length (each number_bytes before) + behind = omega arith in
    rw (le-leb (length bytes) most_bytes few, e) (ap at_end ((file-stop f u).stops 0) ∙ ap (fails n) there)
unreadable-refused {bytes} (follows ms b rest few w e) =
    let there : 0 + length (encode ms) ≡ length (encode ms) = omega arith in
    rw (le-leb (length bytes) most_bytes few, e) (ap at_end ((modules_undone ms w).reads 0 (b ∷ rest)) ∙ ap (fails 5) there)

pub unreadable_exactly :
    (bytes : List ℕ) → Bytes bytes → (number place : ℕ) → read bytes ≡ fails number place ↔ Unreadable bytes number place
unreadable_exactly bytes ok number place = (refused-unreadable bytes ok number place, unreadable-refused)

-- What a refusal of reading is, in a file of `end` bytes.
pub record InFile (end number place : ℕ) : Type 0 where
  pub first : 1 ≤ number
  pub last : number ≤ 5
  pub within : place ≤ end

pub unreadable_in_file : {bytes : List ℕ} {number place : ℕ} → Unreadable bytes number place → InFile (length bytes) number place
unreadable_in_file (too_long h) = omega arith
unreadable_in_file {bytes} (stops {before} few f u e) = stopped u (ap length e ∙ length-append (each number_bytes before) _)
  where
    stopped :
        {rest : List ℕ} {most n k : ℕ}
        → Unread most rest n k
        → length bytes ≡ length (each number_bytes before) + length rest
        → InFile (length bytes) n (length (each number_bytes before) + k)
    stopped (ill_formed nothing) whole = omega arith
    stopped (ill_formed (half h)) whole = omega arith
    stopped (ill_formed (bad_second h bad)) whole = omega arith
    stopped (over n rest big small) whole = omega arith
unreadable_in_file (follows ms b rest few w e) = omega (arith, ap length e ∙ length-append (encode ms) (b ∷ rest))

pub ends-at-length : {bytes : List ℕ} {place : ℕ} → Unreadable bytes 2 place → place ≡ length bytes
ends-at-length (stops {before} few f (ill_formed nothing) e) = omega (arith, ap length e ∙ length-append (each number_bytes before) [])
ends-at-length (stops {before} few f (ill_formed (half {first} h)) e) =
    omega (arith, ap length e ∙ length-append (each number_bytes before) (first ∷ []))
