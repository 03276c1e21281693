-- Where the modules of a file that reads begin: behind the count and all modules in front.
use Rattle.std.specs.Prelude.{ℕ, zero, suc, ◌<◌, ◌≡◌, refl, List, [], ◌∷◌, ◌++◌, length, take, drop, get_or}
use Rattle.std.proofs.Common.{ap, sym, ◌∙◌, append-nil, append_assoc, arith}
use Rattle.meaning.specs.Syntax.{Module}
use Rattle.meaning.specs.Layout.{each, module_numbers}
use Rattle.meaning.specs.Reading.{Step, got, refused, onward, bind, give, read_many, read_module}
use Rattle.laws.specs.Reading.{refused_not_got}
use Rattle.read_parts.specs.Numbers.{before}
use Rattle.read_parts.specs.Places.{Front, Further}
use Rattle.read_parts.specs.Sound.{Kept, on, ended, sound_module}
use Rattle.read_file.specs.Starts.{behind, begun}

-- Modules from a place on, and the places where they begin.
pub data Placed (bytes : List ℕ) : ℕ → List Module → List ℕ → Type 0 where
  none : {p : ℕ} → Placed bytes p [] []
  next : {p q : ℕ} {m : Module} {ms : List Module} {places : List ℕ} → Front bytes p → before bytes q ≡ before bytes p ++ module_numbers m
      → Placed bytes q ms places → Placed bytes p (m ∷ ms) (p ∷ places)

pub placed : (bytes : List ℕ) (n p : ℕ) (ms : List Module) (q : ℕ) (rest : List ℕ) → Front bytes p
    → read_many read_module n p (drop p bytes) ≡ got ms q rest → Placed bytes p ms (begun n p (drop p bytes))
unfolding read_many begun behind
placed bytes zero p ms q rest front e = let same : ms ≡ [] = cc in rw same none
placed bytes (suc n) p ms q rest front e =
    first (sound_module.keeps bytes p front) (placed bytes n) e
  where
    Later : Type 0
    Later = (p : ℕ) (ms : List Module) (q : ℕ) (rest : List ℕ) → Front bytes p
        → read_many read_module n p (drop p bytes) ≡ got ms q rest → Placed bytes p ms (begun n p (drop p bytes))

    more : (m : Module) (o : ℕ) → Further bytes p o (module_numbers m) (drop o bytes) → (s : Step (List Module))
        → read_many read_module n o (drop o bytes) ≡ s → Later
        → onward (λ ms. give (m ∷ ms)) s ≡ got ms q rest → Placed bytes p ms (p ∷ begun n o (drop o bytes))
    more m o w (got ns k left) is later e =
        let same : ms ≡ m ∷ ns = cc in
        rw same (next front w.numbers (later o ns k left w.front is))
    more m o w (refused k l) is later e = absurd (refused_not_got e)

    first : {s : Step Module} → Kept module_numbers bytes p s → Later
        → onward (λ m. bind (read_many read_module n) (λ ms. give (m ∷ ms))) s ≡ got ms q rest
        → Placed bytes p ms (p ∷ behind (λ _. begun n) s)
    first (on {a = m} {q = o} {rest = left} w) later e =
        let same = w.left in
        rw same
        (more m o (rw same at w) (read_many read_module n o (drop o bytes)) refl later (rw same at e))
    first ended later e = absurd (refused_not_got e)

pub placed-length : {bytes : List ℕ} {p : ℕ} {ms : List Module} {places : List ℕ} → Placed bytes p ms places
    → length places ≡ length ms
placed-length none = refl
placed-length (next front numbers later) = ap suc (placed-length later)

-- What stands in front of one of them.
pub record Behind (bytes : List ℕ) (p : ℕ) (ms : List Module) (place i : ℕ) : Type 0 where
  pub front : Front bytes place
  pub numbers : before bytes place ≡ before bytes p ++ each module_numbers (take i ms)

pub placed_at : {bytes : List ℕ} {p : ℕ} {ms : List Module} {places : List ℕ} → Placed bytes p ms places
    → (i : ℕ) → i < length ms → Behind bytes p ms (get_or places i 0) i
unfolding each
placed_at none i h = absurd (omega arith)
placed_at {bytes} {p} (next front numbers later) zero h = record { front = front; numbers = sym (append-nil (before bytes p)) }
placed_at {bytes} {p} (next {m} {ms} front numbers later) (suc i) h =
    let there = placed_at later i (omega arith) in
    record { front = there.front; numbers = there.numbers ∙ rw (numbers, append_assoc) }
