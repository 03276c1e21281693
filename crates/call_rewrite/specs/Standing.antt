-- A file that stands in the image: what counting its four gates asks, and what the counts say of its modules.
use Rattle.std.specs.Prelude.{Result}
use Rattle.refusals.specs.declared.Refusal.{Refusal}
use Prim.Native.Nat.{ℕ, ◌+◌, ◌≤◌, ◌<◌, zero-le}
use Rattle.std.specs.Prelude.{◌≡◌, refl, Bool, true, false, cond, List, [], ◌∷◌, map, length, get_or, drop}
use Rattle.std.proofs.Common.{sym, ap, ◌∙◌, arith, ne_eqb, ltb-false}
use Rattle.meaning.specs.Syntax.{Occurrence, Module}
use Rattle.meaning.specs.Gates.{is_gate}
use Rattle.meaning.specs.Limits.{expanded_size, most_size}
use Rattle.meaning.specs.Verdict.{Verdict, refused, file_verdict, and_then, verdict_of, verdict}
use Rattle.meaning.specs.Reading.{File, holds, fails, read}
use Rattle.meaning.specs.Withdrawn.{withdrawn, withdrawn_verdict, strict_of, strict_verdict}
use Rattle.laws.specs.Acceptable.{size-within}
use Rattle.laws.specs.Withdrawn.Suits.{fours}
use Rattle.image.specs.Resolved.{refer_to, slot_in, position_of, resolve_occurrence, resolve_module, resolve}
use Rattle.image.specs.ResolvedLayout.{resolved-at, length-of-resolve}
use Rattle.image.specs.ResolvedFigures.{expanded_size-resolved}
use Rattle.image.specs.OwnNumbers.{own-number}
use Rattle.image.specs.Imaged.{imaged}
use Rattle.answers.specs.Judged.{check_of}
use Rattle.open_finding.specs.Here.{here-at}
use Rattle.open_finding.specs.Standing.{Held, accepted, fits}
use Rattle.rewrite_counts.specs.Fours.{Countable, Counted}
use Rattle.rewrite_counts.specs.Ceilings.{OwnTable}

pub record Stood (image starts : List ℕ) (modules : ℕ) : Type 0 where
  pub ms : List Module
  pub nets : List ℕ
  pub held : Held image starts nets ms
  pub all : modules ≡ length ms

-- The image has the four gates where the file has them.
above-stays : (number : ℕ) → 16 ≤ number → withdrawn number ≡ false
unfolding withdrawn
above-stays number h =
    rw (
      ne_eqb number 4 (λ e. omega arith),
      ne_eqb number 7 (λ e. omega arith),
      ne_eqb number 12 (λ e. omega arith),
      ne_eqb number 15 (λ e. omega arith),
    )

refers-alike : (ms : List Module) (number : ℕ) → withdrawn (refer_to ms number) ≡ withdrawn number
unfolding refer_to
refers-alike ms number = go (is_gate number) refl
  where
    go : (b : Bool) → is_gate number ≡ b → withdrawn (cond b number (16 + position_of number ms)) ≡ withdrawn number
    go true is = refl
    go false is = above-stays (16 + position_of number ms) (omega arith) ∙ sym (above-stays number (ltb-false number 16 is))

fours-resolved : (slot : ℕ → ℕ) (ms : List Module) (os : List Occurrence) → fours (map (resolve_occurrence slot (refer_to ms)) os) ≡ fours os
unfolding fours
fours-resolved slot ms [] = refl
fours-resolved slot ms (o ∷ os) = rw (refers-alike ms o.refers, fours-resolved slot ms os)

module _ {image starts : List ℕ} {modules : ℕ} (s : Stood image starts modules) where
  pub sizes : (k : ℕ) → k < length (resolve s.ms) → expanded_size (resolve s.ms) (16 + k) ≤ most_size
  sizes k low =
      let h = here-at s.ms k (omega (arith, length-of-resolve s.ms)) in
      let own = own-number (fits s.held) k h.here in
      let same = expanded_size-resolved (fits s.held) h.m.number h.m own.found in
      omega (arith, rw own.placed at same, size-within (accepted s.held) h.m.number)

  abbrev pub countable : {a b : ℕ} → 128 ≤ a → 128 ≤ b → Countable image starts modules a b
  countable wide long =
      record {
        rs = resolve s.ms;
        nets = s.nets;
        imaged = imaged (fits s.held) s.held.shelved;
        all = s.all ∙ sym (length-of-resolve s.ms);
        size = sizes;
        own_long = omega (arith, length-of-resolve s.ms, s.held.within.modules.count);
        reached_long = omega (arith, length-of-resolve s.ms, s.held.within.modules.count);
      }

  pub owns :
      {own reached : List ℕ} → Counted (resolve s.ms) 0 own reached → (k : ℕ) (m : Module) (later : List Module) → drop k s.ms ≡ m ∷ later
      → get_or own k 0 ≡ fours m.occurrences
  unfolding resolve_module
  owns counted k m later here = counted.owns k zero-le (resolved-at s.ms k here) ∙ fours-resolved (slot_in m) s.ms m.occurrences

  abbrev pub own-table : {own reached : List ℕ} → 128 ≤ length own → Counted (resolve s.ms) 0 own reached → OwnTable own modules
  own-table wide counted =
      record { ms = s.ms; all = s.all; long = omega (arith, s.held.within.modules.count); entry = owns counted }

-- What the strict check says of a file that was refused, and of one that was accepted.
pub strict_refused : (file : List ℕ) (number place : ℕ) → verdict file ≡ refused number place → strict_verdict file ≡ refused number place
unfolding verdict strict_verdict
strict_refused file number place e = go (read file) e
  where
    go : (f : File) → verdict_of f ≡ refused number place → strict_of f ≡ refused number place
    go (holds ms) e = ap (λ (v : Verdict). and_then v (withdrawn_verdict 0 ms)) e
    go (fails n p) e = e

pub strict_accepted :
    (file : List ℕ) (ms : List Module) → read file ≡ holds ms → file_verdict ms ≡ Verdict.good → strict_verdict file ≡ withdrawn_verdict 0 ms
unfolding strict_verdict
strict_accepted file ms reads accepted = rw (reads, accepted)

-- The strict check's contract is an equation, so any two outcomes that it permits coincide.
pub one_strict_verdict :
    (file : List ℕ) {result result' : Result Unit Refusal} → result ≡ check_of (strict_verdict file) → result' ≡ check_of (strict_verdict file) → result ≡ result'
one_strict_verdict file one other = one ∙ sym other
