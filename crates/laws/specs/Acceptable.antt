-- Accepted, exactly: the verdict on a file's bytes is good if and only if they read to a list of modules for which BOXLIST-OKP of
-- document 000 holds and which keeps our three limits. Expanded sizes are those of the modules' numbers in the whole list; since no
-- number stands twice, each is the size of the module's occurrences in front of the later modules, as `Accepted` has it.
use Rattle.std.specs.Prelude.{ℕ, ◌≤◌, ◌↔◌, ◌≡◌, refl, Bool, true, false, cond, List, [], ◌∷◌, eqb}
use Rattle.std.proofs.Common.{sym, ap, subst, ◌∙◌, arith, eq-eqb, ne_eqb}
use Rattle.meaning.specs.Syntax.{Module}
use Rattle.meaning.specs.Members.{◌∈◌}
use Rattle.meaning.specs.Boxlist.{is_box}
use Rattle.meaning.specs.Limits.{body_size, expanded_size, most_size}
use Rattle.meaning.specs.Reading.{File, holds, fails, read}
use Rattle.meaning.specs.Verdict.{good, refused, file_verdict, verdict_of, verdict}
use Rattle.meaning.specs.Rules.{numbers}
use Rattle.meaning.specs.Acceptable.{Acceptable}
use Rattle.laws.specs.Tests.{if_false}
use Rattle.laws.specs.Members.{here, there, in-none, same_in}
use Rattle.laws.specs.Finding.{found-tells}
use Rattle.laws.specs.WellFormed.{ModuleOk, Accepted, none, some}
use Rattle.laws.specs.Accepted.{good-accepted, accepted-good}
use Rattle.laws.specs.Okp.{okp_module, accepted_okp}

-- A module's expanded size in a list: the first module's is that of its occurrences in front of the later modules, and the first
-- module has no part in that of another number.
size-first :
    (m : Module) (later : List Module) → expanded_size (m ∷ later) m.number ≡ body_size (expanded_size later) m.occurrences
unfolding expanded_size
size-first m later = rw (eq-eqb m.number m.number refl)

size-later : (m : Module) (later : List Module) (x : ℕ) → ¬ (x ≡ m.number) → expanded_size (m ∷ later) x ≡ expanded_size later x
unfolding expanded_size
size-later m later x h = rw (ne_eqb x m.number h)

in-numbers : {m : Module} {ms : List Module} → m ∈ ms → m.number ∈ numbers ms
in-numbers (here e) = here (ap (λ m. m.number) e)
in-numbers (there i) = there (in-numbers i)

-- A module further down has another number than the first.
other-number : {m first : Module} {later : List Module} → ModuleOk first later → m ∈ later → ¬ (m.number ≡ first.number)
other-number {m} {first} {later} ok i e =
    if_false (found-tells first.number later) (ap is_box ok.unique) (same_in (sym e) (in-numbers i))

acceptable_accepted : (ms : List Module) → Acceptable ms → Accepted ms
acceptable_accepted [] a = none
acceptable_accepted (m ∷ later) a =
    let size = rw (size-first m later) at (a.sizes m (here refl)) in
    let ok = okp_module m later a.well_formed (a.numbers m (here refl)) (a.nets m (here refl)) size in
    some ok.0
    (acceptable_accepted later
    (record {
      well_formed = ok.1;
      numbers = λ k i. a.numbers k (there i);
      nets = λ k i. a.nets k (there i);
      sizes = λ k i. rw (size-later m later k.number (other-number ok.0 i)) at (a.sizes k (there i));
    }))

-- No number has an expanded size over the limit.
pub size-within : {ms : List Module} → Accepted ms → (x : ℕ) → expanded_size ms x ≤ most_size
unfolding expanded_size
size-within none x = omega arith
size-within (some {m} ok rest) x = either (eqb x m.number) ok.size (size-within rest x)
  where
    either : (b : Bool) {a c : ℕ} → a ≤ most_size → c ≤ most_size → cond b a c ≤ most_size
    either true h k = h
    either false h k = k

-- What holds of each module in front of the later ones holds of every module of the list.
every :
    {ms : List Module} {P : Module → Type 0}
    → ((m : Module) (later : List Module) → ModuleOk m later → P m)
    → Accepted ms
    → (m : Module)
    → m ∈ ms
    → P m
every f none k i = absurd (in-none i)
every {P = P} f (some {m} {later} ok rest) k (here e) = subst P (sym e) (f m later ok)
every f (some ok rest) k (there i) = every f rest k i

accepted_acceptable : {ms : List Module} → Accepted ms → Acceptable ms
accepted_acceptable a =
    record {
      well_formed = accepted_okp a;
      numbers = every (λ m later ok. ok.above) a;
      nets = every (λ m later ok. ok.nets) a;
      sizes = λ m i. size-within a m.number;
    }

refused_not_good : {n p : ℕ} → refused n p ≡ good → ⊥
refused_not_good e = let z : ◌≡◌ {A = ℕ} 0 1 = cc in omega arith

pub acceptable_exactly : (ms : List Module) → file_verdict ms ≡ good ↔ Acceptable ms
acceptable_exactly ms = ((λ e. accepted_acceptable (good-accepted ms e)), λ a. accepted-good (acceptable_accepted ms a))

pub accepted_as_read : (bytes : List ℕ) → verdict bytes ≡ good ↔ ((ms : List Module) × (read bytes ≡ holds ms) × Acceptable ms)
unfolding verdict
accepted_as_read bytes = (go (read bytes) refl, λ h. ap verdict_of h.1 ∙ (acceptable_exactly h.0).1 h.2)
  where
    go : (f : File) → read bytes ≡ f → verdict_of f ≡ good → (ms : List Module) × (read bytes ≡ holds ms) × Acceptable ms
    go (holds ms) e v = (ms, e, (acceptable_exactly ms).0 v)
    go (fails n p) e v = absurd (refused_not_good v)
