-- What the request says of the written propagate-generate adder, over the calls: every width is written and the check accepts it, on
-- known bits a run gives the binary sum with carry, and the lowest sums are there as soon as the lowest bits are.
use Rattle.std.specs.Prelude.{ℕ, zero, suc, ◌+◌, ◌*◌, ◌≤◌, ◌≡◌, refl, Bool, true, false, List, [], ◌∷◌, ◌++◌, map, length, take}
use Rattle.std.proofs.Common.{sym, ap, ◌∙◌, arith, length-append}
use Rattle.std.proofs.lemmas.List.{map-append, length-map}
use Rattle.meaning.specs.Values.{Val, value, known, code}
use Rattle.meaning.specs.Verdict.{good, verdict}
use Rattle.meaning.specs.Evaluation.{evaluate}
use Rattle.meaning.specs.Adder.{bit, binary}
use Rattle.meaning.specs.FastAdder.{fast_module, fast_adder}
use Rattle.meaning.specs.Calls.{answer, first_above, Written, evaluation, writing}
use Rattle.laws.specs.Runs.{run_writes, run-answered, only-written, written}
use Rattle.laws.specs.Adder.Early.{LowestOfSum}
use Rattle.laws.specs.Demands.Terms.{Answered, RunReads}
use Rattle.laws.specs.Demands.Bits.{values-of-bits, codes_of-known}
use Rattle.laws.specs.Demands.KnownRuns.{known-run-reads}
use Rattle.laws.specs.FastAdder.File.{fast_adder-file-accepted}
use Rattle.laws.specs.FastAdder.Figures.{fast_adder-room}
use Rattle.laws.specs.FastAdder.Numbers.{fast_adder-bytes}
use Rattle.laws.specs.FastAdder.Calls.{fast-module, fast_inputs, fast_outputs}
use Rattle.laws.specs.FastAdder.Outputs.{fast_adder-adds, fast_adder-known-early}

-- At most 5,636 bytes.
pub every_fast_adder-written :
    (width : ℕ) → 1 ≤ width → width ≤ 64 → (out : ℕ) → 86 * width + 132 ≤ out → Answered (writing fast_adder width out)
every_fast_adder-written width some most out fits =
    (_, written fast_adder width some most out (omega (arith, fast_adder-bytes width)))

pub written_fast_adders-accepted :
    (width size : ℕ) (w : Written) → writing fast_adder width size ≡ answer w → verdict w.bytes ≡ good
written_fast_adders-accepted width size w h =
    let wrote = only-written fast_adder width size w h in
    rw wrote.2 (fast_adder-file-accepted width wrote.0 wrote.1)

-- On known bits a run of a written file is the binary sum with carry.
pub written_fast_adders-add :
    (width size : ℕ) (w : Written)
    → writing fast_adder width size ≡ answer w
    → (carry : Bool) (a b : List Bool)
    → length a ≡ width
    → length b ≡ width
    → (scratch out : ℕ)
    → 10 * width + 10 ≤ scratch
    → width + 1 ≤ out
    → RunReads (evaluation w.bytes 40 (map bit (carry ∷ (a ++ b))) scratch out) (width + 1) (bit carry + binary a + binary b)
written_fast_adders-add width size w h carry a b a-fits b-fits scratch out roomy fits =
    let wrote = only-written fast_adder width size w h in
    let sum = fast_adder-adds width wrote.0 carry a b a-fits b-fits in
    rw wrote.2
    (known-run-reads (fast-module width wrote.0 wrote.1) (carry ∷ (a ++ b)) sum.bits
    (omega (arith, length-append a b, fast_inputs width))
    (omega (arith, fast_adder-room width))
    (omega (arith, fast_outputs width))
    sum.known-bits
    (omega (arith, sum.count))
    sum.sum)

-- Bytes whose lowest k are those of the sum of two numbers with a carry.
pub record LowestRead (k : ℕ) (carry : Bool) (a b : List Bool) (bytes : List ℕ) : Type 0 where
  pub bits : List Bool
  pub count : length bits ≡ length a + 1
  pub sum : binary bits ≡ bit carry + binary a + binary b
  pub lowest : take k bytes ≡ take k (map bit bits)

take-of-map : {A B : Type 0} (f : A → B) (k : ℕ) (xs : List A) → take k (map f xs) ≡ map f (take k xs)
take-of-map f zero xs = refl
take-of-map f (suc k) [] = refl
take-of-map {B = B} f (suc k) (x ∷ xs) = ap (λ (ys : List B). f x ∷ ys) (take-of-map f k xs)

lowest-known :
    (k : ℕ) (xs : List ℕ) (bits : List Bool) → take k xs ≡ take k (map bit bits) → take k (map value xs) ≡ take k (map known bits)
lowest-known k xs bits same =
    take-of-map value k xs ∙ ap (map value) same ∙ sym (take-of-map value k (map bit bits)) ∙ ap (take k) (values-of-bits bits)

lowest_codes :
    (k : ℕ) (vs : List Val) (bits : List Bool) → take k vs ≡ take k (map known bits) → take k (map code vs) ≡ take k (map bit bits)
lowest_codes k vs bits same =
    take-of-map code k vs ∙ ap (map code) same ∙ sym (take-of-map code k (map known bits)) ∙ ap (take k) (codes_of-known bits)

-- A bit in front of values.
values-behind : (b : Bool) (xs ys : List ℕ) → map value (bit b ∷ (xs ++ ys)) ≡ known b ∷ (map value xs ++ map value ys)
values-behind true xs ys = ap (λ (vs : List Val). known true ∷ vs) (map-append value xs ys)
values-behind false xs ys = ap (λ (vs : List Val). known false ∷ vs) (map-append value xs ys)

small-behind : (b : Bool) (xs : List ℕ) → first_above xs ≡ length xs → first_above (bit b ∷ xs) ≡ length (bit b ∷ xs)
unfolding first_above
small-behind true xs small = ap suc small
small-behind false xs small = ap suc small

-- Where the carry in and the lowest k bits of both numbers are known, a run of a written file gives the lowest k sums, whatever the other
-- values are.
module _ (width size : ℕ) (w : Written) (h : writing fast_adder width size ≡ answer w)
    (k : ℕ) (carry : Bool) (a b : List Bool) (a-fits : length a ≡ width) (b-fits : length b ≡ width)
    (xs ys : List ℕ) (xs-fit : length xs ≡ width) (ys-fit : length ys ≡ width) (small : first_above (xs ++ ys) ≡ length (xs ++ ys))
    (low_x : take k xs ≡ take k (map bit a)) (low-y : take k ys ≡ take k (map bit b)) where
  abbrev outputs : List Val
  outputs = evaluate (fast_adder width) 40 (map value (bit carry ∷ (xs ++ ys)))

  lowest-outputs : 1 ≤ width → LowestOfSum k carry a b outputs
  lowest-outputs some =
      rw (values-behind carry xs ys)
      (fast_adder-known-early width k some carry a b (map value xs) (map value ys) a-fits b-fits
      (length-map xs value ∙ xs-fit)
      (length-map ys value ∙ ys-fit)
      (lowest-known k xs a low_x)
      (lowest-known k ys b low-y))

  pub written_fast_adders-early :
      (scratch out : ℕ)
      → 10 * width + 10 ≤ scratch
      → width + 1 ≤ out
      → (ran : Written) × (evaluation w.bytes 40 (bit carry ∷ (xs ++ ys)) scratch out ≡ answer ran) × LowestRead k carry a b ran.bytes
  written_fast_adders-early scratch out roomy fits =
      let wrote = only-written fast_adder width size w h in
      let low = lowest-outputs wrote.0 in (
        run_writes (fast_adder width) 40 (bit carry ∷ (xs ++ ys)),
        rw wrote.2
            (run-answered
            (record {
              ms = fast_adder width;
              m = fast_module width;
              here = fast-module width wrote.0 wrote.1;
              count = omega (arith, length-append xs ys, fast_inputs width);
              small = small-behind carry (xs ++ ys) small;
              roomy = omega (arith, fast_adder-room width);
              fits = omega (arith, fast_outputs width);
            })),
        record {
          bits = low.bits;
          count = omega (arith, low.count);
          sum = low.sum;
          lowest = lowest_codes k outputs low.bits low.lowest;
        },
      )
