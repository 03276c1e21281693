-- Whatever is read from bytes is what would be written for it: a file that reads has one encoding, and is within the ceilings.
-- That the bytes are bytes is needed: 300 and 1 would read as 300, whose bytes are 172 and 2.
use Rattle.std.specs.Prelude.{ℕ, suc, ◌+◌, ◌*◌, ◌-◌, ◌/◌, ◌%◌, ◌≤◌, ◌<◌, ◌≡◌, refl, Bool, true, false, cond, ◌||◌, List, [], ◌∷◌, ◌++◌, ltb, leb, eqb, length}
use Rattle.std.proofs.Common.{arith, sym, ◌∙◌, append-nil, append_assoc, ltb-true, ltb-false, leb-true, leb-false}
use Rattle.std.proofs.lemmas.Bool.{eqb-false}
use Rattle.meaning.specs.Lists.{more}
use Rattle.meaning.specs.Syntax.{Module}
use Rattle.meaning.specs.Layout.{number_bytes, encode}
use Rattle.meaning.specs.Reading.{Step, got, refused, at_end, holds, fails, read, most_modules, most_nets, most_occurrences, most_bytes, read_number, read_many, second_group, read_count, read_nets, read_occurrence, read_module, read_modules}
use Rattle.meaning.specs.Ceilings.{Bytes, Small, NetsWithin, OccurrenceWithin, ModuleWithin, ModulesWithin, Encodes}
use Rattle.laws.specs.Written.{bytes-of-low, bytes-of-high, nets_bytes, occurrence_bytes, module_bytes, bytes-of-nets, bytes-of-occurrence, bytes-of_module, bytes-of-file}
use Rattle.laws.specs.Reading.{Took, Exact, ExactAfter, exact-give, exact-bind, exact-many, exact-last, exact-refused, refused_not_got}

-- A number is taken off the front of the bytes by taking its own bytes off.
took_number : (p n : ℕ) (w rest : List ℕ) (q : ℕ) → number_bytes n ≡ w → q ≡ p + length w → Small n
    → Took [] number_bytes Small p (w ++ rest) n q rest
took_number p n w rest q is place small =
    record { bytes-are = rw is; place_is = rw is (omega arith); good = small }

-- Two groups, the second not zero, make a number of two bytes.
took-two : (low p : ℕ) (bytes : List ℕ) → low < 128 → (n q : ℕ) (rest : List ℕ)
    → second_group low p bytes ≡ got n q rest → Took [] number_bytes Small p ((128 + low) ∷ bytes) n q rest
unfolding second_group
took-two low p [] small n q rest h = absurd (refused_not_got h)
took-two low p (high ∷ bytes) small n q rest h = go (eqb high 0) refl (leb 128 high) refl h
  where
    go : (a : Bool) → eqb high 0 ≡ a → (b : Bool) → leb 128 high ≡ b
        → cond (a || b) (refused 3 p) (got (low + 128 * high) (suc (suc p)) bytes) ≡ got n q rest
        → Took [] number_bytes Small p ((128 + low) ∷ high ∷ bytes) n q rest
    go true ea b eb h = absurd (refused_not_got h)
    go false ea true eb h = absurd (refused_not_got h)
    go false ea false eb h =
        let whole : low + 128 * high ≡ n = cc in
        let place : suc (suc p) ≡ q = cc in
        let tail : bytes ≡ rest = cc in
        let some : high ≡ 0 → ⊥ = eqb-false high 0 ea in
        let few : high < 128 = leb-false 128 high eb in
        let first : n % 128 ≡ low = omega arith in
        let second : n / 128 ≡ high = omega arith in
        rw tail
        (took_number p n ((128 + low) ∷ high ∷ []) rest q
        (bytes-of-high n (omega arith) ∙ rw (first, second))
        (omega arith)
        (omega arith))

-- The first byte says whether a second follows.
took-first : (p b : ℕ) (bytes : List ℕ) → b < 256 → (n q : ℕ) (rest : List ℕ) (low : Bool) → ltb b 128 ≡ low
    → cond low (got b (suc p) bytes) (second_group (b - 128) p bytes) ≡ got n q rest
    → Took [] number_bytes Small p (b ∷ bytes) n q rest
took-first p b bytes byte n q rest true e h =
    let same : b ≡ n = cc in
    let place : suc p ≡ q = cc in
    let tail : bytes ≡ rest = cc in
    let low : b < 128 = ltb-true b 128 e in
    rw (tail, same) (took_number p n (n ∷ []) rest q (bytes-of-low n (omega arith)) (omega arith) (omega arith))
took-first p b bytes byte n q rest false e h =
    let high : 128 ≤ b = ltb-false b 128 e in
    let groups : 128 + (b - 128) ≡ b = omega arith in
    rw groups at (took-two (b - 128) p bytes (omega arith) n q rest h)

pub number-exact : Exact read_number number_bytes Small
unfolding read_number
number-exact = record { took = go }
  where
    go : (p : ℕ) (bytes : List ℕ) → Bytes bytes → (n q : ℕ) (rest : List ℕ) → read_number p bytes ≡ got n q rest
        → Took [] number_bytes Small p bytes n q rest
    go p [] ok n q rest h = absurd (refused_not_got h)
    go p (b ∷ bytes) (more byte ok) n q rest h = took-first p b bytes byte n q rest (ltb b 128) refl h

pub count-exact : (ceiling : ℕ) → Exact (read_count ceiling) number_bytes (λ n. n ≤ ceiling)
unfolding read_count
count-exact ceiling =
    record {
      took = λ p.
          (exact-bind [] read_number (λ n q rest. cond (leb n ceiling) (got n q rest) (refused 4 p)) number-exact
          (λ n small. go p n (leb n ceiling) refl)
          ).took p;
    }
  where
    go : (p n : ℕ) (b : Bool) → leb n ceiling ≡ b
        → ExactAfter (number_bytes n) (λ q rest. cond b (got n q rest) (refused 4 p)) number_bytes (λ n. n ≤ ceiling)
    go p n true e = exact-give (number_bytes n) n number_bytes (λ n. n ≤ ceiling) refl (leb-true n ceiling e)
    go p n false e = exact-refused

pub nets-exact : Exact read_nets nets_bytes NetsWithin
unfolding read_nets
nets-exact =
    exact-bind [] (read_count most_nets) _ (count-exact most_nets) (λ n few.
    exact-last (exact-many number-exact n)
    (λ nets counted. rw (← counted.count, bytes-of-nets nets))
    (λ nets counted. record { count = rw counted.count few; numbers = counted.entries }))

pub occurrence-exact : Exact read_occurrence occurrence_bytes OccurrenceWithin
unfolding read_occurrence
occurrence-exact =
    exact-bind _ read_nets _ nets-exact (λ drives h.
    exact-bind _ read_number _ number-exact (λ refers k.
    exact-bind _ read_nets _ nets-exact (λ takes l.
    exact-give _ _ occurrence_bytes OccurrenceWithin
    (simp (bytes-of-occurrence, append_assoc))
    (record { drives = h; refers = k; takes = l }))))

pub module_exact : Exact read_module module_bytes ModuleWithin
unfolding read_module
module_exact =
    exact-bind _ read_number _ number-exact (λ number h.
    exact-bind _ read_nets _ nets-exact (λ inputs i.
    exact-bind _ read_nets _ nets-exact (λ outputs o.
    exact-bind _ (read_count most_occurrences) _ (count-exact most_occurrences) (λ n few.
    exact-bind _ (read_many read_occurrence n) _ (exact-many occurrence-exact n) (λ occurrences counted.
    exact-give _ _ module_bytes ModuleWithin
    (simp (bytes-of_module, append_assoc, counted.count))
    (record { number = h; inputs = i; outputs = o; count = rw counted.count few; occurrences = counted.entries }))))))

pub modules-exact : Exact read_modules encode ModulesWithin
unfolding read_modules
modules-exact =
    exact-bind [] (read_count most_modules) _ (count-exact most_modules) (λ n few.
    exact-last (exact-many module_exact n)
    (λ ms counted. rw (← counted.count, bytes-of-file ms))
    (λ ms counted. record { count = rw counted.count few; modules = counted.entries }))

fails_not_holds : {number place : ℕ} {ms : List Module} → fails number place ≡ holds ms → ⊥
fails_not_holds h = let z : ◌≡◌ {A = ℕ} 0 1 = cc in omega arith

-- Bytes that read are the encoding of what was read, which is within the ceilings.
pub exactness : (bytes : List ℕ) → Bytes bytes → (ms : List Module) → read bytes ≡ holds ms → Encodes bytes ms
unfolding read
exactness bytes ok ms = short (leb (length bytes) most_bytes) refl
  where
    at-end : length bytes ≤ most_bytes → (s : Step (List Module)) → read_modules 0 bytes ≡ s
        → at_end s ≡ holds ms → Encodes bytes ms
    at-end few (got ns q []) e h =
        let same : ns ≡ ms = cc in
        let t : Took [] encode ModulesWithin 0 bytes ms q [] = modules-exact.took 0 bytes ok ms q [] (rw (← same) e) in
        let whole : encode ms ≡ bytes = sym (t.bytes-are ∙ append-nil (encode ms)) in
        record { encoded = whole; within = record { modules = t.good; bytes = rw whole few } }
    at-end few (got ns q (b ∷ rest)) e h = absurd (fails_not_holds h)
    at-end few (refused number place) e h = absurd (fails_not_holds h)

    short : (b : Bool) → leb (length bytes) most_bytes ≡ b
        → cond b (at_end (read_modules 0 bytes)) (fails 1 0) ≡ holds ms → Encodes bytes ms
    short true e h = at-end (leb-true (length bytes) most_bytes e) (read_modules 0 bytes) refl h
    short false e h = absurd (fails_not_holds h)

-- A file has one encoding: what reads to the same file is the same bytes.
pub equal-bytes : (xs ys : List ℕ) → Bytes xs → Bytes ys → (ms : List Module)
    → read xs ≡ holds ms → read ys ≡ holds ms → xs ≡ ys
equal-bytes xs ys xs-ok ys-ok ms h k = sym (exactness xs xs-ok ms h).encoded ∙ (exactness ys ys-ok ms k).encoded
