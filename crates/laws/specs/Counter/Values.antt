-- What joining the answers of a counter's parts gives, on three values: if the high part is known to hold a 1, all that comes from
-- below is shut out, known or not; if it is known to be empty, the count below passes.
use Rattle.std.specs.Prelude.{ℕ, zero, suc, ◌+◌, ◌-◌, ◌^◌, ◌≤◌, ◌≡◌, refl, Bool, true, false, List, [], ◌∷◌, ◌++◌, map, length, replicate}
use Rattle.std.proofs.Common.{ap, ◌∙◌, append-nil, add-one, arith, length-append}
use Rattle.std.proofs.lemmas.List.{map-append, length-replicate, replicate-append-replicate, length-map}
use Rattle.meaning.specs.Values.{Val, known, un, by_fillings}
use Rattle.meaning.specs.Gates.{B-XOR, gate, gates, gate_value}
use Rattle.meaning.specs.Adder.{binary}
use Rattle.meaning.specs.Counter.{OR, XOR, AND}
use Rattle.laws.specs.Counter.Law.{chosen, length-joined, chosen-end}
use Rattle.laws.specs.Counter.Leading.{Lead, found, empty, unsure, over, map-known-zeros}
use Rattle.laws.specs.Counter.Digits.{binary-zeros-above, binary-one-above}

-- The gates of a join, and what they make of known arguments.
abbrev and_val : Val → Val → Val
and_val a b = gate_value AND (a ∷ b ∷ [])

abbrev or_val : Val → Val → Val
or_val a b = gate_value OR (a ∷ b ∷ [])

abbrev xor_val : Val → Val → Val
xor_val a b = gate_value XOR (a ∷ b ∷ [])

and_shut : (v : Val) → and_val (known false) v ≡ known false
unfolding gate_value gate gates by_fillings
and_shut (known true) = refl
and_shut (known false) = refl
and_shut un = refl

and_open : (v : Val) → and_val (known true) v ≡ v
unfolding gate_value gate gates by_fillings
and_open (known true) = refl
and_open (known false) = refl
and_open un = refl

or_shut : (v : Val) → or_val v (known false) ≡ v
unfolding gate_value gate gates by_fillings
or_shut (known true) = refl
or_shut (known false) = refl
or_shut un = refl

or_open : (v : Val) → or_val (known false) v ≡ v
unfolding gate_value gate gates by_fillings
or_open (known true) = refl
or_open (known false) = refl
or_open un = refl

xor_known : (a b : Bool) → xor_val (known a) (known b) ≡ known (B-XOR a b)
unfolding gate_value gate gates by_fillings
xor_known a b = refl

chosen_shut : (hs ls : List Val) → chosen gate_value (known false) hs ls ≡ hs
unfolding chosen
chosen_shut [] ls = refl
chosen_shut (h ∷ hs) [] = refl
chosen_shut (h ∷ hs) (l ∷ ls) = rw (and_shut l, or_shut h, chosen_shut hs ls)

chosen_open : (j n : ℕ) (ls : List Val) → j ≡ length ls + n
    → chosen gate_value (known true) (replicate j (known false)) ls ≡ ls ++ replicate n (known false)
unfolding chosen
chosen_open j n [] e = let same : j ≡ n = omega arith in rw (chosen-end gate_value (known true) (replicate j (known false)), same)
chosen_open zero n (l ∷ ls) e = absurd (omega arith)
chosen_open (suc j) n (l ∷ ls) e = rw (and_open l, or_open l, chosen_open j n ls (omega arith))

-- What a block of level j answers of what is known of its bits: its count bits, and whether it is empty.
pub data Answers (j : ℕ) : Lead → List Val → Val → Type 0 where
  counts : {zeros : ℕ} (bs : List Bool) → length bs ≡ j → binary bs ≡ zeros → Answers j (found zeros) (map known bs) (known false)
  nothing : Answers j empty (replicate j (known false)) (known true)
  anything : {vs : List Val} {e : Val} → length vs ≡ j → Answers j unsure vs e

pub length-answers : {j : ℕ} {l : Lead} {vs : List Val} {e : Val} → Answers j l vs e → length vs ≡ j
length-answers (counts bs n b) = length-map bs known ∙ n
length-answers {j} nothing = length-replicate j (known false)
length-answers (anything n) = n

-- A count under a 1 at place j, and one under a 0: what comes out where the high part of j count bits is empty, and where it is
-- not.
record Topped (j : ℕ) (out : List Val) (number : ℕ) : Type 0 where
  bits : List Bool
  size : length bits ≡ suc j
  reads : binary bits ≡ number
  values : out ≡ map known bits

length-top : {n : ℕ} (bs : List Bool) (b : Bool) → length bs ≡ n → length (bs ++ (b ∷ [])) ≡ suc n
length-top bs b same = omega (arith, length-append bs (b ∷ []))

one-on-top : (j room : ℕ) (bs : List Bool) → j ≡ length bs + room
    → Topped j (chosen gate_value (known true) (replicate j (known false)) (map known bs) ++ (known true ∷ [])) (2 ^ j + binary bs)
one-on-top j room bs fits =
    let full : length (bs ++ replicate room false) ≡ j =
    omega (arith, length-append bs (replicate room false), length-replicate room false)
    in
    record {
      bits = bs ++ replicate room false ++ (true ∷ []);
      size = length-top (bs ++ replicate room false) true full;
      reads = rw (binary-one-above (bs ++ replicate room false), binary-zeros-above bs room, full) (omega arith);
      values =
          rw (
            chosen_open j room (map known bs) (omega (arith, length-map bs known)),
            map-append known (bs ++ replicate room false) (true ∷ []),
            map-append known bs (replicate room false),
            map-known-zeros room,
          );
    }

zero-on-top : {j : ℕ} (bs : List Bool) (ls : List Val) → length bs ≡ j
    → Topped j (chosen gate_value (known false) (map known bs) ls ++ (known false ∷ [])) (binary bs)
zero-on-top bs ls full =
    record {
      bits = bs ++ (false ∷ []);
      size = length-top bs false full;
      reads = binary-zeros-above bs 1;
      values = rw (chosen_shut (map known bs) ls, map-append known bs (false ∷ []));
    }

-- Two blocks joined are a block of the next level.
pub join-blocks : {j : ℕ} {low high : Lead} {ls hs : List Val} {el eh : Val} → Answers j low ls el → Answers j high hs eh
    → Answers (suc j) (over (2 ^ j) low high) (chosen gate_value eh hs ls ++ (xor_val eh (and_val eh el) ∷ [])) (and_val eh el)
join-blocks {ls = ls} {el = el} low (counts bs n b) =
    let t = zero-on-top bs ls n in
    rw (and_shut el, xor_known false false, t.values) (counts t.bits t.size (t.reads ∙ b))
join-blocks {j} (counts bs n b) nothing =
    let t = one-on-top j 0 bs (omega arith) in
    rw (and_open (known false), xor_known true false, t.values)
    (counts t.bits t.size (t.reads ∙ ap (λ (z : ℕ). 2 ^ j + z) b))
join-blocks {j} nothing nothing =
    rw (
      and_open (known true),
      xor_known true true,
      chosen_open j 0 (replicate j (known false)) (omega (arith, length-replicate j (known false))),
      append-nil (replicate j (known false)),
      replicate-append-replicate j 1 (known false),
      add-one j,
    )
    nothing
join-blocks {j} {ls = ls} {el = el} (anything n) nothing =
    anything
    (length-joined gate_value (known true) (replicate j (known false)) ls (xor_val (known true) (and_val (known true) el))
    ∙ ap suc (length-replicate j (known false)))
join-blocks {ls = ls} {hs = hs} {el = el} {eh = eh} low (anything n) =
    anything (length-joined gate_value eh hs ls (xor_val eh (and_val eh el)) ∙ ap suc n)

-- What the counter over so many bits answers in n outputs.
pub data Counts (n width : ℕ) : Lead → List Val → Type 0 where
  counts : {zeros : ℕ} (bs : List Bool) → length bs ≡ n → binary bs ≡ zeros → Counts n width (found zeros) (map known bs)
  nothing : (bs : List Bool) → length bs ≡ n → binary bs ≡ width → Counts n width empty (map known bs)
  anything : {vs : List Val} → length vs ≡ n → Counts n width unsure vs

pub length-counts : {n width : ℕ} {l : Lead} {vs : List Val} → Counts n width l vs → length vs ≡ n
length-counts (counts bs n b) = length-map bs known ∙ n
length-counts (nothing bs n b) = length-map bs known ∙ n
length-counts (anything n) = n

-- A block above a shorter counter.
pub join-counter : {n width j : ℕ} {low high : Lead} {ls hs : List Val} {e : Val} → n ≤ j → Counts n width low ls
    → Answers j high hs e → Counts (suc j) (width + 2 ^ j) (over (2 ^ j) low high) (chosen gate_value e hs ls ++ (e ∷ []))
join-counter {ls = ls} short low (counts bs n b) =
    let t = zero-on-top bs ls n in
    rw t.values (counts t.bits t.size (t.reads ∙ b))
join-counter {n} {j = j} short (counts bs size b) nothing =
    let t = one-on-top j (j - n) bs (omega arith) in
    rw t.values (counts t.bits t.size (t.reads ∙ ap (λ (z : ℕ). 2 ^ j + z) b))
join-counter {n} {j = j} short (nothing bs size b) nothing =
    let t = one-on-top j (j - n) bs (omega arith) in
    rw t.values (nothing t.bits t.size (omega (arith, t.reads)))
join-counter {j = j} {ls = ls} short (anything n) nothing =
    anything (length-joined gate_value (known true) (replicate j (known false)) ls (known true) ∙ ap suc (length-replicate j (known false)))
join-counter {ls = ls} {hs = hs} {e = e} short low (anything n) = anything (length-joined gate_value e hs ls e ∙ ap suc n)
