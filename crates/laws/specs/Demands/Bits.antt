-- Known bits as the bytes 0 and 1.
use Rattle.std.specs.Prelude.{ℕ, zero, suc, ◌≡◌, refl, ◌≢◌, Bool, true, false, cond, List, [], ◌∷◌, map, length}
use Rattle.std.proofs.Common.{arith, sym, ap, ap₂, ◌∙◌}
use Rattle.std.proofs.Math.Option.{some}
use Rattle.std.proofs.Math.ListN.{get_elem?}
use Rattle.std.proofs.lemmas.List.{length-map}
use Rattle.meaning.specs.Values.{Val, known, un, value, code, Fills, done, kept, put}
use Rattle.meaning.specs.Adder.{bit}
use Rattle.meaning.specs.Calls.{first_above}
use Rattle.laws.specs.Tests.{Tells, tells_true, tells_false, eqb_tells}
use Rattle.laws.specs.Evaluation.{Agrees}
use Rattle.laws.specs.Demands.Terms.{KeepsKnown}

value-of-bit : (b : Bool) → value (bit b) ≡ known b
value-of-bit true = refl
value-of-bit false = refl

code-of-known : (b : Bool) → code (known b) ≡ bit b
code-of-known true = refl
code-of-known false = refl

pub values-of-bits : (bs : List Bool) → map value (map bit bs) ≡ map known bs
values-of-bits [] = refl
values-of-bits (b ∷ bs) = ap₂ {C = List Val} ◌∷◌ (value-of-bit b) (values-of-bits bs)

pub codes_of-known : (bs : List Bool) → map code (map known bs) ≡ map bit bs
codes_of-known [] = refl
codes_of-known (b ∷ bs) = ap₂ {C = List ℕ} ◌∷◌ (code-of-known b) (codes_of-known bs)

-- No bit is above 3.
pub bits_small : (bs : List Bool) → first_above (map bit bs) ≡ length (map bit bs)
unfolding first_above
bits_small [] = refl
bits_small (true ∷ bs) = ap suc (bits_small bs)
bits_small (false ∷ bs) = ap suc (bits_small bs)

of-value : (x : ℕ) (b : Bool) → value x ≡ known b → x ≡ bit b
of-value x b = go (eqb_tells x 0) (eqb_tells x 1) b
  where
    never : {A : Type 0} {v w : Val} → code v ≢ code w → v ≡ w → A
    never other e = absurd (other (ap code e))

    go : {p q : Bool} → Tells (x ≡ 0) (x ≢ 0) p → Tells (x ≡ 1) (x ≢ 1) q → (b : Bool) → cond p (known false) (cond q (known true) un) ≡ known b → x ≡ bit b
    go (tells_true e) t false h = e
    go (tells_true e) t true h = never (λ z. omega arith) h
    go (tells_false n) (tells_true e) true h = e
    go (tells_false n) (tells_true e) false h = never (λ z. omega arith) h
    go (tells_false n) (tells_false m) true h = never (λ z. omega arith) h
    go (tells_false n) (tells_false m) false h = never (λ z. omega arith) h

-- A byte that is a bit is the code of that bit, and the value of it, and of nothing else.
pub code_at : (vs : List Val) (i : ℕ) (b : Bool) → get_elem? (map code vs) i ≡ some (bit b) → get_elem? vs i ≡ some (known b)
code_at [] i b e = cc
code_at (v ∷ vs) zero b e = ap some (of_code v b (let same : code v ≡ bit b = cc in same))
  where
    of_code : (v : Val) (b : Bool) → code v ≡ bit b → v ≡ known b
    of_code (known true) true e = refl
    of_code (known true) false e = absurd (omega arith)
    of_code (known false) true e = absurd (omega arith)
    of_code (known false) false e = refl
    of_code un true e = absurd (omega arith)
    of_code un false e = absurd (omega arith)
code_at (v ∷ vs) (suc i) b e = code_at vs i b e

at_code : (vs : List Val) (i : ℕ) (b : Bool) → get_elem? vs i ≡ some (known b) → get_elem? (map code vs) i ≡ some (bit b)
at_code [] i b e = cc
at_code (v ∷ vs) zero b e = let same : v ≡ known b = cc in ap some (ap code same ∙ code-of-known b)
at_code (v ∷ vs) (suc i) b e = at_code vs i b e

-- The values that bytes stand for keep what the bytes keep.
value-at : (xs : List ℕ) (i : ℕ) (b : Bool) → get_elem? (map value xs) i ≡ some (known b) → get_elem? xs i ≡ some (bit b)
value-at [] i b e = cc
value-at (x ∷ xs) zero b e = ap some (of-value x b (let same : value x ≡ known b = cc in same))
value-at (x ∷ xs) (suc i) b e = value-at xs i b e

at_value : (xs : List ℕ) (i : ℕ) (b : Bool) → get_elem? xs i ≡ some (bit b) → get_elem? (map value xs) i ≡ some (known b)
at_value [] i b e = cc
at_value (x ∷ xs) zero b e = let same : x ≡ bit b = cc in ap some (ap value same ∙ value-of-bit b)
at_value (x ∷ xs) (suc i) b e = at_value xs i b e

-- So lists agree as bytes where they agree as values.
pub values_agree : (xs ys : List ℕ) → length xs ≡ length ys → KeepsKnown xs ys → Agrees (map value xs) (map value ys)
values_agree xs ys counts keeps =
    record {
      same_count = length-map xs value ∙ counts ∙ sym (length-map ys value);
      where_known = λ i b e. at_value ys i b (keeps i b (value-at xs i b e));
    }

pub codes_keep : {vs ws : List Val} → Agrees vs ws → KeepsKnown (map code vs) (map code ws)
codes_keep {vs} {ws} agrees i b e = at_code ws i b (agrees.where_known i b (code_at vs i b e))

-- A filling has as many bits as there are values; only the unknown value has code 2.
pub length-of-filling : {vs : List Val} {bs : List Bool} → Fills vs bs → length vs ≡ length bs
length-of-filling done = refl
length-of-filling (kept rest) = ap suc (length-of-filling rest)
length-of-filling (put rest) = ap suc (length-of-filling rest)

pub code-of_unknown : (v : Val) → code v ≡ 2 → v ≡ un
code-of_unknown (known true) e = absurd (omega arith)
code-of_unknown (known false) e = absurd (omega arith)
code-of_unknown un e = refl
