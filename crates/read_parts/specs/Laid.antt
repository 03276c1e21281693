-- Lists whose first entries have been replaced, one store after the other, and one step of reading after the other.
use Rattle.std.specs.Prelude.{ℕ, suc, ◌+◌, ◌-◌, ◌≤◌, ◌<◌, ◌≡◌, List, [], ◌∷◌, ◌++◌, length, drop, set, get_or}
use Rattle.std.proofs.Common.{ap, sym, ◌∙◌, append_assoc, arith, length-append, length-drop, drop-drop, drop-cons}
use Rattle.std.proofs.Math.Seq.{drop-append-add, append_snoc}
use Rattle.std.proofs.lemmas.List.{set_at, get_or_at}
use Rattle.read_parts.specs.Numbers.{before, laid}
use Rattle.read_parts.specs.Places.{before-length}
use Rattle.read_parts.specs.Steps.{Stands, Lays}
use Rattle.read_parts.specs.declared.way.Spot.{Spot}

-- What covers a layer leaves nothing of it.
pub laid-over : (xs ys old : List ℕ) → length xs ≤ length ys → laid ys (laid xs old) ≡ laid ys old
laid-over xs ys old h =
    let k : ℕ = length ys - length xs in
    let e : length ys ≡ length xs + k = omega arith in
    ap (λ (t : List ℕ). ys ++ t)
    (ap (λ (n : ℕ). drop n (laid xs old)) e
    ∙ drop-append-add xs (drop (length xs) old) k
    ∙ drop-drop k (length xs) old
    ∙ ap (λ (n : ℕ). drop n old) (sym e))

pub length-laid : (xs old : List ℕ) → length xs ≤ length old → length (laid xs old) ≡ length old
length-laid xs old h = simp (length-append, length-drop) (omega arith)

-- The entry behind xs is stored.
pub laid_more : (xs old : List ℕ) (n v : ℕ) → laid xs old ≡ old → n ≡ length xs → n < length old
    → set old n v ≡ laid (xs ++ (v ∷ [])) old
laid_more xs old n v lies e fits =
    let tail : drop (length xs) old ≡ get_or old (length xs) 0 ∷ drop (suc (length xs)) old =
    drop-cons old (length xs) 0 (omega arith)
    in
    let old≡ : old ≡ xs ++ (get_or old (length xs) 0 ∷ drop (suc (length xs)) old) = sym lies ∙ ap (λ (t : List ℕ). xs ++ t) tail in
    let m : length (xs ++ (v ∷ [])) ≡ suc (length xs) = simp length-append (omega arith) in
    ap (λ (t : List ℕ). set t n v) old≡
    ∙ set_at xs (get_or old (length xs) 0) (drop (suc (length xs)) old) v n (sym e)
    ∙ sym (append_snoc xs v (drop (suc (length xs)) old))
    ∙ ap (λ (k : ℕ). (xs ++ (v ∷ [])) ++ drop k old) (sym m)

-- The entry behind xs is read back.
pub laid-last : (xs old : List ℕ) (n v : ℕ) → n ≡ length xs → get_or (laid (xs ++ (v ∷ [])) old) n 0 ≡ v
laid-last xs old n v e = rw append_assoc (get_or_at xs v (drop (length (xs ++ (v ∷ []))) old) 0 n (sym e))

-- Nothing is done where reading stands.
pub lays-none : {bytes old : List ℕ} {spot : Spot} → Stands bytes spot old → Lays bytes spot.place spot.place old old
lays-none s = record { all = sym s.lies; keeps = omega arith }

pub lays-then : {bytes old mid new : List ℕ} {p q o : ℕ} → Lays bytes p q old mid → Lays bytes q o mid new
    → Lays bytes p o old new
lays-then {bytes} {old} {q} {o} t u =
    record {
      all = u.all
          ∙ ap (λ (l : List ℕ). laid (before bytes o) l) t.all
          ∙ laid-over (before bytes q) (before bytes o) old u.keeps;
      keeps = omega (arith, t.keeps, u.keeps);
    }

-- Laying numbers out leaves a list as long as it is.
pub lays-length : {bytes old new : List ℕ} {p q : ℕ} → length bytes ≤ length old → Lays bytes p q old new
    → length new ≡ length old
lays-length {bytes} {old} {q} room t =
    let few = before-length bytes q in
    ap length t.all ∙ length-laid (before bytes q) old (omega arith)
