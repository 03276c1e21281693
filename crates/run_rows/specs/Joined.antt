-- What is made of each of so many rows, end to end.
use Rattle.std.specs.Prelude.{ℕ, zero, suc, ◌+◌, ◌*◌, ◌≤◌, ◌≡◌, refl, List, [], ◌∷◌, ◌++◌, length, take, drop}
use Rattle.std.proofs.Common.{sym, ap, ap₂, ◌∙◌, append_assoc, append-nil, arith, add-zero, add-suc, zero-mul, suc-mul, add-mul, length-append}
use Rattle.meaning.specs.Layout.{each}
use Rattle.meaning.specs.Rows.{rows_of}
use Rattle.laws.specs.Lists.{each_append}
use Rattle.image.specs.Laid.{laid, laid-after}
use Rattle.laws.specs.RowParts.{part, part-behind}

unfoldable pub joined : (ℕ → List ℕ) → ℕ → List ℕ
joined f zero = []
joined f (suc n) = joined f n ++ f n

pub length-of-joined : (f : ℕ → List ℕ) (size : ℕ) → ((i : ℕ) → length (f i) ≡ size) → (n : ℕ) → length (joined f n) ≡ n * size
unfolding joined
length-of-joined f size each zero = sym (zero-mul size)
length-of-joined f size each (suc n) =
    length-append (joined f n) (f n) ∙ omega (arith, length-of-joined f size each n, each n, suc-mul n size)

-- Rows behind others.
pub joined-add : (f : ℕ → List ℕ) (a b : ℕ) → joined f (a + b) ≡ joined f a ++ joined (λ i. f (a + i)) b
unfolding joined
joined-add f a zero = ap (joined f) (add-zero a) ∙ sym (append-nil (joined f a))
joined-add f a (suc b) =
    ap (joined f) (add-suc a b)
    ∙ ap (λ (l : List ℕ). l ++ f (a + b)) (joined-add f a b)
    ∙ append_assoc (joined f a) (joined (λ i. f (a + i)) b) (f (a + b))

-- Rows laid behind others that are laid.
pub joined-laid :
    (f : ℕ → List ℕ) (size : ℕ) → ((i : ℕ) → length (f i) ≡ size)
    → (out : List ℕ) (at a b : ℕ)
    → at + (a + b) * size ≤ length out
    → {place : ℕ}
    → place ≡ at + a * size
    → laid (laid out at (joined f a)) place (joined (λ i. f (a + i)) b) ≡ laid out at (joined f (a + b))
joined-laid f size sized out at a b fits {place} is =
    let la = length-of-joined f size sized a in
    let lb = length-of-joined (λ i. f (a + i)) size (λ i. sized (a + i)) b in
    let here : place ≡ at + length (joined f a) = omega (arith, is, la) in
    ap (λ (p : ℕ). laid (laid out at (joined f a)) p (joined (λ i. f (a + i)) b)) here
    ∙ laid-after out at (joined f a) (joined (λ i. f (a + i)) b) (omega (arith, la, lb, fits, add-mul a b size))
    ∙ ap (laid out at) (sym (joined-add f a b))

-- Only the rows count.
pub joined_same : {f g : ℕ → List ℕ} → ((i : ℕ) → f i ≡ g i) → (n : ℕ) → joined f n ≡ joined g n
unfolding joined
joined_same same zero = refl
joined_same same (suc n) = ap₂ ◌++◌ (joined_same same n) (same n)

-- One row more of a buffer stands behind the others.
rows_more :
    (rows width : ℕ) (values : List ℕ) → rows_of (suc rows) width values ≡ rows_of rows width values ++ (part width rows values ∷ [])
unfolding rows_of
rows_more zero width values = rw (zero-mul width)
rows_more (suc rows) width values =
    ap (λ (l : List (List ℕ)). take width values ∷ l)
    (rows_more rows width (drop width values)
    ∙ ap (λ (l : List ℕ). rows_of rows width (drop width values) ++ (l ∷ [])) (sym (part-behind width rows values)))

-- What is written of each row of a buffer.
pub joined-rows :
    (f : List ℕ → List ℕ) (n width : ℕ) (values : List ℕ) → each f (rows_of n width values) ≡ joined (λ i. f (part width i values)) n
unfolding joined each rows_of
joined-rows f zero width values = refl
joined-rows f (suc n) width values =
    ap (each f) (rows_more n width values)
    ∙ each_append f (rows_of n width values) (part width n values ∷ [])
    ∙ ap₂ ◌++◌ (joined-rows f n width values) (append-nil (f (part width n values)))
