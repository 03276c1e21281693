-- Parts of a list as the code lends them, from a start up to an end.
use Rattle.std.specs.Prelude.{ℕ, ◌+◌, ◌-◌, ◌≡◌, List, length, take, drop}
use Rattle.std.proofs.Common.{sym, ap, subst, ◌∙◌, arith}
use Rattle.nets.specs.Slots.{Below}
use Rattle.nets.specs.Bounds.{below-part as below-some}
use Rattle.image.specs.Stands.{Stands, stands-part}

abbrev pub part : (from end : ℕ) → List ℕ → List ℕ
part from end l = take (end - from) (drop from l)

-- What bounds every entry bounds those of a part.
pub below-part : {bound : ℕ} {l : List ℕ} (from end : ℕ) → Below bound l → Below bound (part from end l)
below-part from end b = below-some from (end - from) b

-- Indices of a table are indices of one as long.
pub below-sized : {n n' : ℕ} {l : List ℕ} → n' ≡ n → Below n l → Below n' l
below-sized {l = l} e b = subst (λ (m : ℕ). Below m l) (sym e) b

-- What stands at a place is the part of its length there.
pub part-stands : {l : List ℕ} {from : ℕ} {xs : List ℕ} (end : ℕ) → end ≡ from + length xs → Stands l from xs → part from end l ≡ xs
part-stands {l} {from} {xs} end e s =
    let long : end - from ≡ length xs = omega arith in
    ap (λ (n : ℕ). take n (drop from l)) long ∙ stands-part s
