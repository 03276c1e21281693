-- What holds of every entry of two lists, one after the other.
use Rattle.std.specs.Prelude.{List, [], ◌∷◌, ◌++◌}
use Rattle.meaning.specs.Lists.{All, none, more}

pub all_both : {A : Type 0} {P : A → Type 0} {xs ys : List A} → All P xs → All P ys → All P (xs ++ ys)
all_both none q = q
all_both (more p ps) q = more p (all_both ps q)

pub all-before : {A : Type 0} {P : A → Type 0} (xs ys : List A) → All P (xs ++ ys) → All P xs
all-before [] ys h = none
all-before (x ∷ xs) ys (more p h) = more p (all-before xs ys h)
