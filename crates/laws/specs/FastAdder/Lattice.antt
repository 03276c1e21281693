-- On three values AND and OR are a distributive lattice. So going over two trees at once is going over one and then the other, and P
-- and G of a node do to any carry what its three trees do to it in turn.
use Rattle.std.specs.Prelude.{◌≡◌, refl, Bool, true, false, ◌&&◌, List, [], ◌∷◌, ℕ, eqb}
use Rattle.std.proofs.Common.{◌∙◌}
use Rattle.std.proofs.Math.Bool.{and-eq-true_iff}
use Rattle.meaning.specs.Values.{Val, known, un, code, by_fillings}
use Rattle.meaning.specs.Gates.{gate, gates, gate_value}
use Rattle.meaning.specs.Counter.{AND, OR}
use Rattle.meaning.specs.FastAdder.{AND3, OR3}

-- What modules 42 and 43 compute, whatever gates make of values: the carry behind one tree, and behind two.
module _ {A : Type 0} (gate_result : ℕ → List A → A) where
  abbrev pub over : (c p g : A) → A
  over c p g = gate_result OR (g ∷ gate_result AND (p ∷ c ∷ []) ∷ [])

  abbrev pub over_both : (c p g p' g' : A) → A
  over_both c p g p' g' = gate_result OR3 (g' ∷ gate_result AND (p' ∷ g ∷ []) ∷ gate_result AND3 (p' ∷ p ∷ c ∷ []) ∷ [])

-- A law of three variables, by trying all values.
abbrev every_val : (Val → Bool) → Bool
every_val f = f (known false) && (f (known true) && f un)

every-val : (f : Val → Bool) → every_val f ≡ true → (v : Val) → f v ≡ true
every-val f passed v =
    let first = (and-eq-true_iff (f (known false)) _).0 passed in
    let rest = (and-eq-true_iff (f (known true)) (f un)).0 first.1 in
    go v first.0 rest.0 rest.1
  where
    go : (v : Val) → f (known false) ≡ true → f (known true) ≡ true → f un ≡ true → f v ≡ true
    go (known false) a b c = a
    go (known true) a b c = b
    go un a b c = c

same_code : (v w : Val) → eqb (code v) (code w) ≡ true → v ≡ w
same_code (known true) (known true) e = refl
same_code (known true) (known false) e = cc
same_code (known true) un e = cc
same_code (known false) (known true) e = cc
same_code (known false) (known false) e = refl
same_code (known false) un e = cc
same_code un (known true) e = cc
same_code un (known false) e = cc
same_code un un e = refl

abbrev agree : (f g : Val → Val → Val → Val) → Bool
agree f g = every_val (λ a. every_val (λ b. every_val (λ c. eqb (code (f a b c)) (code (g a b c)))))

by_values : (f g : Val → Val → Val → Val) → agree f g ≡ true → (a b c : Val) → f a b c ≡ g a b c
by_values f g passed a b c =
    same_code (f a b c) (g a b c)
    (every-val (λ c. eqb (code (f a b c)) (code (g a b c)))
    (every-val (λ b. every_val (λ c. eqb (code (f a b c)) (code (g a b c))))
    (every-val (λ a. every_val (λ b. every_val (λ c. eqb (code (f a b c)) (code (g a b c))))) passed a) b) c)

-- AND and OR of two values, and the laws in use.
unfoldable both : Val → Val → Val
both a b = gate_value AND (a ∷ b ∷ [])

unfoldable either : Val → Val → Val
either a b = gate_value OR (a ∷ b ∷ [])

both3 : (a b c : Val) → gate_value AND3 (a ∷ b ∷ c ∷ []) ≡ both (both a b) c
unfolding gate_value gate gates by_fillings both
both3 = by_values _ _ refl

both-assoc : (a b c : Val) → both (both a b) c ≡ both a (both b c)
unfolding gate_value gate gates by_fillings both
both-assoc = by_values _ _ refl

both-swap : (a b c : Val) → both (both a b) c ≡ both b (both a c)
unfolding gate_value gate gates by_fillings both
both-swap = by_values _ _ refl

either3 : (a b c : Val) → gate_value OR3 (a ∷ b ∷ c ∷ []) ≡ either a (either b c)
unfolding gate_value gate gates by_fillings either
either3 = by_values _ _ refl

either-assoc : (a b c : Val) → either (either a b) c ≡ either a (either b c)
unfolding gate_value gate gates by_fillings either
either-assoc = by_values _ _ refl

distribute : (a b c : Val) → both a (either b c) ≡ either (both a b) (both a c)
unfolding gate_value gate gates by_fillings both either
distribute = by_values _ _ refl

-- Over two trees at once.
pub over_in_turn :
    (c p g p' g' : Val) → over_both gate_value c p g p' g' ≡ over gate_value (over gate_value c p g) p' g'
unfolding both either
over_in_turn c p g p' g' =
    either3 g' (both p' g) (gate_value AND3 (p' ∷ p ∷ c ∷ []))
    ∙ rw (both3 p' p c, both-assoc p' p c, distribute p' g (both p c))

-- P and G of two trees, and of three.
over-joined :
    (c p g p' g' : Val) → over gate_value c (both p p') (over gate_value g p' g') ≡ over gate_value (over gate_value c p g) p' g'
unfolding both either
over-joined c p g p' g' =
    either-assoc g' (both p' g) (both (both p p') c) ∙ rw (both-swap p p' c, distribute p' g (both p c))

pub over-node :
    (c p g p' g' p'' g'' : Val)
    → over gate_value c (gate_value AND3 (p ∷ p' ∷ p'' ∷ [])) (over_both gate_value g p' g' p'' g'')
    ≡ over gate_value (over gate_value (over gate_value c p g) p' g') p'' g''
over-node c p g p' g' p'' g'' =
    rw (over_in_turn g p' g' p'' g'', both3 p p' p'', over-joined c (both p p') (over gate_value g p' g') p'' g'', over-joined c p g p' g')
