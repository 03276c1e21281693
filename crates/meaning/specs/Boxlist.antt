-- Well-formed lists of modules as Brock and Hunt define them: document 000, Figures 4 and 5, with the functions of section 3.
-- Our syntax has only proper lists of the right shape, so the tests LISTP, PROPERP and EQUAL .. NIL have nothing left to say.
-- DUPLICATES? is as its definition has it, true if a member occurs twice (the sentence before it says the opposite), and the
-- parentheses of BODY-OKP are read as its indentation means them.
use Rattle.std.specs.Prelude.{ℕ, Bool, true, false, not, ◌&&◌, ◌||◌, cond, List, [], ◌∷◌, ◌++◌, eqb, length}
use Rattle.meaning.specs.Syntax.{Occurrence, Module}
use Rattle.meaning.specs.Gates.{is_gate, gate}

-- (MEMBER X LIST)
unfoldable pub member : ℕ → List ℕ → Bool
member x [] = false
member x (y ∷ ys) = eqb x y || member x ys

-- (DISJOINT L1 L2)
unfoldable pub disjoint : List ℕ → List ℕ → Bool
disjoint [] ys = true
disjoint (x ∷ xs) ys = not (member x ys) && disjoint xs ys

-- (DUPLICATES? L)
unfoldable pub duplicates : List ℕ → Bool
duplicates [] = false
duplicates (x ∷ xs) = member x xs || duplicates xs

-- (SUBSET L1 L2)
unfoldable pub subset : List ℕ → List ℕ → Bool
subset [] ys = true
subset (x ∷ xs) ys = member x ys && subset xs ys

-- What (ASSOC NAME BOXLIST) finds: the first module of that number, or F.
pub data Found : Type 0 where
  box : Module → Found
  F : Found

unfoldable pub assoc : ℕ → List Module → Found
assoc x [] = F
assoc x (m ∷ ms) = cond (eqb x m.number) (box m) (assoc x ms)

abbrev pub is_box : Found → Bool
is_box (box m) = true
is_box F = false

-- The arity checks of BODY-OKP for submodules, with the existence check.
abbrev pub submodule_okp : Found → (args lhs : List ℕ) → Bool
submodule_okp (box m) args lhs = eqb (length args) (length m.inputs) && eqb (length lhs) (length m.outputs)
submodule_okp F args lhs = false

-- The arity checks of BODY-OKP: (PRIMP FN) is the pair of a gate's arity and 1.
unfoldable pub arity_okp : ℕ → (args lhs : List ℕ) → (rest : List Module) → Bool
arity_okp fn args lhs rest =
    cond (is_gate fn) (eqb (gate fn).arity (length args) && eqb 1 (length lhs)) (submodule_okp (assoc fn rest) args lhs)

-- (BODY-OKP BODY SIGNALS OUTPUTS REST)
unfoldable pub body_okp : List Occurrence → (signals outputs : List ℕ) → (rest : List Module) → Bool
body_okp [] signals outputs rest = subset outputs signals
body_okp (o ∷ os) signals outputs rest =
    not (duplicates o.drives)
    && disjoint o.drives signals
    && subset o.takes signals
    && arity_okp o.refers o.takes o.drives rest
    && body_okp os (o.drives ++ signals) outputs rest

-- (BOXLIST-OKP BOXLIST)
unfoldable pub boxlist_okp : List Module → Bool
boxlist_okp [] = true
boxlist_okp (m ∷ rest) =
    not (is_box (assoc m.number rest))
    && not (duplicates m.inputs)
    && not (duplicates m.outputs)
    && disjoint m.inputs m.outputs
    && body_okp m.occurrences m.inputs m.outputs rest
    && boxlist_okp rest
