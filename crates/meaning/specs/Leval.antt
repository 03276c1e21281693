-- The loading interpreter of document 000, section 6, with LAPPLY, ASSOC, COLLECT-ASSOC and PAIRLIST. As printed, a module's body is
-- taken in (CDR BOXLIST), whichever module of the list was found, and its inputs start from (PAIRLIST INPUTS 0), each from 0. The flag's
-- two cases are two functions: LEVAL F takes the LEVAL T of its list as an argument, so that each recursion is on one list; LEVAL T
-- looks at no ARGS and no ALIST. ADD-TO-ALIST and MAX-ALIST-VAL are not printed, and are what they are called.
use Rattle.std.specs.Prelude.{ℕ, ◌+◌, max, cond, List, [], ◌∷◌, ◌++◌, eqb, replicate}
use Rattle.meaning.specs.Syntax.{Occurrence, Module}
use Rattle.meaning.specs.Gates.{is_gate, gate}
use Rattle.meaning.specs.Boxlist.{Found, box, F, assoc}

-- A pair (NAME . LOADING) of an association list.
pub record Pair : Type 0 where
  pub name : ℕ
  pub loading : ℕ

-- (CDR (ASSOC NAME ALIST)): a name that the list lacks reads as 0.
unfoldable pub loading_of : ℕ → List Pair → ℕ
loading_of name [] = 0
loading_of name (p ∷ alist) = cond (eqb name p.name) p.loading (loading_of name alist)

-- (COLLECT-ASSOC ARGS ALIST)
unfoldable pub collect_assoc : List ℕ → List Pair → List ℕ
collect_assoc [] alist = []
collect_assoc (name ∷ names) alist = loading_of name alist ∷ collect_assoc names alist

-- (PAIRLIST L1 L2): the loading of a name past the end of L2 reads as 0.
unfoldable pub pairlist : List ℕ → List ℕ → List Pair
pairlist [] loadings = []
pairlist (name ∷ names) [] = record { name = name; loading = 0 } ∷ pairlist names []
pairlist (name ∷ names) (l ∷ loadings) = record { name = name; loading = l } ∷ pairlist names loadings

-- (ADD-TO-ALIST ARGS COSTS ALIST): each cost is added to the loading of its name.
unfoldable pub add_to : (name cost : ℕ) → List Pair → List Pair
add_to name cost [] = []
add_to name cost (p ∷ alist) =
    cond (eqb name p.name) (record { name = p.name; loading = p.loading + cost } ∷ alist) (p ∷ add_to name cost alist)

unfoldable pub add_to_alist : (args costs : List ℕ) → List Pair → List Pair
add_to_alist [] costs alist = alist
add_to_alist (name ∷ args) [] alist = alist
add_to_alist (name ∷ args) (c ∷ costs) alist = add_to_alist args costs (add_to name c alist)

-- (MAX-ALIST-VAL ALIST)
unfoldable pub max_alist_val : List Pair → ℕ
max_alist_val [] = 0
max_alist_val (p ∷ alist) = max p.loading (max_alist_val alist)

-- The three items: the input loadings, the output loadings, and the maximum internal loading.
pub record Triple : Type 0 where
  pub inputs : List ℕ
  pub outputs : List ℕ
  pub maximum : ℕ

-- Where no box is found LEVAL returns F: no loadings.
abbrev pub no_loadings : Triple
no_loadings = record { inputs = []; outputs = []; maximum = 0 }

-- (LAPPLY FN)
abbrev pub lapply : ℕ → Triple
lapply fn = record { inputs = replicate (gate fn).arity 1; outputs = 0 ∷ []; maximum = 1 }

-- What LEVAL F returns: an association list and the maximum.
pub record Loaded : Type 0 where
  pub alist : List Pair
  pub maximum : ℕ

-- (LEVAL F FORM ALIST BOXLIST), where `leval-t` is LEVAL T in BOXLIST.
unfoldable pub leval_body : (leval-t : ℕ → Triple) → List Occurrence → List Pair → Loaded
leval_body leval-t [] alist = record { alist = alist; maximum = max_alist_val alist }
leval_body leval-t (o ∷ form) alist =
    let triple = leval-t o.refers in
    let return = leval_body leval-t form (pairlist o.drives triple.outputs ++ add_to_alist o.takes triple.inputs alist) in
    record { alist = return.alist; maximum = max triple.maximum return.maximum }

-- A box that was found, its body taken by the LEVAL T of (CDR BOXLIST).
abbrev pub leval_box : (leval-t : ℕ → Triple) → Found → Triple
leval_box leval-t (box m) =
    let leval = leval_body leval-t m.occurrences (pairlist m.inputs []) in
    record {
      inputs = collect_assoc m.inputs leval.alist;
      outputs = collect_assoc m.outputs leval.alist;
      maximum = leval.maximum;
    }
leval_box leval-t F = no_loadings

-- (LEVAL T (CONS FN ARGS) ALIST BOXLIST)
unfoldable pub leval : List Module → ℕ → Triple
leval [] fn = cond (is_gate fn) (lapply fn) no_loadings
leval (m ∷ ms) fn = cond (is_gate fn) (lapply fn) (leval_box (leval ms) (assoc fn (m ∷ ms)))
