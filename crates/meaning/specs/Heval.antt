-- The logical value interpreter of document 000, Figure 7, on Booleans, with EVAL-NAME, COLLECT-EVAL-NAME, PAIRLIST and HAPPLY.
-- As printed, a module's body is evaluated in (CDR BOXLIST), whichever module of the list was found. The flag's two cases are two
-- functions: HEVAL F takes the HEVAL T of its list as an argument, so that each recursion is on one list.
use Rattle.std.specs.Prelude.{ℕ, Bool, false, cond, List, [], ◌∷◌, ◌++◌, eqb}
use Rattle.meaning.specs.Syntax.{Occurrence, Module}
use Rattle.meaning.specs.Gates.{is_gate, gate}
use Rattle.meaning.specs.Boxlist.{Found, box, F, assoc}

-- A pair (NAME . VALUE) of an association list.
pub record Pair : Type 0 where
  pub name : ℕ
  pub value : Bool

-- (EVAL-NAME NAME ALIST)
unfoldable pub eval_name : ℕ → List Pair → Bool
eval_name name [] = false
eval_name name (p ∷ alist) = cond (eqb name p.name) p.value (eval_name name alist)

-- (COLLECT-EVAL-NAME ARGS ALIST)
unfoldable pub collect_eval_name : List ℕ → List Pair → List Bool
collect_eval_name [] alist = []
collect_eval_name (name ∷ names) alist = eval_name name alist ∷ collect_eval_name names alist

-- (PAIRLIST L1 L2): the value of a name past the end of L2 reads as F.
unfoldable pub pairlist : List ℕ → List Bool → List Pair
pairlist [] values = []
pairlist (name ∷ names) [] = record { name = name; value = false } ∷ pairlist names []
pairlist (name ∷ names) (v ∷ values) = record { name = name; value = v } ∷ pairlist names values

-- (HAPPLY FN ACTUALS)
unfoldable pub happly : ℕ → List Bool → List Bool
happly fn actuals = (gate fn).function actuals ∷ []

-- A circuit reference: (FN . ARGS).
abbrev pub Reference : Type 0
Reference = ℕ → List ℕ → List Pair → List Bool

-- (HEVAL F FORM ALIST BOXLIST), where `heval-t` is HEVAL T in BOXLIST.
unfoldable pub heval_body : (heval-t : Reference) → List Occurrence → List Pair → List Pair
heval_body heval-t [] alist = alist
heval_body heval-t (o ∷ form) alist =
    heval_body heval-t form (pairlist o.drives (heval-t o.refers o.takes alist) ++ alist)

-- A box that was found, its body evaluated by the HEVAL T of (CDR BOXLIST).
abbrev pub heval_box : (heval-t : Reference) → Found → List Bool → List Bool
heval_box heval-t (box m) actuals = collect_eval_name m.outputs (heval_body heval-t m.occurrences (pairlist m.inputs actuals))
heval_box heval-t F actuals = []

-- (HEVAL T (CONS FN ARGS) ALIST BOXLIST)
unfoldable pub heval : List Module → Reference
heval [] fn args alist = cond (is_gate fn) (happly fn (collect_eval_name args alist)) []
heval (m ∷ ms) fn args alist =
    cond (is_gate fn) (happly fn (collect_eval_name args alist)) (heval_box (heval ms) (assoc fn (m ∷ ms)) (collect_eval_name args alist))
