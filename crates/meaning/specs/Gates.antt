-- The gates: numbers 0 to 15, in the order of document 000, each with the number of its arguments and its
-- Boolean function; each drives one net. Numbers from 16 up are modules.
use Rattle.std.specs.Prelude.{ℕ, Bool, true, false, not, ◌&&◌, ◌||◌, cond, List, [], ◌∷◌, map, get_or, ltb}
use Rattle.meaning.specs.Values.{Val, by_fillings, value, code}

-- The Boolean function of each name, as document 000 prints it (section 3.2). Its B-EQUV is the gate B-EQV.

abbrev pub B-BUF : Bool → Bool
B-BUF x = cond x true false

abbrev pub B-NOT : Bool → Bool
B-NOT x = not x

abbrev pub B-NAND : Bool → Bool → Bool
B-NAND a b = not (a && b)

abbrev pub B-NAND3 : Bool → Bool → Bool → Bool
B-NAND3 a b c = not (a && (b && c))

abbrev pub B-NAND4 : Bool → Bool → Bool → Bool → Bool
B-NAND4 a b c d = not (a && (b && (c && d)))

abbrev pub B-OR : Bool → Bool → Bool
B-OR a b = a || b

abbrev pub B-OR3 : Bool → Bool → Bool → Bool
B-OR3 a b c = a || (b || c)

abbrev pub B-OR4 : Bool → Bool → Bool → Bool → Bool
B-OR4 a b c d = a || (b || (c || d))

abbrev pub B-EQV : Bool → Bool → Bool
B-EQV x y = cond x (cond y true false) (cond y false true)

abbrev pub B-XOR : Bool → Bool → Bool
B-XOR x y = cond x (cond y false true) (cond y true false)

abbrev pub B-AND : Bool → Bool → Bool
B-AND a b = a && b

abbrev pub B-AND3 : Bool → Bool → Bool → Bool
B-AND3 a b c = a && (b && c)

abbrev pub B-AND4 : Bool → Bool → Bool → Bool → Bool
B-AND4 a b c d = a && (b && (c && d))

abbrev pub B-NOR : Bool → Bool → Bool
B-NOR a b = not (a || b)

abbrev pub B-NOR3 : Bool → Bool → Bool → Bool
B-NOR3 a b c = not (a || (b || c))

abbrev pub B-NOR4 : Bool → Bool → Bool → Bool → Bool
B-NOR4 a b c d = not (a || (b || (c || d)))

-- A gate: how many arguments it takes, and its function on the list of them. An argument that is missing
-- reads as false, one too many is not looked at; in a file that passes the check neither happens.
pub record Gate : Type 0 where
  pub arity : ℕ
  pub function : List Bool → Bool

abbrev pub one : (Bool → Bool) → Gate
one f = record { arity = 1; function = λ bs. f (get_or bs 0 false) }

abbrev pub two : (Bool → Bool → Bool) → Gate
two f = record { arity = 2; function = λ bs. f (get_or bs 0 false) (get_or bs 1 false) }

abbrev pub three : (Bool → Bool → Bool → Bool) → Gate
three f = record { arity = 3; function = λ bs. f (get_or bs 0 false) (get_or bs 1 false) (get_or bs 2 false) }

abbrev pub four : (Bool → Bool → Bool → Bool → Bool) → Gate
four f = record { arity = 4; function = λ bs. f (get_or bs 0 false) (get_or bs 1 false) (get_or bs 2 false) (get_or bs 3 false) }

unfoldable pub gates : List Gate
gates =
    one B-BUF
    ∷ one B-NOT
    ∷ two B-NAND
    ∷ three B-NAND3
    ∷ four B-NAND4
    ∷ two B-OR
    ∷ three B-OR3
    ∷ four B-OR4
    ∷ two B-EQV
    ∷ two B-XOR
    ∷ two B-AND
    ∷ three B-AND3
    ∷ four B-AND4
    ∷ two B-NOR
    ∷ three B-NOR3
    ∷ four B-NOR4
    ∷ []

abbrev pub is_gate : ℕ → Bool
is_gate number = ltb number 16

-- The gate of a number. A number from 16 up has none: no arguments, and false.
unfoldable pub gate : ℕ → Gate
gate number = get_or gates number (record { arity = 0; function = λ bs. false })

-- On three values a gate's result is known exactly when every filling of its unknown arguments gives it.
unfoldable pub gate_value : ℕ → List Val → Val
gate_value number vs = by_fillings (gate number).function vs

-- The same on numbers: every number above 1 is an unknown argument, and the result is 0, 1 or 2.
unfoldable pub gate_code : ℕ → List ℕ → ℕ
gate_code number xs = code (gate_value number (map value xs))
