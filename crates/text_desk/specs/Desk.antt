-- The desk on which the file's numbers are laid while the text is read: the numbers so far, and where the counts of the list of nets and
-- of the list of occurrences stand that are being read. What a part does to it goes by the mode, the stage's number.
use Rattle.std.specs.Prelude.{ℕ, suc, ◌+◌, Bool, true, false, cond, ◌||◌, List, [], ◌∷◌, ◌++◌, eqb, leb, length, get_or, set}

pub record Desk : Type 0 where
  pub numbers : List ℕ
  pub list : ℕ
  pub body : ℕ

-- A count raised by one.
abbrev pub raised : List ℕ → ℕ → List ℕ
raised xs q = set xs q (get_or xs q 0 + 1)

abbrev pub with_raised : ℕ → Desk → Desk
with_raised q d = record { numbers = raised d.numbers q; list = d.list; body = d.body }

-- A list begins: its count comes behind all.
abbrev pub with_list : Desk → Desk
with_list d = record { numbers = d.numbers ++ (0 ∷ []); list = length d.numbers; body = d.body }

abbrev pub with_body : Desk → Desk
with_body d = record { numbers = d.numbers ++ (0 ∷ []); list = d.list; body = length d.numbers }

-- `(`: a module (mode 2) or an occurrence (9) more, the list of occurrences (8), or another list; where a name came or is due (4, 12) its
-- count stands already or comes later.
abbrev pub opened : ℕ → Desk → Desk
opened m d =
    cond (eqb m 4 || eqb m 12) d
    (cond (eqb m 2) (with_raised 0 d)
    (cond (eqb m 9) (with_raised d.body d)
    (cond (eqb m 8) (with_body d) (with_list d))))

-- One module or occurrence too many.
abbrev pub opened_over : ℕ → Desk → Bool
opened_over m d =
    cond (eqb m 2) (leb 128 (get_or d.numbers 0 0))
    (cond (eqb m 9) (leb 4096 (get_or d.numbers d.body 0)) false)

-- An atom: the name of a module, which a list of nets follows (3, 13), or a net.
abbrev pub is_name : ℕ → Bool
is_name m = eqb m 3 || eqb m 13

abbrev pub with_name : ℕ → Desk → Desk
with_name x d = record { numbers = d.numbers ++ (x ∷ 0 ∷ []); list = length d.numbers + 1; body = d.body }

abbrev pub with_net : ℕ → Desk → Desk
with_net x d = record { numbers = raised d.numbers d.list ++ (x ∷ []); list = d.list; body = d.body }
