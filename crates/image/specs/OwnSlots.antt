-- In a resolved module each net is its own slot: inputs and driven nets, in their order, are the numbers from 0 on. It is so because no
-- net of a module that fits is an input twice, driven twice or both.
use Rattle.std.specs.Prelude.{ℕ, ◌≡◌, refl, true, false, List, [], ◌∷◌, ◌++◌}
use Rattle.std.proofs.Common.{sym, ap, ◌∙◌, append_assoc, append-nil}
use mathlib.Core.List.Memᴰ.{head as here}
use mathlib.Core.List.Memᴰ.{not-nil as in-none}
use mathlib.Core.List.Memᴰ.{tail as there}
use Rattle.meaning.specs.Syntax.{Occurrence, Module}
use Rattle.meaning.specs.Boxlist.{member, disjoint, duplicates}
use Rattle.meaning.specs.Limits.{driven, net_count}
use Rattle.meaning.specs.Adder.{up_from}
use Rattle.laws.specs.Tests.{is_true}
use Rattle.laws.specs.Members.{disjoint-tells, disjoint-out, out-member}
use Rattle.nets.specs.Booleans.{or_left, or_right}
use Rattle.nets.specs.Members.{member-append}
use Rattle.nets.specs.SlotLaws.{slots_appended}
use Rattle.image.specs.Resolved.{nets_of, resolve_module}
use Rattle.image.specs.Shapes.{length-of-nets, nets-of-resolved}
use Rattle.image.specs.Fitting.{ModuleFits}
use Rattle.image.specs.Ordered.{Ordered, done, step, ordered}

duplicates-append :
    (xs ys : List ℕ) → duplicates xs ≡ false → duplicates ys ≡ false → disjoint ys xs ≡ true → duplicates (xs ++ ys) ≡ false
unfolding duplicates
duplicates-append [] ys dx dy apart = dy
duplicates-append (x ∷ xs) ys dx dy apart =
    rw (
      member-append x xs ys,
      or_left (member x xs) (duplicates xs) dx,
      out-member x ys (λ i. disjoint-out ys (x ∷ xs) apart i (here refl)),
    )
    (duplicates-append xs ys (or_right (member x xs) (duplicates xs) dx) dy
    (is_true (disjoint-tells ys xs) (λ c. disjoint-out ys (x ∷ xs) apart c.in_first (there c.in_second))))

distinct_throughout :
    {later : List Module} {nets : List ℕ} {os : List Occurrence}
    → Ordered later nets os
    → duplicates nets ≡ false
    → duplicates (nets ++ driven os) ≡ false
unfolding driven
distinct_throughout {nets = nets} done distinct = ap duplicates (append-nil nets) ∙ distinct
distinct_throughout (step {nets} {o} {os} ok rest) distinct =
    ap duplicates (sym (append_assoc nets o.drives (driven os)))
    ∙ distinct_throughout rest (duplicates-append nets o.drives distinct ok.distinct ok.fresh)

pub own-slots :
    (refer : ℕ → ℕ) (position : ℕ) {m : Module} {later : List Module}
    → ModuleFits m later
    → nets_of (resolve_module refer position m) ≡ up_from 0 (net_count m)
unfolding nets_of
own-slots refer position {m} ok =
    nets-of-resolved refer position m
    ∙ slots_appended [] (nets_of m)
    (is_true (disjoint-tells (nets_of m) []) (λ c. in-none c.in_second))
    (distinct_throughout (ordered ok) ok.inputs_distinct)
    ∙ ap (up_from 0) (length-of-nets m)
