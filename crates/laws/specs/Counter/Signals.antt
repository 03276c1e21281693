-- Which nets are inputs or driven so far, where nets are numbered in rows, and that a gate on such nets keeps the rules of
-- occurrences.
use Rattle.std.specs.Prelude.{ℕ, ◌+◌, ◌≤◌, ◌<◌, ◌⊎◌, ◌≡◌, refl, Bool, true, false, List, [], ◌∷◌, ◌++◌, ltb}
use Rattle.std.proofs.Common.{inl, inr, append-nil, arith, ltb-true, ltb-false}
use Rattle.meaning.specs.Syntax.{Occurrence, Module}
use Rattle.meaning.specs.Gates.{is_gate, gate}
use Rattle.meaning.specs.Members.{◌∈◌}
use Rattle.meaning.specs.Boxlist.{member, disjoint, duplicates, subset}
use Rattle.meaning.specs.Limits.{driven}
use Rattle.meaning.specs.Adder.{up_from}
use Rattle.meaning.specs.Counter.{gate_on}
use Rattle.laws.specs.WellFormed.{to_gate, OccurrenceOk, Body, done, step}
use Rattle.laws.specs.Tests.{is_true}
use Rattle.laws.specs.Members.{in-none, in_left, in_right, in_either, member-tells, out-member, subset-tells}
use Rattle.laws.specs.Flatten.Numbered.{of-run, in_run}

pub either_side : (x n : ℕ) → (x < n) ⊎ (n ≤ x)
either_side x n = go (ltb x n) refl
  where
    go : (b : Bool) → ltb x n ≡ b → (x < n) ⊎ (n ≤ x)
    go true e = inl (ltb-true x n e)
    go false e = inr (ltb-false x n e)

-- These nets are the numbers below one.
pub record Filled (n : ℕ) (nets : List ℕ) : Type 0 where
  pub are : (x : ℕ) → x ∈ nets → x < n
  pub all : (x : ℕ) → x < n → x ∈ nets

pub filled_row : {m : ℕ} {nets : List ℕ} (n : ℕ) → Filled m nets → Filled (m + n) (up_from m n ++ nets)
filled_row {m} {nets} n f = record { are = λ x i. are x (in_either (up_from m n) i); all = λ x h. all x h (either_side x m) }
  where
    are : (x : ℕ) → (x ∈ up_from m n) ⊎ (x ∈ nets) → x < m + n
    are x (inl i) = omega (arith, of-run m n i)
    are x (inr i) = omega (arith, f.are x i)

    all : (x : ℕ) → x < m + n → (x < m) ⊎ (m ≤ x) → x ∈ (up_from m n ++ nets)
    all x h (inl l) = in_right (up_from m n) (f.all x l)
    all x h (inr g) = in_left nets (in_run m n x (record { from = g; below = h }))

pub filled-inputs : (n : ℕ) → Filled n (up_from 0 n)
filled-inputs n =
    let none : Filled 0 [] = record { are = λ x i. absurd (in-none i); all = λ x h. absurd (omega arith) } in
    let same : 0 + n ≡ n = omega arith in
    rw (append-nil, same) at (filled_row n none)

-- The nets that are inputs or driven once occurrences have run. What was none before is driven by them.
unfoldable pub after : List Occurrence → List ℕ → List ℕ
after [] nets = nets
after (o ∷ os) nets = after os (o.drives ++ nets)

pub after_both : (os ps : List Occurrence) (nets : List ℕ) → after (os ++ ps) nets ≡ after ps (after os nets)
unfolding after
after_both [] ps nets = refl
after_both (o ∷ os) ps nets = after_both os ps (o.drives ++ nets)

pub body-both : {later : List Module} {nets : List ℕ} {os ps : List Occurrence} → Body later nets os → Body later (after os nets) ps
    → Body later nets (os ++ ps)
unfolding after
body-both done rest = rest
body-both (step ok body) rest = step ok (body-both body rest)

pub kept-after : (os : List Occurrence) {nets : List ℕ} {x : ℕ} → x ∈ nets → x ∈ after os nets
unfolding after
kept-after [] i = i
kept-after (o ∷ os) i = kept-after os (in_right o.drives i)

after_cases : (os : List Occurrence) (nets : List ℕ) {x : ℕ} → x ∈ after os nets → (x ∈ driven os) ⊎ (x ∈ nets)
unfolding after driven
after_cases [] nets i = inr i
after_cases (o ∷ os) nets {x} i = go (after_cases os (o.drives ++ nets) i)
  where
    own : (x ∈ o.drives) ⊎ (x ∈ nets) → (x ∈ (o.drives ++ driven os)) ⊎ (x ∈ nets)
    own (inl k) = inl (in_left (driven os) k)
    own (inr k) = inr k

    go : (x ∈ driven os) ⊎ (x ∈ (o.drives ++ nets)) → (x ∈ (o.drives ++ driven os)) ⊎ (x ∈ nets)
    go (inl k) = inl (in_right o.drives k)
    go (inr k) = own (in_either o.drives k)

-- So the outputs of a module are driven, if they lie above its inputs.
pub row-driven : {m n : ℕ} {nets : List ℕ} (os : List Occurrence) (first count : ℕ) → Filled m nets → Filled n (after os nets)
    → m ≤ first → first + count ≤ n → subset (up_from first count) (driven os) ≡ true
row-driven {nets = nets} os first count inputs signals low high =
    is_true (subset-tells (up_from first count) (driven os))
    (λ l. let place = of-run first count l.listed in
    l.missing (go l.net (omega arith) (after_cases os nets (signals.all l.net (omega arith)))))
  where
    go : (x : ℕ) → first ≤ x → (x ∈ driven os) ⊎ (x ∈ nets) → x ∈ driven os
    go x h (inl i) = i
    go x h (inr i) = absurd (omega (arith, inputs.are x i))

-- A gate of two arguments.
is_member : {x : ℕ} {nets : List ℕ} → x ∈ nets → member x nets ≡ true
is_member {x} {nets} i = is_true (member-tells x nets) (λ out. out i)

pub gate-ok : {later : List Module} {nets : List ℕ} (net kind a b : ℕ) → is_gate kind ≡ true → (gate kind).arity ≡ 2 → ¬ (net ∈ nets)
    → a ∈ nets → b ∈ nets → OccurrenceOk later nets (gate_on net kind a b)
unfolding duplicates disjoint subset member
gate-ok {nets = nets} net kind a b is_gate arity fresh ia ib =
    record {
      distinct = refl;
      fresh = rw (out-member net nets fresh);
      bound = rw (is_member ia, is_member ib);
      reference = to_gate is_gate arity refl;
    }
