-- What the check gives for a joined file where each of the two is accepted by itself: 13 at the first module of the house that refers to a number
-- which the group's file overrides; where there is none, only the expanded size can be too large.
use Rattle.std.specs.Prelude.{ℕ, suc, ◌+◌, ◌≤◌, ◌≡◌, refl, Bool, true, false, not, cond, ◌&&◌, ◌||◌, List, [], ◌∷◌, ◌++◌, eqb, length}
use Rattle.std.proofs.Common.{sym, ap, subst, ◌∙◌, true≢false, arith, eq-eqb, le-ltb}
use Rattle.meaning.specs.Syntax.{Occurrence, Module}
use Rattle.meaning.specs.Gates.{is_gate}
use Rattle.meaning.specs.Members.{◌∈◌}
use Rattle.meaning.specs.Boxlist.{Found, box, F, assoc, is_box}
use Rattle.meaning.specs.Rules.{Unresolved, occurrence_rules, module_rules, modules_rules, size_rules, file_rules, Outcome, all_kept, broken, kept}
use Rattle.meaning.specs.Verdict.{Verdict, good, refused, and_then, sizes_verdict, file_verdict}
use Rattle.meaning.specs.Shelves.{lacking, joined}
use Rattle.laws.specs.WellFormed.{Reference, to_gate, to_module, OccurrenceOk, Body, done, step, ModuleOk, Accepted, none, some}
use Rattle.laws.specs.Accepted.{body_kept, module_comes}
use Rattle.laws.specs.Tests.{if_true, if_false, neither}
use Rattle.laws.specs.Members.{here, there, in-none, duplicates-tells, disjoint-tells, subset-tells}
use Rattle.laws.specs.Finding.{found-tells, resolved_tells, reference-resolved, reference-matches, not_box}
use Rattle.laws.specs.Outcomes.{and_then-outcome}
use Rattle.laws.specs.Refusals.{sizes-outcome, verdict-outcome}
use Rattle.laws.specs.Joining.{found-append, found-lacking, overridden}
use Rattle.laws.specs.Overriding.{InFrontOf, first, further}

-- An occurrence refers to a number of the group's file,
abbrev pub overrides : (own : List Module) → Occurrence → Bool
overrides own o = not (is_gate o.refers) && is_box (assoc o.refers own)

-- one of a list does,
unfoldable pub any_overrides : (own : List Module) → List Occurrence → Bool
any_overrides own [] = false
any_overrides own (o ∷ os) = overrides own o || any_overrides own os

abbrev pub thirteen : (place : ℕ) → Bool → Verdict
thirteen place found = cond found (refused 13 place) good

-- and 13 at the first module, counted from a place on, of which one does.
unfoldable pub overridden_verdict : (own : List Module) (place : ℕ) → List Module → Verdict
overridden_verdict own place [] = good
overridden_verdict own place (m ∷ ms) =
    and_then (thirteen place (any_overrides own m.occurrences)) (overridden_verdict own (suc place) ms)

-- A number of the house is not found behind where the house's file has none behind.
still-absent : (number : ℕ) (own others : List Module) → assoc number others ≡ F → assoc number (lacking own others) ≡ F
still-absent number own others absent = go (assoc number own) refl
  where
    go : (f : Found) → assoc number own ≡ f → assoc number (lacking own others) ≡ F
    go (box k) e = overridden number own others e
    go F e = found-lacking number own others e ∙ absent

-- What the group does not override is found as before,
still-refers : (own : List Module) {later : List Module} {o : Occurrence} → overrides own o ≡ false → Reference later o → Reference (lacking own later) o
still-refers own keeps (to_gate g arity one) = to_gate g arity one
still-refers own {later} {o} keeps (to_module m g found takes drives) =
    to_module m g (found-lacking o.refers own later (not_box _ lacks) ∙ found) takes drives
  where
    lacks : is_box (assoc o.refers own) ≡ false
    lacks = rw g at keeps

-- and what it overrides is not.
overridden-lost :
    (own later : List Module) (o : Occurrence) → overrides own o ≡ true → Unresolved o (lacking own later)
overridden-lost own later o over = go (assoc o.refers own) refl (is_gate o.refers) refl over
  where
    go :
        (f : Found)
        → assoc o.refers own ≡ f
        → (b : Bool)
        → is_gate o.refers ≡ b
        → (not b && is_box f) ≡ true
        → Unresolved o (lacking own later)
    go f e true g h = absurd (true≢false (sym h))
    go F e false g h = absurd (true≢false (sym h))
    go (box k) e false g h =
        if_false (resolved_tells o (lacking own later))
        (rw (g, overridden o.refers own later e))

body_comes :
    (own : List Module) (p : ℕ) {later : List Module} {signals : List ℕ} {os : List Occurrence}
    → Body later signals os
    → Outcome (occurrence_rules p os signals (lacking own later)) (thirteen p (any_overrides own os))
unfolding occurrence_rules any_overrides
body_comes own p done = all_kept
body_comes own p {later} {signals} (step {o = o} {os} ok rest) = go (overrides own o) refl (body_comes own p rest)
  where
    go :
        (b : Bool)
        → overrides own o ≡ b
        → Outcome (occurrence_rules p os (o.drives ++ signals) (lacking own later)) (thirteen p (any_overrides own os))
        → Outcome (occurrence_rules p (o ∷ os) signals (lacking own later)) (thirteen p (b || any_overrides own os))
    go true e more =
        kept
        (neither (if_false (duplicates-tells o.drives) ok.distinct) (if_true (disjoint-tells o.drives signals) ok.fresh))
        (kept (if_true (subset-tells o.takes signals) ok.bound)
        (broken (overridden-lost own later o e)))
    go false e more =
        let reference = still-refers own e ok.reference in
        kept
        (neither (if_false (duplicates-tells o.drives) ok.distinct) (if_true (disjoint-tells o.drives signals) ok.fresh))
        (kept (if_true (subset-tells o.takes signals) ok.bound)
        (kept (reference-resolved reference)
        (kept (reference-matches reference)
        more)))

-- The modules of the house.
then-good : (v : Verdict) → and_then v good ≡ v
then-good good = refl
then-good (refused number place) = refl

house_comes :
    (own : List Module) (p : ℕ) {others : List Module}
    → Accepted others
    → Outcome (modules_rules p (lacking own others)) (overridden_verdict own p (lacking own others))
unfolding lacking modules_rules overridden_verdict
house_comes own p none = all_kept
house_comes own p (some {m} {later} ok rest) = go (is_box (assoc m.number own)) (house_comes own p rest) (house_comes own (suc p) rest)
  where
    own-verdict : Outcome (module_rules p m (lacking own later)) (thirteen p (any_overrides own m.occurrences))
    own-verdict =
        subst (Outcome (module_rules p m (lacking own later))) (then-good _)
        (module_comes p (lacking own later) ok (still-absent m.number own later ok.unique) (body_comes own p ok.body))

    go :
        (b : Bool)
        → Outcome (modules_rules p (lacking own later)) (overridden_verdict own p (lacking own later))
        → Outcome (modules_rules (suc p) (lacking own later)) (overridden_verdict own (suc p) (lacking own later))
        → Outcome (modules_rules p (cond b (lacking own later) (m ∷ lacking own later))) (overridden_verdict own p (cond b (lacking own later) (m ∷ lacking own later)))
    go true skipped next = skipped
    go false skipped next = and_then-outcome own-verdict next

-- The group's modules are what they are without the house.
body-before : (behind : List Module) {later : List Module} {signals : List ℕ} {os : List Occurrence} → Body later signals os → Body (later ++ behind) signals os
body-before behind done = done
body-before behind {later} (step {o = o} ok rest) =
    step
    (record { distinct = ok.distinct; fresh = ok.fresh; bound = ok.bound; reference = go ok.reference })
    (body-before behind rest)
  where
    go : Reference later o → Reference (later ++ behind) o
    go (to_gate g arity one) = to_gate g arity one
    go (to_module m g found takes drives) = to_module m g (found-append o.refers later behind ∙ rw found) takes drives

group_comes :
    (own behind : List Module) (p : ℕ) {v : Verdict}
    → Accepted own
    → ((number : ℕ) → is_box (assoc number own) ≡ true → assoc number behind ≡ F)
    → Outcome (modules_rules (length own + p) behind) v
    → Outcome (modules_rules p (own ++ behind)) v
unfolding modules_rules assoc
group_comes [] behind p {v} accepted apart next = subst (λ (q : ℕ). Outcome (modules_rules q behind) v) (omega arith) next
group_comes (m ∷ later) behind p {v} (some ok rest) apart next =
    and_then-outcome
    (module_comes p (later ++ behind) ok unique (body_kept p (body-before behind ok.body)))
    (group_comes later behind (suc p) rest further (subst (λ (q : ℕ). Outcome (modules_rules q behind) v) (omega arith) next))
  where
    unique : assoc m.number (later ++ behind) ≡ F
    unique =
        found-append m.number later behind
        ∙ rw ok.unique (apart m.number (rw (eq-eqb m.number m.number refl)))

    further : (number : ℕ) → is_box (assoc number later) ≡ true → assoc number behind ≡ F
    further number e = apart number (go (eqb number m.number))
      where
        go : (b : Bool) → is_box (cond b (box m) (assoc number later)) ≡ true
        go true = refl
        go false = e

-- The verdict on the joined file.
pub joined-verdict :
    (own others : List Module)
    → Accepted own
    → Accepted others
    → file_verdict (joined own others) ≡ and_then (overridden_verdict own (length own) (lacking own others)) (sizes_verdict 0 (joined own others))
unfolding joined file_rules
joined-verdict own others a b =
    (verdict-outcome (own ++ lacking own others) _).1
    (and_then-outcome
    (group_comes own (lacking own others) 0 a away
    (subst (λ (q : ℕ). Outcome (modules_rules q (lacking own others)) (overridden_verdict own (length own) (lacking own others))) (omega arith)
    (house_comes own (length own) b)))
    (sizes-outcome 0 (own ++ lacking own others)))
  where
    away : (number : ℕ) → is_box (assoc number own) ≡ true → assoc number (lacking own others) ≡ F
    away number h = go (assoc number own) refl h
      where
        go : (f : Found) → assoc number own ≡ f → is_box f ≡ true → assoc number (lacking own others) ≡ F
        go (box k) e h = overridden number own others e
        go F e h = absurd (true≢false (sym h))

-- So the surprise has one number: a module of the house that refers to what the group overrides makes the check give 13, at it or at such a module in
-- front of it.
pub record GivesThirteen (v : Verdict) : Type 0 where
  pub place : ℕ
  pub verdict : v ≡ refused 13 place

any-inside : (own : List Module) (os : List Occurrence) {o : Occurrence} → o ∈ os → overrides own o ≡ true → any_overrides own os ≡ true
unfolding any_overrides
any-inside own [] i over = absurd (in-none i)
any-inside own (o ∷ os) (here e) over = rw (← e, over)
any-inside own (o ∷ os) (there i) over = go (overrides own o) (any-inside own os i over)
  where
    go : (b : Bool) → any_overrides own os ≡ true → (b || any_overrides own os) ≡ true
    go true e = refl
    go false e = e

thirteen-inside :
    (own : List Module) {m : Module} {later : List Module} (p : ℕ) {ms : List Module}
    → InFrontOf m later ms
    → any_overrides own m.occurrences ≡ true
    → GivesThirteen (overridden_verdict own p ms)
unfolding overridden_verdict
thirteen-inside own p first over = record { place = p; verdict = rw over }
thirteen-inside own p (further {other} {ms} i) over = go (any_overrides own other.occurrences) (thirteen-inside own (suc p) i over)
  where
    go :
        (b : Bool)
        → GivesThirteen (overridden_verdict own (suc p) ms)
        → GivesThirteen (and_then (thirteen p b) (overridden_verdict own (suc p) ms))
    go true behind = record { place = p; verdict = refl }
    go false behind = behind

pub overridden-thirteen :
    (own others : List Module) {m k : Module} {later : List Module} (o : Occurrence)
    → Accepted own
    → Accepted others
    → InFrontOf m later (lacking own others)
    → o ∈ m.occurrences
    → 16 ≤ o.refers
    → assoc o.refers own ≡ box k
    → GivesThirteen (file_verdict (joined own others))
overridden-thirteen own others {m} o a b i inside above found =
    let gives = thirteen-inside own (length own) i (any-inside own m.occurrences inside over) in
    record { place = gives.place; verdict = joined-verdict own others a b ∙ rw gives.verdict }
  where
    over : overrides own o ≡ true
    over = rw (le-ltb o.refers 16 above, found)
