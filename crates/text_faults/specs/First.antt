-- Where the check refuses a module for one of its occurrences, what is found is the first that breaks a rule, with the entry that breaks it.
use Rattle.std.specs.Prelude.{ℕ, suc, ◌+◌, ◌≤◌, ◌<◌, ◌⊎◌, ◌≡◌, true, false, cond, not, ◌&&◌, ◌||◌, List, [], ◌∷◌, ◌++◌, ltb, length}
use Rattle.std.proofs.Common.{arith, inl, inr, ap, lt-ltb, le-ltb, ltb-true}
use Rattle.std.proofs.Math.Path.{refl}
use Rattle.std.proofs.Math.Bool.{Bool}
use Rattle.meaning.specs.Syntax.{Occurrence, Module}
use Rattle.meaning.specs.Gates.{is_gate}
use Rattle.meaning.specs.Boxlist.{disjoint, duplicates, subset, assoc, is_box, arity_okp}
use Rattle.meaning.specs.Rules.{Unresolved, Mismatch}
use Rattle.meaning.specs.Verdict.{Verdict, good, refused, keep, and_then, occurrence_verdict, body_verdict}
use Rattle.laws.specs.Tests.{if_true, if_false}
use Rattle.laws.specs.Finding.{resolved_tells, reference-tells, reference-resolved}
use Rattle.fault_parts.specs.Fronts.{new_front, known_front}
use Rattle.text_faults.specs.Faults.{entries, entry_at_fault, fault_in, first_fault}
use Rattle.text_faults.specs.Breaking.{Breaks, driven_again, not_known, unresolved, mismatched, signals_behind, FirstOf}
use Rattle.text_faults.specs.FrontLaws.{new-all, known-all, next-new, next_known}

-- What the verdict on an occurrence says of the entry that is found.
data Told (place : ℕ) (o : Occurrence) (signals : List ℕ) (later : List Module) : Verdict → (entry : ℕ) → Type 0 where
  fine : {entry : ℕ} → entries o ≤ entry → Told place o signals later good entry
  wrong : {number entry : ℕ} → Breaks o signals later number entry → entry < entries o → Told place o signals later (refused number place) entry

module _ (place : ℕ) (o : Occurrence) (signals : List ℕ) (later : List Module) where
  again : new_front o.drives signals < length o.drives → Told place o signals later (refused 11 place) (new_front o.drives signals)
  again l =
      let n = next-new o.drives signals l in
      rw n.long (wrong (driven_again n.front n.rest n.net n.are n.wrong) (omega (arith, n.long)))

  lacking : known_front o.takes signals < length o.takes
      → Told place o signals later (refused 12 place) (length o.drives + 1 + known_front o.takes signals)
  lacking l =
      let n = next_known o.takes signals l in
      rw n.long (wrong (not_known n.front n.rest n.net n.are n.wrong) (omega (arith, n.long)))

  mismatch : ¬ (Unresolved o later) → Unresolved o later ⊎ Mismatch o later → Mismatch o later
  mismatch r (inl u) = absurd (r u)
  mismatch r (inr m) = m

  told : Told place o signals later (occurrence_verdict place o signals later) (fault_in o signals later)
  unfolding occurrence_verdict fault_in entry_at_fault
  told =
      rw (new-all o.drives signals, known-all o.takes signals)
      (go (not (duplicates o.drives) && disjoint o.drives signals) (subset o.takes signals) _ _ (new-all o.drives signals) (known-all o.takes signals) refl refl)
    where
      resolved : Bool
      resolved = is_gate o.refers || is_box (assoc o.refers later)

      go : (a b r f : Bool) → ltb (new_front o.drives signals) (length o.drives) ≡ not a → ltb (known_front o.takes signals) (length o.takes) ≡ not b
          → resolved ≡ r → arity_okp o.refers o.takes o.drives later ≡ f
          → Told place o signals later (keep 11 place a (keep 12 place b (keep 13 place r (keep 14 place f good))))
          (cond (not a) (new_front o.drives signals)
          (cond (not b) (length o.drives + 1 + known_front o.takes signals)
          (cond f (length o.drives + 1 + length o.takes) (length o.drives))))
      go false b r f ea eb er ef = again (ltb-true _ _ ea)
      go true false r f ea eb er ef = lacking (ltb-true _ _ eb)
      go true true false true ea eb er ef = absurd (reference-resolved (if_true (reference-tells o later) ef) (if_false (resolved_tells o later) er))
      go true true false false ea eb er ef = wrong (unresolved (if_false (resolved_tells o later) er)) (omega arith)
      go true true true false ea eb er ef =
          wrong (mismatched (mismatch (if_true (resolved_tells o later) er) (if_false (reference-tells o later) ef))) (omega arith)
      go true true true true ea eb er ef = fine {entry = entries o} (omega arith)

-- The first occurrence that is refused.
pub body_fault : (i place : ℕ) (os : List Occurrence) (signals : List ℕ) (later : List Module) (number p : ℕ)
    → body_verdict place os signals later ≡ refused number p
    → (p ≡ place) × FirstOf i place os signals later number (first_fault i os signals later)
unfolding body_verdict signals_behind first_fault
body_fault i place [] signals later number p e = absurd (let z : ◌≡◌ {A = ℕ} 0 1 = cc in omega arith)
body_fault i place (o ∷ os) signals later number p e =
    go (occurrence_verdict place o signals later) (fault_in o signals later) refl refl (told place o signals later) e
    (body_fault (suc i) place os (o.drives ++ signals) later number p)
  where
    go : (v : Verdict) (entry : ℕ) → occurrence_verdict place o signals later ≡ v → fault_in o signals later ≡ entry → Told place o signals later v entry
        → and_then v (body_verdict place os (o.drives ++ signals) later) ≡ refused number p
        → (body_verdict place os (o.drives ++ signals) later ≡ refused number p
        → (p ≡ place) × FirstOf (suc i) place os (o.drives ++ signals) later number (first_fault (suc i) os (o.drives ++ signals) later))
        → (p ≡ place) × FirstOf i place (o ∷ os) signals later number (first_fault i (o ∷ os) signals later)
    go good entry is q (fine l) e further =
        let n = further e in
        let l' : entries o ≤ fault_in o signals later = omega arith in
        rw (le-ltb _ _ l') (
          n.0,
          record {
            before = o ∷ n.1.before;
            o = n.1.o;
            behind = n.1.behind;
            are = ap (λ rest. o ∷ rest) n.1.are;
            occurrence = omega (arith, n.1.occurrence);
            driven = n.1.driven;
            fine = rw is n.1.fine;
            breaks = n.1.breaks;
          },
        )
    go (refused m place) entry is q (wrong b l) e further =
        let same : number ≡ m = cc in
        let there : p ≡ place = cc in
        let l' : fault_in o signals later < entries o = omega arith in
        rw (lt-ltb _ _ l') (
          there,
          record {
            before = [];
            o = o;
            behind = os;
            are = refl;
            occurrence = omega arith;
            driven = refl;
            fine = refl;
            breaks = rw (same, q) b;
          },
        )
