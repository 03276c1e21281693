-- A body that passes the check passes it when it is rewritten: the nets that it mentioned are signals as before, and the new ones are not
-- signals until they are driven.
use Rattle.std.specs.Prelude.{ℕ, ◌≡◌, true, false, List, [], ◌∷◌, ◌++◌, eqb, length}
use Rattle.std.proofs.Math.Path.{refl}
use Rattle.std.proofs.Common.{sym, ap, ◌∙◌, true≢false}
use borrow.Author.Tests.{eqb-false, eq-eqb, ne_eqb}
use Rattle.meaning.specs.Syntax.{Occurrence, Module}
use Rattle.meaning.specs.Boxlist.{member, disjoint, duplicates, subset}
use Rattle.meaning.specs.Withdrawn.{pair_kind, two_kind, three_gates, rewrite_body, rewrite_module, rewrite_file}
use Rattle.laws.specs.Tests.{and_both}
use Rattle.laws.specs.WellFormed.{Reference, to_gate, to_module, OccurrenceOk, Body, done, step}
use Rattle.laws.specs.Adder.Distinct.{member-append}
use Rattle.laws.specs.Withdrawn.Kinds.{Four, four_is}
use Rattle.laws.specs.Withdrawn.Fresh.{Unused, none, more, neither_true}
use Rattle.laws.specs.Withdrawn.Suits.{Among, on_four, Suits, over, kept, replaced}
use Rattle.laws.specs.Withdrawn.Delay.{found-rewritten}

-- A used net and one that is not are two.
apart : (used : List ℕ) (x y : ℕ) → member x used ≡ true → member y used ≡ false → eqb x y ≡ false
apart used x y is out =
    ne_eqb x y (λ same. true≢false (sym is ∙ ap (λ (z : ℕ). member z used) same ∙ out))

other_way : (x y : ℕ) → eqb x y ≡ false → eqb y x ≡ false
other_way x y e = ne_eqb y x (λ same. eqb-false x y e (sym same))

-- Every used net is a signal of both or of neither.
pub record SameSignals (used signals signals' : List ℕ) : Type 0 where
  pub same : (x : ℕ) → member x used ≡ true → member x signals' ≡ member x signals

same-fresh : {used signals signals' : List ℕ} (x : ℕ) → member x used ≡ false → SameSignals used signals signals' → SameSignals used signals (x ∷ signals')
unfolding member
same-fresh {used} x out s = record { same = λ z is. rw (apart used z x is out) (s.same z is) }

same-driven : {used signals signals' : List ℕ} (drives : List ℕ) → SameSignals used signals signals' → SameSignals used (drives ++ signals) (drives ++ signals')
same-driven {used} {signals} {signals'} drives s =
    record { same = λ x is. rw (member-append x drives signals', member-append x drives signals, s.same x is) }

disjoint-same : {used signals signals' xs : List ℕ} → SameSignals used signals signals' → Among used xs → disjoint xs signals' ≡ disjoint xs signals
unfolding disjoint
disjoint-same s Among.none = refl
disjoint-same s (Among.more {x = x} is rest) = rw (s.same x is, disjoint-same s rest)

subset-same : {used signals signals' xs : List ℕ} → SameSignals used signals signals' → Among used xs → subset xs signals' ≡ subset xs signals
unfolding subset
subset-same s Among.none = refl
subset-same s (Among.more {x = x} is rest) = rw (s.same x is, subset-same s rest)

-- New nets that are left are no signals.
unused-cons : {signals fresh : List ℕ} (x : ℕ) → Unused signals fresh → member x fresh ≡ false → Unused (x ∷ signals) fresh
unfolding member
unused-cons x none out = none
unused-cons x (more {x = z} {xs = zs} is once rest) out =
    let both = neither_true (eqb x z) (member x zs) out in
    more {x = z} (rw (other_way x z both.0) is) once (unused-cons x rest both.1)

out_of : {used xs : List ℕ} (z : ℕ) → member z used ≡ false → Among used xs → member z xs ≡ false
unfolding member
out_of z out Among.none = refl
out_of {used} z out (Among.more {x = x} is rest) = rw (other_way x z (apart used x z is out)) (out_of z out rest)

unused-driven : {used signals fresh drives : List ℕ} → Unused used fresh → Unused signals fresh → Among used drives → Unused (drives ++ signals) fresh
unused-driven none none within = none
unused-driven {signals = signals} {drives = drives} (more {x = z} out once rest) (more is once' rest') within =
    more {x = z} (rw (member-append z drives signals, out_of z out within) is) once (unused-driven rest rest' within)

reference-rewritten : {later : List Module} {o : Occurrence} → Reference later o → Reference (rewrite_file later) o
unfolding rewrite_module
reference-rewritten (to_gate h arity single) = to_gate h arity single
reference-rewritten {later} {o} (to_module m h found takes drives) =
    to_module (rewrite_module m) h (found-rewritten o.refers later found) takes drives

-- The three gates in place of one.
module _ {later : List Module} {signals signals' used : List ℕ} (x y : ℕ) {drives : List ℕ} {kind a b c d : ℕ} (four : Four kind)
    (ok : OccurrenceOk later signals (on_four drives kind a b c d))
    (driven : Among used drives) (within : Among used (a ∷ b ∷ c ∷ d ∷ []))
    (out_x : member x used ≡ false) (out_y : member y used ≡ false) (two : eqb x y ≡ false)
    (unseen_x : member x signals' ≡ false) (unseen_y : member y signals' ≡ false)
    (s : SameSignals used signals signals')
  where
    single : 1 ≡ length drives
    single = go ok.reference
      where
        go : Reference later (on_four drives kind a b c d) → 1 ≡ length drives
        go (to_gate h arity one) = one
        go (to_module m h found t r) = absurd (true≢false (sym (four_is four).is_one ∙ h))

    bound : subset (a ∷ b ∷ c ∷ d ∷ []) signals' ≡ true
    bound = subset-same s within ∙ ok.bound

    bound-behind : subset (a ∷ b ∷ c ∷ d ∷ []) (x ∷ signals') ≡ true
    bound-behind = subset-same (same-fresh x out_x s) within ∙ ok.bound

    first-ok : OccurrenceOk (rewrite_file later) signals' (record { drives = x ∷ []; refers = pair_kind kind; takes = a ∷ b ∷ [] })
    unfolding subset disjoint duplicates member
    first-ok =
        let of_a = and_both (member a signals') _ bound in
        let of_b = and_both (member b signals') _ of_a.1 in
        record {
          distinct = refl;
          fresh = rw unseen_x;
          bound = rw (of_a.0, of_b.0);
          reference = to_gate (four_is four).pair_gate (four_is four).pair_arity refl;
        }

    second-ok : OccurrenceOk (rewrite_file later) (x ∷ signals') (record { drives = y ∷ []; refers = pair_kind kind; takes = c ∷ d ∷ [] })
    unfolding subset disjoint duplicates member
    second-ok =
        let of_a = and_both (member a (x ∷ signals')) _ bound-behind in
        let of_b = and_both (member b (x ∷ signals')) _ of_a.1 in
        record {
          distinct = refl;
          fresh = rw (other_way x y two, unseen_y);
          bound = of_b.1;
          reference = to_gate (four_is four).pair_gate (four_is four).pair_arity refl;
        }

    third-ok : OccurrenceOk (rewrite_file later) (y ∷ x ∷ signals') (record { drives = drives; refers = two_kind kind; takes = x ∷ y ∷ [] })
    unfolding subset member
    third-ok =
        record {
          distinct = ok.distinct;
          fresh = disjoint-same (same-fresh y out_y (same-fresh x out_x s)) driven ∙ ok.fresh;
          bound = rw (two, eq-eqb x x refl, eq-eqb y y refl);
          reference = to_gate (four_is four).two_gate (four_is four).two_arity single;
        }

    three-body :
        {os : List Occurrence} → Body (rewrite_file later) (drives ++ (y ∷ x ∷ signals')) os
        → Body (rewrite_file later) signals' (three_gates x y (on_four drives kind a b c d) ++ os)
    unfolding three_gates
    three-body rest = step first-ok (step second-ok (step third-ok rest))

pub rewritten-body :
    {later : List Module} {signals : List ℕ} {os : List Occurrence} {used fresh signals' : List ℕ}
    → Body later signals os
    → Suits used fresh os
    → Unused used fresh
    → Unused signals' fresh
    → SameSignals used signals signals'
    → Body (rewrite_file later) signals' (rewrite_body fresh os)
unfolding rewrite_body member
rewritten-body done over new unseen s = done
rewritten-body (step ok rest) (kept {o = o} stays drives takes suits) new unseen s =
    rw stays
    (step
    (record {
      distinct = ok.distinct;
      fresh = disjoint-same s drives ∙ ok.fresh;
      bound = subset-same s takes ∙ ok.bound;
      reference = reference-rewritten ok.reference;
    })
    (rewritten-body rest suits new (unused-driven new unseen drives) (same-driven o.drives s)))
rewritten-body (step ok rest) (replaced {drives = nets} four drives takes suits)
    (more {x = x} out_x once_x (more {x = y} out_y once_y new)) (more here_x _ (more here_y _ unseen)) s =
    let two = neither_true (eqb x y) _ once_x in
    rw (four_is four).gone
    (three-body x y four ok drives takes out_x out_y two.0 here_x here_y s
    (rewritten-body rest suits new
    (unused-driven new (unused-cons y (unused-cons x unseen two.1) once_y) drives)
    (same-driven nets (same-fresh y out_y (same-fresh x out_x s)))))

-- What is not used is not among a part of the used nets.
pub unused-of-used : {used fresh xs : List ℕ} → Unused used fresh → Among used xs → Unused xs fresh
unused-of-used none within = none
unused-of-used (more {x = z} out once rest) within = more (out_of z out within) once (unused-of-used rest within)
