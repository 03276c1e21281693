-- Each occurrence of the look-ahead takes only nets that are there and drives one that is not.
use Rattle.std.specs.Prelude.{ℕ, ◌+◌, ◌*◌, ◌≤◌, ◌≡◌, false, List, [], ◌∷◌}
use Rattle.std.proofs.Math.Path.{refl}
use Rattle.std.proofs.Common.{arith}
use Rattle.meaning.specs.Syntax.{Module}
use Rattle.meaning.specs.Gates.{gate, gates}
use Rattle.meaning.specs.Boxlist.{member, disjoint, duplicates, subset, assoc}
use Rattle.meaning.specs.FastAdder.{Tree, node, leaves, p_net, g_net, behind_one, behind_two, passes, makes, carry_one, carry_two}
use Rattle.laws.specs.WellFormed.{to_gate, to_module, OccurrenceOk}
use Rattle.laws.specs.Adder.Distinct.{member-cons}
use Rattle.laws.specs.FastAdder.Runs.{behind, not_behind}
use Rattle.laws.specs.FastAdder.Signals.{some-leaves, Adds, adds-both, Ready, Ran, Over, OverTwo}

-- The modules behind the look-ahead.
abbrev pub carriers : List Module
carriers = carry_two ∷ carry_one ∷ []

module _ (n : ℕ) where
  -- Each occurrence in turn.
  pub one_ok :
      {x : Tree} {s past : ℕ} {old new : List ℕ}
      → s + leaves x ≤ past
      → past ≤ n
      → Ready n s past old
      → Ran n x s old new
      → OccurrenceOk carriers new (behind_one n x s)
  unfolding duplicates disjoint subset member assoc
  one_ok {x} {s} fits most r ran =
      let end = s + leaves x in
      let some = some-leaves x in
      record {
        distinct = refl;
        fresh = rw (ran.adds.spared end (omega arith) (r.no_carry end (omega arith) fits));
        bound = rw (ran.carries s (omega arith), ran.has_p, ran.has_g);
        reference = to_module carry_one refl refl refl refl;
      }

  pub two_ok :
      {x y : Tree} {s past : ℕ} {old mid new : List ℕ}
      → s + leaves x + leaves y ≤ past
      → past ≤ n
      → Over n x s past old mid
      → Ran n y (s + leaves x) mid new
      → OccurrenceOk carriers new (behind_two n x y s)
  unfolding duplicates disjoint subset member assoc
  two_ok {x} {y} {s} fits most over ran =
      let end = s + leaves x + leaves y in
      let some = some-leaves y in
      record {
        distinct = refl;
        fresh = rw (ran.adds.spared end (omega arith) (over.ready.no_carry end (omega arith) fits));
        bound =
            rw (
              ran.carries s (omega arith),
              ran.adds.kept (p_net n x s) over.has_p,
              ran.adds.kept (g_net n x s) over.has_g,
              ran.has_p,
              ran.has_g,
            );
        reference = to_module carry_two refl refl refl refl;
      }

  module _ {x y z : Tree} {s past : ℕ} {old mid new : List ℕ} (fits : s + leaves x + leaves y + leaves z ≤ past) (most : past ≤ n)
      (ready : Ready n s past old) (over : OverTwo n x y s past old mid) (ran : Ran n z (s + leaves x + leaves y) mid new) where
    abbrev sy : ℕ
    sy = s + leaves x

    abbrev sz : ℕ
    sz = sy + leaves y

    adds-three : Adds n s (sz + leaves z) (sz + leaves z) old new
    adds-three =
        let some = some-leaves z in
        adds-both n sz (omega arith) (omega arith) (omega arith) over.adds ran.adds

    no_p : member (3 * n + 1 + sz) new ≡ false
    no_p =
        let low = some-leaves x in
        let high = some-leaves z in
        ran.adds.spared (3 * n + 1 + sz) (omega arith)
        (over.adds.spared (3 * n + 1 + sz) (omega arith) (ready.no_p sz (omega arith) (omega arith)))

    no_g : member (3 * n + 1 + sz + n) new ≡ false
    no_g =
        let low = some-leaves x in
        let high = some-leaves z in
        ran.adds.spared (3 * n + 1 + sz + n) (omega arith)
        (over.adds.spared (3 * n + 1 + sz + n) (omega arith) (ready.no_g sz (omega arith) (omega arith)))

    pub passes-ok : OccurrenceOk carriers new (passes n x y z s)
    unfolding duplicates disjoint subset member assoc p_net gate gates
    passes-ok =
        record {
          distinct = refl;
          fresh = rw no_p;
          bound = rw (ran.adds.kept (p_net n x s) over.low_p, ran.adds.kept (p_net n y sy) over.high_p, ran.has_p);
          reference = to_gate refl refl refl;
        }

    abbrev p : ℕ
    p = 3 * n + 1 + sz

    pub makes-ok : OccurrenceOk carriers (p ∷ new) (makes n x y z s)
    unfolding duplicates disjoint subset assoc p_net member
    makes-ok =
        let low = some-leaves x in
        let high = some-leaves z in
        record {
          distinct = refl;
          fresh = rw (not_behind (p + n) p new (omega arith) no_g);
          bound =
              rw (
                behind (g_net n x s) p new (ran.adds.kept (g_net n x s) over.low_g),
                behind (p_net n y sy) p new (ran.adds.kept (p_net n y sy) over.high_p),
                behind (g_net n y sy) p new (ran.adds.kept (g_net n y sy) over.high_g),
                behind (p_net n z sz) p new ran.has_p,
                behind (g_net n z sz) p new ran.has_g,
              );
          reference = to_module carry_two refl refl refl refl;
        }

    pub node-ran : Ran n (node x y z) s old ((p + n) ∷ p ∷ new)
    unfolding leaves p_net
    node-ran =
        let low = some-leaves x in
        let high = some-leaves z in
        record {
          adds =
              record {
                kept = λ net held. behind net (p + n) (p ∷ new) (behind net p new (adds-three.kept net held));
                spared = λ net s' out.
                    not_behind net (p + n) (p ∷ new) (s'.node_g sz (omega arith) (omega arith))
                    (not_behind net p new (s'.node_p sz (omega arith) (omega arith))
                    (adds-three.spared net
                    (record {
                      carry = λ i a b. s'.carry i a (omega arith);
                      node_p = λ i a b. s'.node_p i a (omega arith);
                      node_g = λ i a b. s'.node_g i a (omega arith);
                    })
                    out));
              };
          carries = λ i low. behind i (p + n) (p ∷ new) (behind i p new (ran.carries i (omega arith)));
          has_p = behind p (p + n) (p ∷ new) (member-cons p p new (λ other. absurd (other refl)));
          has_g = member-cons (p + n) (p + n) (p ∷ new) (λ other. absurd (other refl));
        }
