-- What LEVAL F of document 000 does with the occurrences of a module: in the end each name reads as its load on top of what it read as
-- before, and the maximum is the largest of the loads and of what is inside. For the inside of a gate LEVAL counts 1; that is no more
-- than the load of a net, since every gate has an argument.
use Prim.Native.Nat.{ℕ, zero, suc, ◌+◌, ◌≤◌, max}
use Rattle.std.specs.Prelude.{◌≡◌, refl, Bool, ◌⊎◌, leb, length}
use Rattle.std.proofs.Math.Bool.{true, false, cond}
use Rattle.std.proofs.Common.{inl, inr, leb-true, ltb-true}
use mathlib.Core.List.{List, [], ◌∷◌, ◌++◌, map-append}
use native.Mathlib.Omega.{arith}
use Rattle.std.proofs.Math.ListN.{replicate}
use Rattle.std.proofs.lemmas.List.{length-replicate}
use Rattle.meaning.specs.Syntax.{Occurrence, Module}
use Rattle.meaning.specs.Gates.{is_gate, gate, gates}
use Rattle.meaning.specs.Members.{◌∈◌, Twice}
use Rattle.meaning.specs.Limits.{driven}
use Rattle.meaning.specs.Figures.{largest, largest_referred}
use Rattle.meaning.specs.Loads.{places_load, Loads, referred_loads, net_load, loads_inside, largest_load}
use Rattle.meaning.specs.Leval.{Pair, loading_of, pairlist, add_to_alist, max_alist_val, Loaded}
use Rattle.laws.specs.Lists.{all-at}
use Rattle.laws.specs.WellFormed.{Reference, to_gate, to_module, OccurrenceOk}
use Rattle.laws.specs.Tests.{if_false}
use Rattle.laws.specs.Members.{in_left, in_right, in_either, duplicates-tells, disjoint-out, subset_in}
use Rattle.laws.specs.Adder.ByTest.{all-by-test}
use Rattle.laws.specs.Loads.Places.{load_somewhere}
use Rattle.laws.specs.Loads.Leval.Alist.{names, names-of-pairlist, names-of-add_to_alist}
use Rattle.laws.specs.Loads.Leval.Alist.{loading-of-add_to_alist, loading-of-pairlist, loading-below, loading-least}

-- Every gate has an argument.
some_argument : (kind : ℕ) → is_gate kind ≡ true → 1 ≤ (gate kind).arity
unfolding gate gates
some_argument kind g = all-at (all-by-test (λ g. leb 1 g.arity) (λ g. leb-true 1 g.arity) gates refl) kind _ (ltb-true kind 16 g)

largest-of-ones : (count : ℕ) → 1 ≤ count → 1 ≤ largest (replicate count 1)
unfolding largest
largest-of-ones zero h = absurd (omega arith)
largest-of-ones (suc count) h = omega arith

-- What LEVAL F has done with occurrences.
pub record Done (ms : List Module) (signals : List ℕ) (os : List Occurrence) (alist : List Pair) (b : Loaded) : Type 0 where
  pub reads : (x : ℕ) → loading_of x b.alist ≡ loading_of x alist + net_load (loads_inside ms) os x
  pub has : (x : ℕ) → loading_of x b.alist ≤ b.maximum
  pub referred : largest_referred (largest_load ms) os ≤ b.maximum
  pub least :
      (n : ℕ)
      → ((x : ℕ) → (x ∈ signals) ⊎ (x ∈ driven os) → loading_of x b.alist ≤ n)
      → largest_referred (largest_load ms) os ≤ n
      → b.maximum ≤ n

pub none_done : {ms : List Module} {signals : List ℕ} (alist : List Pair) → ¬ (Twice signals) → names alist ≡ signals
    → Done ms signals [] alist (record { alist = alist; maximum = max_alist_val alist })
unfolding net_load largest_referred
none_done alist once bound =
    record {
      reads = λ x. omega arith;
      has = λ x. loading-below x alist;
      referred = omega arith;
      least = λ n own deeper. loading-least n alist (rw bound once) (λ x i. own x (inl (rw bound at i)));
    }

module _ {ms : List Module} {signals : List ℕ} {o : Occurrence} (alist : List Pair) (ok : OccurrenceOk ms signals o)
    (bound : names alist ≡ signals) where
  abbrev inside : Loads
  inside = referred_loads (loads_inside ms) o

  abbrev pub after : List Pair
  after = pairlist o.drives inside.outputs ++ add_to_alist o.takes inside.inputs alist

  pub distinct : ¬ (Twice o.drives)
  distinct = if_false (duplicates-tells o.drives) ok.distinct

  pub names-after : names after ≡ o.drives ++ signals
  names-after =
      rw (map-append, names-of-pairlist o.drives inside.outputs, names-of-add_to_alist o.takes inside.inputs alist, bound)

  loading-after :
      (x : ℕ)
      → loading_of x after
      ≡ loading_of x alist + places_load x o.takes inside.inputs + places_load x o.drives inside.outputs
  loading-after x =
      let added = add_to_alist o.takes inside.inputs alist in
      let fresh : (t : ℕ) → t ∈ o.drives → ¬ (t ∈ names added)
      = λ t i. rw (names-of-add_to_alist o.takes inside.inputs alist, bound) (disjoint-out o.drives signals ok.fresh i) in
      omega (
        arith,
        loading-of-pairlist x o.drives inside.outputs added distinct fresh,
        loading-of-add_to_alist x o.takes inside.inputs alist
            (λ t i. rw bound (subset_in o.takes signals ok.bound i)),
      )

  module _ {os : List Occurrence} {b : Loaded} (rest : Done ms (o.drives ++ signals) os after b) where
    further-reads : (x : ℕ) → loading_of x b.alist ≡ loading_of x alist + net_load (loads_inside ms) (o ∷ os) x
    unfolding net_load
    further-reads x = omega (arith, rest.reads x, loading-after x)

    -- What is inside the occurrence is not above its nets and the modules reached.
    inner :
        (n : ℕ)
        → Reference ms o
        → ((x : ℕ) → x ∈ signals → loading_of x b.alist ≤ n)
        → largest_referred (largest_load ms) (o ∷ os) ≤ n
        → cond (is_gate o.refers) 1 (largest_load ms o.refers) ≤ n
    unfolding net_load largest_referred
    inner n (to_gate g takes drives) own deeper =
        let ones : List ℕ = replicate (length o.takes) 1 in
        let arguments : largest ones ≤ n
        = load_somewhere o.takes ones n (length-replicate (length o.takes) 1)
        (λ x i. omega (arith, rw g at (further-reads x), own x (subset_in o.takes signals ok.bound i))) in
        rw g (omega (arith, largest-of-ones (length o.takes) (omega (arith, some_argument o.refers g))))
    inner n (to_module m g found takes drives) own deeper = rw g (omega (arith, rw g at deeper))

    pub further-done :
        Done ms signals (o ∷ os) alist
        (record { alist = b.alist; maximum = max (cond (is_gate o.refers) 1 (largest_load ms o.refers)) b.maximum })
    unfolding largest_referred driven
    further-done =
        record {
          reads = further-reads;
          has = λ x. omega (arith, rest.has x);
          referred = omega (arith, reached (is_gate o.refers) (largest_load ms o.refers), rest.referred);
          least = λ n own deeper.
              omega (
                arith,
                inner n ok.reference (λ x i. own x (inl i)) deeper,
                rest.least n (λ x i. own x (among x i)) (omega arith),
              );
        }
      where
        reached : (b : Bool) (n : ℕ) → cond b 0 n ≤ cond b 1 n
        reached true n = omega arith
        reached false n = omega arith

        before : {x : ℕ} → (x ∈ o.drives) ⊎ (x ∈ signals) → (x ∈ signals) ⊎ (x ∈ (o.drives ++ driven os))
        before (inl i) = inr (in_left (driven os) i)
        before (inr i) = inl i

        among : (x : ℕ) → (x ∈ (o.drives ++ signals)) ⊎ (x ∈ driven os) → (x ∈ signals) ⊎ (x ∈ (o.drives ++ driven os))
        among x (inl i) = before (in_either o.drives i)
        among x (inr i) = inr (in_right o.drives i)
