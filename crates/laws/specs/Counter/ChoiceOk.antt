-- The row of gates that chooses count bits keeps the rules of occurrences, and which nets it drives.
use Rattle.std.specs.Prelude.{ℕ, zero, suc, ◌+◌, ◌≤◌, ◌<◌, ◌⊎◌, ◌≡◌, refl, List, ◌∷◌}
use Rattle.std.proofs.Common.{inl, inr, ⊎_elim, sym, eq-or-lt_of_le, arith}
use Rattle.meaning.specs.Syntax.{Module}
use Rattle.meaning.specs.Gates.{gate, gates}
use Rattle.meaning.specs.Members.{◌∈◌}
use Rattle.meaning.specs.Counter.{AND, OR, choose}
use Rattle.laws.specs.WellFormed.{Body, done, step}
use Rattle.laws.specs.Members.{here, there}
use Rattle.laws.specs.Counter.Nets.{Outside, before, behind, outside-less, outside-apart}
use Rattle.laws.specs.Counter.Signals.{Filled, after, kept-after, gate-ok, either_side}

-- What the row needs of the nets before it.
record Choosable (e h l a o n : ℕ) (nets : List ℕ) : Type 0 where
  empty : e ∈ nets
  high : (x : ℕ) → h ≤ x → x < h + n → x ∈ nets
  low : (x : ℕ) → l ≤ x → x < l + n → x ∈ nets
  ands : (x : ℕ) → x ∈ nets → Outside x 1 a (a + n)
  ors : (x : ℕ) → x ∈ nets → Outside x 1 o (o + n)
  order : a + n ≤ o

choosable_rest : {e h l a o n : ℕ} {nets : List ℕ} → Choosable e h l a o (suc n) nets
    → Choosable e (suc h) (suc l) (suc a) (suc o) n (o ∷ a ∷ nets)
choosable_rest {e} {h} {l} {a} {o} {n} {nets} c =
    record {
      empty = there (there c.empty);
      high = λ x f g. there (there (c.high x (omega arith) (omega arith)));
      low = λ x f g. there (there (c.low x (omega arith) (omega arith)));
      ands = ands;
      ors = ors;
      order = omega (arith, c.order);
    }
  where
    ands : (x : ℕ) → x ∈ (o ∷ a ∷ nets) → Outside x 1 (suc a) (suc a + n)
    ands x (here e) = behind (omega (arith, c.order))
    ands x (there (here e)) = before (omega arith)
    ands x (there (there i)) = outside-less (suc a) (suc a + n) (omega arith) (omega arith) (c.ands x i)

    ors : (x : ℕ) → x ∈ (o ∷ a ∷ nets) → Outside x 1 (suc o) (suc o + n)
    ors x (here e) = before (omega arith)
    ors x (there (here e)) = before (omega (arith, c.order))
    ors x (there (there i)) = outside-less (suc o) (suc o + n) (omega arith) (omega arith) (c.ors x i)

choose-body : {later : List Module} (e h l a o n : ℕ) {nets : List ℕ} → Choosable e h l a o n nets → Body later nets (choose e h l a o n)
unfolding choose gate gates
choose-body e h l a o zero c = done
choose-body e h l a o (suc n) {nets} c =
    step
    (gate-ok a AND e l refl refl (λ i. outside-apart a (omega arith) (omega arith) (c.ands a i) refl) c.empty
    (c.low l (omega arith) (omega arith)))
    (step
    (gate-ok o OR h a refl refl fresh (there (c.high h (omega arith) (omega arith))) (here refl))
    (choose-body e (suc h) (suc l) (suc a) (suc o) n (choosable_rest c)))
  where
    fresh : ¬ (o ∈ (a ∷ nets))
    fresh (here e) = omega (arith, c.order)
    fresh (there i) = outside-apart o (omega arith) (omega arith) (c.ors o i) refl

-- Its nets: the ANDs and the ORs.
data Drives (a o n x : ℕ) : Type 0 where
  and : a ≤ x → x < a + n → Drives a o n x
  or : o ≤ x → x < o + n → Drives a o n x

drives-more : {a o n x : ℕ} → Drives (suc a) (suc o) n x → Drives a o (suc n) x
drives-more (and f g) = and (omega arith) (omega arith)
drives-more (or f g) = or (omega arith) (omega arith)

drives-first : {a o n x : ℕ} (nets : List ℕ) → Drives a o (suc n) x → (x ∈ (o ∷ a ∷ nets)) ⊎ Drives (suc a) (suc o) n x
drives-first {a} {o} {n} {x} nets (and f g) = go (eq-or-lt_of_le f)
  where
    go : (a ≡ x) ⊎ (a < x) → (x ∈ (o ∷ a ∷ nets)) ⊎ Drives (suc a) (suc o) n x
    go (inl e) = inl (there (here (sym e)))
    go (inr l) = inr (and l (omega arith))
drives-first {a} {o} {n} {x} nets (or f g) = go (eq-or-lt_of_le f)
  where
    go : (o ≡ x) ⊎ (o < x) → (x ∈ (o ∷ a ∷ nets)) ⊎ Drives (suc a) (suc o) n x
    go (inl e) = inl (here (sym e))
    go (inr l) = inr (or l (omega arith))

drives-none : {a o x : ℕ} → Drives a o 0 x → ⊥
drives-none (and f g) = omega arith
drives-none (or f g) = omega arith

choose-drives : (e h l a o n : ℕ) (nets : List ℕ) {x : ℕ} → Drives a o n x → x ∈ after (choose e h l a o n) nets
unfolding after choose
choose-drives e h l a o zero nets d = absurd (drives-none d)
choose-drives e h l a o (suc n) nets d =
    ⊎_elim (kept-after (choose e (suc h) (suc l) (suc a) (suc o) n)) (choose-drives e (suc h) (suc l) (suc a) (suc o) n (o ∷ a ∷ nets))
    (drives-first nets d)

choose_cases : (e h l a o n : ℕ) (nets : List ℕ) {x : ℕ} → x ∈ after (choose e h l a o n) nets → (x ∈ nets) ⊎ Drives a o n x
unfolding after choose
choose_cases e h l a o zero nets i = inl i
choose_cases e h l a o (suc n) nets {x} i = go (choose_cases e (suc h) (suc l) (suc a) (suc o) n (o ∷ a ∷ nets) i)
  where
    go : (x ∈ (o ∷ a ∷ nets)) ⊎ Drives (suc a) (suc o) n x → (x ∈ nets) ⊎ Drives a o (suc n) x
    go (inl (here e)) = inr (or (omega arith) (omega arith))
    go (inl (there (here e))) = inr (and (omega arith) (omega arith))
    go (inl (there (there k))) = inl k
    go (inr d) = inr (drives-more d)

-- The row in its place: the nets before it are those below the ANDs, and those above the ORs up to an end. With it they are all.
pub record Around (from past end : ℕ) (nets : List ℕ) : Type 0 where
  pub outside : (x : ℕ) → x ∈ nets → Outside x 1 from past
  pub below : (x : ℕ) → x ∈ nets → x < end
  pub lower : (x : ℕ) → x < from → x ∈ nets
  pub upper : (x : ℕ) → past ≤ x → x < end → x ∈ nets

pub around-filled : {n : ℕ} {nets : List ℕ} (end : ℕ) → n ≤ end → Filled n nets → Around n end end nets
around-filled end h f =
    record {
      outside = λ x i. before (omega (arith, f.are x i));
      below = λ x i. omega (arith, f.are x i);
      lower = f.all;
      upper = λ x g l. absurd (omega arith);
    }

module _ (e h l a n : ℕ) {end : ℕ} {nets : List ℕ} (around : Around a (a + n + n) end nets) where
  pub choice_body : {later : List Module} → e ∈ nets → h + n ≤ a → l + n ≤ a → Body later nets (choose e h l a (a + n) n)
  choice_body empty high low =
      choose-body e h l a (a + n) n
      (record {
        empty = empty;
        high = λ x f g. around.lower x (omega arith);
        low = λ x f g. around.lower x (omega arith);
        ands = λ x i. outside-less a (a + n) (omega arith) (omega arith) (around.outside x i);
        ors = λ x i. outside-less (a + n) (a + n + n) (omega arith) (omega arith) (around.outside x i);
        order = omega arith;
      })

  pub choice_filled : a + n + n ≤ end → Filled end (after (choose e h l a (a + n) n) nets)
  choice_filled fits =
      record {
        are = λ x i. are x (choose_cases e h l a (a + n) n nets i);
        all = λ x b. all x b (either_side x a) (either_side x (a + n)) (either_side x (a + n + n));
      }
    where
      are : (x : ℕ) → (x ∈ nets) ⊎ Drives a (a + n) n x → x < end
      are x (inl i) = around.below x i
      are x (inr (and g b)) = omega arith
      are x (inr (or g b)) = omega arith

      all : (x : ℕ) → x < end → (x < a) ⊎ (a ≤ x) → (x < a + n) ⊎ (a + n ≤ x) → (x < a + n + n) ⊎ (a + n + n ≤ x)
          → x ∈ after (choose e h l a (a + n) n) nets
      all x b (inl f) p q = kept-after (choose e h l a (a + n) n) (around.lower x f)
      all x b (inr f) (inl p) q = choose-drives e h l a (a + n) n nets (and f p)
      all x b (inr f) (inr p) (inl q) = choose-drives e h l a (a + n) n nets (or p q)
      all x b (inr f) (inr p) (inr q) = kept-after (choose e h l a (a + n) n) (around.upper x q b)
