-- The row of gates that chooses count bits, run in any environment: on its last nets it leaves the chosen bits, and of the other
-- nets only those of its ANDs have changed.
use Prim.Native.Nat.{ℕ, zero, suc, ◌+◌, ◌≤◌}
use Rattle.std.specs.Prelude.{◌≡◌}
use Rattle.std.proofs.Math.Path.{refl}
use Rattle.std.proofs.Common.{◌∙◌, arith}
use mathlib.Core.List.{List, [], ◌∷◌}
use Rattle.std.proofs.Math.ListN.{length}
use Rattle.meaning.specs.Evaluation.{Env, Meaning, look, look_all, pairs, walk}
use Rattle.meaning.specs.Counter.{OR, AND, choose}
use Rattle.laws.specs.Adder.Nets.{look-here, look-past}
use Rattle.laws.specs.Counter.Nets.{Outside, before, behind, outside-less, outside-apart, Holds, end, value, Keeps, holds_kept, keeps_bound}
use Rattle.laws.specs.Counter.Law.{single, chosen}

module _ {A : Type 0} (none : A) (gate_result : ℕ → List A → A) (later : Meaning A) where
  -- The environment after the row has run.
  abbrev pub ran : (empty high low ands ors count : ℕ) → Env A → Env A
  ran e h l a o n env = walk none (single gate_result) later (choose e h l a o n) env

  choose-keeps : (n e h l a o : ℕ) (env : Env A) (net : ℕ) → Outside net 1 a (a + n) → Outside net 1 o (o + n)
      → look none net (ran e h l a o n env) ≡ look none net env
  unfolding walk choose pairs look_all
  choose-keeps zero e h l a o env net p q = refl
  choose-keeps (suc n) e h l a o env net p q =
      choose-keeps n e (suc h) (suc l) (suc a) (suc o) _ net
      (outside-less (suc a) (suc a + n) (omega arith) (omega arith) p)
      (outside-less (suc o) (suc o + n) (omega arith) (omega arith) q)
      ∙ (look-past none net o _ _ (outside-apart o (omega arith) (omega arith) q)
      ∙ look-past none net a _ env (outside-apart a (omega arith) (omega arith) p))

  pub choose-keeps-row : (n e h l a o : ℕ) (env : Env A) → a + n ≤ o → Keeps none a (o + n) env (ran e h l a o n env)
  choose-keeps-row n e h l a o env fit =
      record {
        kept = λ net out. choose-keeps n e h l a o env net
            (outside-less a (a + n) (omega arith) (omega arith) out)
            (outside-less o (o + n) (omega arith) (omega arith) out);
      }

  -- The net that says "empty" holds v, and the count bits lie before the ANDs, these before the ORs.
  pub choose-holds : (e h l a o : ℕ) (env : Env A) (v : A) (hs ls : List A) → length hs ≡ length ls
      → look none e env ≡ v → Outside e 1 a (o + length hs)
      → Holds none env h hs → h + length hs ≤ a
      → Holds none env l ls → l + length ls ≤ a → a + length hs ≤ o
      → Holds none (ran e h l a o (length hs) env) o (chosen gate_result v hs ls)
  unfolding walk choose pairs look_all chosen
  choose-holds e h l a o env v [] [] same is out end hf end lf fit = end
  choose-holds e h l a o env v [] (y ∷ ls) same is out hh hf lh lf fit = absurd (omega arith)
  choose-holds e h l a o env v (x ∷ hs) [] same is out hh hf lh lf fit = absurd (omega arith)
  choose-holds e h l a o env v (x ∷ hs) (y ∷ ls) same is out (value hx hh) hf (value ly lh) lf fit =
      let both = gate_result AND (look none e env ∷ look none l env ∷ []) in
      let first : Env A = record { net = a; value = both } ∷ env in
      let bit = gate_result OR (look none h first ∷ look none a first ∷ []) in
      let second : Env A = record { net = o; value = bit } ∷ first in
      let kept : Keeps none a (suc o) env second =
      keeps_bound o bit (omega arith) (omega arith)
      (keeps_bound a both (omega arith) (omega arith) (record { kept = λ net p. refl }))
      in
      let chosen-bit : bit ≡ gate_result OR (x ∷ gate_result AND (v ∷ y ∷ []) ∷ []) =
      cc (look-past none h a both env (λ e. omega arith), look-here none a both env)
      in
      value
      (choose-keeps (length hs) e (suc h) (suc l) (suc a) (suc o) second o (behind (omega arith)) (before (omega arith))
      ∙ (look-here none o bit first ∙ chosen-bit))
      (choose-holds e (suc h) (suc l) (suc a) (suc o) second v hs ls (omega arith)
      (kept.kept e (outside-less a (suc o) (omega arith) (omega arith) out) ∙ is)
      (outside-less (suc a) (suc o + length hs) (omega arith) (omega arith) out)
      (holds_kept kept (before (omega arith)) hh) (omega arith)
      (holds_kept kept (before (omega arith)) lh) (omega arith) (omega arith))
