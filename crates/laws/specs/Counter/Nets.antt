-- Nets numbered in a row, and the values that an environment holds on them: what an occurrence gives to the nets it drives, and
-- what it leaves as it was. For values of any kind.
use Prim.Native.Nat.{ℕ, zero, suc, ◌+◌, ◌≤◌, ◌<◌}
use Rattle.std.specs.Prelude.{◌≡◌, length}
use Rattle.std.proofs.Math.Path.{refl}
use Rattle.std.proofs.Common.{◌∙◌, arith}
use mathlib.Core.List.{List, [], ◌∷◌, ◌++◌, append-nil}
use Rattle.meaning.specs.Syntax.{Occurrence}
use Rattle.meaning.specs.Evaluation.{Env, Meaning, look, look_all, pairs, apply, walk}
use Rattle.meaning.specs.Adder.{up_from}
use Rattle.laws.specs.Adder.Nets.{look-here, look-past}

pub pairs-append : {A : Type 0} (none : A) (ns ms : List ℕ) (xs ys : List A) → length ns ≡ length xs
    → pairs none (ns ++ ms) (xs ++ ys) ≡ pairs none ns xs ++ pairs none ms ys
unfolding pairs
pairs-append none [] ms [] ys e = refl
pairs-append none [] ms (x ∷ xs) ys e = absurd (omega arith)
pairs-append none (n ∷ ns) ms [] ys e = absurd (omega arith)
pairs-append none (n ∷ ns) ms (x ∷ xs) ys e = rw (pairs-append none ns ms xs ys (omega arith))

pub walk-append : {A : Type 0} (none : A) (gate_meaning later : Meaning A) (os ps : List Occurrence) (env : Env A)
    → walk none gate_meaning later (os ++ ps) env ≡ walk none gate_meaning later ps (walk none gate_meaning later os env)
unfolding walk
walk-append none gate_meaning later [] ps env = refl
walk-append none gate_meaning later (o ∷ os) ps env = walk-append none gate_meaning later os ps _

-- A net, or a row of so many, lies outside the nets from one on and before another.
pub data Outside (net count from past : ℕ) : Type 0 where
  before : net + count ≤ from → Outside net count from past
  behind : past ≤ net → Outside net count from past

pub outside-less : {net count from past : ℕ} (from' past' : ℕ) → from ≤ from' → past' ≤ past → Outside net count from past
    → Outside net count from' past'
outside-less from' past' f p (before h) = before (omega arith)
outside-less from' past' f p (behind h) = behind (omega arith)

outside-first : {net from past : ℕ} (count : ℕ) → Outside net (suc count) from past → Outside net 1 from past
outside-first count (before h) = before (omega arith)
outside-first count (behind h) = behind h

outside-rest : {net from past : ℕ} (count : ℕ) → Outside net (suc count) from past → Outside (suc net) count from past
outside-rest count (before h) = before (omega arith)
outside-rest count (behind h) = behind (omega arith)

pub outside-apart : {net from past : ℕ} (other : ℕ) → from ≤ other → other < past → Outside net 1 from past → net ≡ other → ⊥
outside-apart other f p (before h) e = omega arith
outside-apart other f p (behind h) e = omega arith

-- From a net on, the environment holds these values.
pub data Holds {A : Type 0} (none : A) (env : Env A) : ℕ → List A → Type 0 where
  end : {net : ℕ} → Holds none env net []
  value : {net : ℕ} {v : A} {vs : List A} → look none net env ≡ v → Holds none env (suc net) vs → Holds none env net (v ∷ vs)

-- Outside the nets from one on and before another, two environments hold the same.
pub record Keeps {A : Type 0} (none : A) (from past : ℕ) (old new : Env A) : Type 0 where
  pub kept : (net : ℕ) → Outside net 1 from past → look none net new ≡ look none net old

module _ {A : Type 0} {none : A} where
  pub holds_at : {env : Env A} {a b : ℕ} {vs : List A} → a ≡ b → Holds none env a vs → Holds none env b vs
  holds_at e h = rw (← e) h

  pub holds-one : {env : Env A} {net : ℕ} {v : A} → Holds none env net (v ∷ []) → look none net env ≡ v
  holds-one (value e rest) = e

  -- What a row holds is what looking its nets up gives.
  pub look-row : {env : Env A} {net : ℕ} {vs : List A} (count : ℕ) → length vs ≡ count → Holds none env net vs
      → look_all none (up_from net count) env ≡ vs
  unfolding look_all up_from
  look-row zero n end = refl
  look-row (suc count) n end = absurd (omega arith)
  look-row zero n (value e rest) = absurd (omega arith)
  look-row {net = net} (suc count) n (value e rest) = cc (e, look-row {net = suc net} count (omega arith) rest)

  pub holds-left : {env : Env A} {net : ℕ} (xs ys : List A) → Holds none env net (xs ++ ys) → Holds none env net xs
  holds-left [] ys h = end
  holds-left (x ∷ xs) ys (value e rest) = value e (holds-left xs ys rest)

  pub holds-right : {env : Env A} {net : ℕ} (xs ys : List A) → Holds none env net (xs ++ ys) → Holds none env (net + length xs) ys
  holds-right [] ys h = holds_at (omega arith) h
  holds-right (x ∷ xs) ys (value e rest) = holds_at (omega arith) (holds-right xs ys rest)

  pub holds-both : {env : Env A} {net : ℕ} (xs ys : List A) → Holds none env net xs → Holds none env (net + length xs) ys
      → Holds none env net (xs ++ ys)
  holds-both [] ys h k = holds_at (omega arith) k
  holds-both (x ∷ xs) ys (value e rest) k = value e (holds-both xs ys rest (holds_at (omega arith) k))

  -- What is kept.
  pub keeps-both : {from past : ℕ} {old mid new : Env A} → Keeps none from past old mid → Keeps none from past mid new
      → Keeps none from past old new
  keeps-both k l = record { kept = λ net o. l.kept net o ∙ k.kept net o }

  pub keeps-within : {from past : ℕ} {old new : Env A} (from' past' : ℕ) → from' ≤ from → past ≤ past'
      → Keeps none from past old new → Keeps none from' past' old new
  keeps-within {from} {past} from' past' f p k =
      record { kept = λ net o. k.kept net (outside-less from past f p o) }

  pub holds_kept : {from past : ℕ} {old new : Env A} {net : ℕ} {vs : List A} → Keeps none from past old new
      → Outside net (length vs) from past → Holds none old net vs → Holds none new net vs
  holds_kept k o end = end
  holds_kept {net = net} k o (value {vs = vs} e rest) =
      value (k.kept net (outside-first (length vs) o) ∙ e) (holds_kept k (outside-rest (length vs) o) rest)

  -- Nets given values hold them, and others keep theirs.
  pub keeps_bound : {from past : ℕ} {old new : Env A} (net : ℕ) (v : A) → from ≤ net → net < past → Keeps none from past old new
      → Keeps none from past old (record { net = net; value = v } ∷ new)
  keeps_bound {new = new} net v f p k =
      record { kept = λ other o. look-past none other net v new (outside-apart net f p o) ∙ k.kept other o }

  pub keeps_given : (from count : ℕ) (vs : List A) (env : Env A)
      → Keeps none from (from + count) env (pairs none (up_from from count) vs ++ env)
  unfolding pairs up_from
  keeps_given from zero vs env = record { kept = λ net o. refl }
  keeps_given from (suc n) [] env =
      keeps_bound from none (omega arith) (omega arith)
      (keeps-within from (from + suc n) (omega arith) (omega arith) (keeps_given (suc from) n [] env))
  keeps_given from (suc n) (v ∷ vs) env =
      keeps_bound from v (omega arith) (omega arith)
      (keeps-within from (from + suc n) (omega arith) (omega arith) (keeps_given (suc from) n vs env))

  pub holds-given : (env : Env A) (net count : ℕ) (vs : List A) → length vs ≡ count
      → Holds none (pairs none (up_from net count) vs ++ env) net vs
  unfolding pairs up_from
  holds-given env net zero [] n = end
  holds-given env net zero (v ∷ vs) n = absurd (omega arith)
  holds-given env net (suc count) [] n = absurd (omega arith)
  holds-given env net (suc count) (v ∷ vs) n =
      value (look-here none net v _)
      (holds_kept (keeps_bound {from = net} {past = suc net} net v (omega arith) (omega arith) (record { kept = λ other o. refl }))
      (behind (omega arith)) (holds-given env (suc net) count vs (omega arith)))

  pub holds-inputs : (count : ℕ) (vs : List A) → length vs ≡ count → Holds none (pairs none (up_from 0 count) vs) 0 vs
  holds-inputs count vs n = rw append-nil at (holds-given [] 0 count vs n)

-- A reference that takes a row of nets and drives a row.
pub holds-driven : {A : Type 0} {none : A} {env : Env A} (gate_meaning later : Meaning A) (number : ℕ) {from : ℕ} {vs ws : List A}
    (to takes drives : ℕ) → Holds none env from vs → length vs ≡ takes → apply gate_meaning later number vs ≡ ws → length ws ≡ drives
    → Holds none
    (pairs none (up_from to drives) (apply gate_meaning later number (look_all none (up_from from takes) env)) ++ env)
    to ws
holds-driven {env = env} gate_meaning later number {ws = ws} to takes drives h n e m =
    rw (look-row takes n h, e) (holds-given env to drives ws m)
