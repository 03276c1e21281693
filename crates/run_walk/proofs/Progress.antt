-- How far the walk over a module's occurrences has come: what is left to run from the frame so far fills the frame as the whole does
-- from the inputs.
use Prim.Native.Nat.{ℕ, ◌≤◌}
use mathlib.Core.Path.{◌≡◌, refl, sym, ap, ◌∙◌}
use mathlib.Core.List.{List, [], ◌∷◌}
use native.Mathlib.Omega.{arith}
use lib.ListN.{length, take, drop}
use Rattle.meaning.specs.Syntax.{Occurrence}
use Rattle.meaning.specs.Limits.{driven, net_count}
use Rattle.image.specs.Frames.{walk_frame}
use Rattle.image.specs.Walking.{needed, Ahead}
use Rattle.run_walk.specs.Work.{Work}
use Rattle.run_walk.specs.Running.{walk_of, Runnable, Ran}

pub record Progress
    {A : Type 0} (work : Work A) {image starts nets : List ℕ} {k : ℕ} {scratch₀ : List A} (s : Runnable image starts nets k scratch₀)
    (at left filled : ℕ) (scratch : List A) : Type 0 where
  pub rest : List Occurrence
  pub ahead : Ahead image s.scene.m s.scene.later at left filled rest
  pub size : length scratch ≡ length scratch₀
  pub same :
      walk_of work s.scene.later rest (take filled scratch)
      ≡ walk_of work s.scene.later s.scene.m.occurrences (take (length s.scene.m.inputs) scratch₀)
  pub behind : drop (needed s.scene.m s.scene.later) scratch ≡ drop (needed s.scene.m s.scene.later) scratch₀

-- The walk of any module that can be run, from where all its occurrences are ahead.
abbrev pub Walking :
    {A : Type 0} (work : Work A) (image starts nets : List ℕ) (k : ℕ) (scratch₀ : List A) (at₀ left₀ filled₀ at left filled : ℕ) (scratch : List A)
    → Type 0
Walking work image starts nets k scratch₀ at₀ left₀ filled₀ at left filled scratch =
    (s : Runnable image starts nets k scratch₀)
    → Ahead image s.scene.m s.scene.later at₀ left₀ filled₀ s.scene.m.occurrences
    → Progress work s at left filled scratch

pub walking_begins :
    {A : Type 0} (work : Work A) {image starts nets : List ℕ} {k : ℕ} (scratch : List A) {at left filled : ℕ}
    → Walking work image starts nets k scratch at left filled at left filled scratch
unfolding net_count
walking_begins work scratch {filled = filled} s ahead =
    let inputs : filled ≡ length s.scene.m.inputs = omega (arith, ahead.fits) in
    record {
      rest = s.scene.m.occurrences;
      ahead = ahead;
      size = refl;
      same = ap (λ (n : ℕ). walk_of work s.scene.later s.scene.m.occurrences (take n scratch)) inputs;
      behind = refl;
    }

-- Behind the last occurrence.
pub finish :
    {A : Type 0} {work : Work A} {image starts nets : List ℕ} {k : ℕ} {scratch₀ : List A} {s : Runnable image starts nets k scratch₀}
    {at left filled : ℕ} {scratch : List A}
    → Progress work s at left filled scratch
    → left ≤ 0
    → Ran work s.scene.m s.scene.later scratch₀ scratch
unfolding walk_frame driven
finish {work = work} {scratch₀ = scratch₀} {s = s} {filled = filled} {scratch = scratch} p over = go p.rest refl
  where
    go : (l : List Occurrence) → p.rest ≡ l → Ran work s.scene.m s.scene.later scratch₀ scratch
    go [] e =
        let all : net_count s.scene.m ≡ filled = omega (arith, p.ahead.fits, ap (λ (os : List Occurrence). length (driven os)) e) in
        record {
          frame =
              ap (λ (n : ℕ). take n scratch) all
              ∙ sym (ap (λ (os : List Occurrence). walk_of work s.scene.later os (take filled scratch)) e)
              ∙ p.same;
          behind = p.behind;
        }
    go (o ∷ rest) e = absurd (omega (arith, p.ahead.many, ap length e))
