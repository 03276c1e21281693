-- How far the walk over a module's occurrences has come: those that are done and those that are left make up the whole. The former have
-- become their part of the image, the table knows their nets and their references are summed up; the latter stand as they did, and the
-- verdict on them is the verdict on all.
use Prim.Native.Nat.{ℕ, ◌+◌, ◌≤◌, ◌<◌}
use mathlib.Core.Path.{◌≡◌, refl, sym, ap, subst, ◌∙◌}
use mathlib.Core.List.{List, [], ◌∷◌, ◌++◌, append-nil}
use native.Mathlib.Omega.{arith}
use lib.ListN.{length}
use Rattle.meaning.specs.Syntax.{Occurrence, Module}
use Rattle.meaning.specs.Layout.{each, occurrence_numbers}
use Rattle.meaning.specs.Limits.{driven}
use Rattle.meaning.specs.Verdict.{Verdict, good, refused, and_then, occurrence_verdict, body_verdict}
use Rattle.nets.specs.Slots.{Knows}
use Rattle.image.specs.Stands.{Stands, stands-front}
use Rattle.image.specs.Laid.{laid, laid-nothing}
use Rattle.image.specs.Resolved.{nets_of}
use Rattle.check_sizes.specs.Walks.{no_sums, Summed}
use Rattle.check_sizes.specs.declared.Sums.{Sums}
use Rattle.check_lists.specs.Scene.{Same}
use Rattle.check_bodies.specs.Bodies.{Finished, resolved_body}
use Rattle.check_bodies.proofs.Summing.{summed-none}

pub record Progress
    (ms : List Module) (m : Module) (later : List Module) (k from i count at filled base : ℕ) (sizes rooms : List ℕ) (sums : Sums)
    (numbers₀ numbers slots : List ℕ) : Type 0 where
  pub finished : List Occurrence
  pub left : List Occurrence
  pub whole : m.occurrences ≡ finished ++ left
  pub passed : i ≡ length finished
  pub turns : i + length left ≡ count
  pub behind : at ≡ from + length (each occurrence_numbers finished)
  pub stands : Stands numbers at (each occurrence_numbers left)
  pub knows : Knows slots base (m.inputs ++ driven finished)
  pub wide : filled ≡ length (m.inputs ++ driven finished)
  pub signals : List ℕ
  pub same : Same (m.inputs ++ driven finished) signals
  pub verdict : body_verdict k m.occurrences m.inputs later ≡ body_verdict k left signals later
  pub written : numbers ≡ laid numbers₀ from (each occurrence_numbers (resolved_body ms m finished))
  pub summed : Summed sizes rooms (resolved_body ms m finished) sums

-- Before the first occurrence.
pub begin :
    (ms : List Module) (m : Module) (later : List Module) (k from count width base : ℕ) (sizes rooms : List ℕ) {sums : Sums}
    (numbers slots : List ℕ)
    → Stands numbers from (each occurrence_numbers m.occurrences) → count ≡ length m.occurrences
    → Knows slots base m.inputs → width ≡ length m.inputs → sums ≡ no_sums
    → Progress ms m later k from 0 count from width base sizes rooms sums numbers numbers slots
unfolding driven each
begin ms m later k from count width base sizes rooms numbers slots stands all knows wide nothing =
    record {
      finished = [];
      left = m.occurrences;
      whole = refl;
      passed = refl;
      turns = omega (arith, all);
      behind = omega arith;
      stands = stands;
      knows = rw append-nil knows;
      wide = rw append-nil wide;
      signals = m.inputs;
      same = record { same = λ x. rw append-nil };
      verdict = refl;
      written = sym (laid-nothing numbers from);
      summed = rw nothing (summed-none sizes rooms);
    }

module _
    {ms : List Module} {m : Module} {later : List Module} {k from i count at filled base : ℕ} {sizes rooms : List ℕ} {sums : Sums}
    {numbers₀ numbers slots : List ℕ}
    (p : Progress ms m later k from i count at filled base sizes rooms sums numbers₀ numbers slots)
  where
    -- The nets so far.
    abbrev pub nets : List ℕ
    nets = m.inputs ++ driven p.finished

    -- The occurrence whose turn it is.
    pub record Current : Type 0 where
      pub o : Occurrence
      pub rest : List Occurrence
      pub is : p.left ≡ o ∷ rest
      pub stands : Stands numbers at (occurrence_numbers o)

    pub current : i < count → Current
    unfolding each
    current h = go p.left refl
      where
        go : (l : List Occurrence) → p.left ≡ l → Current
        go [] e = absurd (omega (arith, p.turns, ap length e))
        go (o ∷ rest) e =
            record {
              o = o;
              rest = rest;
              is = e;
              stands =
                  stands-front (each occurrence_numbers rest)
                  (subst (λ (l : List Occurrence). Stands numbers at (each occurrence_numbers l)) e p.stands);
            }

    -- A broken rule is the verdict on all.
    pub stop : (c : Current) (rule : ℕ) → occurrence_verdict k c.o p.signals later ≡ refused rule k
        → body_verdict k m.occurrences m.inputs later ≡ refused rule k
    unfolding body_verdict
    stop c rule e =
        p.verdict
        ∙ ap (λ (l : List Occurrence). body_verdict k l p.signals later) c.is
        ∙ ap (λ (v : Verdict). and_then v (body_verdict k c.rest (c.o.drives ++ p.signals) later)) e

    -- Behind the last occurrence.
    pub finish : count ≤ i → filled ≤ at
        → (body_verdict k m.occurrences m.inputs later ≡ good) × Finished ms m numbers₀ from base sizes rooms numbers slots at filled sums
    unfolding body_verdict nets_of
    finish h few = (
      p.verdict ∙ ap (λ (l : List Occurrence). body_verdict k l p.signals later) none,
      record {
        behind = p.behind ∙ ap (λ (l : List Occurrence). from + length (each occurrence_numbers l)) (sym all);
        count = p.wide ∙ ap (λ (l : List Occurrence). length (m.inputs ++ driven l)) (sym all);
        knows = subst (λ (l : List Occurrence). Knows slots base (m.inputs ++ driven l)) (sym all) p.knows;
        written = p.written ∙ ap (λ (l : List Occurrence). laid numbers₀ from (each occurrence_numbers (resolved_body ms m l))) (sym all);
        summed = subst (λ (l : List Occurrence). Summed sizes rooms (resolved_body ms m l) sums) (sym all) p.summed;
        few = few;
      },
    )
      where
        empty : (l : List Occurrence) → length l ≡ 0 → l ≡ []
        empty [] e = refl
        empty (o ∷ l) e = absurd (omega (arith, e))

        none : p.left ≡ []
        none = empty p.left (omega (arith, p.turns))

        all : m.occurrences ≡ p.finished
        all = p.whole ∙ ap (λ (l : List Occurrence). p.finished ++ l) none ∙ append-nil p.finished
