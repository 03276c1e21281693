-- A second chip family over the calls (document 02, M-108): what a count with a family answers.
use Rattle.std.specs.Prelude.{ℕ, ◌*◌, ◌≤◌, ◌≡◌, refl, List, [], ◌∷◌, leb}
use Rattle.std.proofs.Common.{sym, ap, ◌∙◌, arith}
use Rattle.meaning.specs.Syntax.{Module}
use Rattle.meaning.specs.Ceilings.{Bytes}
use Rattle.meaning.specs.Figures.{gate_count, room}
use Rattle.meaning.specs.Calls.{Decision, refusal, answer, Written, Figures, figures_on, counting_on, counting, flattening}
use Rattle.meaning.specs.Family.{Family, unit_family, delay_in, family_delay, Summary, with_family, summary_on, summary, figures_in}
use Rattle.laws.specs.Calls.{ModuleOf, demand-met, module_met, same_answer, asked-through}
use Rattle.laws.specs.Family.{Slower, unit-family-agrees, no_delay_shorter, family-delay-below}
use Rattle.laws.specs.Demands.FlatRuns.{flattens, one_module}

-- Beside the family's delay it comes to what a count comes to without.
pub summary-counts :
    (file : List ℕ) (number : ℕ) (family : List ℕ) (scratch : ℕ)
    → figures_in (summary file number family scratch) ≡ counting file number scratch
unfolding summary counting
summary-counts file number family scratch = asked-through figures_in (λ n p. refl) file number (λ ms m. counted _ _)
  where
    counted : (d : Decision Figures) (n : ℕ) → figures_in (with_family d n) ≡ d
    counted (refusal number place) n = refl
    counted (answer f) n = refl

-- An answer has the figures of a file's module, and the family's delay of it.
record Summed (file : List ℕ) (number : ℕ) (family : List ℕ) (s : Summary) : Type 0 where
  ms : List Module
  m : Module
  here : ModuleOf file number ms m
  figures_are : s.figures ≡ figures_on number ms m
  delay_is : s.family_delay ≡ family_delay family ms number

summed :
    (file : List ℕ) (number : ℕ) (family : List ℕ) (scratch : ℕ) (s : Summary)
    → summary file number family scratch ≡ answer s
    → Summed file number family s
unfolding summary
summed file number family scratch s h =
    let a = module_met file number {ask = summary_on family number scratch} h in
    let both = parts (counting_on number scratch a.ms a.m) a.answered in
    record {
      ms = a.ms;
      m = a.m;
      here = a.here;
      figures_are = sym (same_answer (demand-met 21 0 (leb (room a.ms number) scratch) both.0).answered);
      delay_is = both.1;
    }
  where
    parts : (d : Decision Figures) {n : ℕ} → with_family d n ≡ answer s → (d ≡ answer s.figures) × (s.family_delay ≡ n)
    parts (refusal number place) e = absurd (let z : ◌≡◌ {A = ℕ} 0 1 = cc in omega arith)
    parts (answer f) e =
        (ap answer (ap (λ (x : Summary). x.figures) (same_answer e)), sym (ap (λ (x : Summary). x.family_delay) (same_answer e)))

-- "with all at 1 the two agree",
pub unit-summary-agrees :
    (file : List ℕ) (number scratch : ℕ) (s : Summary)
    → summary file number unit_family scratch ≡ answer s
    → s.family_delay ≡ s.figures.delay
unit-summary-agrees file number scratch s h =
    let a = summed file number unit_family scratch s h in
    a.delay_is ∙ unit-family-agrees a.ms number ∙ sym (ap (λ (f : Figures). f.delay) a.figures_are)

-- "The family's delay is at most 255 times the gate count",
pub summary-below :
    (file : List ℕ) (number : ℕ) (family : List ℕ) (scratch : ℕ) (s : Summary)
    → Family family
    → summary file number family scratch ≡ answer s
    → s.family_delay ≤ 255 * s.figures.gates
summary-below file number family scratch s f h =
    let a = summed file number family scratch s h in
    let gates : s.figures.gates ≡ gate_count a.ms number = ap (λ (f : Figures). f.gates) a.figures_are in
    omega (arith, a.delay_is, gates, family-delay-below f a.ms number)

-- a slower family never gives a shorter one,
pub slower_summary-longer :
    (file : List ℕ) (number : ℕ) {family slower : List ℕ} (scratch scratch' : ℕ) (s s' : Summary)
    → Slower family slower
    → summary file number family scratch ≡ answer s
    → summary file number slower scratch' ≡ answer s'
    → s.family_delay ≤ s'.family_delay
slower_summary-longer file number {family} {slower} scratch scratch' s s' slow h h' =
    let a = summed file number family scratch s h in
    let b = summed file number slower scratch' s' h' in
    let same : b.ms ≡ a.ms = (one_module b.here a.here).0 in
    omega (arith, a.delay_is, b.delay_is, ap (λ (ms : List Module). family_delay slower ms number) same, no_delay_shorter slow a.ms number)

-- and a flattened module keeps it.
pub flattened-keeps-family :
    (file : List ℕ) (number : ℕ) (family : List ℕ) (lent size : ℕ) (flat : Written) (scratch scratch' : ℕ) (s s' : Summary)
    → Bytes file
    → flattening file number lent size ≡ answer flat
    → summary file number family scratch ≡ answer s
    → summary flat.bytes number family scratch' ≡ answer s'
    → s'.family_delay ≡ s.family_delay
unfolding family_delay
flattened-keeps-family file number family lent size flat scratch scratch' s s' bytes flattened h h' =
    let all = flattens file number lent size flat bytes flattened in
    let a = summed file number family scratch s h in
    let b = summed flat.bytes number family scratch' s' h' in
    b.delay_is
    ∙ ap (λ (ms : List Module). family_delay family ms number) (one_module b.here all.there).0
    ∙ all.same.delays (delay_in family)
    ∙ ap (λ (ms : List Module). family_delay family ms number) (one_module all.here a.here).0
    ∙ sym a.delay_is
