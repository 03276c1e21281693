-- What it tells that a call is answered: every condition on the way was met. And what a call on a module comes to.
use Rattle.std.specs.Prelude.{ℕ, ◌≡◌, Bool, true, false}
use Rattle.std.proofs.Math.Path.{refl}
use Rattle.std.proofs.Common.{ap, arith}
use mathlib.Core.List.{List}
use Rattle.meaning.specs.Syntax.{Module}
use Rattle.meaning.specs.Boxlist.{Found, box, F, assoc}
use Rattle.meaning.specs.Reading.{File, holds, fails, read}
use Rattle.meaning.specs.Verdict.{Verdict, good, refused, file_verdict}
use Rattle.meaning.specs.Calls.{Decision, refusal, answer, demand, if_good, on_read, on_file, on_module}

-- A module of a file that is accepted.
pub record ModuleOf (file : List ℕ) (number : ℕ) (ms : List Module) (m : Module) : Type 0 where
  pub reads : read file ≡ holds ms
  pub accepted : file_verdict ms ≡ good
  pub found : assoc number ms ≡ box m

module _ {R : Type 0} where
  refusal_no_answer : {number place : ℕ} {r : R} → refusal number place ≡ answer r → ⊥
  refusal_no_answer h = let z : ◌≡◌ {A = ℕ} 0 1 = cc in omega arith

  pub same_answer : {r s : R} → answer r ≡ answer s → r ≡ s
  same_answer h = cc

  -- A demand was met, and the rest was answered.
  pub record Met (b : Bool) (next : Decision R) (r : R) : Type 0 where
    pub met : b ≡ true
    pub answered : next ≡ answer r

  pub demand-met :
      (number place : ℕ) (b : Bool) {next : Decision R} {r : R} → demand number place b next ≡ answer r → Met b next r
  demand-met number place true h = record { met = refl; answered = h }
  demand-met number place false h = absurd (refusal_no_answer h)

  -- A demand leads to the same where what follows is the same once it is met.
  pub demand-alike :
      (number place : ℕ) (b : Bool) {next next' : Decision R} → (b ≡ true → next ≡ next')
      → demand number place b next ≡ demand number place b next'
  demand-alike number place true alike = alike refl
  demand-alike number place false alike = refl

  -- What is asked of a number's module, through the file and its modules.
  abbrev pub on_number : (file : List ℕ) (number : ℕ) → (List Module → Module → Decision R) → Decision R
  on_number file number ask = on_file file λ ms. on_module (assoc number ms) (ask ms)

  -- The file was accepted, and has the module.
  pub record Asked (file : List ℕ) (number : ℕ) (ask : List Module → Module → Decision R) (r : R) : Type 0 where
    pub ms : List Module
    pub m : Module
    pub here : ModuleOf file number ms m
    pub answered : ask ms m ≡ answer r

  pub module_met :
      (file : List ℕ) (number : ℕ) {ask : List Module → Module → Decision R} {r : R}
      → on_number file number ask ≡ answer r
      → Asked file number ask r
  unfolding on_file
  module_met file number {ask} {r} = reading (read file) refl
    where
      finding :
          (ms : List Module)
          → read file ≡ holds ms
          → file_verdict ms ≡ good
          → (f : Found)
          → assoc number ms ≡ f
          → on_module f (ask ms) ≡ answer r
          → Asked file number ask r
      finding ms reads passes (box m) e h =
          record { ms = ms; m = m; here = record { reads = reads; accepted = passes; found = e }; answered = h }
      finding ms reads passes F e h = absurd (refusal_no_answer h)

      checking :
          (ms : List Module)
          → read file ≡ holds ms
          → (v : Verdict)
          → file_verdict ms ≡ v
          → if_good v (on_module (assoc number ms) (ask ms)) ≡ answer r
          → Asked file number ask r
      checking ms reads good e h = finding ms reads e (assoc number ms) refl h
      checking ms reads (refused n p) e h = absurd (refusal_no_answer h)

      reading : (f : File) → read file ≡ f → on_read f (λ ms. on_module (assoc number ms) (ask ms)) ≡ answer r → Asked file number ask r
      reading (holds ms) e h = checking ms e (file_verdict ms) refl h
      reading (fails n p) e h = absurd (refusal_no_answer h)

  -- Of a module of an accepted file the call comes to what is asked.
  pub asked_here :
      {file : List ℕ} {number : ℕ} {ms : List Module} {m : Module} (ask : List Module → Module → Decision R)
      → ModuleOf file number ms m
      → on_number file number ask ≡ ask ms m
  unfolding on_file
  asked_here ask here = rw (here.reads, here.accepted, here.found)

-- What is read off a call, refusals as they are, is read off what is asked of each module.
pub asked-through :
    {R S : Type 0} (off : Decision R → Decision S)
    → ((number place : ℕ) → off (refusal number place) ≡ refusal number place)
    → (file : List ℕ) (number : ℕ) {ask : List Module → Module → Decision R} {ask' : List Module → Module → Decision S}
    → ((ms : List Module) (m : Module) → off (ask ms m) ≡ ask' ms m)
    → off (on_number file number ask) ≡ on_number file number ask'
unfolding on_file
asked-through off kept file number {ask} {ask'} alike = reading (read file)
  where
    finding : (ms : List Module) (found : Found) → off (on_module found (ask ms)) ≡ on_module found (ask' ms)
    finding ms (box m) = alike ms m
    finding ms F = kept 18 0

    checking :
        (ms : List Module) (v : Verdict)
        → off (if_good v (on_module (assoc number ms) (ask ms))) ≡ if_good v (on_module (assoc number ms) (ask' ms))
    checking ms good = finding ms (assoc number ms)
    checking ms (refused n place) = kept n place

    reading :
        (f : File)
        → off (on_read f (λ ms. on_module (assoc number ms) (ask ms))) ≡ on_read f (λ ms. on_module (assoc number ms) (ask' ms))
    reading (holds ms) = checking ms (file_verdict ms)
    reading (fails n place) = kept n place

-- Calls that ask the same of every module come to the same.
pub asked-alike :
    {R : Type 0} (file : List ℕ) (number : ℕ) {ask ask' : List Module → Module → Decision R}
    → ((ms : List Module) (m : Module) → ask ms m ≡ ask' ms m)
    → on_number file number ask ≡ on_number file number ask'
asked-alike = asked-through (λ d. d) (λ n place. refl)
