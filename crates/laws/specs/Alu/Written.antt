-- What the request says of the written ALU, over the calls: every width is written and the check accepts it, and on known bits a run
-- answers carry, overflow and result of the operation.
use Rattle.std.specs.Prelude.{ℕ, ◌+◌, ◌*◌, ◌≤◌, ◌≡◌, refl, Bool, List, ◌∷◌, ◌++◌, map, length}
use Rattle.std.proofs.Common.{ap, ◌∙◌, arith, length-append}
use Rattle.std.proofs.lemmas.List.{length-map}
use Rattle.meaning.specs.Values.{code}
use Rattle.meaning.specs.Boxlist.{box, assoc}
use Rattle.meaning.specs.Layout.{encode}
use Rattle.meaning.specs.Verdict.{good, verdict}
use Rattle.meaning.specs.Evaluation.{evaluate}
use Rattle.meaning.specs.Adder.{up_from, bit, binary}
use Rattle.meaning.specs.Operations.{Outcome, alu_outcome}
use Rattle.meaning.specs.Alu.{b_net, out_net, copy_count, alu_module, alu_over, alu}
use Rattle.meaning.specs.Calls.{Decision, answer, Written, evaluation, writing}
use Rattle.laws.specs.Calls.{ModuleOf}
use Rattle.laws.specs.Runs.{run-answered, only-written, written}
use Rattle.laws.specs.Adder.Nets.{length-up_from}
use Rattle.laws.specs.Demands.Terms.{Answered}
use Rattle.laws.specs.Demands.Bits.{values-of-bits, codes_of-known, bits_small}
use Rattle.laws.specs.Demands.KnownRuns.{module_of-written}
use Rattle.laws.specs.Alu.Figures.{alu-room}
use Rattle.laws.specs.Alu.Numbers.{alu-bytes}
use Rattle.laws.specs.Alu.File.{alu-within, alu-file-accepted}
use Rattle.laws.specs.Alu.Outputs.{alu-computes}

-- At most 7,120 bytes.
pub every-alu-written : (width : ℕ) → 1 ≤ width → width ≤ 64 → (out : ℕ) → 100 * width + 720 ≤ out → Answered (writing alu width out)
every-alu-written width some most out fits = (_, written alu width some most out (omega (arith, alu-bytes width)))

pub written_alus_accepted : (width size : ℕ) (w : Written) → writing alu width size ≡ answer w → verdict w.bytes ≡ good
written_alus_accepted width size w h =
    let wrote = only-written alu width size w h in
    rw wrote.2 (alu-file-accepted width wrote.0 wrote.1)

alu-first : (n : ℕ) → assoc 48 (alu n) ≡ box (alu_module n (copy_count n))
unfolding assoc alu alu_over alu_module
alu-first n = refl

pub alu-module : (n : ℕ) → 1 ≤ n → n ≤ 64 → ModuleOf (encode (alu n)) 48 (alu n) (alu_module n (copy_count n))
alu-module n least most = module_of-written (alu n) (alu-within n most) (alu-file-accepted n least most) (alu-first n)

pub alu-inputs : (n copied : ℕ) → length (alu_module n copied).inputs ≡ 2 * n + 5
unfolding alu_module
alu-inputs n copied =
    omega (
      arith,
      length-append (up_from 0 (n + 1)) (up_from (b_net n) (n + 4)),
      length-up_from 0 (n + 1),
      length-up_from (b_net n) (n + 4),
    )

pub alu-outputs : (n copied : ℕ) → length (alu_module n copied).outputs ≡ n + 2
unfolding alu_module
alu-outputs n copied = length-up_from (out_net n) (n + 2)

-- A run is answered by bytes 0 and 1 that are the carry, the overflow, and so many bits of the result, low bit first.
pub record RunShows (run : Decision Written) (n : ℕ) (o : Outcome) : Type 0 where
  pub written : Written
  pub answered : run ≡ answer written
  pub bits : List Bool
  pub are : written.bytes ≡ map bit (o.carry ∷ o.overflow ∷ bits)
  pub counted : length bits ≡ n
  pub reads : binary bits ≡ o.result

pub written_alus_compute :
    (width size : ℕ) (w : Written)
    → writing alu width size ≡ answer w
    → (carry : Bool) (a b op : List Bool)
    → length a ≡ width
    → length b ≡ width
    → length op ≡ 4
    → (scratch out : ℕ)
    → 12 * width + 53 ≤ scratch
    → width + 2 ≤ out
    → RunShows (evaluation w.bytes 48 (map bit (carry ∷ (a ++ (b ++ op)))) scratch out) width (alu_outcome carry a b op)
written_alus_compute width size w h carry a b op a-fits b-fits op_fits scratch out roomy fits =
    let wrote = only-written alu width size w h in
    let computed = alu-computes width wrote.0 carry a b op a-fits b-fits op_fits in
    let given = carry ∷ (a ++ (b ++ op)) in
    let o = alu_outcome carry a b op in
    rw wrote.2
    (record {
      written = _;
      answered =
          run-answered
          (record {
            ms = alu width;
            m = alu_module width (copy_count width);
            here = alu-module width wrote.0 wrote.1;
            count =
                omega (
                  arith,
                  length-map given bit,
                  length-append a (b ++ op),
                  length-append b op,
                  alu-inputs width (copy_count width),
                );
            small = bits_small given;
            roomy = omega (arith, alu-room width);
            fits = omega (arith, alu-outputs width (copy_count width));
          });
      bits = computed.bits;
      are =
          ap (λ vs. map code (evaluate (alu width) 48 vs)) (values-of-bits given)
          ∙ ap (map code) computed.known-bits
          ∙ codes_of-known (o.carry ∷ o.overflow ∷ computed.bits);
      counted = computed.count;
      reads = computed.reads;
    })
