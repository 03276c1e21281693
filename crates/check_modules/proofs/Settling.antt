-- A module whose head is fine: its occurrences can be checked, and what they and the end come to is the answer for the module.
use Prim.Native.Nat.{ℕ, ◌+◌, ◌*◌, ◌≤◌}
use mathlib.Core.Path.{◌≡◌, refl, sym, ap, ap₂, ◌∙◌}
use mathlib.Core.Bool.{true}
use mathlib.Core.List.{List, [], ◌++◌, map, append-nil}
use native.Mathlib.Omega.{arith}
use native.Mathlib.Nat.{zero-add}
use lib.ListN.{length, get_or, drop, length-append, length-map, drop_of_length-le}
use lib.Seq.{take-append_seam, drop-append_seam}
use Rattle.meaning.specs.Syntax.{Module}
use Rattle.meaning.specs.Boxlist.{subset}
use Rattle.meaning.specs.Limits.{driven, net_count}
use Rattle.meaning.specs.Layout.{each, occurrence_numbers, module_numbers}
use Rattle.meaning.specs.Verdict.{Verdict, good, refused, and_then, body_verdict, module_verdict}
use Rattle.nets.specs.Slots.{Below}
use Rattle.nets.specs.Members.{subset_self, subset_append_left}
use Rattle.nets.specs.Bounds.{below-part}
use Rattle.image.specs.Stands.{Stands, stands-part, stands-whole}
use Rattle.image.specs.Pieces.{ModuleAt, module_at}
use Rattle.image.specs.Laid.{laid}
use Rattle.image.specs.Resolved.{refer_to, resolve_occurrence, resolve_module, nets_of, slot_in}
use Rattle.image.specs.Shapes.{length-of-nets, length-of-resolved-body}
use Rattle.check_sizes.specs.Behind.{inside}
use Rattle.check_lists.specs.Scene.{Scene, Indexes, Figured}
use Rattle.check_bodies.specs.Bodies.{BodyReady, BodyChecked, Walks, Finished, resolved_body}
use Rattle.std.specs.Prelude.{Result, Ok, Err}
use Rattle.check_modules.specs.Heads.{Ruling, HeadJudged, HeadWritable, resolved_head}
use Rattle.check_modules.specs.Modules.{end_rule, Ended, Settled}
use Rattle.check_bodies.specs.declared.occurrences.Walked.{Walked}
use Rattle.check_modules.proofs.Rules.{ruled}
use Rattle.check_lists.specs.Lists.{Behind}
use Rattle.check_lists.specs.Places.{head_numbers, head_of, length-of-head, head-and-body, Places, places}
use Rattle.check_modules.proofs.Turns.{verdict-behind, end-here}

-- What bounds every number of a list bounds those of what stands in it.
below-stands : {bound : ℕ} {l : List ℕ} {at : ℕ} {xs : List ℕ} → Stands l at xs → Below bound l → Below bound xs
below-stands {at = at} {xs} s low = rw (stands-part s) at (below-part at (length xs) low)

-- A list laid over the second of two, and over the first.
laid-second : (xs ys zs : List ℕ) (at : ℕ) → at ≡ length xs → length zs ≡ length ys → laid (xs ++ ys) at zs ≡ xs ++ zs
unfolding laid
laid-second xs ys zs at e long =
    let none : drop (at + length zs) (xs ++ ys) ≡ [] = drop_of_length-le (xs ++ ys) {i = at + length zs} (omega (arith, length-append xs ys)) in
    rw (none, e, take-append_seam, append-nil)

laid-first : (xs ys zs : List ℕ) → length zs ≡ length xs → laid (xs ++ ys) 0 zs ≡ zs ++ ys
unfolding laid
laid-first xs ys zs long = rw (zero-add, long, drop-append_seam)

-- A resolved module is its head and its resolved occurrences.
resolved_module :
    (ms : List Module) (k : ℕ) (m : Module)
    → resolved_head k m (nets_of m) ++ each occurrence_numbers (resolved_body ms m m.occurrences)
    ≡ module_numbers (resolve_module (refer_to ms) k m)
unfolding resolve_module
resolved_module ms k m =
    ap (λ (c : ℕ). head_numbers (16 + k) (map (slot_in m) m.inputs) (map (slot_in m) m.outputs) c ++ each occurrence_numbers (resolved_body ms m m.occurrences))
    (sym (length-map m.occurrences (resolve_occurrence (slot_in m) (refer_to ms))))
    ∙ sym (head-and-body (resolve_module (refer_to ms) k m))

-- The head of a module is fine, and its parts are read: the count of its outputs at n, that of its occurrences at e.
pub record Opened (numbers : List ℕ) (base : ℕ) (slots : List ℕ) (n e width count : ℕ) : Type 0 where
  pub rule : Ruling
  pub judged : HeadJudged numbers base slots rule
  pub fine : rule ≡ Ok tt
  pub behind_inputs : Behind numbers 1 n
  pub behind_outputs : Behind numbers n e
  pub wide : width ≡ get_or numbers 1 0
  pub counted : count ≡ get_or numbers e 0

module _
    {first inputs outputs : List ℕ} {k : ℕ} (s : Scene first inputs outputs k) {numbers : List ℕ} {base : ℕ} {slots : List ℕ}
    {n e width count : ℕ} (o : Opened numbers base slots n e width count) (own : numbers ≡ module_numbers s.m)
  where
    whole : ModuleAt numbers 0 s.m
    whole = module_at s.m (stands-whole own)

    p : Places numbers 0 n e s.m
    p = places o.behind_inputs o.behind_outputs s.m (stands-whole own)

    body-stands : Stands numbers (e + 1) (each occurrence_numbers s.m.occurrences)
    body-stands = whole.body (e + 1) (omega (arith, p.behind_outputs))

    -- The occurrences can be checked.
    pub ready-body :
        {sizes rooms : List ℕ} → Indexes first slots numbers → Figured s.ms sizes rooms → base ≤ 65536 * 128 → length numbers ≤ 65535
        → BodyReady numbers first inputs outputs slots base k (e + 1) count width sizes rooms
    ready-body indexes figured based short =
        record {
          scene = s;
          placed = record { behind = omega (arith, o.wide, p.input_count, p.behind_outputs); based = based; short = short };
          stands = body-stands;
          indexes = record { in_first = below-stands body-stands indexes.in_first; in_slots = below-stands body-stands indexes.in_slots };
          figured = figured;
          all = o.counted ∙ p.occurrence_count;
          knows = o.judged.knows s.m own o.fine;
          wide = o.wide ∙ p.input_count;
        }

    -- What their check comes to.
    module _
        {sizes rooms numbers' slots' : List ℕ} {w : Result Walked ℕ}
        (b : BodyChecked numbers first inputs outputs slots base k (e + 1) count width sizes rooms numbers' slots' w) where
      came :
          (v : Result Walked ℕ) → w ≡ v
          → Walks v (body_verdict k s.m.occurrences s.m.inputs s.later) k s.ms s.m numbers (e + 1) base sizes rooms numbers' slots'
      came v is =
          rw is at
          (b.walks s body-stands (o.counted ∙ p.occurrence_count) (o.judged.knows s.m own o.fine) (o.wide ∙ p.input_count))

      -- An occurrence that breaks a rule is the verdict.
      pub body-broken : {r : ℕ} → w ≡ Err r → module_verdict k s.m s.later ≡ refused r k
      body-broken {r} is =
          verdict-behind s (o.judged.rule s.m own) o.fine
          ∙ ap (λ (v : Verdict). and_then v (ruled (end_rule s.m.outputs (driven s.m.occurrences) (net_count s.m)) k good))
          (came (Err r) is)

      -- All are fine.
      module _ {walked : Walked} (is : w ≡ Ok walked) where
        fine : body_verdict k s.m.occurrences s.m.inputs s.later ≡ good
        fine = (came (Ok walked) is).0

        f : Finished s.ms s.m numbers (e + 1) base sizes rooms numbers' slots' walked.next walked.nets walked.sums
        f = (came (Ok walked) is).1

        body : List ℕ
        body = each occurrence_numbers (resolved_body s.ms s.m s.m.occurrences)

        -- The head is as it was, in front of the occurrences in the image.
        halves : numbers' ≡ head_of s.m ++ body
        unfolding body
        halves =
            f.written
            ∙ ap (λ (l : List ℕ). laid l (e + 1) body) (own ∙ head-and-body s.m)
            ∙ laid-second (head_of s.m) (each occurrence_numbers s.m.occurrences) body (e + 1)
            (omega (arith, p.behind_outputs, length-of-head s.m.number s.m.inputs s.m.outputs (length s.m.occurrences)))
            (length-of-resolved-body (slot_in s.m) (refer_to s.ms) s.m.occurrences)

        head-stands : Stands numbers' 0 (head_of s.m)
        head-stands = record { rest = body; here = halves; within = omega (arith, ap length halves, length-append (head_of s.m) body) }

        inputs-known : subset s.m.inputs (nets_of s.m) ≡ true
        unfolding nets_of
        inputs-known = subset_append_left s.m.inputs s.m.inputs (driven s.m.occurrences) (subset_self s.m.inputs)

        -- The end can be checked.
        pub ready-end :
            Below (length slots') numbers
            → base ≤ 65536 * 128
            → length numbers ≤ 65535
            → length numbers' ≡ length numbers
            → HeadWritable numbers' slots' base k walked.nets
        ready-end index based short same =
            record {
              m = s.m;
              stands = head-stands;
              inputs_index = below-stands (whole.inputs 2 refl) index;
              outputs_index = below-stands (whole.outputs (3 + length s.m.inputs) refl) index;
              few = omega (arith, f.few, f.behind, p.behind_outputs, whole.end);
              high = omega arith;
              position = omega (arith, inside s.ms k s.here, s.few);
              short = omega arith;
            }

        verdict-here : module_verdict k s.m s.later ≡ ruled (end_rule s.m.outputs (nets_of s.m) walked.nets) k good
        verdict-here =
            verdict-behind s (o.judged.rule s.m own) o.fine
            ∙ ap₂ (λ (v : Verdict) (r : Ruling). and_then v (ruled r k good)) fine (end-here s (o.judged.rule s.m own) o.fine walked.nets f.count)

        -- What the end comes to is the answer.
        module _ {numbers'' : List ℕ} {r : Ruling} (ended : Ended numbers' slots' base k walked.nets numbers'' r) where
          at-end :
              (r ≡ end_rule s.m.outputs (nets_of s.m) walked.nets)
              × (r ≡ Ok tt → numbers'' ≡ laid numbers' 0 (resolved_head k s.m (nets_of s.m)))
          at-end = ended.ends s.m (nets_of s.m) head-stands f.knows f.count inputs-known

          pub end-broken : {number : ℕ} → r ≡ Err number → module_verdict k s.m s.later ≡ refused number k
          end-broken broken = verdict-here ∙ ap (λ (x : Ruling). ruled x k good) (sym at-end.0 ∙ broken)

          pub settled : r ≡ Ok tt → (module_verdict k s.m s.later ≡ good) × Settled s.ms s.m k sizes rooms numbers'' walked.nets walked.sums
          unfolding body
          settled none = (
            verdict-here ∙ ap (λ (x : Ruling). ruled x k good) (sym at-end.0 ∙ none),
            record {
              count = f.count ∙ length-of-nets s.m;
              written =
                  at-end.1 none
                  ∙ ap (λ (l : List ℕ). laid l 0 (resolved_head k s.m (nets_of s.m))) halves
                  ∙ laid-first (head_of s.m) body (resolved_head k s.m (nets_of s.m)) heads_long
                  ∙ resolved_module s.ms k s.m;
              summed = f.summed;
            },
          )
            where
              heads_long : length (resolved_head k s.m (nets_of s.m)) ≡ length (head_of s.m)
              heads_long =
                  length-of-head (16 + k) (map (slot_in s.m) s.m.inputs) (map (slot_in s.m) s.m.outputs) (length s.m.occurrences)
                  ∙ ap₂ (λ (i o : ℕ). 4 + i + o) (length-map s.m.inputs (slot_in s.m)) (length-map s.m.outputs (slot_in s.m))
                  ∙ sym (length-of-head s.m.number s.m.inputs s.m.outputs (length s.m.occurrences))
