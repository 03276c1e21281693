-- Running a resolved file on frames means what the file means: each module of a file that fits gives the same values, if it is given as
-- many as it has inputs and each gate gives one.
use Rattle.std.specs.Prelude.{ℕ, suc, ◌+◌, ◌≡◌, true, List, ◌∷◌, ◌++◌, map, length}
use Rattle.std.proofs.Math.Path.{refl}
use Rattle.std.proofs.Common.{sym, ap, subst, ◌∙◌, append_assoc, append-nil}
use Rattle.meaning.specs.Syntax.{Occurrence, Module}
use Rattle.meaning.specs.Gates.{is_gate}
use Rattle.meaning.specs.Boxlist.{box, assoc}
use Rattle.meaning.specs.Limits.{driven}
use Rattle.meaning.specs.Evaluation.{Env, look_all, pairs, Meaning, apply, walk, run_module, run}
use Rattle.laws.specs.WellFormed.{Reference, to_gate, to_module}
use Rattle.laws.specs.OutputCount.{length-of-look_all, length-of-run_module}
use Rattle.nets.specs.Slots.{slot_of}
use Rattle.image.specs.Resolved.{position_of, nets_of, resolve_occurrence, resolve_module, resolve_from, resolve}
use Rattle.image.specs.Frames.{read_slots, walk_frame, run_frame, run_frames}
use Rattle.image.specs.Fitting.{Fits}
use Rattle.image.specs.Searching.{run-search, run_frames-search}
use Rattle.image.specs.Referring.{Refers, refer_no_gate}
use Rattle.image.specs.Keeping.{Kept, Turn, kept_in_file}
use Rattle.image.specs.Ordered.{Ordered, done, step, ordered, slot-known, outputs-known}
use Rattle.image.specs.Holding.{Holds, holds_more, holds-inputs, read_known}

-- Two ways to run a module: they do the same, and give as many values as it has outputs.
record Alike {A : Type 0} (m : Module) (runs runs' : List A → List A) : Type 0 where
  same : (vs : List A) → length vs ≡ length m.inputs → runs' vs ≡ runs vs
  count : (vs : List A) → length (runs vs) ≡ length m.outputs

-- What occurrences refer to does the same before and after resolution, and gives as many values as they drive nets.
record Applied
    {A : Type 0} (gate_meaning : Meaning A) (refer : ℕ → ℕ) (later : List Module) (l l' : Meaning A) : Type 0 where
  same :
      (o : Occurrence)
      → Reference later o
      → (vs : List A)
      → length vs ≡ length o.takes
      → apply gate_meaning l' (refer o.refers) vs ≡ apply gate_meaning l o.refers vs
  count : (o : Occurrence) → Reference later o → (vs : List A) → length (apply gate_meaning l o.refers vs) ≡ length o.drives

-- The walk through resolved occurrences fills the frame with the values that the walk through the occurrences gives to nets.
walk-holds :
    {A : Type 0} (unset : A) {gate_meaning l l' : Meaning A} {refer : ℕ → ℕ} {later : List Module}
    → Applied gate_meaning refer later l l'
    → (all : List ℕ) {nets : List ℕ} {os : List Occurrence} {env : Env A} {frame : List A}
    → all ≡ nets ++ driven os
    → Ordered later nets os
    → Holds unset env nets frame
    → Holds unset (walk unset gate_meaning l os env) all
    (walk_frame unset gate_meaning l' (map (resolve_occurrence (λ x. slot_of x all) refer) os) frame)
unfolding walk walk_frame driven
walk-holds unset applied all {nets} e done holds = rw (e ∙ append-nil nets) holds
walk-holds {A} unset {gate_meaning} {l} {l'} {refer} applied all {nets} {env = env} {frame = frame} e (step {o} {os} ok rest) holds =
    subst
    (λ (ws : List A).
    Holds unset (walk unset gate_meaning l os (pairs unset o.drives vs ++ env)) all
    (walk_frame unset gate_meaning l' (map (resolve_occurrence (λ x. slot_of x all) refer) os) (frame ++ ws)))
    (sym values)
    (walk-holds unset applied all (e ∙ sym (append_assoc nets o.drives (driven os))) rest
    (holds_more unset o.drives vs holds ok.fresh (applied.count o ok.reference args)))
  where
    args : List A
    args = look_all unset o.takes env

    vs : List A
    vs = apply gate_meaning l o.refers args

    values : apply gate_meaning l' (refer o.refers) (read_slots unset frame (map (λ x. slot_of x all) o.takes)) ≡ vs
    values =
        ap (apply gate_meaning l' (refer o.refers)) (read_known unset holds (slot-known all nets (driven (o ∷ os)) e) o.takes ok.bound)
        ∙ applied.same o ok.reference args (length-of-look_all unset o.takes env)

module _
    {A : Type 0} (unset : A) (gate_meaning : Meaning A)
    (one : (kind : ℕ) (xs : List A) → is_gate kind ≡ true → length (gate_meaning kind xs) ≡ 1) where
  all-applied :
      {refer : ℕ → ℕ} {position : ℕ} {later : List Module}
      → Refers refer position later
      → Kept Alike (run unset gate_meaning) (run_frames unset gate_meaning) refer position later
      → Applied gate_meaning refer later (run unset gate_meaning later) (run_frames unset gate_meaning (resolve_from refer position later))
  all-applied {refer} {position} {later} refers before = record { same = same; count = count }
    where
      same :
          (o : Occurrence)
          → Reference later o
          → (vs : List A)
          → length vs ≡ length o.takes
          → apply gate_meaning (run_frames unset gate_meaning (resolve_from refer position later)) (refer o.refers) vs
          ≡ apply gate_meaning (run unset gate_meaning later) o.refers vs
      same o (to_gate h arity drives) vs count = rw (refers.gates o.refers h, h)
      same o (to_module m h e takes drives) vs count =
          rw (refer_no_gate refers o.refers m e, h) ((before.kept o.refers m e).same vs (count ∙ takes))

      count :
          (o : Occurrence)
          → Reference later o
          → (vs : List A)
          → length (apply gate_meaning (run unset gate_meaning later) o.refers vs) ≡ length o.drives
      count o (to_gate h arity drives) vs = rw h (one o.refers vs h ∙ drives)
      count o (to_module m h e takes drives) vs = rw h ((before.kept o.refers m e).count vs ∙ sym drives)

  module_alike :
      (refer : ℕ → ℕ) (position : ℕ) (m : Module) (later : List Module)
      → Turn Alike (run unset gate_meaning) (run_frames unset gate_meaning) refer position m later
      → Alike m (run_module unset gate_meaning (run unset gate_meaning later) m)
      (run_frame unset gate_meaning (run_frames unset gate_meaning (resolve_from refer (suc position) later)) (resolve_module refer position m))
  unfolding run_module run_frame resolve_module nets_of
  module_alike refer position m later turn =
      record {
        same = λ vs count.
            read_known unset
            (walk-holds unset (all-applied turn.refers turn.before) (nets_of m) refl (ordered turn.ok)
            (holds-inputs unset m.inputs vs count))
            (λ x among. refl) m.outputs (outputs-known turn.ok);
        count = length-of-run_module unset gate_meaning (run unset gate_meaning later) m;
      }

  pub frames_mean :
      {ms : List Module}
      → Fits ms
      → (number : ℕ) (m : Module)
      → assoc number ms ≡ box m
      → (vs : List A)
      → length vs ≡ length m.inputs
      → run_frames unset gate_meaning (resolve ms) (16 + position_of number ms) vs ≡ run unset gate_meaning ms number vs
  frames_mean fits number m e =
      (kept_in_file Alike (run-search unset gate_meaning) (run_frames-search unset gate_meaning) module_alike fits number m e).same
