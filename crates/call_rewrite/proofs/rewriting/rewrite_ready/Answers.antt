-- The ceilings of the new file are decided, and then it is written from the numbers that were kept.
use Rattle.std.specs.Prelude.{Result, Ok}
use Rattle.std.proofs.Common.{ℕ, ◌≤◌, ◌≡◌, List, length, take, sym, ap, ◌∙◌, arith}
use Rattle.std.proofs.Math.Seq.{length-take-le}
use lib.ListN.{length-replicate}
use Rattle.meaning.specs.Reading.{most_modules}
use Rattle.read_parts.specs.Exact.{bytes-all}
use Rattle.read_parts.specs.Ways.{handed_on}
use Rattle.refusals.specs.declared.Refusal.{Refusal}
use Rattle.open_finding.specs.Standing.{accepted}
use Rattle.open_beside.specs.Beside.{numbers-are, numbers-inside}
use Rattle.call_rewrite.specs.declared.deciding.Decided.{Decided}
use Rattle.call_rewrite.specs.declared.deciding.Decided.TheVariants.{Go}
use Rattle.call_rewrite.specs.Growing.{Decides, Grown, Keeping, Readied}
use Rattle.call_rewrite.proofs.Answering.{decided, new-refused, same-written, new-written}
use Rattle.call_rewrite.proofs.rewriting.rewrite_ready.Goals as goal

module _ {file numbers : List ℕ} {count : ℕ} {offsets image starts nets sizes : List ℕ} {modules : ℕ}
    (r : Readied file numbers count offsets image starts nets sizes modules) where
  abbrev grown : Grown image starts nets sizes modules 128
  grown =
      record {
        ms = r.beside.opened.ms;
        held = r.beside.opened.held;
        all = r.beside.opened.all;
        sizes_long = r.beside.opened.sizes_long;
        sizes_are = r.beside.opened.sizes_are;
        own_long = omega arith;
      }

  abbrev keeping : {own : List ℕ} {d : Result Decided Refusal} → Decides r.beside.opened.ms own d → d ≡ Ok Go → most_modules ≤ length own
      → Keeping file (take count numbers) starts offsets modules own
  keeping says go long =
      record {
        ms = r.beside.opened.ms;
        reads = r.beside.opened.reads;
        all = r.beside.opened.all;
        accepted = accepted r.beside.opened.held;
        few = (decided says go).0;
        numbers_are = numbers-are r.beside;
        starts_are = r.beside.kept.starts_are;
        offsets_are = r.beside.kept.offsets_are;
        owned = says.owned;
        starts_long = r.beside.opened.held.shelved.started;
        offsets_long = r.offsets_long;
        own_long = long;
      }

pub decide-requires : goal.decide-requires
decide-requires c = grown c.requires

pub returns-in_err-decided : goal.returns-in_err-decided
returns-in_err-decided c =
    let out = c.args.out.now in
    rw (handed_on c.from_residual.ensures.1)
    (new-refused c.requires.beside.opened (c.decide.ensures (grown c.requires)) (length out) out c.in_err-decided.was)

pub returns-in-Stays : goal.returns-in-Stays
returns-in-Stays c =
    same-written c.requires.beside.opened (c.decide.ensures (grown c.requires)) (length c.args.out.now)
    (bytes-all _ (λ i. (c.type_inv.file i).fits))
    (c.in_ok-decided.was ∙ ap Ok c.in-Stays.is)
    c.answer.ensures

pub slice_bounds-write_new-end : goal.slice_bounds-write_new-end
slice_bounds-write_new-end c = sym (length-take-le _ _ (numbers-inside c.requires.beside))

pub write_new-requires : goal.write_new-requires
write_new-requires c =
    keeping c.requires (c.decide.ensures (grown c.requires)) (c.in_ok-decided.was ∙ ap Ok c.in-Go.is)
    (omega (arith, c.decide.auto.own, length-replicate {A = ℕ} 128 0))

pub returns-in-Go : goal.returns-in-Go
returns-in-Go c =
    let says = c.decide.ensures (grown c.requires) in
    let go = c.in_ok-decided.was ∙ ap Ok c.in-Go.is in
    new-written c.requires.beside.opened says (length c.args.out.now) go
    (c.write_new.ensures (keeping c.requires says go (omega (arith, c.decide.auto.own, length-replicate {A = ℕ} 128 0))))
