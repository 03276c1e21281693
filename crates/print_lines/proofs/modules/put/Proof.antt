-- `modules::put` meets its contract: what parts it from the one before, the head from the module's lists, its occurrences, and the brackets.
-- Assumes nothing.
use Prim.Native.Nat.{ℕ, ◌+◌, ◌-◌}
use native.Mathlib.Omega.{arith}
use mathlib.Core.Path.{◌≡◌, refl, ap, subst}
use mathlib.Core.List.{List, [], ◌∷◌, ◌++◌}
use borrow.Author.Rules.{rules}
use lib.ListN.{take, drop}
use Rattle.meaning.specs.Lists.{All}
use Rattle.meaning.specs.Syntax.{Module}
use Rattle.meaning.specs.Ceilings.{Small}
use Rattle.meaning.specs.ListPrint.{parted, occurrence_break, occurrence_list, module_break}
use Rattle.bytes_out.specs.Filled.{Put}
use Rattle.bytes_out.specs.Laying.{Laying}
use Rattle.write_pieces.specs.Rooms.{Room}
use Rattle.write_pieces.specs.Laying.{laying-start, laying-left, laying-put, laying-last, room-first}
use Rattle.image.specs.Stands.{Stands}
use Rattle.image.specs.Pieces.{module_at, length-of_module}
use Rattle.image.specs.Places.{HeaderOf}
use Rattle.ndl_text.proofs.Told.{part-between}
use Rattle.print_names.specs.Entries.{leading}
use Rattle.print_lines.specs.Parts.{head_part, module_of-parts}
use Rattle.print_lines.specs.Standing.{OccurrencesTold, ModuleTold}
use Rattle.print_lines.proofs.modules.put.Statement.{statement}
use Rattle.print_lines.proofs.modules.put.Tie as tie

-- The places where the module's parts are known, behind what parts it from the one before, behind its head and behind its occurrences.
abbrev start : tie.After-module_at-header → tie.Start
start c = c.before.before.before

abbrev parts : tie.After-put_break-head → tie.After-module_at-header
parts c = c.before.before.before.before.before

abbrev Told : tie.After-module_at-header → Type 0
Told c = let a = c.args in ModuleTold a.numbers.now a.from a.position a.out.now a.at

-- What stands behind the occurrences, behind the head, and in all.
abbrev close : List ℕ
close = 41 ∷ 41 ∷ []

abbrev rest : Module → List ℕ
rest m = parted occurrence_break occurrence_list m.occurrences ++ close

abbrev text : Module → List ℕ
text m = head_part m.number m.inputs m.outputs ++ rest m

room-of-parts : {numbers : List ℕ} {from position : ℕ} {out : List ℕ} {at : ℕ} (t : ModuleTold numbers from position out at)
    → Room (leading module_break position ++ text t.entry) out at
room-of-parts {position = position} {out = out} {at = at} t =
    subst (λ (l : List ℕ). Room (leading module_break position ++ l) out at) (module_of-parts t.entry) t.room

module _ (c : tie.After-module_at-header) (t : Told c) where
  placed : HeaderOf (start c).args.numbers.now (start c).args.from t.entry c.module_at-header.result
  placed = c.module_at-header.ensures t.entry t.stands

  inputs : Stands (start c).args.numbers.now ((start c).args.from + 2) t.entry.inputs
  inputs = (module_at t.entry t.stands).inputs (c.args.from + 2) refl

  inputs-part :
      take ((start c).args.from + 2 + c.module_at-header.result.inputs - ((start c).args.from + 2)) (drop ((start c).args.from + 2) (start c).args.numbers.now)
      ≡ t.entry.inputs
  inputs-part =
      part-between (c.args.from + 2) (c.args.from + 2 + c.module_at-header.result.inputs) inputs
      (ap (λ (n : ℕ). c.args.from + 2 + n) placed.inputs)

  outputs-part :
      take (c.module_at-header.result.to - c.module_at-header.result.from) (drop c.module_at-header.result.from (start c).args.numbers.now) ≡ t.entry.outputs
  outputs-part = part-between c.module_at-header.result.from c.module_at-header.result.to placed.outputs placed.to

-- The head's number and lists, as they stand in the numbers.
headable : (out : List ℕ) (at : ℕ) {n m : ℕ} {is js os ps : List ℕ} → n ≡ m → is ≡ js → os ≡ ps
    → Small m × All Small js × All Small ps × Room (head_part m js ps) out at
    → Small n × All Small is × All Small os × Room (head_part n is os) out at
headable out at e f g h = rw (e, f, g) h

headed : (before : List ℕ) (at : ℕ) (after : List ℕ) (next : ℕ) {n m : ℕ} {is js os ps : List ℕ} → n ≡ m → is ≡ js → os ≡ ps
    → Put (head_part n is os) before at after next → Put (head_part m js ps) before at after next
headed before at after next e f g h = rw (← e, ← f, ← g) h

divided : (c : tie.After-put_break-head) (t : Told c.before.before.before.before.before)
    → let a = c.args in
    Laying (leading module_break a.position ++ text t.entry) (text t.entry)
    a.out.now a.at c.put_break-head.new.out c.put_break-head.result
divided c t = laying-put c.put_break-head.ensures (laying-start (room-of-parts t))

begun : (c : tie.After-put_head-body) (t : Told c.before.before.before.before.before.before.before.before.before.before.before.before)
    → let a = c.args in
    Laying (leading module_break a.position ++ text t.entry) (rest t.entry)
    a.out.now a.at c.put_head-body.new.out c.put_head-body.result
begun c t =
    laying-put
    (headed _ _ _ _ (module_at t.entry t.stands).number (inputs-part c.before.before.before.before.before.before.before.before.before.before.before.before t) (outputs-part c.before.before.before.before.before.before.before.before.before.before.before.before t) c.put_head-body.ensures)
    (divided c.before.before.before.before.before.before.before t)

-- Its occurrences stand behind the head's numbers.
abbrev occurrences : (c : tie.After-put_head-body) (t : Told c.before.before.before.before.before.before.before.before.before.before.before.before)
    → let a = c.args in
    let h = c.module_at-header.result in
    OccurrencesTold a.numbers.now (h.to + 1) h.count c.put_head-body.new.out c.put_head-body.result
occurrences c t =
    record {
      entries = t.entry.occurrences;
      all = (placed c.before.before.before.before.before.before.before.before.before.before.before.before t).count;
      stands = (placed c.before.before.before.before.before.before.before.before.before.before.before.before t).body;
      within = t.within.occurrences;
      room = room-first close (laying-left (begun c t));
    }

told : (c : tie.After-put_all-pen) (t : Told c.before.before.before.before.before.before.before.before.before.before.before.before.before.before.before.before)
    → let a = c.args in
    Laying (leading module_break a.position ++ text t.entry) close
    a.out.now a.at c.put_all-pen.new.out c.put_all-pen.result.at
told c t =
    laying-put {rest = close} (c.put_all-pen.ensures (occurrences c.before.before.before.before t)).put (begun c.before.before.before.before t)

put-break-requires : tie.Need-put_break-head-requires
put-break-requires c κs =
    room-first {xs = leading module_break c.args.position} (text c.requires.entry) (room-of-parts c.requires)

put-head-requires : tie.Need-put_head-body-requires
put-head-requires c κs =
    let t = c.requires in
    headable _ _ (module_at t.entry t.stands).number (inputs-part c.before.before.before.before.before.before.before.before.before.before.before t) (outputs-part c.before.before.before.before.before.before.before.before.before.before.before t)
    (t.within.number, t.within.inputs.numbers, t.within.outputs.numbers, room-first (rest t.entry) (laying-left (divided c.before.before.before.before.before.before t)))

put-all-requires : tie.Need-put_all-pen-requires
put-all-requires c κs = occurrences c.before.before.before c.requires

copy-requires : tie.Need-copy-end-requires
copy-requires c κs =
    omega (arith, (laying-left (told c.before.before.before.before.before c.requires)).fits)

returns : tie.Need-returns
returns c t =
    let header = placed c.before.before.before.before.before.before.before.before.before.before.before.before.before.before.before.before.before.before.before.before.before.before.before.before t in
    record {
      put = rw (module_of-parts t.entry) (laying-last c.copy-end.ensures (told c.before.before.before.before.before.before.before.before t));
      next = omega (arith, (c.put_all-pen.ensures (occurrences c.before.before.before.before.before.before.before.before.before.before.before.before t)).next, header.to, header.from, length-of_module t.entry);
    }

pub put_spec : {M : Type 1} → statement M
put_spec =
    tie.close
    (tie.spec
    (λ c κs. let t = c.requires in record { m = t.entry; stands = t.stands })
    (λ c. omega (arith, (inputs c (start c).requires).within))
    (λ c. omega (arith, (inputs c.before c.requires).within, (placed c.before c.requires).inputs))
    put-break-requires
    (λ c. omega (arith, (inputs c.before.before.before.before.before.before.before c.requires).within))
    (λ c. omega (arith, (inputs c.before.before.before.before.before.before.before.before c.requires).within))
    (λ c. omega (arith, (inputs c.before.before.before.before.before.before.before.before c.requires).within))
    (λ c. omega (arith, (inputs c.before.before.before.before.before.before.before.before c.requires).within))
    (λ c. omega (arith, (inputs c.before.before.before.before.before.before.before.before c.requires).within))
    (λ c. omega (arith, (inputs c.before.before.before.before.before.before.before.before c.requires).within, (placed c.before.before.before.before.before.before.before.before c.requires).inputs))
    (λ c. omega (arith, (placed c.before.before.before.before.before.before.before.before.before c.requires).outputs.within))
    (λ c. omega (arith, (placed c.before.before.before.before.before.before.before.before.before c.requires).to))
    (λ c. omega (arith, (placed c.before.before.before.before.before.before.before.before.before c.requires).to))
    (λ c. omega (arith, (placed c.before.before.before.before.before.before.before.before.before c.requires).outputs.within, (placed c.before.before.before.before.before.before.before.before.before c.requires).to))
    put-head-requires
    (λ c. omega (arith, (placed c.before.before.before.before.before.before.before.before.before.before.before.before.before.before c.requires).body.within))
    put-all-requires
    copy-requires
    (λ c. search rules)
    returns)
