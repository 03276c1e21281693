-- `modules::put` meets its contract: the head from the module's lists, its occurrences, and the block's end. Assumes nothing.
use Prim.Native.Nat.{ℕ, ◌+◌, ◌-◌}
use native.Mathlib.Omega.{arith}
use mathlib.Core.Path.{◌≡◌, refl, ap, subst}
use mathlib.Core.List.{List, ◌++◌}
use borrow.Author.Rules.{rules}
use lib.ListN.{take, drop}
use Rattle.meaning.specs.Lists.{All}
use Rattle.meaning.specs.Syntax.{Module}
use Rattle.meaning.specs.Ceilings.{Small}
use Rattle.meaning.specs.Ndl.{occurrences_text, end_module_lines}
use Rattle.bytes_out.specs.Filled.{Put}
use Rattle.bytes_out.specs.Laying.{Laying}
use Rattle.write_pieces.specs.Rooms.{Room}
use Rattle.write_pieces.specs.Laying.{laying-start, laying-left, laying-put, laying-last, room-first}
use Rattle.image.specs.Stands.{Stands}
use Rattle.image.specs.Pieces.{module_at, length-of_module}
use Rattle.image.specs.Places.{HeaderOf}
use Rattle.ndl_text.specs.Parts.{head_text, module_of-parts}
use Rattle.ndl_text.specs.Standing.{OccurrencesTold, ModuleTold}
use Rattle.ndl_text.proofs.Told.{part-between}
use Rattle.ndl_text.proofs.modules.put.Statement.{statement}
use Rattle.ndl_text.proofs.modules.put.Tie as tie

-- The places where the module's parts are known, behind its head and behind its occurrences.
abbrev start : tie.After-module_at-header → tie.Start
start c = c.before.before.before.before

abbrev parts : tie.After-put_head-body → tie.After-module_at-header
parts c =
    c.before.before.before.before.before.before

abbrev Told : tie.After-module_at-header → Type 0
Told c = let a = c.args in ModuleTold a.names.now a.numbers.now a.from a.out.now a.at

-- What stands behind the head.
abbrev rest : List ℕ → Module → List ℕ
rest names m = occurrences_text names 0 m.occurrences ++ end_module_lines

room-of-parts : {names numbers : List ℕ} {from : ℕ} {out : List ℕ} {at : ℕ} (t : ModuleTold names numbers from out at)
    → Room (head_text t.m.number t.m.inputs t.m.outputs ++ rest names t.m) out at
room-of-parts {names} {out = out} {at = at} t = subst (λ (text : List ℕ). Room text out at) (module_of-parts names t.m) t.room

module _ (c : tie.After-module_at-header) (t : Told c) where
  placed : HeaderOf (start c).args.numbers.now (start c).args.from t.m c.module_at-header.result
  placed = c.module_at-header.ensures t.m t.stands

  inputs : Stands (start c).args.numbers.now ((start c).args.from + 2) t.m.inputs
  inputs = (module_at t.m t.stands).inputs (c.args.from + 2) refl

  inputs-part :
      take ((start c).args.from + 2 + c.module_at-header.result.inputs - ((start c).args.from + 2)) (drop ((start c).args.from + 2) (start c).args.numbers.now)
      ≡ t.m.inputs
  inputs-part =
      part-between (c.args.from + 2) (c.args.from + 2 + c.module_at-header.result.inputs) inputs
      (ap (λ (n : ℕ). c.args.from + 2 + n) placed.inputs)

  outputs-part :
      take (c.module_at-header.result.to - c.module_at-header.result.from) (drop c.module_at-header.result.from (start c).args.numbers.now) ≡ t.m.outputs
  outputs-part = part-between c.module_at-header.result.from c.module_at-header.result.to placed.outputs placed.to

-- The head's number and lists, as they stand in the numbers.
headable : (out : List ℕ) (at : ℕ) {n m : ℕ} {is js os ps : List ℕ} → n ≡ m → is ≡ js → os ≡ ps
    → Small m × All Small js × All Small ps × Room (head_text m js ps) out at
    → Small n × All Small is × All Small os × Room (head_text n is os) out at
headable out at e f g h = rw (e, f, g) h

headed : (before : List ℕ) (at : ℕ) (after : List ℕ) (next : ℕ) {n m : ℕ} {is js os ps : List ℕ} → n ≡ m → is ≡ js → os ≡ ps
    → Put (head_text n is os) before at after next → Put (head_text m js ps) before at after next
headed before at after next e f g h = rw (← e, ← f, ← g) h

begun : (c : tie.After-put_head-body) (t : Told (parts c))
    → let a = (start (parts c)).args in
    Laying (head_text t.m.number t.m.inputs t.m.outputs ++ rest a.names.now t.m) (rest a.names.now t.m)
    a.out.now a.at c.put_head-body.new.out c.put_head-body.result
begun c t =
    laying-put
    (headed _ _ _ _ (module_at t.m t.stands).number (inputs-part (parts c) t) (outputs-part (parts c) t) c.put_head-body.ensures)
    (laying-start (room-of-parts t))

-- Its occurrences stand behind the head's numbers.
abbrev occurrences : (c : tie.After-put_head-body) (t : Told (parts c))
    → let a = (start (parts c)).args in
    let h = (parts c).module_at-header.result in
    OccurrencesTold a.names.now a.numbers.now (h.to + 1) h.count c.put_head-body.new.out c.put_head-body.result
occurrences c t =
    record {
      os = t.m.occurrences;
      all = (placed (parts c) t).count;
      few = t.within.count;
      stands = (placed (parts c) t).body;
      within = t.within.occurrences;
      long = t.long;
      room = room-first end_module_lines (laying-left (begun c t));
    }

told : (c : tie.After-put_all-pen) (t : Told (parts c.before.before.before.before))
    → let a = (start (parts c.before.before.before.before)).args in
    Laying (head_text t.m.number t.m.inputs t.m.outputs ++ rest a.names.now t.m) end_module_lines
    a.out.now a.at c.put_all-pen.new.out c.put_all-pen.result.at
told c t =
    laying-put {rest = end_module_lines} (c.put_all-pen.ensures (occurrences c.before.before.before.before t)).put (begun c.before.before.before.before t)

put-head-requires : tie.Need-put_head-body-requires
put-head-requires c κs =
    let t = c.requires in
    headable _ _ (module_at t.m t.stands).number (inputs-part c.before.before.before.before.before t) (outputs-part c.before.before.before.before.before t)
    (t.within.number, t.within.inputs.numbers, t.within.outputs.numbers, room-first (rest _ t.m) (room-of-parts t))

put-all-requires : tie.Need-put_all-pen-requires
put-all-requires c κs = occurrences c.before.before.before (start (parts c.before.before.before)).requires

copy-requires : tie.Need-copy-end-requires
copy-requires c κs =
    omega (arith, (laying-left (told c.before.before.before.before.before (start (parts c.before.before.before.before.before.before.before.before.before)).requires)).fits)

returns : tie.Need-returns
returns c t =
    let a = (start (parts c.before.before.before.before.before.before.before.before.before.before.before.before)).args in
    let header = placed (parts c.before.before.before.before.before.before.before.before.before.before.before.before) t in
    record {
      put = rw (module_of-parts a.names.now t.m) (laying-last c.copy-end.ensures (told c.before.before.before.before.before.before.before.before t));
      next = omega (arith, (c.put_all-pen.ensures (occurrences c.before.before.before.before.before.before.before.before.before.before.before.before t)).next, header.to, header.from, length-of_module t.m);
    }

pub put_spec : {M : Type 1} → statement M
put_spec =
    tie.close
    (tie.spec
    (λ c κs. let t = c.requires in record { m = t.m; stands = t.stands })
    (λ c. omega (arith, (inputs c c.requires).within))
    (λ c. omega (arith, (inputs c.before c.requires).within, (placed c.before c.requires).inputs))
    (λ c. omega (arith, (inputs c.before c.requires).within))
    (λ c. omega (arith, (inputs c.before.before c.requires).within))
    (λ c. omega (arith, (inputs c.before.before c.requires).within))
    (λ c. omega (arith, (inputs c.before.before c.requires).within))
    (λ c. omega (arith, (inputs c.before.before c.requires).within))
    (λ c. omega (arith, (inputs c.before.before c.requires).within, (placed c.before.before c.requires).inputs))
    (λ c. omega (arith, (placed c.before.before.before c.requires).outputs.within))
    (λ c. omega (arith, (placed c.before.before.before c.requires).to))
    (λ c. omega (arith, (placed c.before.before.before c.requires).to))
    (λ c. omega (arith, (placed c.before.before.before c.requires).outputs.within, (placed c.before.before.before c.requires).to))
    put-head-requires
    (λ c. let p = parts c.before.before in omega (arith, (placed p p.before.before.before.before.requires).body.within))
    put-all-requires
    copy-requires
    (λ c. search rules)
    returns)
