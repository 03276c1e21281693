-- What is asked of a file that stands ready.
use Rattle.refusals.specs.Refused.{refusal_at}
use Rattle.std.specs.Prelude.{Result, Ok}
use Rattle.refusals.specs.declared.Refusal.{Refusal}
use Prim.Native.Nat.{ℕ, ◌<◌}
use mathlib.Core.Path.{◌≡◌, sym, ap, subst, ◌∙◌}
use mathlib.Core.List.{List}
use lib.ListN.{length, drop}
use Rattle.meaning.specs.Calls.{Decision, answer, module_count, number_at, first_number}
use Rattle.open_finding.specs.Finding.{Searchable, FoundAt, Finds, site_of}
use Rattle.open_finding.specs.Standing.{Standing}
use Rattle.open_finding.specs.declared.Site.{Site}
use Rattle.std.specs.Prelude.{Option, Some, None}
use Rattle.open_file.specs.Prepared.{Open}
use Rattle.open_file.specs.Opening.{asks, searchable, asks_nobody, in_tables, stands, asks_of}
use Rattle.answers.specs.Contents.{found_of}
use Rattle.call_door.specs.declared.asks.Ask.{Ask}
use Rattle.call_door.specs.declared.asks.Ask.TheVariants.{Modules, NumberAt, Of}
use Rattle.call_door.specs.declared.asks.Task.{Task}
use Rattle.call_door.specs.declared.asks.Sheet.{Sheet}
use Rattle.call_door.specs.Asks.{refused_sheet, Outcome, decides, Gives, Done, Meets}
use Rattle.call_door.proofs.Refusing.{task_refused}

module _ {image starts names nets sizes rooms : List ℕ} {modules : ℕ} (o : Open image starts names nets sizes rooms modules) where
  module _ {ask : Ask} {family values scratch out scratch' out' : List ℕ} {r : Sheet} where
    same : (kind : Ask) → ask ≡ kind → Meets kind family o.file values scratch out scratch' out' r → Meets ask family o.file values scratch out scratch' out' r
    same kind is = subst (λ (a : Ask). Meets a family o.file values scratch out scratch' out' r) (sym is)

    pub meets_modules : ask ≡ Modules → r.listed ≡ Ok modules → Meets ask family o.file values scratch out scratch' out' r
    unfolding module_count
    meets_modules is told =
        same Modules is
        (record { met = told ∙ sym (ap found_of (asks o.opened (λ ms. answer (length ms)) ∙ ap answer (sym o.opened.all))) })

    pub meets_number :
        {position : ℕ} {n : Result ℕ Refusal} → ask ≡ NumberAt position → r.named ≡ n
        → ((s : Searchable names modules) → n ≡ found_of (first_number (drop position s.ms)))
        → Meets ask family o.file values scratch out scratch' out' r
    unfolding number_at
    meets_number {position} is told found =
        same (NumberAt position) is
        (record {
          met = told ∙ found (searchable o.opened) ∙ sym (ap found_of (asks o.opened (λ ms. first_number (drop position ms))));
        })

  module _ (number : ℕ) (place : Option ℕ) (finds : (s : Searchable names modules) → Finds place s.ms number) where
    pub meets_nowhere :
        {ask : Ask} {task : Task} {family values scratch out : List ℕ} {r : Sheet} → ask ≡ Of task number → place ≡ None → r ≡ refused_sheet (refusal_at 18 0)
        → Meets ask family o.file values scratch out scratch out r
    meets_nowhere {ask} {task} {family} {values} {scratch} {out} is none told =
        let nobody = subst (λ (p : Option ℕ). Finds p o.opened.ms number) none (finds (searchable o.opened)) in
        same (Of task number) is
        (rw told (task_refused 18 0 scratch out family o.file values number task (asks_nobody o.opened number nobody)))

    module _ {k : ℕ} (at : place ≡ Some k) where
      found : FoundAt o.opened.ms number k
      found = subst (λ (p : Option ℕ). Finds p o.opened.ms number) at (finds (searchable o.opened))

      pub in_lists : (k < length sizes) × (k < length rooms)
      in_lists = in_tables o.opened found

      pub standing : {site : Site} → site ≡ site_of k number sizes rooms → Standing image starts nets site
      standing is = rw is (stands o.opened found)

      -- One law for whatever is asked of a module.
      pub meets_at :
          {ask : Ask} {task : Task} {family values scratch out scratch' out' : List ℕ} {r : Sheet} {site : Site}
          → ask ≡ Of task number
          → site ≡ site_of k number sizes rooms
          → ((s : Standing image starts nets site) → Done task family site.number values scratch out s.ms s.found.m scratch' out' r)
          → Meets ask family o.file values scratch out scratch' out' r
      meets_at {ask} {task} {family} {values} {scratch} {out} {scratch'} {out'} {r} is there gives =
          same (Of task number) is
          (record {
            met =
                subst (λ (d : Decision (Outcome task)). Gives task d scratch out scratch' out' r)
                (sym (asks_of o.opened found (decides task family number values (length scratch) (length out))))
                (subst
                (λ (site : Site). (s : Standing image starts nets site) → Done task family site.number values scratch out s.ms s.found.m scratch' out' r)
                there gives (stands o.opened found)).done;
          })
