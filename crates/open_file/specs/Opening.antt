-- What a file that was made ready, or refused, says of a call.
use Rattle.std.specs.Prelude.{ℕ, ◌<◌, ◌≡◌, refl, List, length, Result, Ok, Err}
use Rattle.std.proofs.Common.{sym, ap, subst, ◌∙◌, arith, length-drop}
use Rattle.meaning.specs.Syntax.{Module}
use Rattle.meaning.specs.Boxlist.{F, assoc}
use Rattle.meaning.specs.Limits.{expanded_size}
use Rattle.meaning.specs.Figures.{room}
use Rattle.meaning.specs.Reading.{File, holds, fails, read}
use Rattle.meaning.specs.Verdict.{Verdict, refused, file_verdict, verdict_of, verdict}
use Rattle.meaning.specs.Calls.{Decision, refusal, if_good, on_read, on_file, on_module}
use Rattle.image.specs.Searching.{expanded_size-search, room-search}
use Rattle.image.specs.OwnNumbers.{own-number, says-own}
use Rattle.open_finding.specs.Here.{Here}
use Rattle.open_finding.specs.Finding.{Searchable, FoundAt, site_of}
use Rattle.open_finding.specs.Standing.{Standing, fits}
use Rattle.open_file.specs.Prepared.{Opened, Prepares}
use Rattle.refusals.specs.declared.Refusal.{Refusal}

-- A file that is refused ends every call.
pub refused-ends :
    {R : Type 0} (file : List ℕ) (number place : ℕ) → verdict file ≡ refused number place → (ask : List Module → Decision R)
    → on_file file ask ≡ refusal number place
unfolding on_file verdict
refused-ends file number place e ask = go (read file) e
  where
    stop : (v : Verdict) (ms : List Module) → v ≡ refused number place → if_good v (ask ms) ≡ refusal number place
    stop v ms e = ap (λ (w : Verdict). if_good w (ask ms)) e

    go : (f : File) → verdict_of f ≡ refused number place → on_read f ask ≡ refusal number place
    go (holds ms) e = stop (file_verdict ms) ms e
    go (fails n p) e = cc

module _ {file : List ℕ} {modules : ℕ} {image starts names nets sizes rooms : List ℕ} (o : Opened file modules image starts names nets sizes rooms)
  where
    -- One that is accepted is asked on.
    pub asks : {R : Type 0} (ask : List Module → Decision R) → on_file file ask ≡ ask o.ms
    unfolding on_file
    asks ask = rw (o.reads, o.held.good)

    abbrev pub searchable : Searchable names modules
    searchable =
        record { ms = o.ms; all = o.all; listed = o.named.listed; name = λ k {m} {later} here. o.named.name k m later here }

    -- No module has the number: 18.
    pub asks_nobody :
        {R : Type 0} (number : ℕ) → assoc number o.ms ≡ F → (ask : List Module → Module → Decision R)
        → on_file file (λ ms. on_module (assoc number ms) (ask ms)) ≡ refusal 18 0
    asks_nobody number none ask = asks (λ ms. on_module (assoc number ms) (ask ms)) ∙ rw none

    -- No number stands twice: the module at a position is the one that its number means.
    abbrev pub own-found : {k : ℕ} (h : Here o.ms k) → FoundAt o.ms h.m.number k
    own-found {k} h =
        let own = own-number (fits o.held) k h.here in
        record { m = h.m; later = h.later; here = h.here; named = refl; found = own.found; placed = own.placed }

    -- The module of a number is at its position,
    module _ {number k : ℕ} (f : FoundAt o.ms number k) where
      pub in_tables : (k < length sizes) × (k < length rooms)
      in_tables =
          let inside = length-drop k o.ms in
          (omega (arith, ap length f.here, o.sizes_long), omega (arith, ap length f.here, o.rooms_long))

      -- and stands there with its size and its room from the tables.
      abbrev pub stands : Standing image starts nets (site_of k number sizes rooms)
      stands =
          record {
            ms = o.ms;
            held = o.held;
            found = f;
            size_is =
                o.sizes_are k f.m f.later f.here
                ∙ sym (says-own expanded_size-search (fits o.held) k f.here)
                ∙ ap (expanded_size o.ms) f.named;
            room_is =
                o.rooms_are k f.m f.later f.here
                ∙ sym (says-own room-search (fits o.held) k f.here)
                ∙ ap (room o.ms) f.named;
          }

      -- It is asked on.
      pub asks_of :
          {R : Type 0} (ask : List Module → Module → Decision R)
          → on_file file (λ ms. on_module (assoc number ms) (ask ms)) ≡ ask o.ms f.m
      asks_of ask = asks (λ ms. on_module (assoc number ms) (ask ms)) ∙ rw f.found

-- What preparing says of its answer.
module _ (file image starts names nets sizes rooms : List ℕ) (r : Result ℕ Refusal) (p : Prepares r file image starts names nets sizes rooms) where
  pub opened : (modules : ℕ) → r ≡ Ok modules → Opened file modules image starts names nets sizes rooms
  opened modules e = subst (λ (x : Result ℕ Refusal). Prepares x file image starts names nets sizes rooms) e p

  pub broken : (why : Refusal) → r ≡ Err why → verdict file ≡ refused why.number why.place
  broken why e = subst (λ (x : Result ℕ Refusal). Prepares x file image starts names nets sizes rooms) e p
