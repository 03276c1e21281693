-- What the file, made ready or refused, says of its listing and of the module at a position.
use Prim.Native.Nat.{ℕ, ◌≤◌, ◌<◌}
use mathlib.Core.Path.{◌≡◌, sym, ap, subst, ◌∙◌}
use mathlib.Core.List.{List}
use native.Mathlib.Omega.{arith}
use lib.ListN.{length, get_or}
use Rattle.meaning.specs.Verdict.{refused, verdict}
use Rattle.meaning.specs.Calls.{Decision, refusal, answer}
use Rattle.meaning.specs.Family.{Summary, summary, summary_on}
use Rattle.meaning.specs.Listing.{line, lines, listing_text, listing, listing_scratch}
use Rattle.open_finding.specs.Here.{Here}
use Rattle.open_finding.specs.Finding.{site_of}
use Rattle.open_finding.specs.Standing.{Standing}
use Rattle.open_finding.specs.declared.Site.{Site}
use Rattle.open_file.specs.Prepared.{Opened}
use Rattle.open_file.specs.Opening.{refused-ends, asks, own-found, stands, asks_of}
use Rattle.list_text.specs.Pieces.{PutDown}
use Rattle.list_file.specs.Sheet.{Listable, longest_listing}

module _ {file : List ℕ} {modules : ℕ} {image starts names nets sizes rooms : List ℕ} (o : Opened file modules image starts names nets sizes rooms)
  where
    -- The lines of an accepted file are its listing.
    pub lines-listed : (family : List ℕ) → listing file family ≡ lines file family 0 o.ms
    unfolding listing
    lines-listed family = ap listing_text (asks o (λ ms. answer (lines file family 0 ms)))

    -- With loads, scratch and room enough they can be written.
    abbrev pub listable :
        {loads scratch out : List ℕ}
        → length image ≤ length loads
        → length scratch ≡ listing_scratch
        → longest_listing ≤ length out
        → Listable image starts names nets sizes rooms modules loads scratch out
    listable loaded lent room = record { file = file; opened = o; loads_long = loaded; lent = lent; room = room }

    -- The lists by position have an entry for each module.
    pub in_lists : {position : ℕ} → position < modules → (position < length names) × ((position < length sizes) × (position < length rooms))
    in_lists less =
        (omega (arith, o.all, o.named.listed), (omega (arith, o.all, o.sizes_long), omega (arith, o.all, o.rooms_long)))

    -- The module at a position stands there, and its count is the file's count of its number.
    module _ {position : ℕ} (h : Here o.ms position) {site : Site} (is : site ≡ site_of position (get_or names position 0) sizes rooms) where
      site_is : site ≡ site_of position h.m.number sizes rooms
      site_is = is ∙ ap (λ (n : ℕ). site_of position n sizes rooms) (o.named.name position h.m h.later h.here)

      pub stands_here : Standing image starts nets site
      stands_here = rw site_is (stands o (own-found o h))

      counted : (family : List ℕ) → summary file h.m.number family listing_scratch ≡ summary_on family h.m.number listing_scratch o.ms h.m
      unfolding summary
      counted family = asks_of o (own-found o h) (summary_on family h.m.number listing_scratch)

      pub line-here :
          (family : List ℕ) {out out' : List ℕ} {r : ℕ}
          → ((s : Standing image starts nets site)
          → PutDown (line site.position site.number (summary_on family site.number listing_scratch s.ms s.found.m)) out 0 out' r)
          → PutDown (line position h.m.number (summary file h.m.number family listing_scratch)) out 0 out' r
      line-here family {out} {out'} {r} put =
          subst (λ (d : Decision Summary). PutDown (line position h.m.number d) out 0 out' r) (sym (counted family))
          (subst
          (λ (x : Site).
          (s : Standing image starts nets x)
          → PutDown (line x.position x.number (summary_on family x.number listing_scratch s.ms s.found.m)) out 0 out' r)
          site_is put (stands o (own-found o h)))

-- A refused file has one line.
pub refusal-listed : (file family : List ℕ) (n p : ℕ) → verdict file ≡ refused n p → listing file family ≡ listing_text (refusal n p)
unfolding listing
refusal-listed file family n p e = ap listing_text (refused-ends file n p e (λ ms. answer (lines file family 0 ms)))

-- A text that was put down, known by another name.
pub put_as :
    {text text' out out' : List ℕ} {r : ℕ}
    → text ≡ text'
    → PutDown text' out 0 out' r
    → PutDown text out 0 out' r
put_as {out = out} {out'} {r} same put = subst (λ (t : List ℕ). PutDown t out 0 out' r) (sym same) put
