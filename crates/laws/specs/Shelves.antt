-- A joined file reads to the group's modules and those of the house that the group lacks, finds of each number what the look-up finds, and
-- answers for the group's modules as the group's file does.
use Rattle.std.specs.Prelude.{ℕ, ◌≤◌, ◌≡◌, refl, leb, length}
use Rattle.std.proofs.Common.{sym, ap, ◌∙◌, leb-true}
use mathlib.Core.List.{List, [], ◌∷◌}
use Rattle.meaning.specs.Syntax.{Module}
use Rattle.meaning.specs.Boxlist.{Found, box, F, assoc}
use Rattle.meaning.specs.Layout.{encode}
use Rattle.meaning.specs.Ceilings.{Bytes}
use Rattle.meaning.specs.Reading.{File, holds, fails, read, most_modules, most_bytes, read_modules, read_count, read_number, read_many}
use Rattle.meaning.specs.Verdict.{Verdict, good, refused, file_verdict}
use Rattle.meaning.specs.Calls.{Decision, refusal, answer, number_of, if_good, Written, fitting, evaluation, flattening, counting}
use Rattle.meaning.specs.Shelves.{on_both, Part, or_else, look_up, handed, lacking, joined, join_on, joining}
use Rattle.laws.specs.RoundTrip.{round_trip}
use Rattle.laws.specs.Exactness.{exactness}
use Rattle.laws.specs.Calls.{ModuleOf, demand-met, same_answer}
use Rattle.laws.specs.BehindCalls.{Further, further-evaluation, further-flattening, further-counting}
use Rattle.laws.specs.LookUp.{refusal_no_answer}
use Rattle.laws.specs.Joining.{or_found, found-joined, joined-within}

-- What it tells that joining is answered.
pub record Joined (group house : List ℕ) (w : Written) : Type 0 where
  pub own : List Module
  pub others : List Module
  pub own_read : read group ≡ holds own
  pub others_read : read house ≡ holds others
  pub few : length (joined own others) ≤ most_modules
  pub short : length (encode (joined own others)) ≤ most_bytes
  pub accepted : file_verdict (joined own others) ≡ good
  pub bytes_are : w.bytes ≡ encode (joined own others)

pub only-joined : (group house : List ℕ) (out : ℕ) {w : Written} → (joining group house out).decision ≡ answer w → Joined group house w
unfolding joining
only-joined group house out {w} = go (read group) refl (read house) refl
  where
    judged :
        (ms : List Module) (v : Verdict)
        → file_verdict ms ≡ v
        → if_good v (fitting (encode ms) 0 out) ≡ answer w
        → (file_verdict ms ≡ good) × (w.bytes ≡ encode ms)
    judged ms good e h =
        let fits = demand-met 22 0 (leb (length (encode ms)) out) h in
        (e, ap (λ (u : Written). u.bytes) (sym (same_answer fits.answered)))
    judged ms (refused n p) e h = absurd (refusal_no_answer h)

    go : (f : File) → read group ≡ f → (g : File) → read house ≡ g
        → (on_both f g (λ own others. record { which = 0; decision = join_on out (joined own others) })).decision ≡ answer w
        → Joined group house w
    go (fails n p) e g i h = absurd (refusal_no_answer h)
    go (holds own) e (fails n p) i h = absurd (refusal_no_answer h)
    go (holds own) e (holds others) i h =
        let ms = joined own others in
        let few = demand-met 4 0 (leb (length ms) most_modules) h in
        let short = demand-met 1 0 (leb (length (encode ms)) most_bytes) few.answered in
        let last = judged ms (file_verdict ms) refl short.answered in
        record {
          own = own;
          others = others;
          own_read = e;
          others_read = i;
          few = leb-true (length ms) most_modules few.met;
          short = leb-true (length (encode ms)) most_bytes short.met;
          accepted = last.0;
          bytes_are = last.1;
        }

-- A file of no modules.
empty-reads : read (0 ∷ []) ≡ holds []
unfolding read read_modules read_count read_number read_many
empty-reads = refl

-- What the look-up decides of what is found in the two files.
abbrev in_both : (number : ℕ) (own others : List Module) → Found → Found → Decision Part
in_both number own others f g = (or_else 1 number own f (or_else 2 number others g (record { which = 0; decision = refusal 18 0 }))).decision

module _ {group house : List ℕ} {w : Written} (b : Bytes group) (c : Bytes house) (j : Joined group house w) where
  -- The joined file reads to exactly those modules.
  pub joined-reads : read w.bytes ≡ holds (joined j.own j.others)
  joined-reads =
      ap read j.bytes_are
      ∙ round_trip (joined j.own j.others)
      (joined-within (exactness group b j.own j.own_read).within (exactness house c j.others j.others_read).within j.few j.short)

  -- A number looked up in it alone gives what the look-up gives.
  pub joined-look_up :
      (number : ℕ)
      → (number_of (look_up w.bytes (0 ∷ []) number).decision ≡ number_of (look_up group house number).decision)
      × (handed (look_up w.bytes (0 ∷ []) number).decision ≡ handed (look_up group house number).decision)
  unfolding look_up assoc
  joined-look_up number =
      rw (joined-reads, empty-reads, j.own_read, j.others_read, found-joined number j.own j.others) (go (assoc number j.own) (assoc number j.others))
    where
      go : (f g : Found) → (number_of (in_both number (joined j.own j.others) [] (or_found f g) (assoc number [])) ≡ number_of (in_both number j.own j.others f g))
          × (handed (in_both number (joined j.own j.others) [] (or_found f g) (assoc number [])) ≡ handed (in_both number j.own j.others f g))
      go (box m) g = (refl, refl)
      go F (box m) = (refl, refl)
      go F F = (refl, refl)

  -- Where the group's file is accepted by itself, nothing that its modules refer to comes from the house, and whatever is asked of one of
  -- them is answered of the joined file as of the group's.
  module _ {number : ℕ} {m : Module} (here : ModuleOf group number j.own m) where
    further : Further group w.bytes number
    unfolding joined
    further =
        record {
          ms = j.own;
          behind = lacking j.own j.others;
          m = m;
          here = here;
          reads = joined-reads;
          accepted = j.accepted;
        }

    pub joined-evaluation :
        (values : List ℕ) (scratch out : ℕ) → evaluation w.bytes number values scratch out ≡ evaluation group number values scratch out
    joined-evaluation = further-evaluation further

    pub joined-flattening : (scratch out : ℕ) → flattening w.bytes number scratch out ≡ flattening group number scratch out
    joined-flattening = further-flattening further

    pub joined-counting : (scratch : ℕ) → counting w.bytes number scratch ≡ counting group number scratch
    joined-counting = further-counting further
