-- What writing the occurrences of a rewritten module asks.
use Rattle.std.specs.Prelude.{ℕ, ◌+◌, ◌≤◌, ◌≡◌, true, List, [], ◌∷◌, length, get_or}
use Rattle.meaning.specs.Lists.{All}
use Rattle.meaning.specs.Syntax.{Occurrence}
use Rattle.meaning.specs.Boxlist.{member}
use Rattle.meaning.specs.Ceilings.{Small}
use Rattle.meaning.specs.Layout.{each, occurrence_numbers}
use Rattle.meaning.specs.Withdrawn.{withdrawn, three_gates, rewrite_body}
use Rattle.laws.specs.Written.{occurrence_bytes}
use Rattle.laws.specs.Withdrawn.Kinds.{Four}
use Rattle.laws.specs.Withdrawn.Suits.{on_four, Suits}
use Rattle.image.specs.Stands.{Stands}
use Rattle.rewrite_bytes.specs.Used.{Stamped, unused_from}
use Rattle.rewrite_bytes.specs.declared.three.Gate.{Gate}

abbrev pub gate_of : Gate → Occurrence
gate_of g = on_four (g.net ∷ []) g.kind g.a g.b g.c g.d

-- The gate as it is read off the numbers.
abbrev pub gate_there : (numbers : List ℕ) (at takes kind : ℕ) → Gate
gate_there numbers at takes kind =
    record {
      kind = kind;
      net = get_or numbers (at + 1) 0;
      a = get_or numbers takes 0;
      b = get_or numbers (takes + 1) 0;
      c = get_or numbers (takes + 2) 0;
      d = get_or numbers (takes + 3) 0;
    }

pub record Replacing (g : Gate) (first second : ℕ) (out : List ℕ) (at : ℕ) : Type 0 where
  pub four : Four g.kind
  pub net : Small g.net
  pub takes : All Small (g.a ∷ g.b ∷ g.c ∷ g.d ∷ [])
  pub small_first : Small first
  pub small_second : Small second
  pub room : at + length (each occurrence_bytes (three_gates first second (gate_of g))) ≤ length out

-- One of the four gates drives one net.
abbrev pub Single : Occurrence → Type 0
Single o = withdrawn o.refers ≡ true → length o.drives ≡ 1

-- Occurrences that stand in the numbers from a place on, which can be rewritten with the unused numbers from one on.
pub record Writable (numbers : List ℕ) (place count : ℕ) (table : List ℕ) (stamp from : ℕ) : Type 0 where
  pub os : List Occurrence
  pub used : List ℕ
  pub stands : Stands numbers place (each occurrence_numbers os)
  pub many : count ≡ length os
  pub suits : Suits used (unused_from used from) os
  pub single : All Single os
  pub small : All Small numbers
  pub long : length table ≡ 16384
  pub stamped : Stamped table stamp (λ x. member x used)

abbrev pub body_of : {numbers : List ℕ} {place count : ℕ} {table : List ℕ} {stamp from : ℕ} → Writable numbers place count table stamp from → List ℕ
body_of {from = from} w = each occurrence_bytes (rewrite_body (unused_from w.used from) w.os)

-- And there is room for what they come to.
pub record Roomy (numbers : List ℕ) (place count : ℕ) (table : List ℕ) (stamp out to : ℕ) : Type 0 where
  pub w : Writable numbers place count table stamp 0
  pub room : to + length (body_of w) ≤ out

-- Some occurrences stand in the numbers from a place on, and their nets are indices of the table.
pub record Markable (numbers : List ℕ) (place count long : ℕ) : Type 0 where
  pub os : List Occurrence
  pub stands : Stands numbers place (each occurrence_numbers os)
  pub many : count ≡ length os
  pub small : All Small numbers
  pub wide : long ≡ 16384
