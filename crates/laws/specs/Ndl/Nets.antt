-- Lists of nets, between brackets and behind a keyword: the text determines the list.
use Rattle.std.specs.Prelude.{ℕ, ◌≡◌, Bool, true, false}
use Rattle.std.proofs.Math.Path.{refl}
use Rattle.std.proofs.Common.{sym, ◌∙◌, arith}
use mathlib.Core.List.{List, [], ◌∷◌, ◌++◌, append_assoc}
use Rattle.meaning.specs.Lists.{All, none, more}
use Rattle.meaning.specs.Ceilings.{Small}
use Rattle.meaning.specs.Layout.{each}
use Rattle.meaning.specs.Listing.{space, decimal}
use Rattle.meaning.specs.Ndl.{is_digit, net_text, after_comma, nets_text, line_end, keyword_line}
use Rattle.laws.specs.Ndl.Spans.{Stops, stops, cut_word}
use Rattle.laws.specs.Ndl.Numerals.{cut-number}

-- The bracket or the semicolon behind a list.
record Closes (c : ℕ) : Type 0 where
  no_digit : is_digit c ≡ false
  no_comma : c ≡ 44 → ⊥
  no_net : c ≡ 78 → ⊥

bracket : Closes 41
bracket = record { no_digit = refl; no_comma = λ e. omega arith; no_net = λ e. omega arith }

semicolon : Closes 59
semicolon = record { no_digit = refl; no_comma = λ e. omega arith; no_net = λ e. omega arith }

module _ {c : ℕ} (closes : Closes c) where
  ends : (nets r : List ℕ) → Stops is_digit (each after_comma nets ++ (c ∷ r))
  unfolding each
  ends [] r = stops r closes.no_digit
  ends (n ∷ nets) r = stops _ refl

  -- A net and what is behind it.
  cut-net : (n m : ℕ) (ns ms r s : List ℕ) → Small n → Small m
      → (decimal n ++ each after_comma ns) ++ (c ∷ r) ≡ (decimal m ++ each after_comma ms) ++ (c ∷ s)
      → (n ≡ m) × (each after_comma ns ++ (c ∷ r) ≡ each after_comma ms ++ (c ∷ s))
  cut-net n m ns ms r s few low same =
      cut-number n m few low (ends ns r) (ends ms s)
      (sym (append_assoc (decimal n) (each after_comma ns) (c ∷ r)) ∙ same ∙ append_assoc (decimal m) (each after_comma ms) (c ∷ s))

  cut-more : (ns ms : List ℕ) {r s : List ℕ} → All Small ns → All Small ms
      → each after_comma ns ++ (c ∷ r) ≡ each after_comma ms ++ (c ∷ s) → (ns ≡ ms) × (r ≡ s)
  unfolding each
  cut-more [] [] few low same = (refl, cc)
  cut-more [] (m ∷ ms) few low same = absurd (closes.no_comma cc)
  cut-more (n ∷ ns) [] few low same = absurd (closes.no_comma cc)
  cut-more (n ∷ ns) (m ∷ ms) {r} {s} (more few fews) (more low lows) same =
      let inner : (decimal n ++ each after_comma ns) ++ (c ∷ r) ≡ (decimal m ++ each after_comma ms) ++ (c ∷ s) = cc in
      let cut = cut-net n m ns ms r s few low inner in
      let on = cut-more ns ms fews lows cut.1 in
      let heads : n ≡ m = cut.0 in
      let tails : ns ≡ ms = on.0 in
      (cc, on.1)

  cut-nets : (ns ms : List ℕ) {r s : List ℕ} → All Small ns → All Small ms
      → nets_text ns ++ (c ∷ r) ≡ nets_text ms ++ (c ∷ s) → (ns ≡ ms) × (r ≡ s)
  unfolding nets_text
  cut-nets [] [] few low same = (refl, cc)
  cut-nets [] (m ∷ ms) few low same = absurd (closes.no_net cc)
  cut-nets (n ∷ ns) [] few low same = absurd (closes.no_net cc)
  cut-nets (n ∷ ns) (m ∷ ms) {r} {s} (more few fews) (more low lows) same =
      let inner : (decimal n ++ each after_comma ns) ++ (c ∷ r) ≡ (decimal m ++ each after_comma ms) ++ (c ∷ s) = cc in
      let cut = cut-net n m ns ms r s few low inner in
      let on = cut-more ns ms fews lows cut.1 in
      let heads : n ≡ m = cut.0 in
      let tails : ns ≡ ms = on.0 in
      (cc, on.1)

-- Between brackets.
pub cut-bracketed : (ns ms : List ℕ) {r s : List ℕ} → All Small ns → All Small ms
    → nets_text ns ++ (41 ∷ r) ≡ nets_text ms ++ (41 ∷ s) → (ns ≡ ms) × (r ≡ s)
cut-bracketed ns ms few low same = cut-nets bracket ns ms few low same

-- Behind a keyword, on a line.
behind : List ℕ → List ℕ → List ℕ
behind [] r = line_end ++ r
behind (n ∷ ns) r = space ∷ (nets_text (n ∷ ns) ++ (line_end ++ r))

line-behind : (word nets r : List ℕ) → keyword_line word nets ++ r ≡ word ++ behind nets r
unfolding keyword_line behind
line-behind word [] r = append_assoc word line_end r
line-behind word (n ∷ nets) r = simp append_assoc

cut-behind : (ns ms : List ℕ) {r s : List ℕ} → All Small ns → All Small ms → behind ns r ≡ behind ms s → (ns ≡ ms) × (r ≡ s)
unfolding behind
cut-behind [] [] few low same = (refl, cc)
cut-behind [] (m ∷ ms) few low same = let z : ◌≡◌ {A = ℕ} 59 32 = cc in absurd (omega arith)
cut-behind (n ∷ ns) [] few low same = let z : ◌≡◌ {A = ℕ} 59 32 = cc in absurd (omega arith)
cut-behind (n ∷ ns) (m ∷ ms) {r} {s} few low same =
    let inner : nets_text (n ∷ ns) ++ (59 ∷ 10 ∷ r) ≡ nets_text (m ∷ ms) ++ (59 ∷ 10 ∷ s) = cc in
    let cut = cut-nets semicolon (n ∷ ns) (m ∷ ms) few low inner in
    let feeds : 10 ∷ r ≡ 10 ∷ s = cut.1 in
    (cut.0, cc)

pub cut_line : (word ns ms : List ℕ) {r s : List ℕ} → All Small ns → All Small ms
    → keyword_line word ns ++ r ≡ keyword_line word ms ++ s → (ns ≡ ms) × (r ≡ s)
cut_line word ns ms {r} {s} few low same =
    cut-behind ns ms few low (cut_word word (sym (line-behind word ns r) ∙ same ∙ line-behind word ms s))
