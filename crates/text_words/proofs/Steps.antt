-- One byte of a search, and one pair of bytes of a comparison.
use Prim.Native.Nat.{ℕ, zero, suc, ◌+◌, ◌-◌, ◌≤◌, ◌<◌}
use native.Mathlib.Omega.{arith}
use native.Mathlib.Numerals.{add-one}
use mathlib.Core.Path.{◌≡◌, refl, sym, ◌∙◌, ap}
use mathlib.Core.Bool.{Bool, true, false, cond, ◌&&◌}
use mathlib.Core.List.{List, [], ◌∷◌, map}
use lib.Dec.{eqb}
use lib.ListN.{length, get_or, take, drop, drop_of_length-le, length-drop}
use lib.Seq.{drop-cons, drop-drop}
use borrow.Author.Tests.{eq-eqb, ne_eqb}
use Rattle.meaning.specs.ListForm.{Name, kind_of, capital}
use Rattle.meaning.specs.ListNumbers.{same_name}
use Rattle.meaning.specs.ListCall.{word}
use Rattle.std.proofs.Common.{Some, None, le-leb}
use Rattle.std.proofs.lemmas.Bool.{lt-leb}
use Rattle.text_modes.specs.Modes.{kind_code}
use Rattle.text_modes.specs.Kinds.{if_below}
use Rattle.text_modes.specs.Ends.{spelt}
use Rattle.text_words.specs.declared.Cursor.{Cursor}
use Rattle.text_words.specs.Seeking.{going, at_level, cursor_after, behind, to_atom, past_atom, atom_from, as_written, module_from, name_at, first_named, Sought}

-- What the search makes of a bracket.
module _ (code level depth more : ℕ) where
  pub opens_other : code ≡ 1 → (depth ≡ level → ⊥) → going (depth + 1) more ≡ cursor_after code level depth more
  opens_other e n = rw (e, ne_eqb depth level n, add-one depth)

  pub opens_it : code ≡ 1 → depth ≡ level → more ≡ 0 → record { met = true; depth = depth; more = more } ≡ cursor_after code level depth more
  opens_it e l z = rw (e, eq-eqb depth level l, z)

  pub closes : code ≡ 2 → (depth' : ℕ) → depth' ≡ depth - 1 → going depth' more ≡ cursor_after code level depth more
  closes e d is = rw (e, is)

  pub passes : (code ≡ 1 → ⊥) → (code ≡ 2 → ⊥) → going depth more ≡ cursor_after code level depth more
  passes n m = rw (ne_eqb code 1 n, ne_eqb code 2 m)

pub opens_like : (code level depth more : ℕ) → code ≡ 1 → depth ≡ level → (more ≡ 0 → ⊥)
    → going (depth + 1) (more - 1) ≡ cursor_after code level depth more
opens_like code level depth zero e l n = absurd (n refl)
opens_like code level depth (suc more) e l n =
    let less : suc more - 1 ≡ more = omega arith in
    rw (e, eq-eqb depth level l, add-one depth, less)

deeper : (code level depth more : ℕ) → (cursor_after code level depth more).depth ≤ suc depth
deeper code level depth more = go (eqb code 1) (eqb depth level) (eqb code 2) more
  where
    go : (a b c : Bool) (more : ℕ)
        → (cond a (cond b (at_level depth more) (going (suc depth) more)) (cond c (going (depth - 1) more) (going depth more))).depth ≤ suc depth
    go true true c zero = omega arith
    go true true c (suc more) = omega arith
    go true false c more = omega arith
    go false b true more = omega arith
    go false b false more = omega arith

-- The search for a list.
pub record Searching (text : List ℕ) (from level depth more i : ℕ) (c : Cursor) : Type 0 where
  pub few : i ≤ length text
  pub is : behind level depth more (drop from text) ≡ behind level c.depth c.more (drop i text)
  pub deep : c.depth ≤ i + 2

module _ (text : List ℕ) (from level depth more i : ℕ) (c d : Cursor) (s : Searching text from level depth more i c) (l : i < length text)
    (e : d ≡ cursor_after (kind_code (kind_of (get_or text i 0))) level c.depth c.more) where
  here : behind level depth more (drop from text) ≡ cond d.met (drop (i + 1) text) (behind level d.depth d.more (drop (i + 1) text))
  unfolding behind
  here = s.is ∙ rw (add-one i, drop-cons text i 0 l, e)

  pub searching_on : d.met ≡ false → Searching text from level depth more (i + 1) d
  searching_on f =
      record {
        few = omega arith;
        is = here ∙ rw f;
        deep = omega (arith, s.deep, ap (λ x. x.depth) e, deeper (kind_code (kind_of (get_or text i 0))) level c.depth c.more);
      }

  pub search-met : d.met ≡ true → Sought text (i + 1) (behind level depth more (drop from text))
  search-met f = record { few = omega arith; is = sym (here ∙ rw f) }

pub search-off : (text : List ℕ) (from level depth more i : ℕ) (c : Cursor) → Searching text from level depth more i c → length text ≤ i
    → Sought text i (behind level depth more (drop from text))
unfolding behind
search-off text from level depth more i c s l =
    record { few = s.few; is = drop_of_length-le text l ∙ sym (s.is ∙ rw (drop_of_length-le text l)) }

-- The way to the next atom.
pub record Nearing (text : List ℕ) (from i : ℕ) : Type 0 where
  pub few : i ≤ length text
  pub is : to_atom (drop from text) ≡ to_atom (drop i text)

module _ (text : List ℕ) (from i : ℕ) (s : Nearing text from i) where
  pub nearing_on : i < length text → (kind_code (kind_of (get_or text i 0)) ≡ 4 → ⊥) → Nearing text from (i + 1)
  unfolding to_atom
  nearing_on l n =
      record {
        few = omega arith;
        is = s.is ∙ rw (add-one i, drop-cons text i 0 l, ne_eqb (kind_code (kind_of (get_or text i 0))) 4 n);
      }

  pub at-atom : i < length text → kind_code (kind_of (get_or text i 0)) ≡ 4 → Sought text i (to_atom (drop from text))
  unfolding to_atom
  at-atom l e =
      record {
        few = s.few;
        is = sym (s.is ∙ rw (drop-cons text i 0 l, eq-eqb (kind_code (kind_of (get_or text i 0))) 4 e));
      }

  pub no_atom : length text ≤ i → Sought text i (to_atom (drop from text))
  unfolding to_atom
  no_atom l = record { few = s.few; is = drop_of_length-le text l ∙ sym (s.is ∙ rw (drop_of_length-le text l)) }

-- Atoms are passed one by one.
pub record Passing (text : List ℕ) (from more i left : ℕ) : Type 0 where
  pub few : i ≤ length text
  pub rest : List ℕ
  pub here : drop i text ≡ to_atom rest
  pub is : atom_from more (drop from text) ≡ atom_from left rest

pub passing-first : (text : List ℕ) (from more i : ℕ) → Sought text i (to_atom (drop from text)) → Passing text from more i more
passing-first text from more i s = record { few = s.few; rest = drop from text; here = s.is; is = refl }

pub passing-on : (text : List ℕ) (from more i left end j : ℕ) → Passing text from more i left → 0 < left
    → end ≡ i + length (word (drop i text)) → Sought text j (to_atom (drop end text)) → Passing text from more j (left - 1)
unfolding atom_from
passing-on text from more i zero end j p l e s = absurd (omega arith)
passing-on text from more i (suc left) end j p l e s =
    let less : suc left - 1 ≡ left = omega arith in
    let past : drop end text ≡ past_atom (to_atom p.rest) =
    ap (λ n. drop n text) e ∙ sym (drop-drop (length (word (drop i text))) i text) ∙ ap past_atom p.here in
    rw less (record { few = s.few; rest = past_atom (to_atom p.rest); here = s.is ∙ ap to_atom past; is = p.is })

pub passed-all : (text : List ℕ) (from more i left : ℕ) → Passing text from more i left → left ≡ 0 → Sought text i (atom_from more (drop from text))
unfolding atom_from
passed-all text from more i left p z = record { few = p.few; is = p.here ∙ sym (p.is ∙ ap (λ n. atom_from n p.rest) z) }

-- An atom ends inside its text.
pub end-within : (text : List ℕ) (i end : ℕ) → i ≤ length text → end ≡ i + length (word (drop i text)) → end ≤ length text
end-within text i end l e = omega (arith, (spelt (drop i text)).few, length-drop i text)

-- Two names, byte by byte: what is left of both decides.
abbrev pub Left : (one other : List ℕ) (i : ℕ) → Type 0
Left one other i = same_name (map capital one) (map capital other) ≡ same_name (map capital (drop i one)) (map capital (drop i other))

module _ (one other : List ℕ) (i : ℕ) (same : length one ≡ length other) (l : i < length one) (inv : Left one other i) (t : Bool)
    (e : t ≡ eqb (capital (get_or one i 0)) (capital (get_or other i 0))) where
  next : same_name (map capital one) (map capital other) ≡ (t && same_name (map capital (drop (i + 1) one)) (map capital (drop (i + 1) other)))
  unfolding same_name
  next =
      let m : i < length other = omega arith in
      inv ∙ rw (add-one i, drop-cons one i 0 l, drop-cons other i 0 m, e)

  pub same-apart : t ≡ false → false ≡ same_name (map capital one) (map capital other)
  same-apart f = sym (next ∙ rw f)

  pub same-on : t ≡ true → Left one other (i + 1)
  same-on f = next ∙ rw f

pub same_none : (one other : List ℕ) (i : ℕ) → length one ≡ length other → length one ≤ i
    → same_name (map capital (drop i one)) (map capital (drop i other)) ≡ true
unfolding same_name
same_none one other i same l =
    let m : length other ≤ i = omega arith in
    rw (drop_of_length-le one l, drop_of_length-le other m)

pub same_length : (one other : Name) → (length one ≡ length other → ⊥) → false ≡ same_name (map capital one) (map capital other)
unfolding same_name
same_length [] [] n = absurd (n refl)
same_length [] (b ∷ other) n = refl
same_length (a ∷ one) [] n = refl
same_length (a ∷ one) (b ∷ other) n = go (eqb (capital a) (capital b)) (same_length one other (λ e. n (ap suc e)))
  where
    go : (t : Bool) → false ≡ same_name (map capital one) (map capital other) → false ≡ (t && same_name (map capital one) (map capital other))
    go true h = h
    go false h = refl

-- The atom at a place, as it stands.
pub atom-there : (text : List ℕ) (start end : ℕ) (rest : List ℕ) → Sought text start rest → end ≡ start + length (word (drop start text))
    → take (end - start) (drop start text) ≡ as_written rest
atom-there text start end rest s e =
    let long : end - start ≡ length (word (drop start text)) = omega arith in
    rw (long, s.is)

-- The search for a module by its name.
abbrev pub Unnamed : (text name : List ℕ) (k : ℕ) → Type 0
Unnamed text name k = (k ≤ 128) × (first_named 128 0 text (map capital name) ≡ first_named (128 - k) k text (map capital name))

module _ (text name word' : List ℕ) (k : ℕ) (t : Bool) (l : k < 128) (inv : Unnamed text name k)
    (w : word' ≡ as_written (atom_from 0 (module_from k text))) (e : t ≡ same_name (map capital word') (map capital name)) where
  turn : first_named 128 0 text (map capital name) ≡ cond t k (first_named (128 - (k + 1)) (k + 1) text (map capital name))
  unfolding first_named
  turn =
      let less : 128 - k ≡ suc (128 - (k + 1)) = omega arith in
      let as_read : map capital word' ≡ name_at text k = ap (map capital) w ∙ (spelt (atom_from 0 (module_from k text))).is in
      inv.1 ∙ rw (less, add-one k, ← as_read, e)

  pub named_here : t ≡ true → k ≡ first_named 128 0 text (map capital name)
  named_here f = sym (turn ∙ rw f)

  pub named-on : t ≡ false → Unnamed text name (k + 1)
  named-on f = (omega arith, turn ∙ rw f)

pub named_none : (text name : List ℕ) (k : ℕ) → 128 ≤ k → Unnamed text name k → k ≡ first_named 128 0 text (map capital name)
unfolding first_named
named_none text name k l inv =
    let all : 128 - k ≡ 0 = omega arith in
    sym (inv.1 ∙ ap (λ n. first_named n k text (map capital name)) all)

-- A position below the limit, and the limit itself.
pub just : {k n limit : ℕ} → k < limit → k ≡ n → Some k ≡ if_below limit n
just {k} {n} {limit} l e = rw (← e, lt-leb limit k l)

pub nowhere : {k n limit : ℕ} → limit ≤ k → k ≡ n → None ≡ if_below limit n
nowhere {k} {n} {limit} l e = rw (← e, le-leb limit k l)
