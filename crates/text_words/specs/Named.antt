-- The first module of a name is found at its position in the text. It stands at that position in the file, with the number of the name there.
use Prim.Native.Nat.{ℕ, zero, suc, ◌+◌, ◌<◌}
use native.Mathlib.Omega.{arith}
use Rattle.std.specs.Prelude.{◌≡◌, false, drop}
use Rattle.std.proofs.Common.{sym, ◌∙◌, ap, drop_at}
use Rattle.std.proofs.Math.Path.{subst}
use mathlib.Core.List.{List, [], ◌∷◌, ◌++◌, map, map-append, append_assoc}
use Rattle.std.proofs.Math.ListN.{length, length-append}
use Rattle.std.proofs.lemmas.List.{length-map}
use Rattle.meaning.specs.Lists.{All, none, more}
use Rattle.meaning.specs.Syntax.{Module}
use Rattle.meaning.specs.ListForm.{Name, ListedModule, Lists}
use Rattle.meaning.specs.ListNumbers.{same_name, entered, mentions, numbered_module, numbered}
use Rattle.laws.specs.Texts.Numbering.{same-itself}
use Rattle.text_words.specs.Seeking.{first_named}
use Rattle.text_words.specs.Listed.{name-found}

-- No module of a list has the name.
abbrev pub Unlike : Name → ListedModule → Type 0
Unlike a m = same_name m.name a ≡ false

module _ {text : List ℕ} (m : ListedModule) (later : List ListedModule) where
  onwards : (left : ℕ) (done rest : List ListedModule) → Lists text (done ++ (rest ++ (m ∷ later))) → length rest < left
      → All (Unlike m.name) rest → first_named left (length done) text m.name ≡ length done + length rest
  unfolding first_named
  onwards zero done rest l few apart = absurd (omega arith)
  onwards (suc left) done [] l few none = rw (name-found done m later l, same-itself m.name) (omega arith)
  onwards (suc left) done (x ∷ rest) l few (more e apart) =
      let next : length (done ++ (x ∷ [])) ≡ suc (length done) = length-append done (x ∷ []) ∙ omega arith in
      let same : Lists text ((done ++ (x ∷ [])) ++ (rest ++ (m ∷ later))) =
      subst (Lists text) (sym (append_assoc done (x ∷ []) (rest ++ (m ∷ later)))) l in
      rw (name-found done x (rest ++ (m ∷ later)) l, e)
      (ap (λ k. first_named left k text m.name) (sym next)
      ∙ onwards left (done ++ (x ∷ [])) rest same (omega arith) apart
      ∙ omega arith)

  pub position-found : (before : List ListedModule) → Lists text (before ++ (m ∷ later)) → length before < 128 → All (Unlike m.name) before
      → first_named 128 0 text m.name ≡ length before
  position-found before l few apart = onwards 128 [] before l few apart ∙ omega arith

-- In the file the module at that position has the number of the name.
pub number-there : (before : List ListedModule) (m : ListedModule) (later : List ListedModule)
    → drop (length before) (numbered (before ++ (m ∷ later)))
    ≡ numbered_module (entered [] (mentions (before ++ (m ∷ later)))) m
    ∷ map (numbered_module (entered [] (mentions (before ++ (m ∷ later))))) later
unfolding numbered
number-there before m later =
    ap (drop (length before)) (map-append give before (m ∷ later))
    ∙ drop_at (map give before) (map give (m ∷ later)) (length before) (length-map before give)
  where
    give : ListedModule → Module
    give = numbered_module (entered [] (mentions (before ++ (m ∷ later))))
