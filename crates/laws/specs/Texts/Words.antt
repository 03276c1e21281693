-- Reading by whole atoms, as the code does: where an atom begins, it is tested and taken at once, and reading goes on behind it.
use Rattle.std.specs.Prelude.{ℕ, zero, suc, ◌+◌, ◌≡◌, refl, Bool, true, false, not, List, [], ◌∷◌, ◌++◌, length, drop}
use Rattle.std.proofs.Common.{add-zero, arith, sym, ◌∙◌, ap, append-nil, append_assoc}
use Rattle.meaning.specs.Calls.{Decision, refusal, answer, demand}
use Rattle.meaning.specs.ListForm.{Name, ListedModule, Kind, letter, space, Kind.sign as sign_kind, kind_of, capital, sign, atom}
use Rattle.meaning.specs.ListReader.{Stand, ◌and◌, step, Spot, with_atom, settled, taking, take1, is_astray}
use Rattle.meaning.specs.ListCall.{over, one_more, word, begins_over, concluded, reading_from}
use Rattle.laws.specs.Texts.Divided.{spot}
use Rattle.laws.specs.Texts.Place.{any-atom}
use Rattle.laws.specs.Texts.Answered.{word_of}

-- One byte of reading, by its kind.
abbrev pub byte_step : (place : ℕ) → Spot → (b : ℕ) → List ℕ → Kind → Decision (List ListedModule)
byte_step place x b text k =
    demand 25 place (not (is_astray (settled (taking k b x))))
    (demand 26 place (not (begins_over k x (word (b ∷ text))))
    (reading_from (suc place) (taking k b x) text))

pub by_kind : (place : ℕ) (x : Spot) (b : ℕ) (text : List ℕ) (k : Kind) → kind_of b ≡ k → reading_from place x (b ∷ text) ≡ byte_step place x b text k
unfolding reading_from take1
by_kind place x b text k e = ap (byte_step place x b text) e

-- What is left of an atom.
rest-of-atom : (place : ℕ) (s : Stand) (c : ℕ) (w : Name) (text : List ℕ) → is_astray (step s (atom (c ∷ w))) ≡ false
    → reading_from place (spot s (c ∷ w)) text
    ≡ reading_from (place + length (word text)) (spot (step s (atom ((c ∷ w) ++ word text))) []) (drop (length (word text)) text)
unfolding reading_from word
rest-of-atom place s c w [] e =
    let z : place + 0 ≡ place = omega arith in
    ap (λ v. concluded place (step s (atom v))) (sym (append-nil (c ∷ w))) ∙ ap (λ p. concluded p (step s (atom ((c ∷ w) ++ [])))) (sym z)
rest-of-atom place s c w (b ∷ text) e = go (kind_of b) refl (rest-of-atom (suc place) s c (w and capital b) text)
  where
    ended : (k : Kind) → kind_of b ≡ k → one_more k (capital b) (word text) ≡ []
        → byte_step place (spot s (c ∷ w)) b text k ≡ byte_step place (spot (step s (atom (c ∷ w))) []) b text k
        → reading_from place (spot s (c ∷ w)) (b ∷ text)
        ≡ reading_from (place + length (word (b ∷ text))) (spot (step s (atom ((c ∷ w) ++ word (b ∷ text)))) []) (drop (length (word (b ∷ text))) (b ∷ text))
    ended k h empty same =
        let z : place + 0 ≡ place = omega arith in
        let none : word (b ∷ text) ≡ [] = word_of b text k h ∙ empty in
        by_kind place (spot s (c ∷ w)) b text k h
        ∙ same
        ∙ sym (by_kind place (spot (step s (atom (c ∷ w))) []) b text k h)
        ∙ ap (λ v. reading_from place (spot (step s (atom v)) []) (b ∷ text)) (sym (append-nil (c ∷ w)))
        ∙ ap (λ p. reading_from p (spot (step s (atom ((c ∷ w) ++ []))) []) (b ∷ text)) (sym z)
        ∙ ap (λ v. reading_from (place + length v) (spot (step s (atom ((c ∷ w) ++ v))) []) (drop (length v) (b ∷ text))) (sym none)

    go : (k : Kind) → kind_of b ≡ k
        → (is_astray (step s (atom (c ∷ (w and capital b)))) ≡ false
        → reading_from (suc place) (spot s (c ∷ (w and capital b))) text
        ≡ reading_from (suc place + length (word text)) (spot (step s (atom ((c ∷ (w and capital b)) ++ word text))) []) (drop (length (word text)) text))
        → reading_from place (spot s (c ∷ w)) (b ∷ text)
        ≡ reading_from (place + length (word (b ∷ text))) (spot (step s (atom ((c ∷ w) ++ word (b ∷ text)))) []) (drop (length (word (b ∷ text))) (b ∷ text))
    go letter h rest =
        let ok : is_astray (step s (atom (c ∷ (w and capital b)))) ≡ false = any-atom s (c ∷ (w and capital b)) (c ∷ w) ∙ e in
        let z : suc place + length (word text) ≡ place + suc (length (word text)) = omega arith in
        by_kind place (spot s (c ∷ w)) b text letter h
        ∙ ap (λ t. demand 25 place (not t) (reading_from (suc place) (spot s (c ∷ (w and capital b))) text)) ok
        ∙ rest ok
        ∙ ap (λ p. reading_from p (spot (step s (atom ((c ∷ (w and capital b)) ++ word text))) []) (drop (length (word text)) text)) z
        ∙ ap (λ v. reading_from (place + suc (length (word text))) (spot (step s (atom (c ∷ v))) []) (drop (length (word text)) text)) (append_assoc w (capital b ∷ []) (word text))
        ∙ ap (λ v. reading_from (place + length v) (spot (step s (atom ((c ∷ w) ++ v))) []) (drop (length v) (b ∷ text))) (sym (word_of b text letter h))
    go space h rest = ended space h refl refl
    go (sign_kind t) h rest = ended (sign_kind t) h refl refl

-- A whole atom.
pub whole-atom : (place : ℕ) (s : Stand) (b : ℕ) (text : List ℕ) → kind_of b ≡ letter
    → reading_from place (spot s []) (b ∷ text)
    ≡ demand 25 place (not (is_astray (step s (atom (word (b ∷ text))))))
    (demand 26 place (not (over s (atom (word (b ∷ text)))))
    (reading_from (place + length (word (b ∷ text))) (spot (step s (atom (word (b ∷ text)))) []) (drop (length (word (b ∷ text))) (b ∷ text))))
whole-atom place s b text h =
    by_kind place (spot s []) b text letter h
    ∙ ap (λ v. demand 25 place (not (is_astray (step s (atom (capital b ∷ []))))) (demand 26 place (not (over s (atom v))) (reading_from (suc place) (spot s (capital b ∷ [])) text))) is
    ∙ go (is_astray (step s (atom (capital b ∷ [])))) refl
    ∙ ap atom_step (sym is)
  where
    is : word (b ∷ text) ≡ capital b ∷ word text
    is = word_of b text letter h

    atom_step : Name → Decision (List ListedModule)
    atom_step w =
        demand 25 place (not (is_astray (step s (atom w))))
        (demand 26 place (not (over s (atom w)))
        (reading_from (place + length w) (spot (step s (atom w)) []) (drop (length w) (b ∷ text))))

    go : (t : Bool) → is_astray (step s (atom (capital b ∷ []))) ≡ t
        → demand 25 place (not (is_astray (step s (atom (capital b ∷ [])))))
        (demand 26 place (not (over s (atom (capital b ∷ word text)))) (reading_from (suc place) (spot s (capital b ∷ [])) text))
        ≡ demand 25 place (not (is_astray (step s (atom (capital b ∷ word text)))))
        (demand 26 place (not (over s (atom (capital b ∷ word text))))
        (reading_from (place + suc (length (word text))) (spot (step s (atom (capital b ∷ word text))) []) (drop (length (word text)) text)))
    go true e =
        let all : is_astray (step s (atom (capital b ∷ word text))) ≡ true = any-atom s (capital b ∷ word text) (capital b ∷ []) ∙ e in
        rw (e, all)
    go false e =
        let all : is_astray (step s (atom (capital b ∷ word text))) ≡ false = any-atom s (capital b ∷ word text) (capital b ∷ []) ∙ e in
        let z : suc place + length (word text) ≡ place + suc (length (word text)) = omega arith in
        let on : reading_from (suc place) (spot s (capital b ∷ [])) text
        ≡ reading_from (place + suc (length (word text))) (spot (step s (atom (capital b ∷ word text))) []) (drop (length (word text)) text)
        = rest-of-atom (suc place) s (capital b) [] text e
        ∙ ap (λ p. reading_from p (spot (step s (atom (capital b ∷ word text))) []) (drop (length (word text)) text)) z in
        rw (e, all) (ap (demand 26 place (not (over s (atom (capital b ∷ word text))))) on)
