-- The gates' names are entered before all others.
use Rattle.std.specs.Prelude.{ℕ, ◌+◌, ◌*◌, ◌-◌, ◌≤◌, ◌<◌, ◌≡◌, refl, Bool, true, false, not, ◌&&◌, List, [], ◌∷◌, eqb, leb, length, take, drop, get_or}
use Rattle.std.proofs.Common.{add-one, arith, sym, ◌∙◌, ap, take-suc, eqb-true, leb-true}
use Rattle.std.proofs.lemmas.Bool.{lt-leb}
use Rattle.laws.specs.Texts.Below.{all_below, below}
use Rattle.meaning.specs.ListForm.{capital}
use Rattle.meaning.specs.ListNumbers.{spelling, same_name, among, gate_names, entered}
use Rattle.laws.specs.Texts.Numbering.{same-name, entered-append}
use Rattle.text_names.specs.Tree.{root, word_at, own, Tree}
use Rattle.text_names.specs.Roots.{root_tree}
use Rattle.text_names.specs.Walking.{grown_by}
use Rattle.text_names.specs.Numbers.{numbers-fresh}
use Rattle.text_names.specs.Needs.{name_of, Numberable, Numbered}
use Rattle.text_reader.specs.Dict.{Dict, Named, none, some, named_so, numbers-root}

pub record Blank (tree : List ℕ) : Type 0 where
  pub zeros : (k : ℕ) → get_or tree k 0 ≡ 0
  pub room : 512 ≤ length tree

pub record Gated (tree tree' : List ℕ) (count : ℕ) : Type 0 where
  pub dict : Dict tree' 16 0 2 count gate_names []
  pub few : count ≤ 128

unfoldable pub gate_bytes : List ℕ
gate_bytes = spelling "B-BUFB-NOTB-NANDB-NAND3B-NAND4B-ORB-OR3B-OR4B-EQVB-XORB-ANDB-AND3B-AND4B-NORB-NOR3B-NOR4"

unfoldable pub gate_starts : List ℕ
gate_starts = 0 ∷ 5 ∷ 10 ∷ 16 ∷ 23 ∷ 30 ∷ 34 ∷ 39 ∷ 44 ∷ 49 ∷ 54 ∷ 59 ∷ 65 ∷ 71 ∷ 76 ∷ 82 ∷ 88 ∷ []

abbrev gate_at : ℕ → List ℕ
gate_at g = take (get_or gate_starts (g + 1) 0 - get_or gate_starts g 0) (drop (get_or gate_starts g 0) gate_bytes)

gate-name : (g : ℕ) → g < 16 → name_of (gate_at g) ≡ get_or gate_names g []
unfolding all_below gate_bytes gate_starts gate_names spelling same_name capital
gate-name g l =
    same-name (name_of (gate_at g)) (get_or gate_names g [])
    (below 16 (λ g. same_name (name_of (gate_at g)) (get_or gate_names g [])) refl g l)

-- The names so far are as many as were entered, and none is longer than seven letters.
gates-many : (g : ℕ) → g < 17 → length (entered [] (take g gate_names)) ≡ g
unfolding all_below gate_names spelling same_name entered among
gates-many g l =
    eqb-true (length (entered [] (take g gate_names))) g
    (below 17 (λ g. eqb (length (entered [] (take g gate_names))) g) refl g l)

gate-short : (g : ℕ) → g < 16 → length (gate_at g) ≤ 7
unfolding all_below gate_bytes gate_starts spelling
gate-short g l = leb-true (length (gate_at g)) 7 (below 16 (λ g. leb (length (gate_at g)) 7) refl g l)

pub starts_order : (g : ℕ) → g < 16 → get_or gate_starts g 0 ≤ get_or gate_starts (g + 1) 0
unfolding all_below gate_starts
starts_order g l = leb-true (get_or gate_starts g 0) (get_or gate_starts (g + 1) 0) (below 16 (λ g. leb (get_or gate_starts g 0) (get_or gate_starts (g + 1) 0)) refl g l)

pub starts_within : (g : ℕ) → g < 16 → get_or gate_starts (g + 1) 0 ≤ 88
unfolding all_below gate_starts
starts_within g l = leb-true (get_or gate_starts (g + 1) 0) 88 (below 16 (λ g. leb (get_or gate_starts (g + 1) 0) 88) refl g l)

sixteen : length gate_names ≡ 16
unfolding gate_names
sixteen = refl

all-entered : entered [] (take 16 gate_names) ≡ gate_names
unfolding gate_names spelling same_name entered among
all-entered = refl

-- Three roots in a tree of zeros.
module _ (tree : List ℕ) (b : Blank tree) where
  zero_tree : Tree tree (root 0 ∷ [])
  zero_tree =
      record {
        some = omega arith;
        front = refl;
        one = λ i j l m e. omega arith;
        rise = λ i l. let z : i ≡ 0 = omega arith in rw z (own refl);
        roots = λ i l. let z : i ≡ 0 = omega arith in rw z (omega arith);
        first = λ i l.
            let z : i ≡ 0 = omega arith in
            rw (b.zeros (4 * i))
            (record { below = omega arith; is = λ p. absurd (omega arith); all = λ k c h e. omega arith });
        next = λ i w c l e.
            let z : i ≡ 0 = omega arith in
            let both : _ = ap (word_at (root 0 ∷ [])) (sym z) ∙ e in
            absurd (let o : ◌≡◌ {A = ℕ} 0 1 = cc in omega arith);
        unled = λ i l. b.zeros (4 * i);
        unnumbered = λ i l. b.zeros (4 * i + 3);
      }

  one_tree : Tree tree (root 0 ∷ root 1 ∷ [])
  one_tree = root_tree tree (root 0 ∷ []) zero_tree

  first-dict : Dict tree 0 0 2 3 [] []
  first-dict =
      record {
        book = record { nodes = root 0 ∷ root 1 ∷ root 2 ∷ []; counted = refl; holds = root_tree tree (root 0 ∷ root 1 ∷ []) one_tree };
        first = record { within = omega arith; is = refl };
        second = record { within = omega arith; is = refl };
        apart = λ z. omega arith;
        named = numbers-root tree (root 0 ∷ root 1 ∷ []) one_tree 1 [] (numbers-fresh tree (root 0 ∷ []) zero_tree);
        netted = numbers-fresh tree (root 0 ∷ root 1 ∷ []) one_tree;
        names-are = refl;
        nets-are = refl;
        names-most = omega arith;
        nets-most = omega arith;
      }

pub record Gating (tree tree' : List ℕ) (count g : ℕ) : Type 0 where
  pub few : g ≤ 16
  pub dict : Dict tree' g 0 2 count (entered [] (take g gate_names)) []
  pub most : count ≤ 3 + 7 * g
  pub same : length tree' ≡ length tree

pub gating_first : (tree : List ℕ) → Blank tree → Gating tree tree 3 0
unfolding entered
gating_first tree b = record { few = omega arith; dict = first-dict tree b; most = omega arith; same = refl }

pub gating_need : (tree tree' : List ℕ) (count g : ℕ) (name : List ℕ) → Blank tree → g < 16 → name ≡ gate_at g → Gating tree tree' count g
    → Numberable name tree' 1 g count
gating_need tree tree' count g name b l e s =
    let short : length (gate_at g) ≤ 7 = gate-short g l in
    let long : length name ≡ length (gate_at g) = ap length e in
    let most : count ≤ 3 + 7 * g = s.most in
    let same : length tree' ≡ length tree = s.same in
    let room : 512 ≤ length tree = b.room in
    record { book = s.dict.book; rooted = s.dict.first; room = omega arith; few = omega arith; most = omega arith }

pub gating_next : (tree tree' : List ℕ) (count g : ℕ) (name tree'' : List ℕ) (count'' number : ℕ) → g < 16 → name ≡ gate_at g
    → length tree'' ≡ length tree' → Numbered name tree' 1 g count tree'' count'' number
    → Gating tree tree' count g → Gating tree tree'' count'' (g + 1)
gating_next tree tree' count g name tree'' count'' number l e long n s =
    let short : length (gate_at g) ≤ 7 = gate-short g l in
    let size : length name ≡ length (gate_at g) = ap length e in
    let most : count ≤ 3 + 7 * g = s.most in
    let grown : count'' ≤ count + length name = n.most in
    record { few = omega arith; dict = go (named_so name tree' g 0 2 count (entered [] (take g gate_names)) [] s.dict tree'' count'' number n); most = omega arith; same = long ∙ s.same }
  where
    more : entered (entered [] (take g gate_names)) (name_of name ∷ []) ≡ entered [] (take (g + 1) gate_names)
    more =
        ap (λ a. entered (entered [] (take g gate_names)) (a ∷ [])) (ap name_of e ∙ gate-name g l)
        ∙ sym (entered-append [] (take g gate_names) (get_or gate_names g [] ∷ []))
        ∙ ap (entered []) (sym (take-suc gate_names g [] (let sx : _ = sixteen in omega arith)) ∙ ap (λ k. take k gate_names) (sym (add-one g)))

    not_full : (t : Bool) → leb 16384 (length (entered [] (take g gate_names))) ≡ false
        → (not t && leb 16384 (length (entered [] (take g gate_names)))) ≡ true → ⊥
    not_full true f h = let z : ◌≡◌ {A = ℕ} 0 1 = cc in omega arith
    not_full false f h = let z : ◌≡◌ {A = ℕ} 0 1 = cc in omega arith

    go : Named name tree' g 0 2 count (entered [] (take g gate_names)) [] s.dict tree'' count'' number
        → Dict tree'' (g + 1) 0 2 count'' (entered [] (take (g + 1) gate_names)) []
    go (none z left) =
        let known : length (entered [] (take g gate_names)) ≡ g = gates-many g (omega arith) in
        absurd (not_full (among (name_of name) (entered [] (take g gate_names))) (lt-leb 16384 (length (entered [] (take g gate_names))) (omega arith)) left)
    go (some small left is d) =
        let long : length (entered (entered [] (take g gate_names)) (name_of name ∷ [])) ≡ grown_by g number = d.names-are in
        let many : length (entered [] (take (g + 1) gate_names)) ≡ g + 1 = gates-many (g + 1) (omega arith) in
        let names : grown_by g number ≡ g + 1 = sym long ∙ ap length more ∙ many in
        rw (more, names) at d

pub gating_last : (tree tree' : List ℕ) (count g : ℕ) → 16 ≤ g → Gating tree tree' count g → Gated tree tree' count
gating_last tree tree' count g l s =
    let few : g ≤ 16 = s.few in
    let is : g ≡ 16 = omega arith in
    let most : count ≤ 3 + 7 * g = s.most in
    record { dict = rw all-entered at (rw is at s.dict); few = omega arith }

-- As the code cuts the names.
pub bytes-long : (names : List ℕ) → names ≡ gate_bytes → length names ≡ 88
unfolding gate_bytes spelling
bytes-long names e = ap length e

pub cut-gate : (names : List ℕ) (g : ℕ) → names ≡ gate_bytes
    → take (get_or gate_starts (g + 1) 0 - get_or gate_starts g 0) (drop (get_or gate_starts g 0) names)
    ≡ take (get_or gate_starts (g + 1) 0 - get_or gate_starts g 0) (drop (get_or gate_starts g 0) gate_bytes)
cut-gate names g e = ap (λ l. take (get_or gate_starts (g + 1) 0 - get_or gate_starts g 0) (drop (get_or gate_starts g 0) l)) e
