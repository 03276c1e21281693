-- Rows of outputs given from entries: eight rows from a byte of each word, one row behind the other.
use Rattle.std.specs.Prelude.{ℕ, ◌+◌, ◌-◌, ◌*◌, ◌/◌, ◌%◌, ◌^◌, ◌≤◌, ◌<◌, ◌≡◌, refl, get_or, take, drop, set}
use mathlib.Core.List.{List, [], ◌++◌, map}
use Rattle.std.proofs.Common.{sym, subst, subst₂, ◌∙◌, suc-mul, add-mul, mul-le-mul_right, add-one, arith, length-set, drop-drop, get_or-set_same, get_or-set_other}
use Rattle.std.proofs.Math.Path.{ap, ap₂}
use borrow.Rule.Slice.PartMut.{put_mid}
use Rattle.std.proofs.Math.ListN.{length, length-map}
use Rattle.meaning.specs.Values.{Val, un, code}
use Rattle.image.specs.Laid.{laid, laid-after}
use Rattle.image.specs.Slots.{Readable, values_at}
use Rattle.lanes.specs.Lanes.{Lane}
use Rattle.lanes.specs.Laning.{lane_byte}
use Rattle.lanes.specs.Entries.{Holds}
use Rattle.lanes.specs.Rows.{split}
use Rattle.lanes.specs.Giving.{Given}
use Rattle.run_rows.specs.Joined.{joined, length-of-joined}

-- The outputs of so many rows as bytes.
abbrev pub given : (ℕ → List Val) → ℕ → List ℕ
given values n = joined (λ r. map code (values r)) n

pub length-of-given : (values : ℕ → List Val) (outputs : ℕ) → ((r : ℕ) → length (values r) ≡ outputs) → (n : ℕ) → length (given values n) ≡ n * outputs
length-of-given values outputs many = length-of-joined (λ r. map code (values r)) outputs (λ r. length-map (values r) code ∙ many r)

-- A part put back is laid there.
pub put-laid : (out : List ℕ) (at k : ℕ) (xs : List ℕ) → length xs ≡ k → put_mid at k out xs ≡ laid out at xs
unfolding laid
put-laid out at k xs e =
    ap (λ (l : List ℕ). take at out ++ (xs ++ l)) (drop-drop k at out ∙ ap (λ (n : ℕ). drop (at + n) out) (sym e))

-- Up to eight rows stand in bytes of both rails.
pub record Group (count outputs at : ℕ) (low high : List ℕ) (size : ℕ) : Type 0 where
  pub values : ℕ → List Val
  pub many : (r : ℕ) → length (values r) ≡ outputs
  pub few : count ≤ 8
  pub low-long : outputs ≤ length low
  pub high-long : outputs ≤ length high
  pub lanes : (r : ℕ) → r < count → (j : ℕ) → j < outputs → Lane r (get_or low j 0) (get_or high j 0) (get_or (values r) j un)
  pub room : at + count * outputs ≤ size

module _ {count outputs at : ℕ} {low high : List ℕ} {size : ℕ} (g : Group count outputs at low high size) where
  abbrev pub row-given : (r : ℕ) → r < count → {n : ℕ} → n ≡ outputs → Given r low high n
  row-given r h {n} e =
      record {
        values = g.values r;
        count = g.many r ∙ sym e;
        low-long = omega (arith, g.low-long, e);
        high-long = omega (arith, g.high-long, e);
        lanes = λ j k. g.lanes r h j (omega (arith, e));
      }

  pub row_room : (r : ℕ) → r < count → at + r * outputs + outputs ≤ size
  row_room r h = omega (arith, g.room, suc-mul r outputs, mul-le-mul_right outputs h)

  -- One row more is given.
  pub row_more :
      (out₀ : List ℕ) → size ≡ length out₀
      → {out : List ℕ} {place end r : ℕ}
      → out ≡ laid out₀ at (given g.values r)
      → place ≡ at + r * outputs
      → end ≡ place + outputs
      → r < count
      → {row : List ℕ}
      → row ≡ map code (g.values r)
      → put_mid place (end - place) out row ≡ laid out₀ at (given g.values (r + 1))
  unfolding joined
  row_more out₀ same {out} {place} {end} {r} is here there h {row} e =
      let so_far = length-of-given g.values outputs g.many r in
      let long : length row ≡ outputs = ap length e ∙ length-map (g.values r) code ∙ g.many r in
      let at-end : place ≡ at + length (given g.values r) = omega (arith, here, so_far) in
      put-laid out place (end - place) row (omega (arith, long, there))
      ∙ ap₂ (λ (l : List ℕ) (p : ℕ). laid l p row) is at-end
      ∙ laid-after out₀ at (given g.values r) row (omega (arith, so_far, long, row_room r h, same))
      ∙ ap (λ (l : List ℕ). laid out₀ at (given g.values r ++ l)) e
      ∙ ap (λ (n : ℕ). laid out₀ at (given g.values n)) (sym (add-one r))

-- The bytes of a word of each output, from a place on: the first i are fetched.
pub record Fetched (word shift : ℕ) (outs : List (List ℕ)) (old new : List ℕ) (i : ℕ) : Type 0 where
  pub size : length new ≡ length old
  pub done : (j : ℕ) → j < i → get_or new j 0 ≡ get_or (get_or outs j []) word 0 / 2 ^ shift % 256

module _ {word shift : ℕ} {outs : List (List ℕ)} {old : List ℕ} where
  pub fetched-none : Fetched word shift outs old old 0
  fetched-none = record { size = refl; done = λ j h. absurd (omega arith) }

  pub fetched-more :
      {new : List ℕ} {i : ℕ}
      → Fetched word shift outs old new i
      → i < length new
      → {b : ℕ}
      → b ≡ get_or (get_or outs i []) word 0 / 2 ^ shift % 256
      → Fetched word shift outs old (set new i b) (i + 1)
  fetched-more {new} {i} f h {b} e =
      record {
        size = length-set new i b ∙ f.size;
        done = split i (get_or-set_same new i b 0 h ∙ e) (λ j k. get_or-set_other new i j b 0 (λ same. omega arith) ∙ f.done j k);
      }

pub record Fetchable (image : List ℕ) (from to word shift : ℕ) (entries : List (List ℕ)) (low high : List ℕ) : Type 0 where
  pub readable : Readable image from to 0 (length entries)
  pub one : word < 4
  pub place : shift < 64
  pub low-long : to - from ≤ length low
  pub high-long : to - from ≤ length high

-- Up to eight of the rows that stand in entries, from a row on whose number is a multiple of eight.
pub record Shown (image : List ℕ) (from to : ℕ) (entries : List (List ℕ)) (done some at size : ℕ) : Type 0 where
  pub readable : Readable image from to 0 (length entries)
  pub narrow : to - from ≤ 192
  pub even : done % 8 ≡ 0
  pub below : done < 256
  pub few : some ≤ 8
  pub room : at + some * (to - from) ≤ size
  pub values : ℕ → List Val
  pub many : (r : ℕ) → length (values r) ≡ to - from
  pub holds :
      (r : ℕ) → r < some → (j : ℕ) → j < to - from
      → Holds ((done + r) / 64) ((done + r) % 64) (get_or (values_at [] image from to 0 entries) j []) (get_or (values r) j un)

module _ {image : List ℕ} {from to : ℕ} {entries : List (List ℕ)} {done some at size : ℕ} (g : Shown image from to entries done some at size) where
  -- A row of the bytes is a row of the words,
  pub shown-lane :
      {low₀ low high₀ high : List ℕ}
      → Fetched (done / 64) (done % 64) (values_at [] image from to 0 entries) low₀ low (to - from)
      → Fetched (done / 64 + 4) (done % 64) (values_at [] image from to 0 entries) high₀ high (to - from)
      → (r : ℕ) → r < some → (j : ℕ) → j < to - from → Lane r (get_or low j 0) (get_or high j 0) (get_or (g.values r) j un)
  shown-lane l h r in_rows j in_nets =
      let word : (done + r) / 64 ≡ done / 64 = omega (arith, g.even, g.few) in
      let place : (done + r) % 64 ≡ done % 64 + r = omega (arith, g.even, g.few) in
      let other : 4 + done / 64 ≡ done / 64 + 4 = omega arith in
      let x = get_or (values_at [] image from to 0 entries) j [] in
      let held : Holds (done / 64) (done % 64 + r) x (get_or (g.values r) j un) =
      subst₂ (λ (q i : ℕ). Holds q i x (get_or (g.values r) j un)) word place (g.holds r in_rows j in_nets) in
      subst₂ (λ (a b : ℕ). Lane r a b (get_or (g.values r) j un)) (sym (l.done j in_nets)) (sym (h.done j in_nets))
      (lane_byte (done % 64) (get_or x (done / 64) 0) (get_or x (done / 64 + 4) 0) (omega (arith, g.few))
      (subst (λ (w : ℕ). Lane (done % 64 + r) (get_or x (done / 64) 0) (get_or x w 0) (get_or (g.values r) j un)) other held.lane))

  -- so that, fetched, they are a group.
  abbrev pub shown-group :
      {low₀ low high₀ high : List ℕ}
      → Fetched (done / 64) (done % 64) (values_at [] image from to 0 entries) low₀ low (to - from)
      → Fetched (done / 64 + 4) (done % 64) (values_at [] image from to 0 entries) high₀ high (to - from)
      → to - from ≤ length low₀
      → to - from ≤ length high₀
      → {outputs : ℕ}
      → outputs ≡ to - from
      → Group some outputs at low high size
  shown-group {low = low} {high = high} l h low-long high-long e =
      record {
        values = g.values;
        many = λ r. g.many r ∙ sym e;
        few = g.few;
        low-long = omega (arith, l.size, low-long, e);
        high-long = omega (arith, h.size, high-long, e);
        lanes = λ r in_rows j in_nets. shown-lane l h r in_rows j (omega (arith, e));
        room = omega (arith, g.room, ap (λ (n : ℕ). some * n) e);
      }

-- All rows of a block, up to 256.
pub record Giveable (image : List ℕ) (from to : ℕ) (entries : List (List ℕ)) (count at size : ℕ) : Type 0 where
  pub readable : Readable image from to 0 (length entries)
  pub narrow : to - from ≤ 192
  pub few : count ≤ 256
  pub room : at + count * (to - from) ≤ size
  pub values : ℕ → List Val
  pub many : (r : ℕ) → length (values r) ≡ to - from
  pub holds :
      (r : ℕ) → r < count → (j : ℕ) → j < to - from
      → Holds (r / 64) (r % 64) (get_or (values_at [] image from to 0 entries) j []) (get_or (values r) j un)

module _ {image : List ℕ} {from to : ℕ} {entries : List (List ℕ)} {count at size : ℕ} (g : Giveable image from to entries count at size) where
  pub rows-room : (a : ℕ) → a ≤ count → at + a * (to - from) ≤ size
  rows-room a h = omega (arith, g.room, mul-le-mul_right (to - from) h)

  abbrev pub turn-shown :
      {done some outputs size' : ℕ}
      → done % 8 ≡ 0
      → done < count
      → done + some ≤ count
      → some ≤ 8
      → outputs ≡ to - from
      → size' ≡ size
      → Shown image from to entries done some (at + done * outputs) size'
  turn-shown {done} {some} {outputs} even more upto few e same =
      record {
        readable = g.readable;
        narrow = g.narrow;
        even = even;
        below = omega (arith, g.few);
        few = few;
        room =
            omega
            (arith, rows-room (done + some) upto, add-mul done some (to - from), ap (λ (n : ℕ). done * n) e, same);
        values = λ r. g.values (done + r);
        many = λ r. g.many (done + r);
        holds = λ r h. g.holds (done + r) (omega arith);
      }
