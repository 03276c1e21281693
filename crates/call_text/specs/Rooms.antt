-- The lists that the call makes, and 33.
use Rattle.std.specs.Prelude.{Result, Err, min, ℕ, ◌+◌, ◌*◌, ◌≤◌, ◌<◌, ◌≡◌, refl, List, length, get_or, replicate}
use Rattle.std.proofs.Common.{arith, le-leb}
use Rattle.std.proofs.lemmas.List.{length-replicate}
use Rattle.std.proofs.lemmas.Bool.{lt-leb}
use Rattle.meaning.specs.ListCall.{list_reading}
use Rattle.answers.specs.Answers.{Answers}
use Rattle.image.specs.Entries.{all_alike}
use Rattle.refusals.specs.Refused.{refusal_at}
use Rattle.refusals.specs.declared.Refusal.{Refusal}
use Rattle.text_reader.specs.Reading.{Readable, Reads}
use Rattle.text_file.specs.Filing.{Ready, after_reading}

-- A text and a list for its numbers, where the tree has so many entries.
pub record InTree (text numbers : List ℕ) (tree : ℕ) : Type 0 where
  pub most : length text ≤ 262144
  pub room : 2 * length text + 2 ≤ length numbers
  pub tree_room : 4 * (length text + 128) ≤ tree
  pub tree-most : tree ≤ 1049088

-- Lists for short texts, for longer ones and for all.
pub record Short (text numbers : List ℕ) : Type 0 where
  pub most : length text ≤ 2048
  pub room : 2 * length text + 2 ≤ length numbers

pub record Middle (text numbers : List ℕ) : Type 0 where
  pub most : length text ≤ 32768
  pub room : 2 * length text + 2 ≤ length numbers

pub record Long (text numbers : List ℕ) : Type 0 where
  pub most : length text ≤ 262144
  pub room : 2 * length text + 2 ≤ length numbers

-- A text, where the three lists have so many entries.
pub record InLists (text : List ℕ) (tree numbers bytes : ℕ) : Type 0 where
  pub most : length text ≤ 262144
  pub tree_room : 4 * (length text + 128) ≤ tree
  pub tree-most : tree ≤ 1049088
  pub room : 2 * length text + 2 ≤ numbers
  pub few : numbers ≤ 524290
  pub bytes-room : min (2 * numbers) 65535 ≤ bytes
  pub bytes-most : bytes ≤ 65535

-- 33, and then the rest.
pub over-long : (text : List ℕ) → 262144 < length text → (out : ℕ) (before : List ℕ) → Answers (list_reading text out) before before (Err (refusal_at 33 0))
unfolding list_reading
over-long text l out before = rw (lt-leb (length text) 262144 l) (record { is = refl; out = refl })

pub not_long : (text : List ℕ) → length text ≤ 262144 → (out : ℕ) (before after : List ℕ) (r : Result ℕ Refusal) → Answers (after_reading text out) before after r
    → Answers (list_reading text out) before after r
unfolding list_reading
not_long text l out before after r a = rw (le-leb (length text) 262144 l) a

-- A tree of zeros.
zeros : (n k : ℕ) → get_or {A = ℕ} (replicate n 0) k 0 ≡ 0
zeros n k = all_alike n k 0

pub readable : (text numbers : List ℕ) (n : ℕ) → length text ≤ 262144 → 2 * length text + 2 ≤ length numbers → 4 * (length text + 128) ≤ n
    → Readable text numbers (replicate n 0)
readable text numbers n l room tree =
    let long : length (replicate {A = ℕ} n 0) ≡ n = length-replicate n 0 in
    record { blank = zeros n; numbers-room = room; tree_room = omega arith; text-most = l }

-- The list for the numbers, said for any length, so that none is written out.
pub in_tree : {text : List ℕ} {tree numbers bytes : ℕ} → InLists text tree numbers bytes → InTree text (replicate numbers 0) tree
in_tree {text} {tree} {numbers} {bytes} h =
    let long : length (replicate {A = ℕ} numbers 0) ≡ numbers = length-replicate numbers 0 in
    let room : 2 * length text + 2 ≤ numbers = h.room in
    record { most = h.most; room = omega arith; tree_room = h.tree_room; tree-most = h.tree-most }

ready_of : (text numbers : List ℕ) (r : Result ℕ Refusal) (n m : ℕ) → Reads text numbers r → length numbers ≡ length (replicate {A = ℕ} n 0) → n < 4194304
    → min (2 * n) 65535 ≤ m → Ready text r numbers (replicate m 0)
ready_of text numbers r n m h e l w =
    let long : length (replicate {A = ℕ} n 0) ≡ n = length-replicate n 0 in
    let wide : length (replicate {A = ℕ} m 0) ≡ m = length-replicate m 0 in
    record { reads = h; room = omega arith; few = omega arith }

pub ready : {text : List ℕ} {tree n bytes : ℕ} {numbers : List ℕ} {r : Result ℕ Refusal} → InLists text tree n bytes → Reads text numbers r
    → length numbers ≡ length (replicate {A = ℕ} n 0) → Ready text r numbers (replicate bytes 0)
ready {text} {tree} {n} {bytes} {numbers} {r} h reads e =
    let few : n ≤ 524290 = h.few in
    ready_of text numbers r n bytes reads e (omega arith) h.bytes-room

-- The longer lists, said for any length too.
middle_of : (text : List ℕ) (n : ℕ) → length text ≤ 32768 → 65538 ≤ n → Middle text (replicate n 0)
middle_of text n l m =
    let long : length (replicate {A = ℕ} n 0) ≡ n = length-replicate n 0 in
    record { most = l; room = omega arith }

long_of : (text : List ℕ) (n : ℕ) → length text ≤ 262144 → 524290 ≤ n → Long text (replicate n 0)
long_of text n l m =
    let long : length (replicate {A = ℕ} n 0) ≡ n = length-replicate n 0 in
    record { most = l; room = omega arith }

same-few : 65538 ≤ 65538
same-few = omega arith

fewer-numbers : 65538 < 4194304
fewer-numbers = omega arith

same-many : 524290 ≤ 524290
same-many = omega arith

few-numbers : 524290 < 4194304
few-numbers = omega arith

all-bytes : (n : ℕ) → min n 65535 ≤ 65535
all-bytes n = omega arith

pub long-numbers : (text : List ℕ) → length text ≤ 262144 → Long text (replicate 524290 0)
long-numbers text l = long_of text 524290 l same-many

pub middle-numbers : (text : List ℕ) → length text ≤ 32768 → Middle text (replicate 65538 0)
middle-numbers text l = middle_of text 65538 l same-few

pub ready-middle : (text numbers : List ℕ) (r : Result ℕ Refusal) → Reads text numbers r → length numbers ≡ length (replicate {A = ℕ} 65538 0)
    → Ready text r numbers (replicate 65535 0)
ready-middle text numbers r h e = ready_of text numbers r 65538 65535 h e fewer-numbers (all-bytes (2 * 65538))

pub ready-long : (text numbers : List ℕ) (r : Result ℕ Refusal) → Reads text numbers r → length numbers ≡ length (replicate {A = ℕ} 524290 0)
    → Ready text r numbers (replicate 65535 0)
ready-long text numbers r h e = ready_of text numbers r 524290 65535 h e few-numbers (all-bytes (2 * 524290))
