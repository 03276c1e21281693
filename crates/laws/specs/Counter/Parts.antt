-- Module 32, run on any values: part after part, from the low end, what stands so far answers the count over its bits.
use Rattle.std.specs.Prelude.{ℕ, suc, ◌+◌, ◌*◌, ◌^◌, ◌≤◌, ◌≡◌, Bool, true, false, List, [], ◌∷◌, ◌++◌, length, take, drop}
use Rattle.std.proofs.Common.{◌∙◌, append_assoc, append-nil, add-zero, add-suc, suc-add, arith, length-take, length-drop, take-append-drop}
use Rattle.meaning.specs.Evaluation.{Env, Meaning, walk}
use Rattle.meaning.specs.Adder.{binary}
use Rattle.meaning.specs.Counter.{choose, join_parts, last_count}
use Rattle.laws.specs.Counter.Nets.{before, Holds, holds_at, holds-left, holds-right, holds_kept, walk-append}
use Rattle.laws.specs.Counter.Digits.{worth-none, worth_0, worth_1, HighestOne, done, digit_0, digit_1}
use Rattle.laws.specs.Counter.Law.{Law, single}
use Rattle.laws.specs.Counter.Blocks.{MeansBlock}
use Rattle.laws.specs.Counter.Part.{Stands, after_part, keeps-part, part}

module _ {A : Type 0} (none : A) {gate_result : ℕ → List A → A} (law : Law gate_result) where
  -- What stands once the parts from a level on have run.
  pub record After (later : Meaning A) (n j bits count below : ℕ) (ds : List Bool) (vs : List A) (env : Env A) : Type 0 where
    pub stands : Stands none law n (last_count j count below ds) vs (walk none (single gate_result) later (join_parts j bits count below ds) env)

  after_none : {later : Meaning A} {n j bits count below : ℕ} {vs : List A} {env : Env A} → Stands none law n below vs env
      → After later n j bits count below [] vs env
  unfolding last_count join_parts walk
  after_none stands = record { stands = stands }

  after_0 : {later : Meaning A} {n j bits count below : ℕ} {ds : List Bool} {vs : List A} {env : Env A}
      → After later n (suc j) bits count below ds vs env → After later n j bits count below (false ∷ ds) vs env
  unfolding last_count join_parts
  after_0 after = record { stands = after.stands }

  after_1 : {later : Meaning A} {n : ℕ} (j bits count below : ℕ) {ds : List Bool} {vs : List A} {env : Env A}
      → After later n (suc j) (bits + 2 ^ j) (suc j) (below + count + count + count) ds vs (after_part none law later j bits count below env)
      → After later n j bits count below (true ∷ ds) vs env
  unfolding last_count join_parts walk
  after_1 {later} j bits count below after =
      let high = below + count in
      let ands = high + count in
      let ors = ands + count in
      record { stands = rw (walk-append none (single gate_result) later (choose (ors + j) high below ands ors count)) after.stands }

  -- A digit 1 takes the next bits as a part, and leaves the others where they are.
  record Next (later : Meaning A) (j bits count below : ℕ) (lows xs : List A) (env : Env A) : Type 0 where
    held : Holds none (after_part none law later j bits count below env) (bits + 2 ^ j) (drop (2 ^ j) xs)
    stands : Stands none law (suc j) (below + count + count + count) (lows ++ take (2 ^ j) xs) (after_part none law later j bits count below env)

  next : (later : Meaning A) (j bits count below : ℕ) (lows xs : List A) (env : Env A) → MeansBlock none law later j → count ≤ j
      → 2 ^ j ≤ length xs → Holds none env bits xs → bits + length xs ≤ below → Stands none law count below lows env
      → Next later j bits count below lows xs env
  next later j bits count below lows xs env means short enough held fits stands =
      let ys = take (2 ^ j) xs in
      let zs = drop (2 ^ j) xs in
      let size : length ys ≡ 2 ^ j = omega (arith, length-take (2 ^ j) xs) in
      let both : Holds none env bits (ys ++ zs) = rw (take-append-drop (2 ^ j) xs) held in
      let low = holds-left ys zs both in
      record {
        held =
            holds_kept (keeps-part none law later j bits count below lows ys env means size short low)
            (before (omega (arith, length-drop (2 ^ j) xs)))
            (holds_at (omega arith) (holds-right ys zs both));
        stands = part none law later j bits count below lows ys env means size short low stands;
      }

  -- The counter over all bits, from what the parts from the next level on make of the bits that are left.
  with_0 : (later : Meaning A) (j bits count below : ℕ) (ds : List Bool) (vs : List A) (env : Env A)
      → After later (suc j + length ds) (suc j) bits count below ds vs env
      → After later (j + suc (length ds)) j bits count below (false ∷ ds) vs env
  with_0 later j bits count below ds vs env above = rw (add-suc j (length ds), ← suc-add j (length ds)) (after_0 above)

  with_1 : (later : Meaning A) (j bits count below : ℕ) (ds : List Bool) (lows xs : List A) (env : Env A) → MeansBlock none law later j
      → count ≤ j → 2 ^ j ≤ length xs → Holds none env bits xs → bits + length xs ≤ below → Stands none law count below lows env
      → (Next later j bits count below lows xs env
      → After later (suc j + length ds) (suc j) (bits + 2 ^ j) (suc j) (below + count + count + count) ds
      (lows ++ take (2 ^ j) xs ++ drop (2 ^ j) xs) (after_part none law later j bits count below env))
      → After later (j + suc (length ds)) j bits count below (true ∷ ds) (lows ++ xs) env
  with_1 later j bits count below ds lows xs env means short enough held fits stands above =
      rw (add-suc j (length ds), ← suc-add j (length ds))
      (after_1 j bits count below
      (rw (append_assoc lows (take (2 ^ j) xs) (drop (2 ^ j) xs), take-append-drop (2 ^ j) xs) at
      (above (next later j bits count below lows xs env means short enough held fits stands))))

  pub parts : (later : Meaning A) (k : ℕ) → ((j : ℕ) → j ≤ k → MeansBlock none law later j)
      → {count j : ℕ} {ds : List Bool} → HighestOne count j ds → (bits below : ℕ) (lows xs : List A) (env : Env A)
      → j + length ds ≤ suc k → count ≤ j → length xs ≡ 2 ^ j * binary ds → Holds none env bits xs → bits + length xs ≤ below
      → Stands none law count below lows env → After later (j + length ds) j bits count below ds (lows ++ xs) env
  parts later k means (done {j = j}) bits below lows [] env levels short size held fits stands =
      rw (append-nil lows, add-zero j) (after_none stands)
  parts later k means (done {j = j}) bits below lows (x ∷ xs) env levels short size held fits stands =
      absurd (omega (arith, worth-none j))
  parts later k means (digit_0 {count = count} {j = j} {ds = ds} highest) bits below lows xs env levels short size held fits stands =
      with_0 later j bits count below ds (lows ++ xs) env
      (parts later k means highest bits below lows xs env (omega arith) (omega arith) (size ∙ worth_0 j ds) held fits stands)
  parts later k means (digit_1 {count = count} {j = j} {ds = ds} highest) bits below lows xs env levels short size held fits stands =
      with_1 later j bits count below ds lows xs env (means j (omega arith)) short (omega (arith, worth_1 j ds)) held fits stands
      (λ n. parts later k means highest (bits + 2 ^ j) (below + count + count + count) (lows ++ take (2 ^ j) xs) (drop (2 ^ j) xs)
      (after_part none law later j bits count below env) (omega arith) (omega arith) (omega (arith, worth_1 j ds, length-drop (2 ^ j) xs))
      n.held (omega (arith, worth_1 j ds, length-drop (2 ^ j) xs)) n.stands)
