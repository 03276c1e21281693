-- A record at the front of a buffer: one base more, with room for it or without; and a front that is as good as the whole record.
use Rattle.std.proofs.Common.{◌≡◌, ℕ, ◌+◌, ◌<◌, ◌≤◌, Bool, true, false, leb, List, [], ◌∷◌, ◌++◌, length, take, set, sym, refl, ap, ◌∙◌, ap₂, add-one, arith, length-append, length-set, length-take, length-take-le, take_all, take-suc-set, leb-false, leb-true}
use borrow.Author.Tests.{lt-leb}
use lib.Seq.{take-append-le}
use Rattle.meaning.specs.Filing.{filing_sequence}
use Rattle.fasta.specs.Sums.{Total, counted, refused, Sums, after_record, filed_behind}
use Rattle.fasta.specs.Steps.{Front}

module _ (bases buffer : List ℕ) (b filled : ℕ) (f : Front bases buffer filled) where
  -- The buffer is full, and the record as long at least.
  pub front-full : filled ≡ length buffer → Front (bases ++ (b ∷ [])) buffer filled
  front-full full =
      let same : take (length buffer) (bases ++ (b ∷ [])) ≡ take (length buffer) bases =
      take-append-le (length buffer) bases (b ∷ []) (omega (arith, f.count, length-take (length buffer) bases)) in
      record { stands = f.stands ∙ sym same; count = f.count ∙ ap length (sym same) }

  pub front-more : filled < length buffer → Front (bases ++ (b ∷ [])) (set buffer filled b) (filled + 1)
  front-more room =
      let all : length bases ≡ filled = omega (arith, f.count, length-take (length buffer) bases) in
      let is : take filled buffer ≡ bases = f.stands ∙ take_all (length buffer) bases (omega arith) in
      let long : length (bases ++ (b ∷ [])) ≡ filled + 1 = length-append bases (b ∷ []) ∙ omega arith in
      let kept : take (length (set buffer filled b)) (bases ++ (b ∷ [])) ≡ bases ++ (b ∷ []) =
      take_all (length (set buffer filled b)) (bases ++ (b ∷ [])) (omega (arith, length-set buffer filled b)) in
      record {
        stands =
            ap (λ (k : ℕ). take k (set buffer filled b)) (add-one filled)
            ∙ take-suc-set buffer filled b room
            ∙ ap (λ (l : List ℕ). l ++ (b ∷ [])) is
            ∙ sym kept;
        count = sym (ap length kept ∙ long);
      }

-- Two sequences that are both too long are refused alike.
both-over : (n : ℕ) (xs ys : List ℕ) → 65535 < length xs → 65535 < length ys → filing_sequence xs n 33 ≡ filing_sequence ys n 33
unfolding filing_sequence
both-over n xs ys h g = rw (lt-leb (length xs) 65535 h, lt-leb (length ys) 65535 g)

filed-alike : (n : ℕ) (xs ys : List ℕ) (s : Sums) → filing_sequence xs n 33 ≡ filing_sequence ys n 33 → after_record n xs s ≡ after_record n ys s
unfolding after_record
filed-alike n xs ys s e = go s.total
  where
    go : (t : Total) → filed_behind n xs t s.table ≡ filed_behind n ys t s.table
    go (counted records words) = rw e
    go (refused number place before) = refl

-- So much of a record as a buffer holds comes to what the whole comes to.
pub front-enough : (n room : ℕ) (bases : List ℕ) (s : Sums) → 65536 ≤ room → after_record n (take room bases) s ≡ after_record n bases s
front-enough n room bases s roomy = go (leb (length bases) room) refl
  where
    go : (b : Bool) → leb (length bases) room ≡ b → after_record n (take room bases) s ≡ after_record n bases s
    go true e = ap (λ (l : List ℕ). after_record n l s) (take_all room bases (leb-true (length bases) room e))
    go false e =
        let over : room < length bases = leb-false (length bases) room e in
        filed-alike n (take room bases) bases s
        (both-over n (take room bases) bases (omega (arith, length-take-le room bases (omega arith))) (omega arith))
