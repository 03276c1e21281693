-- What an answer to a sequence tells, over the call: entry s is the number of words whose shelf is s, the entries add up to the number of
-- words, and a sequence that is shorter than the word has none.
use Rattle.std.specs.Prelude.{ℕ, ◌+◌, ◌-◌, ◌≤◌, ◌<◌, ◌≡◌, refl, List, [], ◌∷◌, map, eqb, leb, length, get_or, replicate}
use Rattle.std.proofs.Common.{sym, ap, ◌∙◌, arith, leb-true}
use Rattle.std.proofs.lemmas.List.{length-map}
use Rattle.meaning.specs.Lists.{All, none, more}
use Rattle.meaning.specs.Adder.{up_from}
use Rattle.meaning.specs.Calls.{answer}
use Rattle.laws.specs.Calls.{demand-met, same_answer}
use Rattle.laws.specs.Figures.Tally.{total}
use Rattle.meaning.specs.Filing.{first_other, shelf_of, word_count, words_of, how_many, shelf_count, table_of, most_bases, most_sequence, Filed, filed_from, filing_sequence}
use Rattle.laws.specs.Filing.Words.{shelf-most}
use Rattle.laws.specs.Filing.Sequences.{how_many-words, none_in_shorter}
use Rattle.laws.specs.Filing.Tables.{entry-of-table, table-adds_up}
use Rattle.laws.specs.Filing.Counting.{Short, words-short}

shelves_inside : (words : List (List ℕ)) → All Short words → All (λ s. s < shelf_count) (map shelf_of words)
shelves_inside [] none = none
shelves_inside (word ∷ words) (more few rest) =
    let inside : shelf_of word < shelf_count = omega (arith, shelf-most word few) in
    more inside (shelves_inside words rest)

words-of-short : (n : ℕ) (sequence : List ℕ) → n ≤ most_bases → All Short (words_of n sequence)
unfolding words_of
words-of-short n sequence few = words-short (word_count n (length sequence)) n sequence few

none-counted : table_of [] ≡ replicate shelf_count 0
unfolding table_of how_many up_from
none-counted = refl

module _ (sequence : List ℕ) (n table : ℕ) (f : Filed) (answered : filing_sequence sequence n table ≡ answer f) where
  only-filed : (n ≤ most_bases) × (f ≡ filed_from n sequence)
  unfolding filing_sequence
  only-filed =
      let some = demand-met 30 0 (leb 1 n) answered in
      let few = demand-met 30 0 (leb n most_bases) some.answered in
      let short = demand-met 32 0 (leb (length sequence) most_sequence) few.answered in
      let whole = demand-met 34 0 (eqb table shelf_count) short.answered in
      let bases = demand-met 31 (first_other sequence) (eqb (first_other sequence) (length sequence)) whole.answered in
      (leb-true n most_bases few.met, same_answer (sym bases.answered))

  pub entry-counts-words : (s : ℕ) → s < shelf_count → get_or f.table s 0 ≡ how_many s (map shelf_of (words_of n sequence))
  entry-counts-words s inside =
      ap (λ (g : Filed). get_or g.table s 0) only-filed.1 ∙ entry-of-table (map shelf_of (words_of n sequence)) s inside

  pub counts-add_up : total f.table ≡ f.words
  counts-add_up =
      ap (λ (g : Filed). total g.table) only-filed.1
      ∙ table-adds_up (map shelf_of (words_of n sequence)) (shelves_inside (words_of n sequence) (words-of-short n sequence only-filed.0))
      ∙ length-map (words_of n sequence) shelf_of
      ∙ sym (ap (λ (g : Filed). g.words) only-filed.1)

  pub words-counted : f.words ≡ length sequence + 1 - n
  words-counted = ap (λ (g : Filed). g.words) only-filed.1 ∙ how_many-words n sequence

  pub shorter_is-empty : length sequence < n → (f.words ≡ 0) × (f.table ≡ replicate shelf_count 0)
  shorter_is-empty short =
      let no_words = none_in_shorter n sequence short in (
        ap (λ (g : Filed). g.words) only-filed.1 ∙ ap length no_words,
        ap (λ (g : Filed). g.table) only-filed.1 ∙ ap (λ (l : List (List ℕ)). table_of (map shelf_of l)) no_words ∙ none-counted,
      )
