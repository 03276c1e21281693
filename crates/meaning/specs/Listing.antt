-- The listing program's text (document 01, 'The listing program'): for each module in order one line of position, number, inputs,
-- outputs, gates, expanded size, room, delay, largest load and, last, the family's delay (document 02, M-108); where its scratch of 16,384
-- entries is too small, `position number refused 21`. A refused file gives one line, `refused NUMBER PLACE`; a file of no modules gives nothing. Lines end with a line feed.
use Rattle.std.specs.Prelude.{ℕ, zero, suc, ◌+◌, ◌/◌, ◌%◌, cond, List, [], ◌∷◌, ◌++◌, ltb}
use Rattle.meaning.specs.Syntax.{Module}
use Rattle.meaning.specs.Calls.{Decision, refusal, answer, on_file}
use Rattle.meaning.specs.Family.{Summary, summary}

abbrev pub space : ℕ
space = 32

abbrev pub line_feed : ℕ
line_feed = 10

-- A number in decimal, without leading zeros; here all numbers have at most twenty digits.
unfoldable pub decimal_within : (most n : ℕ) → List ℕ
decimal_within zero n = []
decimal_within (suc k) n = cond (ltb n 10) ((48 + n) ∷ []) (decimal_within k (n / 10) ++ ((48 + n % 10) ∷ []))

unfoldable pub decimal : ℕ → List ℕ
decimal n = decimal_within 20 n

-- Numbers with a space in front of each but the first.
unfoldable pub spaced : ℕ → List ℕ → List ℕ
spaced n [] = decimal n
spaced n (m ∷ ms) = decimal n ++ (space ∷ spaced m ms)

-- The word `refused`.
abbrev pub refused_word : List ℕ
refused_word = 114 ∷ 101 ∷ 102 ∷ 117 ∷ 115 ∷ 101 ∷ 100 ∷ []

-- What a line says of a module after its position and number.
abbrev pub figures_text : Decision Summary → List ℕ
figures_text (refusal number place) = refused_word ++ (space ∷ decimal number)
figures_text (answer s) =
    let f = s.figures in
    spaced f.inputs (f.outputs ∷ f.gates ∷ f.size ∷ f.room ∷ f.delay ∷ f.load ∷ s.family_delay ∷ [])

unfoldable pub line : (position number : ℕ) → Decision Summary → List ℕ
line position number figures = spaced position (number ∷ []) ++ (space ∷ (figures_text figures ++ (line_feed ∷ [])))

abbrev pub listing_scratch : ℕ
listing_scratch = 16384

unfoldable pub lines : (file family : List ℕ) → (position : ℕ) → List Module → List ℕ
lines file family position [] = []
lines file family position (m ∷ ms) =
    line position m.number (summary file m.number family listing_scratch) ++ lines file family (suc position) ms

abbrev pub listing_text : Decision (List ℕ) → List ℕ
listing_text (refusal number place) = refused_word ++ (space ∷ (spaced number (place ∷ []) ++ (line_feed ∷ [])))
listing_text (answer text) = text

unfoldable pub listing : (file family : List ℕ) → List ℕ
listing file family = listing_text (on_file file (λ ms. answer (lines file family 0 ms)))
