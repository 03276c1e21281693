-- How far the walk over a module's occurrences has come: what is placed so far and what is left to place make up what was planned.
use Prim.Native.Nat.{ℕ, ◌≤◌, zero-le}
use mathlib.Core.Path.{◌≡◌, refl, sym, ap, subst, ◌∙◌}
use mathlib.Core.List.{List, [], ◌∷◌}
use native.Mathlib.Omega.{arith}
use lib.ListN.{length, take}
use Rattle.meaning.specs.Syntax.{Occurrence}
use Rattle.meaning.specs.Limits.{driven, net_count}
use Rattle.meaning.specs.Flattening.{Board, Placed}
use Rattle.laws.specs.Written.{occurrence_bytes}
use Rattle.bytes_out.specs.Puts.{length-put}
use Rattle.image.specs.Walking.{Ahead}
use Rattle.flat_engine.specs.Placing.{walk_placed, place_frames}
use Rattle.flat_engine.specs.Growing.{Grows, board-grows, pieces_grow}
use Rattle.flat_bytes.specs.Gates.{Written}
use Rattle.flat_engine.specs.Plan.{Plan, Ready, Done, given, planned}
use Rattle.flat_bytes.specs.declared.pen.Pen.{Pen}

module _
    {p : Plan} {image starts nets : List ℕ} {k : ℕ} {pen₀ : Pen} {scratch₀ bytes₀ : List ℕ}
    (ready : Ready p image starts nets k pen₀ scratch₀ bytes₀)
  where
    pub record Progress (at left filled : ℕ) (scratch bytes : List ℕ) (pen : Pen) : Type 0 where
      pub rest : List Occurrence
      pub ahead : Ahead image p.m p.later at left filled rest
      pub size : length scratch ≡ length scratch₀
      pub board : Board
      pub written : Written p.around board pen bytes
      pub same : walk_placed (place_frames p.later) rest (take filled scratch) board ≡ planned p scratch₀

    -- Before the first occurrence.
    pub begin :
        {at left filled : ℕ} → Ahead image p.m p.later at left filled p.m.occurrences → Progress at left filled scratch₀ bytes₀ pen₀
    unfolding net_count
    begin {filled = filled} ahead =
        let inputs : filled ≡ length p.m.inputs = omega (arith, ahead.fits) in
        record {
          rest = p.m.occurrences;
          ahead = ahead;
          size = refl;
          board = p.board;
          written = ready.written;
          same = ap (λ (n : ℕ). walk_placed (place_frames p.later) p.m.occurrences (take n scratch₀) p.board) inputs;
        }

    -- The list that the gates are written to keeps its length, since all gates of a plan have places in it.
    written-long :
        {b : Board} {pen : Pen} {bytes : List ℕ}
        → Written p.around b pen bytes
        → Grows b (planned p scratch₀).board
        → length bytes ≡ length p.around
    written-long w grows =
        length-put w.put zero-le (omega (arith, w.put.place, ready.long, pieces_grow occurrence_bytes grows))

    pub long-before : length bytes₀ ≡ length p.around
    long-before = written-long ready.written (board-grows p.later p.m.occurrences (given p scratch₀) p.board)

    module _ {at left filled : ℕ} {scratch bytes : List ℕ} {pen : Pen} (g : Progress at left filled scratch bytes pen) where
      pub long-now : length bytes ≡ length p.around
      long-now =
          written-long g.written
          (subst (λ (q : Placed). Grows g.board q.board) g.same (board-grows p.later g.rest (take filled scratch) g.board))

      -- Behind the last occurrence.
      pub finish : left ≤ 0 → Done p scratch₀ scratch pen bytes
      unfolding walk_placed driven
      finish over = go g.rest refl
        where
          go : (l : List Occurrence) → g.rest ≡ l → Done p scratch₀ scratch pen bytes
          go (o ∷ rest) e = absurd (omega (arith, g.ahead.many, ap length e))
          go [] e =
              let all : net_count p.m ≡ filled = omega (arith, g.ahead.fits, ap (λ (os : List Occurrence). length (driven os)) e) in
              let same =
              sym (ap (λ (os : List Occurrence). walk_placed (place_frames p.later) os (take filled scratch) g.board) e) ∙ g.same in
              record {
                size = g.size;
                frame = ap (λ (n : ℕ). take n scratch) all ∙ ap (λ (q : Placed). q.nets) same;
                written = subst (λ (b : Board). Written p.around b pen bytes) (ap (λ (q : Placed). q.board) same) g.written;
              }

-- The walk of any plan that could be carried out at the start, from where all its occurrences are ahead.
abbrev pub Walking :
    (image starts nets : List ℕ) (k : ℕ) (pen₀ : Pen) (scratch₀ bytes₀ : List ℕ) (at₀ left₀ filled₀ at left filled : ℕ) (scratch bytes : List ℕ) (pen : Pen)
    → Type 0
Walking image starts nets k pen₀ scratch₀ bytes₀ at₀ left₀ filled₀ at left filled scratch bytes pen =
    (p : Plan)
    → (ready : Ready p image starts nets k pen₀ scratch₀ bytes₀)
    → Ahead image p.m p.later at₀ left₀ filled₀ p.m.occurrences
    → Progress ready at left filled scratch bytes pen
