-- The occurrences written one after the other: what is laid and what the occurrences ahead come to make the whole.
use Prim.Native.Nat.{ℕ, ◌+◌, ◌-◌, ◌≤◌, ◌<◌}
use mathlib.Core.Path.{◌≡◌, refl, sym, ap, subst, ◌∙◌}
use mathlib.Core.Bool.{true, false, true≢false}
use mathlib.Core.List.{List, [], ◌∷◌, ◌++◌}
use native.Mathlib.Omega.{arith}
use lib.ListN.{length, get_or, take, drop}
use Rattle.meaning.specs.Lists.{All, none, more}
use Rattle.meaning.specs.Syntax.{Occurrence}
use Rattle.meaning.specs.Layout.{each, occurrence_numbers}
use Rattle.meaning.specs.Withdrawn.{withdrawn, three_gates, rewrite_body}
use Rattle.laws.specs.Lists.{each_append, all-at}
use Rattle.laws.specs.Written.{occurrence_bytes}
use Rattle.laws.specs.Withdrawn.Kinds.{Four, four_is}
use Rattle.laws.specs.Withdrawn.Suits.{Suits, kept, replaced}
use Rattle.bytes_out.specs.Filled.{Put}
use Rattle.bytes_out.specs.Laying.{Laying, laying-start}
use Rattle.write_pieces.specs.Laying.{laying-room, laying-more, laying-all}
use Rattle.image.specs.Stands.{Stands, stands-head, stands-tail, stands-part}
use Rattle.image.specs.Pieces.{moved}
use Rattle.image.specs.declared.places.Place.{Place}
use Rattle.rewrite_bytes.specs.Used.{unused_from, Seekable, Found}
use Rattle.rewrite_bytes.specs.Bodies.{gate_of, gate_there, Replacing, Single, Writable, body_of}
use Rattle.rewrite_bytes.proofs.Marking.{Ahead, Turn, drives-stand}

-- One of the four gates comes next: its four arguments, and the two new nets.
pub record FourNext (used fresh : List ℕ) (o : Occurrence) (rest : List Occurrence) : Type 0 where
  pub x : ℕ
  pub y : ℕ
  pub others : List ℕ
  pub is : fresh ≡ x ∷ y ∷ others
  pub a : ℕ
  pub b : ℕ
  pub c : ℕ
  pub d : ℕ
  pub takes : o.takes ≡ a ∷ b ∷ c ∷ d ∷ []
  pub four : Four o.refers
  pub suits : Suits used others rest

four-next : {used fresh : List ℕ} {o : Occurrence} {rest : List Occurrence} → Suits used fresh (o ∷ rest) → withdrawn o.refers ≡ true → FourNext used fresh o rest
four-next (kept stays drives takes suits) e = absurd (true≢false (sym e ∙ stays))
four-next (replaced four drives takes suits) e =
    record { x = _; y = _; others = _; is = refl; a = _; b = _; c = _; d = _; takes = refl; four = four; suits = suits }

kept_next : {used fresh : List ℕ} {o : Occurrence} {rest : List Occurrence} → Suits used fresh (o ∷ rest) → withdrawn o.refers ≡ false → Suits used fresh rest
kept_next (kept stays drives takes suits) e = suits
kept_next (replaced four drives takes suits) e = absurd (true≢false (sym (four_is four).gone ∙ e))

all-next : {o : Occurrence} {rest : List Occurrence} → All Single (o ∷ rest) → Single o × All Single rest
all-next (more s rest) = (s, rest)

-- The bytes ahead, with the first occurrence apart.
kept-bytes :
    (fresh : List ℕ) (o : Occurrence) (rest : List Occurrence) → withdrawn o.refers ≡ false
    → each occurrence_bytes (rewrite_body fresh (o ∷ rest)) ≡ occurrence_bytes o ++ each occurrence_bytes (rewrite_body fresh rest)
unfolding rewrite_body each
kept-bytes fresh o rest stays = rw stays

four_bytes :
    (x y : ℕ) (others : List ℕ) (o : Occurrence) (rest : List Occurrence) → withdrawn o.refers ≡ true
    → each occurrence_bytes (rewrite_body (x ∷ y ∷ others) (o ∷ rest))
    ≡ each occurrence_bytes (three_gates x y o) ++ each occurrence_bytes (rewrite_body others rest)
unfolding rewrite_body
four_bytes x y others o rest gone = rw gone (each_append occurrence_bytes (three_gates x y o) (rewrite_body others rest))

-- The gate that is read is the occurrence.
one-net : (nets : List ℕ) (net : ℕ) → length nets ≡ 1 → {numbers : List ℕ} {at : ℕ} → Stands numbers at nets → get_or numbers at 0 ≡ net → net ∷ [] ≡ nets
one-net [] net e s is = absurd (omega arith)
one-net (x ∷ []) net e s is = ap (λ (n : ℕ). n ∷ []) (sym is ∙ stands-head s)
one-net (x ∷ y ∷ nets) net e s is = absurd (omega arith)

same-occurrence :
    (o : Occurrence) {drives takes : List ℕ} {refers : ℕ}
    → drives ≡ o.drives
    → refers ≡ o.refers
    → takes ≡ o.takes
    → ◌≡◌ {A = Occurrence} (record { drives = drives; refers = refers; takes = takes }) o
same-occurrence o e f g = rw (e, f, g)

pub record Sofar
    {numbers : List ℕ} {place count : ℕ} {table : List ℕ} {stamp : ℕ} (s : Writable numbers place count table stamp 0)
    (out₀ : List ℕ) (to at left from : ℕ) (out : List ℕ) (end : ℕ) : Type 0 where
  pub rest : List Occurrence
  pub ahead : Ahead numbers at left rest
  pub suits : Suits s.used (unused_from s.used from) rest
  pub single : All Single rest
  pub laying : Laying (body_of s) (each occurrence_bytes (rewrite_body (unused_from s.used from) rest)) out₀ to out end

module _
    {numbers : List ℕ} {place count : ℕ} {table : List ℕ} {stamp : ℕ} (s : Writable numbers place count table stamp 0) {out₀ : List ℕ} {to : ℕ}
  where
    pub none-put : to + length (body_of s) ≤ length out₀ → Sofar s out₀ to place count 0 out₀ to
    none-put room =
        record {
          rest = s.os;
          ahead = record { stands = s.stands; many = s.many };
          suits = s.suits;
          single = s.single;
          laying = laying-start room;
        }

    pub all-put : {at left from : ℕ} {out : List ℕ} {end : ℕ} → left ≡ 0 → Sofar s out₀ to at left from out end → Put (body_of s) out₀ to out end
    unfolding rewrite_body each
    all-put {from = from} over w = laying-all w.laying (go w.rest (omega (arith, w.ahead.many)))
      where
        go : (rest : List Occurrence) → length rest ≡ 0 → each occurrence_bytes (rewrite_body (unused_from s.used from) rest) ≡ []
        go [] e = refl
        go (o ∷ os) e = absurd (omega arith)

    module _
        {at left from : ℕ} {out : List ℕ} {end : ℕ} (w : Sofar s out₀ to at left from out end) {p : Place}
        (t : Turn numbers at left w.rest p)
      where
        suits-here : Suits s.used (unused_from s.used from) (t.o ∷ t.rest)
        suits-here = subst (λ (os : List Occurrence). Suits s.used (unused_from s.used from) os) t.is w.suits

        single-here : Single t.o × All Single t.rest
        single-here = all-next (subst (All Single) t.is w.single)

        -- An occurrence that stays.
        pub record Stays : Type 0 where
          pub part : (n m : ℕ) → n ≡ p.to - at → m ≡ at → take n (drop m numbers) ≡ occurrence_numbers t.o
          pub within : p.to ≤ length numbers
          pub room : end + length (occurrence_bytes t.o) ≤ length out
          pub next : {out' : List ℕ} {end' : ℕ} → Put (occurrence_bytes t.o) out end out' end' → Sofar s out₀ to p.to (left - 1) from out' end'

        pub stays : withdrawn p.refers ≡ false → Stays
        stays told =
            let here = ap withdrawn (sym t.read.refers) ∙ told in
            let bytes = ap (λ (os : List Occurrence). each occurrence_bytes (rewrite_body (unused_from s.used from) os)) t.is ∙ kept-bytes (unused_from s.used from) t.o t.rest here in
            let after = each occurrence_bytes (rewrite_body (unused_from s.used from) t.rest) in
            let room = laying-room w.laying (occurrence_bytes t.o) after bytes in
            record {
              part = λ n m is from.
                  let count : n ≡ length (occurrence_numbers t.o) = omega (arith, t.read.next) in
                  rw (count, from) (stands-part t.here);
              within = omega (arith, t.read.next, t.here.within);
              room = omega (arith, room.0, room.1);
              next = λ put.
                  record {
                    rest = t.rest;
                    ahead = t.next;
                    suits = kept_next suits-here here;
                    single = single-here.1;
                    laying = laying-more w.laying (occurrence_bytes t.o) after bytes put;
                  };
            }

        -- One of the four gates.
        module _ (told : withdrawn p.refers ≡ true) where
          gone : withdrawn t.o.refers ≡ true
          gone = ap withdrawn (sym t.read.refers) ∙ told

          pub four : FourNext s.used (unused_from s.used from) t.o t.rest
          four = four-next suits-here gone

          abbrev pub seekable : Seekable table stamp from
          seekable =
              record { used = s.used; long = s.long; stamped = s.stamped; first = four.x; rest = four.y ∷ four.others; is = four.is }

          pub in_net : at + 1 < length numbers
          in_net = omega (arith, (drives-stand t).within, single-here.0 gone)

          takes-stand : Stands numbers p.from (four.a ∷ four.b ∷ four.c ∷ four.d ∷ [])
          takes-stand = subst (Stands numbers p.from) four.takes t.read.takes

          pub in_takes : p.from + 3 < length numbers
          in_takes = omega (arith, takes-stand.within)

          gate-is : gate_of (gate_there numbers at p.from p.refers) ≡ t.o
          gate-is =
              same-occurrence t.o (one-net t.o.drives _ (single-here.0 gone) (drives-stand t) refl) t.read.refers
              (takes-are ∙ sym four.takes)
            where
              second : Stands numbers (p.from + 1) (four.b ∷ four.c ∷ four.d ∷ [])
              second = stands-tail takes-stand

              third : Stands numbers (p.from + 2) (four.c ∷ four.d ∷ [])
              third = moved (p.from + 1 + 1) (omega arith) (stands-tail second)

              fourth : Stands numbers (p.from + 3) (four.d ∷ [])
              fourth = moved (p.from + 2 + 1) (omega arith) (stands-tail third)

              takes-are :
                  get_or numbers p.from 0 ∷ get_or numbers (p.from + 1) 0 ∷ get_or numbers (p.from + 2) 0 ∷ get_or numbers (p.from + 3) 0 ∷ []
                  ≡ four.a ∷ four.b ∷ four.c ∷ four.d ∷ []
              takes-are = rw (stands-head takes-stand, stands-head second, stands-head third, stands-head fourth)

          module _ {r : ℕ} (one : Found seekable r) where
            abbrev pub seekable-next : Seekable table stamp (r + 1)
            seekable-next =
                record { used = s.used; long = s.long; stamped = s.stamped; first = four.y; rest = four.others; is = one.rest }

            module _ {q : ℕ} (two : Found seekable-next q) where
              bytes-here :
                  each occurrence_bytes (rewrite_body (unused_from s.used from) w.rest)
                  ≡ each occurrence_bytes (three_gates r q (gate_of (gate_there numbers at p.from p.refers)))
                  ++ each occurrence_bytes (rewrite_body (unused_from s.used (q + 1)) t.rest)
              bytes-here = rw (t.is, two.rest, four.is, one.is, two.is, gate-is) (four_bytes four.x four.y four.others t.o t.rest gone)

              pub replacing : Replacing (gate_there numbers at p.from p.refers) r q out end
              replacing =
                  let room = laying-room w.laying (each occurrence_bytes (three_gates r q (gate_of (gate_there numbers at p.from p.refers)))) (each occurrence_bytes (rewrite_body (unused_from s.used (q + 1)) t.rest)) bytes-here in
                  record {
                    four = subst Four (sym t.read.refers) four.four;
                    net = all-at s.small (at + 1) 0 in_net;
                    takes =
                        more (all-at s.small p.from 0 (omega (arith, in_takes)))
                        (more (all-at s.small (p.from + 1) 0 (omega (arith, in_takes)))
                        (more (all-at s.small (p.from + 2) 0 (omega (arith, in_takes)))
                        (more (all-at s.small (p.from + 3) 0 in_takes) none)));
                    small_first = omega (arith, one.low);
                    small_second = omega (arith, two.low);
                    room = omega (arith, room.0, room.1);
                  }

              pub replaced-next :
                  {out' : List ℕ} {end' : ℕ}
                  → Put (each occurrence_bytes (three_gates r q (gate_of (gate_there numbers at p.from p.refers)))) out end out' end'
                  → Sofar s out₀ to p.to (left - 1) (q + 1) out' end'
              replaced-next put =
                  record {
                    rest = t.rest;
                    ahead = t.next;
                    suits = rw two.rest four.suits;
                    single = single-here.1;
                    laying = laying-more w.laying (each occurrence_bytes (three_gates r q (gate_of (gate_there numbers at p.from p.refers)))) (each occurrence_bytes (rewrite_body (unused_from s.used (q + 1)) t.rest)) bytes-here put;
                  }
