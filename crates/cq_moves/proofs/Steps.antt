-- The moves of a man that can move, by its kind.
use Rattle.std.proofs.Common.{◌≡◌, ◌≢◌, ◌<◌, ◌⊎◌, Bool, true, false, cond, not, ◌&&◌, length, refl, sym, ap, ◌∙◌, subst, inl, inr}
use Rattle.std.specs.Prelude.{nat_lt}
use Rattle.std.proofs.lemmas.Bool.{ltb-true, and_parts, not-true}
use Rattle.cq_position.specs.declared.men.Man.{Man}
use Rattle.cq_position.specs.declared.men.Man.TheVariants.{Q, R, B, N, P, BlackQ, BlackR, BlackB, BlackN, BlackP}
use Rattle.cq_position.specs.declared.men.Promotion.{Promotion}
use Rattle.cq_position.specs.declared.men.Promotion.TheVariants.{None as NoPromotion, Q as ToQueen, R as ToRook, B as ToBishop, N as ToKnight}
use Rattle.cq_position.specs.declared.men.Side.{Side}
use Rattle.cq_position.specs.declared.men.Side.TheVariants.{White, Black}
use Rattle.cq_position.specs.declared.moves.Move.{Move}
use Rattle.cq_position.specs.Men.{same_man, is_of_side, opponent, king_of, pawn_of}
use Rattle.cq_position.specs.Board.{Board, man_at, stands, is_pawn}
use Rattle.cq_position.specs.Legal.{is_none, pawn_promotion_is_right, goes_as, reaches, promotion_is_right, is_pseudo_legal, promoted}
use Rattle.cq_moves.proofs.Law.{owned_on_board}

-- a man of the side to move goes to a square of the board on which no man of its side and no king stands
pub record Goes (p : Board) (m : Move) : Type 0 where
  pub to_board : m.to < 64
  pub from_board : m.from < 64
  pub own : is_of_side p.side (man_at p.men m.from) ≡ true
  pub not_own : is_of_side p.side (man_at p.men m.to) ≡ false
  pub no_king : stands p.men m.to (king_of (opponent p.side)) ≡ false
  pub goes : goes_as (man_at p.men m.from) p m.from m.to ≡ true
  pub promotes_so : promotion_is_right p m ≡ true

pub apart : {p : Board} {m : Move} → Goes p m → m.from ≢ m.to
apart {p} {m} g same = let e : true ≡ false = sym g.own ∙ ap (λ k. is_of_side p.side (man_at p.men k)) same ∙ g.not_own in cc

six_parts : (a b c d e f g : Bool) → (a && b && (c && d && e && f) && g) ≡ true
    → (b ≡ true) × (c ≡ true) × (d ≡ true) × (e ≡ true) × (f ≡ true) × (g ≡ true)
six_parts true b c d e f g t =
    let g' = and_parts (b && (c && d && e && f)) g t in
    let b' = and_parts b (c && d && e && f) g'.0 in
    let f' = and_parts (c && d && e) f b'.1 in
    let e' = and_parts (c && d) e f'.0 in
    let d' = and_parts c d e'.0 in
    (b'.0, d'.0, d'.1, e'.1, f'.1, g'.1)
six_parts false b c d e f g t = absurd (cc)

pub goes : (p : Board) (m : Move) → length p.men ≡ 64 → is_pseudo_legal p m ≡ true → Goes p m
unfolding is_pseudo_legal reaches
goes p m w e =
    let t = six_parts (not m.null) (nat_lt m.to 64) (is_of_side p.side (man_at p.men m.from)) (not (is_of_side p.side (man_at p.men m.to)))
    (not (stands p.men m.to (king_of (opponent p.side)))) (goes_as (man_at p.men m.from) p m.from m.to) (promotion_is_right p m) e in
    record {
      to_board = ltb-true m.to 64 t.0;
      from_board = owned_on_board p.side p.men m.from w t.1;
      own = t.1;
      not_own = not-true (is_of_side p.side (man_at p.men m.to)) t.2;
      no_king = not-true (stands p.men m.to (king_of (opponent p.side))) t.3;
      goes = t.4;
      promotes_so = t.5;
    }

pub own_pawn : (side : Side) (man : Man) → is_of_side side man ≡ true → is_pawn man ≡ true → man ≡ pawn_of side
own_pawn White P o e = refl
own_pawn Black BlackP o e = refl
own_pawn White _ o e = absurd (cc)
own_pawn Black _ o e = absurd (cc)

-- the man that stands on the goal is of the same side, and a king exactly where the one that moved is
pub record Landed (man landed : Man) : Type 0 where
  pub sides : (side : Side) → is_of_side side landed ≡ is_of_side side man
  pub kings : (side : Side) → same_man landed (king_of side) ≡ same_man man (king_of side)

by_sides : (man landed : Man) → is_of_side White landed ≡ is_of_side White man → is_of_side Black landed ≡ is_of_side Black man
    → same_man landed (king_of White) ≡ same_man man (king_of White) → same_man landed (king_of Black) ≡ same_man man (king_of Black) → Landed man landed
by_sides man landed w b wk bk = record {
  sides = λ side. elim side as (λ s. is_of_side s landed ≡ is_of_side s man) [ White ↦ w | Black ↦ b ];
  kings = λ side. elim side as (λ s. same_man landed (king_of s) ≡ same_man man (king_of s)) [ White ↦ wk | Black ↦ bk ];
}

pawn_landed : (side : Side) (promotion : Promotion) → Landed (pawn_of side) (promoted side promotion (pawn_of side))
pawn_landed White NoPromotion = by_sides P P refl refl refl refl
pawn_landed White ToQueen = by_sides P Q refl refl refl refl
pawn_landed White ToRook = by_sides P R refl refl refl refl
pawn_landed White ToBishop = by_sides P B refl refl refl refl
pawn_landed White ToKnight = by_sides P N refl refl refl refl
pawn_landed Black NoPromotion = by_sides BlackP BlackP refl refl refl refl
pawn_landed Black ToQueen = by_sides BlackP BlackQ refl refl refl refl
pawn_landed Black ToRook = by_sides BlackP BlackR refl refl refl refl
pawn_landed Black ToBishop = by_sides BlackP BlackB refl refl refl refl
pawn_landed Black ToKnight = by_sides BlackP BlackN refl refl refl refl

pub promoted-none : (side : Side) (promotion : Promotion) (man : Man) → is_none promotion ≡ true → promoted side promotion man ≡ man
promoted-none side NoPromotion man e = refl
promoted-none side _ man e = absurd (cc)

landed : (side : Side) (promotion : Promotion) (man : Man) → is_of_side side man ≡ true → (is_pawn man ≡ true) ⊎ (is_none promotion ≡ true)
    → Landed man (promoted side promotion man)
landed side promotion man own (inl pawn) =
    subst (λ (x : Man). Landed x (promoted side promotion x)) (sym (own_pawn side man own pawn)) (pawn_landed side promotion)
landed side promotion man own (inr none) =
    subst (λ (x : Man). Landed man x) (sym (promoted-none side promotion man none)) (record { sides = λ s. refl; kings = λ s. refl })

-- only a pawn promotes
unpromoted : (pawn rightly none : Bool) → cond pawn rightly none ≡ true → (pawn ≡ true) ⊎ (none ≡ true)
unpromoted true rightly none e = inl refl
unpromoted false rightly none e = inr e

-- of a man that can move
pub it_lands : (p : Board) (m : Move) → Goes p m → Landed (man_at p.men m.from) (promoted p.side m.promotion (man_at p.men m.from))
it_lands p m g = landed p.side m.promotion (man_at p.men m.from) g.own
    (unpromoted (is_pawn (man_at p.men m.from)) (pawn_promotion_is_right p.side m) (is_none m.promotion) g.promotes_so)
