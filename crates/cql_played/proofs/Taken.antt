-- A legal move takes a man on a square exactly if a man of the other side is there before it, and no man of that side after it.
use Rattle.std.proofs.Common.{◌≡◌, ◌≢◌, ◌↔◌, ℕ, Bool, true, false, cond, not, ◌&&◌, Option, Some, None, List, length, refl, sym, ap, ap₂, ◌∙◌, subst, inl, inr, arith}
use Rattle.std.specs.Prelude.{slice_set, nat_lt, ◌==◌}
use Rattle.std.proofs.lemmas.Bool.{cases_Bool, cases_eq, cond-true, cond-false, and_parts, eq-eqb, ne_eqb}
use Rattle.cq_geometry.specs.Squares.{file_of}
use Rattle.cq_geometry.specs.Steps.{files_apart}
use Rattle.cq_position.specs.declared.men.Man.{Man}
use Rattle.cq_position.specs.declared.men.Man.TheVariants.{K, Q, R, B, N, P, BlackK, BlackQ, BlackR, BlackB, BlackN, BlackP, Empty}
use Rattle.cq_position.specs.declared.men.Side.{Side}
use Rattle.cq_position.specs.declared.men.Side.TheVariants.{White, Black}
use Rattle.cq_position.specs.declared.moves.Move.{Move}
use Rattle.cq_position.specs.Men.{same_man, is_of_side, opponent, king_of, rook_of, pawn_of}
use Rattle.cq_position.specs.Attacks.{is_occupied, is_goal}
use Rattle.cq_position.specs.Board.{Board, man_at, stands, is_pawn, rook_home}
use Rattle.cq_position.specs.Position.{IsPosition}
use Rattle.cq_position.specs.Legal.{Legal, Leads, Passes, after, after_pass, promoted, is_none, men_moved, men_after, rook_moved, is_castling, is_en_passant_capture, castling_crossed}
use Rattle.cq_position.specs.Led.{taken_square, led}
use Rattle.cq_position.proofs.Legality.{legal_passes}
use Rattle.cq_moves.proofs.Law.{what_moves}
use Rattle.cq_moves.proofs.Boards.{stands-is, man_at-set_same, man_at-set_other, length-set_man}
use Rattle.cq_moves.proofs.Steps.{Goes, goes, it_lands}
use Rattle.cq_moves.proofs.Castled.{Castles, castles_when, castling_squares}
use Rattle.cq_moves.proofs.Pawns.{Captures, captures_when, beside}
use Rattle.cq_moves.proofs.Ways.{moved_other, rook_other, home_of, rights_at}
use Rattle.cql_played.proofs.Goals.{castling_goal_empty, passing_goal_empty, changes_file, nobody}
use Rattle.cql_played.specs.Captures.{taken_by, IsCapturedOn}

-- a man of one side is not of the other, and only the empty square is of no side
own_not_other : (side : Side) (man : Man) → is_of_side side man ≡ true → is_of_side (opponent side) man ≡ false
own_not_other White K e = refl
own_not_other White Q e = refl
own_not_other White R e = refl
own_not_other White B e = refl
own_not_other White N e = refl
own_not_other White P e = refl
own_not_other White _ e = absurd (cc)
own_not_other Black BlackK e = refl
own_not_other Black BlackQ e = refl
own_not_other Black BlackR e = refl
own_not_other Black BlackB e = refl
own_not_other Black BlackN e = refl
own_not_other Black BlackP e = refl
own_not_other Black _ e = absurd (cc)

other_or_none : (side : Side) (man : Man) → is_of_side side man ≡ false → not (same_man man Empty) ≡ true → is_of_side (opponent side) man ≡ true
other_or_none White BlackK e some_ = refl
other_or_none White BlackQ e some_ = refl
other_or_none White BlackR e some_ = refl
other_or_none White BlackB e some_ = refl
other_or_none White BlackN e some_ = refl
other_or_none White BlackP e some_ = refl
other_or_none White _ e some_ = absurd (cc)
other_or_none Black K e some_ = refl
other_or_none Black Q e some_ = refl
other_or_none Black R e some_ = refl
other_or_none Black B e some_ = refl
other_or_none Black N e some_ = refl
other_or_none Black P e some_ = refl
other_or_none Black _ e some_ = absurd (cc)

own_rook : (side : Side) → is_of_side side (rook_of side) ≡ true
own_rook White = refl
own_rook Black = refl

own_pawn : (side : Side) → is_of_side side (pawn_of side) ≡ true
own_pawn White = refl
own_pawn Black = refl

king_no_pawn : (side : Side) → is_pawn (king_of side) ≡ false
king_no_pawn White = refl
king_no_pawn Black = refl

some_is : (k s : ℕ) → Some k ≡ Some s → k ≡ s
some_is k s e = cc

module _ (p : Board) (m : Move) where
  abbrev other : Side
  other = opponent p.side

  abbrev held : ℕ → Bool
  held s = is_of_side other (man_at p.men s)

  -- the squares that the other side leaves
  abbrev Takes : List Man → Option ℕ → Type 0
  Takes men o = (s : ℕ) → (o ≡ Some s) ↔ ((held s ≡ true) × (is_of_side other (man_at men s) ≡ false))

  takes_none : (men : List Man) → ((s : ℕ) → held s ≡ true → is_of_side other (man_at men s) ≡ true) → Takes men None
  takes_none men stay s = (
    λ e. absurd (cc),
    λ gone. absurd (let e : true ≡ false = sym (stay s gone.0) ∙ gone.1 in cc),
  )

  takes_one : (men : List Man) (k : ℕ) → held k ≡ true → is_of_side other (man_at men k) ≡ false
      → ((s : ℕ) → held s ≡ true → s ≢ k → is_of_side other (man_at men s) ≡ true) → Takes men (Some k)
  takes_one men k there gone stay s = (
    λ e. subst (λ i. (held i ≡ true) × (is_of_side other (man_at men i) ≡ false)) (some_is k s e) (there, gone),
    λ h. elim (cases_eq s k) [
      | inl same ↦ ap Some (sym same)
      | inr differ ↦ absurd (let e : true ≡ false = sym (stay s h.0 differ) ∙ h.1 in cc)
    ],
  )

  off_empty : (s k : ℕ) → held s ≡ true → man_at p.men k ≡ Empty → s ≢ k
  off_empty s k there empty e = let bad : true ≡ false = sym there ∙ ap held e ∙ ap (is_of_side other) empty ∙ nobody other in cc

  off_own : (s k : ℕ) → held s ≡ true → is_of_side p.side (man_at p.men k) ≡ true → s ≢ k
  off_own s k there own e = let bad : true ≡ false = sym there ∙ ap held e ∙ own_not_other p.side (man_at p.men k) own in cc

  -- the taken square by its cases
  abbrev aside : Bool
  aside = is_pawn (man_at p.men m.from) && not (file_of m.from == file_of m.to)

  at_goal : is_occupied p.men m.to ≡ true → taken_square p m ≡ Some m.to
  at_goal there = ap (λ t. cond t (Some m.to) (cond aside (Some (beside m.from m.to)) None)) there

  not_at_goal : man_at p.men m.to ≡ Empty → taken_square p m ≡ cond aside (Some (beside m.from m.to)) None
  not_at_goal empty = ap (λ x. cond (not (same_man x Empty)) (Some m.to) (cond aside (Some (beside m.from m.to)) None)) empty

  module _ (w : length p.men ≡ 64) (g : Goes p m) where
    stays : (s : ℕ) → held s ≡ true → s ≢ m.to → is_of_side other (man_at (men_moved p m) s) ≡ true
    stays s there differ = ap (is_of_side other) (moved_other p m s (off_own s m.from there g.own) differ) ∙ there

    lands : is_of_side other (man_at (men_moved p m) m.to) ≡ false
    lands =
        ap (is_of_side other) (man_at-set_same (slice_set p.men m.from Empty) m.to (promoted p.side m.promotion (man_at p.men m.from)) (omega (arith, g.to_board, length-set_man p.men m.from Empty w)))
        ∙ (it_lands p m g).sides other ∙ own_not_other p.side (man_at p.men m.from) g.own

    by_castling : (kingside : Bool) → IsPosition p → is_castling p m ≡ true → Castles p m kingside → Takes (men_after p m) (taken_square p m)
    by_castling kingside i does c =
        let empty = castling_goal_empty p m g does in
        let flag : nat_lt m.from m.to ≡ kingside = ap₂ nat_lt c.from_is c.to_is ∙ (castling_squares p.side kingside).way in
        let king = stands-is p.men m.from (king_of p.side) (and_parts (stands p.men m.from (king_of p.side)) (files_apart m.from m.to == 2) does).0 in
        let home = home_of p.men p.side kingside (rights_at p.men p.rights p.side kingside i.rights c.right) in
        let men : men_after p m ≡ rook_moved (men_moved p m) p.side kingside =
        cond-true (is_castling p m) (rook_moved (men_moved p m) p.side (nat_lt m.from m.to))
        (cond (is_en_passant_capture p m) (slice_set (men_moved p m) (beside m.from m.to) Empty) (men_moved p m)) does
        ∙ ap (rook_moved (men_moved p m) p.side) flag in
        let none : taken_square p m ≡ None =
        not_at_goal empty ∙ ap (λ x. cond (is_pawn x && not (file_of m.from == file_of m.to)) (Some (beside m.from m.to)) None) king
        ∙ ap (λ t. cond (t && not (file_of m.from == file_of m.to)) (Some (beside m.from m.to)) None) (king_no_pawn p.side) in
        subst (Takes (men_after p m)) (sym none)
        (takes_none (men_after p m) (λ s there.
        ap (λ x. is_of_side other (man_at x s)) men
        ∙ ap (is_of_side other)
        (rook_other (men_moved p m) p.side kingside s (off_own s (rook_home p.side kingside) there
        (ap (is_of_side p.side) home.rook ∙ own_rook p.side)) (off_empty s (castling_crossed p.side kingside) there c.crossed))
        ∙ stays s there (off_empty s m.to there empty)))

    in_passing : Captures p.men p.side m.from m.to → man_at p.men m.to ≡ Empty → is_pawn (man_at p.men m.from) ≡ true → men_after p m ≡ slice_set (men_moved p m) (beside m.from m.to) Empty
        → Takes (men_after p m) (taken_square p m)
    in_passing c empty pawn men =
        let files : (file_of m.from == file_of m.to) ≡ false = ne_eqb (file_of m.from) (file_of m.to) (λ e. apart_files m.from m.to c.files e) in
        let one : taken_square p m ≡ Some (beside m.from m.to) =
        not_at_goal empty ∙ ap₂ (λ t u. cond (t && not u) (Some (beside m.from m.to)) None) pawn files in
        let k = beside m.from m.to in
        let moved_whole = length-set_man (slice_set p.men m.from Empty) m.to (promoted p.side m.promotion (man_at p.men m.from)) (length-set_man p.men m.from Empty w) in
        subst (Takes (men_after p m)) (sym one)
        (takes_one (men_after p m) k
        (ap (is_of_side other) c.pawn ∙ own_pawn other)
        (ap (λ x. is_of_side other (man_at x k)) men ∙ ap (is_of_side other) (man_at-set_same (men_moved p m) k Empty (omega (arith, c.board, moved_whole))) ∙ nobody other)
        (λ s there differ.
        ap (λ x. is_of_side other (man_at x s)) men
        ∙ ap (is_of_side other) (man_at-set_other (men_moved p m) k s Empty differ)
        ∙ stays s there (off_empty s m.to there empty)))
      where
        apart_files : (a b : ℕ) → files_apart a b ≡ 1 → file_of a ≡ file_of b → ⊥
        apart_files a b one same = omega (arith, one, same)

    by_moving : is_en_passant_capture p m ≡ false → men_after p m ≡ men_moved p m → Takes (men_after p m) (taken_square p m)
    by_moving plain men = elim (cases_Bool (is_occupied p.men m.to)) [
      | inl there ↦
          subst (Takes (men_after p m)) (sym (at_goal there))
          (takes_one (men_after p m) m.to
          (other_or_none p.side (man_at p.men m.to) g.not_own there)
          (ap (λ x. is_of_side other (man_at x m.to)) men ∙ lands)
          (λ s held_ differ. ap (λ x. is_of_side other (man_at x s)) men ∙ stays s held_ differ))
      | inr none ↦
          let empty : man_at p.men m.to ≡ Empty = stands-is p.men m.to Empty (not_not (stands p.men m.to Empty) none) in
          let straight : aside ≡ false = not_aside (is_pawn (man_at p.men m.from)) (file_of m.from == file_of m.to)
          (λ pawn files. let bad : true ≡ false = sym (changes_file p m g pawn empty (λ e. differ_by (file_of m.from) (file_of m.to) files e)) ∙ plain in cc) in
          subst (Takes (men_after p m)) (sym (not_at_goal empty ∙ ap (λ t. cond t (Some (beside m.from m.to)) None) straight))
          (takes_none (men_after p m) (λ s there. ap (λ x. is_of_side other (man_at x s)) men ∙ stays s there (off_empty s m.to there empty)))
    ]
      where
        not_not : (t : Bool) → not t ≡ false → t ≡ true
        not_not true e = refl
        not_not false e = absurd (cc)

        not_aside : (pawn same : Bool) → (pawn ≡ true → same ≡ false → ⊥) → (pawn && not same) ≡ false
        not_aside true true none = refl
        not_aside true false none = absurd (none refl refl)
        not_aside false same none = refl

        differ_by : (a b : ℕ) → (a == b) ≡ false → a ≡ b → ⊥
        differ_by a b e same = let bad : false ≡ true = sym e ∙ eq-eqb a b same in cc

    takes : IsPosition p → Takes (men_after p m) (taken_square p m)
    takes i =
        let castling = rook_moved (men_moved p m) p.side (nat_lt m.from m.to) in
        let removed = slice_set (men_moved p m) (beside m.from m.to) Empty in
        let plain = cond (is_en_passant_capture p m) removed (men_moved p m) in
        elim (cases_Bool (is_castling p m)) [
          | inl does ↦ elim (castles_when p m g.goes does) [
            | inl c ↦ by_castling true i does c
            | inr c ↦ by_castling false i does c
          ]
          | inr not_castling ↦
              let first : men_after p m ≡ plain = cond-false (is_castling p m) castling plain not_castling in
              elim (cases_Bool (is_en_passant_capture p m)) [
                | inl does ↦
                    let pawn = (and_parts (is_pawn (man_at p.men m.from)) (files_apart m.from m.to == 1)
                    (and_parts (is_pawn (man_at p.men m.from) && (files_apart m.from m.to == 1)) (is_goal p.passant m.to) does).0).0 in
                    in_passing (captures_when p m i.passed g does) (passing_goal_empty p m i.passed does) pawn (first ∙ cond-true (is_en_passant_capture p m) removed (men_moved p m) does)
                | inr none ↦ by_moving none (first ∙ cond-false (is_en_passant_capture p m) removed (men_moved p m) none)
              ]
        ]

  led_takes : m.null ≡ false → taken_by (led p m) ≡ taken_square p m
  unfolding led
  led_takes null = ap (λ t. taken_by (cond t None (Some (record { origin = m.from; goal = m.to; taken = taken_square p m; promoted = not (is_none m.promotion) })))) null

  null_takes : m.null ≡ true → taken_by (led p m) ≡ None
  unfolding led
  null_takes null = ap (λ t. taken_by (cond t None (Some (record { origin = m.from; goal = m.to; taken = taken_square p m; promoted = not (is_none m.promotion) })))) null

  gone : (q : Board) (o : Option ℕ) → Takes q.men o → (s : ℕ) → (o ≡ Some s) ↔ IsCapturedOn p q s
  gone q o takes_ s = (
    λ e. let r = (takes_ s).0 e in record { stood = r.0; gone = r.1 },
    λ is. (takes_ s).1 (is.stood, is.gone),
  )

  men_of_after : (after p m).men ≡ men_after p m
  unfolding after
  men_of_after = refl

  of_legal : (q : Board) → IsPosition p → Legal p m q → (s : ℕ) → (taken_by (led p m) ≡ Some s) ↔ IsCapturedOn p q s
  of_legal q i l =
      let men : q.men ≡ men_after p m = ap (λ (b : Board). b.men) l.leads ∙ men_of_after in
      gone q (taken_by (led p m))
      (subst (λ x. Takes x (taken_by (led p m))) (sym men)
      (subst (Takes (men_after p m)) (sym (led_takes (what_moves p m (legal_passes p m q l)).null)) (takes i.whole (goes p m i.whole l.moves) i)))

  same_men : (after_pass p).men ≡ p.men
  unfolding after_pass
  same_men = refl

  of_pass : (q : Board) → Passes p m q → (s : ℕ) → (taken_by (led p m) ≡ Some s) ↔ IsCapturedOn p q s
  of_pass q pass =
      let men : q.men ≡ p.men = ap (λ (b : Board). b.men) pass.leads ∙ same_men in
      gone q (taken_by (led p m))
      (subst (λ x. Takes x (taken_by (led p m))) (sym men)
      (subst (Takes p.men) (sym (null_takes (ap (λ (x : Move). x.null) pass.null))) (takes_none p.men (λ s there. there))))

pub taken_law : (p : Board) (m : Move) (q : Board) → IsPosition p → Leads p m q → (s : ℕ) → (taken_by (led p m) ≡ Some s) ↔ IsCapturedOn p q s
taken_law p m q i (inl legal) = of_legal p m q i legal
taken_law p m q i (inr pass) = of_pass p m q pass
