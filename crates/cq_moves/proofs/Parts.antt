-- The legal moves part by part: from each square, to each square, by each promotion.
use Rattle.std.proofs.Common.{◌≡◌, ℕ, ◌+◌, ◌<◌, ◌≤◌, Bool, true, false, cond, not, ◌&&◌, ◌==◌, List, [], ◌∷◌, ◌++◌, length, take, get_or, refl, sym, ap, ap₂, ◌∙◌, arith}
use Rattle.std.specs.List.{All, flat_map, list_any}
use Rattle.std.proofs.lemmas.List.{take_all, append_assoc, append-nil, length-append}
use Rattle.std.proofs.lemmas.List.Elements.{All-map}
use Rattle.std.proofs.lemmas.List.Folds.{length-flat_map-take, list_any_none}
use Rattle.cq_geometry.specs.Squares.{squares, rank_of}
use Rattle.cq_position.specs.declared.men.Promotion.{Promotion}
use Rattle.cq_position.specs.declared.men.Promotion.TheVariants.{None as NoPromotion, Q as ToQueen, R as ToRook, B as ToBishop, N as ToKnight}
use Rattle.cq_position.specs.declared.moves.Move.{Move}
use Rattle.cq_position.specs.Board.{Board, man_at, is_pawn}
use Rattle.cq_position.specs.Legal.{reaches, promotion_is_right, is_none, last_rank, is_en_passant_capture}
use Rattle.cq_position.specs.Attacks.{is_goal}
use Rattle.cq_geometry.specs.Steps.{files_apart}
use Rattle.cq_moves.specs.Internal.Mover.{IsUnexposed, IsPlain}
use Rattle.cq_position.specs.Legality.{is_safe, legal_test}
use Rattle.cq_moves.specs.LegalMoves.{promotions, move_of, moves_between, moves_from, all_moves, legal_list, legal_from, legal_between, if_legal, pieces, promotes}
use Rattle.cq_moves.proofs.Lists.{filter-flat_map, filter-map, filter-none, flat_map-take_more, list_any-flat_map}
use Rattle.cq_moves.proofs.Law.{passes_in_parts, pseudo_legal_by_parts}

pub legal_list_parts : (p : Board) → legal_list p ≡ flat_map (legal_from p) squares
unfolding legal_list all_moves legal_from
legal_list_parts p = filter-flat_map (legal_test p) moves_from squares

pub legal_from_parts : (p : Board) (a : ℕ) → legal_from p a ≡ flat_map (legal_between p a) squares
unfolding legal_from moves_from legal_between
legal_from_parts p a = filter-flat_map (legal_test p) (moves_between a) squares

pub legal_between_parts : (p : Board) (a b : ℕ) → legal_between p a b ≡ flat_map (if_legal p a b) promotions
unfolding legal_between
legal_between_parts p a b = filter-map (legal_test p) (move_of a b) promotions

fails_if_unreached : (p : Board) (m : Move) → m.null ≡ false → m.to < 64 → reaches p m.from m.to ≡ false → legal_test p m ≡ false
fails_if_unreached p m null below shut =
    passes_in_parts p m null below ∙ ap (λ t. t && promotion_is_right p m && is_safe p m) shut

unreached_fail : (p : Board) (a b : ℕ) → b < 64 → reaches p a b ≡ false → All (λ m. legal_test p m ≡ false) (moves_between a b)
unreached_fail p a b below shut =
    All-map (λ m. legal_test p m ≡ false) (move_of a b) promotions
    (λ k d h. fails_if_unreached p (move_of a b (get_or promotions k d)) refl below shut)

pub none_between_unreached : (p : Board) (a b : ℕ) → b < 64 → reaches p a b ≡ false → legal_between p a b ≡ []
unfolding legal_between
none_between_unreached p a b below shut = filter-none (legal_test p) (moves_between a b) (unreached_fail p a b below shut)

pub unreached_has_none : (p : Board) (a b : ℕ) → b < 64 → reaches p a b ≡ false → list_any (legal_test p) (moves_between a b) ≡ false
unreached_has_none p a b below shut = list_any_none (legal_test p) (moves_between a b) (unreached_fail p a b below shut)

-- a legal move from a square goes to some square, and a legal move is one from some square
pub any_from_parts : (p : Board) (a : ℕ)
    → list_any (legal_test p) (moves_from a) ≡ list_any (λ b. list_any (legal_test p) (moves_between a b)) squares
unfolding moves_from
any_from_parts p a = list_any-flat_map (legal_test p) (moves_between a) squares

pub any_parts : (p : Board) → list_any (legal_test p) all_moves ≡ list_any (λ a. list_any (legal_test p) (moves_from a)) squares
unfolding all_moves
any_parts p = list_any-flat_map (legal_test p) moves_from squares

-- a move to one of a man's goals is judged by its promotion and by the king's safety
pub reached_move : (p : Board) (m : Move) → m.null ≡ false → m.to < 64 → reaches p m.from m.to ≡ true
    → legal_test p m ≡ (promotion_is_right p m && is_safe p m)
reached_move p m null below open_ =
    passes_in_parts p m null below ∙ ap (λ t. t && promotion_is_right p m && is_safe p m) open_

-- if the choices have room, the next one has
pub room_for_choice : (part : Promotion → List Move) (choices : List Promotion) (n : ℕ) (d : Promotion) (old before : List Move) → n < length choices
    → before ≡ old ++ flat_map part (take n choices) → length old + length (flat_map part choices) ≤ 512
    → length before + length (part (get_or choices n d)) ≤ 512
room_for_choice part choices n d old before h e room =
    omega (arith, length-flat_map-take part choices n d h, ap length e, length-append old (flat_map part (take n choices)), room)

pub all_choices : (part : Promotion → List Move) (choices : List Promotion) (n : ℕ) (old after : List Move) → length choices ≤ n
    → after ≡ old ++ flat_map part (take n choices) → after ≡ old ++ flat_map part choices
all_choices part choices n old after h e = e ∙ ap (λ xs. old ++ flat_map part xs) (take_all n choices h)

-- the promotions that are right, by whether the pawn reaches the last rank
right_when : (pawn last none : Bool) (t : Bool) → (pawn && last) ≡ t
    → cond pawn (cond last (not none) none) none ≡ cond t (not none) none
right_when true true none t e = ap (λ b. cond b (not none) none) e
right_when true false none t e = ap (λ b. cond b (not none) none) e
right_when false last none t e = ap (λ b. cond b (not none) none) e

right_promotion : (p : Board) (a b : ℕ) (choice : Promotion) (t : Bool) → promotes p a b ≡ t
    → promotion_is_right p (move_of a b choice) ≡ cond t (not (is_none choice)) (is_none choice)
right_promotion p a b choice t e = right_when (is_pawn (man_at p.men a)) (rank_of b == last_rank p.side) (is_none choice) t e

and_false : (s t : Bool) → (s && false && t) ≡ false
and_false true t = refl
and_false false t = refl

wrong_is_none : (p : Board) (a b : ℕ) (choice : Promotion) → b < 64 → promotion_is_right p (move_of a b choice) ≡ false → if_legal p a b choice ≡ []
wrong_is_none p a b choice below wrong =
    let m = move_of a b choice in
    let fails : legal_test p m ≡ false
    = passes_in_parts p m refl below ∙ ap (λ t. reaches p a b && t && is_safe p m) wrong ∙ and_false (reaches p a b) (is_safe p m) in
    ap (λ t. cond t (m ∷ []) []) fails

-- a man that reaches no last rank as a pawn has one move to a square, and a pawn that does has four
pub one_move : (p : Board) (a b : ℕ) → b < 64 → promotes p a b ≡ false → legal_between p a b ≡ if_legal p a b NoPromotion
one_move p a b below plain =
    let none = λ (choice : Promotion) (e : is_none choice ≡ false). wrong_is_none p a b choice below (right_promotion p a b choice false plain ∙ e) in
    legal_between_parts p a b
    ∙ ap (λ xs. if_legal p a b NoPromotion ++ xs)
    (ap₂ (λ x y. x ++ y) (none ToQueen refl) (ap₂ (λ x y. x ++ y) (none ToRook refl) (ap₂ (λ x y. x ++ y) (none ToBishop refl) (ap (λ x. x ++ []) (none ToKnight refl)))))
    ∙ append-nil (if_legal p a b NoPromotion)

pub four_moves : (p : Board) (a b : ℕ) → b < 64 → promotes p a b ≡ true → legal_between p a b ≡ flat_map (if_legal p a b) pieces
four_moves p a b below last =
    legal_between_parts p a b
    ∙ ap (λ xs. xs ++ flat_map (if_legal p a b) pieces) (wrong_is_none p a b NoPromotion below (right_promotion p a b NoPromotion true last))

pub one_choice_more : (part : Promotion → List Move) (choices : List Promotion) (n : ℕ) (d : Promotion) (old before after : List Move) → n < length choices
    → before ≡ old ++ flat_map part (take n choices) → after ≡ before ++ part (get_or choices n d)
    → after ≡ old ++ flat_map part (take (n + 1) choices)
one_choice_more part choices n d old before after h e f =
    f
    ∙ ap (λ xs. xs ++ part (get_or choices n d)) e
    ∙ append_assoc old (flat_map part (take n choices)) (part (get_or choices n d))
    ∙ ap (λ xs. old ++ xs) (sym (flat_map-take_more part choices n d h))

-- a man that is no pawn and doesn't expose its king has one move to each square to which it goes
no_pawn_promotes : (last pawn : Bool) → pawn ≡ false → (pawn && last) ≡ false
no_pawn_promotes last pawn e = ap (λ b. b && last) e

no_last_rank : (last pawn : Bool) → last ≡ false → (pawn && last) ≡ false
no_last_rank last true e = e
no_last_rank last false e = refl

not_passant : (pawn beside passant : Bool) → passant ≡ false → (pawn && beside && passant) ≡ false
not_passant true true passant e = e
not_passant true false passant e = refl
not_passant false beside passant e = refl

one_legal_move : (p : Board) (a b : ℕ) → b < 64 → reaches p a b ≡ true → promotes p a b ≡ false → IsUnexposed p a
    → is_en_passant_capture p (move_of a b NoPromotion) ≡ false → legal_between p a b ≡ move_of a b NoPromotion ∷ []
one_legal_move p a b below open_ plain safe none =
    let m = move_of a b NoPromotion in
    let right : promotion_is_right p m ≡ true = right_promotion p a b NoPromotion false plain in
    let stays : is_safe p m ≡ true = safe.safe m refl (pseudo_legal_by_parts p m refl below open_ right) none in
    let legal : legal_test p m ≡ true = reached_move p m refl below open_ ∙ ap₂ (λ s t. s && t) right stays in
    one_move p a b below plain ∙ ap (λ t. cond t (m ∷ []) []) legal

pub ordinary_move : (p : Board) (a b : ℕ) → b < 64 → reaches p a b ≡ true → IsUnexposed p a → (rank_of b == last_rank p.side) ≡ false
    → is_goal p.passant b ≡ false → legal_between p a b ≡ move_of a b NoPromotion ∷ []
ordinary_move p a b below open_ safe inside off =
    one_legal_move p a b below open_ (no_last_rank (rank_of b == last_rank p.side) (is_pawn (man_at p.men a)) inside) safe
    (not_passant (is_pawn (man_at p.men a)) (files_apart a b == 1) (is_goal p.passant b) off)

pub plain_moves : (p : Board) (a : ℕ) → is_pawn (man_at p.men a) ≡ false → IsUnexposed p a → IsPlain p a
plain_moves p a other safe = record { only = only }
  where
    only : (b : ℕ) → b < 64 → reaches p a b ≡ true → legal_between p a b ≡ move_of a b NoPromotion ∷ []
    only b below open_ =
        one_legal_move p a b below open_ (no_pawn_promotes (rank_of b == last_rank p.side) (is_pawn (man_at p.men a)) other) safe
        (ap (λ t. t && (files_apart a b == 1) && is_goal p.passant b) other)
