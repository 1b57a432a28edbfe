-- An archive splits after each of its games.
use Rattle.std.proofs.Common.{◌≡◌, ℕ, zero, suc, ◌+◌, ◌-◌, ◌<◌, ◌≤◌, ◌⊎◌, inl, inr, ⊎_elim, Bool, true, false, cond, List, [], ◌∷◌, ◌++◌, length, get_or, take, drop, map, refl, sym, ap, ap₂, ◌∙◌, subst, arith, true≢false, append-nil, add-zero, append_assoc, length-drop}
use Rattle.std.specs.Prelude.{◌&&◌, ◌||◌, nat_le, nat_lt, filter, codes, slice_range}
use Rattle.std.specs.List.{AllByRecursion}
use Rattle.std.specs.Str.{bytes_eq}
use Rattle.std.proofs.lemmas.Bool.{cases_Bool, cases_lt}
use Rattle.std.proofs.lemmas.Bool.Decides.{nat_tests, leb_tells}
use Rattle.std.proofs.lemmas.List.{drop-drop, drop-take, drop_all, get_or-drop, get_or-take, length-take, length-take-le, map-append, take_rest}
use Rattle.std.proofs.lemmas.List.Concat.{flat_map-cons}
use Rattle.std.proofs.lemmas.List.Elements.{filter-append}
use Rattle.std.proofs.lemmas.Slice.Eq.{bytes_eq-Decides}
use Rattle.cq_common.specs.Text.{is_white}
use Rattle.pgn_lexer.specs.Bytes.{ends_line}
use Rattle.pgn_lexer.specs.Grammar.{IsLexeme}
use Rattle.pgn_lexer.specs.Lexemes.{Lexeme, end, lexeme, lexemes, first_at, moved, token_if, token_of, tokens_among}
use Rattle.pgn_lexer.specs.Locality.{AreLexemesInOrder as InOrder, IsUncrossed, StandsIn, within}
use Rattle.pgn_lexer.specs.Readings.{reading, single}
use Rattle.pgn_lexer.specs.Texts.{IsSpelled}
use Rattle.pgn_lexer.specs.declared.token.LexemeKind.{LexemeKind}
use Rattle.pgn_lexer.specs.declared.token.LexemeKind.TheVariants.{EscapeLine, Token}
use Rattle.pgn_lexer.specs.declared.token.TokenKind.TheVariants.{Open, Close, Text, Symbol, Period, Star, LeftParen, RightParen, Nag, Null, Comment, LineComment, BadByte, UnclosedComment, UnclosedText}
use Rattle.pgn_cut.specs.Cut.{is_result, marks, opens, cut_from, cut, text_start, archive_lexemes}
use Rattle.pgn_cut.specs.GameTokens.{game_bytes}
use Rattle.pgn_cut.specs.Seams.{moved_token, AreMovedGames, spaced_rest, IsSeam}
use Rattle.pgn_cut.specs.Spans.{EndsBy}
use Rattle.pgn_cut.specs.declared.span.Span.{Span}
use Rattle.pgn_cut.proofs.Closed.{LexemesFollow, AreLongest}
use Rattle.pgn_cut.proofs.Joins.{StandApart, AreLocal, HasItsLexemes, joined, map_all, text_within}
use Rattle.pgn_cut.proofs.OneGame.{all_both, all_front, all_rest, keeps_none, order_from, within_is}
use Rattle.pgn_cut.proofs.OpenGames.{starts_by, starts_from}
use Rattle.pgn_cut.proofs.Order.{StandInOrder, Begins, cut_in_order, games_in_order, each_ends}
use Rattle.pgn_cut.proofs.SeamsOfCut.{WithMarker, BeforePair, Ends, Split, splits, pair_begins, moved_span, cut_moves, SamePlaces, same_places, in_column, cut_firsts}
use Rattle.pgn_cut.proofs.Streams.{WhiteIsPassed}

-- the laws of lexemes, as a type
abbrev pub NothingHasNone : Type 0
NothingHasNone = (at : ℕ) (first : Bool) → lexemes at first [] ≡ []

abbrev pub LexemesMove : Type 0
LexemesMove = (n at : ℕ) (first : Bool) (bytes : List ℕ) → lexemes (at + n) first bytes ≡ map (moved n) (lexemes at first bytes)

abbrev pub AreSpelled : Type 0
AreSpelled = (start : ℕ) (first : Bool) (bytes : List ℕ) → AllByRecursion (IsSpelled start bytes) (lexemes start first bytes)

-- lexemes have bytes
sized : (from : ℕ) (ls : List Lexeme) → InOrder from ls → AllByRecursion (λ l. l.at < end l) ls
sized from [] order = tt
sized from (l ∷ ls) order = let size = order.1 in (omega arith, sized (end l) ls order.2)

ends_before : (to : ℕ) (ls : List Lexeme) → AllByRecursion (λ l. l.at < end l) ls → AllByRecursion (λ l. end l ≤ to) ls → AllByRecursion (λ l. l.at < to) ls
ends_before to [] size ends = tt
ends_before to (l ∷ ls) size ends = let a = size.0 in let b = ends.0 in (omega arith, ends_before to ls size.1 ends.1)

-- a front that reaches its text begins its text where the archive does
short_start : (archive : List ℕ) (k : ℕ) → k < 3 → text_start archive ≤ k → text_start archive ≡ 0
short_start archive k short at = ⊎_elim (λ none. none) (λ mark. absurd (omega (arith, mark, short, at))) (starts_by archive)

start_front : (k : ℕ) (archive : List ℕ) → text_start archive ≤ k → text_start (take k archive) ≡ text_start archive
start_front k archive at = ⊎_elim
    (λ short. short_start (take k archive) k short (let w = text_within (take k archive) in let n = length-take k archive in omega arith) ∙ sym (short_start archive k short at))
    (λ long. by k archive long) (cases_lt k 3)
  where
    by : (k : ℕ) (archive : List ℕ) → 3 ≤ k → text_start (take k archive) ≡ text_start archive
    by zero archive long = absurd (omega arith)
    by (suc zero) archive long = absurd (omega arith)
    by (suc (suc zero)) archive long = absurd (omega arith)
    by (suc (suc (suc k))) [] long = refl
    by (suc (suc (suc k))) (x ∷ []) long = refl
    by (suc (suc (suc k))) (x ∷ y ∷ []) long = refl
    by (suc (suc (suc k))) (x ∷ y ∷ z ∷ zs) long = refl

-- lexemes and tokens that are moved
le_moves : (n a b : ℕ) → nat_le (a + n) (b + n) ≡ nat_le a b
le_moves n a b = ⊎_elim
    (λ x. ⊎_elim (λ y. x.0 ∙ sym y.0) (λ y. absurd (omega (arith, x.1, y.1))) (leb_tells a b))
    (λ x. ⊎_elim (λ y. absurd (omega (arith, x.1, y.1))) (λ y. x.0 ∙ sym y.0) (leb_tells a b))
    (leb_tells (a + n) (b + n))

lt_moves : (n a b : ℕ) → nat_lt (a + n) (b + n) ≡ nat_lt a b
lt_moves n a b = ⊎_elim
    (λ x. ⊎_elim (λ y. x.0 ∙ sym y.0) (λ y. absurd (omega (arith, x.1, y.1))) (leb_tells (suc a) b))
    (λ x. ⊎_elim (λ y. absurd (omega (arith, x.1, y.1))) (λ y. x.0 ∙ sym y.0) (leb_tells (suc a) b))
    (leb_tells (suc (a + n)) (b + n))

map_filter : (n : ℕ) (t : Bool) (l : Lexeme) (ls ms : List Lexeme) → ms ≡ map (moved n) ls → cond t (moved n l ∷ ms) ms ≡ map (moved n) (cond t (l ∷ ls) ls)
map_filter n true l ls ms e = ap (λ x. moved n l ∷ x) e
map_filter n false l ls ms e = e

within_moves : (n from to : ℕ) (ls : List Lexeme) → within (from + n) (to + n) (map (moved n) ls) ≡ map (moved n) (within from to ls)
within_moves n from to [] = refl
within_moves n from to (l ∷ ls) =
    let test = ap₂ (λ a b. a && b) (le_moves n from l.at) (lt_moves n l.at to) in
    let rest = within (from + n) (to + n) (map (moved n) ls) in
    ap (λ t. cond t (moved n l ∷ rest) rest) test ∙ map_filter n (nat_le from l.at && nat_lt l.at to) l (within from to ls) rest (within_moves n from to ls)

token_moves : (n at len : ℕ) (kind : LexemeKind) → token_if (at + n) len kind ≡ map (moved_token n) (token_if at len kind)
token_moves n at len EscapeLine = refl
token_moves n at len (Token kind) = refl

tokens_move : (n : ℕ) (ls : List Lexeme) → tokens_among (map (moved n) ls) ≡ map (moved_token n) (tokens_among ls)
tokens_move n [] = refl
tokens_move n (l ∷ ls) =
    flat_map-cons token_of (moved n l) (map (moved n) ls) ∙ ap₂ (λ x y. x ++ y) (token_moves n l.at (length l.text) l.kind) (tokens_move n ls)
    ∙ sym (map-append (moved_token n) (token_of l) (tokens_among ls)) ∙ sym (ap (map (moved_token n)) (flat_map-cons token_of l ls))

-- Lexemes that are the same, except that the first may be a [ in the first column
record PairFirst (ls ms : List Lexeme) : Type 0 where
  lexeme_ : Lexeme
  after : List Lexeme
  is : ls ≡ lexeme_ ∷ after
  other : ms ≡ in_column false lexeme_ ∷ after
  opens_it : opens lexeme_.kind ≡ true

abbrev AreNear : List Lexeme → List Lexeme → Type 0
AreNear ls ms = (ms ≡ ls) ⊎ PairFirst ls ms

near_places : (place : ℕ) (ls ms : List Lexeme) → AreNear ls ms → SamePlaces (cut_from place [] ms) (cut_from place [] ls)
near_places place ls ms (inl same) = subst (λ x. SamePlaces (cut_from place [] x) (cut_from place [] ls)) (sym same) (same_places (cut_from place [] ls))
near_places place ls ms (inr p) =
    subst (λ x. SamePlaces (cut_from place [] x) (cut_from place [] ls)) (sym p.other)
    (subst (λ x. SamePlaces (cut_from place [] (in_column false p.lexeme_ ∷ p.after)) (cut_from place [] x)) (sym p.is)
    (subst (λ x. SamePlaces x (cut_from place [] (p.lexeme_ ∷ p.after))) (sym (pair_begins place (in_column false p.lexeme_) p.after p.opens_it))
    (subst (SamePlaces (cut_from place (in_column false p.lexeme_ ∷ []) p.after)) (sym (pair_begins place p.lexeme_ p.after p.opens_it)) (cut_firsts place false p.lexeme_ [] p.after))))

near_choice : (t : Bool) (l : Lexeme) (ls : List Lexeme) → tokens_among (cond t (l ∷ ls) ls) ≡ tokens_among (cond t (in_column false l ∷ ls) ls)
near_choice true l ls = flat_map-cons token_of l ls ∙ sym (flat_map-cons token_of (in_column false l) ls)
near_choice false l ls = refl

near_tokens : (from to : ℕ) (ls ms : List Lexeme) → AreNear ls ms → tokens_among (within from to ls) ≡ tokens_among (within from to ms)
near_tokens from to ls ms (inl same) = ap (λ x. tokens_among (within from to x)) (sym same)
near_tokens from to ls ms (inr p) =
    ap (λ x. tokens_among (within from to x)) p.is ∙ near_choice (nat_le from p.lexeme_.at && nat_lt p.lexeme_.at to) p.lexeme_ (within from to p.after)
    ∙ sym (ap (λ x. tokens_among (within from to x)) p.other)

-- a lexeme that opens a tag pair is the bracket
bracket : (first : Bool) (kind : LexemeKind) (text : List ℕ) → opens kind ≡ true → IsLexeme first kind text → text ≡ 91 ∷ []
bracket first (Token Open) text opened is = is
bracket first (Token Close) text opened is = absurd (true≢false (sym opened))
bracket first (Token Text) text opened is = absurd (true≢false (sym opened))
bracket first (Token Symbol) text opened is = absurd (true≢false (sym opened))
bracket first (Token Period) text opened is = absurd (true≢false (sym opened))
bracket first (Token Star) text opened is = absurd (true≢false (sym opened))
bracket first (Token LeftParen) text opened is = absurd (true≢false (sym opened))
bracket first (Token RightParen) text opened is = absurd (true≢false (sym opened))
bracket first (Token (Nag n)) text opened is = absurd (true≢false (sym opened))
bracket first (Token Null) text opened is = absurd (true≢false (sym opened))
bracket first (Token Comment) text opened is = absurd (true≢false (sym opened))
bracket first (Token LineComment) text opened is = absurd (true≢false (sym opened))
bracket first (Token BadByte) text opened is = absurd (true≢false (sym opened))
bracket first (Token UnclosedComment) text opened is = absurd (true≢false (sym opened))
bracket first (Token UnclosedText) text opened is = absurd (true≢false (sym opened))
bracket first EscapeLine text opened is = absurd (true≢false (sym opened))

head_of : (n c : ℕ) (cs : List ℕ) → take n (c ∷ cs) ≡ 91 ∷ [] → c ≡ 91
head_of zero c cs e = cc
head_of (suc n) c cs e = ap (λ t. get_or t 0 0) e

-- a marker's last byte ends no line
record EndsDark (text : List ℕ) : Type 0 where
  size : 0 < length text
  dark : ends_line (get_or text (length text - 1) 0) ≡ false

or_cases : (a b : Bool) → (a || b) ≡ true → (a ≡ true) ⊎ (b ≡ true)
or_cases true b is = inl refl
or_cases false b is = inr is

result_ends : (text : List ℕ) → is_result text ≡ true → EndsDark text
result_ends text is = ⊎_elim
    (λ first_two. ⊎_elim
    (λ e. subst EndsDark (sym ((bytes_eq-Decides text (codes "1-0")).0 e)) record { size = omega arith; dark = refl })
    (λ e. subst EndsDark (sym ((bytes_eq-Decides text (codes "0-1")).0 e)) record { size = omega arith; dark = refl })
    (or_cases (bytes_eq text (codes "1-0")) (bytes_eq text (codes "0-1")) first_two))
    (λ e. subst EndsDark (sym ((bytes_eq-Decides text (codes "1/2-1/2")).0 e)) record { size = omega arith; dark = refl })
    (or_cases (bytes_eq text (codes "1-0") || bytes_eq text (codes "0-1")) (bytes_eq text (codes "1/2-1/2")) is)

marker_ends : (first : Bool) (kind : LexemeKind) (text : List ℕ) → IsLexeme first kind text → marks kind text ≡ true → EndsDark text
marker_ends first (Token Star) text is m = subst EndsDark (sym is) record { size = omega arith; dark = refl }
marker_ends first (Token Symbol) text is m = result_ends text m
marker_ends first (Token Open) text is m = absurd (true≢false (sym m))
marker_ends first (Token Close) text is m = absurd (true≢false (sym m))
marker_ends first (Token Text) text is m = absurd (true≢false (sym m))
marker_ends first (Token Period) text is m = absurd (true≢false (sym m))
marker_ends first (Token LeftParen) text is m = absurd (true≢false (sym m))
marker_ends first (Token RightParen) text is m = absurd (true≢false (sym m))
marker_ends first (Token (Nag n)) text is m = absurd (true≢false (sym m))
marker_ends first (Token Null) text is m = absurd (true≢false (sym m))
marker_ends first (Token Comment) text is m = absurd (true≢false (sym m))
marker_ends first (Token LineComment) text is m = absurd (true≢false (sym m))
marker_ends first (Token BadByte) text is m = absurd (true≢false (sym m))
marker_ends first (Token UnclosedComment) text is m = absurd (true≢false (sym m))
marker_ends first (Token UnclosedText) text is m = absurd (true≢false (sym m))
marker_ends first EscapeLine text is m = absurd (true≢false (sym m))

-- the column after such a text
column_behind : (bytes : List ℕ) (at size : ℕ) (text : List ℕ) → text ≡ slice_range bytes at (at + size) → length text ≡ size → EndsDark text → first_at true bytes (at + size) ≡ false
column_behind bytes at size text is len ends =
    let some_ = ends.size in
    let i : ℕ = length text - 1 in
    let next : at + size ≡ suc (at + i) = omega arith in
    let there : at + size - at ≡ size = omega arith in
    let byte : get_or bytes (at + i) 0 ≡ get_or text i 0 =
    sym (get_or-drop at bytes i 0) ∙ sym (get_or-take (at + size - at) (drop at bytes) i 0 (omega arith)) ∙ sym (ap (λ t. get_or t i 0) is) in
    ap (first_at true bytes) next ∙ ap ends_line byte ∙ ends.dark

module _ (in_order : StandInOrder) (apart : StandApart) (are_local : AreLocal) (spelled : AreSpelled) (follow : LexemesFollow) (longest : AreLongest)
    (nothing : NothingHasNone) (white : WhiteIsPassed) (move : LexemesMove) where
  all_end : (at : ℕ) (first : Bool) (bytes : List ℕ) (place : ℕ) → at + length bytes ≡ place → AllByRecursion (λ l. end l ≤ place) (lexemes at first bytes)
  all_end at first bytes place is =
      map_all (StandsIn at first bytes) (λ l. end l ≤ place) (λ l s. let most = s.to_end in omega arith) (lexemes at first bytes) (apart at first bytes)

  -- a bracket in any column
  any_column : (first : Bool) (cs : List ℕ) → AreNear (lexemes 1 first (91 ∷ cs)) (lexemes 1 false (91 ∷ cs))
  unfolding reading single
  any_column first cs = inr record { lexeme_ = lexeme 1 first 91 cs; after = lexemes 2 false (drop 1 (91 ∷ cs)); is = follow 1 first 91 cs refl; other = follow 1 false 91 cs refl; opens_it = refl }

  module _ (w : List ℕ) (before : List Span) (g : Span) (after : List Span) (e : cut w ≡ before ++ g ∷ after) where
    start : ℕ
    start = text_start w

    text : List ℕ
    text = drop start w

    all : List Lexeme
    all = lexemes start true text

    place : ℕ
    place = length w

    rest : List ℕ
    rest = drop g.end w

    column : Bool
    column = first_at true text (g.end - start)

    size : start + length text ≡ place
    unfolding start text place
    size = let a = length-drop (text_start w) w in let b = text_within w in omega arith

    -- the game's end
    fits : (g.start < g.end) × (g.end ≤ length w)
    fits = (all_rest (EndsBy (length w)) before (g ∷ after) (subst (AllByRecursion (EndsBy (length w))) e (each_ends 0 (length w) (cut w) (games_in_order in_order apart w)))).0

    s : Split start place [] all before g after
    unfolding start text all place
    s = splits (length w) (text_start w) [] (archive_lexemes w) (in_order (text_start w) true (drop (text_start w) w)) (text_within w)
        (all_end (text_start w) true (drop (text_start w) w) (length w) size) before g after e

    pre_sized : AllByRecursion (λ l. l.at < end l) s.pre
    unfolding all
    pre_sized = all_front (λ l. l.at < end l) s.pre s.post (subst (AllByRecursion (λ l. l.at < end l)) s.split (sized start all (in_order start true text)))

    post_sized : AllByRecursion (λ l. l.at < end l) s.post
    unfolding all
    post_sized = all_rest (λ l. l.at < end l) s.pre s.post (subst (AllByRecursion (λ l. l.at < end l)) s.split (sized start all (in_order start true text)))

    pre_from : AllByRecursion (λ l. start ≤ l.at) s.pre
    unfolding all
    pre_from = all_front (λ l. start ≤ l.at) s.pre s.post (subst (AllByRecursion (λ l. start ≤ l.at)) s.split (order_from start all (in_order start true text)))

    post_end : AllByRecursion (λ l. end l ≤ place) s.post
    unfolding all
    post_end = all_rest (λ l. end l ≤ place) s.pre s.post (subst (AllByRecursion (λ l. end l ≤ place)) s.split (all_end start true text place size))

    seam_uncrossed : (p : ℕ) → p ≡ g.end → IsUncrossed p all
    seam_uncrossed p is = subst (λ q. IsUncrossed q all) (sym is) (subst (IsUncrossed g.end) (sym s.split)
        (all_both (λ l. (end l ≤ g.end) ⊎ (g.end ≤ l.at)) s.pre s.post (map_all (λ l. end l ≤ g.end) _ (λ l h. inl h) s.pre s.ends) (map_all (λ l. g.end ≤ l.at) _ (λ l h. inr h) s.post s.begins)))

    begin_uncrossed : IsUncrossed (start + 0) all
    unfolding all
    begin_uncrossed = map_all (λ l. start ≤ l.at) _ (λ l h. inr (omega (arith, h))) all (order_from start all (in_order start true text))

    end_uncrossed : IsUncrossed (start + length text) all
    unfolding all
    end_uncrossed = map_all (λ l. end l ≤ start + length text) _ (λ l h. inl h) all (all_end start true text (start + length text) refl)

    -- the lexemes before the seam
    front_lexemes : lexemes start true (take (g.end - start) text) ≡ s.pre
    unfolding all
    front_lexemes =
        let low = s.low in
        let to : start + (g.end - start) ≡ g.end = omega arith in
        let n : g.end - start - 0 ≡ g.end - start = omega arith in
        ap₂ (λ a k. lexemes a true (take k text)) (sym (add-zero start)) (sym n) ∙ are_local start true text 0 (g.end - start) begin_uncrossed (seam_uncrossed (start + (g.end - start)) to)
        ∙ ap₂ (λ a b. within a b all) (add-zero start) to
        ∙ ap (within start g.end) s.split ∙ within_is start g.end [] s.pre s.post tt pre_from (ends_before g.end s.pre pre_sized s.ends) s.begins

    front_cut : cut (take g.end w) ≡ before ++ g ∷ []
    unfolding start text
    front_cut =
        let low = s.low in
        let here : text_start (take g.end w) ≡ text_start w = start_front g.end w s.low in
        let n : g.end ≡ text_start w + (g.end - text_start w) = omega arith in
        let len : length (take g.end w) ≡ g.end = length-take-le g.end w fits.1 in
        ap₂ (λ k l. cut_from l [] (lexemes k true (drop k (take g.end w)))) here len
        ∙ ap (λ t. cut_from g.end [] (lexemes (text_start w) true t)) (ap (λ k. drop (text_start w) (take k w)) n ∙ drop-take (text_start w) (g.end - text_start w) w)
        ∙ ap (cut_from g.end []) front_lexemes ∙ s.closes

    -- and those after it
    rest_lexemes : lexemes g.end column rest ≡ s.post
    unfolding all column rest start text
    rest_lexemes =
        let low = s.low in
        let from : start + (g.end - start) ≡ g.end = omega arith in
        let bytes : slice_range text (g.end - start) (length text) ≡ drop g.end w = take_rest text (g.end - start) ∙ of_text from in
        ap₂ (λ a t. lexemes a (first_at true text (g.end - start)) t) (sym from) (sym bytes)
        ∙ are_local start true text (g.end - start) (length text) (seam_uncrossed (start + (g.end - start)) from) end_uncrossed
        ∙ ap₂ (λ a b. within a b all) from size
        ∙ ap (within g.end place) (s.split ∙ ap (λ x. s.pre ++ x) (sym (append-nil s.post)))
        ∙ within_is g.end place s.pre s.post [] (ends_before g.end s.pre pre_sized s.ends) s.begins (ends_before place s.post post_sized post_end) tt
      where
        of_text : text_start w + (g.end - text_start w) ≡ g.end → drop (g.end - text_start w) (drop (text_start w) w) ≡ drop g.end w
        of_text from = drop-drop (g.end - text_start w) (text_start w) w ∙ ap (λ k. drop k w) from

    n : ℕ
    n = g.end - 1

    post_moved : s.post ≡ map (moved n) (lexemes 1 column rest)
    unfolding n
    post_moved =
        let f = fits.0 in
        let one : 1 + (g.end - 1) ≡ g.end = omega arith in
        sym rest_lexemes ∙ ap (λ k. lexemes k column rest) (sym one) ∙ move (g.end - 1) 1 column rest

    -- after a marker no first column begins
    marker_column : WithMarker g.end s.pre → column ≡ false
    unfolding all column
    marker_column m =
        let l = m.lexeme in
        let whole : all ≡ m.before ++ (l ∷ (m.after ++ s.post)) = s.split ∙ ap (λ x. x ++ s.post) m.is_in ∙ append_assoc m.before (l ∷ m.after) s.post in
        let sp = (all_rest (IsSpelled start text) m.before (l ∷ (m.after ++ s.post)) (subst (AllByRecursion (IsSpelled start text)) whole (spelled start true text))).0 in
        let st = (all_rest (StandsIn start true text) m.before (l ∷ (m.after ++ s.post)) (subst (AllByRecursion (StandsIn start true text)) whole (apart start true text))).0 in
        let from = st.from_start in
        let to = m.ends in
        let a : end l - start ≡ (l.at - start) + length l.text = omega arith in
        let b : g.end - start ≡ (l.at - start) + length l.text = omega arith in
        ap (first_at true text) b
        ∙ column_behind text (l.at - start) (length l.text) l.text (sp.slice ∙ ap (slice_range text (l.at - start)) a) refl (marker_ends l.first l.kind l.text sp.kind m.marks_it)

    near_rest : (bytes : List ℕ) (post : List Lexeme) → lexemes g.end column bytes ≡ post → BeforePair g.end post → AreNear (lexemes 1 column bytes) (lexemes 1 false bytes)
    near_rest [] post is p = absurd (let x = sym (nothing g.end column) ∙ is ∙ p.is in cc)
    near_rest (c ∷ cs) post is p = ⊎_elim
        (λ w. absurd (let o = subst (InOrder (g.end + 1)) (sym (white g.end column c cs w) ∙ is ∙ p.is) (in_order (g.end + 1) (ends_line c) cs) in let h = o.0 in omega (arith, h, p.at)))
        (λ dark.
        let r = longest column c cs in
        let same : lexeme g.end column c cs ≡ p.lexeme = ap (λ ls. get_or ls 0 p.lexeme) (sym (follow g.end column c cs dark) ∙ is ∙ p.is) in
        let opened : opens (reading column c cs).kind ≡ true = ap (λ (l : Lexeme). opens l.kind) same ∙ p.opens_it in
        let head : c ≡ 91 = head_of (reading column c cs).len c cs (bracket column (reading column c cs).kind (take (reading column c cs).len (c ∷ cs)) opened r.reads) in
        subst (λ x. AreNear (lexemes 1 column (x ∷ cs)) (lexemes 1 false (x ∷ cs))) (sym head) (any_column column cs))
        (cases_Bool (is_white c))

    near : AreNear (lexemes 1 column rest) (lexemes 1 false rest)
    unfolding rest place
    near = by s.edge
      where
        by : Ends (length w) g.end s.pre s.post → AreNear (lexemes 1 column (drop g.end w)) (lexemes 1 false (drop g.end w))
        by (inl m) = inl (ap (λ c. lexemes 1 c (drop g.end w)) (sym (marker_column m)))
        by (inr (inl p)) = near_rest (drop g.end w) s.post rest_lexemes p
        by (inr (inr at)) =
            let none : drop g.end w ≡ [] = drop_all g.end w (omega arith) in
            inl (ap (lexemes 1 false) none ∙ nothing 1 false ∙ sym (ap (lexemes 1 column) none ∙ nothing 1 column))

    -- the cut of the rest
    behind_lexemes : archive_lexemes (spaced_rest w g.end) ≡ lexemes 1 false rest
    unfolding rest
    behind_lexemes = white 0 true 32 (drop g.end w) refl

    behind_cut : cut (spaced_rest w g.end) ≡ cut_from (suc (length rest)) [] (lexemes 1 false rest)
    unfolding rest
    behind_cut = ap (cut_from (suc (length (drop g.end w))) []) behind_lexemes

    after_is : after ≡ map (moved_span n) (cut_from (suc (length rest)) [] (lexemes 1 column rest))
    unfolding rest n place
    after_is =
        let f = fits.0 in let h = fits.1 in
        let len = length-drop g.end w in
        let whole : length w ≡ suc (length (drop g.end w)) + (g.end - 1) = omega arith in
        sym s.later ∙ ap₂ (λ k ls. cut_from k [] ls) whole post_moved ∙ cut_moves (g.end - 1) (suc (length (drop g.end w))) [] (lexemes 1 column (drop g.end w))

    -- games after the space begin after it
    late : AllByRecursion (λ h. 1 ≤ h.start) (cut_from (suc (length rest)) [] (lexemes 1 false rest))
    unfolding Begins
    late = starts_from 1 (suc (length rest)) (cut_from (suc (length rest)) [] (lexemes 1 false rest))
        (cut_in_order (suc (length rest)) 1 1 [] (lexemes 1 false rest) (omega arith) (omega arith) (in_order 1 false rest) (all_end 1 false rest (suc (length rest)) (omega arith)))

    same_tokens : (from to : ℕ) → 1 ≤ from → tokens_among (within (from + n) (to + n) all) ≡ map (moved_token n) (tokens_among (within from to (lexemes 1 false rest)))
    unfolding n
    same_tokens from to some_ =
        let f = fits.0 in
        let test : Lexeme → Bool = λ l. nat_le (from + (g.end - 1)) l.at && nat_lt l.at (to + (g.end - 1)) in
        let past : g.end ≤ from + (g.end - 1) = omega arith in
        let none = keeps_none test s.pre (map_all (λ l. l.at < g.end) (λ l. test l ≡ false) (λ l less. grind (arith, nat_tests)) s.pre (ends_before g.end s.pre pre_sized s.ends)) in
        ap tokens_among (ap (filter test) s.split ∙ filter-append test s.pre s.post ∙ ap (λ x. x ++ filter test s.post) none
        ∙ ap (filter test) post_moved ∙ within_moves (g.end - 1) from to (lexemes 1 column rest))
        ∙ tokens_move (g.end - 1) (within from to (lexemes 1 column rest)) ∙ ap (map (moved_token (g.end - 1))) (near_tokens from to (lexemes 1 column rest) (lexemes 1 false rest) near)

    moved_all : (ms ls : List Span) → SamePlaces ms ls → AllByRecursion (HasItsLexemes (spaced_rest w g.end)) ms
        → AllByRecursion (λ h. 1 ≤ h.start) ms → AllByRecursion (HasItsLexemes w) (map (moved_span n) ls)
        → AreMovedGames n (spaced_rest w g.end) w ms (map (moved_span n) ls)
    unfolding all start text
    moved_all [] [] same here begins there = tt
    moved_all [] (l ∷ ls) same here begins there = absurd same
    moved_all (m ∷ ms) [] same here begins there = absurd same
    moved_all (m ∷ ms) (l ∷ ls) same here begins there = (
      record { starts = ap (λ k. k + n) (sym same.0); ends = ap (λ k. k + n) (sym same.1); tokens = one_tokens m l same.0 same.1 here.0 begins.0 there.0 },
      moved_all ms ls same.2 here.1 begins.1 there.1,
    )
      where
        one_tokens : (m l : Span) → m.start ≡ l.start → m.end ≡ l.end → HasItsLexemes (spaced_rest w g.end) m → 1 ≤ m.start → HasItsLexemes w (moved_span n l)
            → tokens_among (lexemes (l.start + n) l.first (game_bytes w (moved_span n l))) ≡ map (moved_token n) (tokens_among (lexemes m.start m.first (game_bytes (spaced_rest w g.end) m)))
        one_tokens m l start_is end_is here begins there =
            ap tokens_among there ∙ ap₂ (λ a b. tokens_among (within (a + n) (b + n) all)) (sym start_is) (sym end_is)
            ∙ same_tokens m.start m.end begins ∙ ap (λ ls. map (moved_token n) (tokens_among (within m.start m.end ls))) (sym behind_lexemes)
            ∙ sym (ap (λ ls. map (moved_token n) (tokens_among ls)) here)

    is_seam : IsSeam w before g after
    unfolding n
    is_seam = record {
      front = front_cut;
      rest = subst (λ ms. AreMovedGames (g.end - 1) (spaced_rest w g.end) w ms after) (sym behind_cut)
          (subst (AreMovedGames (g.end - 1) (spaced_rest w g.end) w (cut_from (suc (length rest)) [] (lexemes 1 false rest))) (sym after_is)
          (moved_all (cut_from (suc (length rest)) [] (lexemes 1 false rest)) (cut_from (suc (length rest)) [] (lexemes 1 column rest))
          (near_places (suc (length rest)) (lexemes 1 column rest) (lexemes 1 false rest) near)
          (subst (AllByRecursion (HasItsLexemes (spaced_rest w g.end))) behind_cut (joined apart are_local (spaced_rest w g.end)))
          late
          (subst (AllByRecursion (HasItsLexemes w)) after_is (all_rest (HasItsLexemes w) before (g ∷ after) (subst (AllByRecursion (HasItsLexemes w)) e (joined apart are_local w))).1)));
    }

  pub splits_behind : (archive : List ℕ) (before : List Span) (game : Span) (after : List Span) → cut archive ≡ before ++ game ∷ after → IsSeam archive before game after
  splits_behind archive before game after e = is_seam archive before game after e
