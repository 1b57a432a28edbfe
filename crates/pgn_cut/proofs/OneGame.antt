-- No game ends within a game of a cut.
use Rattle.std.proofs.Common.{◌≡◌, ℕ, ◌<◌, ◌≤◌, ◌⊎◌, Bool, true, false, cond, List, [], ◌∷◌, ◌++◌, length, get_or, drop, refl, sym, ap, ap₂, ◌∙◌, subst, inl, inr, ⊎_elim, arith, true≢false, length-append, append_assoc, append-nil, length-drop}
use Rattle.std.specs.Prelude.{◌&&◌, ◌==◌, nat_le, nat_lt, filter, fold, if◌then◌else◌}
use Rattle.std.specs.List.{AllByRecursion, list_all}
use Rattle.std.proofs.lemmas.Bool.{and_parts}
use Rattle.std.proofs.lemmas.Bool.Decides.{nat_tests}
use Rattle.std.proofs.lemmas.List.Elements.{All-from_recursion, All-contains, filter-append}
use Rattle.pgn_lexer.specs.Lexemes.{Lexeme, end, lexemes, token_of, token_if, tokens_among, tokens_of}
use Rattle.pgn_lexer.specs.Locality.{AreLexemesInOrder as InOrder, StandsIn, within}
use Rattle.pgn_lexer.specs.Texts.{IsSpelled, token_text}
use Rattle.pgn_lexer.specs.declared.token.LexemeKind.{LexemeKind}
use Rattle.pgn_lexer.specs.declared.token.LexemeKind.TheVariants.{EscapeLine, Token}
use Rattle.pgn_lexer.specs.declared.token.TokenKind.TheVariants.{Open, Close, Text, Symbol, Period, Star, LeftParen, RightParen, Nag, Null, Comment, LineComment, BadByte, UnclosedComment, UnclosedText}
use Rattle.pgn_lexer.specs.declared.token.Token.{Token as GameToken}
use Rattle.pgn_cut.specs.Cut.{marks, nest, depth, opens, is_passed_over, ends_before, ends_after, span_to, cut_from, cut, text_start, archive_lexemes}
use Rattle.pgn_cut.specs.GameTokens.{game_bytes}
use Rattle.pgn_cut.specs.OneGame.{IsGameOfCut, IsUncut, token_depth, IsEndedByMarker}
use Rattle.pgn_cut.specs.declared.span.Span.{Span}
use Rattle.pgn_cut.proofs.Joins.{StandApart, AreLocal, HasItsLexemes, joined, map_all, of_both, text_within}
use Rattle.pgn_cut.proofs.Order.{StandInOrder}

-- a property of two lists holds of both together, and of each
pub all_both : {A : Type 0} (P : A → Type 0) (xs ys : List A) → AllByRecursion P xs → AllByRecursion P ys → AllByRecursion P (xs ++ ys)
all_both P [] ys all rest = rest
all_both P (x ∷ xs) ys all rest = (all.0, all_both P xs ys all.1 rest)

pub all_front : {A : Type 0} (P : A → Type 0) (xs ys : List A) → AllByRecursion P (xs ++ ys) → AllByRecursion P xs
all_front P [] ys all = tt
all_front P (x ∷ xs) ys all = (all.0, all_front P xs ys all.1)

pub all_rest : {A : Type 0} (P : A → Type 0) (xs ys : List A) → AllByRecursion P (xs ++ ys) → AllByRecursion P ys
all_rest P [] ys all = all
all_rest P (x ∷ xs) ys all = all_rest P xs ys all.1

-- filters that keep all, and nothing
keeps : {A : Type 0} (p : A → Bool) (xs : List A) → AllByRecursion (λ x. p x ≡ true) xs → filter p xs ≡ xs
keeps p [] all = refl
keeps p (x ∷ xs) all = ap (λ t. cond t (x ∷ filter p xs) (filter p xs)) all.0 ∙ ap (λ l. x ∷ l) (keeps p xs all.1)

pub keeps_none : {A : Type 0} (p : A → Bool) (xs : List A) → AllByRecursion (λ x. p x ≡ false) xs → filter p xs ≡ []
keeps_none p [] all = refl
keeps_none p (x ∷ xs) all = ap (λ t. cond t (x ∷ filter p xs) (filter p xs)) all.0 ∙ keeps_none p xs all.1

-- a split of a list with one more element at its end
split_push : {A : Type 0} (xs : List A) (x : A) (before : List A) (y : A) (after : List A) → xs ++ x ∷ [] ≡ before ++ y ∷ after
    → ((after ≡ []) × (before ≡ xs) × (y ≡ x)) ⊎ ((less : List A) × (xs ≡ before ++ y ∷ less))
split_push [] x [] y after e = inl (sym (ap (drop 1) e), refl, sym (ap (λ l. get_or l 0 x) e))
split_push [] x (b ∷ bs) y after e = let n = ap length e in let m = length-append bs (y ∷ after) in absurd (omega arith)
split_push (z ∷ zs) x [] y after e = inr (zs, ap (λ a. a ∷ zs) (ap (λ l. get_or l 0 z) e))
split_push (z ∷ zs) x (b ∷ bs) y after e =
    let head : z ≡ b = ap (λ l. get_or l 0 z) e in
    ⊎_elim (λ last. inl (last.0, ap₂ (λ a l. a ∷ l) (sym head) last.1, last.2)) (λ more. inr (more.0, ap₂ (λ a l. a ∷ l) head more.1))
    (split_push zs x bs y after (ap (drop 1) e))

pub no_split : {A : Type 0} (before : List A) (y : A) (after : List A) → [] ≡ before ++ y ∷ after → ⊥
no_split [] y after e = cc
no_split (b ∷ bs) y after e = cc

-- lexemes of a game that nothing has ended yet
record IsOpen (game : List Lexeme) : Type 0 where
  each : (before : List Lexeme) (l : Lexeme) (after : List Lexeme) → game ≡ before ++ l ∷ after → (ends_before before l ≡ false) × (ends_after before l ≡ false)

none_open : IsOpen []
none_open = record { each = λ before l after e. absurd (no_split before l after e) }

more_open : (game : List Lexeme) (l : Lexeme) → IsOpen game → ends_before game l ≡ false → ends_after game l ≡ false → IsOpen (game ++ l ∷ [])
more_open game l open_ no_before no_after = record {
  each = λ before m after e. ⊎_elim
      (λ last. (ap₂ ends_before last.1 last.2 ∙ no_before, ap₂ ends_after last.1 last.2 ∙ no_after))
      (λ more. open_.each before m more.0 more.1)
      (split_push game l before m after e);
}

open_uncut : (game : List Lexeme) → IsOpen game → IsUncut game
open_uncut game open_ = λ before l after e. let known = open_.each before l after e in (known.0, λ ends. absurd (true≢false (sym ends ∙ known.1)))

-- and those of one that ends with the last of them
closed_uncut : (game : List Lexeme) (l : Lexeme) → IsOpen game → ends_before game l ≡ false → IsUncut (game ++ l ∷ [])
closed_uncut game l open_ no_before = λ before m after e. ⊎_elim
    (λ last. (ap₂ ends_before last.1 last.2 ∙ no_before, λ _. last.0))
    (λ more. let known = open_.each before m more.0 more.1 in (known.0, λ ends. absurd (true≢false (sym ends ∙ known.1))))
    (split_push game l before m after e)

-- a lexeme that opens a tag pair marks nothing
pub opens_marks : (kind : LexemeKind) (text : List ℕ) → opens kind ≡ true → marks kind text ≡ false
opens_marks EscapeLine text is = refl
opens_marks (Token Open) text is = refl
opens_marks (Token Close) text is = refl
opens_marks (Token Text) text is = refl
opens_marks (Token Symbol) text is = absurd (true≢false (sym is))
opens_marks (Token Period) text is = refl
opens_marks (Token Star) text is = absurd (true≢false (sym is))
opens_marks (Token LeftParen) text is = refl
opens_marks (Token RightParen) text is = refl
opens_marks (Token (Nag n)) text is = refl
opens_marks (Token Null) text is = refl
opens_marks (Token Comment) text is = refl
opens_marks (Token LineComment) text is = refl
opens_marks (Token BadByte) text is = refl
opens_marks (Token UnclosedComment) text is = refl
opens_marks (Token UnclosedText) text is = refl

pub and_false : (t : Bool) → (t && false) ≡ false
and_false true = refl
and_false false = refl

first_open : (game : List Lexeme) (l : Lexeme) → ends_before game l ≡ true → IsOpen (l ∷ [])
first_open game l ends =
    let is : opens l.kind ≡ true = (and_parts (opens l.kind) (l.first) (and_parts _ _ ends).0).0 in
    more_open [] l none_open (and_false (opens l.kind && l.first)) (ap (λ t. t && true) (opens_marks l.kind l.text is))

-- lexemes in order from a place on begin there or after it
pub order_from : (q : ℕ) (ls : List Lexeme) → InOrder q ls → AllByRecursion (λ l. q ≤ l.at) ls
order_from q [] order = tt
order_from q (l ∷ ls) order = (order.0, map_all (λ m. end l ≤ m.at) (λ m. q ≤ m.at) (λ m after. let h = order.0 in omega arith) ls (order_from (end l) ls order.2))

-- those before one of them begin before it
order_before : (q : ℕ) (xs : List Lexeme) (l : Lexeme) (ls : List Lexeme) → InOrder q (xs ++ l ∷ ls) → AllByRecursion (λ x. x.at < l.at) xs
order_before q [] l ls order = tt
order_before q (x ∷ xs) l ls order =
    let some = order.1 in
    let after = all_rest (λ m. end x ≤ m.at) xs (l ∷ ls) (order_from (end x) (xs ++ l ∷ ls) order.2) in
    let first_after = after.0 in
    (omega arith, order_before (end x) xs l ls order.2)

order_rest : (q : ℕ) (xs : List Lexeme) (l : Lexeme) (ls : List Lexeme) → InOrder q (xs ++ l ∷ ls) → InOrder l.at (l ∷ ls)
order_rest q [] l ls order = (omega arith, order.1, order.2)
order_rest q (x ∷ xs) l ls order = order_rest (end x) xs l ls order.2

inside_each : (from to : ℕ) (ls : List Lexeme) → AllByRecursion (λ l. from ≤ l.at) ls → AllByRecursion (λ l. l.at < to) ls → AllByRecursion (λ l. (nat_le from l.at && nat_lt l.at to) ≡ true) ls
inside_each from to [] first last = tt
inside_each from to (l ∷ ls) first last =
    let a = first.0 in
    let b = last.0 in
    (grind (arith, nat_tests), inside_each from to ls first.1 last.1)

-- lexemes between others are those within their places
pub within_is : (from to : ℕ) (done mid rest : List Lexeme) → AllByRecursion (λ l. l.at < from) done → AllByRecursion (λ l. from ≤ l.at) mid
    → AllByRecursion (λ l. l.at < to) mid → AllByRecursion (λ l. to ≤ l.at) rest
    → within from to (done ++ (mid ++ rest)) ≡ mid
within_is from to done mid rest before first last after =
    let test : Lexeme → Bool = λ l. nat_le from l.at && nat_lt l.at to in
    let none = keeps_none test done (map_all (λ l. l.at < from) (λ l. test l ≡ false) (λ l less. grind (arith, nat_tests)) done before) in
    let all = keeps test mid (inside_each from to mid first last) in
    let rest_none = keeps_none test rest (map_all (λ l. to ≤ l.at) (λ l. test l ≡ false) (λ l past. grind (arith, nat_tests)) rest after) in
    filter-append test done (mid ++ rest) ∙ ap (λ l. l ++ filter test (mid ++ rest)) none
    ∙ filter-append test mid rest ∙ ap₂ (λ a b. a ++ b) all rest_none ∙ append-nil mid

-- no game ends within a game, by the lexemes of its archive
IsWhole : List Lexeme → Span → Type 0
IsWhole all game = IsUncut (within game.start game.end all)

span_whole : (all done mid rest : List Lexeme) (q to : ℕ) → all ≡ done ++ (mid ++ rest) → AllByRecursion (λ l. l.at < q) done → InOrder q (mid ++ rest) → AllByRecursion (λ l. l.at < to) mid
    → AllByRecursion (λ l. to ≤ l.at) rest → IsUncut mid → AllByRecursion (IsWhole all) (span_to to mid)
unfolding IsWhole
span_whole all done [] rest q to is before order last after uncut = tt
span_whole all done (g ∷ gs) rest q to is before order last after uncut =
    let from = order.0 in
    let done_before = map_all (λ l. l.at < q) (λ l. l.at < g.at) (λ l less. omega arith) done before in
    let others = map_all (λ l. end g ≤ l.at) (λ l. g.at ≤ l.at) (λ l past. omega arith) gs (all_front (λ l. end g ≤ l.at) gs rest (order_from (end g) (gs ++ rest) order.2)) in
    let same = ap (within g.at to) is ∙ within_is g.at to done (g ∷ gs) rest done_before (omega arith, others) last after in
    (subst IsUncut (sym same) uncut, tt)

by_test : {A : Type 0} (P : A → Type 0) (t : Bool) (x y : A) → (t ≡ true → P x) → (t ≡ false → P y) → P (cond t x y)
by_test P true x y on_true on_false = on_true refl
by_test P false x y on_true on_false = on_false refl

-- and so each game of a cut: `done` has the lexemes before the game that is open, which end by the place q
each_whole : (all done game rest : List Lexeme) (q place : ℕ) → all ≡ done ++ (game ++ rest) → AllByRecursion (λ l. l.at < q) done → InOrder q (game ++ rest)
    → AllByRecursion (λ l. l.at < place) (game ++ rest) → IsOpen game → AllByRecursion (IsWhole all) (cut_from place game rest)
unfolding cut_from
each_whole all done game [] q place is before order last open_ =
    of_both (AllByRecursion (IsWhole all)) (list_all (λ l. is_passed_over l.kind) game) [] (span_to place game) tt
    (span_whole all done game [] q place is before order (all_front (λ l. l.at < place) game [] last) tt (open_uncut game open_))
each_whole all done game (l ∷ ls) q place is before order last open_ =
    let begun = order_rest q game l ls order in
    let game_before = order_before q game l ls order in
    let from = (all_rest (λ m. q ≤ m.at) game (l ∷ ls) (order_from q (game ++ l ∷ ls) order)).0 in
    let some = begun.1 in
    let rest_after = order_from (end l) ls begun.2 in
    let later = all_rest (λ m. m.at < place) game (l ∷ ls) last in
    let pushed : game ++ l ∷ ls ≡ (game ++ l ∷ []) ++ ls = sym (append_assoc game (l ∷ []) ls) in
    let is_pushed : all ≡ done ++ ((game ++ l ∷ []) ++ ls) = is ∙ ap (λ x. done ++ x) pushed in
    let done_before = map_all (λ m. m.at < q) (λ m. m.at < l.at) (λ m less. omega arith) done before in
    let by_end = map_all (λ m. m.at < l.at) (λ m. m.at < end l) (λ m less. omega arith) game game_before in
    let game_by_end = all_both (λ m. m.at < end l) game (l ∷ []) by_end (omega arith, tt) in
    by_test (AllByRecursion (IsWhole all)) (ends_before game l) (span_to l.at game ++ cut_from place (l ∷ []) ls)
    (if ends_after game l then span_to (end l) (game ++ l ∷ []) ++ cut_from place [] ls else cut_from place (game ++ l ∷ []) ls)
    (λ ends. all_both (IsWhole all) (span_to l.at game) (cut_from place (l ∷ []) ls)
    (span_whole all done game (l ∷ ls) q l.at is before order game_before (order_from l.at (l ∷ ls) begun) (open_uncut game open_))
    (each_whole all (done ++ game) (l ∷ []) ls l.at place (is ∙ sym (append_assoc done game (l ∷ ls)))
    (all_both (λ m. m.at < l.at) done game done_before game_before) begun later (first_open game l ends)))
    (λ goes. by_test (AllByRecursion (IsWhole all)) (ends_after game l) (span_to (end l) (game ++ l ∷ []) ++ cut_from place [] ls) (cut_from place (game ++ l ∷ []) ls)
    (λ ends. all_both (IsWhole all) (span_to (end l) (game ++ l ∷ [])) (cut_from place [] ls)
    (span_whole all done (game ++ l ∷ []) ls q (end l) is_pushed before (subst (InOrder q) pushed order) game_by_end rest_after (closed_uncut game l open_ goes))
    (each_whole all (done ++ (game ++ l ∷ [])) [] ls (end l) place (is_pushed ∙ sym (append_assoc done (game ++ l ∷ []) ls))
    (all_both (λ m. m.at < end l) done (game ++ l ∷ []) (map_all (λ m. m.at < l.at) (λ m. m.at < end l) (λ m less. omega arith) done done_before) game_by_end) begun.2 later.1 none_open))
    (λ goes_on. each_whole all done (game ++ l ∷ []) ls q place is_pushed before (subst (InOrder q) pushed order)
    (subst (AllByRecursion (λ m. m.at < place)) pushed last) (more_open game l open_ goes goes_on)))

all_whole : StandInOrder → StandApart → (archive : List ℕ) → AllByRecursion (IsWhole (archive_lexemes archive)) (cut archive)
all_whole in_order apart archive =
    let start = text_start archive in
    let text = drop start archive in
    let inside = text_within archive in
    let len = length-drop start archive in
    each_whole (archive_lexemes archive) [] [] (archive_lexemes archive) start (length archive) refl tt (in_order start true text)
    (map_all (StandsIn start true text) (λ l. l.at < length archive) (λ l s. let most = s.to_end in let some = s.some in omega arith) (archive_lexemes archive) (apart start true text)) none_open

both_of : {A : Type 0} (P Q R : A → Type 0) → ((x : A) → P x → Q x → R x) → (xs : List A) → AllByRecursion P xs → AllByRecursion Q xs → AllByRecursion R xs
both_of P Q R f [] p q = tt
both_of P Q R f (x ∷ xs) p q = (f x p.0 q.0, both_of P Q R f xs p.1 q.1)

-- no game ends within the bytes of a game
HasNoEnd : List ℕ → Span → Type 0
HasNoEnd archive game = IsUncut (lexemes game.start game.first (game_bytes archive game))

each_uncut : StandInOrder → StandApart → AreLocal → (archive : List ℕ) → AllByRecursion (HasNoEnd archive) (cut archive)
unfolding IsWhole HasNoEnd
each_uncut in_order apart are_local archive =
    both_of (HasItsLexemes archive) (IsWhole (archive_lexemes archive)) (HasNoEnd archive) (λ game has whole. subst IsUncut (sym has) whole) (cut archive)
    (joined apart are_local archive) (all_whole in_order apart archive)

pub games_uncut : StandInOrder → StandApart → AreLocal → (start : ℕ) (first : Bool) (bytes : List ℕ) → IsGameOfCut start first bytes → IsUncut (lexemes start first bytes)
unfolding HasNoEnd
games_uncut in_order apart are_local start first bytes is =
    let all = All-from_recursion (HasNoEnd is.archive) (cut is.archive) (each_uncut in_order apart are_local is.archive) in
    let here : IsUncut (lexemes is.game.start is.game.first (game_bytes is.archive is.game)) = All-contains (HasNoEnd is.archive) (cut is.archive) is.game all is.among in
    subst (λ s. IsUncut (lexemes s first bytes)) is.starts
    (subst (λ f. IsUncut (lexemes is.game.start f bytes)) is.column (subst (λ b. IsUncut (lexemes is.game.start is.game.first b)) (sym is.has) here))

-- the place of a token among the lexemes that give it
record Split (ls : List Lexeme) (before : List GameToken) (t : GameToken) (after : List GameToken) : Type 0 where
  xs : List Lexeme
  l : Lexeme
  ys : List Lexeme
  is : ls ≡ xs ++ l ∷ ys
  earlier : tokens_among xs ≡ before
  here : token_of l ≡ t ∷ []
  later : tokens_among ys ≡ after

one_on : (m : Lexeme) (ls : List Lexeme) (before whole : List GameToken) (t : GameToken) (after : List GameToken) → token_of m ++ before ≡ whole
    → Split ls before t after → Split (m ∷ ls) whole t after
one_on m ls before whole t after joined_ s = record {
  xs = m ∷ s.xs;
  l = s.l;
  ys = s.ys;
  is = ap (λ l. m ∷ l) s.is;
  earlier = ap (λ l. token_of m ++ l) s.earlier ∙ joined_;
  here = s.here;
  later = s.later;
}

split_at : (m : Lexeme) (kind : LexemeKind) → m.kind ≡ kind → (ls : List Lexeme) (before : List GameToken) (t : GameToken) (after : List GameToken)
    → ((less : List GameToken) → tokens_among ls ≡ less ++ t ∷ after → Split ls less t after)
    → token_if m.at (length m.text) kind ++ tokens_among ls ≡ before ++ t ∷ after → Split (m ∷ ls) before t after
split_at m EscapeLine kind_is ls before t after rec e = one_on m ls before before t after (ap (λ k. token_if m.at (length m.text) k ++ before) kind_is) (rec before e)
split_at m (Token kind) kind_is ls [] t after rec e =
    let same : record { at = m.at; len = length m.text; kind = kind } ≡ t = ap (λ l. get_or l 0 t) e in
    record { xs = []; l = m; ys = ls; is = refl; earlier = refl; here = ap (token_if m.at (length m.text)) kind_is ∙ ap (λ x. x ∷ []) same; later = ap (drop 1) e }
split_at m (Token kind) kind_is ls (b ∷ bs) t after rec e =
    let same : record { at = m.at; len = length m.text; kind = kind } ≡ b = ap (λ l. get_or l 0 t) e in
    one_on m ls bs (b ∷ bs) t after (ap (λ k. token_if m.at (length m.text) k ++ bs) kind_is ∙ ap (λ x. x ∷ bs) same) (rec bs (ap (drop 1) e))

split_tokens : (ls : List Lexeme) (before : List GameToken) (t : GameToken) (after : List GameToken) → tokens_among ls ≡ before ++ t ∷ after → Split ls before t after
split_tokens [] before t after e = absurd (no_split before t after e)
split_tokens (m ∷ ls) before t after e = split_at m m.kind refl ls before t after (λ less is. split_tokens ls less t after is) e

-- escape lines open no variation
depth_over : (d at len : ℕ) (kind : LexemeKind) (ts : List GameToken)
    → fold (λ n (t : GameToken). nest n (Token t.kind)) d (token_if at len kind ++ ts) ≡ fold (λ n (t : GameToken). nest n (Token t.kind)) (nest d kind) ts
depth_over d at len EscapeLine ts = refl
depth_over d at len (Token kind) ts = refl

depth_from : (d : ℕ) (ls : List Lexeme) → fold (λ n (t : GameToken). nest n (Token t.kind)) d (tokens_among ls) ≡ fold (λ n (l : Lexeme). nest n l.kind) d ls
depth_from d [] = refl
depth_from d (l ∷ ls) = depth_over d l.at (length l.text) l.kind (tokens_among ls) ∙ depth_from (nest d l.kind) ls

-- the one token of a lexeme
one_token : (l : Lexeme) (kind : LexemeKind) → l.kind ≡ kind → (t : GameToken) → token_if l.at (length l.text) kind ≡ t ∷ [] → (l.kind ≡ Token t.kind) × (l.at ≡ t.at) × (length l.text ≡ t.len)
one_token l EscapeLine kind_is t e = cc
one_token l (Token kind) kind_is t e =
    let same : record { at = l.at; len = length l.text; kind = kind } ≡ t = ap (λ x. get_or x 0 t) e in
    (kind_is ∙ ap (λ (x : GameToken). Token x.kind) same, ap (λ (x : GameToken). x.at) same, ap (λ (x : GameToken). x.len) same)

-- the law of the texts of lexemes, as a type
abbrev pub AreSpelled : Type 0
AreSpelled = (start : ℕ) (first : Bool) (bytes : List ℕ) → AllByRecursion (IsSpelled start bytes) (lexemes start first bytes)

-- so no token comes after a marker outside variations
pub tokens_ended : AreSpelled → (start : ℕ) (first : Bool) (bytes : List ℕ) → IsUncut (lexemes start first bytes) → IsEndedByMarker start bytes (tokens_of start first bytes)
tokens_ended spelled start first bytes uncut = λ before t after e ends.
    let s = split_tokens (lexemes start first bytes) before t after e in
    let token = one_token s.l s.l.kind refl t s.here in
    let known = (all_rest (IsSpelled start bytes) s.xs (s.l ∷ s.ys) (subst (AllByRecursion (IsSpelled start bytes)) s.is (spelled start first bytes))).0 in
    let text : s.l.text ≡ token_text start bytes t = known.slice ∙ ap₂ (λ a n. token_text start bytes (record { at = a; len = n; kind = t.kind })) token.1 token.2 in
    let depth_is : token_depth before ≡ depth s.xs = ap token_depth (sym s.earlier) ∙ depth_from 0 s.xs in
    let closing : ends_after s.xs s.l ≡ true = ap₂ (λ k x. marks k x && depth s.xs == 0) token.0 text ∙ ap (λ d. marks (Token t.kind) (token_text start bytes t) && d == 0) (sym depth_is) ∙ ends in
    let none : s.ys ≡ [] = (uncut s.xs s.l s.ys s.is).1 closing in
    sym s.later ∙ ap tokens_among none
