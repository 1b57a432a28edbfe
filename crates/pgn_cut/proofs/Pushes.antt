-- The progress of a game, with one more lexeme.
use Rattle.std.proofs.Common.{◌≡◌, ℕ, Bool, true, false, cond, List, [], ◌∷◌, ◌++◌, Some, refl, sym, ap, ap₂, ◌∙◌}
use Rattle.std.specs.Prelude.{not, ◌&&◌, ◌||◌, fold, if◌then◌else◌}
use Rattle.std.specs.Option.{unwrap_or, option_to_list}
use Rattle.std.specs.List.{list_all}
use Rattle.std.proofs.lemmas.List.Sums.{fold_push}
use Rattle.std.proofs.lemmas.List.Recursion.{and_push}
use Rattle.pgn_lexer.specs.Lexemes.{Lexeme}
use Rattle.pgn_cut.specs.Cut.{depth, nest, opens_pair, is_movetext, movetext_in, has_movetext, is_passed_over, span_to, cut_from}
use Rattle.pgn_cut.specs.Progress.{start_of, span_from, in_pair, has_more, progress_of, IsViewOf}
use Rattle.pgn_cut.specs.declared.game.OpenGame.{OpenGame}
use Rattle.pgn_cut.specs.declared.game.LexemeView.{LexemeView}

or_assoc : (a b c : Bool) → (a || (b || c)) ≡ (a || b || c)
or_assoc true b c = refl
or_assoc false b c = refl

or_false : (a : Bool) → (a || false) ≡ a
or_false true = refl
or_false false = refl

not_and : (a b : Bool) → not (a && b) ≡ (not a || not b)
not_and true b = refl
not_and false b = refl

start_push : (game : List Lexeme) (l : Lexeme) → start_of (game ++ l ∷ []) ≡ Some (unwrap_or (start_of game) (record { at = l.at; first = l.first }))
start_push [] l = refl
start_push (x ∷ xs) l = refl

movetext_push : (open_ : Bool) (game : List Lexeme) (l : Lexeme)
    → movetext_in open_ (game ++ l ∷ []) ≡ (movetext_in open_ game || (is_movetext l.kind && not (fold (λ o x. opens_pair o x.kind) open_ game)))
movetext_push open_ [] l = or_false (is_movetext l.kind && not open_)
movetext_push open_ (x ∷ xs) l =
    ap (λ t. (is_movetext x.kind && not open_) || t) (movetext_push (opens_pair open_ x.kind) xs l)
    ∙ or_assoc (is_movetext x.kind && not open_) (movetext_in (opens_pair open_ x.kind) xs) (is_movetext l.kind && not (fold (λ o y. opens_pair o y.kind) (opens_pair open_ x.kind) xs))

all_push : (game : List Lexeme) (l : Lexeme) → has_more (game ++ l ∷ []) ≡ (has_more game || not (is_passed_over l.kind))
all_push game l =
    ap not (and_push (list_all (λ x. is_passed_over x.kind)) (λ x. is_passed_over x.kind) refl (λ _ _. refl) game l)
    ∙ not_and (list_all (λ x. is_passed_over x.kind) game) (is_passed_over l.kind)

not_cond : {A : Type 0} (t : Bool) (x : List A) → cond (not t) x [] ≡ cond t [] x
not_cond true x = refl
not_cond false x = refl

-- one more lexeme, by the parts of what was kept
pub progress_push : (game : List Lexeme) (l : Lexeme) (was : OpenGame) → was ≡ progress_of game → (now : OpenGame)
    → now.start ≡ Some (unwrap_or was.start (record { at = l.at; first = l.first })) → now.depth ≡ nest was.depth l.kind → now.in_pair ≡ opens_pair was.in_pair l.kind
    → now.has_movetext ≡ (was.has_movetext || (is_movetext l.kind && not was.in_pair)) → now.has_more ≡ (was.has_more || not (is_passed_over l.kind))
    → now ≡ progress_of (game ++ l ∷ [])
unfolding progress_of
progress_push game l was was_is now start_is depth_is pair_is movetext_is more_is =
    let start : now.start ≡ start_of (game ++ l ∷ []) = start_is ∙ ap (λ w. Some (unwrap_or w.start (record { at = l.at; first = l.first }))) was_is ∙ sym (start_push game l) in
    let nests : now.depth ≡ depth (game ++ l ∷ []) = depth_is ∙ ap (λ w. nest w.depth l.kind) was_is ∙ sym (fold_push (λ d x. nest d x.kind) 0 game l) in
    let pairs : now.in_pair ≡ in_pair (game ++ l ∷ []) = pair_is ∙ ap (λ w. opens_pair w.in_pair l.kind) was_is ∙ sym (fold_push (λ o x. opens_pair o x.kind) false game l) in
    let movetext : now.has_movetext ≡ has_movetext (game ++ l ∷ []) = movetext_is ∙ ap (λ w. w.has_movetext || (is_movetext l.kind && not w.in_pair)) was_is ∙ sym (movetext_push false game l) in
    let more : now.has_more ≡ has_more (game ++ l ∷ []) = more_is ∙ ap (λ w. w.has_more || not (is_passed_over l.kind)) was_is ∙ sym (all_push game l) in
    λ i. record { start = start i; depth = nests i; in_pair = pairs i; has_movetext = movetext i; has_more = more i }

-- the same by what a look shows of the lexeme
pub shown_push : (game : List Lexeme) (l : Lexeme) (look : LexemeView) → IsViewOf look l → (was : OpenGame) → was ≡ progress_of game → (now : OpenGame)
    → now.start ≡ Some (unwrap_or was.start (record { at = look.at; first = look.first })) → now.depth ≡ nest was.depth look.kind → now.in_pair ≡ opens_pair was.in_pair look.kind
    → now.has_movetext ≡ (was.has_movetext || (is_movetext look.kind && not was.in_pair)) → now.has_more ≡ (was.has_more || not (is_passed_over look.kind))
    → now ≡ progress_of (game ++ l ∷ [])
shown_push game l look shows was was_is now start_is depth_is pair_is movetext_is more_is =
    progress_push game l was was_is now
    (start_is ∙ ap₂ (λ a f. Some (unwrap_or was.start (record { at = a; first = f }))) shows.at shows.first)
    (depth_is ∙ shows.alike.nests was.depth)
    (pair_is ∙ shows.alike.pairs was.in_pair)
    (movetext_is ∙ ap (λ m. was.has_movetext || (m && not was.in_pair)) shows.alike.movetext)
    (more_is ∙ ap (λ p. was.has_more || not p) shows.alike.passed_over)

-- the span of a game, by where it begins
pub span_is : (place : ℕ) (game : List Lexeme) (was : OpenGame) → was ≡ progress_of game → option_to_list (span_from place was.start) ≡ span_to place game
unfolding progress_of
span_is place [] was is = ap (λ w. option_to_list (span_from place w.start)) is
span_is place (l ∷ ls) was is = ap (λ w. option_to_list (span_from place w.start)) is

-- the last game of an archive
pub last_is : (place : ℕ) (game : List Lexeme) (was : OpenGame) → was ≡ progress_of game → (if was.has_more then span_to place game else []) ≡ cut_from place game []
unfolding progress_of cut_from
last_is place game was is = ap (λ w. if w.has_more then span_to place game else []) is ∙ not_cond (list_all (λ l. is_passed_over l.kind) game) (span_to place game)
