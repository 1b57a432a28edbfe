-- A cut that is split after one of its games has its lexemes split there too.
use Rattle.std.proofs.Common.{◌≡◌, ℕ, ◌+◌, ◌≤◌, ◌⊎◌, inl, inr, ⊎_elim, Bool, true, false, cond, List, [], ◌∷◌, ◌++◌, get_or, drop, map, refl, sym, ap, ap₂, ◌∙◌, subst, arith, true≢false}
use Rattle.std.specs.Prelude.{◌&&◌, ◌||◌, ◌==◌, not, fold}
use Rattle.std.specs.List.{AllByRecursion, list_all}
use Rattle.std.proofs.lemmas.Bool.{and_parts}
use Rattle.std.proofs.lemmas.List.{map-append}
use Rattle.pgn_lexer.specs.Lexemes.{Lexeme, end, moved}
use Rattle.pgn_lexer.specs.Locality.{AreLexemesInOrder as InOrder}
use Rattle.pgn_lexer.specs.declared.token.LexemeKind.{LexemeKind}
use Rattle.pgn_lexer.specs.declared.token.LexemeKind.TheVariants.{EscapeLine, Token}
use Rattle.pgn_lexer.specs.declared.token.TokenKind.TheVariants.{Open, Close, Text, Symbol, Period, Star, LeftParen, RightParen, Nag, Null, Comment, LineComment, BadByte, UnclosedComment, UnclosedText}
use Rattle.pgn_cut.specs.Cut.{nest, depth, opens, opens_pair, is_marker, is_movetext, movetext_in, has_movetext, is_passed_over, ends_before, ends_after, span_to, cut_from}
use Rattle.pgn_cut.specs.Spans.{FinishesAt}
use Rattle.pgn_cut.specs.declared.span.Span.{Span}
use Rattle.pgn_cut.proofs.Closed.{last_ends}
use Rattle.pgn_cut.proofs.Joins.{map_all}
use Rattle.pgn_cut.proofs.OneGame.{opens_marks, and_false, order_from}

-- a step of a cut, by its tests
pub cut_step : (place : ℕ) (game : List Lexeme) (l : Lexeme) (ls : List Lexeme) (t u : Bool) → ends_before game l ≡ t → ends_after game l ≡ u
    → cut_from place game (l ∷ ls) ≡ cond t (span_to l.at game ++ cut_from place (l ∷ []) ls) (cond u (span_to (end l) (game ++ l ∷ []) ++ cut_from place [] ls) (cut_from place (game ++ l ∷ []) ls))
unfolding cut_from
cut_step place game l ls t u is_t is_u =
    ap₂ (λ t u. cond t (span_to l.at game ++ cut_from place (l ∷ []) ls) (cond u (span_to (end l) (game ++ l ∷ []) ++ cut_from place [] ls) (cut_from place (game ++ l ∷ []) ls))) is_t is_u

-- the end of a game: with a marker, before a tag pair, or with the archive
pub record WithMarker (to : ℕ) (pre : List Lexeme) : Type 0 where
  pub lexeme : Lexeme
  pub before : List Lexeme
  pub after : List Lexeme
  pub is_in : pre ≡ before ++ lexeme ∷ after
  pub marks_it : is_marker lexeme ≡ true
  pub ends : end lexeme ≡ to

pub record BeforePair (to : ℕ) (post : List Lexeme) : Type 0 where
  pub lexeme : Lexeme
  pub after : List Lexeme
  pub is : post ≡ lexeme ∷ after
  pub opens_it : opens lexeme.kind ≡ true
  pub at : lexeme.at ≡ to

abbrev pub Ends : (place to : ℕ) → List Lexeme → List Lexeme → Type 0
Ends place to pre post = WithMarker to pre ⊎ (BeforePair to post ⊎ (to ≡ place))

-- The lexemes of a cut are split after a game. Those before the seam close the games up to that one, and those after it
-- are cut into the games after it.
pub record Split (from place : ℕ) (game rest : List Lexeme) (before : List Span) (g : Span) (after : List Span) : Type 0 where
  pub pre : List Lexeme
  pub post : List Lexeme
  pub split : rest ≡ pre ++ post
  pub closes : cut_from g.end game pre ≡ before ++ g ∷ []
  pub later : cut_from place [] post ≡ after
  pub low : from ≤ g.end
  pub ends : AllByRecursion (λ l. end l ≤ g.end) pre
  pub begins : AllByRecursion (λ l. g.end ≤ l.at) post
  pub edge : Ends place g.end pre post

-- the first of some spans
peel : (s : Span) (ys before : List Span) (g : Span) (after : List Span) → s ∷ ys ≡ before ++ g ∷ after
    → ((before ≡ []) × (g ≡ s) × (after ≡ ys)) ⊎ ((bs : List Span) × (before ≡ s ∷ bs) × (ys ≡ bs ++ g ∷ after))
peel s ys [] g after e = inl (refl, sym (ap (λ l. get_or l 0 s) e), sym (ap (drop 1) e))
peel s ys (b ∷ bs) g after e = inr (bs, ap (λ x. x ∷ bs) (sym (ap (λ l. get_or l 0 s) e)), ap (drop 1) e)

-- a game that ends with the archive is the last one
last_only : (place : ℕ) (before : List Span) (g : Span) (after : List Span) → FinishesAt place (before ++ g ∷ after) → (before ≡ []) × (after ≡ []) × (g.end ≡ place)
last_only place [] g [] ends = (refl, refl, ends)
last_only place [] g (x ∷ after) ends = absurd ends
last_only place (b ∷ []) g after ends = absurd ends
last_only place (b ∷ c ∷ bs) g after ends = absurd ends

one_span : (place : ℕ) (game : List Lexeme) (l : Lexeme) → (s : Span) × (span_to place (game ++ l ∷ []) ≡ s ∷ []) × (s.end ≡ place)
one_span place [] l = (record { start = l.at; end = place; first = l.first }, refl, refl)
one_span place (k ∷ ks) l = (record { start = k.at; end = place; first = k.first }, refl, refl)

-- movetext is more than comments
movetext_kind : (kind : LexemeKind) → is_passed_over kind ≡ true → is_movetext kind ≡ false
movetext_kind EscapeLine is = refl
movetext_kind (Token Open) is = absurd (true≢false (sym is))
movetext_kind (Token Close) is = absurd (true≢false (sym is))
movetext_kind (Token Text) is = absurd (true≢false (sym is))
movetext_kind (Token Symbol) is = absurd (true≢false (sym is))
movetext_kind (Token Period) is = absurd (true≢false (sym is))
movetext_kind (Token Star) is = absurd (true≢false (sym is))
movetext_kind (Token LeftParen) is = absurd (true≢false (sym is))
movetext_kind (Token RightParen) is = absurd (true≢false (sym is))
movetext_kind (Token (Nag n)) is = absurd (true≢false (sym is))
movetext_kind (Token Null) is = absurd (true≢false (sym is))
movetext_kind (Token Comment) is = refl
movetext_kind (Token LineComment) is = refl
movetext_kind (Token BadByte) is = absurd (true≢false (sym is))
movetext_kind (Token UnclosedComment) is = absurd (true≢false (sym is))
movetext_kind (Token UnclosedText) is = absurd (true≢false (sym is))

not_passed : (p : Bool) (game : List Lexeme) → movetext_in p game ≡ true → list_all (λ l. is_passed_over l.kind) game ≡ false
not_passed p [] is = absurd (true≢false (sym is))
not_passed p (l ∷ ls) is = by (is_passed_over l.kind) refl (not_passed (opens_pair p l.kind) ls) is
  where
    by : (t : Bool) → is_passed_over l.kind ≡ t → (movetext_in (opens_pair p l.kind) ls ≡ true → list_all (λ l. is_passed_over l.kind) ls ≡ false)
        → ((is_movetext l.kind && not p) || movetext_in (opens_pair p l.kind) ls) ≡ true → (is_passed_over l.kind && list_all (λ l. is_passed_over l.kind) ls) ≡ false
    by false t rest m = ap (λ b. b && list_all (λ l. is_passed_over l.kind) ls) t
    by true t rest m = ap (λ b. b && list_all (λ l. is_passed_over l.kind) ls) t ∙ rest (sym (ap (λ b. (b && not p) || movetext_in (opens_pair p l.kind) ls) (movetext_kind l.kind t)) ∙ m)

abbrev Rec : (place from : ℕ) (game rest : List Lexeme) → Type 0
Rec place from game rest = (before : List Span) (g : Span) (after : List Span) → cut_from place game rest ≡ before ++ g ∷ after → Split from place game rest before g after

-- with other names for the same spans
first_is : (from place : ℕ) (game rest : List Lexeme) (s : Span) (ys before : List Span) (g : Span) (after : List Span) → before ≡ [] → g ≡ s
    → after ≡ ys → Split from place game rest [] s ys → Split from place game rest before g after
first_is from place game rest s ys before g after is_before is_g is_after h =
    subst (λ b. Split from place game rest b g after) (sym is_before) (subst (λ x. Split from place game rest [] x after) (sym is_g) (subst (Split from place game rest [] s) (sym is_after) h))

-- the lexeme before goes to those before the seam
more_marker : (place to : ℕ) (l : Lexeme) (pre post : List Lexeme) → Ends place to pre post → Ends place to (l ∷ pre) post
more_marker place to l pre post (inl m) = inl record { lexeme = m.lexeme; before = l ∷ m.before; after = m.after; is_in = ap (λ x. l ∷ x) m.is_in; marks_it = m.marks_it; ends = m.ends }
more_marker place to l pre post (inr other) = inr other

one_more : (from place : ℕ) (game next : List Lexeme) (l : Lexeme) (ls : List Lexeme) (s : List Span) (before bs : List Span) (g : Span) (after : List Span) → from ≤ end l → before ≡ s ++ bs
    → ((to : ℕ) (xs : List Lexeme) → cut_from to game (l ∷ xs) ≡ s ++ cut_from to next xs) → Split (end l) place next ls bs g after → Split from place game (l ∷ ls) before g after
one_more from place game next l ls s before bs g after le is step r = let low = r.low in record {
  pre = l ∷ r.pre;
  post = r.post;
  split = ap (λ x. l ∷ x) r.split;
  closes = step g.end r.pre ∙ ap (λ x. s ++ x) r.closes ∙ joined s bs ∙ sym (ap (λ b. b ++ g ∷ []) is);
  later = r.later;
  low = omega arith;
  ends = (r.low, r.ends);
  begins = r.begins;
  edge = more_marker place g.end l r.pre r.post r.edge;
}
  where
    joined : (s bs : List Span) → s ++ (bs ++ g ∷ []) ≡ (s ++ bs) ++ g ∷ []
    joined [] bs = refl
    joined (x ∷ s) bs = ap (λ l. x ∷ l) (joined s bs)

less_all : (a b : ℕ) (ls : List Lexeme) → a ≤ b → AllByRecursion (λ m. b ≤ m.at) ls → AllByRecursion (λ m. a ≤ m.at) ls
less_all a b ls le all = map_all (λ m. b ≤ m.at) (λ m. a ≤ m.at) (λ m h. omega (arith, h, le)) ls all

none_alone : (to : ℕ) → cut_from to [] [] ≡ []
unfolding cut_from
none_alone to = refl

alone_of : (to : ℕ) (game : List Lexeme) → list_all (λ l. is_passed_over l.kind) game ≡ false → cut_from to game [] ≡ span_to to game
unfolding cut_from
alone_of to game is = ap (λ t. cond t [] (span_to to game)) is

-- no game comes before a tag pair that begins one
pub pair_begins : (place : ℕ) (l : Lexeme) (ls : List Lexeme) → opens l.kind ≡ true → cut_from place [] (l ∷ ls) ≡ cut_from place (l ∷ []) ls
pair_begins place l ls is = cut_step place [] l ls false false (and_false (opens l.kind && l.first)) (ap (λ t. t && true) (opens_marks l.kind l.text is))

split_step : (place from : ℕ) (game : List Lexeme) (l : Lexeme) (ls : List Lexeme) → InOrder from (l ∷ ls) → Rec place (end l) (l ∷ []) ls
    → Rec place (end l) [] ls → Rec place (end l) (game ++ l ∷ []) ls
    → (t u : Bool) → ends_before game l ≡ t → ends_after game l ≡ u → (before : List Span) (g : Span) (after : List Span)
    → cond t (span_to l.at game ++ cut_from place (l ∷ []) ls) (cond u (span_to (end l) (game ++ l ∷ []) ++ cut_from place [] ls) (cut_from place (game ++ l ∷ []) ls)) ≡ before ++ g ∷ after
    → Split from place game (l ∷ ls) before g after
split_step place from [] l ls order pair marker goes_on true u is_t is_u before g after e = absurd (true≢false (sym is_t ∙ and_false (opens l.kind && l.first)))
split_step place from (k ∷ ks) l ls order pair marker goes_on true u is_t is_u before g after e =
    let s : Span = record { start = k.at; end = l.at; first = k.first } in
    let begins = order.0 in let size = order.1 in
    let parts = and_parts (opens l.kind && l.first) (has_movetext (k ∷ ks)) is_t in
    let opened : opens l.kind ≡ true = (and_parts (opens l.kind) l.first parts.0).0 in
    ⊎_elim
    (λ here. first_is from place (k ∷ ks) (l ∷ ls) s (cut_from place (l ∷ []) ls) before g after here.0 here.1 here.2 record {
      pre = [];
      post = l ∷ ls;
      split = refl;
      closes = alone_of l.at (k ∷ ks) (not_passed false (k ∷ ks) parts.1);
      later = pair_begins place l ls opened;
      low = order.0;
      ends = tt;
      begins = (omega arith, less_all l.at (end l) ls (omega arith) (order_from (end l) ls order.2));
      edge = inr (inl record { lexeme = l; after = ls; is = refl; opens_it = opened; at = refl });
    })
    (λ there. one_more from place (k ∷ ks) (l ∷ []) l ls (s ∷ []) before there.0 g after (omega arith) there.1
    (λ to xs. cut_step to (k ∷ ks) l xs true (ends_after (k ∷ ks) l) is_t refl) (pair there.0 g after there.2))
    (peel s (cut_from place (l ∷ []) ls) before g after e)
split_step place from game l ls order pair marker goes_on false true is_t is_u before g after e =
    let begins = order.0 in let size = order.1 in
    let o = one_span (end l) game l in
    ⊎_elim
    (λ here. first_is from place game (l ∷ ls) o.0 (cut_from place [] ls) before g after here.0 here.1 here.2 record {
      pre = l ∷ [];
      post = ls;
      split = refl;
      closes = cut_step o.0.end game l [] false true is_t is_u ∙ ap₂ (λ x y. x ++ y) o.1 (none_alone o.0.end);
      later = refl;
      low = let at = o.2 in omega arith;
      ends = (let at = o.2 in omega arith, tt);
      begins = less_all o.0.end (end l) ls (let at = o.2 in omega arith) (order_from (end l) ls order.2);
      edge = inl record { lexeme = l; before = []; after = []; is_in = refl; marks_it = (and_parts (is_marker l) (depth game == 0) is_u).0; ends = sym o.2 };
    })
    (λ there. one_more from place game [] l ls (o.0 ∷ []) before there.0 g after (omega arith) there.1
    (λ to xs. cut_step to game l xs false true is_t is_u ∙ ap (λ x. x ++ cut_from to [] xs) o.1) (marker there.0 g after there.2))
    (peel o.0 (cut_from place [] ls) before g after (sym (ap (λ x. x ++ cut_from place [] ls) o.1) ∙ e))
split_step place from game l ls order pair marker goes_on false false is_t is_u before g after e =
    let begins = order.0 in let size = order.1 in
    one_more from place game (game ++ l ∷ []) l ls [] before before g after (omega arith) refl (λ to xs. cut_step to game l xs false false is_t is_u) (goes_on before g after e)

pub splits : (place from : ℕ) (game rest : List Lexeme) → InOrder from rest → from ≤ place → AllByRecursion (λ l. end l ≤ place) rest → (before : List Span) (g : Span) (after : List Span)
    → cut_from place game rest ≡ before ++ g ∷ after → Split from place game rest before g after
unfolding cut_from
splits place from game [] order le ends before g after e =
    let o = last_only place before g after (subst (FinishesAt place) e (last_ends place game)) in
    let at = o.2 in record {
      pre = [];
      post = [];
      split = refl;
      closes = ap (λ n. cut_from n game []) o.2 ∙ e ∙ ap (λ a. before ++ g ∷ a) o.1;
      later = none_alone place ∙ sym o.1;
      low = omega arith;
      ends = tt;
      begins = tt;
      edge = inr (inr o.2);
    }
splits place from game (l ∷ ls) order le ends before g after e =
    split_step place from game l ls order (splits place (end l) (l ∷ []) ls order.2 ends.0 ends.1) (splits place (end l) [] ls order.2 ends.0 ends.1)
    (splits place (end l) (game ++ l ∷ []) ls order.2 ends.0 ends.1)
    (ends_before game l) (ends_after game l) refl refl before g after e

-- the cut of lexemes at another place
abbrev pub moved_span : ℕ → Span → Span
moved_span n s = record { start = s.start + n; end = s.end + n; first = s.first }

span_moves : (n place : ℕ) (game : List Lexeme) → span_to (place + n) (map (moved n) game) ≡ map (moved_span n) (span_to place game)
span_moves n place [] = refl
span_moves n place (l ∷ ls) = refl

passed_moves : (n : ℕ) (game : List Lexeme) → list_all (λ l. is_passed_over l.kind) (map (moved n) game) ≡ list_all (λ l. is_passed_over l.kind) game
passed_moves n [] = refl
passed_moves n (l ∷ ls) = ap (λ b. is_passed_over l.kind && b) (passed_moves n ls)

movetext_moves : (n : ℕ) (p : Bool) (game : List Lexeme) → movetext_in p (map (moved n) game) ≡ movetext_in p game
movetext_moves n p [] = refl
movetext_moves n p (l ∷ ls) = ap (λ b. (is_movetext l.kind && not p) || b) (movetext_moves n (opens_pair p l.kind) ls)

depth_moves : (n d : ℕ) (game : List Lexeme) → fold (λ d l. nest d l.kind) d (map (moved n) game) ≡ fold (λ d l. nest d l.kind) d game
depth_moves n d [] = refl
depth_moves n d (l ∷ ls) = depth_moves n (nest d l.kind) ls

map_choice : {A B : Type 0} (f : A → B) (t : Bool) (xs ys : List A) (us vs : List B) → us ≡ map f xs → vs ≡ map f ys → cond t us vs ≡ map f (cond t xs ys)
map_choice f true xs ys us vs a b = a
map_choice f false xs ys us vs a b = b

pub cut_moves : (n place : ℕ) (game rest : List Lexeme) → cut_from (place + n) (map (moved n) game) (map (moved n) rest) ≡ map (moved_span n) (cut_from place game rest)
unfolding cut_from
cut_moves n place game [] =
    ap (λ t. cond t [] (span_to (place + n) (map (moved n) game))) (passed_moves n game)
    ∙ map_choice (moved_span n) (list_all (λ l. is_passed_over l.kind) game) [] (span_to place game) [] _ refl (span_moves n place game)
cut_moves n place game (l ∷ ls) =
    let is_t : ends_before (map (moved n) game) (moved n l) ≡ ends_before game l = ap (λ b. opens l.kind && l.first && b) (movetext_moves n false game) in
    let is_u : ends_after (map (moved n) game) (moved n l) ≡ ends_after game l = ap (λ d. is_marker l && d == 0) (depth_moves n 0 game) in
    let is_end : end (moved n l) ≡ end l + n = omega arith in
    let pushed : map (moved n) game ++ moved n l ∷ [] ≡ map (moved n) (game ++ l ∷ []) = sym (map-append (moved n) game (l ∷ [])) in
    cut_step (place + n) (map (moved n) game) (moved n l) (map (moved n) ls) (ends_before game l) (ends_after game l) is_t is_u
    ∙ map_choice (moved_span n) (ends_before game l) (span_to l.at game ++ cut_from place (l ∷ []) ls)
    (cond (ends_after game l) (span_to (end l) (game ++ l ∷ []) ++ cut_from place [] ls) (cut_from place (game ++ l ∷ []) ls)) _ _
    (ap₂ (λ x y. x ++ y) (span_moves n l.at game) (cut_moves n place (l ∷ []) ls) ∙ sym (map-append (moved_span n) (span_to l.at game) (cut_from place (l ∷ []) ls)))
    (map_choice (moved_span n) (ends_after game l) (span_to (end l) (game ++ l ∷ []) ++ cut_from place [] ls) (cut_from place (game ++ l ∷ []) ls) _ _
    (ap₂ (λ x y. x ++ y) (ap₂ span_to is_end pushed ∙ span_moves n (end l) (game ++ l ∷ [])) (cut_moves n place [] ls)
    ∙ sym (map-append (moved_span n) (span_to (end l) (game ++ l ∷ [])) (cut_from place [] ls)))
    (ap (λ k. cut_from (place + n) k (map (moved n) ls)) pushed ∙ cut_moves n place (game ++ l ∷ []) ls))

-- spans of the same places, whichever of them begin in the first column
abbrev pub SamePlaces : List Span → List Span → Type 0
SamePlaces [] [] = Unit {0}
SamePlaces (a ∷ as_) (b ∷ bs) = (a.start ≡ b.start) × (a.end ≡ b.end) × SamePlaces as_ bs
SamePlaces _ _ = ⊥

pub same_places : (ss : List Span) → SamePlaces ss ss
same_places [] = tt
same_places (s ∷ ss) = (refl, refl, same_places ss)

-- the same lexeme, in the first column or not
abbrev pub in_column : Bool → Lexeme → Lexeme
in_column first l = record { at = l.at; first = first; text = l.text; kind = l.kind }

both_by : {A : Type 0} (P : A → A → Type 0) (t : Bool) (x y u v : A) → P x u → P y v → P (cond t x y) (cond t u v)
both_by P true x y u v a b = a
both_by P false x y u v a b = b

pub cut_firsts : (place : ℕ) (first : Bool) (l : Lexeme) (ls rest : List Lexeme) → SamePlaces (cut_from place (in_column first l ∷ ls) rest) (cut_from place (l ∷ ls) rest)
unfolding cut_from
cut_firsts place first l ls [] = both_by SamePlaces (list_all (λ l. is_passed_over l.kind) (l ∷ ls)) [] (span_to place (in_column first l ∷ ls)) [] (span_to place (l ∷ ls)) tt (refl, refl, tt)
cut_firsts place first l ls (m ∷ ms) =
    both_by SamePlaces (ends_before (l ∷ ls) m) (span_to m.at (in_column first l ∷ ls) ++ cut_from place (m ∷ []) ms)
    (cond (ends_after (l ∷ ls) m) (span_to (end m) (in_column first l ∷ ls ++ m ∷ []) ++ cut_from place [] ms) (cut_from place (in_column first l ∷ ls ++ m ∷ []) ms))
    (span_to m.at (l ∷ ls) ++ cut_from place (m ∷ []) ms) (cond (ends_after (l ∷ ls) m) (span_to (end m) (l ∷ ls ++ m ∷ []) ++ cut_from place [] ms) (cut_from place (l ∷ ls ++ m ∷ []) ms))
    (refl, refl, same_places (cut_from place (m ∷ []) ms))
    (both_by SamePlaces (ends_after (l ∷ ls) m) (span_to (end m) (in_column first l ∷ ls ++ m ∷ []) ++ cut_from place [] ms) (cut_from place (in_column first l ∷ ls ++ m ∷ []) ms)
    (span_to (end m) (l ∷ ls ++ m ∷ []) ++ cut_from place [] ms) (cut_from place (l ∷ ls ++ m ∷ []) ms)
    (refl, refl, same_places (cut_from place [] ms))
    (cut_firsts place first l (ls ++ m ∷ []) ms))
