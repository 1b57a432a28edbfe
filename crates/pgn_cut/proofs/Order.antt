-- The games of a cut are in order, and don't overlap.
use Rattle.std.proofs.Common.{◌≡◌, ℕ, ◌<◌, ◌≤◌, Bool, true, List, [], ◌∷◌, ◌++◌, length, drop, refl, arith, length-drop}
use Rattle.std.specs.Prelude.{All, if◌then◌else◌}
use Rattle.std.specs.List.{AllByRecursion, list_all}
use Rattle.std.proofs.lemmas.List.Elements.{All-from_recursion}
use Rattle.pgn_lexer.specs.Lexemes.{Lexeme, end, lexemes}
use Rattle.pgn_lexer.specs.Locality.{AreLexemesInOrder as InOrder, StandsIn}
use Rattle.pgn_cut.specs.Cut.{is_passed_over, ends_before, ends_after, span_to, cut_from, cut, text_start, archive_lexemes}
use Rattle.pgn_cut.specs.Spans.{EndsBy, AreSpansInOrder}
use Rattle.pgn_cut.specs.declared.span.Span.{Span}
use Rattle.pgn_cut.proofs.Joins.{StandApart, map_all, of_both, text_within}

-- the law of the order of lexemes, as a type
abbrev pub StandInOrder : Type 0
StandInOrder = (start : ℕ) (first : Bool) (bytes : List ℕ) → InOrder start (lexemes start first bytes)

-- a game begins from one place on and before another; one without lexemes has its place between them
unfoldable pub Begins : ℕ → ℕ → List Lexeme → Type 0
Begins from before [] = from ≤ before
Begins from before (l ∷ ls) = (from ≤ l.at) × (l.at < before)

begins_more : (from before : ℕ) (game : List Lexeme) (l : Lexeme) → Begins from before game → before ≤ l.at → 0 < length l.text → Begins from (end l) (game ++ l ∷ [])
unfolding Begins
begins_more from before [] l begins past some = (omega arith, omega arith)
begins_more from before (g ∷ gs) l begins past some = let lt = begins.1 in (begins.0, omega arith)

-- the span of such a game comes before those that follow it
span_first : (from before place to : ℕ) (game : List Lexeme) (rest : List Span) → Begins from before game → before ≤ place → place ≤ to
    → AreSpansInOrder place to rest → (game ≡ [] → AreSpansInOrder from to rest) → AreSpansInOrder from to (span_to place game ++ rest)
unfolding Begins
span_first from before place to [] rest begins less most order empty = empty refl
span_first from before place to (g ∷ gs) rest begins less most order empty = let lt = begins.1 in (begins.0, (omega arith, most), order)

lower : (from less to : ℕ) (spans : List Span) → less ≤ from → AreSpansInOrder from to spans → AreSpansInOrder less to spans
lower from less to [] le order = tt
lower from less to (s ∷ ss) le order = let begins = order.0 in (omega arith, order.1, order.2)

begins_by : (from before : ℕ) (game : List Lexeme) (l : Lexeme) → Begins from before game → before ≤ l.at → from ≤ l.at
unfolding Begins
begins_by from before [] l begins past = omega arith
begins_by from before (g ∷ gs) l begins past = let a = begins.0 in let b = begins.1 in omega arith

last_span : (place from before : ℕ) (game : List Lexeme) → Begins from before game → before ≤ place → AreSpansInOrder from place (span_to place game)
unfolding Begins
last_span place from before [] begins most = tt
last_span place from before (g ∷ gs) begins most = let lt = begins.1 in (begins.0, (omega arith, omega arith), tt)

pub cut_in_order : (place from before : ℕ) (game rest : List Lexeme) → Begins from before game → before ≤ place → InOrder before rest → AllByRecursion (λ l. end l ≤ place) rest
    → AreSpansInOrder from place (cut_from place game rest)
unfolding cut_from Begins
cut_in_order place from before game [] begins most order ends =
    of_both (AreSpansInOrder from place) (list_all (λ l. is_passed_over l.kind) game) [] (span_to place game) tt (last_span place from before game begins most)
cut_in_order place from before game (l ∷ ls) begins most order ends =
    let past = order.0 in
    let some = order.1 in
    let last = ends.0 in
    of_both (AreSpansInOrder from place) (ends_before game l) (span_to l.at game ++ cut_from place (l ∷ []) ls)
    (if ends_after game l then span_to (end l) (game ++ l ∷ []) ++ cut_from place [] ls else cut_from place (game ++ l ∷ []) ls)
    (let after = cut_in_order place l.at (end l) (l ∷ []) ls (omega arith, omega arith) last order.2 ends.1 in
    span_first from before l.at place game (cut_from place (l ∷ []) ls) begins past (omega arith) after
    (λ _. lower l.at from place (cut_from place (l ∷ []) ls) (begins_by from before game l begins past) after))
    (of_both (AreSpansInOrder from place) (ends_after game l) (span_to (end l) (game ++ l ∷ []) ++ cut_from place [] ls) (cut_from place (game ++ l ∷ []) ls)
    (let after = cut_in_order place (end l) (end l) [] ls (omega arith) last order.2 ends.1 in
    span_first from (end l) (end l) place (game ++ l ∷ []) (cut_from place [] ls) (begins_more from before game l begins past some) (omega arith) last after
    (λ _. lower (end l) from place (cut_from place [] ls) (let by = begins_by from before game l begins past in omega arith) after))
    (cut_in_order place from (end l) (game ++ l ∷ []) ls (begins_more from before game l begins past some) last order.2 ends.1))

-- the games of an archive
pub games_in_order : StandInOrder → StandApart → (archive : List ℕ) → AreSpansInOrder 0 (length archive) (cut archive)
unfolding Begins
games_in_order in_order apart archive =
    let start = text_start archive in
    let text = drop start archive in
    let inside = text_within archive in
    let len = length-drop start archive in
    cut_in_order (length archive) 0 start [] (archive_lexemes archive) (omega arith) inside (in_order start true text)
    (map_all (StandsIn start true text) (λ l. end l ≤ length archive) (λ l s. let most = s.to_end in omega arith) (archive_lexemes archive) (apart start true text))

pub each_ends : (from to : ℕ) (spans : List Span) → AreSpansInOrder from to spans → AllByRecursion (EndsBy to) spans
each_ends from to [] order = tt
each_ends from to (s ∷ ss) order = (order.1, each_ends s.end to ss order.2)

pub games_end_within : StandInOrder → StandApart → (archive : List ℕ) → All (EndsBy (length archive)) (cut archive)
games_end_within in_order apart archive = All-from_recursion (EndsBy (length archive)) (cut archive) (each_ends 0 (length archive) (cut archive) (games_in_order in_order apart archive))
