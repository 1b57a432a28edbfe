-- Games after a seam of an archive are read as before it was split.
use Rattle.std.proofs.Common.{◌≡◌, ◌↔◌, ℕ, suc, zero, ◌+◌, ◌-◌, ◌<◌, ◌≤◌, Bool, List, [], ◌∷◌, ◌++◌, length, take, drop, map, refl, sym, ap, ap₂, ◌∙◌, subst, arith, Result}
use Rattle.std.proofs.lemmas.List.{drop-drop}
use Rattle.cq_position.specs.Games.{Game}
use Rattle.pgn_lexer.specs.Lexemes.{tokens_of}
use Rattle.pgn_lexer.specs.declared.token.Token.{Token}
use Rattle.pgn_cut.specs.Cut.{cut}
use Rattle.pgn_cut.specs.GameTokens.{game_bytes}
use Rattle.pgn_cut.specs.Seams.{moved_token, spaced_rest, IsMovedGame, AreMovedGames, IsSeam}
use Rattle.pgn_cut.specs.Spans.{AreSpansInOrder}
use Rattle.pgn_cut.specs.declared.span.Span.{Span}
use Rattle.pgn_reader.specs.declared.fault.GameFault.{GameFault}
use Rattle.pgn_reader.specs.MovedTokens.{moved, AreSameTokens}
use Rattle.pgn_reader.specs.Verdict.{IsReadResult}
use Rattle.pgn_reader.specs.Words.{Word, word_of, words_of}
use Rattle.pgn_cut_laws.specs.Split.{IsReadAlike, AreReadAlike}
use Rattle.pgn_reader.proofs.MovedTokens.{decided}

-- the bytes after the space are those of the archive
past_first : {A : Type 0} (x : A) (xs : List A) (s : ℕ) → 0 < s → drop s (x ∷ xs) ≡ drop (s - 1) xs
past_first x xs zero pos = absurd (omega (arith, pos))
past_first x xs (suc k) pos = ap (λ j. drop j xs) (let e : k ≡ suc k - 1 = omega arith in e)

dropped : (archive : List ℕ) (place s : ℕ) → 0 < place → 0 < s → drop s (spaced_rest archive place) ≡ drop (s + (place - 1)) archive
dropped archive place s some pos =
    past_first _ (drop place archive) s pos ∙ drop-drop (s - 1) place archive
    ∙ ap (λ j. drop j archive) (let e : place + (s - 1) ≡ s + (place - 1) = omega (arith, some, pos) in e)

same_bytes : (archive : List ℕ) (place : ℕ) (g m : Span) → 0 < place → place ≤ m.start → m.start ≡ g.start + (place - 1) → m.end ≡ g.end + (place - 1)
    → game_bytes archive m ≡ game_bytes (spaced_rest archive place) g
same_bytes archive place g m some behind_it starts ends =
    let pos : 0 < g.start = omega (arith, some, behind_it, starts) in
    let len : m.end - m.start ≡ g.end - g.start = let e = starts in let f = ends in omega (arith, e, f) in
    ap₂ take len (ap (λ j. drop j archive) starts ∙ sym (dropped archive place g.start some pos))

-- words of moved tokens
same_word : (n start : ℕ) (bytes : List ℕ) (t : Token) → word_of (start + n) bytes (moved_token n t) ≡ word_of start bytes t
same_word n start bytes t =
    ap (λ k. record { kind = t.kind; text = take t.len (drop k bytes) }) (let e : t.at + n - (start + n) ≡ t.at - start = omega arith in e)

same_words : (n start : ℕ) (bytes : List ℕ) (ts : List Token) → map (word_of (start + n) bytes) (map (moved_token n) ts) ≡ map (word_of start bytes) ts
same_words n start bytes [] = refl
same_words n start bytes (t ∷ ts) = ap₂ (λ w ws. w ∷ ws) (same_word n start bytes t) (same_words n start bytes ts)

moved_places : (n : ℕ) (ts : List Token) → map (λ (t : Token). t.at) (map (moved_token n) ts) ≡ map (λ (t : Token). t.at + n) ts
moved_places n [] = refl
moved_places n (t ∷ ts) = ap (λ ps. (t.at + n) ∷ ps) (moved_places n ts)

same_tokens : (n start : ℕ) (first other_first : Bool) (bytes other : List ℕ) → other ≡ bytes
    → tokens_of (start + n) other_first other ≡ map (moved_token n) (tokens_of start first bytes) → AreSameTokens n start first bytes other_first other
same_tokens n start first other_first bytes other is tokens = record {
  as_many = ap length is;
  words = ap₂ (λ b ts. map (word_of (start + n) b) ts) is tokens ∙ same_words n start bytes (tokens_of start first bytes);
  places = ap (map (λ (t : Token). t.at)) tokens ∙ moved_places n (tokens_of start first bytes);
}

alike : (archive : List ℕ) (place : ℕ) (g m : Span) → 0 < place → place ≤ m.start → IsMovedGame (place - 1) (spaced_rest archive place) archive g m
    → IsReadAlike (place - 1) (spaced_rest archive place) archive g m
alike archive place g m some behind_it moves outcome =
    let n : ℕ = place - 1 in
    let bytes : game_bytes archive m ≡ game_bytes (spaced_rest archive place) g = same_bytes archive place g m some behind_it moves.starts moves.ends in
    subst (λ s. IsReadResult g.start g.first (game_bytes (spaced_rest archive place) g) outcome ↔ IsReadResult s m.first (game_bytes archive m) (moved n outcome)) (sym moves.starts)
    (decided n g.start g.first m.first (game_bytes (spaced_rest archive place) g) (game_bytes archive m)
    (same_tokens n g.start g.first m.first (game_bytes (spaced_rest archive place) g) (game_bytes archive m) bytes
    (ap (λ s. tokens_of s m.first (game_bytes archive m)) (sym moves.starts) ∙ moves.tokens)) outcome)

all_alike : (archive : List ℕ) (place from to : ℕ) (games others : List Span) → 0 < place → place ≤ from → AreSpansInOrder from to others
    → AreMovedGames (place - 1) (spaced_rest archive place) archive games others → AreReadAlike (place - 1) (spaced_rest archive place) archive games others
all_alike archive place from to [] [] some le order all = tt
all_alike archive place from to [] (m ∷ others) some le order all = absurd all
all_alike archive place from to (g ∷ games) [] some le order all = absurd all
all_alike archive place from to (g ∷ games) (m ∷ others) some le order all =
    let here : place ≤ m.start = omega (arith, le, order.0) in
    let next : place ≤ m.end = let e = order.1.0 in omega (arith, here, e) in
    (alike archive place g m some here all.0, all_alike archive place m.end to games others some next order.2 all.1)

-- the spans after one of some spans in order
behind_one : (from to : ℕ) (before : List Span) (game : Span) (after : List Span) → AreSpansInOrder from to (before ++ game ∷ after)
    → (0 < game.end) × AreSpansInOrder game.end to after
behind_one from to [] game after order = (let e = order.1.0 in omega (arith, e), order.2)
behind_one from to (s ∷ before) game after order = behind_one s.end to before game after order.2

pub split_alike : (archive : List ℕ) (before : List Span) (game : Span) (after : List Span) → AreSpansInOrder 0 (length archive) (cut archive)
    → cut archive ≡ before ++ game ∷ after → IsSeam archive before game after
    → AreReadAlike (game.end - 1) (spaced_rest archive game.end) archive (cut (spaced_rest archive game.end)) after
split_alike archive before game after order is seam =
    let behind_it = behind_one 0 (length archive) before game after (subst (AreSpansInOrder 0 (length archive)) is order) in
    all_alike archive game.end game.end (length archive) (cut (spaced_rest archive game.end)) after behind_it.0 (omega arith) behind_it.1 seam.rest
