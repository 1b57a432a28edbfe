-- Each game of a generated archive is read back from its text.
use Rattle.std.proofs.Common.{◌≡◌, ℕ, zero, suc, ◌+◌, ◌<◌, ◌≤◌, Bool, true, false, [], ◌∷◌, ◌++◌, None, Ok, refl, sym, subst, arith, add-one}
use Rattle.std.specs.Prelude.{codes, decimal, if◌then◌else◌}
use Rattle.std.specs.List.{All, AllByRecursion}
use Rattle.std.proofs.lemmas.List.Elements.{All-nil, All-cons, All-append}
use Rattle.cq_position.specs.declared.games.GameResult.{GameResult}
use Rattle.cq_geometry.specs.Lines.{between_squares}
use Rattle.cq_geometry.specs.Squares.{squares}
use Rattle.cq_position.specs.Attacks.{attacks, is_attacked, in_check}
use Rattle.cq_position.specs.Board.{Board, start_board}
use Rattle.cq_position.specs.Continuations.{Played, Continuations, none, played, size, node_of, nodes_from}
use Rattle.cq_position.specs.Games.{Game, bare_node, IsComment, HasNotes, HaveNotes, HaveDistinctNames}
use Rattle.cq_position.specs.Legal.{after}
use Rattle.cq_position.specs.Position.{IsPosition}
use Rattle.pgn_tree.proofs.TagPairs.{distinct_put}
use Rattle.pgn_export.specs.Export.{export_text}
use Rattle.pgn_tree.specs.Results.{result_text}
use Rattle.pgn_export.specs.NormalGames.{IsNormal, IsReadAs}
use Rattle.pgn_export.proofs.ReadBack.{answer_spells, answer_back}
use Rattle.cq_maker.specs.Draws.{next, drawn}
use Rattle.cq_maker.specs.Line.{is_over, move_drawn, ply_drawn, has_variation, variation_drawn, after_variation, line}
use Rattle.cq_maker.specs.GeneratedArchive.{as_read, ending, generated_line, generated_game, generated_games}
use Rattle.cq_maker.proofs.Drawn.{line_over, line_step}
use Rattle.cq_maker.proofs.Games.{whole_tree}
use Rattle.cq_maker.proofs.Short.{written_of}
use Rattle.cq_maker.proofs.Whole.{whole, whole_is, whole_text, whole_normal}

-- a move without glyphs and comments
bare_notes : (parent : ℕ) (m : Played) → m.nags ≡ [] → m.comments ≡ [] → HasNotes (node_of parent m)
bare_notes parent m no_nags no_comments = record {
  nags = subst (λ l. All (λ nag. nag < 256) l) (sym no_nags) (All-nil (λ nag. nag < 256));
  comments = subst (λ l. All IsComment l) (sym no_comments) (All-nil IsComment);
}

abbrev AreBare : Continuations → Type 0
AreBare none = Unit {0}
AreBare (played m next others) = ((m.nags ≡ []) × (m.comments ≡ [])) × (AreBare next × AreBare others)

notes_of : (parent k : ℕ) (c : Continuations) → AreBare c → HaveNotes (nodes_from parent k c)
unfolding nodes_from
notes_of parent k none bare = All-nil HasNotes
notes_of parent k (played m next others) bare =
    All-cons HasNotes (node_of parent m) (nodes_from k (k + 1) next ++ nodes_from parent (k + 1 + size next) others) (bare_notes parent m bare.0.0 bare.0.1)
    (All-append HasNotes (nodes_from k (k + 1) next) (nodes_from parent (k + 1 + size next) others) (notes_of k (k + 1) next bare.1.0) (notes_of parent (k + 1 + size next) others bare.1.1))

variation_bare : (p : Board) (x : ℕ) → (b : Bool) → has_variation x ≡ b → AreBare (variation_drawn p x)
unfolding variation_drawn ply_drawn
variation_bare p x true is = subst (λ b. AreBare (if b then played (ply_drawn p (next x)) none none else none)) (sym is) ((refl, refl), (tt, tt))
variation_bare p x false is = subst (λ b. AreBare (if b then played (ply_drawn p (next x)) none none else none)) (sym is) tt

line_bare : (n : ℕ) (p : Board) (x : ℕ) → AreBare (line n p x).moves
unfolding line ply_drawn
line_bare zero p x = tt
line_bare (suc n) p x = by_end (line_bare n (after p (move_drawn p x)) (after_variation (next x))) (is_over p) refl
  where
    by_end : AreBare (line n (after p (move_drawn p x)) (after_variation (next x))).moves → (b : Bool) → is_over p ≡ b → AreBare (line (suc n) p x).moves
    by_end rest true over = subst (λ l. AreBare l.moves) (sym (line_over (suc n) p x over)) tt
    by_end rest false over =
        subst (λ l. AreBare l.moves) (sym (line_step (suc n) n p x over (sym (add-one n)))) ((refl, refl), (rest, variation_bare p (next x) (has_variation (next x)) refl))

made_bare : (x : ℕ) → AreBare (generated_line x).moves
unfolding generated_line
made_bare x = line_bare (20 + drawn x 60) start_board (next x)

made_notes : (number x : ℕ) → HaveNotes (whole number x).nodes
made_notes number x =
    All-cons HasNotes (bare_node None None start_board) (nodes_from 0 1 (generated_line x).moves) (record { nags = All-nil (λ nag. nag < 256); comments = All-nil IsComment })
    (notes_of 0 1 (generated_line x).moves (made_bare x))

no_names : HaveDistinctNames []
no_names = record { differ = λ i j less inside. absurd (omega (arith, inside)) }

names : (number : ℕ) (r : GameResult) → HaveDistinctNames (written_of number r)
names number r =
    let a : HaveDistinctNames ((codes "Event", codes "Selfrun") ∷ []) = distinct_put [] (codes "Event") (codes "Selfrun") refl no_names in
    let b = distinct_put ((codes "Event", codes "Selfrun") ∷ []) (codes "Site") (codes "?") refl a in
    let c = distinct_put ((codes "Event", codes "Selfrun") ∷ (codes "Site", codes "?") ∷ []) (codes "Date") (codes "????.??.??") refl b in
    let d = distinct_put ((codes "Event", codes "Selfrun") ∷ (codes "Site", codes "?") ∷ (codes "Date", codes "????.??.??") ∷ []) (codes "Round") (decimal number) refl c in
    let e = distinct_put ((codes "Event", codes "Selfrun") ∷ (codes "Site", codes "?") ∷ (codes "Date", codes "????.??.??")
    ∷ (codes "Round", decimal number) ∷ []) (codes "White") (codes "?") refl d in
    let f = distinct_put ((codes "Event", codes "Selfrun") ∷ (codes "Site", codes "?") ∷ (codes "Date", codes "????.??.??") ∷ (codes "Round", decimal number) ∷ (codes "White", codes "?") ∷ [])
    (codes "Black") (codes "?") refl e in
    distinct_put ((codes "Event", codes "Selfrun") ∷ (codes "Site", codes "?") ∷ (codes "Date", codes "????.??.??") ∷ (codes "Round", decimal number)
    ∷ (codes "White", codes "?") ∷ (codes "Black", codes "?") ∷ [])
    (codes "Result") (result_text r) refl f

start_is_position : IsPosition start_board
unfolding in_check is_attacked attacks squares between_squares
start_is_position = record {
  whole = refl;
  kings = refl;
  no_pawn_on_edge = refl;
  few_enough = refl;
  rights = refl;
  passed = refl;
  opponent_not_in_check = refl;
  numbered = omega arith;
  fits = omega arith;
}

whole_back : (number x : ℕ) → number ≤ 100000 → IsReadAs (export_text (whole number x)) (whole number x)
whole_back number x few =
    let g = whole number x in
    let spells = answer_spells {E = ℕ} g (Ok (export_text g)) (whole_tree x) (made_notes number x) (names number (ending (generated_line x).last)) start_is_position refl in
    answer_back {E = ℕ} g (Ok (export_text g)) refl spells (whole_normal number x few)

-- each game of an archive
abbrev IsReadBack : Game → Type 0
IsReadBack g = IsNormal (as_read g) × IsReadAs (export_text g) (as_read g)

game_back : (number x : ℕ) → number ≤ 100000 → IsReadBack (generated_game number (generated_line x))
game_back number x few =
    subst (λ g. IsNormal g × IsReadAs (export_text (generated_game number (generated_line x))) g) (sym (whole_is number x))
    (whole_normal number x few, subst (λ t. IsReadAs t (whole number x)) (whole_text number x) (whole_back number x few))

games_back : (number games x : ℕ) → number + games ≤ 100001 → AllByRecursion IsReadBack (generated_games number games x)
unfolding generated_games
games_back number zero x few = tt
games_back number (suc games) x few = (game_back number x (omega (arith, few)), games_back (number + 1) games (generated_line x).state (omega (arith, few)))

pub archive_back : (seed games : ℕ) → games ≤ 100000 → AllByRecursion (λ g. IsNormal (as_read g) × IsReadAs (export_text g) (as_read g)) (generated_games 1 games seed)
archive_back seed games few = games_back 1 games seed (omega (arith, few))
