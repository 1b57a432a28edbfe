-- The nodes of a generated game are a tree, and the archive grows by one game after another.
use Rattle.std.proofs.Common.{◌≡◌, ℕ, ◌+◌, ◌-◌, ◌<◌, ◌≤◌, List, [], ◌∷◌, ◌++◌, None, refl, sym, ap, ap₂, ◌∙◌, subst, arith, append_assoc, append-nil, add-one}
use Rattle.std.specs.List.{flat_map}
use Rattle.std.proofs.lemmas.List.Concat.{flat_map-cons}
use Rattle.cq_position.specs.declared.games.GameResult.{GameResult}
use Rattle.cq_position.specs.Board.{Board, start_board}
use Rattle.cq_position.specs.Continuations.{nodes_from}
use Rattle.cq_position.specs.Games.{Game, Node, bare_node, IsTree}
use Rattle.cq_position.proofs.Following.{tree_of}
use Rattle.cq_position.proofs.Trees.{prefix_tree}
use Rattle.pgn_export.specs.Export.{export_text}
use Rattle.cq_maker.specs.declared.drawn_move.DrawnMove.{DrawnMove}
use Rattle.cq_maker.specs.Draws.{next, drawn}
use Rattle.cq_maker.specs.Line.{line}
use Rattle.cq_maker.specs.GeneratedArchive.{ending, generated_line, generated_tags, generated_game, generated_games, generated_archive}
use Rattle.cq_maker.specs.Internal.DrawnMoves.{nodes_of_rows}
use Rattle.cq_maker.proofs.Drawn.{below, line_follows, line_small}

abbrev pub root : Node
root = bare_node None None start_board

pub line_is : (x b s : ℕ) → b ≡ drawn x 60 → s ≡ next x → line (20 + b) start_board s ≡ generated_line x
unfolding generated_line
line_is x b s number state = ap₂ (λ n y. line (20 + n) start_board y) number state

pub whole_tree : (x : ℕ) → IsTree (root ∷ nodes_from 0 1 (generated_line x).moves)
unfolding generated_line
whole_tree x =
    let n = 20 + drawn x 60 in
    let low = below x 60 (omega arith) in
    let small = line_small n start_board (next x) in
    tree_of root (line n start_board (next x)).moves (record { parent = refl; led_by = refl }) (omega (arith, low, small)) (line_follows n start_board (next x))

-- the root with the main line, and with the variations too
pub main_tree : (x : ℕ) (nodes main beside : List Node) → nodes ≡ root ∷ [] → main ++ beside ≡ nodes_from 0 1 (generated_line x).moves → IsTree (nodes ++ main)
main_tree x nodes main beside first is =
    subst (λ l. IsTree (l ++ main)) (sym first) (prefix_tree (root ∷ main) beside (omega arith) (subst (λ l. IsTree (root ∷ l)) (sym is) (whole_tree x)))

pub all_tree : (x : ℕ) (nodes main beside : List Node) → nodes ≡ root ∷ main → main ++ beside ≡ nodes_from 0 1 (generated_line x).moves → IsTree (nodes ++ beside)
all_tree x nodes main beside first is = subst (λ l. IsTree (l ++ beside)) (sym first) (subst (λ l. IsTree (root ∷ l)) (sym is) (whole_tree x))

abbrev game_of : List (List ℕ × List ℕ) → GameResult → List Node → Game
game_of tags result nodes = record { tags = tags; result = result; nodes = nodes }

same_game : (t u : List (List ℕ × List ℕ)) (r s : GameResult) (m n : List Node) → t ≡ u → r ≡ s → m ≡ n → game_of t r m ≡ game_of u s n
same_game t u r s m n e f g = cc

pub game_is : (x number : ℕ) (first main_added all : Game) (tags : List (List ℕ × List ℕ)) (result : GameResult) (start last : Board) (main beside : List DrawnMove)
    → first ≡ record { tags = tags; result = result; nodes = bare_node None None start ∷ [] } → start ≡ start_board → tags ≡ generated_tags number → result ≡ ending last → last ≡ (generated_line x).last
    → main_added ≡ record first { nodes = first.nodes ++ nodes_of_rows main } → all ≡ record main_added { nodes = main_added.nodes ++ nodes_of_rows beside }
    → nodes_of_rows main ++ nodes_of_rows beside ≡ nodes_from 0 1 (generated_line x).moves → all ≡ generated_game number (generated_line x)
unfolding generated_game
game_is x number first main_added all tags result start last main beside first_is start_is tags_is result_is last_is main_is all_is nodes =
    all_is ∙ ap {A = Game} {B = Game} (λ g. record g { nodes = g.nodes ++ nodes_of_rows beside }) main_is
    ∙ ap {A = Game} {B = Game} (λ g. record g { nodes = (g.nodes ++ nodes_of_rows main) ++ nodes_of_rows beside }) first_is
    ∙ same_game tags (generated_tags number) result (ending (generated_line x).last) (bare_node None None start ∷ (nodes_of_rows main ++ nodes_of_rows beside)) (root ∷ nodes_from 0 1 (generated_line x).moves)
    tags_is (result_is ∙ ap ending last_is) (ap₂ (λ s l. bare_node None None s ∷ l) start_is nodes)

pub archive_first : (seed games : ℕ) (bytes : List ℕ) (x : ℕ) → bytes ≡ [] → x ≡ seed → bytes ++ flat_map export_text (generated_games 1 (games - 0) x) ≡ generated_archive seed games
unfolding generated_archive
archive_first seed games bytes x empty state =
    ap₂ (λ b y. b ++ flat_map export_text (generated_games 1 (games - 0) y)) empty state
    ∙ ap (λ n. flat_map export_text (generated_games 1 n seed)) (let e : games - 0 ≡ games = omega arith in e)

pub archive_more : (seed games before x x_then : ℕ) (bytes bytes_then text : List ℕ) (g : Game) → before < games → g ≡ generated_game (before + 1) (generated_line x) → x_then ≡ (generated_line x).state
    → text ≡ export_text g → bytes_then ≡ bytes ++ text → bytes ++ flat_map export_text (generated_games (before + 1) (games - before) x) ≡ generated_archive seed games
    → bytes_then ++ flat_map export_text (generated_games (before + 1 + 1) (games - (before + 1)) x_then) ≡ generated_archive seed games
unfolding generated_games
archive_more seed games before x x_then bytes bytes_then text g less game_is state text_is more so_far =
    let k = games - (before + 1) in
    let e : games - before ≡ k + 1 = omega (arith, less) in
    let later : List ℕ = flat_map export_text (generated_games (before + 1 + 1) k (generated_line x).state) in
    let made_game = generated_game (before + 1) (generated_line x) in
    let step : flat_map export_text (generated_games (before + 1) (games - before) x) ≡ export_text made_game ++ later =
    ap (λ n. flat_map export_text (generated_games (before + 1) n x)) (e ∙ add-one k)
    ∙ flat_map-cons export_text made_game (generated_games (before + 1 + 1) k (generated_line x).state) in
    ap₂ (λ b y. b ++ flat_map export_text (generated_games (before + 1 + 1) k y)) (more ∙ ap (λ t. bytes ++ t) (text_is ∙ ap export_text game_is)) state
    ∙ append_assoc bytes (export_text made_game) later ∙ ap (λ l. bytes ++ l) (sym step) ∙ so_far

pub archive_end : (seed games before x : ℕ) (bytes : List ℕ) → games ≤ before → bytes ++ flat_map export_text (generated_games (before + 1) (games - before) x) ≡ generated_archive seed games → bytes ≡ generated_archive seed games
unfolding generated_games
archive_end seed games before x bytes full so_far =
    sym (ap (λ n. bytes ++ flat_map export_text (generated_games (before + 1) n x)) (let e : games - before ≡ 0 = omega (arith, full) in e) ∙ append-nil bytes) ∙ so_far
