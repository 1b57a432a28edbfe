use Rattle.std.proofs.Common.{◌≡◌, ◌++◌, ◌∷◌, [], true, ℕ, List, sym, ap, ◌∙◌}
use Rattle.std.specs.List.{flat_map}
use Rattle.std.proofs.lemmas.List.Sums.{fold-append}
use Rattle.cq_position.specs.Games.{node_at}
use Rattle.pgn_export.specs.Movetext.{line_words, played_in}
use Rattle.pgn_tree.specs.Results.{result_text}
use Rattle.pgn_export.specs.Internal.Page.{Page, with_word, with_words}
use Rattle.pgn_export.specs.Internal.NodeWords.{children_from}
use Rattle.pgn_export.specs.Words.{comment_words}
use Rattle.pgn_export.proofs.movetext.write_movetext.Goals as goal

-- three parts, one after another
three : (old one two new : Page) (a b c : List (List ℕ)) → one ≡ with_words old a → two ≡ with_words one b → new ≡ with_words two c
    → new ≡ with_words old (a ++ (b ++ c))
three old one two new a b c e f g =
    g ∙ ap (λ p. with_words p c) (f ∙ ap (λ p. with_words p b) e)
    ∙ sym (fold-append with_word (with_words old a) b c) ∙ sym (fold-append with_word old a (b ++ c))

pub returns : goal.returns
unfolding children_from
returns c =
    let g = c.args.game.now in
    three c.args.page.now c.write_comments.new.page c.write_line.new.page c.push.new.self
    (flat_map comment_words (node_at g.nodes 0).comments) (line_words (node_at g.nodes 0).position true (played_in g)) (result_text g.result ∷ [])
    c.in_ok-write_comments.ensures c.in_ok-write_line.ensures
    (c.in_ok-push.ensures ∙ ap (λ t. with_word c.write_line.new.page t) (c.result_text.ensures ∙ ap result_text c.result.ensures))
