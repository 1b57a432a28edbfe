use Rattle.std.proofs.Common.{◌≡◌, ◌++◌, ◌<◌, length, sym, ap, subst, ◌∙◌, IfOk}
use Rattle.std.specs.List.{flat_map}
use Rattle.pgn_export.specs.Movetext.{movetext}
use Rattle.pgn_export.specs.Internal.Page.{after_lines, with_words}
use Rattle.pgn_export.specs.TagLines.{tag_line, written_tags}
use Rattle.pgn_export.proofs.Pages.{lines_written}
use Rattle.pgn_export.proofs.Puts.{some_tags}
use Rattle.pgn_export.proofs.game.written.Goals as goal

pub new-page-requires : goal.new-page-requires
new-page-requires c =
    let lines = flat_map tag_line (written_tags c.args.game.now) in
    subst (λ l. 0 < length l) (sym (c.in_ok-write_tags.ensures ∙ ap (λ l. l ++ lines) c.in_ok-lines.ensures.items)) (some_tags c.args.game.now)

pub returns : goal.returns
returns c =
    let g = c.args.game.now in
    let lines = flat_map tag_line (written_tags g) in
    let begun = c.new-page.ensures ∙ ap after_lines (c.in_ok-write_tags.ensures ∙ ap (λ l. l ++ lines) c.in_ok-lines.ensures.items) in
    let text = lines_written lines (movetext g) c.write_movetext.new.page c.end.new.self
    (c.in_ok-write_movetext.ensures ∙ ap (λ p. with_words p (movetext g)) begun) c.in_ok-end.ensures in
    subst (λ l. IfOk c.from_slice.result (λ t. t ≡ l)) (c.as_slice.ensures ∙ text) c.from_slice.ensures
