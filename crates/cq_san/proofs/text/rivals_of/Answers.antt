use Rattle.std.proofs.Common.{◌≡◌, ℕ, ◌<◌, Bool, true, false, not, ◌&&◌, sym, ap, subst, ◌∙◌}
use Rattle.std.specs.Prelude.{◌==◌}
use Rattle.std.proofs.lemmas.Bool.{and_parts, not-true}
use Rattle.cq_geometry.specs.Squares.{file_of, rank_of}
use Rattle.std.specs.List.{list_any}
use Rattle.cq_san.specs.declared.parts.PieceMove.{PieceMove}
use Rattle.cq_san.specs.Internal.Origins.{is_origin, origins}
use Rattle.cq_san.specs.Internal.Rivals.{without_origin, is_elsewhere, is_elsewhere_on_file, is_elsewhere_on_rank}
use Rattle.cq_san.proofs.RivalSquares.{any_by_squares, file_by_squares, rank_by_squares}
use Rattle.cq_san.proofs.Leftover.{none_other}
use Rattle.cq_san.proofs.text.rivals_of.Goals as goal

pub returns-clause-any : goal.returns-clause-any
returns-clause-any c =
    let same = c.deref.ensures.0 ∙ c.origins-origins.ensures ∙ ap (origins c.args.position.now) c.without_origin-parts.ensures in
    c.is_any_elsewhere.ensures ∙ ap (list_any (is_elsewhere c.args.m.now.from)) same
    ∙ any_by_squares c.args.position.now c.args.m.now c.is_position.ensures.kept c.requires.legal.0 c.requires.legal.1 c.requires.piece c.requires.plain

pub returns-clause-on_file : goal.returns-clause-on_file
returns-clause-on_file c =
    let same = c.deref-2.ensures.0 ∙ c.origins-origins.ensures ∙ ap (origins c.args.position.now) c.without_origin-parts.ensures in
    c.is_any_on_file.ensures ∙ ap (list_any (is_elsewhere_on_file c.args.m.now.from)) same
    ∙ file_by_squares c.args.position.now c.args.m.now c.is_position.ensures.kept c.requires.legal.0 c.requires.legal.1 c.requires.piece c.requires.plain

pub returns-clause-on_rank : goal.returns-clause-on_rank
returns-clause-on_rank c =
    let same = c.deref-3.ensures.0 ∙ c.origins-origins.ensures ∙ ap (origins c.args.position.now) c.without_origin-parts.ensures in
    c.is_any_on_rank.ensures ∙ ap (list_any (is_elsewhere_on_rank c.args.m.now.from)) same
    ∙ rank_by_squares c.args.position.now c.args.m.now c.is_position.ensures.kept c.requires.legal.0 c.requires.legal.1 c.requires.piece c.requires.plain

pub returns-then-is_sole_origin-clause-any : goal.returns-then-is_sole_origin-clause-any
returns-then-is_sole_origin-clause-any c =
    let p = c.args.position.now in
    let m = c.args.m.now in
    let none = subst (λ (parts : PieceMove). (s : ℕ) → s < 64 → (s == m.from) ≡ false → is_origin p parts s ≡ false) c.without_origin-parts.ensures
    (c.is_sole_origin.ensures c.if-is_sole_origin.true) in
    sym (none_other p (without_origin p m) m.from (is_elsewhere m.from) (λ s e. not-true (s == m.from) e) none)
    ∙ any_by_squares p m c.is_position.ensures.kept c.requires.legal.0 c.requires.legal.1 c.requires.piece c.requires.plain

pub returns-then-is_sole_origin-clause-on_file : goal.returns-then-is_sole_origin-clause-on_file
returns-then-is_sole_origin-clause-on_file c =
    let p = c.args.position.now in
    let m = c.args.m.now in
    let none = subst (λ (parts : PieceMove). (s : ℕ) → s < 64 → (s == m.from) ≡ false → is_origin p parts s ≡ false) c.without_origin-parts.ensures
    (c.is_sole_origin.ensures c.if-is_sole_origin.true) in
    sym (none_other p (without_origin p m) m.from (is_elsewhere_on_file m.from)
    (λ s e. not-true (s == m.from) (and_parts (not (s == m.from)) (file_of m.from == file_of s) e).0) none)
    ∙ file_by_squares p m c.is_position.ensures.kept c.requires.legal.0 c.requires.legal.1 c.requires.piece c.requires.plain

pub returns-then-is_sole_origin-clause-on_rank : goal.returns-then-is_sole_origin-clause-on_rank
returns-then-is_sole_origin-clause-on_rank c =
    let p = c.args.position.now in
    let m = c.args.m.now in
    let none = subst (λ (parts : PieceMove). (s : ℕ) → s < 64 → (s == m.from) ≡ false → is_origin p parts s ≡ false) c.without_origin-parts.ensures
    (c.is_sole_origin.ensures c.if-is_sole_origin.true) in
    sym (none_other p (without_origin p m) m.from (is_elsewhere_on_rank m.from)
    (λ s e. not-true (s == m.from) (and_parts (not (s == m.from)) (rank_of m.from == rank_of s) e).0) none)
    ∙ rank_by_squares p m c.is_position.ensures.kept c.requires.legal.0 c.requires.legal.1 c.requires.piece c.requires.plain
