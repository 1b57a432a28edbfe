use Rattle.std.proofs.Common.{◌≡◌, ◌+◌, ◌<◌, ◌≤◌, ◌^◌, ◌++◌, ℕ, [], ◌∷◌, All, length, map, take, subst, sym, ap, ◌∙◌, rules}
use Rattle.std.proofs.lemmas.List.{length-map, take_all}
use Rattle.pgn_cut.specs.Spans.{EndsBy}
use Rattle.pgn_batches.specs.KeptGames.{kept}
use Rattle.pgn_batches.specs.declared.kept_game.KeptGame.{KeptGame}
use Rattle.pgn_batches.proofs.Windows.{inside_of, more_kept, starts_of}
use Rattle.pgn_batches.proofs.batch.Batch.of.Goals as goal

pub kept_game-requires-clause-inside : goal.kept_game-requires-clause-inside
kept_game-requires-clause-inside c =
    let s = c.requires.spans in
    let ends = subst (All (EndsBy (length c.args.bytes.now))) s.2 (c.games_stand_apart.ensures.each c.args.bytes.now) in
    inside_of c.args.bytes.now s.0 c.args.spans.now s.1 c.loop-i.i _ (search rules) ends

pub loop-i-preserved : goal.loop-i-preserved
loop-i-preserved c =
    let game = kept c.args.bytes.now in
    c.in_ok-push.ensures.items ∙ ap (λ gs. gs ++ c.in_ok-kept_game.field-0 ∷ []) c.loop-i.invariant
    ∙ ap (λ g. map game (take c.loop-i.i c.args.spans.now) ++ g ∷ []) c.in_ok-kept_game.ensures
    ∙ more_kept game [] c.args.spans.now c.loop-i.i _ (search rules)

pub returns-clause-games : goal.returns-clause-games
returns-clause-games c =
    let all : length c.args.spans.now ≤ c.loop-i.i = search rules in
    c.loop-i.invariant ∙ ap (map (kept c.args.bytes.now)) (take_all c.loop-i.i c.args.spans.now all)

pub invariant_of-result : goal.invariant_of-result
invariant_of-result c =
    let bytes = c.args.bytes.now in
    let spans = c.args.spans.now in
    let s = c.requires.spans in
    let ends = subst (All (EndsBy (length bytes))) s.2 (c.games_stand_apart.ensures.each bytes) in
    let all : length spans ≤ c.loop-i.i = search rules in
    let games : c.loop-i.games.items ≡ map (kept bytes) spans = c.loop-i.invariant ∙ ap (map (kept bytes)) (take_all c.loop-i.i spans all) in
    let count : length c.loop-i.games.items ≡ length spans = ap length games ∙ length-map spans (kept bytes) in
    record {
      few = subst (λ (n : ℕ). n < 2 ^ 32) (sym count) c.requires.few;
      numbers = subst (λ (n : ℕ). c.args.index + n < 2 ^ 62) (sym count) c.requires.numbers;
      starts = subst (All (λ (g : KeptGame). g.start < 2 ^ 62)) (sym games) (starts_of bytes s.0 spans s.1 ends c.requires.size);
    }
