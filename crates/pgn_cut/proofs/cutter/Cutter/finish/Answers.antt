use Rattle.std.proofs.Common.{refl, arith}
use Rattle.pgn_cut.proofs.Runs.{last_games, on_ok, sound_of, place_of}
use Rattle.pgn_cut.proofs.cutter.Cutter.finish.Goals as goal

pub ended-closed-requires : goal.ended-closed-requires
ended-closed-requires c =
    let sound = sound_of c.args.self.now c.requires.0 c.requires.1 in
    let deep = sound.0 in
    let low = sound.1 in
    let place = place_of c.args.self.now c.requires.0 c.requires.1 in
    let few = c.requires.2 in
    record { depth = omega arith; place = omega arith; at = low }

pub returns : goal.returns
returns c = record {
  games = on_ok _ _ c.append.result (λ ok fed stands. last_games c.ended-closed.result.0 c.ended-closed.result.1 c.last.result c.args.self.now.state fed (c.ended-closed.ensures.ends fed stands)
      c.white_space_is_passed.ensures.none c.last.ensures c.args.spans.now.items c.append.new.spans.items ok) c.append.ensures.ok;
  cutter = refl;
  unchanged = c.append.ensures.err;
}
