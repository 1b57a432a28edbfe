use Rattle.std.proofs.Common.{refl, ◌∙◌, arith}
use Rattle.pgn_cut.proofs.Loops.{rest_len, feeding_start, feeding_turn, feeding_back, feeding_ends}
use Rattle.pgn_cut.proofs.Runs.{new_games}
use Rattle.pgn_cut.proofs.cutter.Cutter.feed.Goals as goal

pub loop-at-init : goal.loop-at-init
loop-at-init c = feeding_start c.args.self.now c.args.piece.now c.args.spans.now.items c.requires.0 c.requires.1 c.requires.2

pub turn-requires-clause-depth : goal.turn-requires-clause-depth
turn-requires-clause-depth c =
    let deep = c.loop-at.invariant.sound.0 in
    let room = c.loop-at.invariant.room in
    let more = c.loop-at-test.true in
    omega arith

pub turn-requires-clause-place : goal.turn-requires-clause-place
turn-requires-clause-place c =
    let room = c.loop-at.invariant.room in
    let len = rest_len c.args.piece.now c.loop-at.at in
    omega arith

pub turn-requires-clause-at : goal.turn-requires-clause-at
turn-requires-clause-at c = c.loop-at.invariant.sound.1

pub loop-at-preserved : goal.loop-at-preserved
loop-at-preserved c =
    feeding_turn c.args.self.now c.loop-at.cutter c.turn.new.self c.args.piece.now c.loop-at.at c.in-Ok.taken c.args.spans.now.items c.loop-at.spans.items c.turn.new.spans.items
    c.requires.0 c.requires.1 c.requires.2 c.loop-at.invariant c.in-Ok.ensures.took.1 c.in-Ok.ensures.gained

pub returns-in-Err-clause-unchanged : goal.returns-in-Err-clause-unchanged
returns-in-Err-clause-unchanged c = (
  refl,
  c.truncate.ensures.items ∙ feeding_back c.args.self.now c.loop-at.cutter c.args.piece.now c.loop-at.at c.args.spans.now.items c.loop-at.spans.items c.turn.new.spans.items c.len-before.result
      c.loop-at.invariant c.in-Err.ensures.err (c.len-before.ensures ∙ c.args.spans.now.ok.0),
)

pub returns : goal.returns
returns c =
    let gained = feeding_ends c.args.self.now c.loop-at.cutter c.args.piece.now c.loop-at.at c.args.spans.now.items c.loop-at.spans.items c.loop-at.invariant c.loop-at-test.false in
    record {
      stands = λ fed stands. (gained.stands fed stands).0;
      games = λ fed stands. new_games c.args.self.now c.loop-at.cutter c.args.piece.now fed c.args.spans.now.items c.loop-at.spans.items gained stands;
      unchanged = tt;
    }
