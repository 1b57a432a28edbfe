use Rattle.std.proofs.Common.{◌∙◌, refl, ap, rules}
use Rattle.pgn_batches.proofs.Queues.{last_none, last_some, none_of}
use Rattle.pgn_batches.proofs.state.Queue.take_last.Goals as goal

pub returns-then-is_empty : goal.returns-then-is_empty
returns-then-is_empty c = λ games m was none.
    last_none c.args.self.now _ games m was none
    (none_of c.args.self.now.open.items (let e = c.is_empty.ensures in let t = c.if-is_empty.true in let o = c.args.self.now.open.ok.0 in search rules)) refl refl

pub returns : goal.returns
returns c = λ games m was none.
    last_some c.args.self.now _ _ c.args.self.now.open.items games m was none
    (let e = c.is_empty.ensures in let t = c.if-is_empty.false in let o = c.args.self.now.open.ok.0 in search rules) refl (record {
      has = ap (λ v. v.items) c.replace-games.ensures.value;
      at = refl;
      full = refl;
      open_ = ap (λ v. v.items) c.replace-games.ensures.after ∙ c.new.ensures.items;
    })
