use Rattle.std.proofs.Common.{◌≡◌, ℕ, ◌+◌, ◌<◌, ◌++◌, [], ◌∷◌, length, refl, sym, ap, subst, ◌∙◌, rules, true, false}
use Rattle.pgn_batches.proofs.Queues.{filled, games_are_counted, grown, tested, small, few_low, few_push, numbers_push, starts_push}
use Rattle.pgn_batches.proofs.state.Queue.add.Goals as goal

pub overflow_add-self : goal.overflow_add-self
overflow_add-self c = let s = small c.args.self.now c.requires.fills.0 c.requires.fills.1 c.requires.fills.2 in let e = c.len-bytes.ensures in let h = c.requires.short in search rules

pub overflow_add-self-then-is_full : goal.overflow_add-self-then-is_full
overflow_add-self-then-is_full c =
    let f = games_are_counted c.args.self.now c.requires.fills.0 c.requires.fills.1 c.requires.fills.2 in let b = c.requires.fills.3 in
    let e = c.len-count.ensures in let p = c.in_ok-push.ensures.len in let o = c.args.self.now.open.ok.0 in search rules

pub returns-in_ok-push_back : goal.returns-in_ok-push_back
returns-in_ok-push_back c = λ games m was.
    let q = c.args.self.now in
    let open_ : c.push.new.self.items ≡ q.open.items ++ c.args.game ∷ [] = c.in_ok-push.ensures.items in
    let taken : c.replace-games.result.items ≡ q.open.items ++ c.args.game ∷ [] = ap (λ v. v.items) c.replace-games.ensures.value ∙ open_ in
    filled q _ c.args.game _ games m was
    (tested q c.args.game games m was c.len.result (q.size + c.len-bytes.result) (c.len.ensures ∙ sym (let o = c.push.new.self.ok.0 in let e = ap length open_ in search rules))
    (ap (λ (n : ℕ). q.size + n) c.len-bytes.ensures) true (sym c.is_full.ensures ∙ c.if-is_full.true))
    (record {
      more = c.in_ok-push_back.ensures.items;
      has = taken;
      at = refl;
      none = ap (λ v. v.items) c.replace-games.ensures.after ∙ c.new.ensures.items;
      empty = refl;
      count = ap (λ (n : ℕ). q.index + n) (c.len-count.ensures ∙ (let o = c.push.new.self.ok.0 in let e = ap length (taken ∙ sym open_) in search rules));
    })

pub returns-else-is_full : goal.returns-else-is_full
returns-else-is_full c = λ games m was.
    let q = c.args.self.now in
    let open_ : c.push.new.self.items ≡ q.open.items ++ c.args.game ∷ [] = c.in_ok-push.ensures.items in
    grown q _ c.args.game games m was
    (tested q c.args.game games m was c.len.result (q.size + c.len-bytes.result) (c.len.ensures ∙ sym (let o = c.push.new.self.ok.0 in let e = ap length open_ in search rules))
    (ap (λ (n : ℕ). q.size + n) c.len-bytes.ensures) false (sym c.is_full.ensures ∙ c.if-is_full.false))
    refl open_ (ap (λ (n : ℕ). q.size + n) c.len-bytes.ensures) refl

pub invariant_of-push_back : goal.invariant_of-push_back
invariant_of-push_back c =
    let q = c.args.self.now in
    let f = c.requires.fills in
    let games = c.replace-games.result.items in
    let taken : games ≡ q.open.items ++ c.args.game ∷ [] = ap (λ v. v.items) c.replace-games.ensures.value ∙ c.in_ok-push.ensures.items in
    record {
      few = few_push q c.args.game games taken;
      numbers = numbers_push q c.args.game f.0 games f.1 f.2 f.3 taken;
      starts = starts_push q.open.items games c.args.game taken q.starts c.requires.start;
    }

pub invariant_of-self-else-is_full : goal.invariant_of-self-else-is_full
invariant_of-self-else-is_full c =
    let q = c.args.self.now in
    let f = c.requires.fills in
    let games = c.push.new.self.items in
    let o = c.push.new.self.ok.0 in
    let count : c.len.result ≡ length games = search rules in
    record {
      starts = starts_push q.open.items games c.args.game c.in_ok-push.ensures.items q.starts c.requires.start;
      few = subst (λ (n : ℕ). n < 1024) count (few_low c.len.result (q.size + c.len-bytes.result) (sym c.if-is_full.ensures));
      numbers = numbers_push q c.args.game f.0 games f.1 f.2 f.3 c.in_ok-push.ensures.items;
    }
