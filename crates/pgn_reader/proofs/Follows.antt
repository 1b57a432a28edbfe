-- Each move of a game that is read leads from the position before it, so its nodes are a tree.
use Rattle.std.proofs.Common.{◌≡◌, ℕ, ◌+◌, ◌≤◌, inl, inr, length, List, Some, Result, Ok, refl, sym, ap, ◌∙◌, subst, arith}
use Rattle.cq_position.specs.declared.moves.Move.{Move}
use Rattle.cq_position.specs.declared.fen.FenFault.{FenFault}
use Rattle.cq_position.specs.declared.games.GameResult.{GameResult}
use Rattle.cq_position.specs.Board.{Board}
use Rattle.cq_position.specs.Position.{IsPosition}
use Rattle.cq_position.specs.Legal.{Leads}
use Rattle.cq_position.specs.Games.{IsTree}
use Rattle.cq_position.specs.Continuations.{Continuations, none, played, Follows}
use Rattle.cq_position.proofs.Nested.{length_nodes}
use Rattle.cq_position.proofs.Following.{tree_of}
use Rattle.cq_moves.proofs.Kept.{legal_is_position, after_pass_is_position}
use Rattle.cq_san.specs.San.{san}
use Rattle.cq_san.proofs.Means.{exact}
use Rattle.pgn_reader.specs.Words.{Word, Sense, plays, annotates, remarks, ends, opens, closes, means_nothing, out_of_place, sense}
use Rattle.pgn_reader.specs.Tags.{tags_of, start_of}
use Rattle.pgn_reader.specs.Line.{Line, nothing, word, variation, LinePlace, beginning, position_after, moved, LineTail, ParsesWord, ParsesLine, beside, with_leading_notes}
use Rattle.pgn_reader.specs.Games.{root, nodes_of_tail, SpellsOfAnyLength}
use Rattle.pgn_reader.specs.Words.{Word}
use Rattle.pgn_reader.specs.Internal.Frame.{Frame, whole}
use Rattle.pgn_reader.specs.Internal.Machine.{Head, State, run, first}
use Rattle.pgn_reader.specs.Internal.GameAssembly.{nodes_of_rows, game_of_frame}
use Rattle.pgn_reader.proofs.Moves.{legal_not_null, led_by_null, led_by_other}
use Rattle.pgn_reader.proofs.Stands.{Stands, all_stands}
use Rattle.pgn_reader.proofs.Whole.{IsEnd}
use Rattle.pgn_reader.proofs.Answer.{spells_shown, all_nodes_length, whole_counts}

-- if a move leads from a position, `position_after` is the position after it
to_led : (p q : Board) (m : Move) → Leads p m q → q ≡ position_after p m
to_led p q m (inl legal) = legal.leads ∙ sym (led_by_other p m (legal_not_null p q m legal))
to_led p q m (inr passes) = passes.leads ∙ sym (led_by_null p m (ap (λ x. x.null) passes.null))

leads_to_position : (p q : Board) (m : Move) → IsPosition p → Leads p m q → IsPosition q
leads_to_position p q m is (inl legal) = legal_is_position p m q is legal
leads_to_position p q m is (inr passes) = subst IsPosition (sym passes.leads) (after_pass_is_position p is passes.safe)

-- the meaning of a text leads to a position
pub record Led (p : Board) (m : Move) : Type 0 where
  pub leads : Leads p m (position_after p m)
  pub position : IsPosition (position_after p m)

meant_leads : (p : Board) (text : List ℕ) (m : Move) → IsPosition p → san p text ≡ Ok m → Led p m
meant_leads p text m is means =
    let meant = ((exact p text is.whole).meant m).0 means in
    let fits = meant.2.fits in
    let same : fits.next ≡ position_after p m = to_led p fits.next m fits.leads in
    record {
      leads = subst (λ q. Leads p m q) same fits.leads;
      position = subst IsPosition same (leads_to_position p fits.next m is fits.leads);
    }

-- a place that positions lead to
pub record IsSound (a : LinePlace) : Type 0 where
  pub reached : IsPosition a.reached
  pub before : (p : Board) → a.before ≡ Some p → IsPosition p

-- the meaning at a place follows from it
pub record Followed (a : LinePlace) (t : LineTail) : Type 0 where
  pub rest : Follows a.reached t.rest
  pub variations : (p : Board) → a.before ≡ Some p → Follows p t.variations

follows_beside : (p : Board) (c d : Continuations) → Follows p c → Follows p d → Follows p (beside c d)
unfolding Follows
follows_beside p none d f g = g
follows_beside p (played m next others) d f g = (f.0, f.1, follows_beside p others d f.2 g)

follows_noted : (p : Board) (nags : List ℕ) (comments : List (List ℕ)) (c : Continuations) → Follows p c → Follows p (with_leading_notes nags comments c)
unfolding Follows
follows_noted p nags comments none f = f
follows_noted p nags comments (played m next others) f = (f.0, f.1, f.2)

some_same : (p q : Board) → Some p ≡ Some q → p ≡ q
some_same p q e = cc

sound_beginning : (p : Board) → IsPosition p → IsSound (beginning p)
sound_beginning p is = record { reached = is; before = λ q e. absurd (cc) }

sound_moved : (a : LinePlace) (m : Move) → IsSound a → Led a.reached m → IsSound (moved a m)
sound_moved a m sound led = record {
  reached = led.position;
  before = λ q e. subst IsPosition (some_same a.reached q e) sound.reached;
}

told_move : (a : LinePlace) (m : Move) (u : LineTail) → Led a.reached m → Followed (moved a m) u
    → Follows a.reached (played (record { move = m; position = position_after a.reached m; nags = u.nags; comments = u.comments }) u.rest u.variations)
unfolding Follows
told_move a m u led f = (led.leads, f.rest, f.variations a.reached refl)

none_follows : (p : Board) → Follows p none
unfolding Follows
none_follows p = tt

-- a token, before the meaning of the tokens after it
followed_word : (depth : ℕ) (a b : LinePlace) (s : Sense) (u t : LineTail) → IsSound a → ParsesWord depth a s b u t → (IsSound b → Followed b u) → Followed a t
followed_word depth a b (plays m) u t sound (move, means, to, is) after =
    let led : Led a.reached move = meant_leads a.reached m move sound.reached means in
    let later : Followed (moved a move) u = subst (λ x. Followed x u) to (after (subst IsSound (sym to) (sound_moved a move sound led))) in
    subst (Followed a) (sym is) (record {
      rest = subst (λ x. Follows a.reached (played (record { move = move; position = x.reached; nags = u.nags; comments = u.comments }) u.rest u.variations)) (sym to)
          (told_move a move u led later);
      variations = λ p e. none_follows p;
    })
followed_word depth a b (annotates n) u t sound (to, is) after =
    let later : Followed a u = subst (λ x. Followed x u) to (after (subst IsSound (sym to) sound)) in
    subst (Followed a) (sym is) (record { rest = later.rest; variations = later.variations })
followed_word depth a b (remarks c) u t sound (to, is) after =
    let later : Followed a u = subst (λ x. Followed x u) to (after (subst IsSound (sym to) sound)) in
    subst (Followed a) (sym is) (record { rest = later.rest; variations = later.variations })
followed_word depth a b (ends result) u t sound (deep, to, is) after =
    subst (Followed a) (sym is) (subst (λ x. Followed x u) to (after (subst IsSound (sym to) sound)))
followed_word depth a b means_nothing u t sound (to, is) after =
    subst (Followed a) (sym is) (subst (λ x. Followed x u) to (after (subst IsSound (sym to) sound)))
followed_word depth a b opens u t sound here after = absurd here
followed_word depth a b closes u t sound here after = absurd here
followed_word depth a b (out_of_place reason) u t sound here after = absurd here

followed : (l : Line) (depth : ℕ) (a : LinePlace) (t : LineTail) → IsSound a → ParsesLine depth a l t → Followed a t
followed nothing depth a t sound is = subst (Followed a) (sym is) (record { rest = none_follows a.reached; variations = λ p e. none_follows p })
followed (word w rest) depth a t sound (b, u, here, more) = followed_word depth a b (sense w) u t sound here (λ sound_b. followed rest depth b u sound_b more)
followed (variation opening inner closing rest) depth a t sound (p, before, shallow, is_open, is_close, v, within, q, has_move, u, more, is) =
    let in_it : Followed (beginning p) v = followed inner (depth + 1) (beginning p) v (sound_beginning p (sound.before p before)) within in
    let later : Followed a u = followed rest depth a u sound more in
    subst (Followed a) (sym is) (record {
      rest = later.rest;
      variations = λ r e.
          let same : p ≡ r = some_same p r (sym before ∙ e) in
          follows_beside r (with_leading_notes v.nags v.comments v.rest) u.variations
          (subst (λ x. Follows x (with_leading_notes v.nags v.comments v.rest)) same (follows_noted p v.nags v.comments v.rest in_it.rest))
          (later.variations r e);
    })

-- the meaning of a line from a position is a tree
told_tree : (start : Board) (l : Line) (t : LineTail) → IsPosition start → ParsesLine 0 (beginning start) l t
    → length (nodes_of_tail start t) ≤ 65536 → IsTree (nodes_of_tail start t)
told_tree start l t is tells few =
    tree_of (root start t.comments) t.rest (record { parent = refl; led_by = refl })
    (let e = length_nodes 0 1 t.rest in omega (arith, e, few))
    (followed l 0 (beginning start) t (sound_beginning start is) tells).rest

-- the position in which the game begins is that of its tags
starts_at : (ts : List Word) (s : State) (h : Head) (f : Frame) (result : GameResult) → Stands ts s → IsEnd s h f result → start_of h.tags ≡ Ok h.start
starts_at ts s h f result stands (inl there) = (subst (Stands ts) there.0 stands).has_heading.starts
starts_at ts s h f result stands (inr there) = (subst (Stands ts) there stands).state_of.has_heading.starts

ok_same : (p q : Board) → ◌≡◌ {A = Result Board FenFault} (Ok p) (Ok q) → p ≡ q
ok_same p q e = cc

pub tree_shown : (ts : List Word) (h : Head) (f : Frame) (result : GameResult) → IsEnd (run first ts) h f result → h.moves ≤ 65535 → IsPosition h.start → IsTree (nodes_of_rows (whole f))
tree_shown ts h f result is_end few is =
    let s : SpellsOfAnyLength ts (game_of_frame h f result) = spells_shown ts h f result is_end in
    let tags : h.tags ≡ tags_of s.pairs = ap (λ g. g.tags) s.game in
    let start : h.start ≡ s.start = ok_same h.start s.start (sym (starts_at ts (run first ts) h f result (all_stands ts) is_end) ∙ ap start_of tags ∙ s.starts) in
    let nodes : nodes_of_rows (whole f) ≡ nodes_of_tail s.start s.told = ap (λ g. g.nodes) s.game in
    let short : length (nodes_of_rows (whole f)) ≤ 65536 = let a = all_nodes_length (whole f) in let b = whole_counts ts h f result is_end in omega (arith, a, b, few) in
    subst IsTree (sym nodes) (told_tree s.start s.line s.told (subst IsPosition start is) s.tells
    (let e = ap length nodes in omega (arith, e, short)))
