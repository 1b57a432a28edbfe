-- Tag pairs are read.
use Rattle.std.proofs.Common.{◌≡◌, ℕ, List, [], ◌∷◌, ◌++◌, Option, Some, None, Result, Ok, Bool, true, false, cond, refl, sym, ap, ap₂, ◌∙◌}
use Rattle.std.specs.Prelude.{fold, codes, ◌&&◌}
use Rattle.std.specs.List.{list_all, find}
use Rattle.std.specs.Option.{option_map, option_or, is_some}
use Rattle.std.specs.Str.{bytes_eq}
use Rattle.std.proofs.lemmas.List.Concat.{flat_map-cons}
use Rattle.std.proofs.lemmas.List.Folds.{find-append}
use Rattle.cq_position.specs.Board.{Board}
use Rattle.cq_position.specs.declared.fen.FenFault.{FenFault}
use Rattle.pgn_lexer.specs.declared.token.TokenKind.TheVariants.{Open, Close, Text, Symbol}
use Rattle.pgn_reader.specs.declared.fault.Reason.TheVariants.{BadTag}
use Rattle.pgn_reader.specs.Words.{Word, Sense, plays, annotates, remarks, ends, opens, closes, means_nothing, out_of_place, sense, sense_of, is_comment, is_remark}
use Rattle.cq_position.specs.Games.{tag_value, with_tag}
use Rattle.pgn_reader.specs.Tags.{Pair, IsPair, pair_text, Tags, with_pair, start_by, start_of, value_of}
use Rattle.pgn_reader.specs.Games.{AreHeading, heading_text}
use Rattle.pgn_reader.specs.Internal.Frame.{Frame, begin_game, with_remark}
use Rattle.pgn_reader.specs.Internal.Machine.{Head, opened, named, valued, at, after_pairs, on_name, on_start, on_value, on_closing, on_sense, feed, run}
use Rattle.pgn_reader.proofs.Read.{run_append, feed_is}

-- comments are read before tag pairs as in the movetext
pub record CommentsRead (h : Head) (f : Frame) (k : List Frame) (cs : List Word) : Type 0 where
  pub frame : Frame
  pub is_run : run (at h f k) cs ≡ at h frame k

pub and_left : (a b : Bool) → (a && b) ≡ true → a ≡ true
and_left true b is = refl
and_left false b is = is

pub and_right : (a b : Bool) → (a && b) ≡ true → b ≡ true
and_right true b is = is
and_right false b is = absurd cc

pub all_words : (test : Word → Bool) (c : Word) (cs : List Word) → list_all test (c ∷ cs) ≡ (test c && list_all test cs)
all_words test c cs = refl

comment_fed : (h : Head) (f : Frame) (k : List Frame) (c : Word) (s : Sense) → sense c ≡ s → is_remark s ≡ true → CommentsRead h f k (c ∷ [])
comment_fed h f k c (remarks text) is test = record { frame = with_remark f text; is_run = feed_is h f k c (remarks text) is }
comment_fed h f k c (plays text) is test = absurd cc
comment_fed h f k c (annotates n) is test = absurd cc
comment_fed h f k c (ends r) is test = absurd cc
comment_fed h f k c opens is test = absurd cc
comment_fed h f k c closes is test = absurd cc
comment_fed h f k c means_nothing is test = absurd cc
comment_fed h f k c (out_of_place r) is test = absurd cc

pub comments_read : (cs : List Word) (h : Head) (f : Frame) (k : List Frame) → list_all is_comment cs ≡ true → CommentsRead h f k cs
comments_read [] h f k all = record { frame = f; is_run = refl }
comments_read (c ∷ cs) h f k all =
    let both : (is_comment c && list_all is_comment cs) ≡ true = sym (all_words is_comment c cs) ∙ all in
    let one : CommentsRead h f k (c ∷ []) = comment_fed h f k c (sense c) refl (and_left (is_comment c) (list_all is_comment cs) both) in
    let more : CommentsRead h one.frame k cs = comments_read cs h one.frame k (and_right (is_comment c) (list_all is_comment cs) both) in
    record { frame = more.frame; is_run = ap (λ x. run x cs) one.is_run ∙ more.is_run }

-- the value of a name stays, whatever tags come
pub value_stays : (name : List ℕ) (ts more : Tags) (v : List ℕ) → tag_value name ts ≡ Some v → tag_value name (ts ++ more) ≡ Some v
value_stays name ts more v is =
    ap (option_map (λ t. t.1)) (find-append (λ t. bytes_eq name t.0) ts more) ∙ by_first (find (λ t. bytes_eq name t.0) ts) is
  where
    by_first : (o : Option (List ℕ × List ℕ)) → option_map (λ t. t.1) o ≡ Some v → option_map (λ t. t.1) (option_or o (find (λ t. bytes_eq name t.0) more)) ≡ Some v
    by_first None is = absurd (let x : None ≡ Some v = is in cc)
    by_first (Some t) is = is

pub value_kept : (name other value : List ℕ) (ts : Tags) (v : List ℕ) (b : Bool) → tag_value name ts ≡ Some v → tag_value name (cond b ts (ts ++ (other, value) ∷ [])) ≡ Some v
value_kept name other value ts v false is = value_stays name ts ((other, value) ∷ []) v is
value_kept name other value ts v true is = is

-- the position in which the game begins can be read
pub record IsReadResult (r : Result Board FenFault) : Type 0 where
  pub start : Board
  pub is : r ≡ Ok start

start_before_by : (name value : List ℕ) (ts : Tags) (o : Option (List ℕ)) → tag_value (codes "FEN") ts ≡ o → IsReadResult (start_of (with_tag ts name value)) → IsReadResult (start_of ts)
unfolding start_of
start_before_by name value ts None is later = record { start = _; is = ap start_by is }
start_before_by name value ts (Some v) is later =
    let kept : tag_value (codes "FEN") (with_tag ts name value) ≡ Some v = value_kept (codes "FEN") name value ts v (is_some (tag_value name ts)) is in
    record { start = later.start; is = ap start_by is ∙ sym (ap start_by kept) ∙ later.is }

pub start_before : (name value : List ℕ) (ts : Tags) → IsReadResult (start_of (with_tag ts name value)) → IsReadResult (start_of ts)
start_before name value ts later = start_before_by name value ts (tag_value (codes "FEN") ts) refl later

pub start_first : (pairs : List Pair) (ts : Tags) → IsReadResult (start_of (fold with_pair ts pairs)) → IsReadResult (start_of ts)
start_first [] ts later = later
start_first (p ∷ pairs) ts later = start_before p.name.text (value_of p.value.text) ts (start_first pairs (with_pair ts p) later)

pub opening_is : (w : Word) → w.kind ≡ Open → sense w ≡ out_of_place BadTag
unfolding sense
opening_is w is = ap (λ x. sense_of x w.text) is

-- the tokens of a pair
pub name_fed : (ts : Tags) (w : Word) → w.kind ≡ Symbol → feed (opened ts) w ≡ named ts w.text
unfolding feed
name_fed ts w is = ap (λ x. on_name ts x w.text) is

pub value_fed : (ts : Tags) (name : List ℕ) (w : Word) (start : Board) → w.kind ≡ Text → start_of (with_tag ts name (value_of w.text)) ≡ Ok start
    → feed (named ts name) w ≡ valued (with_tag ts name (value_of w.text)) start
unfolding feed
value_fed ts name w start is starts = ap (on_value (with_tag ts name (value_of w.text))) is ∙ ap (on_start (with_tag ts name (value_of w.text))) starts

closing_fed : (ts : Tags) (start : Board) (w : Word) → w.kind ≡ Close → feed (valued ts start) w ≡ after_pairs ts start
unfolding feed
closing_fed ts start w is = ap (on_closing ts start) is

pub bracket_fed : (h : Head) (f : Frame) (k : List Frame) (w : Word) → h.heading ≡ true → w.kind ≡ Open → feed (at h f k) w ≡ opened h.tags
bracket_fed h f k w may is = feed_is h f k w (out_of_place BadTag) (opening_is w is) ∙ ap₂ (λ b x. on_sense (record h { heading = b }) f k x (out_of_place BadTag)) may is

pub rest_of_pair_read : (ts : Tags) (p : Pair) (start : Board) → IsPair p → start_of (with_pair ts p) ≡ Ok start
    → run (opened ts) (p.name ∷ p.value ∷ p.closing ∷ []) ≡ after_pairs (with_pair ts p) start
rest_of_pair_read ts p start is starts =
    ap (λ x. run x (p.value ∷ p.closing ∷ [])) (name_fed ts p.name is.name)
    ∙ ap (λ x. run x (p.closing ∷ [])) (value_fed ts p.name.text p.value start is.value starts)
    ∙ closing_fed (with_pair ts p) start p.closing is.closing

pub pair_read : (ts : Tags) (p : Pair) (was start : Board) → IsPair p → start_of (with_pair ts p) ≡ Ok start → run (after_pairs ts was) (pair_text p) ≡ after_pairs (with_pair ts p) start
pair_read ts p was start is starts =
    let h : Head = record { tags = ts; start = was; heading = true; moves = 0 } in
    let before : CommentsRead h (begin_game was) [] p.comments = comments_read p.comments h (begin_game was) [] is.comments in
    run_append (at h (begin_game was) []) p.comments (p.opening ∷ p.name ∷ p.value ∷ p.closing ∷ [])
    ∙ ap (λ x. run x (p.opening ∷ p.name ∷ p.value ∷ p.closing ∷ [])) before.is_run
    ∙ ap (λ x. run x (p.name ∷ p.value ∷ p.closing ∷ [])) (bracket_fed h before.frame [] p.opening refl is.opening)
    ∙ rest_of_pair_read ts p start is starts

pub pairs_read : (pairs : List Pair) (ts : Tags) (was start : Board) → AreHeading pairs → start_of ts ≡ Ok was → start_of (fold with_pair ts pairs) ≡ Ok start
    → run (after_pairs ts was) (heading_text pairs) ≡ after_pairs (fold with_pair ts pairs) start
pairs_read [] ts was start all before starts = ap (after_pairs ts) (let e : Ok was ≡ Ok start = sym before ∙ starts in cc)
pairs_read (p ∷ pairs) ts was start all before starts =
    let next : IsReadResult (start_of (with_pair ts p)) = start_first pairs (with_pair ts p) (record { start = start; is = starts }) in
    ap (run (after_pairs ts was)) (flat_map-cons pair_text p pairs)
    ∙ run_append (after_pairs ts was) (pair_text p) (heading_text pairs)
    ∙ ap (λ x. run x (heading_text pairs)) (pair_read ts p was next.start all.0 next.is)
    ∙ pairs_read pairs (with_pair ts p) next.start start all.1 next.is starts
