-- The text of a normal game spells the game.
use Rattle.std.proofs.Common.{◌≡◌, ℕ, ◌+◌, ◌<◌, ◌≤◌, ◌^◌, ⊎_elim, Bool, true, false, cond, List, [], ◌∷◌, ◌++◌, length, Option, Some, None, refl, sym, ap, ap₂, ◌∙◌, subst, arith, append_assoc, append-nil, length-append}
use Rattle.std.specs.Prelude.{Result, Ok, Err, IfOk, map}
use Rattle.std.specs.List.{AllByRecursion, flat_map}
use Rattle.cq_common.specs.declared.faults.Refusal.{Refusal}
use Rattle.cq_common.specs.declared.faults.Refusal.TheVariants.{Fault, NoMemory}
use Rattle.cq_position.specs.declared.games.GameResult.{GameResult}
use Rattle.cq_position.specs.declared.moves.Move.{Move}
use Rattle.cq_position.specs.Continuations.{Continuations, none, nodes_from, continuations, with_move, Follows}
use Rattle.cq_position.specs.Games.{Node, Game, node_at, is_number, IsTree, HaveDistinctNames, IsComment, HasNotes, HaveNotes}
use Rattle.cq_position.specs.Position.{IsPosition}
use Rattle.cq_position.proofs.Following.{follows_of}
use Rattle.cq_position.proofs.Preorder.{nodes_back}
use Rattle.pgn_reader.specs.Games.{heading_text, root, MarksEnd, SpellsOfAnyLength, Spells}
use Rattle.pgn_reader.specs.Line.{text, beginning, LineTail, ParsesLine}
use Rattle.pgn_reader.specs.declared.fault.GameFault.{GameFault}
use Rattle.pgn_reader.specs.Tags.{tags_of, start_of}
use Rattle.pgn_reader.specs.Verdict.{IsReadOrNoMemory}
use Rattle.pgn_reader.specs.Words.{Word, ends, remarks, sense, words_of}
use Rattle.pgn_export.specs.Export.{export_text}
use Rattle.pgn_export.specs.Lines.{lines}
use Rattle.pgn_export.specs.Movetext.{line_words, played_in, movetext}
use Rattle.pgn_tree.specs.Results.{result_text}
use Rattle.pgn_export.specs.NormalGames.{levels, IsNormal, IsSameGame, IsReadAs}
use Rattle.pgn_export.specs.TagLines.{tag_line, written_tags}
use Rattle.pgn_export.specs.Words.{comment_words}
use Rattle.pgn_export.proofs.Alike.{AreAlike, parts_of, alike_other, like_line}
use Rattle.pgn_reader.proofs.OneOutcome.{no_fault}
use Rattle.pgn_export.proofs.Glued.{Said, said_more}
use Rattle.pgn_export.proofs.Ordered.{written_as_they_are, tags_back}
use Rattle.pgn_export.proofs.Pairs.{pair_of, are_heading, tags_told}
use Rattle.pgn_export.proofs.Remarks.{all_each, remark_word, comments_said}
use Rattle.pgn_export.proofs.Said.{line_said, marker_token, marker_said, marker_sense, lines_read}
use Rattle.pgn_export.proofs.ReadTokens.{told, told_white, words_told}
use Rattle.pgn_export.proofs.Written.{onto, text_onto, line_of, HasKeptNotes, AreKept, lined, end_of, comments_tell, line_tells}

-- the glyphs and comments of a node are as a game keeps them
abbrev pub IsAnnotated : Node → Type 0
IsAnnotated n = HasKeptNotes n.nags n.comments

kept_by_move : (n : Node) (o : Option Move) (next others : Continuations) → IsAnnotated n → AreKept next → AreKept others → AreKept (with_move n o next others)
unfolding AreKept
kept_by_move n None next others here a b = b
kept_by_move n (Some m) next others here a b = (here, a, b)

kept_by_parent : (t : Bool) (c d : Continuations) → AreKept c → AreKept d → AreKept (cond t c d)
kept_by_parent true c d a b = a
kept_by_parent false c d a b = b

kept_in : (ns : List Node) (parent k : ℕ) → AllByRecursion IsAnnotated ns → AreKept (continuations parent k ns)
unfolding continuations AreKept
kept_in [] parent k all = tt
kept_in (n ∷ ns) parent k all =
    kept_by_parent (is_number n.parent parent) (with_move n n.led_by (continuations k (k + 1) ns) (continuations parent (k + 1) ns)) (continuations parent (k + 1) ns)
    (kept_by_move n n.led_by (continuations k (k + 1) ns) (continuations parent (k + 1) ns) all.0 (kept_in ns k (k + 1) all.1) (kept_in ns parent (k + 1) all.1))
    (kept_in ns parent (k + 1) all.1)

-- the tokens of the text
text_apart : (tags : List ℕ) (rest : List ℕ) → ((tags ++ 10 ∷ []) ++ rest) ++ 10 ∷ [] ≡ tags ++ (10 ∷ (rest ++ 10 ∷ []))
text_apart tags rest = append_assoc (tags ++ 10 ∷ []) rest (10 ∷ []) ∙ append_assoc tags (10 ∷ []) (rest ++ 10 ∷ [])

record IsToldAs (g : Game) (first : Bool) (vs : List Word) : Type 0 where
  words : List Word
  is : told first (export_text g) ≡ heading_text (map pair_of g.tags) ++ words
  alike : AreAlike words vs

movetext_some : (g : Game) → 0 < length (movetext g)
movetext_some g =
    let comments = flat_map comment_words (node_at g.nodes 0).comments in
    let line = line_words (node_at g.nodes 0).position true (played_in g) in
    let one = length-append comments (line ++ (result_text g.result ∷ [])) in
    let two = length-append line (result_text g.result ∷ []) in
    omega (arith, one, two)

export_told : (g : Game) (first : Bool) (vs : List Word) → IsNormal g → Said (movetext g) vs → IsToldAs g first vs
export_told g first vs normal said =
    let more : List ℕ = 10 ∷ (lines (movetext g) ++ 10 ∷ []) in
    let tags = tags_told g.tags first more normal.writable in
    let read = lines_read (movetext g) vs true (movetext_some g) said in
    record {
      words = read.words;
      is =
          ap (told first) (text_apart (flat_map tag_line (written_tags g)) (lines (movetext g)) ∙ ap (λ l. flat_map tag_line l ++ more) (written_as_they_are g normal))
          ∙ tags.is
          ∙ ap (λ l. heading_text (map pair_of g.tags) ++ l) (told_white tags.column 10 (lines (movetext g) ++ 10 ∷ []) refl ∙ read.is);
      alike = read.alike;
    }

-- the marker's token
ends_no_remark : (result : GameResult) (c : List ℕ) → ends result ≡ remarks c → ⊥
ends_no_remark result c e = cc

marked : (tags : List (List ℕ × List ℕ)) (result : GameResult) (ws : List Word) → AreAlike ws (marker_token result ∷ []) → MarksEnd tags ws result
marked tags result [] alike = absurd alike
marked tags result (w ∷ []) alike =
    ap sense (alike_other w (marker_token result) (ends result) (marker_sense result) (ends_no_remark result) alike.0) ∙ marker_sense result
marked tags result (w ∷ v ∷ ws) alike = absurd alike.1

root_is : (r : Node) → r.parent ≡ None → r.led_by ≡ None → r.nags ≡ [] → r ≡ root r.position r.comments
root_is r parent led nags =
    ap (λ x. record r { parent = x }) parent
    ∙ ap (λ x. record r { parent = None; led_by = x }) led
    ∙ ap (λ x. record r { parent = None; led_by = None; nags = x }) nags

at_first : (n most : ℕ) → n ≤ most → 0 + n ≤ most
at_first n most few = omega (arith, few)

spelled_by : (tags : List (List ℕ × List ℕ)) (result : GameResult) (r : Node) (ns : List Node) → let g : Game = record { tags = tags; result = result; nodes = r ∷ ns } in
    IsTree (r ∷ ns) → HaveDistinctNames tags → IsPosition r.position → AllByRecursion IsAnnotated (r ∷ ns) → IsNormal g
    → (first : Bool) → SpellsOfAnyLength (told first (export_text g)) g
spelled_by tags result r ns tree distinct position annotated normal first =
    let g : Game = record { tags = tags; result = result; nodes = r ∷ ns } in
    let c = continuations 0 1 ns in
    let back : nodes_from 0 1 c ≡ ns = nodes_back r ns tree in
    let follows : Follows r.position c = follows_of r c (subst (λ l. IsTree (r ∷ l)) (sym back) tree) in
    let kept : AreKept c = kept_in ns 0 1 annotated.1 in
    let line = line_of r.position true c in
    let whole = onto (map remark_word r.comments) line in
    let end = end_of (beginning r.position) c in
    let t : LineTail = record (lined none c end) { comments = r.comments } in
    let tells : ParsesLine 0 (beginning r.position) whole t =
    subst (λ cs. ParsesLine 0 (beginning r.position) whole (record (lined none c end) { comments = cs })) (append-nil r.comments)
    (comments_tell 0 (beginning r.position) r.comments line (lined none c end) annotated.0.comments
    (line_tells c r.position true 0 (beginning r.position) refl position follows kept (at_first (levels c) 100 normal.few_levels))) in
    let said : Said (movetext g) (text whole ++ marker_token result ∷ []) =
    subst (λ l. Said (movetext g) l)
    (sym (append_assoc (map remark_word r.comments) (text line) (marker_token result ∷ [])) ∙ ap (λ l. l ++ marker_token result ∷ []) (sym (text_onto (map remark_word r.comments) line)))
    (said_more (flat_map comment_words r.comments) (line_words r.position true c ++ (result_text result ∷ [])) (map remark_word r.comments) (text line ++ marker_token result ∷ [])
    (comments_said r.comments annotated.0.comments)
    (said_more (line_words r.position true c) (result_text result ∷ []) (text line) (marker_token result ∷ []) (line_said c r.position true position follows kept) (marker_said result))) in
    let read = export_told g first (text whole ++ marker_token result ∷ []) normal said in
    let parts = parts_of read.words (text whole) (marker_token result ∷ []) read.alike in
    let like = like_line whole 0 (beginning r.position) parts.left t parts.alike_left tells in
    let same_tags : tags_of (map pair_of tags) ≡ tags = tags_back tags distinct in
    record {
      pairs = map pair_of tags;
      line = like.line;
      marker = parts.right;
      joined = read.is ∙ ap (λ l. heading_text (map pair_of tags) ++ l) (parts.is ∙ ap (λ l. l ++ parts.right) like.is);
      heading = are_heading tags;
      start = r.position;
      starts = ap start_of same_tags ∙ normal.start;
      told = t;
      tells = like.tells;
      result = result;
      marks = marked (tags_of (map pair_of tags)) result parts.right parts.alike_right;
      game =
          ap₂ (λ ts l. record { tags = ts; result = result; nodes = l }) (sym same_tags)
          (ap₂ (λ x l. x ∷ l) (root_is r tree.root.parent tree.root.led_by normal.no_glyph) (sym back));
    }

spelled_of : (tags : List (List ℕ × List ℕ)) (result : GameResult) (nodes : List Node) → let g : Game = record { tags = tags; result = result; nodes = nodes } in
    IsTree nodes → HaveDistinctNames tags → IsPosition (node_at nodes 0).position → AllByRecursion IsAnnotated nodes → IsNormal g
    → (first : Bool) → SpellsOfAnyLength (told first (export_text g)) g
spelled_of tags result [] tree distinct position annotated normal first = absurd (let some = tree.rooted in omega (arith, some))
spelled_of tags result (r ∷ ns) tree distinct position annotated normal first = spelled_by tags result r ns tree distinct position annotated normal first

annotated : (n : Node) → HasNotes n → IsAnnotated n
annotated n has = record { nags = all_each (λ nag. nag < 256) n.nags has.nags; comments = all_each IsComment n.comments has.comments }

all_annotated : (ns : List Node) → AllByRecursion HasNotes ns → AllByRecursion IsAnnotated ns
all_annotated [] all = tt
all_annotated (n ∷ ns) all = (annotated n all.0, all_annotated ns all.1)

pub export_spells : (g : Game) → IsTree g.nodes → HaveNotes g.nodes → HaveDistinctNames g.tags → IsPosition (node_at g.nodes 0).position → IsNormal g
    → (start : ℕ) (first : Bool) → Spells (words_of start first (export_text g)) g
export_spells g tree notes distinct position normal start first = record {
  spells = subst (λ ws. SpellsOfAnyLength ws g) (sym (words_told start first (export_text g)))
      (spelled_of g.tags g.result g.nodes tree distinct position (all_annotated g.nodes (all_each HasNotes g.nodes notes)) normal first);
  few = tree.few;
}

-- the result of reading the text
too_long : (limit n : ℕ) → limit < n → n ≤ limit → ⊥
too_long limit n long short = omega (arith, long, short)

read_back : (g : Game) (start : ℕ) (first : Bool) (text : List ℕ) (answer : Result Game (Refusal GameFault)) → Spells (words_of start first text) g → length text ≤ 2 ^ 24
    → IsReadOrNoMemory start first text answer → IsSameGame g answer
read_back g start first text (Ok h) spells short verdict = sym (verdict.1.alone g spells)
read_back g start first text (Err NoMemory) spells short verdict = tt
read_back g start first text (Err (Fault fault)) spells short verdict =
    ⊎_elim
    (λ long. too_long (2 ^ 24) (length text) long.long short)
    (λ f. no_fault (words_of start first text) g spells f.index fault.reason f.fault)
    verdict

-- so a result that is the text of a normal game spells it, and is read as it
pub answer_spells : {E : Type 0} (g : Game) (answer : Result (List ℕ) E) → IsTree g.nodes → HaveNotes g.nodes → HaveDistinctNames g.tags → IsPosition (node_at g.nodes 0).position
    → IfOk answer (λ text. text ≡ export_text g) → IfOk answer (λ text. IsNormal g → (start : ℕ) (first : Bool) → Spells (words_of start first text) g)
answer_spells g (Ok text) tree notes distinct position is =
    λ normal start first. subst (λ t. Spells (words_of start first t) g) (sym is) (export_spells g tree notes distinct position normal start first)
answer_spells g (Err e) tree notes distinct position is = tt

pub answer_back : {E : Type 0} (g : Game) (answer : Result (List ℕ) E) → IfOk answer (λ text. text ≡ export_text g)
    → IfOk answer (λ text. IsNormal g → (start : ℕ) (first : Bool) → Spells (words_of start first text) g) → IfOk answer (λ text. IsNormal g → IsReadAs text g)
answer_back g (Ok text) is spelled = λ normal start first answer verdict.
    read_back g start first text answer (spelled normal start first) (subst (λ t. length t ≤ 2 ^ 24) (sym is) normal.short) verdict
answer_back g (Err e) is spelled = tt
