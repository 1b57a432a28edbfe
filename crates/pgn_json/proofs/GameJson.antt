-- The line of a game is JSON.
use Rattle.std.proofs.Common.{◌≡◌, ℕ, ◌^◌, ◌<◌, true, false, List, [], ◌∷◌, ◌++◌, length, map, ◌-◌, refl, arith, codes, decimal}
use Rattle.std.proofs.lemmas.List.Elements.{All-from_get_or, recursion_from_All}
use Rattle.std.proofs.lemmas.Str.{IsUtf8-append, IsUtf8-from_is_utf8, scalars-chars}
use Rattle.std.specs.List.{AllByRecursion}
use Rattle.std.specs.Prelude.{All, chars, if◌then◌else◌}
use Rattle.std.specs.Str.{IsUtf8, is_utf8}
use lib.Utf8.{low_scalar, scalars}
use Rattle.cq_position.specs.FenText.{fen_of}
use Rattle.cq_position.specs.Games.{Node, Game, node_at, no_node, HasNotes}
use Rattle.cq_position.specs.Position.{IsPosition}
use Rattle.cq_position.specs.Search.{ply}
use Rattle.cq_san.proofs.Room.{on_board}
use Rattle.cq_san.specs.Writing.{san_text}
use Rattle.pgn_json.specs.Data.{Value, truth, number, string, array_of}
use Rattle.pgn_json.specs.GameValue.{array_member, fen_members, json_of, mark_members, node_value, note_members, tag_value, text_value}
use Rattle.pgn_json.specs.Grammar.{IsJson, IsReadAsValue}
use Rattle.pgn_json.specs.Json.{game_text, is_marked, json_text, move_of, node_text, parent_of, tag_text, note_members as note_texts, fen_members as fen_texts, mark_members as mark_texts}
use Rattle.pgn_tree.specs.Results.{result_text}
use Rattle.pgn_json.specs.Moves.{uci_text}
use Rattle.pgn_json.specs.GameConditions.{AreBytes, HasByteTexts, HasValidNodes}
use Rattle.pgn_json.specs.Strings.{characters, string_text}
use Rattle.pgn_json.specs.Values.{array, array_member as array_member_text, member, plain}
use Rattle.pgn_json.proofs.Left.{others, others_many, other_at}
use Rattle.pgn_json.proofs.OneValue.{one_reading}
use Rattle.pgn_json.proofs.Plain.{fen_plain}
use Rattle.pgn_json.proofs.PlainMoves.{result_plain, san_plain, uci_plain}
use Rattle.pgn_json.proofs.PlyCounts.{ply_low}
use Rattle.pgn_json.proofs.Steps.{has_position, led_to, parent_low}
use Rattle.pgn_json.proofs.Written.{Writes, WritesAll, WritesMembers, array_json, array_members, ascii_first, each_json, member_if, member_json, members_joined, number_json, object_json, plain_json, string_json, truth_json}

bytes_legal : (text : List ℕ) → AllByRecursion (λ b. b < 256) text → scalars text ≡ true
bytes_legal [] all = refl
bytes_legal (b ∷ text) all = rw (low_scalar b (omega (arith, all.0)), bytes_legal text all.1) refl

text_legal : (text : List ℕ) → AreBytes text → scalars (characters text) ≡ true
unfolding characters
text_legal text are = elim (is_utf8 text) as (λ b. is_utf8 text ≡ b → scalars (if b then chars text else text) ≡ true) [
  | true ↦ λ is. scalars-chars text (IsUtf8-from_is_utf8 text is)
  | false ↦ λ is. bytes_legal text (recursion_from_All (λ b. b < 256) text are)
] refl

text_json : (If : Type 0) (text : List ℕ) → (If → AreBytes text) → Writes If (text_value text) (string_text text)
text_json If text are = string_json If (characters text) (λ ok. text_legal text (are ok))

tag_json : (If : Type 0) (t : List ℕ × List ℕ) → (If → AreBytes t.0 × AreBytes t.1) → Writes If (tag_value t) (tag_text t)
tag_json If t are =
    array_json If (text_value t.0 ∷ text_value t.1 ∷ []) (string_text t.0 ∷ string_text t.1 ∷ [])
    (text_json If t.0 (λ ok. (are ok).0), (text_json If t.1 (λ ok. (are ok).1), tt))

tags_json : (If : Type 0) (tags : List (List ℕ × List ℕ)) → (If → All (λ t. AreBytes t.0 × AreBytes t.1) tags)
    → WritesAll If (map tag_value tags) (map tag_text tags)
tags_json If tags are =
    each_json If tag_value tag_text (λ t. If → AreBytes t.0 × AreBytes t.1) (λ t can. tag_json If t can) tags
    (recursion_from_All (λ t. If → AreBytes t.0 × AreBytes t.1) tags (λ k d low ok. are ok k d low))

notes_json : (If : Type 0) (n : Node) → HasNotes n → (If → All AreBytes n.comments) → WritesMembers If (note_members n) (note_texts n)
notes_json If n has are =
    let nags = map number n.nags in
    let numbers = map decimal n.nags in
    let comments = map text_value n.comments in
    let strings = map string_text n.comments in
    let nags_written = each_json If number decimal (λ i. i < 256) (λ i low. number_json If i (omega (arith, low))) n.nags
    (recursion_from_All (λ i. i < 256) n.nags has.nags) in
    let comments_written = each_json If text_value string_text (λ c. If → AreBytes c) (λ c can. text_json If c can) n.comments
    (recursion_from_All (λ c. If → AreBytes c) n.comments (λ k d low ok. are ok k d low)) in
    members_joined If (array_member (codes "nags") nags) (array_member (codes "comments") comments)
    (array_member_text (codes "nags") numbers) (array_member_text (codes "comments") strings)
    (array_members If (codes "nags") nags numbers refl nags_written) (array_members If (codes "comments") comments strings refl comments_written)

fens_json : (If : Type 0) (mark : List ℕ) (n : Node) → IsPosition n.position → WritesMembers If (fen_members mark n) (fen_texts mark n)
fens_json If mark n is =
    let fen = fen_of n.position in
    member_if If (is_marked mark n) (codes "fen", string fen) (member (codes "fen") (plain fen))
    (member_json If (codes "fen") (string fen) (plain fen) refl (plain_json If fen (fen_plain n.position is)))

marks_json : (If : Type 0) (mark : List ℕ) (n : Node) → WritesMembers If (mark_members mark n) (mark_texts mark n)
marks_json If mark n =
    member_if If (is_marked mark n) (codes "marked", truth) (member (codes "marked") (codes "true"))
    (member_json If (codes "marked") truth (codes "true") refl (truth_json If))

node_json : (If : Type 0) (mark : List ℕ) (nodes : List Node) (k : ℕ) → HasValidNodes nodes → (If → All AreBytes (node_at nodes k).comments) → 0 < k
    → k < length nodes → Writes If (node_value mark nodes k) (node_text mark nodes k)
unfolding node_value node_text
node_json If mark nodes k kept are some_ low =
    let n = node_at nodes k in
    let m = move_of n in
    let parent = parent_of n in
    let before = (node_at nodes parent).position in
    let below = parent_low nodes k kept.tree some_ low in
    let board = on_board before m n.position (has_position nodes kept.tree kept.start parent below) (led_to nodes k kept.tree some_ low) in
    let uci = uci_text m in
    let san = san_text before m in
    let depth = ply nodes k in
    let first = member_json If (codes "parent") (number parent) (decimal parent) refl (number_json If parent (omega (arith, below, kept.tree.few))) in
    let second = member_json If (codes "ply") (number depth) (decimal depth) refl
    (number_json If depth (omega (arith, ply_low nodes k, low, kept.tree.few))) in
    let third = member_json If (codes "uci") (string uci) (plain uci) refl (plain_json If uci (uci_plain m board.0 board.1)) in
    let fourth = member_json If (codes "san") (string san) (plain san) refl (plain_json If san (san_plain before m board.0 board.1)) in
    let last = members_joined If (note_members n) (fen_members mark n) (note_texts n) (fen_texts mark n)
    (notes_json If n (kept.notes k no_node low) are) (fens_json If mark n (has_position nodes kept.tree kept.start k low)) in
    object_json If
    ((codes "parent", number parent) ∷ (codes "ply", number depth) ∷ (codes "uci", string uci) ∷ (codes "san", string san)
    ∷ (note_members n ++ fen_members mark n))
    (member (codes "parent") (decimal parent) ∷ member (codes "ply") (decimal depth) ∷ member (codes "uci") (plain uci)
    ∷ member (codes "san") (plain san) ∷ (note_texts n ++ fen_texts mark n))
    (first, (second, (third, (fourth, last))))

-- the numbers of the nodes but the start
inner : (nodes : List Node) → AllByRecursion (λ k. (0 < k) × (k < length nodes)) (others nodes)
inner nodes =
    recursion_from_All (λ k. (0 < k) × (k < length nodes)) (others nodes)
    (All-from_get_or (λ k. (0 < k) × (k < length nodes)) (others nodes) 0 (λ i below.
    let low : i < length nodes - 1 = omega (arith, below, others_many nodes) in
    let at = other_at nodes i low in
    (omega (arith, at), omega (arith, at, low))))

-- a game; the condition is that its texts are of bytes
pub game_written : (mark : List ℕ) (ordinal byte : ℕ) (g : Game) → HasValidNodes g.nodes → ordinal < 2 ^ 64 → byte < 2 ^ 64
    → Writes (HasByteTexts g) (json_of mark ordinal byte g) (game_text mark ordinal byte g)
unfolding json_of game_text
game_written mark ordinal byte g kept low few =
    let If = HasByteTexts g in
    let start = node_at g.nodes 0 in
    let fen = fen_of start.position in
    let ending = result_text g.result in
    let tag_values = map tag_value g.tags in
    let tag_texts = map tag_text g.tags in
    let node_values = map (node_value mark g.nodes) (others g.nodes) in
    let node_texts = map (node_text mark g.nodes) (others g.nodes) in
    let nodes = each_json If (node_value mark g.nodes) (node_text mark g.nodes) (λ k. (0 < k) × (k < length g.nodes))
    (λ k can. node_json If mark g.nodes k kept (λ ok. ok.comments k no_node can.1) can.0 can.1) (others g.nodes) (inner g.nodes) in
    let first = member_json If (codes "game") (number ordinal) (decimal ordinal) refl (number_json If ordinal low) in
    let second = member_json If (codes "byte") (number byte) (decimal byte) refl (number_json If byte few) in
    let third = member_json If (codes "tags") (array_of tag_values) (array tag_texts) refl
    (array_json If tag_values tag_texts (tags_json If g.tags (λ ok. ok.tags))) in
    let fourth = member_json If (codes "start") (string fen) (plain fen) refl (plain_json If fen (fen_plain start.position kept.start)) in
    let fifth = member_json If (codes "result") (string ending) (plain ending) refl (plain_json If ending (result_plain g.result)) in
    let notes = notes_json If start (kept.notes 0 no_node kept.tree.rooted) (λ ok. ok.comments 0 no_node kept.tree.rooted) in
    let last_value : List ℕ × Value = (codes "nodes", array_of node_values) in
    let last_text = member (codes "nodes") (array node_texts) in
    let last = member_json If (codes "nodes") (array_of node_values) (array node_texts) refl (array_json If node_values node_texts nodes) in
    object_json If
    ((codes "game", number ordinal) ∷ (codes "byte", number byte) ∷ (codes "tags", array_of tag_values) ∷ (codes "start", string fen)
    ∷ (codes "result", string ending) ∷ (note_members start ++ (mark_members mark start ++ (last_value ∷ []))))
    (member (codes "game") (decimal ordinal) ∷ member (codes "byte") (decimal byte) ∷ member (codes "tags") (array tag_texts)
    ∷ member (codes "start") (plain fen) ∷ member (codes "result") (plain ending) ∷ (note_texts start ++ (mark_texts mark start ++ (last_text ∷ [])))) (
      first,
      (
        second,
        (
          third,
          (
            fourth,
            (
              fifth,
              members_joined If (note_members start) (mark_members mark start ++ (last_value ∷ []))
                  (note_texts start) (mark_texts mark start ++ (last_text ∷ [])) notes
                  (members_joined If (mark_members mark start) (last_value ∷ []) (mark_texts mark start) (last_text ∷ []) (marks_json If mark start) (last, tt)),
            ),
          ),
        ),
      ),
    )

game_json : (mark : List ℕ) (ordinal byte : ℕ) (g : Game) → HasValidNodes g.nodes → HasByteTexts g → ordinal < 2 ^ 64 → byte < 2 ^ 64
    → IsJson (json_of mark ordinal byte g) (game_text mark ordinal byte g)
game_json mark ordinal byte g kept texts low few =
    let written = game_written mark ordinal byte g kept low few in
    record { text = written.text; scalars = written.legal texts; encoded = written.encoded; spelled = written.spelled }

-- it is read as the value of its game, and as no other
pub game_read_as : (mark : List ℕ) (ordinal byte : ℕ) (g : Game) → HasValidNodes g.nodes → HasByteTexts g → ordinal < 2 ^ 64 → byte < 2 ^ 64
    → IsReadAsValue (game_text mark ordinal byte g) (json_of mark ordinal byte g)
game_read_as mark ordinal byte g kept texts low few =
    let json = game_json mark ordinal byte g kept texts low few in
    record { value = json; alone = λ w other. one_reading w (json_of mark ordinal byte g) (game_text mark ordinal byte g) other json }

-- and is UTF-8
pub line_utf8 : (mark : List ℕ) (ordinal byte : ℕ) (g : Game) → HasValidNodes g.nodes → HasByteTexts g → ordinal < 2 ^ 64 → byte < 2 ^ 64
    → IsUtf8 (json_text mark ordinal byte g)
line_utf8 mark ordinal byte g kept texts low few =
    let written = game_written mark ordinal byte g kept low few in
    IsUtf8-append (game_text mark ordinal byte g) (codes "\n") (written.text, (written.legal texts, written.encoded)) (codes "\n", (refl, ascii_first 10 [] (omega arith)))
