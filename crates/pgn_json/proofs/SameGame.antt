-- Games with the same line.
use Rattle.std.proofs.Common.{◌≡◌, ℕ, zero, suc, ◌-◌, ◌^◌, ◌<◌, ◌==◌, ◌&&◌, nat_lt, not, Bool, true, false, List, [], ◌∷◌, ◌++◌, Some, length, map, drop, get_or, refl, ap, ◌∙◌, sym, subst, arith, inl, inr, codes}
use Rattle.std.proofs.lemmas.Bool.{cases_eq, true≢false}
use Rattle.std.proofs.lemmas.List.{append_cancel_right, ext_get_or, get_or-map, length-map}
use Rattle.std.specs.Option.{unwrap_or}
use Rattle.std.specs.Prelude.{if◌then◌else◌, Result, Ok, Err}
use Rattle.cq_position.specs.Board.{Board}
use Rattle.cq_position.specs.FenText.{fen_of}
use Rattle.cq_position.specs.Games.{Node, Game, node_at, no_node, IsSamePlace}
use Rattle.cq_position.specs.Legal.{Leads, Legal, Passes, is_pseudo_legal, reaches, promotion_is_right}
use Rattle.cq_position.specs.Moves.{null_move}
use Rattle.cq_position.specs.Position.{IsPosition}
use Rattle.cq_position.specs.declared.games.GameResult.{GameResult}
use Rattle.cq_position.specs.declared.games.GameResult.TheVariants.{White as WhiteWon, Black as BlackWon, Draw, Open as Undecided}
use Rattle.cq_position.specs.declared.moves.Move.{Move}
use Rattle.cq_san.proofs.Means.{written_read}
use Rattle.cq_san.specs.San.{san}
use Rattle.cq_san.specs.Writing.{san_text}
use Rattle.cq_san.specs.declared.fault.SanFault.{SanFault}
use Rattle.pgn_json.specs.Data.{Value, truth, array_of}
use Rattle.pgn_json.specs.GameValue.{fen_members, json_of, mark_members, node_value, note_members, tag_value}
use Rattle.pgn_json.specs.Json.{game_text, is_marked, json_text, move_of, parent_of}
use Rattle.pgn_tree.specs.Results.{result_text}
use Rattle.pgn_json.specs.GameConditions.{HasValidNodes}
use Rattle.pgn_json.specs.GameReading.{decoded_game, decoded_node, decoded_tag}
use Rattle.pgn_json.proofs.GameJson.{game_written}
use Rattle.pgn_json.proofs.Left.{others, others_many, other_at}
use Rattle.pgn_json.proofs.OneValue.{one_spelled}
use Rattle.pgn_json.proofs.ValueParts.{SameNotes, after_one, characters_in, map_back, member_at, members_back, members_in, number_in, same_notes, size, size_if, values_back, values_in}
use Rattle.pgn_json.proofs.SameBoards.{fen_same}
use Rattle.pgn_json.proofs.Steps.{has_position, led_to, parent_low}

-- the members of a node
record SameTold (nodes others : List Node) (k : ℕ) : Type 0 where
  parent : parent_of (node_at nodes k) ≡ parent_of (node_at others k)
  san :
      san_text (node_at nodes (parent_of (node_at nodes k))).position (move_of (node_at nodes k))
      ≡ san_text (node_at others (parent_of (node_at others k))).position (move_of (node_at others k))
  notes : SameNotes (node_at nodes k) (node_at others k)

fen_size : (b : Bool) (v : Value) (n : ℕ) → (3 ≡ n → ⊥) → (0 ≡ n → ⊥) → size (if b then (codes "fen", v) ∷ [] else []) ≡ n → ⊥
fen_size true v n here none = here
fen_size false v n here none = none

same_told : (mark mark' : List ℕ) (nodes nodes' : List Node) (k : ℕ) → node_value mark nodes k ≡ node_value mark' nodes' k → SameTold nodes nodes' k
unfolding node_value
same_told mark mark' nodes nodes' k same =
    let n = node_at nodes k in
    let o = node_at nodes' k in
    let all = ap members_in same in
    let rest : note_members n ++ fen_members mark n ≡ note_members o ++ fen_members mark' o
    = sym (members_back (note_members n ++ fen_members mark n)) ∙ ap (drop 4) all ∙ members_back (note_members o ++ fen_members mark' o) in
    record {
      parent = ap (λ l. number_in (member_at l 0).1) all;
      san = ap (λ l. characters_in (member_at l 3).1) all;
      notes = (same_notes n o (fen_members mark n) (fen_members mark' o)
          (fen_size (is_marked mark n) _ 4 (λ e. absurd (omega (arith, e))) (λ e. absurd (omega (arith, e))))
          (fen_size (is_marked mark n) _ 8 (λ e. absurd (omega (arith, e))) (λ e. absurd (omega (arith, e))))
          (fen_size (is_marked mark' o) _ 4 (λ e. absurd (omega (arith, e))) (λ e. absurd (omega (arith, e))))
          (fen_size (is_marked mark' o) _ 8 (λ e. absurd (omega (arith, e))) (λ e. absurd (omega (arith, e)))) rest).0;
    }

-- the members of a game
record SameValue (mark mark' : List ℕ) (ordinal ordinal' byte byte' : ℕ) (g h : Game) : Type 0 where
  counted : ordinal ≡ ordinal'
  begins : byte ≡ byte'
  tags : map decoded_tag g.tags ≡ map decoded_tag h.tags
  start : fen_of (node_at g.nodes 0).position ≡ fen_of (node_at h.nodes 0).position
  result : g.result ≡ h.result
  notes : SameNotes (node_at g.nodes 0) (node_at h.nodes 0)
  nodes : map (node_value mark g.nodes) (others g.nodes) ≡ map (node_value mark' h.nodes) (others h.nodes)

abbrev result_back : List ℕ → GameResult
result_back text =
    if get_or text 0 0 == 42 then Undecided else if get_or text 0 0 == 48 then BlackWon else if get_or text 1 0 == 45 then WhiteWon else Draw

one_result : (ending : GameResult) → result_back (result_text ending) ≡ ending
one_result WhiteWon = refl
one_result BlackWon = refl
one_result Draw = refl
one_result Undecided = refl

abbrev tag_in : Value → List ℕ × List ℕ
tag_in v = (characters_in (get_or (values_in v) 0 truth), characters_in (get_or (values_in v) 1 truth))

abbrev nodes_member : List ℕ → Game → List ℕ × Value
nodes_member mark g = (codes "nodes", array_of (map (node_value mark g.nodes) (others g.nodes)))

abbrev last_members : List ℕ → Game → List (List ℕ × Value)
last_members mark g = mark_members mark (node_at g.nodes 0) ++ nodes_member mark g ∷ []

last_size : (mark : List ℕ) (g : Game) (n : ℕ) → (6 ≡ n → ⊥) → (5 ≡ n → ⊥) → size (last_members mark g) ≡ n → ⊥
last_size mark g n marked nodes = size_if (is_marked mark (node_at g.nodes 0)) (codes "marked", truth) (nodes_member mark g ∷ []) n marked nodes

same_value : (mark mark' : List ℕ) (ordinal ordinal' byte byte' : ℕ) (g h : Game) → json_of mark ordinal byte g ≡ json_of mark' ordinal' byte' h
    → SameValue mark mark' ordinal ordinal' byte byte' g h
unfolding json_of
same_value mark mark' ordinal ordinal' byte byte' g h same =
    let start = node_at g.nodes 0 in
    let start' = node_at h.nodes 0 in
    let all = ap members_in same in
    let tags : map tag_value g.tags ≡ map tag_value h.tags
    = sym (values_back (map tag_value g.tags)) ∙ ap (λ l. values_in (member_at l 2).1) all ∙ values_back (map tag_value h.tags) in
    let rest : note_members start ++ last_members mark g ≡ note_members start' ++ last_members mark' h
    = sym (members_back (note_members start ++ last_members mark g)) ∙ ap (drop 5) all ∙ members_back (note_members start' ++ last_members mark' h) in
    let noted = same_notes start start' (last_members mark g) (last_members mark' h)
    (last_size mark g 4 (λ e. absurd (omega (arith, e))) (λ e. absurd (omega (arith, e))))
    (last_size mark g 8 (λ e. absurd (omega (arith, e))) (λ e. absurd (omega (arith, e))))
    (last_size mark' h 4 (λ e. absurd (omega (arith, e))) (λ e. absurd (omega (arith, e))))
    (last_size mark' h 8 (λ e. absurd (omega (arith, e))) (λ e. absurd (omega (arith, e)))) rest in
    let last = after_one (is_marked mark start) (is_marked mark' start') (codes "marked", truth) (codes "marked", truth)
    (nodes_member mark g ∷ []) (nodes_member mark' h ∷ []) (λ e. absurd (omega (arith, e))) (λ e. absurd (omega (arith, e))) noted.1 in
    record {
      counted = ap (λ l. number_in (member_at l 0).1) all;
      begins = ap (λ l. number_in (member_at l 1).1) all;
      tags = sym (map_back tag_value tag_in decoded_tag (λ t. refl) g.tags) ∙ ap (map tag_in) tags ∙ map_back tag_value tag_in decoded_tag (λ t. refl) h.tags;
      start = ap (λ l. characters_in (member_at l 3).1) all;
      result = sym (one_result g.result) ∙ ap (λ l. result_back (characters_in (member_at l 4).1)) all ∙ one_result h.result;
      notes = noted.0;
      nodes =
          sym (values_back (map (node_value mark g.nodes) (others g.nodes))) ∙ ap (λ l. values_in (member_at l 0).1) last
          ∙ values_back (map (node_value mark' h.nodes) (others h.nodes));
    }

-- a move leads to one position, and is written in one way
null_of : (p : Board) (m : Move) → is_pseudo_legal p m ≡ true → m.null ≡ false
unfolding is_pseudo_legal
null_of p m moves = by_null m.null (nat_lt m.to 64) (reaches p m.from m.to) (promotion_is_right p m) moves
  where
    by_null : (null a b c : Bool) → (not null && a && b && c) ≡ true → null ≡ false
    by_null true a b c e = absurd (true≢false (sym e))
    by_null false a b c e = refl

clash : (p : Board) (m : Move) (q r : Board) → Legal p m q → Passes p m r → ⊥
clash p m q r legal pass = true≢false (sym (ap (λ (x : Move). x.null) pass.null) ∙ null_of p m legal.moves)

one_next : (p : Board) (m : Move) (q r : Board) → Leads p m q → Leads p m r → q ≡ r
one_next p m q r (inl a) (inl b) = a.leads ∙ sym b.leads
one_next p m q r (inl a) (inr b) = absurd (clash p m q r a b)
one_next p m q r (inr a) (inl b) = absurd (clash p m r q b a)
one_next p m q r (inr a) (inr b) = a.leads ∙ sym b.leads

abbrev move_or_null : Result Move SanFault → Move
move_or_null (Ok m) = m
move_or_null (Err fault) = null_move

one_move : (p : Board) (m n : Move) (q r : Board) → IsPosition p → Leads p m q → Leads p n r → san_text p m ≡ san_text p n → m ≡ n
one_move p m n q r kept leads other same =
    ap move_or_null (sym (written_read p m q kept leads) ∙ ap (san p) same ∙ written_read p n r kept other)

-- the first n nodes are at the same places
same_places : (n : ℕ) (nodes nodes' : List Node) → HasValidNodes nodes → HasValidNodes nodes' → length nodes ≡ length nodes'
    → (node_at nodes 0).position ≡ (node_at nodes' 0).position → ((k : ℕ) → 0 < k → k < length nodes → SameTold nodes nodes' k)
    → (k : ℕ) → k < n → k < length nodes → IsSamePlace (node_at nodes k) (node_at nodes' k)
same_places zero nodes nodes' kept kept' many start each k less low = absurd (omega (arith, less))
same_places (suc n) nodes nodes' kept kept' many start each k less low = elim (cases_eq k 0) [
  | inl is ↦
      subst (λ i. IsSamePlace (node_at nodes i) (node_at nodes' i)) (sym is) (record {
        parent = kept.tree.root.parent ∙ sym kept'.tree.root.parent;
        led_by = kept.tree.root.led_by ∙ sym kept'.tree.root.led_by;
        position = start;
      })
  | inr not_so ↦
      let some_ : 0 < k = omega (arith, not_so) in
      let low' : k < length nodes' = omega (arith, low, many) in
      let told = each k some_ low in
      let here = node_at nodes k in
      let there = node_at nodes' k in
      let child = kept.tree.children k some_ low in
      let child' = kept'.tree.children k some_ low' in
      let up : parent_of here ≡ child.number = ap (λ o. unwrap_or o 0) child.parent in
      let up' : parent_of there ≡ child'.number = ap (λ o. unwrap_or o 0) child'.parent in
      let before = same_places n nodes nodes' kept kept' many start each (parent_of here)
      (omega (arith, up, child.after, less)) (omega (arith, up, child.after, low)) in
      let p = (node_at nodes (parent_of here)).position in
      let board : p ≡ (node_at nodes' (parent_of there)).position = before.position ∙ ap (λ i. (node_at nodes' i).position) told.parent in
      let leads = led_to nodes k kept.tree some_ low in
      let leads' : Leads p (move_of there) there.position
      = subst (λ b. Leads b (move_of there) there.position) (sym board) (led_to nodes' k kept'.tree some_ low') in
      let text : san_text p (move_of here) ≡ san_text p (move_of there) = told.san ∙ ap (λ b. san_text b (move_of there)) (sym board) in
      let is = has_position nodes kept.tree kept.start (parent_of here) (parent_low nodes k kept.tree some_ low) in
      let move : move_of here ≡ move_of there = one_move p (move_of here) (move_of there) here.position there.position is leads leads' text in
      let led : here.led_by ≡ Some (move_of here) = child.led_by ∙ ap Some (sym (ap (λ o. unwrap_or o null_move) child.led_by)) in
      let led' : there.led_by ≡ Some (move_of there) = child'.led_by ∙ ap Some (sym (ap (λ o. unwrap_or o null_move) child'.led_by)) in
      record {
        parent = child.parent ∙ ap Some (sym up ∙ told.parent ∙ up') ∙ sym child'.parent;
        led_by = led ∙ ap Some move ∙ sym led';
        position = one_next p (move_of here) here.position there.position leads
            (subst (λ m. Leads p m there.position) (sym move) leads');
      }
]

node_same : (a b : Node) → IsSamePlace a b → SameNotes a b → decoded_node a ≡ decoded_node b
node_same a b place notes = λ i. record {
  parent = place.parent i;
  led_by = place.led_by i;
  position = place.position i;
  nags = notes.nags i;
  comments = notes.comments i;
}

value_at : (value : ℕ → Value) (nodes : List Node) (k : ℕ) → 0 < k → k < length nodes → get_or (map value (others nodes)) (k - 1) truth ≡ value k
value_at value nodes k some_ low =
    let at : get_or (others nodes) (k - 1) 0 ≡ k = omega (arith, other_at nodes (k - 1) (omega (arith, some_, low)), some_) in
    get_or-map value (others nodes) (k - 1) 0 truth (omega (arith, others_many nodes, some_, low)) ∙ ap value at

same_nodes : (mark mark' : List ℕ) (nodes nodes' : List Node) → HasValidNodes nodes → HasValidNodes nodes'
    → fen_of (node_at nodes 0).position ≡ fen_of (node_at nodes' 0).position → SameNotes (node_at nodes 0) (node_at nodes' 0)
    → map (node_value mark nodes) (others nodes) ≡ map (node_value mark' nodes') (others nodes') → map decoded_node nodes ≡ map decoded_node nodes'
same_nodes mark mark' nodes nodes' kept kept' fen notes same =
    let many : length nodes ≡ length nodes' = omega (
      arith,
      ap length same,
      length-map (others nodes) (node_value mark nodes),
      length-map (others nodes') (node_value mark' nodes'),
      others_many nodes,
      others_many nodes',
      kept.tree.rooted,
      kept'.tree.rooted,
    ) in
    let start = fen_same (node_at nodes 0).position (node_at nodes' 0).position kept.start kept'.start fen in
    let told : (k : ℕ) → 0 < k → k < length nodes → SameTold nodes nodes' k
    = λ k some_ low. same_told mark mark' nodes nodes' k (
    sym (value_at (node_value mark nodes) nodes k some_ low) ∙ ap (λ l. get_or l (k - 1) truth) same
    ∙ value_at (node_value mark' nodes') nodes' k some_ (omega (arith, low, many))
    ) in
    let noted : (k : ℕ) → k < length nodes → SameNotes (node_at nodes k) (node_at nodes' k)
    = λ k low. elim (cases_eq k 0) [
      | inl is ↦ subst (λ i. SameNotes (node_at nodes i) (node_at nodes' i)) (sym is) notes
      | inr not_so ↦ (told k (omega (arith, not_so)) low).notes
    ] in
    ext_get_or (decoded_node no_node) (map decoded_node nodes) (map decoded_node nodes')
    (length-map nodes decoded_node ∙ many ∙ sym (length-map nodes' decoded_node))
    (λ k less.
    let low : k < length nodes = omega (arith, less, length-map nodes decoded_node) in
    get_or-map decoded_node nodes k no_node (decoded_node no_node) low
    ∙ node_same (node_at nodes k) (node_at nodes' k) (same_places (length nodes) nodes nodes' kept kept' many start told k low low) (noted k low)
    ∙ sym (get_or-map decoded_node nodes' k no_node (decoded_node no_node) (omega (arith, low, many))))

-- a game of which a line is written, and its place in an archive
pub record IsPlaced (ordinal byte : ℕ) (g : Game) : Type 0 where
  pub kept : HasValidNodes g.nodes
  pub number : ordinal < 2 ^ 64
  pub begins : byte < 2 ^ 64

pub same_line : (mark mark' : List ℕ) (ordinal ordinal' byte byte' : ℕ) (g h : Game) → IsPlaced ordinal byte g → IsPlaced ordinal' byte' h
    → json_text mark ordinal byte g ≡ json_text mark' ordinal' byte' h
    → (ordinal ≡ ordinal') × (byte ≡ byte') × (decoded_game g ≡ decoded_game h)
same_line mark mark' ordinal ordinal' byte byte' g h first second same =
    let text = append_cancel_right (game_text mark ordinal byte g) (game_text mark' ordinal' byte' h) (codes "\n") same in
    let one = game_written mark ordinal byte g first.kept first.number first.begins in
    let other = game_written mark' ordinal' byte' h second.kept second.number second.begins in
    let value = one_spelled (json_of mark ordinal byte g) (json_of mark' ordinal' byte' h) one.text other.text (one.encoded ∙ text ∙ sym other.encoded) one.spelled other.spelled in
    let told = same_value mark mark' ordinal ordinal' byte byte' g h value in
    let nodes = same_nodes mark mark' g.nodes h.nodes first.kept second.kept told.start told.notes told.nodes in
    (told.counted, told.begins, λ i. record { tags = told.tags i; result = told.result i; nodes = nodes i })
