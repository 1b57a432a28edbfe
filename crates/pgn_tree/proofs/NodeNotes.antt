-- The notes of a tree's nodes are those that a game keeps.
use Rattle.std.proofs.Common.{◌≡◌, ℕ, ◌<◌, List, [], ◌∷◌, ◌++◌, length, get_or, Ok, Err, sym, ap, ◌∙◌, subst}
use Rattle.std.specs.Prelude.{slice_set, Result, OnOk, OnErr}
use Rattle.std.proofs.lemmas.List.Elements.{All-nil, All-push, All-set, All-get_or}
use Rattle.cq_position.specs.Games.{Node, no_node, with_nag, with_comment, HasNotes, HaveNotes}
use Rattle.cq_position.proofs.Comments.{nag_noted, comment_noted}
use Rattle.pgn_tree.specs.Links.{LinkedNode, nodes_of}
use Rattle.pgn_tree.specs.Words.{without_braces}
use Rattle.pgn_tree.proofs.Linking.{nodes_of_set, length_nodes_of, node_of}
use Rattle.pgn_tree.proofs.LinkedNode.{read_at}
use Rattle.pgn_tree.proofs.Words.{no_brace_left}

-- one more node
pub new_notes : (nodes : List Node) (x : Node) → HasNotes x → HaveNotes nodes → HaveNotes (nodes ++ x ∷ [])
new_notes nodes x has notes = All-push HasNotes nodes x notes has

pub first_notes : (x : Node) → HasNotes x → HaveNotes (x ∷ [])
first_notes x has = new_notes [] x has (All-nil HasNotes)

-- the notes of the node that is read
pub noted_at : (items : List LinkedNode) (k : ℕ) (old : LinkedNode) → k < length items → old ≡ get_or items k old → HaveNotes (nodes_of items) → HasNotes old.node
noted_at items k old h old_is notes =
    subst HasNotes (sym (ap (λ y. y.node) (read_at items k old h old_is) ∙ sym (node_of items k)))
    (All-get_or HasNotes (nodes_of items) k no_node (subst (λ n. k < n) (sym (length_nodes_of items)) h) notes)

pub set_notes : (items : List LinkedNode) (k : ℕ) (new : LinkedNode) → HasNotes new.node → HaveNotes (nodes_of items) → HaveNotes (nodes_of (slice_set items k new))
set_notes items k new has notes = subst HaveNotes (sym (nodes_of_set items k new)) (All-set HasNotes (nodes_of items) k new.node has notes)

-- a node after a change that may have failed
noted_after : {A E : Type 0} (r : Result A E) (old new grown : LinkedNode) → OnOk r (new ≡ grown) → OnErr r (new ≡ old) → HasNotes old.node → HasNotes grown.node → HasNotes new.node
noted_after (Ok x) old new grown ok err has more = subst (λ y. HasNotes y.node) (sym ok) more
noted_after (Err x) old new grown ok err has more = subst (λ y. HasNotes y.node) (sym err) has

pub nag_notes : {A E : Type 0} (r : Result A E) (items : List LinkedNode) (k nag : ℕ) (old new : LinkedNode) → k < length items → old ≡ get_or items k old → nag < 256
    → OnOk r (new ≡ record old { node = with_nag nag old.node }) → OnErr r (new ≡ old) → HaveNotes (nodes_of items) → HaveNotes (nodes_of (slice_set items k new))
nag_notes r items k nag old new h old_is small ok err notes =
    let has = noted_at items k old h old_is notes in
    set_notes items k new (noted_after r old new (record old { node = with_nag nag old.node }) ok err has (nag_noted nag old.node small has)) notes

pub comment_notes : {A E : Type 0} (r : Result A E) (items : List LinkedNode) (k : ℕ) (t : List ℕ) (old new : LinkedNode) → k < length items → old ≡ get_or items k old
    → OnOk r (new ≡ record old { node = with_comment (without_braces t) old.node }) → OnErr r (new ≡ old) → HaveNotes (nodes_of items) → HaveNotes (nodes_of (slice_set items k new))
comment_notes r items k t old new h old_is ok err notes =
    let has = noted_at items k old h old_is notes in
    set_notes items k new
    (noted_after r old new (record old { node = with_comment (without_braces t) old.node }) ok err has (comment_noted (without_braces t) old.node (no_brace_left t) has)) notes
