-- Comments, one after the other in one text.
use Rattle.std.specs.Prelude.{◌≡◌, ℕ, ◌≤◌, List, [], ◌∷◌, length, slice_index_or, slice_range, All}
use Rattle.cq_position.specs.Games.{IsComment}
use Rattle.pgn_tree.specs.declared.comments.Comments.TheInside.{Inside}

-- the parts of a text from a place on, by their ends
unfoldable pub parts : List ℕ → (from : ℕ) → (ends : List ℕ) → List (List ℕ)
parts text from [] = []
parts text from (end ∷ ends) = slice_range text from end ∷ parts text end ends

-- the beginning of a part: the end of the one before it
abbrev pub start_of : (from : ℕ) → (ends : List ℕ) → ℕ → ℕ
start_of from ends i = slice_index_or (from ∷ ends) i 0

-- ends from a place on, in order, of which the last is that of the text
unfoldable pub AreEnds : (from : ℕ) → (ends : List ℕ) → (len : ℕ) → Type 0
AreEnds from [] len = from ≡ len
AreEnds from (end ∷ ends) len = (from ≤ end) × AreEnds end ends len

pub record AreComments (ends text : List ℕ) : Type 0 where
  pub ends_stand : AreEnds 0 ends (length text)
  pub comments : All IsComment (parts text 0 ends)

abbrev pub comments_inside : Inside → List (List ℕ)
comments_inside c = parts c.text.items 0 c.ends.items
