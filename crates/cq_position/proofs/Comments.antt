-- The words of a comment are those of the text from which it was made.
use Rattle.std.proofs.Common.{◌≡◌, ◌≢◌, ℕ, Bool, true, false, cond, List, [], ◌∷◌, ◌++◌, refl, sym, ap, ◌∙◌, subst, arith}
use Rattle.std.specs.List.{All, AllByRecursion, slice_split, onto_first, filter, join_with_byte}
use Rattle.std.proofs.lemmas.List.Elements.{All-head, All-tail, All-cons, All-nil, All-append, All-push}
use Rattle.std.proofs.lemmas.List.Splits.{slice_split-cons_yes, slice_split-cons_no}
use Rattle.cq_common.specs.Text.{is_white}
use Rattle.cq_position.specs.Comments.{words, comment_of}
use Rattle.cq_position.specs.Fen.{is_not_empty}
use Rattle.cq_position.specs.Games.{Node, bare_node, with_nag, with_comment, IsComment, HasNotes}
use Rattle.cq_position.specs.declared.moves.Move.{Move}
use Rattle.cq_position.specs.Board.{Board}
use Rattle.std.specs.Prelude.{Option, ◌<◌}

abbrev IsDark : List ℕ → Type 0
IsDark w = AllByRecursion (λ b. is_white b ≡ false) w

-- words: not empty, and without white space
abbrev AreWords : List (List ℕ) → Type 0
AreWords ws = AllByRecursion (λ w. (is_not_empty w ≡ true) × IsDark w) ws

-- the parts of a text have no white space
onto_dark : (b : ℕ) → is_white b ≡ false → (ws : List (List ℕ)) → AllByRecursion IsDark ws → AllByRecursion IsDark (onto_first b ws)
onto_dark b is [] dark = ((is, tt), tt)
onto_dark b is (w ∷ ws) dark = ((is, dark.0), dark.1)

parts_dark : (t : List ℕ) → AllByRecursion IsDark (slice_split is_white t)
parts_dark [] = (tt, tt)
parts_dark (b ∷ bs) = by (is_white b) refl (parts_dark bs)
  where
    by : (t : Bool) → is_white b ≡ t → AllByRecursion IsDark (slice_split is_white bs) → AllByRecursion IsDark (slice_split is_white (b ∷ bs))
    by true is rest = rw (slice_split-cons_yes is_white b bs is) (tt, rest)
    by false is rest = rw (slice_split-cons_no is_white b bs is) (onto_dark b is (slice_split is_white bs) rest)

kept_words : (ws : List (List ℕ)) → AllByRecursion IsDark ws → AreWords (filter is_not_empty ws)
kept_words [] dark = tt
kept_words ([] ∷ ws) dark = kept_words ws dark.1
kept_words ((b ∷ bs) ∷ ws) dark = ((refl, dark.0), kept_words ws dark.1)

are_words : (t : List ℕ) → AreWords (words t)
unfolding words
are_words t = kept_words (slice_split is_white t) (parts_dark t)

-- a text of one word is one part, and a space ends it
one_word : (w : List ℕ) → IsDark w → slice_split is_white w ≡ w ∷ []
one_word [] dark = refl
one_word (b ∷ bs) dark = slice_split-cons_no is_white b bs dark.0 ∙ ap (onto_first b) (one_word bs dark.1)

word_ends : (w rest : List ℕ) → IsDark w → slice_split is_white (w ++ 32 ∷ rest) ≡ w ∷ slice_split is_white rest
word_ends [] rest dark = slice_split-cons_yes is_white 32 rest refl
word_ends (b ∷ bs) rest dark = slice_split-cons_no is_white b (bs ++ 32 ∷ rest) dark.0 ∙ ap (onto_first b) (word_ends bs rest dark.1)

kept_first : (w : List ℕ) (ws : List (List ℕ)) → is_not_empty w ≡ true → filter is_not_empty (w ∷ ws) ≡ w ∷ filter is_not_empty ws
kept_first w ws is = ap (λ t. cond t (w ∷ filter is_not_empty ws) (filter is_not_empty ws)) is

words_joined : (ws : List (List ℕ)) → AreWords ws → words (join_with_byte 32 ws) ≡ ws
unfolding words
words_joined [] are = refl
words_joined (w ∷ []) are = ap (filter is_not_empty) (one_word w are.0.1) ∙ kept_first w [] are.0.0
words_joined (w ∷ v ∷ vs) are =
    ap (filter is_not_empty) (word_ends w (join_with_byte 32 (v ∷ vs)) are.0.1)
    ∙ kept_first w (slice_split is_white (join_with_byte 32 (v ∷ vs))) are.0.0
    ∙ ap (λ l. w ∷ l) (words_joined (v ∷ vs) are.1)

-- a comment has the words of its text
pub same_words : (t : List ℕ) → words (join_with_byte 32 (words t)) ≡ words t
same_words t = words_joined (words t) (are_words t)

-- a property of the bytes of a text and of the space holds of the bytes of its comment
module _ (P : ℕ → Type 0) where
  onto_each : (b : ℕ) → P b → (ws : List (List ℕ)) → AllByRecursion (All P) ws → AllByRecursion (All P) (onto_first b ws)
  onto_each b is [] each = (All-cons P b [] is (All-nil P), tt)
  onto_each b is (w ∷ ws) each = (All-cons P b w is each.0, each.1)

  parts_each : (t : List ℕ) → All P t → AllByRecursion (All P) (slice_split is_white t)
  parts_each [] each = (All-nil P, tt)
  parts_each (b ∷ bs) each = by (is_white b) refl (parts_each bs (All-tail P b bs each))
    where
      by : (t : Bool) → is_white b ≡ t → AllByRecursion (All P) (slice_split is_white bs) → AllByRecursion (All P) (slice_split is_white (b ∷ bs))
      by true is rest = rw (slice_split-cons_yes is_white b bs is) (All-nil P, rest)
      by false is rest = rw (slice_split-cons_no is_white b bs is) (onto_each b (All-head P b bs each) (slice_split is_white bs) rest)

  kept_each : (ws : List (List ℕ)) → AllByRecursion (All P) ws → AllByRecursion (All P) (filter is_not_empty ws)
  kept_each [] each = tt
  kept_each ([] ∷ ws) each = kept_each ws each.1
  kept_each ((b ∷ bs) ∷ ws) each = (each.0, kept_each ws each.1)

  joined_each : (ws : List (List ℕ)) → P 32 → AllByRecursion (All P) ws → All P (join_with_byte 32 ws)
  joined_each [] space each = All-nil P
  joined_each (w ∷ []) space each = each.0
  joined_each (w ∷ v ∷ vs) space each = All-append P w (32 ∷ join_with_byte 32 (v ∷ vs)) each.0 (All-cons P 32 (join_with_byte 32 (v ∷ vs)) space (joined_each (v ∷ vs) space each.1))

  comment_each : (t : List ℕ) → P 32 → All P t → All P (join_with_byte 32 (words t))
  unfolding words
  comment_each t space each = joined_each (words t) space (kept_each (slice_split is_white t) (parts_each t each))

no_space : ◌≢◌ {A = ℕ} 32 125
no_space e = absurd (omega (arith, e))

-- a comment of some words without a brace is kept as it is
pub comments_kept : (t : List ℕ) (ws : List (List ℕ)) → words t ≡ ws → All (λ b. b ≢ 125) t → All IsComment (comment_of ws)
comments_kept t [] is brace = All-nil IsComment
comments_kept t (w ∷ more) is brace =
    let whole : join_with_byte 32 (w ∷ more) ≡ join_with_byte 32 (words t) = ap (join_with_byte 32) (sym is) in
    All-cons IsComment (join_with_byte 32 (w ∷ more)) []
    (record {
      spaced = ap comment_of (ap words whole ∙ same_words t ∙ is);
      no_brace = subst (All (λ b. b ≢ 125)) (sym whole) (comment_each (λ b. b ≢ 125) t no_space brace);
    })
    (All-nil IsComment)

-- the notes of a node without any, and of one with one more
pub no_notes : (parent : Option ℕ) (move : Option Move) (position : Board) → HasNotes (bare_node parent move position)
no_notes parent move position = record { nags = All-nil (λ nag. nag < 256); comments = All-nil IsComment }

pub nag_noted : (nag : ℕ) (node : Node) → nag < 256 → HasNotes node → HasNotes (with_nag nag node)
nag_noted nag node small has = record { nags = All-push (λ nag. nag < 256) node.nags nag has.nags small; comments = has.comments }

pub comment_noted : (t : List ℕ) (node : Node) → All (λ b. b ≢ 125) t → HasNotes node → HasNotes (with_comment t node)
comment_noted t node brace has =
    record { nags = has.nags; comments = All-append IsComment node.comments (comment_of (words t)) has.comments (comments_kept t (words t) refl brace) }
