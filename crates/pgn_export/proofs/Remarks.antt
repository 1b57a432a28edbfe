-- A comment is read as the words that are written of it.
use Rattle.std.proofs.Common.{◌≡◌, ◌≢◌, ℕ, suc, ◌-◌, Bool, true, false, cond, List, [], ◌∷◌, ◌++◌, length, take, refl, sym, ap, ap₂, ◌∙◌, subst, inr, arith, true≢false, length-append, eqb-true}
use Rattle.std.specs.Prelude.{All, map, ◌==◌, if◌then◌else◌}
use Rattle.std.specs.List.{AllByRecursion, filter, flat_map, slice_split, onto_first, join_with_byte}
use Rattle.std.proofs.Math.Seq.{take-append_seam}
use Rattle.std.proofs.lemmas.Bool.{false_from_ne_true}
use Rattle.std.proofs.lemmas.List.Elements.{All-nil, All-cons}
use Rattle.std.proofs.lemmas.List.Splits.{slice_split_at, slice_split_none, slice_split-cons_yes, slice_split-cons_no}
use Rattle.cq_common.specs.Text.{is_white}
use Rattle.cq_position.specs.Comments.{words, comment_of}
use Rattle.cq_position.specs.Fen.{is_not_empty}
use Rattle.cq_position.specs.Games.{IsComment}
use Rattle.pgn_lexer.specs.Grammar.{Lacks}
use Rattle.pgn_lexer.specs.Lexemes.{first_at}
use Rattle.pgn_lexer.specs.declared.token.LexemeKind.TheVariants.{Token}
use Rattle.pgn_lexer.specs.declared.token.TokenKind.TheVariants.{Comment}
use Rattle.pgn_reader.specs.Words.{Word, remarks, sense, body_of}
use Rattle.pgn_tree.specs.Words.{without_braces}
use Rattle.pgn_export.specs.Words.{with_prefix, with_suffix, comment_words}
use Rattle.pgn_export.proofs.Glued.{Glued, Tell, Said, said_none, said_some, said_more, begun, ended}
use Rattle.pgn_export.proofs.ReadTokens.{told, told_one}
use Rattle.pgn_export.proofs.Tokens.{one_comment}

-- element by element
pub all_each : {A : Type 0} (P : A → Type 0) (xs : List A) → All P xs → AllByRecursion P xs
all_each P [] all = tt
all_each P (x ∷ xs) all = (all 0 x (omega arith), all_each P xs (λ k d h. all (suc k) d (omega (arith, h))))

-- a word of a comment: some bytes, of which none is white space or a closing brace
record IsWord (w : List ℕ) : Type 0 where
  some : is_not_empty w ≡ true
  dark : AllByRecursion (λ b. is_white b ≡ false) w
  lacks : Lacks 125 w

-- the parts of a text have no white space
dark_onto : (b : ℕ) (parts : List (List ℕ)) → is_white b ≡ false → AllByRecursion (AllByRecursion (λ c. is_white c ≡ false)) parts
    → AllByRecursion (AllByRecursion (λ c. is_white c ≡ false)) (onto_first b parts)
dark_onto b [] dark all = ((dark, tt), tt)
dark_onto b (p ∷ parts) dark all = ((dark, all.0), all.1)

dark_by : (b : ℕ) (bs : List ℕ) (t : Bool) → is_white b ≡ t → AllByRecursion (AllByRecursion (λ c. is_white c ≡ false)) (slice_split is_white bs)
    → AllByRecursion (AllByRecursion (λ c. is_white c ≡ false)) (slice_split is_white (b ∷ bs))
dark_by b bs true white all = subst (AllByRecursion (AllByRecursion (λ c. is_white c ≡ false))) (sym (slice_split-cons_yes is_white b bs white)) (tt, all)
dark_by b bs false dark all = subst (AllByRecursion (AllByRecursion (λ c. is_white c ≡ false))) (sym (slice_split-cons_no is_white b bs dark)) (dark_onto b (slice_split is_white bs) dark all)

dark_parts : (text : List ℕ) → AllByRecursion (AllByRecursion (λ c. is_white c ≡ false)) (slice_split is_white text)
dark_parts [] = (tt, tt)
dark_parts (b ∷ bs) = dark_by b bs (is_white b) refl (dark_parts bs)

-- the words of a joined text lack what it lacks
lacks_left : (xs ys : List ℕ) → Lacks 125 (xs ++ ys) → Lacks 125 xs
lacks_left [] ys l = tt
lacks_left (x ∷ xs) ys l = (l.0, lacks_left xs ys l.1)

lacks_right : (xs ys : List ℕ) → Lacks 125 (xs ++ ys) → Lacks 125 ys
lacks_right [] ys l = l
lacks_right (x ∷ xs) ys l = lacks_right xs ys l.1

lacks_append : (xs ys : List ℕ) → Lacks 125 xs → Lacks 125 ys → Lacks 125 (xs ++ ys)
lacks_append [] ys l m = m
lacks_append (x ∷ xs) ys l m = (l.0, lacks_append xs ys l.1 m)

lacks_joined : (w : List ℕ) (ws : List (List ℕ)) → Lacks 125 (join_with_byte 32 (w ∷ ws)) → AllByRecursion (Lacks 125) (w ∷ ws)
lacks_joined w [] l = (l, tt)
lacks_joined w (v ∷ vs) l = (lacks_left w (32 ∷ join_with_byte 32 (v ∷ vs)) l, lacks_joined v vs (lacks_right w (32 ∷ join_with_byte 32 (v ∷ vs)) l).1)

-- the words of a text that is split
words_by : (w : List ℕ) (ws parts : List (List ℕ)) (t : Bool) → is_not_empty w ≡ t → AllByRecursion (AllByRecursion (λ c. is_white c ≡ false)) (w ∷ parts)
    → (AllByRecursion (Lacks 125) (filter is_not_empty parts) → AllByRecursion IsWord (filter is_not_empty parts))
    → AllByRecursion (Lacks 125) (filter is_not_empty (w ∷ parts)) → AllByRecursion IsWord (filter is_not_empty (w ∷ parts))
words_by w ws parts true some dark more lacks =
    let kept : filter is_not_empty (w ∷ parts) ≡ w ∷ filter is_not_empty parts = ap (λ t. cond t (w ∷ filter is_not_empty parts) (filter is_not_empty parts)) some in
    let each = subst (AllByRecursion (Lacks 125)) kept lacks in
    subst (AllByRecursion IsWord) (sym kept) (record { some = some; dark = dark.0; lacks = each.0 }, more each.1)
words_by w ws parts false none dark more lacks =
    let left_out : filter is_not_empty (w ∷ parts) ≡ filter is_not_empty parts = ap (λ t. cond t (w ∷ filter is_not_empty parts) (filter is_not_empty parts)) none in
    subst (AllByRecursion IsWord) (sym left_out) (more (subst (AllByRecursion (Lacks 125)) left_out lacks))

are_words : (parts : List (List ℕ)) → AllByRecursion (AllByRecursion (λ c. is_white c ≡ false)) parts
    → AllByRecursion (Lacks 125) (filter is_not_empty parts) → AllByRecursion IsWord (filter is_not_empty parts)
are_words [] dark lacks = tt
are_words (w ∷ parts) dark lacks = words_by w [] parts (is_not_empty w) refl dark (are_words parts dark.1) lacks

-- the words of a comment that a game keeps
record HasWords (c : List ℕ) : Type 0 where
  first : List ℕ
  more : List (List ℕ)
  is : words c ≡ first ∷ more
  each : AllByRecursion IsWord (first ∷ more)

words_found : (c : List ℕ) (ws : List (List ℕ)) → words c ≡ ws → IsComment c → HasWords c
unfolding words
words_found c [] is kept = absurd (let e : 0 ≡ 1 = ap length (sym (ap comment_of is) ∙ kept.spaced) in omega (arith, e))
words_found c (w ∷ ws) is kept =
    let joined : join_with_byte 32 (w ∷ ws) ≡ c = same_first (sym (ap comment_of is) ∙ kept.spaced) in
    let lacks = lacks_joined w ws (subst (Lacks 125) (sym joined) (all_each (λ b. b ≢ 125) c kept.no_brace)) in
    record {
      first = w;
      more = ws;
      is = is;
      each = subst (AllByRecursion IsWord) is (are_words (slice_split is_white c) (dark_parts c) (subst (AllByRecursion (Lacks 125)) (sym is) lacks));
    }
  where
    same_first : join_with_byte 32 (w ∷ ws) ∷ [] ≡ c ∷ [] → join_with_byte 32 (w ∷ ws) ≡ c
    same_first e = cc

-- glued, the words are those of the text
dark_all : (w : List ℕ) → AllByRecursion (λ b. is_white b ≡ false) w → All (λ b. is_white b ≡ false) w
dark_all [] all = All-nil (λ b. is_white b ≡ false)
dark_all (b ∷ bs) all = All-cons (λ b. is_white b ≡ false) b bs all.0 (dark_all bs all.1)

kept_word : (w : List ℕ) (ws : List (List ℕ)) → is_not_empty w ≡ true → filter is_not_empty (w ∷ ws) ≡ w ∷ filter is_not_empty ws
kept_word w ws some = ap (λ t. cond t (w ∷ filter is_not_empty ws) (filter is_not_empty ws)) some

glued_words : (w : List ℕ) (ws : List (List ℕ)) (text : List ℕ) → AllByRecursion IsWord (w ∷ ws) → Glued (w ∷ ws) text → words text ≡ w ∷ ws
unfolding words
glued_words w [] text all glued =
    ap (λ t. filter is_not_empty (slice_split is_white t)) glued
    ∙ ap (filter is_not_empty) (slice_split_none is_white w (dark_all w all.0.dark))
    ∙ kept_word w [] all.0.some
glued_words w (v ∷ vs) text all (b, rest, is, white, glued) =
    ap (λ t. filter is_not_empty (slice_split is_white t)) is
    ∙ ap (filter is_not_empty) (slice_split_at is_white w b rest (dark_all w all.0.dark) white)
    ∙ kept_word w (slice_split is_white rest) all.0.some
    ∙ ap (λ l. w ∷ l) (glued_words v vs rest all.1 glued)

white_other : (b : ℕ) → is_white b ≡ true → b ≢ 125
white_other b white is = true≢false (sym white ∙ ap is_white is)

glued_lacks : (w : List ℕ) (ws : List (List ℕ)) (text : List ℕ) → AllByRecursion IsWord (w ∷ ws) → Glued (w ∷ ws) text → Lacks 125 text
glued_lacks w [] text all glued = subst (Lacks 125) (sym glued) all.0.lacks
glued_lacks w (v ∷ vs) text all (b, rest, is, white, glued) =
    subst (Lacks 125) (sym is) (lacks_append w (b ∷ rest) all.0.lacks (white_other b white, glued_lacks v vs rest all.1 glued))

-- the meaning of a comment in braces
brace_free : (text : List ℕ) → Lacks 125 text → without_braces text ≡ text
brace_free [] lacks = refl
brace_free (b ∷ bs) lacks = ap₂ (λ t l. (if t then 41 else b) ∷ l) (false_from_ne_true (b == 125) (λ e. lacks.0 (eqb-true b 125 e))) (brace_free bs lacks.1)

abbrev pub remark_word : List ℕ → Word
remark_word body = record { kind = Comment; text = 123 ∷ (body ++ 125 ∷ []) }

pub remark_sense : (body : List ℕ) → Lacks 125 body → sense (remark_word body) ≡ remarks body
unfolding sense body_of
remark_sense body lacks =
    let n : length (123 ∷ (body ++ 125 ∷ [])) - 2 ≡ length body = let e = length-append body (125 ∷ []) in omega (arith, e) in
    ap remarks (ap (λ k. without_braces (take k (body ++ 125 ∷ []))) n ∙ ap without_braces (take-append_seam body (125 ∷ [])) ∙ brace_free body lacks)

-- a comment's words, by any split into lines, mean a comment with the same words
tell_words : (c w : List ℕ) (ws : List (List ℕ)) → words c ≡ w ∷ ws → AllByRecursion IsWord (w ∷ ws) → Lacks 125 c
    → Tell (with_suffix (125 ∷ []) ((123 ∷ w) ∷ ws)) (remark_word c ∷ [])
tell_words c w ws is each lacks first text more glued apart =
    let e = ended 125 (123 ∷ w) ws text glued in
    let b = begun 123 w ws e.inner e.glued in
    let inside = glued_lacks w ws b.inner each b.glued in
    record {
      words = remark_word b.inner ∷ [];
      column = first_at first (123 ∷ (b.inner ++ 125 ∷ [])) (length (123 ∷ (b.inner ++ 125 ∷ [])));
      is =
          ap (λ l. told first (l ++ more)) (e.is ∙ ap (λ l. l ++ 125 ∷ []) b.is)
          ∙ told_one Comment first 123 (b.inner ++ 125 ∷ []) more (one_comment b.inner inside) (apart (Token Comment) refl);
      alike = (
        inr (record {
          one = b.inner;
          other = c;
          one_is = remark_sense b.inner inside;
          other_is = remark_sense c lacks;
          same = ap comment_of (glued_words w ws b.inner each b.glued ∙ sym is);
        }),
        tt,
      );
    }

said_closed : (w : List ℕ) (ws : List (List ℕ)) (vs : List Word) → Tell (with_suffix (125 ∷ []) ((123 ∷ w) ∷ ws)) vs → Said (with_suffix (125 ∷ []) ((123 ∷ w) ∷ ws)) vs
said_closed w [] vs t = said_some ((123 ∷ w) ++ 125 ∷ []) [] vs t
said_closed w (v ∷ ws) vs t = said_some (123 ∷ w) (with_suffix (125 ∷ []) (v ∷ ws)) vs t

comment_said : (c : List ℕ) → IsComment c → Said (comment_words c) (remark_word c ∷ [])
comment_said c kept =
    let h = words_found c (words c) refl kept in
    subst (λ l. Said (with_suffix (125 ∷ []) (with_prefix (123 ∷ []) l)) (remark_word c ∷ [])) (sym h.is)
    (said_closed h.first h.more (remark_word c ∷ []) (tell_words c h.first h.more h.is h.each (all_each (λ b. b ≢ 125) c kept.no_brace)))

pub comments_said : (cs : List (List ℕ)) → AllByRecursion IsComment cs → Said (flat_map comment_words cs) (map remark_word cs)
comments_said [] all = said_none
comments_said (c ∷ cs) all = said_more (comment_words c) (flat_map comment_words cs) (remark_word c ∷ []) (map remark_word cs) (comment_said c all.0) (comments_said cs all.1)
