-- A tag line is read as its tag pair.
use Rattle.std.proofs.Common.{◌≡◌, ◌≢◌, ℕ, ◌-◌, Bool, true, false, List, [], ◌∷◌, ◌++◌, length, take, refl, sym, ap, ap₂, ◌∙◌, inr, arith, append_assoc, length-append}
use Rattle.std.specs.Prelude.{◌==◌, ◌||◌, codes, if◌then◌else◌, map}
use Rattle.std.specs.List.{AllByRecursion, flat_map}
use Rattle.std.proofs.Math.Seq.{take-append_seam}
use Rattle.std.proofs.lemmas.Bool.{or_parts, eqb-false}
use Rattle.pgn_lexer.specs.Grammar.{Lacks, IsBody}
use Rattle.pgn_lexer.specs.Lexemes.{first_at}
use Rattle.pgn_lexer.specs.SingleLexeme.{IsEndedBy}
use Rattle.pgn_lexer.specs.declared.token.LexemeKind.TheVariants.{Token}
use Rattle.pgn_lexer.specs.declared.token.TokenKind.TheVariants.{Open, Close, Text, Symbol}
use Rattle.pgn_lexer.proofs.Bodies.{plain_body}
use Rattle.pgn_reader.specs.Games.{AreHeading, heading_text}
use Rattle.pgn_reader.specs.Tags.{Pair, pair_text, unescaped, value_of}
use Rattle.pgn_reader.specs.Words.{Word}
use Rattle.pgn_export.specs.NormalGames.{IsWritable}
use Rattle.pgn_export.specs.TagLines.{escaped, tag_line}
use Rattle.pgn_export.proofs.ReadTokens.{told, told_one, told_white}
use Rattle.pgn_export.proofs.Tokens.{one_open, one_close, one_symbol, one_text}

-- a value is escaped as a string holds it
escaped_by : (t : Bool) (b : ℕ) (body : List ℕ) → (b == 34 || b == 92) ≡ t → b ≢ 10 → IsBody body → IsBody ((if t then 92 ∷ b ∷ [] else b ∷ []) ++ body)
escaped_by true b body special other whole = inr (refl, other, whole)
escaped_by false b body special other whole =
    let o = or_parts (b == 34) (b == 92) special in
    plain_body b body (eqb-false b 34 o.0, eqb-false b 92 o.1, other) whole

escaped_body : (value : List ℕ) → Lacks 10 value → IsBody (escaped value)
escaped_body [] lacks = tt
escaped_body (b ∷ bs) lacks = escaped_by (b == 34 || b == 92) b (escaped bs) refl lacks.0 (escaped_body bs lacks.1)

-- and comes back without its backslashes
plain_byte : (b : ℕ) (body : List ℕ) → (b == 92) ≡ false → unescaped (b ∷ body) ≡ b ∷ unescaped body
unfolding unescaped
plain_byte b [] plain = refl
plain_byte b (c ∷ cs) plain = ap (λ t. if t then (if (c == 34) || (c == 92) then c ∷ unescaped cs else b ∷ unescaped (c ∷ cs)) else b ∷ unescaped (c ∷ cs)) plain

back_by : (t : Bool) (b : ℕ) (body value : List ℕ) → (b == 34 || b == 92) ≡ t → unescaped body ≡ value → unescaped ((if t then 92 ∷ b ∷ [] else b ∷ []) ++ body) ≡ b ∷ value
unfolding unescaped
back_by true b body value special is = ap (λ t. if t then b ∷ unescaped body else 92 ∷ unescaped (b ∷ body)) special ∙ ap (λ l. b ∷ l) is
back_by false b body value special is = plain_byte b body (or_parts (b == 34) (b == 92) special).1 ∙ ap (λ l. b ∷ l) is

none_escaped : unescaped [] ≡ []
unfolding unescaped
none_escaped = refl

escaped_back : (value : List ℕ) → unescaped (escaped value) ≡ value
escaped_back [] = none_escaped
escaped_back (b ∷ bs) = back_by (b == 34 || b == 92) b (escaped bs) bs refl (escaped_back bs)

abbrev pub string_of : List ℕ → List ℕ
string_of value = 34 ∷ (escaped value ++ 34 ∷ [])

pub value_back : (value : List ℕ) → value_of (string_of value) ≡ value
unfolding value_of
value_back value =
    let n : length (string_of value) - 2 ≡ length (escaped value) = let e = length-append (escaped value) (34 ∷ []) in omega (arith, e) in
    ap unescaped (ap (λ k. take k (escaped value ++ 34 ∷ [])) n ∙ take-append_seam (escaped value) (34 ∷ [])) ∙ escaped_back value

-- the pair of a tag
abbrev pub pair_of : List ℕ × List ℕ → Pair
pair_of t = record {
  comments = [];
  opening = record { kind = Open; text = codes "[" };
  name = record { kind = Symbol; text = t.0 };
  value = record { kind = Text; text = string_of t.1 };
  closing = record { kind = Close; text = codes "]" };
}

pub are_heading : (tags : List (List ℕ × List ℕ)) → AreHeading (map pair_of tags)
are_heading [] = tt
are_heading (t ∷ ts) = (record { comments = refl; opening = refl; name = refl; value = refl; closing = refl }, are_heading ts)

never_open : (more : List ℕ) → IsEndedBy (Token Open) more
never_open [] = tt
never_open (b ∷ bs) = refl

line_apart : (name value more : List ℕ) → tag_line (name, value) ++ more ≡ 91 ∷ (name ++ (32 ∷ (string_of value ++ (93 ∷ 10 ∷ more))))
unfolding tag_line
line_apart name value more =
    append_assoc (((91 ∷ name) ++ (32 ∷ 34 ∷ [])) ++ escaped value) (34 ∷ 93 ∷ 10 ∷ []) more
    ∙ append_assoc ((91 ∷ name) ++ (32 ∷ 34 ∷ [])) (escaped value) (34 ∷ 93 ∷ 10 ∷ more)
    ∙ append_assoc (91 ∷ name) (32 ∷ 34 ∷ []) (escaped value ++ (34 ∷ 93 ∷ 10 ∷ more))
    ∙ ap (λ l. 91 ∷ (name ++ (32 ∷ 34 ∷ l))) (sym (append_assoc (escaped value) (34 ∷ []) (93 ∷ 10 ∷ more)))

pub line_told : (first : Bool) (name value more : List ℕ) → IsWritable (name, value) → told first (tag_line (name, value) ++ more) ≡ pair_text (pair_of (name, value)) ++ told true more
line_told first name value more fit =
    let b = fit.name.0 in
    let bs = fit.name.1 in
    let is : name ≡ b ∷ bs = fit.name.2 in
    let string = string_of value in
    let one = first_at first (91 ∷ []) 1 in
    let two = first_at one (b ∷ bs) (length (b ∷ bs)) in
    let three = first_at false string (length string) in
    let four = first_at three (93 ∷ []) 1 in
    let p = pair_of (name, value) in
    ap (told first) (line_apart name value more)
    ∙ told_one Open first 91 [] (name ++ (32 ∷ (string ++ (93 ∷ 10 ∷ more)))) one_open (never_open _)
    ∙ ap (λ (l : List Word). p.opening ∷ l)
    (ap (λ n. told one (n ++ (32 ∷ (string ++ (93 ∷ 10 ∷ more))))) is
    ∙ told_one Symbol one b bs (32 ∷ (string ++ (93 ∷ 10 ∷ more))) (one_symbol b bs fit.name.3 fit.name.4) refl
    ∙ ap₂ (λ n (l : List Word). (record { kind = Symbol; text = n }) ∷ l) (sym is)
    (told_white two 32 (string ++ (93 ∷ 10 ∷ more)) refl
    ∙ told_one Text false 34 (escaped value ++ 34 ∷ []) (93 ∷ 10 ∷ more) (one_text (escaped value) (escaped_body value fit.value)) refl
    ∙ ap (λ (l : List Word). p.value ∷ l)
    (told_one Close three 93 [] (10 ∷ more) one_close refl
    ∙ ap (λ (l : List Word). p.closing ∷ l) (told_white four 10 more refl))))

-- the lines of tags, and what comes after them
pub record AreTold (first : Bool) (tags : List (List ℕ × List ℕ)) (more : List ℕ) : Type 0 where
  pub column : Bool
  pub is : told first (flat_map tag_line tags ++ more) ≡ heading_text (map pair_of tags) ++ told column more

pub tags_told : (tags : List (List ℕ × List ℕ)) (first : Bool) (more : List ℕ) → AllByRecursion IsWritable tags → AreTold first tags more
tags_told [] first more all = record { column = first; is = refl }
tags_told (t ∷ ts) first more all =
    let r = tags_told ts true more all.1 in
    record {
      column = r.column;
      is =
          ap (told first) (append_assoc (tag_line t) (flat_map tag_line ts) more)
          ∙ line_told first t.0 t.1 (flat_map tag_line ts ++ more) all.0
          ∙ ap (λ l. pair_text (pair_of t) ++ l) r.is;
    }
