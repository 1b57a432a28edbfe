-- Texts that are one token.
use Rattle.std.proofs.Common.{◌≡◌, ℕ, ◌<◌, true, min, List, [], ◌∷◌, ◌++◌, length, refl, inl}
use Rattle.std.specs.List.{AllByRecursion}
use Rattle.std.specs.Char.{is_ascii_digit, is_ascii_alphanumeric}
use Rattle.std.specs.Str.Parse.{digits_value}
use Rattle.pgn_lexer.specs.Bytes.{continues_symbol}
use Rattle.pgn_lexer.specs.Grammar.{Lacks, IsBody}
use Rattle.pgn_lexer.specs.declared.token.LexemeKind.TheVariants.{Token}
use Rattle.pgn_lexer.specs.declared.token.TokenKind.TheVariants.{Open, Close, Text, Symbol, Period, Star, LeftParen, RightParen, Nag, Null, Comment}
use Rattle.pgn_lexer.proofs.Ended.{alone}
use Rattle.pgn_export.proofs.ReadTokens.{IsOne}

pub one_open : IsOne Open 91 []
one_open = record { whole = λ first. alone first (Token Open) 91 [] refl (λ bad. cc); still = refl }

pub one_close : IsOne Close 93 []
one_close = record { whole = λ first. alone first (Token Close) 93 [] refl (λ bad. cc); still = refl }

pub one_left : IsOne LeftParen 40 []
one_left = record { whole = λ first. alone first (Token LeftParen) 40 [] refl (λ bad. cc); still = refl }

pub one_right : IsOne RightParen 41 []
one_right = record { whole = λ first. alone first (Token RightParen) 41 [] refl (λ bad. cc); still = refl }

pub one_period : IsOne Period 46 []
one_period = record { whole = λ first. alone first (Token Period) 46 [] refl (λ bad. cc); still = refl }

pub one_star : IsOne Star 42 []
one_star = record { whole = λ first. alone first (Token Star) 42 [] refl (λ bad. cc); still = refl }

pub one_null : IsOne Null 45 (45 ∷ [])
one_null = record { whole = λ first. alone first (Token Null) 45 (45 ∷ []) refl (λ bad. cc); still = refl }

pub one_symbol : (b : ℕ) (bs : List ℕ) → is_ascii_alphanumeric b ≡ true → AllByRecursion (λ c. continues_symbol c ≡ true) bs → IsOne Symbol b bs
one_symbol b bs begins goes = record { whole = λ first. alone first (Token Symbol) b bs (b, bs, refl, begins, goes) (λ bad. cc); still = refl }

pub one_comment : (body : List ℕ) → Lacks 125 body → IsOne Comment 123 (body ++ 125 ∷ [])
one_comment body lacks = record { whole = λ first. alone first (Token Comment) 123 (body ++ 125 ∷ []) (body, refl, lacks) (λ bad. cc); still = refl }

pub one_text : (body : List ℕ) → IsBody body → IsOne Text 34 (body ++ 34 ∷ [])
one_text body is = record { whole = λ first. alone first (Token Text) 34 (body ++ 34 ∷ []) (body, refl, is) (λ bad. cc); still = refl }

pub one_nag : (n : ℕ) (digits : List ℕ) → 0 < length digits → AllByRecursion (λ d. is_ascii_digit d ≡ true) digits → n ≡ min 256 (digits_value 10 digits) → IsOne (Nag n) 36 digits
one_nag n digits some all is = record { whole = λ first. alone first (Token (Nag n)) 36 digits (inl (digits, refl, some, all, is)) (λ bad. cc); still = refl }
