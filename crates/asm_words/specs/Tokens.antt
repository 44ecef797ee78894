-- The tokens of a line: words, marks and texts.
use Rattle.std.specs.Prelude.{◌≡◌, ℕ, ◌+◌, ◌<◌, ◌≤◌, ◌++◌, Bool, ◌||◌, ◌&&◌, List, [], ◌∷◌, length, if◌then◌else◌, ◌==◌, nat_le, Option, Some, None}
use Rattle.std.specs.Option.{option_to_list, option_map}
use Rattle.asm_words.specs.declared.lexing.Class.{Class}
use Rattle.asm_words.specs.declared.lexing.Class.TheVariants as class
use Rattle.asm_words.specs.declared.lexing.Piece.{Piece}
use Rattle.asm_words.specs.declared.lexing.Piece.TheVariants as piece
use Rattle.asm_words.specs.declared.lexing.Token.{Token}
use Rattle.asm_words.specs.declared.lexing.Token.TheVariants as token
use Rattle.asm_words.specs.Words.{is_name_byte}

-- what a byte is outside quotes
abbrev pub class_of : ℕ → Class
class_of b =
    if (b == 32) || (b == 9) then class.Blank
    else (if (((b == 44) || (b == 58)) || (b == 40)) || (b == 41) then class.Mark
    else (if b == 34 then class.Quote
    else (if b == 35 then class.Hash
    else (if is_name_byte b || (b == 45) then class.Word
    else class.Other))))

-- the byte that stands behind a backslash for another: n, t, the backslash, the quote, 0
abbrev pub escape_of : ℕ → Option ℕ
escape_of b =
    if b == 110 then Some 10
    else (if b == 116 then Some 9
    else (if b == 92 then Some 92
    else (if b == 34 then Some 34
    else (if b == 48 then Some 0 else None))))

abbrev pub is_printable : ℕ → Bool
is_printable b = nat_le 32 b && nat_le b 126

-- a token without where it lies in memory
pub data TokenOf : Type 0 where
  word : List ℕ → TokenOf
  mark : ℕ → TokenOf
  text : List ℕ → TokenOf
  stray : TokenOf

abbrev pub token_of : Token → TokenOf
token_of (token.Word w) = word w.now
token_of (token.Mark b) = mark b
token_of (token.Text t) = text t.items
token_of token.Stray = stray

-- how many bytes a line has at least for a token, and for a list of them
abbrev pub span : TokenOf → ℕ
span (text t) = length t + 1
span _ = 1

abbrev pub spans : List TokenOf → ℕ
spans [] = 0
spans (t ∷ ts) = span t + spans ts

-- where a byte stands: outside quotes, inside, or inside behind a backslash
pub data Mode : Type 0 where
  Outside : Mode
  Inside : Mode
  Escaped : Mode

-- a byte of a word goes onto the word that goes on right behind it
abbrev pub onto_word : ℕ → List ℕ → List TokenOf → List TokenOf
onto_word b [] ts = word (b ∷ []) ∷ ts
onto_word b (c ∷ bs) [] = word (b ∷ []) ∷ []
onto_word b (c ∷ bs) (word w ∷ ts) = if is_name_byte c then word (b ∷ w) ∷ ts else word (b ∷ []) ∷ word w ∷ ts
onto_word b (c ∷ bs) (t ∷ ts) = word (b ∷ []) ∷ t ∷ ts

-- a byte of a text goes onto the text behind it; where that has no end, there is no text
abbrev pub onto_text : ℕ → List TokenOf → List TokenOf
onto_text b (text t ∷ ts) = text (b ∷ t) ∷ ts
onto_text b _ = stray ∷ []

-- a byte outside quotes, with the bytes behind it, their tokens outside quotes and inside
abbrev pub outside : Class → ℕ → List ℕ → List TokenOf → List TokenOf → List TokenOf
outside class.Blank b bs out within = out
outside class.Mark b bs out within = mark b ∷ out
outside class.Quote b bs out within = within
outside class.Hash b bs out within = []
outside class.Word b bs out within = onto_word b bs out
outside class.Other b bs out within = stray ∷ out

abbrev pub escaped : Option ℕ → List TokenOf → List TokenOf
escaped None ts = stray ∷ []
escaped (Some c) ts = onto_text c ts

-- the tokens of the bytes, each byte going onto what stands behind it
abbrev pub lex : Mode → List ℕ → List TokenOf
lex Outside [] = []
lex Inside [] = stray ∷ []
lex Escaped [] = stray ∷ []
lex Outside (b ∷ bs) = outside (class_of b) b bs (lex Outside bs) (lex Inside bs)
lex Inside (b ∷ bs) =
    if b == 34 then text [] ∷ lex Outside bs
    else (if b == 92 then lex Escaped bs
    else (if is_printable b then onto_text b (lex Inside bs) else stray ∷ []))
lex Escaped (b ∷ bs) = escaped (escape_of b) (lex Inside bs)

abbrev pub tokens_of : List ℕ → List TokenOf
tokens_of bs = lex Outside bs

-- a token or none was taken from the front of bs, and rest is left
pub record Takes (bs : List ℕ) (t : Option Token) (rest : List ℕ) : Type 0 where
  pub tokens : lex Outside bs ≡ option_to_list (option_map token_of t) ++ lex Outside rest
  pub shorter : length rest < length bs

-- the text behind a quote
pub record TakesText (bs : List ℕ) (t : Token) (rest : List ℕ) : Type 0 where
  pub tokens : lex Inside bs ≡ token_of t ∷ lex Outside rest
  pub shorter : length rest ≤ length bs

-- what stands at the front of bs inside quotes
abbrev pub IsPiece : List ℕ → Piece → Type 0
IsPiece bs (piece.End rest) = (lex Inside bs ≡ text [] ∷ lex Outside rest.now) × (length rest.now < length bs)
IsPiece bs (piece.Byte c rest) = (lex Inside bs ≡ onto_text c (lex Inside rest.now)) × (length rest.now < length bs)
IsPiece bs piece.Bad = lex Inside bs ≡ stray ∷ []
