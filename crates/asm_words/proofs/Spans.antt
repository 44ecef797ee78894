-- Tokens take at least the bytes of their spans.
use Rattle.std.proofs.Common.{◌≡◌, ℕ, ◌+◌, ◌≤◌, Bool, true, false, cond, ◌==◌, List, [], ◌∷◌, length, ◌++◌, Option, Some, None, sym, ◌∙◌, arith}
use Rattle.std.proofs.lemmas.List.{append-nil}
use Rattle.asm_words.specs.declared.lexing.Class.{Class}
use Rattle.asm_words.specs.declared.lexing.Class.TheVariants as class
use Rattle.asm_words.specs.Words.{is_name_byte}
use Rattle.asm_words.specs.Tokens.{TokenOf, word, mark, text, stray, Mode, Outside, Inside, Escaped, lex, onto_text, onto_word, outside, escaped, is_printable, escape_of, class_of, spans}

-- one token for each at least
pub count_spans : (ts : List TokenOf) → length ts ≤ spans ts
count_spans [] = omega arith
count_spans (word w ∷ ts) = omega (arith, count_spans ts)
count_spans (mark m ∷ ts) = omega (arith, count_spans ts)
count_spans (text t ∷ ts) = omega (arith, count_spans ts)
count_spans (stray ∷ ts) = omega (arith, count_spans ts)

onto_text_fits : (b n : ℕ) (ts : List TokenOf) → spans ts ≤ n + 1 → spans (onto_text b ts) ≤ n + 2
onto_text_fits b n [] h = omega arith
onto_text_fits b n (text t ∷ ts) h = omega arith
onto_text_fits b n (word t ∷ ts) h = omega arith
onto_text_fits b n (mark t ∷ ts) h = omega arith
onto_text_fits b n (stray ∷ ts) h = omega arith

cond_fits : (p : Bool) (xs ys : List TokenOf) (n : ℕ) → spans xs ≤ n → spans ys ≤ n → spans (cond p xs ys) ≤ n
cond_fits true xs ys n h k = h
cond_fits false xs ys n h k = k

onto_word_fits : (b : ℕ) (bs : List ℕ) (ts : List TokenOf) → spans (onto_word b bs ts) ≤ spans ts + 1
onto_word_fits b [] ts = omega arith
onto_word_fits b (c ∷ bs) [] = omega arith
onto_word_fits b (c ∷ bs) (word w ∷ ts) = cond_fits (is_name_byte c) (word (b ∷ w) ∷ ts) (word (b ∷ []) ∷ word w ∷ ts) (spans (word w ∷ ts) + 1) (omega arith) (omega arith)
onto_word_fits b (c ∷ bs) (text w ∷ ts) = omega arith
onto_word_fits b (c ∷ bs) (mark w ∷ ts) = omega arith
onto_word_fits b (c ∷ bs) (stray ∷ ts) = omega arith

outside_fits : (k : Class) (b : ℕ) (bs : List ℕ) (out within : List TokenOf) (n : ℕ) → spans out ≤ n → spans within ≤ n + 1 → spans (outside k b bs out within) ≤ n + 1
outside_fits class.Blank b bs out within n h k = omega arith
outside_fits class.Mark b bs out within n h k = omega arith
outside_fits class.Quote b bs out within n h k = k
outside_fits class.Hash b bs out within n h k = omega arith
outside_fits class.Word b bs out within n h k = omega (arith, onto_word_fits b bs out)
outside_fits class.Other b bs out within n h k = omega arith

escaped_fits : (o : Option ℕ) (ts : List TokenOf) (n : ℕ) → spans ts ≤ n + 1 → spans (escaped o ts) ≤ n + 2
escaped_fits None ts n h = omega arith
escaped_fits (Some c) ts n h = onto_text_fits c n ts h

inside_fits : (p q r : Bool) (b : ℕ) (out esc within : List TokenOf) (n : ℕ) → spans out ≤ n → spans esc ≤ n + 1 → spans within ≤ n + 1
    → spans (cond p (text [] ∷ out) (cond q esc (cond r (onto_text b within) (stray ∷ [])))) ≤ n + 2
inside_fits true q r b out esc within n h k j = omega arith
inside_fits false true r b out esc within n h k j = omega arith
inside_fits false false true b out esc within n h k j = onto_text_fits b n within j
inside_fits false false false b out esc within n h k j = omega arith

-- the quote before a text counts for it
abbrev quotes : Mode → ℕ
quotes Outside = 0
quotes Inside = 1
quotes Escaped = 1

lex_spans : (m : Mode) (bs : List ℕ) → spans (lex m bs) ≤ length bs + quotes m
lex_spans Outside [] = omega arith
lex_spans Inside [] = omega arith
lex_spans Escaped [] = omega arith
lex_spans Outside (b ∷ bs) =
    let out : spans (lex Outside bs) ≤ length bs = omega (arith, lex_spans Outside bs) in
    omega (arith, outside_fits (class_of b) b bs (lex Outside bs) (lex Inside bs) (length bs) out (lex_spans Inside bs))
lex_spans Inside (b ∷ bs) =
    let out : spans (lex Outside bs) ≤ length bs = omega (arith, lex_spans Outside bs) in
    omega (arith, inside_fits (b == 34) (b == 92) (is_printable b) b (lex Outside bs) (lex Escaped bs) (lex Inside bs) (length bs) out (lex_spans Escaped bs) (lex_spans Inside bs))
lex_spans Escaped (b ∷ bs) = omega (arith, escaped_fits (escape_of b) (lex Inside bs) (length bs) (lex_spans Inside bs))

-- the same of the tokens that are read, where nothing is left
pub all_fit : (ts : List TokenOf) (rest line : List ℕ) → length rest ≡ 0 → ts ++ lex Outside rest ≡ lex Outside line → spans ts ≤ length line
all_fit ts [] line h e = rw (sym (append-nil ts) ∙ e) (let e : spans (lex Outside line) ≤ length line = omega (arith, lex_spans Outside line) in e)
all_fit ts (b ∷ rest) line h e = absurd (omega arith)
