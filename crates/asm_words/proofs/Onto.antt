-- What stands behind a byte, a word or a text.
use Rattle.std.proofs.Common.{◌≡◌, ℕ, true, false, List, [], ◌∷◌, ◌++◌, take, drop, suc, refl, ap, ◌∙◌, inl, inr, arith}
use Rattle.std.proofs.lemmas.Bool.{cases_Bool}
use Rattle.std.proofs.lemmas.Bool.Decides.{nat_tests}
use Rattle.std.specs.List.{prefix_len}
use Rattle.asm_words.specs.declared.lexing.Class.TheVariants as class
use Rattle.asm_words.specs.Words.{is_name_byte}
use Rattle.asm_words.specs.Tokens.{TokenOf, word, mark, text, stray, Outside, Inside, lex, onto_text, onto_word, outside, class_of}

-- each byte of cs goes onto the text
abbrev pub onto_all : List ℕ → List TokenOf → List TokenOf
onto_all [] ts = ts
onto_all (c ∷ cs) ts = onto_text c (onto_all cs ts)

pub onto_all_push : (cs : List ℕ) (c : ℕ) (ts : List TokenOf) → onto_all (cs ++ c ∷ []) ts ≡ onto_all cs (onto_text c ts)
onto_all_push [] c ts = refl
onto_all_push (d ∷ cs) c ts = ap (λ us. onto_text d us) (onto_all_push cs c ts)

pub onto_all_text : (cs t : List ℕ) (ts : List TokenOf) → onto_all cs (text t ∷ ts) ≡ text (cs ++ t) ∷ ts
onto_all_text [] t ts = refl
onto_all_text (c ∷ cs) t ts = ap (λ us. onto_text c us) (onto_all_text cs t ts)

pub onto_all_stray : (cs : List ℕ) → onto_all cs (stray ∷ []) ≡ stray ∷ []
onto_all_stray [] = refl
onto_all_stray (c ∷ cs) = ap (λ us. onto_text c us) (onto_all_stray cs)

-- a byte of a name outside quotes
name_class : (b : ℕ) → is_name_byte b ≡ true → class_of b ≡ class.Word
name_class b h = grind (arith, nat_tests)

-- no word goes on where no byte of a name follows
onto_word_apart : (b c : ℕ) (bs : List ℕ) (ts : List TokenOf) → is_name_byte c ≡ false → onto_word b (c ∷ bs) ts ≡ word (b ∷ []) ∷ ts
onto_word_apart b c bs [] h = refl
onto_word_apart b c bs (word w ∷ ts) h = rw h refl
onto_word_apart b c bs (mark m ∷ ts) h = refl
onto_word_apart b c bs (text t ∷ ts) h = refl
onto_word_apart b c bs (stray ∷ ts) h = refl

onto_word_more : (b c : ℕ) (bs w : List ℕ) (ts : List TokenOf) → is_name_byte c ≡ true → onto_word b (c ∷ bs) (word w ∷ ts) ≡ word (b ∷ w) ∷ ts
onto_word_more b c bs w ts h = rw h refl

word_first : (b : ℕ) (bs : List ℕ) → class_of b ≡ class.Word → lex Outside (b ∷ bs) ≡ onto_word b bs (lex Outside bs)
word_first b bs h = ap (λ k. outside k b bs (lex Outside bs) (lex Inside bs)) h

-- the first byte of a word, and the bytes of a name right behind it
pub word_taken : (b : ℕ) (bs : List ℕ) → class_of b ≡ class.Word
    → lex Outside (b ∷ bs) ≡ word (b ∷ take (prefix_len is_name_byte bs) bs) ∷ lex Outside (drop (prefix_len is_name_byte bs) bs)
word_taken b [] h = word_first b [] h
word_taken b (c ∷ bs) h =
    elim (cases_Bool (is_name_byte c)) [
      | inl is ↦
          let n : prefix_len is_name_byte (c ∷ bs) ≡ suc (prefix_len is_name_byte bs) = rw is (omega arith) in
          let e = word_taken c bs (name_class c is) in
          word_first b (c ∷ bs) h ∙ ap (λ ts. onto_word b (c ∷ bs) ts) e ∙ onto_word_more b c bs (c ∷ take (prefix_len is_name_byte bs) bs) (lex Outside (drop (prefix_len is_name_byte bs) bs)) is ∙ rw n refl
      | inr isnt ↦
          let n : prefix_len is_name_byte (c ∷ bs) ≡ 0 = rw isnt refl in
          word_first b (c ∷ bs) h ∙ onto_word_apart b c bs (lex Outside (c ∷ bs)) isnt ∙ rw n refl
    ]

-- the same of a word and what is left behind it
pub word_takes : (b : ℕ) (after bytes rest : List ℕ) (n m : ℕ) → bytes ≡ b ∷ after → class_of b ≡ class.Word
    → n ≡ prefix_len is_name_byte after → rest ≡ drop n after → m ≡ suc n → lex Outside bytes ≡ word (take m bytes) ∷ lex Outside rest
word_takes b after bytes rest n m whole first some left len =
    rw (whole, left, len, some) (word_taken b after first)
