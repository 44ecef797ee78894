-- What a link has of one subject, in order, when a packet comes as the last or the first is taken.
use Rattle.std.proofs.Common.{◌≡◌, ◌⊎◌, inl, inr, ℕ, List, [], ◌∷◌, ◌++◌, Bool, true, false, eqb, cond, ◌&&◌, refl, sym, ap, ◌∙◌}
use Rattle.std.proofs.lemmas.Bool.{eqb-true}
use Rattle.run_trace.specs.Items.{Subject, Thread, Turns, same_subject}
use Rattle.run_trace.specs.Stands.{Word, word_subject, words_about, Way, on_link}
use Rattle.run_trace.proofs.Lemmas.{is-true, is-refl}

pub subject-true : (a b : Subject) → same_subject a b ≡ true → a ≡ b
subject-true (Thread t) (Thread u) e = ap Thread (is-true t u e)
subject-true (Thread t) Turns e = absurd (cc e)
subject-true Turns (Thread u) e = absurd (cc e)
subject-true Turns Turns e = refl

pub subject-refl : (a : Subject) → same_subject a a ≡ true
subject-refl (Thread t) = is-refl t
subject-refl Turns = refl

-- all but the first word of this subject
abbrev pub less_word : Subject → List Word → List Word
less_word s [] = []
less_word s (x ∷ xs) = cond (same_subject s (word_subject x)) xs (x ∷ less_word s xs)

abbrev pub rest_words : List Word → List Word
rest_words [] = []
rest_words (x ∷ xs) = xs

pub about-append : (xs ys : List Word) (s : Subject) → words_about (xs ++ ys) s ≡ words_about xs s ++ words_about ys s
about-append [] ys s = refl
about-append (x ∷ xs) ys s = elim (same_subject s (word_subject x)) as (λ v. cond v (x ∷ words_about (xs ++ ys) s) (words_about (xs ++ ys) s) ≡ cond v (x ∷ words_about xs s) (words_about xs s) ++ words_about ys s)
    [ true ↦ ap (λ zs. x ∷ zs) (about-append xs ys s) | false ↦ about-append xs ys s ]

pub about-less : (xs : List Word) (s : Subject) → words_about (less_word s xs) s ≡ rest_words (words_about xs s)
about-less [] s = refl
about-less (x ∷ xs) s = elim (same_subject s (word_subject x)) as (λ v. same_subject s (word_subject x) ≡ v → words_about (cond v xs (x ∷ less_word s xs)) s ≡ rest_words (cond v (x ∷ words_about xs s) (words_about xs s)))
    [ true ↦ λ e. refl | false ↦ λ e. rw e (about-less xs s) ] refl

pub about-less_other : (xs : List Word) (s u : Subject) → same_subject s u ≡ false → words_about (less_word s xs) u ≡ words_about xs u
about-less_other [] s u n = refl
about-less_other (x ∷ xs) s u n = elim (same_subject s (word_subject x)) as (λ v. same_subject s (word_subject x) ≡ v → words_about (cond v xs (x ∷ less_word s xs)) u ≡ words_about (x ∷ xs) u) [
  | true ↦ λ e. by (same_subject u (word_subject x)) refl (subject-true s (word_subject x) e)
  | false ↦ λ e. elim (same_subject u (word_subject x)) as (λ v. cond v (x ∷ words_about (less_word s xs) u) (words_about (less_word s xs) u) ≡ cond v (x ∷ words_about xs u) (words_about xs u)) [ true ↦ ap (λ zs. x ∷ zs) (about-less_other xs s u n) | false ↦ about-less_other xs s u n ]
] refl
  where
    by : (v : Bool) → same_subject u (word_subject x) ≡ v → s ≡ word_subject x → words_about xs u ≡ cond v (x ∷ words_about xs u) (words_about xs u)
    by true e f =
        let one : u ≡ s = subject-true u (word_subject x) e ∙ sym f in
        let same : same_subject s u ≡ true = ap (λ z. same_subject s z) one ∙ subject-refl s in
        absurd (cc (same, n))
    by false e f = refl

-- ## What is under way, link by link

abbrev pub IsOneOf : {A : Type 0} → A → List A → Type 0
IsOneOf x [] = ⊥
IsOneOf x (y ∷ ys) = (y ≡ x) ⊎ IsOneOf x ys

pub on_link-append : (i j : ℕ) (xs ys : List Way) → on_link i j (xs ++ ys) ≡ on_link i j xs ++ on_link i j ys
on_link-append i j [] ys = refl
on_link-append i j (x ∷ xs) ys = elim (eqb x.from i && eqb x.to j) as (λ v. cond v (x.word ∷ on_link i j (xs ++ ys)) (on_link i j (xs ++ ys)) ≡ cond v (x.word ∷ on_link i j xs) (on_link i j xs) ++ on_link i j ys)
    [ true ↦ ap (λ zs. x.word ∷ zs) (on_link-append i j xs ys) | false ↦ on_link-append i j xs ys ]

-- a word on a link is under way there
pub on_way : (i j : ℕ) (ways : List Way) (y : Word) → IsOneOf y (on_link i j ways) → IsOneOf (record { from = i; to = j; word = y }) ways
on_way i j [] y h = absurd h
on_way i j (x ∷ xs) y h = by (on_way i j xs y) (eqb x.from i) (eqb x.to j) refl refl h
  where
    is : x.from ≡ i → x.to ≡ j → x.word ≡ y → x ≡ record { from = i; to = j; word = y }
    is a b c = ap (λ (k : ℕ). record { from = k; to = x.to; word = x.word }) a ∙ ap (λ (k : ℕ). record { from = i; to = k; word = x.word }) b ∙ ap (λ (k : Word). record { from = i; to = j; word = k }) c

    by : (IsOneOf y (on_link i j xs) → IsOneOf (record { from = i; to = j; word = y }) xs) → (u v : Bool) → eqb x.from i ≡ u → eqb x.to j ≡ v → IsOneOf y (cond (u && v) (x.word ∷ on_link i j xs) (on_link i j xs)) → IsOneOf (record { from = i; to = j; word = y }) (x ∷ xs)
    by later true true e f (inl c) = inl (is (eqb-true x.from i e) (eqb-true x.to j f) c)
    by later true true e f (inr k) = inr (later k)
    by later true false e f k = inr (later k)
    by later false v e f k = inr (later k)
