-- A schedule that was written is read again.
use Rattle.std.proofs.Common.{◌≡◌, ◌∙◌, ℕ, ◌+◌, ◌^◌, ◌<◌, ◌≤◌, ◌≢◌, Bool, true, false, not, eqb, List, [], ◌∷◌, ◌++◌, length, refl, ap, Some, Ok, arith, append_assoc}
use Rattle.std.specs.Prelude.{codes, decimal, nat_le, nat_lt}
use Rattle.std.specs.List.{position_or_len, before_first, after_first}
use Rattle.std.specs.Str.Parse.{digits_value}
use Rattle.std.proofs.Math.Seq.{take-append_seam, drop-append-add}
use Rattle.std.proofs.lemmas.Bool.Decides.{nat_tests}
use Rattle.std.proofs.lemmas.Fmt.{decimal_is_IsNumeral, digits_value-decimal, length-decimal-le}
use Rattle.slot_space.specs.declared.names.Tid.{Tid}
use Rattle.run_trace.specs.declared.entry.Act.{Act}
use Rattle.run_trace.specs.declared.entry.Act.TheVariants as act
use Rattle.run_trace.specs.declared.entry.Entry.{Entry}
use Rattle.trace_text.specs.Words.{tid_text}
use Rattle.trace_text.specs.Lines.{words_text}
use Rattle.run_texts.specs.declared.act.Said.TheVariants as said
use Rattle.run_texts.specs.declared.schedule.Scheduled.{Scheduled}
use Rattle.run_texts.specs.Parts.{Text, is_filled, is_number, lines_of, number_in}
use Rattle.run_texts.specs.Acts.{said_in, said_words, tid_in}
use Rattle.run_texts.specs.Schedules.{acts_from, schedule_of}
use Rattle.run_texts.specs.Written.{AreInRange, IsInRange, act_words, at_line, line_or_nothing, numbered, schedule_text}
use Rattle.run_texts.proofs.Digits.{AreDigits, numerals}
use Rattle.std.proofs.lemmas.Bool.{and_parts}
use Rattle.run_texts.proofs.Words.{AreWords, IsWord, apart-append, decimal_digits, digits_apart, is_apart, no_carriage_return, no_newline, not_here, nothing_stripped, part_behind, words_again}

-- ---- numbers

number_of_text : (low below n : ℕ) (text : Text) → is_filled text ≡ true → length text ≤ 10 → AreDigits text → digits_value 10 text ≡ n → low ≤ n → n < below → number_in low below text ≡ Some n
unfolding number_in
number_of_text low below n text some few digits value least most =
    let short : nat_le (length text) 10 ≡ true = grind (arith, nat_tests) in
    let number : is_number text ≡ true = rw (some, short) digits in
    let above : nat_le low n ≡ true = grind (arith, nat_tests) in
    let less : nat_lt n below ≡ true = grind (arith, nat_tests) in
    rw (number, value, above, less) refl

filled : (text : Text) → 0 < length text → is_filled text ≡ true
filled [] h = absurd (omega arith)
filled (b ∷ bs) h = refl

pub number_again : (low below n : ℕ) → low ≤ n → n < below → n < 2 ^ 32 → number_in low below (decimal n) ≡ Some n
number_again low below n least most small =
    let fits : n < 2 ^ 64 = omega arith in
    let wide : n < 10 ^ 10 = omega arith in
    number_of_text low below n (decimal n) (filled (decimal n) (decimal_is_IsNumeral n fits).0.0) (length-decimal-le 10 n (omega arith) wide fits) (decimal_digits n fits) (digits_value-decimal numerals n fits) least most

pub number_word : (n : ℕ) → n < 2 ^ 64 → IsWord (decimal n)
number_word n fits =
    let digits = decimal_digits n fits in
    record {
      some = filled (decimal n) (decimal_is_IsNumeral n fits).0.0;
      newline = digits_apart 10 (decimal n) refl digits;
      carriage_return = digits_apart 13 (decimal n) refl digits;
      blank = digits_apart 32 (decimal n) refl digits;
    }

-- ---- names

abbrev is_dot : ℕ → Bool
is_dot b = eqb b 46

place_behind : (w rest : Text) → is_apart 46 w ≡ true → position_or_len is_dot (w ++ 46 ∷ rest) ≡ length w
place_behind [] rest h = refl
place_behind (b ∷ w) rest h =
    let p = and_parts (not (eqb b 46)) (is_apart 46 w) h in
    let more = place_behind w rest p.1 in
    rw (not_here b 46 p.0, more) (omega arith)

before_dot : (w rest : Text) → is_apart 46 w ≡ true → before_first is_dot (w ++ 46 ∷ rest) ≡ w
before_dot w rest h = rw (place_behind w rest h) (take-append_seam w (46 ∷ rest))

after_dot : (w rest : Text) → is_apart 46 w ≡ true → after_first is_dot (w ++ 46 ∷ rest) ≡ rest
after_dot w rest h = rw (place_behind w rest h) (drop-append-add w (46 ∷ rest) 1)

tid_of_parts : (nodes home seq : ℕ) (text h s : Text) → before_first is_dot text ≡ h → after_first is_dot text ≡ s → number_in 0 nodes h ≡ Some home → number_in 0 (2 ^ 32) s ≡ Some seq
    → tid_in nodes text ≡ Some (record { home = home; seq = seq })
unfolding tid_in
tid_of_parts nodes home seq text h s eh es home_is seq_is = rw (eh, es, home_is, seq_is) refl

tid_again : (nodes : ℕ) (t : Tid) → nodes ≤ 8 → t.home < nodes → t.seq < 2 ^ 32 → tid_in nodes (tid_text t) ≡ Some t
tid_again nodes t few home seq =
    let digits : is_apart 46 (decimal t.home) ≡ true = digits_apart 46 (decimal t.home) refl (decimal_digits t.home (omega arith)) in
    tid_of_parts nodes t.home t.seq (tid_text t) (decimal t.home) (decimal t.seq) (before_dot (decimal t.home) (decimal t.seq) digits) (after_dot (decimal t.home) (decimal t.seq) digits)
    (number_again 0 nodes t.home (omega arith) home (omega arith)) (number_again 0 (2 ^ 32) t.seq (omega arith) seq seq)

filled-append : (v w : Text) → is_filled v ≡ true → is_filled (v ++ w) ≡ true
filled-append [] w h = cc
filled-append (b ∷ bs) w h = refl

tid_word : (t : Tid) → t.home < 8 → t.seq < 2 ^ 32 → IsWord (tid_text t)
tid_word t home seq =
    let h = number_word t.home (omega arith) in
    let s = number_word t.seq (omega arith) in
    record {
      some = filled-append (decimal t.home) (46 ∷ decimal t.seq) h.some;
      newline = apart-append 10 (decimal t.home) (46 ∷ decimal t.seq) h.newline s.newline;
      carriage_return = apart-append 13 (decimal t.home) (46 ∷ decimal t.seq) h.carriage_return s.carriage_return;
      blank = apart-append 32 (decimal t.home) (46 ∷ decimal t.seq) h.blank s.blank;
    }

-- ---- a line

line_says : (nodes processors b : ℕ) (w : Text) (ws : List Text) → eqb b 35 ≡ false → eqb b 32 ≡ false → IsWord (b ∷ w) → AreWords ws → said_in nodes processors (words_text ((b ∷ w) ∷ ws)) ≡ said_words nodes processors ((b ∷ w) ∷ ws)
line_says nodes processors b w ws no_comment no_blank h hs =
    rw (nothing_stripped (words_text ((b ∷ w) ∷ ws)) (no_carriage_return (b ∷ w) ws h hs), no_comment, words_again (b ∷ w) ws h hs, no_blank) refl

run_says : (nodes processors node vp quantum : ℕ) (n v q : Text) → number_in 0 nodes n ≡ Some node → number_in 0 processors v ≡ Some vp → number_in 1 65537 q ≡ Some quantum
    → said_words nodes processors (codes "run" ∷ n ∷ v ∷ q ∷ []) ≡ said.Act node (act.Run vp quantum)
run_says nodes processors node vp quantum n v q en ev eq = rw (en, ev, eq) refl

take_says : (nodes processors node sender : ℕ) (n s : Text) → number_in 0 nodes n ≡ Some node → number_in 0 nodes s ≡ Some sender → said_words nodes processors (codes "take" ∷ n ∷ s ∷ []) ≡ said.Act node (act.Take sender)
take_says nodes processors node sender n s en es = rw (en, es) refl

move_says : (nodes processors node to : ℕ) (t : Tid) (n name m : Text) → number_in 0 nodes n ≡ Some node → tid_in nodes name ≡ Some t → number_in 0 nodes m ≡ Some to → eqb to node ≡ false
    → said_words nodes processors (codes "move" ∷ n ∷ name ∷ m ∷ []) ≡ said.Act node (act.Move t to)
move_says nodes processors node to t n name m en et em other = rw (en, et, em, other) refl

-- ---- all lines

-- what a line of such words says, and the rest
one_line : (nodes processors line n node b : ℕ) (a : Act) (w : Text) (ws : List Text) (rest : Text) (more : List Scheduled) → eqb b 35 ≡ false → eqb b 32 ≡ false → IsWord (b ∷ w) → AreWords ws
    → said_words nodes processors ((b ∷ w) ∷ ws) ≡ said.Act node a → n < 1000000 → acts_from nodes processors (line + 1) (n + 1) (lines_of rest) ≡ Ok more
    → acts_from nodes processors line n (lines_of (line_or_nothing ((b ∷ w) ∷ ws) ++ rest)) ≡ Ok (record { line = line; node = node; act = a } ∷ more)
one_line nodes processors line n node b a w ws rest more no_comment no_blank h hs says less e =
    let text = words_text ((b ∷ w) ∷ ws) in
    let first : lines_of ((text ++ 10 ∷ []) ++ rest) ≡ text ∷ lines_of rest = ap lines_of (append_assoc text (10 ∷ []) rest) ∙ part_behind 10 text rest (no_newline (b ∷ w) ws h hs) in
    let said_is = line_says nodes processors b w ws no_comment no_blank h hs ∙ says in
    let test : nat_lt n 1000000 ≡ true = grind (arith, nat_tests) in
    rw (first, said_is, test, e) refl

-- what is behind a line is read from any line on
abbrev Rest : (nodes processors : ℕ) → Text → (ℕ → List Scheduled) → Type 0
Rest nodes processors rest more = (line n : ℕ) → n + length (more line) ≤ 1000000 → acts_from nodes processors line n (lines_of rest) ≡ Ok (more line)

one_act : (nodes processors line n node : ℕ) (a : Act) (rest : Text) (more : ℕ → List Scheduled) → nodes ≤ 8 → processors ≤ 16 → node < nodes → IsInRange nodes processors node a → n + length (at_line line node a more) ≤ 1000000 → Rest nodes processors rest more
    → acts_from nodes processors line n (lines_of (line_or_nothing (act_words node a) ++ rest)) ≡ Ok (at_line line node a more)
unfolding act_words
one_act nodes processors line n node act.Boot rest more few narrow here fit all behind = behind line n all
one_act nodes processors line n node (act.Run vp quantum) rest more few narrow here fit all behind =
    let at_node = number_again 0 nodes node (omega arith) here (omega arith) in
    let at_vp = number_again 0 processors vp (omega arith) fit.0 (omega (arith, fit.0)) in
    let at_quantum = number_again 1 65537 quantum fit.1 (omega (arith, fit.2)) (omega (arith, fit.2)) in
    one_line nodes processors line n node 114 (act.Run vp quantum) (117 ∷ 110 ∷ []) (decimal node ∷ decimal vp ∷ decimal quantum ∷ []) rest (more (line + 1)) refl refl
    (record { some = refl; newline = refl; carriage_return = refl; blank = refl })
    (number_word node (omega arith), (number_word vp (omega (arith, fit.0)), (number_word quantum (omega (arith, fit.2)), tt)))
    (run_says nodes processors node vp quantum (decimal node) (decimal vp) (decimal quantum) at_node at_vp at_quantum) (omega (arith, all)) (behind (line + 1) (n + 1) (omega (arith, all)))
one_act nodes processors line n node (act.Take sender) rest more few narrow here fit all behind =
    let at_node = number_again 0 nodes node (omega arith) here (omega arith) in
    let at_sender = number_again 0 nodes sender (omega arith) fit (omega (arith, fit)) in
    one_line nodes processors line n node 116 (act.Take sender) (97 ∷ 107 ∷ 101 ∷ []) (decimal node ∷ decimal sender ∷ []) rest (more (line + 1)) refl refl
    (record { some = refl; newline = refl; carriage_return = refl; blank = refl })
    (number_word node (omega arith), (number_word sender (omega (arith, fit)), tt))
    (take_says nodes processors node sender (decimal node) (decimal sender) at_node at_sender) (omega (arith, all)) (behind (line + 1) (n + 1) (omega (arith, all)))
one_act nodes processors line n node (act.Move t to) rest more few narrow here fit all behind =
    let at_node = number_again 0 nodes node (omega arith) here (omega arith) in
    let home : t.home < nodes = fit.0 in
    let seq : t.seq < 2 ^ 32 = fit.1 in
    let near : to < nodes = fit.2 in
    let apart : to ≢ node = fit.3 in
    let other : eqb to node ≡ false = grind (arith, nat_tests) in
    let at_t = tid_again nodes t few home seq in
    let at_to = number_again 0 nodes to (omega arith) near (omega arith) in
    one_line nodes processors line n node 109 (act.Move t to) (111 ∷ 118 ∷ 101 ∷ []) (decimal node ∷ tid_text t ∷ decimal to ∷ []) rest (more (line + 1)) refl refl
    (record { some = refl; newline = refl; carriage_return = refl; blank = refl })
    (number_word node (omega arith), (tid_word t (omega arith) seq, (number_word to (omega arith), tt)))
    (move_says nodes processors node to t (decimal node) (tid_text t) (decimal to) at_node at_t at_to other) (omega (arith, all)) (behind (line + 1) (n + 1) (omega (arith, all)))

all_lines : (nodes processors : ℕ) → nodes ≤ 8 → processors ≤ 16 → (xs : List Entry) → AreInRange nodes processors xs → Rest nodes processors (schedule_text xs) (λ line. numbered line xs)
all_lines nodes processors few narrow [] fit line n all = refl
all_lines nodes processors few narrow (x ∷ xs) fit line n all =
    one_act nodes processors line n x.node x.act (schedule_text xs) (λ next. numbered next xs) few narrow fit.0.0 fit.0.1 all (all_lines nodes processors few narrow xs fit.1)

pub read_again : (nodes processors : ℕ) (xs : List Entry) (text : Text) → text ≡ schedule_text xs → nodes ≤ 8 → processors ≤ 16 → AreInRange nodes processors xs → length (numbered 1 xs) ≤ 1000000 → schedule_of nodes processors text ≡ Ok (numbered 1 xs)
unfolding schedule_of
read_again nodes processors xs text is few narrow fit all = rw is (all_lines nodes processors few narrow xs fit 1 0 (omega (arith, all)))
