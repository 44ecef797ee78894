-- The words of a line have no blanks and no newlines.
use Rattle.std.proofs.Common.{◌≡◌, ℕ, ◌+◌, ◌-◌, ◌/◌, ◌%◌, ◌^◌, ◌<◌, Bool, true, false, ltb, List, [], ◌∷◌, ◌++◌, Option, Some, None, refl, ◌∙◌, inl, inr, arith, rules, tests}
use Rattle.std.specs.Prelude.{map, decimal}
use Rattle.std.specs.List.{flat_map, list_all}
use Rattle.std.specs.Char.{is_ascii_digit}
use Rattle.std.specs.Str.{all_ascii_digits}
use Rattle.std.proofs.lemmas.Bool.{cases_lt, lt-ltb, le-ltb, and_parts}
use Rattle.std.proofs.lemmas.List.Folds.{list_all-append}
use Rattle.std.proofs.lemmas.Fmt.{digits_decimal}
use Rattle.slot_space.specs.declared.names.Tid.{Tid}
use Rattle.rv_step.specs.declared.hart.FaultKind.{FaultKind}
use Rattle.rv_step.specs.declared.hart.FaultKind.TheVariants as kinds
use Rattle.rv_step.specs.declared.hart.Stop.{Stop}
use Rattle.rv_step.specs.declared.hart.Stop.TheVariants as stops
use Rattle.marcel_core.specs.declared.end.End.TheVariants as ends
use Rattle.run_trace.specs.declared.entry.Act.{Act}
use Rattle.run_trace.specs.declared.entry.Act.TheVariants as acts
use Rattle.run_trace.specs.declared.entry.Entry.{Entry}
use Rattle.run_trace.specs.declared.label.Label.{Label}
use Rattle.run_trace.specs.declared.label.Label.TheVariants.{Born, Ran, Asked, Heard, Judged, Told, Took, Gave, Ended, Known, Left, Came, Lent, InHand, Decided, Returned, Home, Down, Burst, Gathered, Shown, Halted, Dropped}
use Rattle.run_trace.specs.declared.label.Why.TheVariants as whys
use Rattle.run_trace.specs.declared.label.Extra.TheVariants as extras
use Rattle.trace_text.specs.Calls.{CallRow, calls, call_numbered}
use Rattle.trace_text.specs.Words.{tid_text, slots_text, glyph, byte_text, bytes_text, reply_text, kind_text, stop_text, first_text, act_words}
use Rattle.trace_text.specs.Lines.{head_words, said_words, asked_words, label_words}
use Rattle.trace_text.specs.Fits.{FitsTid, AscendFrom, FitsSlots, AreLong, FitsAct, FitsFirst, FitsAsked, Fits, FitsHead}
use Rattle.trace_text.proofs.OneWord.{own, plain}
use Rattle.trace_text.proofs.Sound.{all_known}
use Rattle.trace_text.proofs.Again.{numbered_known}

abbrev pub all_plain : List (List ℕ) → Bool
all_plain ws = list_all plain ws

digits_plain : (ds : List ℕ) → all_ascii_digits ds ≡ true → plain ds ≡ true
digits_plain [] h = refl
digits_plain (d ∷ ds) h =
    let p = and_parts (is_ascii_digit d) (all_ascii_digits ds) h in
    let first : ltb 32 d ≡ true = search (rules, tests, p.0) in
    rw (first, digits_plain ds p.1) refl

number : (n : ℕ) → n < 2 ^ 64 → plain (decimal n) ≡ true
number n h = digits_plain (decimal n) (digits_decimal own n h)

w32 : (n : ℕ) → n < 2 ^ 32 → plain (decimal n) ≡ true
w32 n h = number n (omega (arith, h))

w16 : (n : ℕ) → n < 2 ^ 16 → plain (decimal n) ≡ true
w16 n h = number n (omega (arith, h))

w8 : (n : ℕ) → n < 2 ^ 8 → plain (decimal n) ≡ true
w8 n h = number n (omega (arith, h))

name : (t : Tid) → FitsTid t → plain (tid_text t) ≡ true
name t h = list_all-append (λ b. ltb 32 b) (decimal t.home) (46 ∷ decimal t.seq) ∙ rw (w8 t.home h.0, w32 t.seq h.1) refl

commas_plain : (ns : List ℕ) (least : ℕ) → AscendFrom least ns → plain (flat_map (λ m. 44 ∷ decimal m) ns) ≡ true
commas_plain [] least h = refl
commas_plain (n ∷ ns) least h = list_all-append (λ b. ltb 32 b) (44 ∷ decimal n) (flat_map (λ m. 44 ∷ decimal m) ns) ∙ rw (w16 n h.1, commas_plain ns (n + 1) h.2) refl

slots : (ns : List ℕ) → FitsSlots ns → plain (slots_text ns) ≡ true
slots [] h = refl
slots (n ∷ ns) h = list_all-append (λ b. ltb 32 b) (decimal n) (flat_map (λ m. 44 ∷ decimal m) ns) ∙ rw (w16 n h.1, commas_plain ns (n + 1) h.2) refl

glyph_plain : (n : ℕ) → ltb 32 (glyph n) ≡ true
glyph_plain n =
    elim (cases_lt n 10) [
      | inl small ↦ rw (lt-ltb n 10 small) (lt-ltb 32 (48 + n) (omega arith))
      | inr large ↦ rw (le-ltb n 10 large) (lt-ltb 32 (87 + n) (omega arith))
    ]

pairs_plain : (bs : List ℕ) → plain (flat_map byte_text bs) ≡ true
pairs_plain [] = refl
pairs_plain (b ∷ bs) = rw (glyph_plain (b / 16), glyph_plain (b % 16), pairs_plain bs) refl

bytes : (bs : List ℕ) → plain (bytes_text bs) ≡ true
bytes [] = refl
bytes (b ∷ bs) = pairs_plain (b ∷ bs)

reply : (n : ℕ) → n < 2 ^ 64 → plain (reply_text n) ≡ true
reply n h =
    elim (cases_lt n (2 ^ 63)) [
      | inl small ↦ rw (lt-ltb n (2 ^ 63) small) (number n h)
      | inr large ↦ rw (le-ltb n (2 ^ 63) large) (number (2 ^ 64 - n) (omega (arith, large)))
    ]

kind : (k : FaultKind) → plain (kind_text k) ≡ true
kind kinds.Illegal = refl
kind kinds.Break = refl
kind kinds.Misaligned = refl
kind kinds.Fetch = refl
kind kinds.Load = refl
kind kinds.Store = refl

stop : (s : Stop) → plain (stop_text s) ≡ true
stop stops.Quantum = refl
stop stops.Call = refl
stop (stops.Fault k) = kind k

first : (f : Option ℕ) → FitsFirst f → plain (first_text f) ≡ true
first None h = refl
first (Some n) h = w16 n h

numbers : (xs : List ℕ) → AreLong xs → all_plain (map decimal xs) ≡ true
numbers [] h = refl
numbers (x ∷ xs) h = rw (number x h.0, numbers xs h.1) refl

said : (says : Bool) (bs : List ℕ) → all_plain (said_words says bs) ≡ true
said false bs = refl
said true bs = rw (bytes bs) refl

asked : (call : ℕ) (args bs : List ℕ) (o : Option CallRow) → call_numbered call ≡ o → FitsAsked o call args bs → all_plain (asked_words o call args bs) ≡ true
asked call args bs None e h = rw (h.1, number call h.0) refl
asked call args bs (Some r) e h =
    let known = numbered_known calls call r all_known e in
    let more : all_plain (map decimal args ++ said_words r.says bs) ≡ true = list_all-append plain (map decimal args) (said_words r.says bs) ∙ rw (numbers args h.1, said r.says bs) refl in
    rw (known.0.3, more) refl

pub label_plain : (l : Label) → Fits l → all_plain (label_words l) ≡ true
label_plain (Born t whys.Main entry a0 a1 sp slot) f = rw (name t f.0, number entry f.2, number a0 f.3, number a1 f.4, number sp f.5, w16 slot f.6) refl
label_plain (Born t (whys.Create by) entry a0 a1 sp slot) f = rw (name t f.0, name by f.1, number entry f.2, number a0 f.3, number a1 f.4, number sp f.5, w16 slot f.6) refl
label_plain (Born t (whys.Inside by bubble) entry a0 a1 sp slot) f = rw (name t f.0, name by f.1.0, w32 bubble f.1.1, number entry f.2, number a0 f.3, number a1 f.4, number sp f.5, w16 slot f.6) refl
label_plain (Born t (whys.Service by count) entry a0 a1 sp slot) f = rw (name t f.0, name by f.1.0, w32 count f.1.1, number entry f.2, number a0 f.3, number a1 f.4, number sp f.5, w16 slot f.6) refl
label_plain (Ran t vp count s) f = rw (name t f.0, w8 vp f.1, w32 count f.2, stop s) refl
label_plain (Asked t call args bs) f = rw (name t f.0, asked call args bs (call_numbered call) refl f.1) refl
label_plain (Judged t code extras.Nothing) f = rw (name t f.0, reply code f.1) refl
label_plain (Judged t code (extras.Second second)) f = rw (name t f.0, reply code f.1, number second f.2) refl
label_plain (Judged t code (extras.Bytes bs)) f = rw (name t f.0, reply code f.1, bytes bs) refl
label_plain (Took t first count) f = rw (name t f.0, w16 first f.1, w16 count f.2) refl
label_plain (Gave t ns) f = rw (name t f.0, slots ns f.1) refl
label_plain (Ended t (ends.Exit value)) f = rw (name t f.0, number value f.1) refl
label_plain (Ended t (ends.Fault k pc)) f = rw (name t f.0, kind k, number pc f.1) refl
label_plain (Left t to) f = rw (name t f.0, w8 to f.1) refl
label_plain (Lent to ns) f = rw (w8 to f.0, slots ns f.1) refl
label_plain (InHand lender ns) f = rw (w8 lender f.0, slots ns f.1) refl
label_plain (Decided t count x) f = rw (name t f.0, w16 count f.1, first x f.2) refl
label_plain (Returned to ns) f = rw (w8 to f.0, slots ns f.1) refl
label_plain (Home ns) f = rw (slots ns f) refl
label_plain (Down bubble list) f = rw (w32 bubble f.0, w8 list f.1) refl
label_plain (Burst bubble list) f = rw (w32 bubble f.0, w8 list f.1) refl
label_plain (Gathered bubble count) f = rw (w32 bubble f.0, w32 count f.1) refl
label_plain (Dropped t count code) f = rw (name t f.0, w32 count f.1, reply code f.2) refl
label_plain (Heard t) f = rw (name t f) refl
label_plain (Told t) f = rw (name t f) refl
label_plain (Known t) f = rw (name t f) refl
label_plain (Came t) f = rw (name t f) refl
label_plain (Shown t) f = rw (name t f) refl
label_plain (Halted t) f = rw (name t f) refl

act : (a : Act) → FitsAct a → all_plain (act_words a) ≡ true
act acts.Boot f = refl
act (acts.Run vp quantum) f = rw (w8 vp f.0, w32 quantum f.1) refl
act (acts.Take from) f = rw (w8 from f) refl
act (acts.Move t to) f = rw (name t f.0, w8 to f.1) refl

pub head_plain : (x : Entry) → FitsHead x → all_plain (head_words x) ≡ true
head_plain x f = rw (number x.stamp f.0, w8 x.node f.1, number x.round f.2, act x.act f.3) refl
