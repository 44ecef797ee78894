-- What is written of a label or a head is read as it.
use Rattle.std.proofs.Common.{◌≡◌, ℕ, zero, suc, ◌^◌, ◌<◌, Bool, true, false, eqb, List, [], ◌∷◌, ◌++◌, length, Option, Some, None, refl, sym, ap, subst, ◌∙◌, inl, inr, arith, rules, tests}
use Rattle.std.specs.Prelude.{map, decimal, codes}
use Rattle.std.specs.List.{AllByRecursion}
use Rattle.std.specs.Char.{is_ascii_digit}
use Rattle.std.specs.Str.{bytes_eq, all_ascii_digits}
use Rattle.std.proofs.lemmas.Bool.{cases_Bool, eqb-true, and_parts}
use Rattle.std.proofs.lemmas.List.{append-nil}
use Rattle.std.proofs.lemmas.Fmt.{decimal_is_IsNumeral, digits_decimal}
use Rattle.slot_space.specs.declared.names.Tid.{Tid}
use Rattle.rv_step.specs.declared.hart.FaultKind.{FaultKind}
use Rattle.rv_step.specs.declared.hart.FaultKind.TheVariants as kinds
use Rattle.rv_step.specs.declared.hart.Stop.{Stop}
use Rattle.rv_step.specs.declared.hart.Stop.TheVariants as stops
use Rattle.marcel_core.specs.declared.end.End.TheVariants as ends
use Rattle.run_trace.specs.declared.entry.Act.{Act}
use Rattle.run_trace.specs.declared.entry.Act.TheVariants as acts
use Rattle.run_trace.specs.declared.entry.Entry.{Entry}
use Rattle.run_trace.specs.declared.label.Label.{Label}
use Rattle.run_trace.specs.declared.label.Label.TheVariants.{Born, Ran, Asked, Heard, Judged, Told, Took, Gave, Ended, Known, Left, Came, Lent, InHand, Decided, Returned, Home, Down, Burst, Gathered, Shown, Halted, Dropped}
use Rattle.run_trace.specs.declared.label.Why.TheVariants as whys
use Rattle.run_trace.specs.declared.label.Extra.TheVariants as extras
use Rattle.trace_text.specs.declared.lines.Line.TheVariants.{Head, Said}
use Rattle.trace_text.specs.Calls.{CallRow, calls, numbered, call_numbered}
use Rattle.trace_text.specs.Words.{bytes_text, kind_text, stop_text, first_text, act_words}
use Rattle.trace_text.specs.Lines.{head_words, said_words, asked_words, label_words}
use Rattle.trace_text.specs.Fits.{AreBytes, AreLong, FitsAct, FitsFirst, FitsSaid, FitsAsked, Fits, FitsHead}
use Rattle.trace_text.specs.Reading.{number_at, kind_at, stop_at, first_at, extra_at, longs, said, asked_of, headed, one, act, why, end, extra}
use Rattle.trace_text.specs.Texts.{line_in}
use Rattle.trace_text.proofs.OneWord.{own, some, number_again, tid_again, slots_again, bytes_again, reply_again, not_none}
use Rattle.trace_text.proofs.Sound.{IsKnown, all_known}

n64 : (n : ℕ) → n < 2 ^ 64 → number_at 18446744073709551615 (decimal n) ≡ Some n
n64 n h = number_again 18446744073709551615 n (omega (arith, h)) (omega arith)

n32 : (n : ℕ) → n < 2 ^ 32 → number_at 4294967295 (decimal n) ≡ Some n
n32 n h = number_again 4294967295 n (omega (arith, h)) (omega arith)

n16 : (n : ℕ) → n < 2 ^ 16 → number_at 65535 (decimal n) ≡ Some n
n16 n h = number_again 65535 n (omega (arith, h)) (omega arith)

n8 : (n : ℕ) → n < 2 ^ 8 → number_at 255 (decimal n) ≡ Some n
n8 n h = number_again 255 n (omega (arith, h)) (omega arith)

kind_again : (k : FaultKind) → kind_at (kind_text k) ≡ Some k
unfolding kind_at
kind_again kinds.Illegal = refl
kind_again kinds.Break = refl
kind_again kinds.Misaligned = refl
kind_again kinds.Fetch = refl
kind_again kinds.Load = refl
kind_again kinds.Store = refl

not_exit : (k : FaultKind) → bytes_eq (kind_text k) (codes "exit") ≡ false
not_exit kinds.Illegal = refl
not_exit kinds.Break = refl
not_exit kinds.Misaligned = refl
not_exit kinds.Fetch = refl
not_exit kinds.Load = refl
not_exit kinds.Store = refl

fault_again : (k : FaultKind) → stop_at (kind_text k) ≡ Some (stops.Fault k)
unfolding stop_at kind_at
fault_again kinds.Illegal = refl
fault_again kinds.Break = refl
fault_again kinds.Misaligned = refl
fault_again kinds.Fetch = refl
fault_again kinds.Load = refl
fault_again kinds.Store = refl

stop_again : (s : Stop) → stop_at (stop_text s) ≡ Some s
unfolding stop_at
stop_again stops.Quantum = refl
stop_again stops.Call = refl
stop_again (stops.Fault k) = fault_again k

first_again : (f : Option ℕ) → FitsFirst f → first_at (first_text f) ≡ Some f
unfolding first_at
first_again None h = refl
first_again (Some n) h =
    let short : n < 2 ^ 64 = omega (arith, h) in
    let number : bytes_eq (decimal n) (codes "-") ≡ false = ap (λ (v : List ℕ). bytes_eq v (codes "-")) (sym (append-nil (decimal n))) ∙ not_none (decimal n) [] (decimal_is_IsNumeral n short).0.0 (digits_decimal own n short) in
    rw (number, n16 n h) refl

-- a number doesn't begin as bytes
second_is : (n : ℕ) (w : List ℕ) → w ≡ decimal n → n < 2 ^ 64 → extra_at w ≡ Some (extras.Second n)
unfolding extra_at
second_is n [] e lt = absurd (omega (arith, (decimal_is_IsNumeral n lt).0.0, ap length e))
second_is n (c ∷ w) e lt =
    let digits : all_ascii_digits (c ∷ w) ≡ true = ap all_ascii_digits e ∙ digits_decimal own n lt in
    let p = and_parts (is_ascii_digit c) (all_ascii_digits w) digits in
    let ne : eqb c 120 ≡ false = search (rules, tests, p.0) in
    let read : number_at 18446744073709551615 (c ∷ w) ≡ Some n = ap (number_at 18446744073709551615) e ∙ n64 n lt in
    rw (ne, read) refl

result_is : (bs : List ℕ) → AreBytes bs → extra_at (120 ∷ bytes_text bs) ≡ Some (extras.Bytes bs)
unfolding extra_at
result_is bs h = rw (bytes_again bs h) refl

longs_again : (xs : List ℕ) (n : ℕ) (rest : List (List ℕ)) → length xs ≡ n → AreLong xs → longs n (map decimal xs ++ rest) ≡ Some (xs, rest)
unfolding one
longs_again [] zero rest e h = refl
longs_again [] (suc n) rest e h = absurd (omega (arith, e))
longs_again (x ∷ xs) zero rest e h = absurd (omega (arith, e))
longs_again (x ∷ xs) (suc n) rest e h = rw (n64 x h.0, longs_again xs n rest (omega (arith, e)) h.1) refl

said_again : (says : Bool) (bytes : List ℕ) → FitsSaid says bytes → said says (said_words says bytes) ≡ Some (bytes, [])
unfolding one
said_again false bytes h = rw h refl
said_again true bytes h = rw (bytes_again bytes h) refl

pub numbered_known : (rs : List CallRow) (n : ℕ) (r : CallRow) → AllByRecursion IsKnown rs → numbered rs n ≡ Some r → IsKnown r × (r.number ≡ n)
numbered_known [] n r all e = absurd cc
numbered_known (s ∷ rs) n r all e =
    elim (cases_Bool (eqb s.number n)) [
      | inl is ↦
          let now : some s ≡ some r = rw is at e in
          let same : s ≡ r = cc in
          subst (λ (x : CallRow). IsKnown x × (x.number ≡ n)) same (all.0, eqb-true s.number n is)
      | inr isnt ↦ let now : numbered rs n ≡ Some r = rw isnt at e in numbered_known rs n r all.1 now
    ]

asked_again : (t : Tid) (call : ℕ) (args bytes : List ℕ) (o : Option CallRow) → call_numbered call ≡ o → FitsAsked o call args bytes → asked_of t (asked_words o call args bytes) ≡ Some (Asked t call args bytes, [])
unfolding one
asked_again t call args bytes None e h = rw (h.1, h.2, n64 call h.0, e) refl
asked_again t call args bytes (Some r) e h =
    let known = numbered_known calls call r all_known e in
    rw (known.0.2, known.0.1, longs_again args r.arguments (said_words r.says bytes) h.0 h.1, said_again r.says bytes h.2, known.1) refl

-- ---- a label's line

pub label_again : (l : Label) → Fits l → line_in (label_words l) ≡ Some (Said l)
unfolding one why end extra
label_again (Born t whys.Main entry a0 a1 sp slot) f = rw (tid_again t f.0, n64 entry f.2, n64 a0 f.3, n64 a1 f.4, n64 sp f.5, n16 slot f.6) refl
label_again (Born t (whys.Create by) entry a0 a1 sp slot) f = rw (tid_again t f.0, tid_again by f.1, n64 entry f.2, n64 a0 f.3, n64 a1 f.4, n64 sp f.5, n16 slot f.6) refl
label_again (Born t (whys.Inside by bubble) entry a0 a1 sp slot) f = rw (tid_again t f.0, tid_again by f.1.0, n32 bubble f.1.1, n64 entry f.2, n64 a0 f.3, n64 a1 f.4, n64 sp f.5, n16 slot f.6) refl
label_again (Born t (whys.Service by count) entry a0 a1 sp slot) f = rw (tid_again t f.0, tid_again by f.1.0, n32 count f.1.1, n64 entry f.2, n64 a0 f.3, n64 a1 f.4, n64 sp f.5, n16 slot f.6) refl
label_again (Ran t vp count stop) f = rw (tid_again t f.0, n8 vp f.1, n32 count f.2, stop_again stop) refl
label_again (Asked t call args bytes) f = rw (tid_again t f.0, asked_again t call args bytes (call_numbered call) refl f.1) refl
label_again (Judged t reply extras.Nothing) f = rw (tid_again t f.0, reply_again reply f.1) refl
label_again (Judged t reply (extras.Second second)) f = rw (tid_again t f.0, reply_again reply f.1, second_is second (decimal second) refl f.2) refl
label_again (Judged t reply (extras.Bytes bytes)) f = rw (tid_again t f.0, reply_again reply f.1, result_is bytes f.2) refl
label_again (Took t first count) f = rw (tid_again t f.0, n16 first f.1, n16 count f.2) refl
label_again (Gave t slots) f = rw (tid_again t f.0, slots_again slots f.1) refl
label_again (Ended t (ends.Exit value)) f = rw (tid_again t f.0, n64 value f.1) refl
label_again (Ended t (ends.Fault kind pc)) f = rw (tid_again t f.0, not_exit kind, kind_again kind, n64 pc f.1) refl
label_again (Left t to) f = rw (tid_again t f.0, n8 to f.1) refl
label_again (Lent to slots) f = rw (n8 to f.0, slots_again slots f.1) refl
label_again (InHand lender slots) f = rw (n8 lender f.0, slots_again slots f.1) refl
label_again (Decided t count first) f = rw (tid_again t f.0, n16 count f.1, first_again first f.2) refl
label_again (Returned to slots) f = rw (n8 to f.0, slots_again slots f.1) refl
label_again (Home slots) f = rw (slots_again slots f) refl
label_again (Down bubble list) f = rw (n32 bubble f.0, n8 list f.1) refl
label_again (Burst bubble list) f = rw (n32 bubble f.0, n8 list f.1) refl
label_again (Gathered bubble count) f = rw (n32 bubble f.0, n32 count f.1) refl
label_again (Dropped t count reply) f = rw (tid_again t f.0, n32 count f.1, reply_again reply f.2) refl
label_again (Heard t) f = rw (tid_again t f) refl
label_again (Told t) f = rw (tid_again t f) refl
label_again (Known t) f = rw (tid_again t f) refl
label_again (Came t) f = rw (tid_again t f) refl
label_again (Shown t) f = rw (tid_again t f) refl
label_again (Halted t) f = rw (tid_again t f) refl

-- ---- a head's line

act_again : (stamp node round : ℕ) (a : Act) → (stamp < 2 ^ 64) × (node < 2 ^ 8) × (round < 2 ^ 64) × FitsAct a → line_in (codes "@" ∷ decimal stamp ∷ decimal node ∷ decimal round ∷ act_words a) ≡ Some (Head (headed stamp node round a))
unfolding one act
act_again stamp node round acts.Boot f = rw (n64 stamp f.0, n8 node f.1, n64 round f.2) refl
act_again stamp node round (acts.Run vp quantum) f = rw (n64 stamp f.0, n8 node f.1, n64 round f.2, n8 vp f.3.0, n32 quantum f.3.1) refl
act_again stamp node round (acts.Take from) f = rw (n64 stamp f.0, n8 node f.1, n64 round f.2, n8 from f.3) refl
act_again stamp node round (acts.Move t to) f = rw (n64 stamp f.0, n8 node f.1, n64 round f.2, tid_again t f.3.0, n8 to f.3.1) refl

pub head_again : (x : Entry) → FitsHead x → line_in (head_words x) ≡ Some (Head (headed x.stamp x.node x.round x.act))
head_again x f = act_again x.stamp x.node x.round x.act f
