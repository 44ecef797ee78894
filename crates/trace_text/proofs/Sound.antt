-- What is read as a label or as a head fits, and is written as the line that was read.
use Rattle.std.proofs.Common.{◌≡◌, ℕ, zero, suc, ◌^◌, ◌<◌, Bool, true, false, cond, eqb, List, [], ◌∷◌, ◌++◌, length, Option, Some, None, refl, sym, ap, subst, ◌∙◌, inl, inr, append_assoc, arith}
use Rattle.std.specs.Prelude.{map, decimal, codes}
use Rattle.std.specs.List.{AllByRecursion}
use Rattle.std.specs.Str.{bytes_eq}
use Rattle.std.proofs.lemmas.Bool.{cases_Bool, eqb-true}
use Rattle.std.proofs.lemmas.Slice.Eq.{bytes_eq-Decides}
use Rattle.slot_space.specs.declared.names.Tid.{Tid}
use Rattle.rv_step.specs.declared.hart.FaultKind.{FaultKind}
use Rattle.rv_step.specs.declared.hart.FaultKind.TheVariants as kinds
use Rattle.rv_step.specs.declared.hart.Stop.{Stop}
use Rattle.rv_step.specs.declared.hart.Stop.TheVariants as stops
use Rattle.marcel_core.specs.declared.end.End.{End}
use Rattle.marcel_core.specs.declared.end.End.TheVariants as ends
use Rattle.run_trace.specs.declared.entry.Act.TheVariants as acts
use Rattle.run_trace.specs.declared.entry.Entry.{Entry}
use Rattle.run_trace.specs.declared.label.Label.{Label}
use Rattle.run_trace.specs.declared.label.Label.TheVariants.{Born, Ran, Asked, Heard, Judged, Told, Took, Gave, Ended, Known, Left, Came, Lent, InHand, Decided, Returned, Home, Down, Burst, Gathered, Shown, Halted, Dropped}
use Rattle.run_trace.specs.declared.label.Why.{Why}
use Rattle.run_trace.specs.declared.label.Why.TheVariants as whys
use Rattle.run_trace.specs.declared.label.Extra.{Extra}
use Rattle.run_trace.specs.declared.label.Extra.TheVariants as extras
use Rattle.trace_text.specs.Calls.{CallRow, calls, named, call_named, call_numbered}
use Rattle.trace_text.specs.Words.{tid_text, slots_text, bytes_text, reply_text, kind_text, stop_text, first_text, act_words, why_words, end_words, extra_words}
use Rattle.trace_text.specs.Lines.{head_words, said_words, asked_words, label_words}
use Rattle.trace_text.specs.Fits.{FitsTid, FitsSlots, AreBytes, AreLong, FitsAct, FitsWhy, FitsEnd, FitsExtra, FitsFirst, FitsSaid, FitsAsked, Fits, FitsHead}
use Rattle.trace_text.specs.Reading.{◌>>=◌, number_at, tid_at, slots_at, bytes_at, reply_at, kind_at, stop_at, first_at, extra_at, Reader, after, gives, one, choose, pick, long, word, short, small, tid, slots, reply, stop, act, act_forms, why, why_forms, end, extra, longs, said, unknown, unknown_by, asked_by, asked_of, list_forms, lent_forms, bubble_forms, thread_forms, plain_forms, plain_named, label_named, head, headed}
use Rattle.trace_text.proofs.OneWord.{plain, some, some_is, bind_some, only_some, number_sound, tid_sound, slots_sound, bytes_sound, reply_sound}

-- What this reader gives behind the words of `pre` fits, and these words with all that it read are those of what it gives.
pub record Leads {X : Type 0} (F : X → Type 0) (words : X → List (List ℕ)) (pre : List (List ℕ)) (read : Reader X) : Type 0 where
  pub sound : (ws : List (List ℕ)) (x : X) (rest : List (List ℕ)) → read ws ≡ Some (x, rest) → F x × (words x ++ rest ≡ pre ++ ws)

after_leads : {A X : Type 0} {F : X → Type 0} {words : X → List (List ℕ)} (FA : A → Type 0) (of : A → List (List ℕ)) (read : Reader A) → Leads FA of [] read → {pre : List (List ℕ)} (next : A → Reader X) → ((a : A) → FA a → Leads F words (pre ++ of a) (next a)) → Leads F words pre (after read next)
after_leads FA of read first {pre} next then_leads = record {
  sound = λ ws x rest e.
      let p = bind_some (read ws) (λ (p : _ × List (List ℕ)). next p.0 p.1) (x, rest) e in
      let s = first.sound ws p.0.0 p.0.1 p.1 in
      let t = (then_leads p.0.0 s.0).sound p.0.1 x rest p.2 in
      (t.0, t.1 ∙ append_assoc pre (of p.0.0) p.0.1 ∙ ap (λ (ys : List (List ℕ)). pre ++ ys) s.1);
}

abbrev pair : {X Y : Type 0} → X → Y → X × Y
pair a b = (a, b)

pair_is : {X Y : Type 0} (a x : X) (b y : Y) → some (pair a b) ≡ some (pair x y) → (a ≡ x) × (b ≡ y)
pair_is {X} {Y} a x b y e = let p = some_is (pair a b) (pair x y) e in (ap (λ (z : X × Y). z.0) p, ap (λ (z : X × Y). z.1) p)

gives_leads : {X : Type 0} {F : X → Type 0} {words : X → List (List ℕ)} {pre : List (List ℕ)} (x : X) → F x → words x ≡ pre → Leads F words pre (gives x)
gives_leads {X} {F} {words} {pre} x fits same = record {
  sound = λ ws y rest e.
      let p = pair_is x y ws rest e in
      (subst F p.0 fits, ap (λ (z : X). words z ++ rest) (sym p.0) ∙ ap (λ (ys : List (List ℕ)). ys ++ rest) same ∙ ap (λ (ys : List (List ℕ)). pre ++ ys) (sym p.1));
}

one_sound : {X : Type 0} (F : X → Type 0) (text : X → List ℕ) (at : List ℕ → Option X) → ((w : List ℕ) (x : X) → at w ≡ Some x → F x × (text x ≡ w)) → (ws : List (List ℕ)) (x : X) (rest : List (List ℕ)) → one at ws ≡ Some (x, rest) → F x × (text x ∷ rest ≡ ws)
unfolding one
one_sound F text at sound [] x rest e = absurd cc
one_sound F text at sound (w ∷ ws) x rest e =
    let y = bind_some (at w) (λ y. some (pair y ws)) (x, rest) e in
    let p = pair_is y.0 x ws rest y.2 in
    let s = sound w y.0 y.1 in
    (subst F p.0 s.0, ap (λ z. text z ∷ rest) (sym p.0) ∙ ap (λ (t : List ℕ). t ∷ rest) s.1 ∙ ap (λ (ys : List (List ℕ)). w ∷ ys) (sym p.1))

one_leads : {X : Type 0} (F : X → Type 0) (text : X → List ℕ) (at : List ℕ → Option X) → ((w : List ℕ) (x : X) → at w ≡ Some x → F x × (text x ≡ w)) → Leads F (λ x. text x ∷ []) [] (one at)
one_leads {X} F text at sound = record { sound = λ ws x rest e. one_sound F text at sound ws x rest e }

-- ---- one word

long_leads : Leads (λ n. n < 2 ^ 64) (λ n. decimal n ∷ []) [] long
long_leads = one_leads (λ n. n < 2 ^ 64) decimal (number_at 18446744073709551615) (λ w n e. let s = number_sound 18446744073709551615 w n (omega arith) e in (omega (arith, s.0), s.1))

word_leads : Leads (λ n. n < 2 ^ 32) (λ n. decimal n ∷ []) [] word
word_leads = one_leads (λ n. n < 2 ^ 32) decimal (number_at 4294967295) (λ w n e. let s = number_sound 4294967295 w n (omega arith) e in (omega (arith, s.0), s.1))

short_leads : Leads (λ n. n < 2 ^ 16) (λ n. decimal n ∷ []) [] short
short_leads = one_leads (λ n. n < 2 ^ 16) decimal (number_at 65535) (λ w n e. let s = number_sound 65535 w n (omega arith) e in (omega (arith, s.0), s.1))

small_leads : Leads (λ n. n < 2 ^ 8) (λ n. decimal n ∷ []) [] small
small_leads = one_leads (λ n. n < 2 ^ 8) decimal (number_at 255) (λ w n e. let s = number_sound 255 w n (omega arith) e in (omega (arith, s.0), s.1))

tid_leads : Leads FitsTid (λ t. tid_text t ∷ []) [] tid
tid_leads = one_leads FitsTid tid_text tid_at tid_sound

slots_leads : Leads FitsSlots (λ ns. slots_text ns ∷ []) [] slots
slots_leads = one_leads FitsSlots slots_text slots_at slots_sound

reply_leads : Leads (λ n. n < 2 ^ 64) (λ n. reply_text n ∷ []) [] reply
reply_leads = one_leads (λ n. n < 2 ^ 64) reply_text reply_at reply_sound

-- this word, or another one
word_case : {X : Type 0} (P : X → Type 0) (x y : X) (w name : List ℕ) (rest : Option X) → (w ≡ name → P x) → (rest ≡ Some y → P y) → cond (bytes_eq w name) (Some x) rest ≡ Some y → P y
word_case P x y w name rest here there e =
    elim (cases_Bool (bytes_eq w name)) [
      | inl is ↦ let now : some x ≡ some y = rw is at e in subst P (some_is x y now) (here ((bytes_eq-Decides w name).0 is))
      | inr isnt ↦ let now : rest ≡ Some y = rw isnt at e in there now
    ]

kind_sound : (w : List ℕ) (k : FaultKind) → kind_at w ≡ Some k → kind_text k ≡ w
unfolding kind_at
kind_sound w k e =
    let P : FaultKind → Type 0 = λ x. kind_text x ≡ w in
    word_case P kinds.Illegal k w (codes "illegal") _ sym (λ e. word_case P kinds.Break k w (codes "break") _ sym (λ e. word_case P kinds.Misaligned k w (codes "misaligned") _ sym (λ e. word_case P kinds.Fetch k w (codes "fetch") _ sym (λ e. word_case P kinds.Load k w (codes "load") _ sym (λ e.
    let p = only_some (bytes_eq w (codes "store")) kinds.Store k e in
    subst P p.1 (sym ((bytes_eq-Decides w (codes "store")).0 p.0))) e) e) e) e) e

stop_sound : (w : List ℕ) (s : Stop) → stop_at w ≡ Some s → Unit {0} × (stop_text s ≡ w)
unfolding stop_at
stop_sound w s e =
    let P : Stop → Type 0 = λ x. Unit {0} × (stop_text x ≡ w) in
    word_case P stops.Quantum s w (codes "quantum") _ (λ h. (tt, sym h)) (λ e. word_case P stops.Call s w (codes "call") _ (λ h. (tt, sym h)) (λ e.
    let k = bind_some (kind_at w) (λ (k : FaultKind). some (stops.Fault k)) s e in
    let here : P (stops.Fault k.0) = (tt, kind_sound w k.0 k.1) in
    subst P (some_is (stops.Fault k.0) s k.2) here) e) e

stop_leads : Leads (λ s. Unit {0}) (λ s. stop_text s ∷ []) [] stop
stop_leads = one_leads (λ s. Unit {0}) stop_text stop_at stop_sound

first_sound : (w : List ℕ) (f : Option ℕ) → first_at w ≡ Some f → FitsFirst f × (first_text f ≡ w)
unfolding first_at
first_sound w f e =
    let P : Option ℕ → Type 0 = λ x. FitsFirst x × (first_text x ≡ w) in
    word_case P None f w (codes "-") _ (λ h. (tt, sym h)) (λ e.
    let n = bind_some (number_at 65535 w) (λ (n : ℕ). some (some n)) f e in
    let s = number_sound 65535 w n.0 (omega arith) n.1 in
    let here : P (Some n.0) = (omega (arith, s.0), s.1) in
    subst P (some_is (Some n.0) f n.2) here) e

first_leads : Leads FitsFirst (λ f. first_text f ∷ []) [] (one first_at)
first_leads = one_leads FitsFirst first_text first_at first_sound

-- ---- by the word in front

abbrev AllLead : {X : Type 0} → (X → Type 0) → (X → List (List ℕ)) → List (List ℕ) → List (List ℕ × Reader X) → Type 0
AllLead F words pre forms = AllByRecursion (λ form. Leads F words (pre ++ form.0 ∷ []) form.1) forms

choose_sound : {X : Type 0} (F : X → Type 0) (words : X → List (List ℕ)) (forms : List (List ℕ × Reader X)) (otherwise : Option (X × List (List ℕ))) (w : List ℕ) (ws : List (List ℕ)) (x : X) (rest : List (List ℕ)) → AllLead F words [] forms → (otherwise ≡ Some (x, rest) → F x × (words x ++ rest ≡ w ∷ ws)) → choose forms otherwise w ws ≡ Some (x, rest) → F x × (words x ++ rest ≡ w ∷ ws)
choose_sound F words [] otherwise w ws x rest all other e = other e
choose_sound F words (form ∷ forms) otherwise w ws x rest all other e =
    elim (cases_Bool (bytes_eq w form.0)) [
      | inl is ↦
          let now : form.1 ws ≡ Some (x, rest) = rw is at e in
          let s = all.0.sound ws x rest now in
          (s.0, s.1 ∙ ap (λ (v : List ℕ). v ∷ ws) (sym ((bytes_eq-Decides w form.0).0 is)))
      | inr isnt ↦
          let now : choose forms otherwise w ws ≡ Some (x, rest) = rw isnt at e in
          choose_sound F words forms otherwise w ws x rest all.1 other now
    ]

nothing : {X P : Type 0} (x : X) (rest : List (List ℕ)) → None ≡ some (pair x rest) → P
nothing x rest e = absurd cc

pick_sound : {X : Type 0} (F : X → Type 0) (words : X → List (List ℕ)) (forms : List (List ℕ × Reader X)) → AllLead F words [] forms → (ws : List (List ℕ)) (x : X) (rest : List (List ℕ)) → pick forms ws ≡ Some (x, rest) → F x × (words x ++ rest ≡ ws)
pick_sound F words forms all [] x rest e = absurd cc
pick_sound F words forms all (w ∷ ws) x rest e = choose_sound F words forms None w ws x rest all (λ no. nothing x rest no) e

pick_leads : {X : Type 0} (F : X → Type 0) (words : X → List (List ℕ)) (forms : List (List ℕ × Reader X)) → AllLead F words [] forms → Leads F words [] (pick forms)
pick_leads F words forms all = record { sound = λ ws x rest e. pick_sound F words forms all ws x rest e }

by_tid : {X : Type 0} {F : X → Type 0} {words : X → List (List ℕ)} {pre : List (List ℕ)} (next : Tid → Reader X) → ((t : Tid) → FitsTid t → Leads F words (pre ++ tid_text t ∷ []) (next t)) → Leads F words pre (after tid next)
by_tid next h = after_leads FitsTid (λ t. tid_text t ∷ []) tid tid_leads next h

by_long : {X : Type 0} {F : X → Type 0} {words : X → List (List ℕ)} {pre : List (List ℕ)} (next : ℕ → Reader X) → ((n : ℕ) → n < 2 ^ 64 → Leads F words (pre ++ decimal n ∷ []) (next n)) → Leads F words pre (after long next)
by_long next h = after_leads (λ n. n < 2 ^ 64) (λ n. decimal n ∷ []) long long_leads next h

by_word : {X : Type 0} {F : X → Type 0} {words : X → List (List ℕ)} {pre : List (List ℕ)} (next : ℕ → Reader X) → ((n : ℕ) → n < 2 ^ 32 → Leads F words (pre ++ decimal n ∷ []) (next n)) → Leads F words pre (after word next)
by_word next h = after_leads (λ n. n < 2 ^ 32) (λ n. decimal n ∷ []) word word_leads next h

by_short : {X : Type 0} {F : X → Type 0} {words : X → List (List ℕ)} {pre : List (List ℕ)} (next : ℕ → Reader X) → ((n : ℕ) → n < 2 ^ 16 → Leads F words (pre ++ decimal n ∷ []) (next n)) → Leads F words pre (after short next)
by_short next h = after_leads (λ n. n < 2 ^ 16) (λ n. decimal n ∷ []) short short_leads next h

by_small : {X : Type 0} {F : X → Type 0} {words : X → List (List ℕ)} {pre : List (List ℕ)} (next : ℕ → Reader X) → ((n : ℕ) → n < 2 ^ 8 → Leads F words (pre ++ decimal n ∷ []) (next n)) → Leads F words pre (after small next)
by_small next h = after_leads (λ n. n < 2 ^ 8) (λ n. decimal n ∷ []) small small_leads next h

by_slots : {X : Type 0} {F : X → Type 0} {words : X → List (List ℕ)} {pre : List (List ℕ)} (next : List ℕ → Reader X) → ((ns : List ℕ) → FitsSlots ns → Leads F words (pre ++ slots_text ns ∷ []) (next ns)) → Leads F words pre (after slots next)
by_slots next h = after_leads FitsSlots (λ ns. slots_text ns ∷ []) slots slots_leads next h

by_reply : {X : Type 0} {F : X → Type 0} {words : X → List (List ℕ)} {pre : List (List ℕ)} (next : ℕ → Reader X) → ((n : ℕ) → n < 2 ^ 64 → Leads F words (pre ++ reply_text n ∷ []) (next n)) → Leads F words pre (after reply next)
by_reply next h = after_leads (λ n. n < 2 ^ 64) (λ n. reply_text n ∷ []) reply reply_leads next h

-- ---- acts, whys, ends and extras

act_leads : Leads FitsAct act_words [] act
unfolding act
act_leads = pick_leads FitsAct act_words act_forms (
  gives_leads acts.Boot tt refl,
  (
    by_small _ (λ vp p. by_word _ (λ quantum q. gives_leads (acts.Run vp quantum) (p, q) refl)),
    (
      by_small _ (λ from p. gives_leads (acts.Take from) p refl),
      (
        by_tid _ (λ t p. by_small _ (λ to q. gives_leads (acts.Move t to) (p, q) refl)),
        tt,
      ),
    ),
  ),
)

why_leads : Leads FitsWhy why_words [] why
unfolding why
why_leads = pick_leads FitsWhy why_words why_forms (
  gives_leads whys.Main tt refl,
  (
    by_tid _ (λ by p. gives_leads (whys.Create by) p refl),
    (
      by_tid _ (λ by p. by_word _ (λ bubble q. gives_leads (whys.Inside by bubble) (p, q) refl)),
      (
        by_tid _ (λ by p. by_word _ (λ count q. gives_leads (whys.Service by count) (p, q) refl)),
        tt,
      ),
    ),
  ),
)

exit_leads : Leads FitsEnd end_words (codes "exit" ∷ []) (after long (λ value. gives (ends.Exit value)))
exit_leads = by_long _ (λ value p. gives_leads (ends.Exit value) p refl)

fault_leads : (k : FaultKind) → Leads FitsEnd end_words (kind_text k ∷ []) (after long (λ pc. gives (ends.Fault k pc)))
fault_leads k = by_long _ (λ pc p. gives_leads (ends.Fault k pc) p refl)

end_sound : (ws : List (List ℕ)) (x : End) (rest : List (List ℕ)) → end ws ≡ Some (x, rest) → FitsEnd x × (end_words x ++ rest ≡ ws)
unfolding end
end_sound [] x rest e = absurd cc
end_sound (w ∷ ws) x rest e =
    elim (cases_Bool (bytes_eq w (codes "exit"))) [
      | inl is ↦
          let now : after long (λ value. gives (ends.Exit value)) ws ≡ Some (x, rest) = rw is at e in
          let s = exit_leads.sound ws x rest now in
          (s.0, s.1 ∙ ap (λ (v : List ℕ). v ∷ ws) (sym ((bytes_eq-Decides w (codes "exit")).0 is)))
      | inr isnt ↦
          let now : (kind_at w >>= λ (k : FaultKind). after long (λ pc. gives (ends.Fault k pc)) ws) ≡ Some (x, rest) = rw isnt at e in
          let k = bind_some (kind_at w) (λ (k : FaultKind). after long (λ pc. gives (ends.Fault k pc)) ws) (x, rest) now in
          let s = (fault_leads k.0).sound ws x rest k.2 in
          (s.0, s.1 ∙ ap (λ (v : List ℕ). v ∷ ws) (kind_sound w k.0 k.1))
    ]

end_leads : Leads FitsEnd end_words [] end
end_leads = record { sound = end_sound }

extra_at_sound : (w : List ℕ) (x : Extra) → extra_at w ≡ Some x → FitsExtra x × (extra_words x ≡ w ∷ [])
unfolding extra_at
extra_at_sound [] x e = absurd cc
extra_at_sound (c ∷ w) x e =
    let P : Extra → Type 0 = λ x. FitsExtra x × (extra_words x ≡ (c ∷ w) ∷ []) in
    elim (cases_Bool (eqb c 120)) [
      | inl is ↦
          let now : (bytes_at w >>= λ (bs : List ℕ). some (extras.Bytes bs)) ≡ Some x = rw is at e in
          let bs = bind_some (bytes_at w) (λ (bs : List ℕ). some (extras.Bytes bs)) x now in
          let s = bytes_sound w bs.0 bs.1 in
          let sign : 120 ≡ c = sym (eqb-true c 120 is) in
          let text : (120 ∷ bytes_text bs.0) ∷ [] ≡ (c ∷ w) ∷ [] = ap (λ (v : List ℕ). (120 ∷ v) ∷ []) s.1 ∙ ap (λ (d : ℕ). (d ∷ w) ∷ []) sign in
          let here : P (extras.Bytes bs.0) = (s.0, text) in
          subst P (some_is (extras.Bytes bs.0) x bs.2) here
      | inr isnt ↦
          let now : (number_at 18446744073709551615 (c ∷ w) >>= λ (n : ℕ). some (extras.Second n)) ≡ Some x = rw isnt at e in
          let n = bind_some (number_at 18446744073709551615 (c ∷ w)) (λ (n : ℕ). some (extras.Second n)) x now in
          let s = number_sound 18446744073709551615 (c ∷ w) n.0 (omega arith) n.1 in
          let here : P (extras.Second n.0) = (omega (arith, s.0), ap (λ (v : List ℕ). v ∷ []) s.1) in
          subst P (some_is (extras.Second n.0) x n.2) here
    ]

extra_sound : (ws : List (List ℕ)) (x : Extra) (rest : List (List ℕ)) → extra ws ≡ Some (x, rest) → FitsExtra x × (extra_words x ++ rest ≡ ws)
unfolding extra
extra_sound [] x rest e =
    let p = pair_is extras.Nothing x [] rest e in
    let here : FitsExtra extras.Nothing × (extra_words extras.Nothing ++ [] ≡ []) = (tt, refl) in
    subst (λ (x : Extra). FitsExtra x × (extra_words x ++ rest ≡ [])) p.0 (subst (λ (r : List (List ℕ)). FitsExtra extras.Nothing × (extra_words extras.Nothing ++ r ≡ [])) p.1 here)
extra_sound (w ∷ ws) x rest e =
    let y = bind_some (extra_at w) (λ (y : Extra). some (pair y ws)) (x, rest) e in
    let p = pair_is y.0 x ws rest y.2 in
    let s = extra_at_sound w y.0 y.1 in
    let here : FitsExtra y.0 × (extra_words y.0 ++ rest ≡ w ∷ ws) = (s.0, ap (λ (v : List (List ℕ)). v ++ rest) s.1 ∙ ap (λ (v : List (List ℕ)). w ∷ v) (sym p.1)) in
    subst (λ (x : Extra). FitsExtra x × (extra_words x ++ rest ≡ w ∷ ws)) p.0 here

extra_leads : Leads FitsExtra extra_words [] extra
extra_leads = record { sound = extra_sound }

-- ---- what a call asks

abbrev AreSoMany : ℕ → List ℕ → Type 0
AreSoMany n xs = (length xs ≡ n) × AreLong xs

longs_sound : (n : ℕ) (ws : List (List ℕ)) (xs : List ℕ) (rest : List (List ℕ)) → longs n ws ≡ Some (xs, rest) → AreSoMany n xs × (map decimal xs ++ rest ≡ ws)
longs_sound zero ws xs rest e =
    let p = pair_is [] xs ws rest e in
    let here : AreSoMany 0 [] × (map decimal [] ++ ws ≡ ws) = ((refl, tt), refl) in
    subst (λ (ys : List ℕ). AreSoMany 0 ys × (map decimal ys ++ rest ≡ ws)) p.0 (subst (λ (r : List (List ℕ)). AreSoMany 0 [] × (map decimal [] ++ r ≡ ws)) p.1 here)
longs_sound (suc n) ws xs rest e =
    let p = bind_some (long ws) (λ (p : ℕ × List (List ℕ)). longs n p.1 >>= λ (q : List ℕ × List (List ℕ)). some (pair (p.0 ∷ q.0) q.1)) (xs, rest) e in
    let q = bind_some (longs n p.0.1) (λ (q : List ℕ × List (List ℕ)). some (pair (p.0.0 ∷ q.0) q.1)) (xs, rest) p.2 in
    let first = long_leads.sound ws p.0.0 p.0.1 p.1 in
    let others = longs_sound n p.0.1 q.0.0 q.0.1 q.1 in
    let same = pair_is (p.0.0 ∷ q.0.0) xs q.0.1 rest q.2 in
    let count : length (p.0.0 ∷ q.0.0) ≡ suc n = omega (arith, others.0.0) in
    let text : map decimal (p.0.0 ∷ q.0.0) ++ q.0.1 ≡ ws = ap (λ (v : List (List ℕ)). decimal p.0.0 ∷ v) others.1 ∙ first.1 in
    let here : AreSoMany (suc n) (p.0.0 ∷ q.0.0) × (map decimal (p.0.0 ∷ q.0.0) ++ q.0.1 ≡ ws) = ((count, (first.0, others.0.1)), text) in
    subst (λ (ys : List ℕ). AreSoMany (suc n) ys × (map decimal ys ++ rest ≡ ws)) same.0 (subst (λ (r : List (List ℕ)). AreSoMany (suc n) (p.0.0 ∷ q.0.0) × (map decimal (p.0.0 ∷ q.0.0) ++ r ≡ ws)) same.1 here)

longs_leads : (n : ℕ) → Leads (AreSoMany n) (map decimal) [] (longs n)
longs_leads n = record { sound = longs_sound n }

said_leads : (says : Bool) → Leads (FitsSaid says) (said_words says) [] (said says)
said_leads false = gives_leads [] refl refl
said_leads true = one_leads AreBytes bytes_text bytes_at bytes_sound

-- what the table says of each of its calls
abbrev pub IsKnown : CallRow → Type 0
IsKnown r = (call_numbered r.number ≡ Some r) × (call_named r.name ≡ Some r) × (bytes_eq r.name (codes "unknown") ≡ false) × (plain r.name ≡ true)

pub all_known : AllByRecursion IsKnown calls
unfolding calls
all_known = ((refl, refl, refl, refl), ((refl, refl, refl, refl), ((refl, refl, refl, refl), ((refl, refl, refl, refl), ((refl, refl, refl, refl), ((refl, refl, refl, refl), ((refl, refl, refl, refl), ((refl, refl, refl, refl), ((refl, refl, refl, refl), ((refl, refl, refl, refl), ((refl, refl, refl, refl), ((refl, refl, refl, refl), ((refl, refl, refl, refl), ((refl, refl, refl, refl), ((refl, refl, refl, refl), ((refl, refl, refl, refl), ((refl, refl, refl, refl), ((refl, refl, refl, refl), ((refl, refl, refl, refl), ((refl, refl, refl, refl), ((refl, refl, refl, refl), ((refl, refl, refl, refl), tt))))))))))))))))))))))

named_known : (rs : List CallRow) (w : List ℕ) (r : CallRow) → AllByRecursion IsKnown rs → named rs w ≡ Some r → IsKnown r × (w ≡ r.name)
named_known [] w r all e = absurd cc
named_known (s ∷ rs) w r all e =
    elim (cases_Bool (bytes_eq w s.name)) [
      | inl is ↦
          let now : some s ≡ some r = rw is at e in
          subst (λ (x : CallRow). IsKnown x × (w ≡ x.name)) (some_is s r now) (all.0, (bytes_eq-Decides w s.name).0 is)
      | inr isnt ↦ let now : named rs w ≡ Some r = rw isnt at e in named_known rs w r all.1 now
    ]

asked_by_leads : (t : Tid) → FitsTid t → (r : CallRow) → call_numbered r.number ≡ Some r → Leads Fits label_words (codes "asked" ∷ tid_text t ∷ r.name ∷ []) (asked_by t r)
asked_by_leads t fits r is =
    after_leads (AreSoMany r.arguments) (map decimal) (longs r.arguments) (longs_leads r.arguments) _ (λ args p.
    after_leads (FitsSaid r.says) (said_words r.says) (said r.says) (said_leads r.says) _ (λ bytes q.
    let told : FitsAsked (Some r) r.number args bytes = (p.0, p.1, q) in
    gives_leads (Asked t r.number args bytes) (fits, subst (λ (o : Option CallRow). FitsAsked o r.number args bytes) (sym is) told) (ap (λ (o : Option CallRow). codes "asked" ∷ tid_text t ∷ asked_words o r.number args bytes) is)))

unknown_leads : (t : Tid) → FitsTid t → (call : ℕ) → call < 2 ^ 64 → (o : Option CallRow) → call_numbered call ≡ o → Leads Fits label_words (codes "asked" ∷ tid_text t ∷ codes "unknown" ∷ decimal call ∷ []) (unknown_by t call o)
unknown_leads t fits call lt None is =
    let told : FitsAsked None call [] [] = (lt, refl, refl) in
    gives_leads (Asked t call [] []) (fits, subst (λ (o : Option CallRow). FitsAsked o call [] []) (sym is) told) (ap (λ (o : Option CallRow). codes "asked" ∷ tid_text t ∷ asked_words o call [] []) is)
unknown_leads t fits call lt (Some r) is = record { sound = λ ws x rest e. nothing x rest e }

asked_sound : (t : Tid) → FitsTid t → (ws : List (List ℕ)) (x : Label) (rest : List (List ℕ)) → asked_of t ws ≡ Some (x, rest) → Fits x × (label_words x ++ rest ≡ codes "asked" ∷ tid_text t ∷ ws)
asked_sound t fits [] x rest e = absurd cc
asked_sound t fits (w ∷ ws) x rest e =
    elim (cases_Bool (bytes_eq w (codes "unknown"))) [
      | inl is ↦
          let now : unknown t ws ≡ Some (x, rest) = rw is at e in
          let by : Leads Fits label_words (codes "asked" ∷ tid_text t ∷ codes "unknown" ∷ []) (unknown t) = by_long _ (λ call p. unknown_leads t fits call p (call_numbered call) refl) in
          let s = by.sound ws x rest now in
          (s.0, s.1 ∙ ap (λ (v : List ℕ). codes "asked" ∷ tid_text t ∷ v ∷ ws) (sym ((bytes_eq-Decides w (codes "unknown")).0 is)))
      | inr isnt ↦
          let now : (call_named w >>= λ (r : CallRow). asked_by t r ws) ≡ Some (x, rest) = rw isnt at e in
          let r = bind_some (call_named w) (λ (r : CallRow). asked_by t r ws) (x, rest) now in
          let known = named_known calls w r.0 all_known r.1 in
          let s = (asked_by_leads t fits r.0 known.0.0).sound ws x rest r.2 in
          (s.0, s.1 ∙ ap (λ (v : List ℕ). codes "asked" ∷ tid_text t ∷ v ∷ ws) (sym known.1))
    ]

asked_leads : (t : Tid) → FitsTid t → Leads Fits label_words (codes "asked" ∷ tid_text t ∷ []) (asked_of t)
asked_leads t fits = record { sound = asked_sound t fits }

-- ---- labels

born_words : (t : Tid) (w : Why) (entry a0 a1 sp slot : ℕ) → label_words (Born t w entry a0 a1 sp slot) ≡ ((((((codes "born" ∷ tid_text t ∷ []) ++ why_words w) ++ decimal entry ∷ []) ++ decimal a0 ∷ []) ++ decimal a1 ∷ []) ++ decimal sp ∷ []) ++ decimal slot ∷ []
born_words t whys.Main entry a0 a1 sp slot = refl
born_words t (whys.Create by) entry a0 a1 sp slot = refl
born_words t (whys.Inside by bubble) entry a0 a1 sp slot = refl
born_words t (whys.Service by count) entry a0 a1 sp slot = refl

list_leads : AllLead Fits label_words [] list_forms
list_leads = (
  by_tid _ asked_leads,
  (
    by_tid _ (λ t p. by_reply _ (λ code q. after_leads FitsExtra extra_words extra extra_leads _ (λ more f. gives_leads (Judged t code more) (p, q, f) refl))),
    (
      by_tid _ (λ t p. by_slots _ (λ ns f. gives_leads (Gave t ns) (p, f) refl)),
      (
        by_slots _ (λ ns f. gives_leads (Home ns) f refl),
        tt,
      ),
    ),
  ),
)

lent_leads : AllLead Fits label_words [] lent_forms
lent_leads = (
  by_small _ (λ to p. by_slots _ (λ ns f. gives_leads (Lent to ns) (p, f) refl)),
  (
    by_small _ (λ to p. by_slots _ (λ ns f. gives_leads (InHand to ns) (p, f) refl)),
    (
      by_small _ (λ to p. by_slots _ (λ ns f. gives_leads (Returned to ns) (p, f) refl)),
      tt,
    ),
  ),
)

bubble_leads : AllLead Fits label_words [] bubble_forms
bubble_leads = (
  by_word _ (λ bubble p. by_small _ (λ list q. gives_leads (Down bubble list) (p, q) refl)),
  (
    by_word _ (λ bubble p. by_small _ (λ list q. gives_leads (Burst bubble list) (p, q) refl)),
    (
      by_word _ (λ bubble p. by_word _ (λ count q. gives_leads (Gathered bubble count) (p, q) refl)),
      tt,
    ),
  ),
)

thread_leads : AllLead Fits label_words [] thread_forms
thread_leads = (
  by_tid _ (λ t p. gives_leads (Told t) p refl),
  (
    by_tid _ (λ t p. gives_leads (Shown t) p refl),
    (
      by_tid _ (λ t p. gives_leads (Heard t) p refl),
      (
        by_tid _ (λ t p. gives_leads (Known t) p refl),
        (
          by_tid _ (λ t p. gives_leads (Came t) p refl),
          (
            by_tid _ (λ t p. gives_leads (Halted t) p refl),
            tt,
          ),
        ),
      ),
    ),
  ),
)

plain_leads : AllLead Fits label_words [] plain_forms
plain_leads = (
  by_tid _ (λ t p. by_small _ (λ vp q. by_word _ (λ count r. after_leads (λ s. Unit {0}) (λ s. stop_text s ∷ []) stop stop_leads _ (λ s f. gives_leads (Ran t vp count s) (p, q, r) refl)))),
  (
    by_tid _ (λ t p. by_small _ (λ to q. gives_leads (Left t to) (p, q) refl)),
    (
      by_tid _ (λ t p. by_short _ (λ first q. by_short _ (λ count r. gives_leads (Took t first count) (p, q, r) refl))),
      (
        by_tid _ (λ t p. after_leads FitsEnd end_words end end_leads _ (λ x f. gives_leads (Ended t x) (p, f) refl)),
        (
          by_tid _ (λ t p. after_leads FitsWhy why_words why why_leads _ (λ w f. by_long _ (λ entry q. by_long _ (λ a0 r. by_long _ (λ a1 s. by_long _ (λ sp u. by_short _ (λ slot v. gives_leads (Born t w entry a0 a1 sp slot) (p, f, q, r, s, u, v) (born_words t w entry a0 a1 sp slot)))))))),
          (
            by_tid _ (λ t p. by_short _ (λ count q. after_leads FitsFirst (λ f. first_text f ∷ []) (one first_at) first_leads _ (λ first f. gives_leads (Decided t count first) (p, q, f) refl))),
            (
              by_tid _ (λ t p. by_word _ (λ count q. by_reply _ (λ code r. gives_leads (Dropped t count code) (p, q, r) refl))),
              tt,
            ),
          ),
        ),
      ),
    ),
  ),
)

bubble_sound : (w : List ℕ) (ws : List (List ℕ)) (x : Label) (rest : List (List ℕ)) → choose bubble_forms (choose thread_forms None w ws) w ws ≡ Some (x, rest) → Fits x × (label_words x ++ rest ≡ w ∷ ws)
bubble_sound w ws x rest e =
    choose_sound Fits label_words bubble_forms (choose thread_forms None w ws) w ws x rest bubble_leads (λ f. choose_sound Fits label_words thread_forms None w ws x rest thread_leads (λ no. nothing x rest no) f) e

plain_sound : (w : List ℕ) (ws : List (List ℕ)) (x : Label) (rest : List (List ℕ)) → plain_named w ws ≡ Some (x, rest) → Fits x × (label_words x ++ rest ≡ w ∷ ws)
plain_sound w ws x rest e = choose_sound Fits label_words plain_forms (choose bubble_forms (choose thread_forms None w ws) w ws) w ws x rest plain_leads (λ f. bubble_sound w ws x rest f) e

lent_sound : (w : List ℕ) (ws : List (List ℕ)) (x : Label) (rest : List (List ℕ)) → choose lent_forms (plain_named w ws) w ws ≡ Some (x, rest) → Fits x × (label_words x ++ rest ≡ w ∷ ws)
lent_sound w ws x rest e = choose_sound Fits label_words lent_forms (plain_named w ws) w ws x rest lent_leads (λ f. plain_sound w ws x rest f) e

-- a label that is read, and the words behind it
pub label_sound : (w : List ℕ) (ws : List (List ℕ)) (x : Label) (rest : List (List ℕ)) → label_named w ws ≡ Some (x, rest) → Fits x × (label_words x ++ rest ≡ w ∷ ws)
label_sound w ws x rest e = choose_sound Fits label_words list_forms (choose lent_forms (plain_named w ws) w ws) w ws x rest list_leads (λ f. lent_sound w ws x rest f) e

-- ---- heads

abbrev pub IsHead : Entry → Type 0
IsHead x = FitsHead x × (x.labels ≡ [])

head_leads : Leads IsHead head_words (codes "@" ∷ []) head
head_leads = by_long _ (λ stamp p. by_small _ (λ node q. by_long _ (λ round r. after_leads FitsAct act_words act act_leads _ (λ a f. gives_leads (headed stamp node round a) ((p, q, r, f), refl) refl))))

pub head_sound : (ws : List (List ℕ)) (x : Entry) (rest : List (List ℕ)) → head ws ≡ Some (x, rest) → IsHead x × (head_words x ++ rest ≡ codes "@" ∷ ws)
head_sound ws x rest e = head_leads.sound ws x rest e
