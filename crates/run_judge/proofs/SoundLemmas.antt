-- What has to be tested of an entry, what nodes' beginnings are, and what follows for a front of a trace.
use Rattle.std.proofs.Common.{◌≡◌, ◌↔◌, ℕ, zero, suc, ◌+◌, ◌-◌, ◌<◌, ◌≤◌, ◌⊎◌, inl, inr, List, [], ◌∷◌, ◌++◌, refl, sym, ap, ◌∙◌, subst, arith, length, get_or, take, drop, reverse, length-append, take-append-drop, length-take-le, take_all}
use Rattle.std.specs.Prelude.{Option, Some, None, MatchOption, IfSome}
use Rattle.std.proofs.lemmas.Bool.{cases_lt}
use Rattle.std.proofs.lemmas.List.{reverse-append, take_more, length-reverse}
use Rattle.run_trace.specs.declared.entry.Entry.{Entry}
use Rattle.run_trace.specs.Program.{Program, nodes_of}
use Rattle.run_trace.specs.declared.entry.Act.{Act}
use Rattle.run_trace.specs.declared.entry.Act.TheVariants.{Boot}
use Rattle.run_trace.specs.declared.label.Label.{Label}
use Rattle.run_trace.specs.Cluster.{Net, fresh_net, net_after}
use Rattle.run_trace.specs.Trace.{IsRun, Fits, net_after_trace, event_of}
use Rattle.run_trace.specs.Histories.{IsInOrder, IsEntryAbove}
use Rattle.run_trace.specs.Legality.{Legal, Begins, AreRising, NoneAbove, boot_entry, boot_entries, first_labels}
use Rattle.run_judge.specs.Judged.{IsSound, Follows, BeginsAt, AreBeginnings, IsFirstFault}

-- ## One entry more

above_all : (x y : Entry) (ys : List Entry) → (y.stamp < x.stamp) ⊎ ((y.stamp ≡ x.stamp) × (y.node < x.node)) → IsEntryAbove y ys → IsEntryAbove x ys
above_all x y [] h a = tt
above_all x y (z ∷ zs) h a = (step x y z h a.0, above_all x y zs h a.1)
  where
    step : (x y z : Entry) → (y.stamp < x.stamp) ⊎ ((y.stamp ≡ x.stamp) × (y.node < x.node)) → (z.stamp < y.stamp) ⊎ ((z.stamp ≡ y.stamp) × (z.node < y.node)) → (z.stamp < x.stamp) ⊎ ((z.stamp ≡ x.stamp) × (z.node < x.node))
    step x y z (inl l) (inl k) = inl (omega arith)
    step x y z (inl l) (inr k) = inl (omega (arith, k.0))
    step x y z (inr l) (inl k) = inl (omega (arith, l.0))
    step x y z (inr l) (inr k) = inr (k.0 ∙ l.0, omega (arith, l.1, k.1))

above_from : (x : Entry) (trace : List Entry) → Follows x trace → IsInOrder trace → IsEntryAbove x trace
above_from x [] f o = tt
above_from x (y ∷ ys) f o = (f.0, above_all x y ys f.0 o.0)

none_above : (m n : ℕ) (ys : List Entry) → m ≤ n → NoneAbove m ys → NoneAbove n ys
none_above m n [] h a = tt
none_above m n (z ∷ zs) h a = (omega (arith, a.0), none_above m n zs h a.1)

rounds_from : (x : Entry) (trace : List Entry) → Follows x trace → AreRising trace → NoneAbove x.round trace
rounds_from x [] f r = tt
rounds_from x (y ∷ ys) f r = (f.1, none_above y.round x.round ys f.1 r.0)

follows_from : (x : Entry) (trace : List Entry) → IsEntryAbove x trace → NoneAbove x.round trace → Follows x trace
follows_from x [] a r = tt
follows_from x (y ∷ ys) a r = (a.0, r.0)

abbrev pub Judges : Type 0
Judges = (p : Program) (base : Net) (x : Entry) (xs : List Entry) → IsRun p base (x ∷ xs) ↔ (IsRun p base xs × Fits p (net_after_trace p base xs) x)

pub none_sound : (p : Program) → IsSound p []
none_sound p = record { order = tt; begins = tt; rounds = tt; runs = tt }

pub sound_more : Judges → (p : Program) (x : Entry) (trace : List Entry) → IsSound p trace → Follows x trace → BeginsAt p (length trace) x
    → Fits p (net_after_trace p (fresh_net p) trace) x → IsSound p (x ∷ trace)
sound_more law p x trace s f b fits = record {
  order = (above_from x trace f s.order, s.order);
  begins = (b, s.begins);
  rounds = (rounds_from x trace f s.rounds, s.rounds);
  runs = (law p (fresh_net p) x trace).1 (s.runs, fits);
}

pub sound_follows : (p : Program) (x : Entry) (trace : List Entry) → IsSound p (x ∷ trace) → Follows x trace
sound_follows p x trace s = follows_from x trace s.order.0 s.rounds.0

pub sound_begins : (p : Program) (x : Entry) (trace : List Entry) → IsSound p (x ∷ trace) → BeginsAt p (length trace) x
sound_begins p x trace s = s.begins.0

pub sound_fits : Judges → (p : Program) (x : Entry) (trace : List Entry) → IsSound p (x ∷ trace) → Fits p (net_after_trace p (fresh_net p) trace) x
sound_fits law p x trace s = ((law p (fresh_net p) x trace).0 s.runs).1

-- ## Fronts of a trace

sound_tail : (p : Program) (x : Entry) (trace : List Entry) → IsSound p (x ∷ trace) → IsSound p trace
sound_tail p x trace s = record { order = s.order.1; begins = s.begins.1; rounds = s.rounds.1; runs = s.runs.0 }

sound_before : (p : Program) (later trace : List Entry) → IsSound p (later ++ trace) → IsSound p trace
sound_before p [] trace s = s
sound_before p (x ∷ xs) trace s = sound_before p xs trace (sound_tail p x (xs ++ trace) s)

pub sound_front : (p : Program) (entries : List Entry) (k : ℕ) → IsSound p (reverse entries) → IsSound p (reverse (take k entries))
sound_front p entries k s =
    sound_before p (reverse (drop k entries)) (reverse (take k entries))
    (subst (λ xs. IsSound p xs) (reverse-append (take k entries) (drop k entries)) (subst (λ xs. IsSound p (reverse xs)) (sym (take-append-drop k entries)) s))

pub newest_more : (entries : List Entry) (k : ℕ) (x : Entry) → k < length entries → x ≡ get_or entries k x → reverse (take (k + 1) entries) ≡ x ∷ reverse (take k entries)
newest_more entries k x h e =
    ap reverse (take_more entries k x h) ∙ reverse-append (take k entries) (get_or entries k x ∷ []) ∙ ap (λ (y : Entry). y ∷ reverse (take k entries)) (sym e)

pub net_more : (p : Program) (old new : Net) (x : Entry) (trace : List Entry) → old ≡ net_after_trace p (fresh_net p) trace → new ≡ net_after p old (event_of p old x)
    → new ≡ net_after_trace p (fresh_net p) (x ∷ trace)
net_more p old new x trace e h = h ∙ ap (λ (net : Net). net_after p net (event_of p net x)) e

length_front : (entries : List Entry) (k : ℕ) → k ≤ length entries → length (reverse (take k entries)) ≡ k
length_front entries k h = length-reverse (take k entries) ∙ length-take-le k entries h

-- what the judge asks of the entry of this number
pub record Comes (p : Program) (entries : List Entry) (k : ℕ) (x : Entry) : Type 0 where
  pub within : k < length entries
  pub is : x ≡ get_or entries k x
  pub sound : IsSound p (reverse (take k entries))

pub more_at : Judges → (p : Program) (entries : List Entry) (k : ℕ) (x : Entry) → Comes p entries k x → Follows x (reverse (take k entries)) → BeginsAt p k x
    → Fits p (net_after_trace p (fresh_net p) (reverse (take k entries))) x → IsSound p (reverse (take (k + 1) entries))
more_at law p entries k x c f b fits =
    subst (λ xs. IsSound p xs) (sym (newest_more entries k x c.within c.is))
    (sound_more law p x (reverse (take k entries)) c.sound f (subst (λ n. BeginsAt p n x) (sym (length_front entries k (omega (arith, c.within)))) b) fits)

pub wrong_at : Judges → (p : Program) (entries : List Entry) (k : ℕ) (x : Entry) → Comes p entries k x
    → (Follows x (reverse (take k entries)) → BeginsAt p k x → Fits p (net_after_trace p (fresh_net p) (reverse (take k entries))) x → ⊥)
    → IsSound p (reverse (take (k + 1) entries)) → ⊥
wrong_at law p entries k x c wrong s =
    let t : IsSound p (x ∷ reverse (take k entries)) = subst (λ xs. IsSound p xs) (newest_more entries k x c.within c.is) s in
    wrong (sound_follows p x (reverse (take k entries)) t)
    (subst (λ n. BeginsAt p n x) (length_front entries k (omega (arith, c.within))) (sound_begins p x (reverse (take k entries)) t))
    (sound_fits law p x (reverse (take k entries)) t)

pub follows_at : (entries : List Entry) (k : ℕ) (y x : Entry) → 0 < k → k ≤ length entries → y ≡ get_or entries (k - 1) y
    → Follows x (y ∷ reverse (take (k - 1) entries)) ↔ Follows x (reverse (take k entries))
follows_at entries k y x some h e =
    let n : (k - 1) + 1 ≡ k = omega arith in
    let same : reverse (take k entries) ≡ y ∷ reverse (take (k - 1) entries) = ap (λ m. reverse (take m entries)) (sym n) ∙ newest_more entries (k - 1) y (omega arith) e in
    (λ f. subst (λ ys. Follows x ys) (sym same) f, λ f. subst (λ ys. Follows x ys) same f)

-- ## Beginnings

abbrev entry : ℕ → ℕ → ℕ → Act → List Label → Entry
entry stamp node round act labels = record { stamp = stamp; node = node; round = round; act = act; labels = labels }

pub boot_is : (p : Program) (n : ℕ) (x : Entry) → x.stamp ≡ 1 → x.node ≡ n → x.round ≡ 0 → x.act ≡ Boot → x.labels ≡ first_labels p n → x ≡ boot_entry p n
boot_is p n x s m r a l =
    ap (λ v. entry v x.node x.round x.act x.labels) s ∙ ap (λ v. entry 1 v x.round x.act x.labels) m ∙ ap (λ v. entry 1 n v x.act x.labels) r
    ∙ ap (λ v. entry 1 n 0 v x.labels) a ∙ ap (λ v. entry 1 n 0 Boot v) l

length_boots : (p : Program) (n : ℕ) → length (boot_entries p n) ≡ n
length_boots p zero = refl
length_boots p (suc n) = ap suc (length_boots p n)

boots_begin : (p : Program) (n : ℕ) → AreBeginnings p (boot_entries p n)
boots_begin p zero = tt
boots_begin p (suc n) = (λ h. ap (boot_entry p) (sym (length_boots p n)), boots_begin p n)

later_begin : (p : Program) (later : List Entry) → AreBeginnings p (later ++ boot_entries p (nodes_of p))
later_begin p [] = boots_begin p (nodes_of p)
later_begin p (x ∷ xs) =
    (λ h. absurd (omega (arith, h, length-append xs (boot_entries p (nodes_of p)), length_boots p (nodes_of p))), later_begin p xs)

begins_begin : (p : Program) (trace : List Entry) → Begins p trace → AreBeginnings p trace
begins_begin p trace (inl e) = subst (λ xs. AreBeginnings p xs) (sym e) tt
begins_begin p trace (inr h) = subst (λ xs. AreBeginnings p xs) (sym h.1) (later_begin p h.0)

pub begins_long : (p : Program) (trace : List Entry) → Begins p trace → 0 < length trace → length trace < nodes_of p → ⊥
begins_long p trace (inl e) some few = omega (arith, ap length e)
begins_long p trace (inr h) some few = omega (arith, ap length h.1, length-append h.0 (boot_entries p (nodes_of p)), length_boots p (nodes_of p))

boots_from : (p : Program) (trace : List Entry) → length trace ≤ nodes_of p → AreBeginnings p trace → trace ≡ boot_entries p (length trace)
boots_from p [] h b = refl
boots_from p (x ∷ xs) h b =
    let head : x ≡ boot_entry p (length xs) = b.0 (omega arith) in
    let rest : xs ≡ boot_entries p (length xs) = boots_from p xs (omega arith) b.1 in
    ap (λ (y : Entry). y ∷ xs) head ∙ ap (λ (ys : List Entry). boot_entry p (length xs) ∷ ys) rest

long_begins : (p : Program) (trace : List Entry) → AreBeginnings p trace → nodes_of p ≤ length trace → (later : List Entry) × (trace ≡ later ++ boot_entries p (nodes_of p))
long_begins p [] b h = ([], let e : 0 ≡ nodes_of p = omega arith in ap (boot_entries p) e)
long_begins p (x ∷ xs) b h = elim (cases_lt (length xs) (nodes_of p)) as (λ _. (later : List Entry) × (x ∷ xs ≡ later ++ boot_entries p (nodes_of p))) [
  | inl l ↦ let e : length (x ∷ xs) ≡ nodes_of p = omega arith in ([], boots_from p (x ∷ xs) (omega arith) b ∙ ap (boot_entries p) e)
  | inr g ↦ let rec : (later : List Entry) × (xs ≡ later ++ boot_entries p (nodes_of p)) = long_begins p xs b.1 g in (x ∷ rec.0, ap (λ ys. x ∷ ys) rec.1)
]

-- ## The whole

abbrev pub Whole : Type 0
Whole = (p : Program) (trace : List Entry) → IsInOrder trace → Begins p trace → AreRising trace → IsRun p (fresh_net p) trace → Legal p trace

pub legal_sound : (p : Program) (trace : List Entry) → Legal p trace → IsSound p trace
legal_sound p trace l = record { order = l.order; begins = begins_begin p trace l.begins; rounds = l.rounds; runs = l.runs }

begins_from : (p : Program) (trace : List Entry) → AreBeginnings p trace → (length trace ≡ 0) ⊎ (nodes_of p ≤ length trace) → Begins p trace
begins_from p trace b (inr h) = inr (long_begins p trace b h)
begins_from p [] b (inl e) = inl refl
begins_from p (x ∷ xs) b (inl e) = absurd (omega arith)

pub sound_legal : Whole → (p : Program) (trace : List Entry) → IsSound p trace → (length trace ≡ 0) ⊎ (nodes_of p ≤ length trace) → Legal p trace
sound_legal law p trace s h = law p trace s.order (begins_from p trace s.begins h) s.rounds s.runs

-- what is said where an entry is at fault
pub at_fault : (p : Program) (entries : List Entry) (n : ℕ) → n < length entries → IsSound p (reverse (take n entries)) → (IsSound p (reverse (take (n + 1) entries)) → ⊥) → IsFirstFault p entries n
at_fault p entries n h s f = record { within = omega arith; sound = s; fault = λ l t. f t; missing = λ l. absurd (omega arith) }

pub not_legal : (p : Program) (entries : List Entry) (n : ℕ) → (IsSound p (reverse (take (n + 1) entries)) → ⊥) → Legal p (reverse entries) → ⊥
not_legal p entries n f l = f (sound_front p entries (n + 1) (legal_sound p (reverse entries) l))

pub record Said (p : Program) (entries : List Entry) (fault : Option ℕ) : Type 0 where
  pub legal : (fault ≡ None) ↔ Legal p (reverse entries)
  pub first : IfSome fault (λ number. IsFirstFault p entries number)

take_whole : (entries : List Entry) (n : ℕ) → n ≡ length entries → take n entries ≡ entries
take_whole entries n e = take_all n entries (omega arith)

pub at_end : Whole → (p : Program) (entries : List Entry) (fault : Option ℕ) → IsSound p (reverse entries)
    → MatchOption fault ((length entries ≡ 0) ⊎ (nodes_of p ≤ length entries)) (λ number. (number ≡ length entries) × (0 < length entries) × (length entries < nodes_of p))
    → Said p entries fault
at_end law p entries None s m =
    let long : (length (reverse entries) ≡ 0) ⊎ (nodes_of p ≤ length (reverse entries)) = subst (λ n. (n ≡ 0) ⊎ (nodes_of p ≤ n)) (sym (length-reverse entries)) m in
    record { legal = (λ e. sound_legal law p (reverse entries) s long, λ l. refl); first = tt }
at_end law p entries (Some n) s m =
    let size : length (reverse entries) ≡ length entries = length-reverse entries in
    record {
      legal = (λ e. absurd (cc e), λ l. absurd (begins_long p (reverse entries) l.begins (omega (arith, m.1)) (omega (arith, m.2))));
      first = record {
        within = omega (arith, m.0);
        sound = subst (λ xs. IsSound p (reverse xs)) (sym (take_whole entries n m.0)) s;
        fault = λ l t. absurd (omega (arith, m.0));
        missing = λ l. m.2;
      };
    }
