-- But for turns, an event sends what its labels cause, and nothing else.
use Rattle.std.proofs.Common.{arith, ◌≡◌, ℕ, List, [], ◌∷◌, ◌++◌, true, false, cond, refl, sym, ap, ◌∙◌, append_assoc}
use Rattle.std.proofs.lemmas.List.{append-nil}
use Rattle.slot_space.specs.declared.names.Tid.{Tid}
use Rattle.run_trace.specs.declared.label.Label.{Label}
use Rattle.run_trace.specs.declared.label.Label.TheVariants.{Asked, Judged}
use Rattle.run_trace.specs.declared.packet.Body.{Body}
use Rattle.run_trace.specs.declared.packet.Body.TheVariants.{Want, Over}
use Rattle.run_trace.specs.declared.packet.Send.{Send}
use Rattle.run_trace.specs.Program.{Program}
use Rattle.run_trace.specs.Local.{Local, EventSoFar}
use Rattle.run_trace.specs.Causes.{asked_causes, judged_causes, causes}
use Rattle.run_trace.specs.Talks.{Talk, want_sends, claiming, after_turn, again_sends, again, one_send}
use Rattle.run_trace.specs.Spots.{Stage, Life, On, Spots, stage_of_call, after_label, after_labels}
use Rattle.run_trace.specs.Items.{Item, Serves, Grants, Ends_turn, Wants_again, Progress, has_slots, grants_first, works_off, worked_off, said, said_all, packet_sends}
use Rattle.trace_laws.specs.Obeys.{apart_from_turns, all_causes}
use Rattle.trace_laws.proofs.Underway.Midst.{Aside}

apart_append : (xs ys : List Send) → apart_from_turns (xs ++ ys) ≡ apart_from_turns xs ++ apart_from_turns ys
apart_append [] ys = refl
apart_append (x ∷ xs) ys = grind (arith, apart_append xs ys)

-- what is of turns alone adds nothing
apart_more : (xs ys : List Send) → apart_from_turns ys ≡ [] → apart_from_turns (xs ++ ys) ≡ apart_from_turns xs
apart_more xs ys e = apart_append xs ys ∙ ap (λ z. apart_from_turns xs ++ z) e ∙ append-nil (apart_from_turns xs)

-- ## What is sent without a word is of turns

wants_apart : (talk : Talk) → apart_from_turns (want_sends talk) ≡ []
wants_apart talk = grind arith

again_apart : (ts : List Tid) (talk : Talk) → apart_from_turns (again_sends ts talk) ≡ []
again_apart [] talk = refl
again_apart (t ∷ ts) talk = wants_apart talk

pub packet_apart : (from : ℕ) (body : Body) (talk : Talk) → apart_from_turns (packet_sends from body talk) ≡ []
packet_apart from Want talk = grind arith
packet_apart from Over talk = grind arith
packet_apart from body talk = grind arith

granted_apart : (n : ℕ) (w : Spots) (is : List Item) (ts : List Tid) (r over : Progress) → apart_from_turns over.sends ≡ apart_from_turns r.sends
    → apart_from_turns (grants_first n w is ts r over).sends ≡ apart_from_turns r.sends
granted_apart n w is [] r over e = e
granted_apart n w is (t ∷ ts) r over e = refl

worked_apart : (n : ℕ) (w : Spots) (is : List Item) (sends : List Send) (talk : Talk) → apart_from_turns (works_off n w is sends talk).sends ≡ apart_from_turns sends
worked_apart n w (Serves t ∷ is) sends talk = elim (has_slots n t w) as (λ v. apart_from_turns (cond v (record { sends = sends; to_do = Serves t ∷ is; talk = talk }) (works_off n w is (sends ++ want_sends talk) (claiming t talk))).sends ≡ apart_from_turns sends) [
  | true ↦ refl
  | false ↦ worked_apart n w is (sends ++ want_sends talk) (claiming t talk) ∙ apart_more sends (want_sends talk) (wants_apart talk)
]
worked_apart n w (Grants ∷ is) sends talk =
    let over : List Send = sends ++ one_send 0 Over in
    granted_apart n w is talk.claims (record { sends = sends; to_do = []; talk = talk }) (works_off n w is over (after_turn talk))
    (worked_apart n w is over (after_turn talk) ∙ apart_more sends (one_send 0 Over) refl)
worked_apart n w (Ends_turn ∷ is) sends talk = worked_apart n w is (sends ++ one_send 0 Over) (after_turn talk) ∙ apart_more sends (one_send 0 Over) refl
worked_apart n w (Wants_again ∷ is) sends talk =
    worked_apart n w is (sends ++ again_sends talk.claims talk) (again talk.claims talk) ∙ apart_more sends (again_sends talk.claims talk) (again_apart talk.claims talk)
worked_apart n w is sends talk = grind arith

-- ## What labels cause is of threads

asked_apart : (t : Tid) (stage : Stage) → apart_from_turns (asked_causes t stage) ≡ asked_causes t stage
asked_apart t stage = grind arith

judged_apart : (t : Tid) (life : Life) → apart_from_turns (judged_causes t life) ≡ judged_causes t life
judged_apart t (On m stage) = grind arith
judged_apart t life = grind arith

causes_apart : (p : Program) (n : ℕ) (l : Label) (w : Spots) → apart_from_turns (causes p n l w) ≡ causes p n l w
causes_apart p n (Asked t call args bytes) w = asked_apart t (stage_of_call p n t w)
causes_apart p n (Judged t reply extra) w = judged_apart t (w.threads t).life
causes_apart p n l w = grind arith

all_apart : (p : Program) (n : ℕ) (ls : List Label) (w : Spots) (r : Progress)
    → apart_from_turns (worked_off n (after_labels p n ls w) (said_all p n ls w r)).sends ≡ apart_from_turns r.sends ++ all_causes p n ls w
all_apart p n [] w r = worked_apart n w r.to_do r.sends r.talk ∙ sym (append-nil (apart_from_turns r.sends))
all_apart p n (l ∷ ls) w r =
    let now : Progress = worked_off n w r in
    let rest : List Send = all_causes p n ls (after_label p n l w) in
    all_apart p n ls (after_label p n l w) (said p n l w now)
    ∙ ap (λ z. z ++ rest) (apart_append now.sends (causes p n l w))
    ∙ ap (λ z. (z ++ apart_from_turns (causes p n l w)) ++ rest) (worked_apart n w r.to_do r.sends r.talk)
    ∙ ap (λ z. (apart_from_turns r.sends ++ z) ++ rest) (causes_apart p n l w)
    ∙ append_assoc (apart_from_turns r.sends) (causes p n l w) rest

-- at the end of an event
pub carried : {p : Program} {n : ℕ} {opening : Progress} {w : Spots} {before : Local} {d : EventSoFar} → Aside p n opening w before d [] → apart_from_turns opening.sends ≡ []
    → apart_from_turns d.sends ≡ all_causes p n d.labels w
carried {p} {n} {opening} {w} {before} {d} a none =
    ap (λ (r : Progress). apart_from_turns r.sends) (sym a.still) ∙ all_apart p n d.labels w opening ∙ ap (λ z. z ++ all_causes p n d.labels w) none
