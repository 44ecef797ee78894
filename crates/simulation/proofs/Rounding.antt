-- A run of all nodes side by side, from round to round, and how it ends.
use Rattle.std.proofs.Common.{◌≡◌, ℕ, suc, ◌+◌, ◌<◌, ◌≤◌, max, Bool, true, false, List, [], ◌∷◌, ◌++◌, length, drop, Option, refl, sym, ap, ◌∙◌, subst, arith, inl, inr}
use Rattle.std.specs.Prelude.{◌⊎◌}
use Rattle.std.proofs.lemmas.List.{length-append, append_assoc, append-nil}
use Rattle.outside.specs.Outside.{Appends, AppendsPrefix}
use Rattle.run_trace.specs.declared.entry.Entry.{Entry}
use Rattle.run_trace.specs.Legality.{Legal, boot_entries}
use Rattle.run_trace.specs.Program.{Program, nodes_of, processors_of}
use Rattle.node_loop.specs.Passes.{IsRound, NoneReady}
use Rattle.node_loop.specs.View.{next_round}
use Rattle.cluster.specs.Acts.{has_pick}
use Rattle.cluster.specs.Outcomes.{GoesOn, IsAt}
use Rattle.cluster.specs.Rounds.{AddsRound, AreOfOneRound, HasRoomForRound, acts_in_round, last_stamp}
use Rattle.cluster.specs.Standing.{StandsFor, net_after}
use Rattle.cluster.specs.View.{ClusterView, console_in, greatest_clock, round_in}
use Rattle.cluster.specs.declared.deciding.State.TheVariants as states
use Rattle.cluster.proofs.Lemmas.{boot_count, keeps_within, next_is, no_turns}
use Rattle.simulation.specs.Course.{HasCome}
use Rattle.simulation.specs.Rounds.{entries_in, EndsWith, RunsInRounds, IsGoingOn, HasGone}
use Rattle.simulation.specs.declared.simulation.RunEnd.{RunEnd}
use Rattle.simulation.specs.declared.simulation.RunEnd.TheVariants as ends
use Rattle.simulation.proofs.Beginning.{main_listed}
use Rattle.simulation.proofs.Course.{Grows, by_round, comes_to, ends_failed, ends_here, has_begun, judged, legal_so_far, none_shown, shown_all, shown_part}

-- ## Lists of entries

last_joined : (clock : ℕ) (xs ys : List Entry) → last_stamp clock (xs ++ ys) ≡ last_stamp (last_stamp clock ys) xs
last_joined clock [] ys = refl
last_joined clock (x ∷ xs) ys = ap (max x.stamp) (last_joined clock xs ys)

-- ## A round has an entry where a thread can run

no_acts : (nodes processors quantum : ℕ) (ready has : ℕ → Bool) → 0 < processors → ready 0 ≡ true → IsRound nodes processors quantum acts_in_round ready has [] → ⊥
no_acts nodes processors quantum ready has some pick r = by r.ends
  where
    by : (0 ≡ acts_in_round) ⊎ ((r.last ≡ []) × NoneReady processors ready) → ⊥
    by (inl e) = omega (arith, e)
    by (inr h) = let bad : true ≡ false = sym pick ∙ h.1 0 some in cc

some_entry : (p : Program) (clock round : ℕ) (old new : List Entry) → has_pick p (net_after p old) 0 0 ≡ true → AreOfOneRound p clock round old new → 0 < length new
some_entry p clock round old [] pick r = absurd (no_acts (nodes_of p) (processors_of p) p.setup.quantum (λ vp. has_pick p (net_after p old) 0 vp) _ p.setup.some_processor pick (r.passes 0 (omega (arith, p.setup.geometry.some_node))))
some_entry p clock round old (x ∷ xs) pick r = omega arith

-- ## The beginning

pub begins_rounds : (turns : ℕ) (old : ClusterView) (written : Option (List ℕ)) → StandsFor old [] (boot_entries old.program (nodes_of old.program))
    → greatest_clock old.nodes ≡ 1 → round_in old ≡ 0 → 0 < turns → IsGoingOn turns old written 0 old written
begins_rounds turns old written s clock round some = record {
  rounds = [];
  come = has_begun old s;
  shown = none_shown old written s;
  clock = clock;
  round = round;
  count = refl;
  some = omega arith;
  few = some;
  turns_are = s.agrees.turns ∙ no_turns old.program (nodes_of old.program);
  are_rounds = tt;
  went_on = tt;
  going = inr refl;
}

-- the trace of a run that goes on
abbrev pub trace_in : {turns : ℕ} {old : ClusterView} {written : Option (List ℕ)} {done : ℕ} {c : ClusterView} {now : Option (List ℕ)} → IsGoingOn turns old written done c now → List Entry
trace_in {old = old} u = entries_in u.rounds ++ boot_entries old.program (nodes_of old.program)

module _ (turns : ℕ) (old : ClusterView) (written : Option (List ℕ)) (done : ℕ) (c : ClusterView) (now : Option (List ℕ)) (u : IsGoingOn turns old written done c now) (bounded : turns ≤ 1000000) where
  abbrev p : Program
  p = old.program

  abbrev first : List Entry
  first = boot_entries p (nodes_of p)

  abbrev trace : List Entry
  trace = entries_in u.rounds ++ first

  -- a node has no more entries than all nodes have
  pub room_for : HasRoomForRound c
  room_for n v at =
      let all : length trace ≡ length (entries_in u.rounds) + length first = length-append (entries_in u.rounds) first in
      omega (arith, keeps_within c trace u.come.stands.agrees.trace n v at, all, boot_count p (nodes_of p), u.few, bounded, p.setup.geometry.few_nodes)

  -- there are no more rounds than turns
  pub never_all : turns ≤ done → ⊥
  never_all l = omega (arith, l, u.some, u.few)

  -- ## One round more

  module _ (c2 : ClusterView) (d : AddsRound c [] (entries_in u.rounds ++ boot_entries old.program (nodes_of old.program)) c2) where
    abbrev later : List (List Entry)
    later = d.entries ∷ u.rounds

    grown : Grows c (entries_in later ++ first) c2
    grown = subst (λ ls. Grows c ls c2) (sym (append_assoc d.entries (entries_in u.rounds) first)) (by_round c trace c2 d)

    pub come_now : HasCome old (entries_in (d.entries ∷ u.rounds) ++ boot_entries old.program (nodes_of old.program)) c2
    come_now = comes_to old trace c (entries_in later ++ first) c2 u.come grown

    number_is : next_round (round_in c) ≡ suc (length u.rounds)
    number_is = ap next_round u.round ∙ next_is (length u.rounds) (omega (arith, u.count, u.some, u.few, bounded))

    round_is : AreOfOneRound p (last_stamp 1 (entries_in u.rounds)) (suc (length u.rounds)) trace d.entries
    round_is = subst (λ q. AreOfOneRound q (last_stamp 1 (entries_in u.rounds)) (suc (length u.rounds)) trace d.entries) u.come.program
        (subst (λ ls. AreOfOneRound c.program (last_stamp 1 (entries_in u.rounds)) (suc (length u.rounds)) ls d.entries) (append-nil trace)
        (subst (λ k. AreOfOneRound c.program k (suc (length u.rounds)) (trace ++ []) d.entries) u.clock
        (subst (λ k. AreOfOneRound c.program (greatest_clock c.nodes) k (trace ++ []) d.entries) number_is d.is_round)))

    has_entry : 0 < length d.entries
    has_entry = by u.going
      where
        by : GoesOn p trace ⊎ (u.rounds ≡ []) → 0 < length d.entries
        by (inl g) = d.goes_on (subst (λ ls. GoesOn c.program ls) (sym (append-nil trace)) (subst (λ q. GoesOn q trace) (sym u.come.program) g))
        by (inr none) =
            let legal : Legal p first = subst (λ rs. Legal p (entries_in rs ++ first)) none (legal_so_far old trace c u.come) in
            let pick : has_pick p (net_after p trace) 0 0 ≡ true = subst (λ rs. has_pick p (net_after p (entries_in rs ++ first)) 0 0 ≡ true) (sym none) (main_listed p legal) in
            some_entry p (last_stamp 1 (entries_in u.rounds)) (suc (length u.rounds)) trace d.entries pick round_is

    count_now : length (entries_in later) ≡ length d.entries + length (entries_in u.rounds)
    count_now = length-append d.entries (entries_in u.rounds)

    turns_now : c2.turns ≡ length (entries_in later)
    turns_now = omega (arith, d.turns, u.turns_are, count_now)

    shown_now : (now2 : Option (List ℕ)) → Appends now (drop (length (console_in c)) (console_in c2)) now2 → Appends written (console_in c2) now2
    shown_now now2 h = shown_all c (entries_in later ++ first) c2 grown written now now2 u.shown h

    pub goes_further : (now2 : Option (List ℕ)) (turns_told : ℕ) → Appends now (drop (length (console_in c)) (console_in c2)) now2
        → IsAt c2.program ((entries_in (d.entries ∷ u.rounds) ++ boot_entries old.program (nodes_of old.program)) ++ []) states.Going → turns_told ≡ c2.turns → turns_told < turns → IsGoingOn turns old written (done + 1) c2 now2
    goes_further now2 told h at is few = record {
      rounds = later;
      come = come_now;
      shown = shown_now now2 h;
      clock = d.clock ∙ ap (λ k. last_stamp k d.entries) u.clock ∙ sym (last_joined 1 d.entries (entries_in u.rounds));
      round = d.round ∙ number_is;
      count = omega (arith, u.count);
      some = omega (arith, u.some, has_entry, count_now);
      few = omega (arith, turns_now, is, few);
      turns_are = turns_now;
      are_rounds = (u.are_rounds, round_is);
      went_on = (u.went_on, record { not_done = going.not_done; not_stuck = going.not_stuck; few = omega (arith, turns_now, is, few) });
      going = inl going;
    }
      where
        going : GoesOn p (entries_in later ++ first)
        going = judged old (entries_in later ++ first) c2 come_now states.Going at

    -- the run has ended with this round
    ended : (end : RunEnd) → EndsWith p turns first later end → RunsInRounds p turns (entries_in later ++ first) end
    ended end e = record {
      legal = legal_so_far old (entries_in later ++ first) c2 come_now;
      rounds = later;
      begins = refl;
      are_rounds = (u.are_rounds, round_is);
      ends = e;
    }

    pub refused_in : (now2 : Option (List ℕ)) → AppendsPrefix now (drop (length (console_in c)) (console_in c2)) now2 → HasGone turns old c2 written now2 ends.WriteFault
    refused_in now2 h = ends_failed old (entries_in later ++ first) c2 come_now _ written now2 (shown_part c (entries_in later ++ first) c2 grown written now now2 u.shown h)
        (ended ends.WriteFault u.went_on)

    ended_here : (now2 : Option (List ℕ)) (end : RunEnd) → Appends now (drop (length (console_in c)) (console_in c2)) now2 → EndsWith p turns first later end → HasGone turns old c2 written now2 end
    ended_here now2 end h e = ends_here old (entries_in later ++ first) c2 come_now _ written now2 end (shown_now now2 h) (ended end e)

    pub is_done_in : (now2 : Option (List ℕ)) → Appends now (drop (length (console_in c)) (console_in c2)) now2
        → IsAt c2.program ((entries_in (d.entries ∷ u.rounds) ++ boot_entries old.program (nodes_of old.program)) ++ []) states.Done → HasGone turns old c2 written now2 ends.Done
    is_done_in now2 h at = ended_here now2 ends.Done h (u.went_on, judged old (entries_in later ++ first) c2 come_now states.Done at)

    pub is_stalled_in : (now2 : Option (List ℕ)) → Appends now (drop (length (console_in c)) (console_in c2)) now2
        → IsAt c2.program ((entries_in (d.entries ∷ u.rounds) ++ boot_entries old.program (nodes_of old.program)) ++ []) states.Stalled → HasGone turns old c2 written now2 ends.Stalled
    is_stalled_in now2 h at = ended_here now2 ends.Stalled h (u.went_on, judged old (entries_in later ++ first) c2 come_now states.Stalled at)

    pub is_out_of_turns : (now2 : Option (List ℕ)) (told : ℕ) → Appends now (drop (length (console_in c)) (console_in c2)) now2
        → IsAt c2.program ((entries_in (d.entries ∷ u.rounds) ++ boot_entries old.program (nodes_of old.program)) ++ []) states.Going → told ≡ c2.turns → turns ≤ told → HasGone turns old c2 written now2 ends.OutOfTurns
    is_out_of_turns now2 told h at is l =
        let going : GoesOn p (entries_in later ++ first) = judged old (entries_in later ++ first) c2 come_now states.Going at in
        ended_here now2 ends.OutOfTurns h (u.went_on, going.not_done, going.not_stuck, omega (arith, turns_now, is, l))
