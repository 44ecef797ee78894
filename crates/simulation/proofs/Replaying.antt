-- A run by a schedule, from act to act, and how it ends.
use Rattle.std.proofs.Common.{◌≡◌, ℕ, zero, suc, ◌+◌, ◌-◌, ◌^◌, ◌<◌, List, [], ◌∷◌, ◌++◌, length, drop, get_or, Option, Some, None, false, refl, sym, ap, ◌∙◌, subst, arith}
use Rattle.std.specs.Prelude.{slice_get}
use Rattle.std.proofs.lemmas.List.{append-nil}
use Rattle.std.proofs.lemmas.Option.{slice_get-get_or}
use Rattle.outside.specs.Outside.{Appends, AppendsPrefix}
use Rattle.outside.specs.declared.outside.WriteRefusal.{WriteRefusal}
use Rattle.outside.specs.declared.outside.WriteRefusal.TheVariants as refusals
use Rattle.run_trace.specs.declared.entry.Entry.{Entry}
use Rattle.run_trace.specs.Legality.{boot_entries}
use Rattle.run_trace.specs.Program.{Program, nodes_of}
use Rattle.node_loop.specs.Turns.{IsActInRange}
use Rattle.cluster.specs.Acts.{is_possible}
use Rattle.cluster.specs.Outcomes.{GoesOn, IsAt}
use Rattle.cluster.specs.declared.deciding.State.TheVariants as states
use Rattle.cluster.specs.Standing.{StandsFor, Adds, Loses, net_after}
use Rattle.cluster.specs.View.{ClusterView, console_in, greatest_clock, round_in}
use Rattle.simulation.specs.Course.{HasCome, refusal_end}
use Rattle.simulation.specs.Schedules.{AreInRange, AreFirstOf, StopsAt, RunsBy}
use Rattle.simulation.specs.Replayed.{IsReplaying, HasReplayed}
use Rattle.run_texts.specs.declared.schedule.Scheduled.{Scheduled}
use Rattle.simulation.specs.declared.simulation.RunEnd.{RunEnd}
use Rattle.simulation.specs.declared.simulation.RunEnd.TheVariants as ends
use Rattle.simulation.proofs.Course.{come_further, done_more, done_none, ends_here, ends_lost, ends_refused, judged, legal_so_far, part_shown, round_is, stamp_is}

-- the act at this place of a schedule is in range
pub in_range : (p : Program) (schedule : List Scheduled) (i : ℕ) (s : Scheduled) → AreInRange p schedule → slice_get schedule i ≡ Some s
    → (s.node < nodes_of p) × IsActInRange p s.node s.act
in_range p [] i s all e = absurd (let none : slice_get {X = Scheduled} [] i ≡ None = refl in cc (none, e))
in_range p (x ∷ xs) zero s all e = let same : x ≡ s = cc e in subst (λ (y : Scheduled). (y.node < nodes_of p) × IsActInRange p y.node y.act) same (all.0, all.1)
in_range p (x ∷ xs) (suc i) s all e = in_range p xs i s all.2 e

-- the item of a loop over a schedule is the act at its place
pub item_at : (schedule : List Scheduled) (i : ℕ) (s : Scheduled) → i < length schedule → s ≡ get_or schedule i s → slice_get schedule i ≡ Some s
item_at schedule i s l is = slice_get-get_or schedule i s l ∙ ap (λ (y : Scheduled). Some y) (sym is)

-- the trace of a run under way
abbrev pub trace_by : {schedule : List Scheduled} {old : ClusterView} {written : Option (List ℕ)} {done : ℕ} {c : ClusterView} {now : Option (List ℕ)} → IsReplaying schedule old written done c now → List Entry
trace_by {old = old} u = u.later ++ boot_entries old.program (nodes_of old.program)

pub begins_by : (schedule : List Scheduled) (old : ClusterView) (written : Option (List ℕ)) → StandsFor old [] (boot_entries old.program (nodes_of old.program))
    → greatest_clock old.nodes ≡ 1 → round_in old ≡ 0 → IsReplaying schedule old written 0 old written
begins_by schedule old written s clock round = record {
  later = [];
  so_far = done_none old written s clock round;
  acts = tt;
}

module _ (schedule : List Scheduled) (old : ClusterView) (written : Option (List ℕ)) (done : ℕ) (c : ClusterView) (now : Option (List ℕ)) (u : IsReplaying schedule old written done c now) where
  abbrev p : Program
  p = old.program

  abbrev first : List Entry
  first = boot_entries p (nodes_of p)

  -- ## It ends where it stands

  stops : (end : RunEnd) → StopsAt p schedule (length u.later) (u.later ++ first) end → RunsBy p schedule (u.later ++ first) end
  stops end e = record { legal = legal_so_far old (u.later ++ first) c u.so_far.come; later = u.later; begins = refl; acts = u.acts; stops = e }

  stopped : (end : RunEnd) → StopsAt p schedule (length u.later) (u.later ++ first) end → HasReplayed schedule old c written now end
  stopped end e = ends_here old (u.later ++ first) c u.so_far.come _ written now end u.so_far.shown (stops end e)

  pub impossible : (s : Scheduled) (line : ℕ) → slice_get schedule done ≡ Some s → s.line ≡ line → is_possible c.program (net_after c.program ((u.later ++ first) ++ [])) s.node s.act ≡ false
      → HasReplayed schedule old c written now (ends.NotPossible line)
  impossible s line at is idle = stopped (ends.NotPossible line) (
    s,
    ap (slice_get schedule) u.so_far.count ∙ at,
    is,
    subst (λ q. is_possible q (net_after q (u.later ++ first)) s.node s.act ≡ false) u.so_far.come.program
        (subst (λ ls. is_possible c.program (net_after c.program ls) s.node s.act ≡ false) (append-nil (u.later ++ first)) idle),
  )

  pub is_done_by : done ≡ length schedule → IsAt c.program ((u.later ++ first) ++ []) states.Done → HasReplayed schedule old c written now ends.Done
  is_done_by all at = stopped ends.Done (u.so_far.count ∙ all, judged old (u.later ++ first) c u.so_far.come states.Done at)

  pub is_stalled_by : done ≡ length schedule → IsAt c.program ((u.later ++ first) ++ []) states.Stalled → HasReplayed schedule old c written now ends.Stalled
  is_stalled_by all at = stopped ends.Stalled (u.so_far.count ∙ all, judged old (u.later ++ first) c u.so_far.come states.Stalled at)

  pub goes_on_after : done ≡ length schedule → IsAt c.program ((u.later ++ first) ++ []) states.Going → HasReplayed schedule old c written now ends.OutOfTurns
  goes_on_after all at = let going : GoesOn p (u.later ++ first) = judged old (u.later ++ first) c u.so_far.come states.Going at in
      stopped ends.OutOfTurns (u.so_far.count ∙ all, going.not_done, going.not_stuck)

  pub lost_by : (c2 : ClusterView) → Loses c c2 (u.later ++ first) → HasReplayed schedule old c2 written now ends.NoMemory
  lost_by c2 h = ends_lost old (u.later ++ first) c u.so_far.come _ written now c2 h u.so_far.shown (stops ends.NoMemory tt)

  -- ## One act more

  module _ (s : Scheduled) (c2 : ClusterView) (at : slice_get schedule done ≡ Some s) (d : Adds c [] (u.later ++ first) s.node s.act c2) (few : done < 2 ^ 64 - 1) where
    abbrev x : Entry
    x = d.entry

    come : HasCome old (d.entry ∷ u.later ++ first) c2
    come = come_further old written done u.later c now u.so_far s.node s.act c2 d few

    acts_now : AreFirstOf schedule (x ∷ u.later)
    acts_now = (
      u.acts,
      (
        s,
        ap (slice_get schedule) u.so_far.count ∙ at,
        record {
          node = d.next.node;
          act = d.next.act;
          stamp = stamp_is old written done u.later c now u.so_far s.node s.act c2 d few;
          round = round_is old written done u.later c now u.so_far s.node s.act c2 d few;
        },
      ),
    )

    pub goes_on_by : (now2 : Option (List ℕ)) → Appends now (drop (length (console_in c)) (console_in c2)) now2 → IsReplaying schedule old written (done + 1) c2 now2
    goes_on_by now2 h = record { later = x ∷ u.later; so_far = done_more old written done u.later c now u.so_far s.node s.act c2 d few now2 h; acts = acts_now }

    pub refused_by : (now2 : Option (List ℕ)) (refusal : WriteRefusal) (end : RunEnd) → AppendsPrefix now (drop (length (console_in c)) (console_in c2)) now2 → end ≡ refusal_end refusal
        → HasReplayed schedule old c2 written now2 end
    refused_by now2 refusal end h e = ends_refused old (x ∷ u.later ++ first) c2 come _ written now2 refusal end e (part_shown old written done u.later c now u.so_far s.node s.act c2 d few now2 h) by
      where
        ended : (end : RunEnd) → StopsAt p schedule (suc (length u.later)) (x ∷ u.later ++ first) end → RunsBy p schedule (x ∷ u.later ++ first) end
        ended end e = record { legal = legal_so_far old (x ∷ u.later ++ first) c2 come; later = x ∷ u.later; begins = refl; acts = acts_now; stops = e }

        by : (r : WriteRefusal) → RunsBy p schedule (x ∷ u.later ++ first) (refusal_end r)
        by refusals.Failed = ended ends.WriteFault (omega arith)
        by refusals.NoMemory = ended ends.NoMemory tt
