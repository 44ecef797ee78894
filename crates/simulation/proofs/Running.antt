-- A run of drawn acts, from act to act, and how it ends.
use Rattle.std.proofs.Common.{◌≡◌, ℕ, suc, ◌+◌, ◌-◌, ◌^◌, ◌<◌, ◌≤◌, Bool, List, [], ◌∷◌, ◌++◌, length, drop, Option, Some, refl, sym, ap, ◌∙◌, subst, arith}
use Rattle.std.specs.Prelude.{◌≢◌}
use Rattle.outside.specs.Outside.{Appends, AppendsPrefix}
use Rattle.rand_pcg.specs.Lcg.{Lcg}
use Rattle.rand_pcg.specs.Pcg.{pcg32}
use Rattle.run_trace.specs.declared.entry.Act.{Act}
use Rattle.run_trace.specs.declared.entry.Entry.{Entry}
use Rattle.run_trace.specs.Legality.{boot_entries}
use Rattle.run_trace.specs.Program.{Program, nodes_of}
use Rattle.cluster.specs.Outcomes.{GoesOn, IsAt}
use Rattle.cluster.specs.declared.deciding.State.TheVariants.{Going, Done, Stalled}
use Rattle.cluster.specs.Standing.{StandsFor, Loses}
use Rattle.cluster.specs.View.{ClusterView, console_in, greatest_clock, round_in}
use Rattle.simulation.specs.Course.{HasCome, HasDone, refusal_end}
use Rattle.simulation.specs.Drawn.{AreDrawn, IsDrawn, chosen, generator, generator_after, possible_after, word_at}
use Rattle.simulation.specs.Ends.{WentOn, before_last, EndsAt, Runs}
use Rattle.outside.specs.declared.outside.WriteRefusal.{WriteRefusal}
use Rattle.outside.specs.declared.outside.WriteRefusal.TheVariants as refusals
use Rattle.simulation.specs.Underway.{Draws, IsUnderway, HasRun}
use Rattle.simulation.specs.declared.simulation.RunEnd.{RunEnd}
use Rattle.simulation.specs.declared.simulation.RunEnd.TheVariants as ends
use Rattle.simulation.proofs.Beginning.{begins_possible}
use Rattle.simulation.proofs.Course.{come_further, done_more, done_none, ends_here, ends_lost, ends_refused, has_begun, judged, legal_so_far, part_shown, round_is, stamp_is}

-- the trace of a run under way
abbrev pub trace_of : {moves : Bool} {seed : ℕ} {old : ClusterView} {written : Option (List ℕ)} {done : ℕ} {c : ClusterView} {words : Lcg} {now : Option (List ℕ)} → IsUnderway moves seed old written done c words now → List Entry
trace_of {old = old} u = u.later ++ boot_entries old.program (nodes_of old.program)

pub begins : (moves : Bool) (seed : ℕ) (old : ClusterView) (words : Lcg) (written : Option (List ℕ)) → StandsFor old [] (boot_entries old.program (nodes_of old.program))
    → greatest_clock old.nodes ≡ 1 → round_in old ≡ 0 → words ≡ generator seed
    → IsUnderway moves seed old written 0 old words written
begins moves seed old words written s clock round w = record {
  later = [];
  so_far = done_none old written s clock round;
  drawn = tt;
  went_on = tt;
  possible = begins_possible moves old.program (legal_so_far old (boot_entries old.program (nodes_of old.program)) old (has_begun old s));
  generator = w;
}

module _ (moves : Bool) (seed : ℕ) (old : ClusterView) (written : Option (List ℕ)) (done : ℕ) (c : ClusterView) (words : Lcg) (now : Option (List ℕ)) (u : IsUnderway moves seed old written done c words now) where
  abbrev p : Program
  p = old.program

  abbrev first : List Entry
  first = boot_entries p (nodes_of p)

  pub some_act : possible_after moves c.program (u.later ++ first) ≢ []
  some_act = subst (λ q. possible_after moves q (u.later ++ first) ≢ []) (sym u.so_far.come.program) u.possible

  -- ## One act more

  module _ (word : ℕ) (c2 : ClusterView) (d : Draws moves word (u.later ++ first) c c2) (w : word ≡ (pcg32 words).0) (few : done < 2 ^ 64 - 1) where
    abbrev x : Entry
    x = d.adds.entry

    come : HasCome old (d.adds.entry ∷ u.later ++ first) c2
    come = come_further old written done u.later c now u.so_far d.node d.act c2 d.adds few

    more : (now2 : Option (List ℕ)) → Appends now (drop (length (console_in c)) (console_in c2)) now2 → HasDone old written (done + 1) (d.adds.entry ∷ u.later) c2 now2
    more now2 h = done_more old written done u.later c now u.so_far d.node d.act c2 d.adds few now2 h

    word_is : word ≡ word_at seed (length u.later)
    word_is = w ∙ ap (λ g. (pcg32 g).0) u.generator ∙ ap (λ k. word_at seed k) (sym u.so_far.count)

    is_drawn : IsDrawn moves p (word_at seed (length u.later)) (suc (length u.later)) (u.later ++ first) x
    is_drawn = record {
      act = ap (λ k. chosen k (possible_after moves p (u.later ++ first))) (sym word_is)
          ∙ ap (λ q. chosen word (possible_after moves q (u.later ++ first))) (sym u.so_far.come.program)
          ∙ d.chosen_is ∙ ap (λ n. Some (n, d.act)) (sym d.adds.next.node) ∙ ap (λ (a : Act). Some (x.node, a)) (sym d.adds.next.act);
      stamp = stamp_is old written done u.later c now u.so_far d.node d.act c2 d.adds few;
      round = round_is old written done u.later c now u.so_far d.node d.act c2 d.adds few;
    }

    drawn_now : AreDrawn moves p seed first (x ∷ u.later)
    drawn_now = (u.drawn, is_drawn)

    pub goes_on : (words2 : Lcg) (now2 : Option (List ℕ)) → words2 ≡ (pcg32 words).1 → Appends now (drop (length (console_in c)) (console_in c2)) now2
        → IsAt c2.program ((d.adds.entry ∷ u.later ++ first) ++ []) Going → IsUnderway moves seed old written (done + 1) c2 words2 now2
    goes_on words2 now2 g h at = record {
      later = x ∷ u.later;
      so_far = more now2 h;
      drawn = drawn_now;
      went_on = (u.went_on, going.not_done, going.not_stuck);
      possible = going.possible moves;
      generator = subst (λ k. words2 ≡ generator_after seed k) later_is (g ∙ ap (λ k. (pcg32 k).1) u.generator);
    }
      where
        going : GoesOn p (x ∷ u.later ++ first)
        going = judged old (x ∷ u.later ++ first) c2 come Going at

        later_is : suc done ≡ done + 1
        later_is = omega arith

    -- the run has ended with this act
    ended : (turns : ℕ) (end : RunEnd) → done < turns → EndsAt p turns first (x ∷ u.later) end → Runs moves p turns seed (x ∷ u.later ++ first) end
    ended turns end l e = record {
      legal = legal_so_far old (x ∷ u.later ++ first) c2 come;
      later = x ∷ u.later;
      begins = refl;
      drawn = drawn_now;
      few = omega (arith, u.so_far.count, l);
      ends = e;
    }

    pub refused : (turns : ℕ) (now2 : Option (List ℕ)) (refusal : WriteRefusal) (end : RunEnd) → done < turns → AppendsPrefix now (drop (length (console_in c)) (console_in c2)) now2 → end ≡ refusal_end refusal
        → HasRun moves turns seed old c2 written now2 end
    refused turns now2 refusal end l h e = ends_refused old (x ∷ u.later ++ first) c2 come _ written now2 refusal end e (part_shown old written done u.later c now u.so_far d.node d.act c2 d.adds few now2 h) by
      where
        by : (r : WriteRefusal) → Runs moves p turns seed (x ∷ u.later ++ first) (refusal_end r)
        by refusals.Failed = ended turns ends.WriteFault l u.went_on
        by refusals.NoMemory = ended turns ends.NoMemory l u.went_on

    pub is_done : (turns : ℕ) (now2 : Option (List ℕ)) → done < turns → Appends now (drop (length (console_in c)) (console_in c2)) now2 → IsAt c2.program ((d.adds.entry ∷ u.later ++ first) ++ []) Done
        → HasRun moves turns seed old c2 written now2 ends.Done
    is_done turns now2 l h at = ends_here old (x ∷ u.later ++ first) c2 come _ written now2 ends.Done (more now2 h).shown
        (ended turns ends.Done l ((λ e. cc e), u.went_on, judged old (x ∷ u.later ++ first) c2 come Done at))

    pub is_stalled : (turns : ℕ) (now2 : Option (List ℕ)) → done < turns → Appends now (drop (length (console_in c)) (console_in c2)) now2 → IsAt c2.program ((d.adds.entry ∷ u.later ++ first) ++ []) Stalled
        → HasRun moves turns seed old c2 written now2 ends.Stalled
    is_stalled turns now2 l h at = ends_here old (x ∷ u.later ++ first) c2 come _ written now2 ends.Stalled (more now2 h).shown
        (ended turns ends.Stalled l ((λ e. cc e), u.went_on, judged old (x ∷ u.later ++ first) c2 come Stalled at))

  -- ## It ends where it stands

  stops : (turns : ℕ) (end : RunEnd) → done ≤ turns → EndsAt p turns first u.later end → Runs moves p turns seed (u.later ++ first) end
  stops turns end l e = record {
    legal = legal_so_far old (u.later ++ first) c u.so_far.come;
    later = u.later;
    begins = refl;
    drawn = u.drawn;
    few = omega (arith, u.so_far.count, l);
    ends = e;
  }

  pub out_of_turns : (turns : ℕ) → done ≡ turns → HasRun moves turns seed old c written now ends.OutOfTurns
  out_of_turns turns e = ends_here old (u.later ++ first) c u.so_far.come _ written now ends.OutOfTurns u.so_far.shown
      (stops turns ends.OutOfTurns (omega (arith, e)) (u.went_on, u.so_far.count ∙ e))

  pub lost : (turns : ℕ) (c2 : ClusterView) → done < turns → Loses c c2 (u.later ++ first) → HasRun moves turns seed old c2 written now ends.NoMemory
  lost turns c2 l h = ends_lost old (u.later ++ first) c u.so_far.come _ written now c2 h u.so_far.shown (stops turns ends.NoMemory (omega (arith, l)) (before u.later u.went_on))
    where
      before : (later : List Entry) → WentOn p first later → WentOn p first (before_last later)
      before [] h = tt
      before (x ∷ later) h = h.0
