-- What all runs have in common, whatever their acts are: lines that come, a step more, an end, and what is handed out.
use Rattle.std.proofs.Common.{◌≡◌, ℕ, suc, ◌+◌, ◌-◌, ◌^◌, ◌<◌, ◌≤◌, List, [], ◌∷◌, ◌++◌, length, take, drop, reverse, Option, Some, None, refl, sym, ap, ◌∙◌, subst, arith, inl, inr}
use Rattle.std.specs.Prelude.{◌≢◌, ◌⊎◌, option_map}
use Rattle.std.proofs.lemmas.List.{length-append, append_assoc, append-nil, reverse-reverse}
use Rattle.std.proofs.Math.Seq.{drop-append_seam, take-append_seam, take-append-add}
use Rattle.outside.specs.Outside.{Appends, AppendsPrefix}
use Rattle.outside.specs.declared.outside.WriteRefusal.{WriteRefusal}
use Rattle.outside.specs.declared.outside.WriteRefusal.TheVariants as refusals
use Rattle.run_trace.specs.declared.entry.Act.{Act}
use Rattle.run_trace.specs.declared.entry.Entry.{Entry}
use Rattle.run_trace.specs.declared.packet.Packet.{Packet}
use Rattle.wires.specs.declared.ends.Ends.{Ends}
use Rattle.run_trace.specs.Console.{console_of}
use Rattle.run_trace.specs.Legality.{Legal, boot_entries}
use Rattle.run_trace.specs.Program.{Program, nodes_of}
use Rattle.run_trace.specs.Spots.{at_first}
use Rattle.node_loop.specs.Turns.{entry_limit}
use Rattle.node_loop.specs.View.{next_round}
use Rattle.cluster.proofs.Lemmas.{next_is}
use Rattle.cluster.specs.Outcomes.{IsAt}
use Rattle.cluster.specs.declared.deciding.State.{State}
use Rattle.cluster.specs.Rounds.{AddsRound}
use Rattle.cluster.specs.Standing.{StandsFor, HaveCarried, Adds, Loses}
use Rattle.cluster.specs.View.{ClusterView, console_in, greatest_clock, round_in, wires_of}
use Rattle.simulation.specs.Course.{HasCome, HasDone, HasEnded, HandsOut, refusal_end}
use Rattle.simulation.specs.Ends.{Carries, ShowsAt, Shows, CarriesAt}
use Rattle.simulation.specs.declared.simulation.RunEnd.{RunEnd}
use Rattle.simulation.specs.declared.simulation.RunEnd.TheVariants as ends
use Rattle.simulation.specs.declared.simulation.Simulated.{Simulated}
use Rattle.simulation.proofs.Beginning.{nothing_shown}

-- ## The output

appended : (written : Option (List ℕ)) (xs ys : List ℕ) (mid now : Option (List ℕ)) → Appends written xs mid → Appends mid ys now → Appends written (xs ++ ys) now
appended None xs ys mid now h k = k ∙ ap (option_map (λ b. b ++ ys)) h
appended (Some b) xs ys mid now h k = k ∙ ap (option_map (λ z. z ++ ys)) h ∙ ap (λ (z : List ℕ). Some z) (append_assoc b xs ys)

whole_prefix : (written : Option (List ℕ)) (xs : List ℕ) (now : Option (List ℕ)) → Appends written xs now → AppendsPrefix written xs now
whole_prefix written xs now h = (length xs, subst (λ ys. Appends written ys now) (sym (take_all xs)) h)
  where
    take_all : (xs : List ℕ) → take (length xs) xs ≡ xs
    take_all xs = ap (take (length xs)) (sym (append-nil xs)) ∙ take-append_seam xs []

prefixed : (written : Option (List ℕ)) (xs ys : List ℕ) (mid now : Option (List ℕ)) → Appends written xs mid → AppendsPrefix mid ys now → AppendsPrefix written (xs ++ ys) now
prefixed written xs ys mid now h k =
    (length xs + k.0, subst (λ zs. Appends written zs now) (sym (take-append-add xs ys k.0)) (appended written xs (take k.0 ys) mid now h k.1))

-- where all lines are on the output, so they are at each end
shows_all : (p : Program) (written : Option (List ℕ)) (trace : List Entry) (now : Option (List ℕ)) (end : RunEnd) → Appends written (console_of p (at_first p) trace) now → ShowsAt p written now trace end
shows_all p written trace now ends.Done h = h
shows_all p written trace now ends.Stalled h = h
shows_all p written trace now ends.OutOfTurns h = h
shows_all p written trace now (ends.NotPossible line) h = h
shows_all p written trace now ends.WriteFault h = whole_prefix written (console_of p (at_first p) trace) now h
shows_all p written trace now ends.NoMemory h = λ some. whole_prefix written (console_of p (at_first p) trace) now h

-- ## A run that has come so far

module _ (old : ClusterView) (trace : List Entry) (c : ClusterView) (h : HasCome old trace c) where
  pub legal_so_far : Legal old.program trace
  legal_so_far = subst (λ q. Legal q trace) h.program (subst (λ ls. Legal c.program ls) (append-nil trace) h.stands.agrees.legal)

  -- what a verdict says of it
  pub judged : (state : State) → IsAt c.program (trace ++ []) state → IsAt old.program trace state
  judged state at = subst (λ q. IsAt q trace state) h.program (subst (λ ls. IsAt c.program ls state) (append-nil trace) at)

  console_is : console_of old.program (at_first old.program) trace ≡ console_in c
  console_is = subst (λ q. console_of q (at_first q) trace ≡ console_in c) h.program (ap (console_of c.program (at_first c.program)) (sym (append-nil trace)) ∙ h.stands.agrees.console)

  all_written : (written now : Option (List ℕ)) → Appends written (console_in c) now → Appends written (console_of old.program (at_first old.program) trace) now
  all_written written now shown = subst (λ xs. Appends written xs now) (sym console_is) shown

  some_written : (written now : Option (List ℕ)) → AppendsPrefix written (console_in c) now → AppendsPrefix written (console_of old.program (at_first old.program) trace) now
  some_written written now part = subst (λ xs. AppendsPrefix written xs now) (sym console_is) part

  module _ (R : Program → List Entry → RunEnd → Type 0) (written now : Option (List ℕ)) where
    ends_showing : (end : RunEnd) → R old.program trace end → ShowsAt old.program written now trace end → HasEnded R old c written now end
    ends_showing end runs shows = record {
      entries = trace;
      trace = h.stands.agrees.trace;
      runs = runs;
      shows = shows;
      leaves = λ enough. (h.wide, subst (λ q. HaveCarried q trace (wires_of c)) h.program h.stands.agrees.carried);
    }

    -- it ends here, with all its lines
    pub ends_here : (end : RunEnd) → Appends written (console_in c) now → R old.program trace end → HasEnded R old c written now end
    ends_here end shown runs = ends_showing end runs (shows_all old.program written trace now end (all_written written now shown))

    -- its last lines were refused
    pub ends_failed : AppendsPrefix written (console_in c) now → R old.program trace ends.WriteFault → HasEnded R old c written now ends.WriteFault
    ends_failed part runs = ends_showing ends.WriteFault runs (some_written written now part)

    pub ends_refused : (refusal : WriteRefusal) (end : RunEnd) → end ≡ refusal_end refusal → AppendsPrefix written (console_in c) now
        → ((r : WriteRefusal) → R old.program trace (refusal_end r)) → HasEnded R old c written now end
    ends_refused refusal end is part runs = subst (λ e. HasEnded R old c written now e) (sym is) (by refusal)
      where
        by : (r : WriteRefusal) → HasEnded R old c written now (refusal_end r)
        by refusals.Failed = ends_failed part (runs refusals.Failed)
        by refusals.NoMemory = ends_showing ends.NoMemory (runs refusals.NoMemory) (λ any. some_written written now part)

    -- there is no memory for one act more
    pub ends_lost : (c2 : ClusterView) → Loses c c2 trace → Appends written (console_in c) now → R old.program trace ends.NoMemory → HasEnded R old c2 written now ends.NoMemory
    ends_lost c2 lost shown runs = record {
      entries = trace;
      trace = lost.trace;
      runs = runs;
      shows = shows_all old.program written trace now ends.NoMemory (all_written written now shown);
      leaves = λ enough. absurd (enough refl);
    }

-- ## The beginning

pub has_begun : (old : ClusterView) → StandsFor old [] (boot_entries old.program (nodes_of old.program)) → HasCome old (boot_entries old.program (nodes_of old.program)) old
has_begun old s = record { program = refl; stands = s; wide = refl }

-- no line is there yet
pub none_shown : (old : ClusterView) (written : Option (List ℕ)) → StandsFor old [] (boot_entries old.program (nodes_of old.program)) → Appends written (console_in old) written
none_shown old written s = subst (λ xs. Appends written xs written) (sym empty) (nothing written)
  where
    empty : console_in old ≡ []
    empty = sym (console_is old (boot_entries old.program (nodes_of old.program)) old (has_begun old s)) ∙ nothing_shown old.program (nodes_of old.program)

    nothing : (o : Option (List ℕ)) → Appends o [] o
    nothing None = refl
    nothing (Some xs) = ap (λ (z : List ℕ). Some z) (sym (append-nil xs))

-- ## A step more

-- after a step a cluster stands for a longer trace, and has more lines
pub record Grows (c : ClusterView) (trace : List Entry) (c2 : ClusterView) : Type 0 where
  pub program : c2.program ≡ c.program
  pub stands : StandsFor c2 [] trace
  pub wide : length (wires_of c2) ≡ length (wires_of c)
  pub more : List ℕ
  pub console : console_in c2 ≡ console_in c ++ more

pub by_act : (c : ClusterView) (trace : List Entry) (n : ℕ) (act : Act) (c2 : ClusterView) (d : Adds c [] trace n act c2) → Grows c (d.entry ∷ trace) c2
by_act c trace n act c2 d = record { program = d.program; stands = d.stands; wide = d.wide; more = d.shown; console = d.console }

pub by_round : (c : ClusterView) (trace : List Entry) (c2 : ClusterView) (d : AddsRound c [] trace c2) → Grows c (d.entries ++ trace) c2
by_round c trace c2 d = record { program = d.program; stands = d.stands; wide = d.wide; more = d.shown; console = d.console }

pub comes_to : (old : ClusterView) (before : List Entry) (c : ClusterView) (trace : List Entry) (c2 : ClusterView) → HasCome old before c → Grows c trace c2 → HasCome old trace c2
comes_to old before c trace c2 h g = record { program = g.program ∙ h.program; stands = g.stands; wide = g.wide ∙ h.wide }

module _ (c : ClusterView) (trace : List Entry) (c2 : ClusterView) (g : Grows c trace c2) where
  pub longer : length (console_in c) ≤ length (console_in c2)
  longer = let sum : length (console_in c2) ≡ length (console_in c) + length g.more = ap length g.console ∙ length-append (console_in c) g.more in omega (arith, sum)

  new_lines : drop (length (console_in c)) (console_in c2) ≡ g.more
  new_lines = ap (drop (length (console_in c))) g.console ∙ drop-append_seam (console_in c) g.more

  pub shown_all : (written now now2 : Option (List ℕ)) → Appends written (console_in c) now → Appends now (drop (length (console_in c)) (console_in c2)) now2 → Appends written (console_in c2) now2
  shown_all written now now2 u h = subst (λ xs. Appends written xs now2) (sym g.console)
      (appended written (console_in c) g.more now now2 u (subst (λ xs. Appends now xs now2) new_lines h))

  pub shown_part : (written now now2 : Option (List ℕ)) → Appends written (console_in c) now → AppendsPrefix now (drop (length (console_in c)) (console_in c2)) now2
      → AppendsPrefix written (console_in c2) now2
  shown_part written now now2 u h = subst (λ xs. AppendsPrefix written xs now2) (sym g.console)
      (prefixed written (console_in c) g.more now now2 u (subst (λ xs. AppendsPrefix now xs now2) new_lines h))

-- ## Act after act

pub done_none : (old : ClusterView) (written : Option (List ℕ)) → StandsFor old [] (boot_entries old.program (nodes_of old.program)) → greatest_clock old.nodes ≡ 1 → round_in old ≡ 0
    → HasDone old written 0 [] old written
done_none old written s clock round = record { come = has_begun old s; shown = none_shown old written s; clock = clock; round = round; count = refl }

module _ (old : ClusterView) (written : Option (List ℕ)) (done : ℕ) (later : List Entry) (c : ClusterView) (now : Option (List ℕ)) (h : HasDone old written done later c now) where
  pub low_clock : (most : ℕ) → done < most → most ≤ 1000000 → greatest_clock c.nodes + 1 < entry_limit
  low_clock most l few = omega (arith, h.clock, l, few)

  abbrev trace : List Entry
  trace = later ++ boot_entries old.program (nodes_of old.program)

  module _ (n : ℕ) (act : Act) (c2 : ClusterView) (d : Adds c [] (later ++ boot_entries old.program (nodes_of old.program)) n act c2) (few : done < 2 ^ 64 - 1) where
    grown : Grows c (d.entry ∷ trace) c2
    grown = by_act c trace n act c2 d

    number_is : d.entry.round ≡ suc done
    number_is = d.next.round ∙ ap next_round h.round ∙ next_is done few

    pub come_further : HasCome old (d.entry ∷ later ++ boot_entries old.program (nodes_of old.program)) c2
    come_further = comes_to old trace c (d.entry ∷ trace) c2 h.come grown

    pub stamp_is : d.entry.stamp ≡ suc (suc (length later))
    stamp_is = d.next.stamp ∙ ap suc (h.clock ∙ ap suc (sym h.count))

    pub round_is : d.entry.round ≡ suc (length later)
    round_is = number_is ∙ ap suc (sym h.count)

    pub done_more : (now2 : Option (List ℕ)) → Appends now (drop (length (console_in c)) (console_in c2)) now2 → HasDone old written (done + 1) (d.entry ∷ later) c2 now2
    done_more now2 shown = subst (λ k. HasDone old written k (d.entry ∷ later) c2 now2) later_is (record {
      come = come_further;
      shown = shown_all c (d.entry ∷ trace) c2 grown written now now2 h.shown shown;
      clock = d.clock ∙ d.next.stamp ∙ ap suc h.clock;
      round = d.round ∙ number_is;
      count = ap suc h.count;
    })
      where
        later_is : suc done ≡ done + 1
        later_is = omega arith

    pub part_shown : (now2 : Option (List ℕ)) → AppendsPrefix now (drop (length (console_in c)) (console_in c2)) now2 → AppendsPrefix written (console_in c2) now2
    part_shown now2 part = shown_part c (d.entry ∷ trace) c2 grown written now now2 h.shown part

-- ## What is handed out

module _ (R : Program → List Entry → RunEnd → Type 0) (p : Program) (old new : ClusterView) (written now : Option (List ℕ)) (end : RunEnd) (r : HasEnded R old new written now end)
    (same : old.program ≡ p) (s : Simulated) (out : HandsOut r.entries (wires_of new) end s) where
  entries_are : s.trace ≡ reverse r.entries → reverse s.trace ≡ r.entries
  entries_are trace = ap reverse trace ∙ reverse-reverse r.entries

  pub runs_out : R p (reverse s.trace) s.end ⊎ ((s.trace ≡ []) × (s.end ≡ ends.NoMemory))
  runs_out = by out
    where
      by : HandsOut r.entries (wires_of new) end s → R p (reverse s.trace) s.end ⊎ ((s.trace ≡ []) × (s.end ≡ ends.NoMemory))
      by (inl h) = inl (subst (λ ls. R p ls s.end) (sym (entries_are h.1)) (subst (λ e. R p r.entries e) (sym h.0) (subst (λ q. R q r.entries end) same r.runs)))
      by (inr none) = inr none

  pub shown_out : Shows p written now s
  shown_out = by out
    where
      by : HandsOut r.entries (wires_of new) end s → ShowsAt p written now (reverse s.trace) s.end
      by (inl h) = subst (λ ls. ShowsAt p written now ls s.end) (sym (entries_are h.1))
          (subst (λ e. ShowsAt p written now r.entries e) (sym h.0) (subst (λ q. ShowsAt q written now r.entries end) same r.shows))
      by (inr none) = subst (λ e. ShowsAt p written now (reverse s.trace) e) (sym none.1) (λ some. absurd (some (ap reverse none.0)))

  pub carried_out : (given : List (Ends Packet)) → length (wires_of old) ≡ length given → CarriesAt p given s
  carried_out given wide enough = by out
    where
      by : HandsOut r.entries (wires_of new) end s → Carries p given s
      by (inl h) =
          let left = r.leaves (λ e. enough (h.0 ∙ e)) in
          record {
            nodes = ap length h.2 ∙ (left.0 ∙ wide);
            carried = subst (λ ls. HaveCarried p ls s.wires) (sym (entries_are h.1)) (subst (λ es. HaveCarried p r.entries es) (sym h.2) (subst (λ q. HaveCarried q r.entries (wires_of new)) same left.1));
          }
      by (inr none) = absurd (enough none.1)

  -- a refused write has ended the run itself
  pub failed_out : s.end ≡ ends.WriteFault → end ≡ ends.WriteFault
  failed_out e = by out
    where
      by : HandsOut r.entries (wires_of new) end s → end ≡ ends.WriteFault
      by (inl h) = sym h.0 ∙ e
      by (inr none) = absurd (let bad : ends.WriteFault ≡ ends.NoMemory = sym e ∙ none.1 in cc)

  -- and where there is a trace, another end is the run's own
  pub uncounted_out : s.trace ≢ [] → s.end ≢ ends.WriteFault → end ≢ ends.WriteFault
  uncounted_out some other e = by out
    where
      by : HandsOut r.entries (wires_of new) end s → ⊥
      by (inl h) = other (h.0 ∙ e)
      by (inr none) = some none.0
