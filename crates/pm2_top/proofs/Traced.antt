-- The trace of a command's end is legal, and its links have carried it.
use Rattle.std.proofs.Common.{◌≡◌, ℕ, List, [], Option, Result, Ok, Err, Bool, true, false, inl, inr, refl, sym, ap, ◌∙◌, subst}
use Rattle.std.specs.Prelude.{◌⊎◌, ◌≢◌, IfSome, IsSomeAnd, reverse}
use Rattle.outside.specs.Outside.{Content}
use Rattle.outside.specs.declared.outside.WriteRefusal.{WriteRefusal}
use Rattle.outside.specs.declared.outside.WriteRefusal.TheVariants as refusals
use Rattle.rv_inst.specs.declared.image.Image.{Image}
use Rattle.rv_asm.specs.declared.error.AsmError.{AsmError}
use Rattle.levels.specs.Trees.{processors}
use Rattle.run_trace.specs.declared.entry.Entry.{Entry}
use Rattle.run_trace.specs.declared.packet.Packet.{Packet}
use Rattle.run_trace.specs.Legality.{Legal}
use Rattle.run_trace.specs.Program.{Program}
use Rattle.run_texts.specs.declared.schedule.Scheduled.{Scheduled}
use Rattle.wires.specs.declared.ends.Ends.{Ends}
use Rattle.wires.specs.Wires.{AreFreshFor}
use Rattle.node_state.specs.Events.{program}
use Rattle.settings.specs.Settings.{Chosen}
use Rattle.settings.specs.declared.command.Command.{Command}
use Rattle.settings.specs.declared.command.Command.TheVariants.{Asm, Run, Sim, Replay, Stress}
use Rattle.simulation.specs.Ends.{Carries}
use Rattle.simulation.specs.declared.simulation.RunEnd.{RunEnd}
use Rattle.simulation.specs.declared.simulation.RunEnd.TheVariants as end
use Rattle.simulation.specs.declared.simulation.Simulated.{Simulated}
use Rattle.pm2_top.specs.Asked.{IsImageOf, image_in, acts_in}
use Rattle.pm2_top.specs.Delivery.{is_told, Tells, Nothing, All, Refused, with_status}
use Rattle.pm2_top.specs.Number.{end_status, refusal_status}
use Rattle.pm2_top.specs.Outcome.{EndsPlainly, HasRunAs, DrawnBy, InRounds, ScheduledBy, DoneWith, HasSourceEnded, HasRun, NotRead, Read, HasObeyed, HasEnded, NoSettings, NotSettled, Settled, IsTraceOf, NothingRan, LegalRun, plainly, node_limit, IsUntouched, HasCarried, LeavesLinks, ByStatus, IsCarriedOut}
use Rattle.pm2_top.specs.declared.report.Report.{Report}
use Rattle.pm2_top.specs.declared.status.Status.{Status}
use Rattle.pm2_top.specs.declared.status.Status.TheVariants.{Done, Usage, BadSource, Stalled, OutOfTurns, ReadFault, WriteFault, NoMemory, NotPossible, BadScheduleText}
use Rattle.pm2_top.proofs.Given.{image_given}
use Rattle.pm2_top.proofs.Ran.{IsTold, of_settings, obeyed_with}

-- ## By the status

each : (s : Status) (A B : Type 0) → A → B → ByStatus s A B
each Done A B a b = b
each Usage A B a b = a
each (BadSource error) A B a b = a
each Stalled A B a b = b
each OutOfTurns A B a b = b
each ReadFault A B a b = a
each WriteFault A B a b = b
each NoMemory A B a b = tt
each (NotPossible line) A B a b = b
each (BadScheduleText line) A B a b = a

replaced : (s : Status) (A B C : Type 0) → (B → C) → ByStatus s A B → ByStatus s A C
replaced Done A B C f h = f h
replaced Usage A B C f h = h
replaced (BadSource error) A B C f h = h
replaced Stalled A B C f h = f h
replaced OutOfTurns A B C f h = f h
replaced ReadFault A B C f h = h
replaced WriteFault A B C f h = f h
replaced NoMemory A B C f h = tt
replaced (NotPossible line) A B C f h = f h
replaced (BadScheduleText line) A B C f h = h

of_end : (e : RunEnd) (A B : Type 0) → (e ≢ end.NoMemory → B) → ByStatus (end_status e) A B
of_end end.Done A B f = f (λ h. cc h)
of_end end.Stalled A B f = f (λ h. cc h)
of_end end.OutOfTurns A B f = f (λ h. cc h)
of_end (end.NotPossible line) A B f = f (λ h. cc h)
of_end end.WriteFault A B f = f (λ h. cc h)
of_end end.NoMemory A B f = tt

-- where something is told at the end, something has run
told_done : (s : Status) (A B : Type 0) → is_told s ≡ true → ByStatus s A B → B
told_done Done A B is h = h
told_done Stalled A B is h = h
told_done OutOfTurns A B is h = h
told_done (NotPossible line) A B is h = h
told_done Usage A B is h = let bad : false ≡ true = is in cc
told_done (BadSource error) A B is h = let bad : false ≡ true = is in cc
told_done ReadFault A B is h = let bad : false ≡ true = is in cc
told_done WriteFault A B is h = let bad : false ≡ true = is in cc
told_done NoMemory A B is h = let bad : false ≡ true = is in cc
told_done (BadScheduleText line) A B is h = let bad : false ≡ true = is in cc

-- ## A run

-- the run's trace is legal, or there is none, for want of memory
abbrev IsLegal : Program → Simulated → Type 0
IsLegal p s = Legal p (reverse s.trace) ⊎ ((s.trace ≡ []) × (s.end ≡ end.NoMemory))

drawn_legal : (moves : Bool) (turns seed : ℕ) (p : Program) (s : Simulated) → DrawnBy moves turns seed p s → IsLegal p s
drawn_legal moves turns seed p s (inl r) = inl r.legal
drawn_legal moves turns seed p s (inr none) = inr none

rounds_legal : (turns : ℕ) (p : Program) (s : Simulated) → InRounds turns p s → IsLegal p s
rounds_legal turns p s (inl r) = inl r.legal
rounds_legal turns p s (inr none) = inr none

scheduled_legal : (acts : List Scheduled) (p : Program) (s : Simulated) → ScheduledBy acts p s → IsLegal p s
scheduled_legal acts p s (inl r) = inl r.legal
scheduled_legal acts p s (inr none) = inr none

module _ (files : Content) (given : List (Ends Packet)) (fresh : AreFreshFor node_limit given) where
  -- what is to be shown of a command's end
  pub record IsGood (asked : Chosen) (ended : Report) : Type 0 where
    pub legal : IsTraceOf files asked ended.trace
    pub links : ByStatus ended.status (IsUntouched ended.trace ended.wires) (LeavesLinks asked.command files asked ended.trace ended.wires)

  nothing : (asked : Chosen) (s : Status) → ByStatus s (IsUntouched [] given) (LeavesLinks asked.command files asked [] given) → IsGood asked (plainly s given)
  nothing asked s h = record { legal = NothingRan refl; links = h }

  untouched : IsUntouched [] given
  untouched = record { nothing = refl; fresh = fresh }

  plain : (asked : Chosen) (s : Status) (w now : Option (List ℕ)) (ended : Report) → ByStatus s (IsUntouched [] given) (LeavesLinks asked.command files asked [] given)
      → EndsPlainly s given w now ended → IsGood asked ended
  plain asked s w now ended h (same, inl is) = subst (λ r. IsGood asked r) (sym is) (nothing asked s h)
  plain asked s w now ended h (same, inr is) = subst (λ r. IsGood asked r) (sym is) (nothing asked NoMemory tt)

  -- a run on an image of the source, of which the links of the command are those of a run
  module _ (R : Program → Simulated → Type 0) (all_legal : (p : Program) (s : Simulated) → R p s → IsLegal p s) (asked : Chosen) (image : Image) (of_source : IsImageOf files asked.command image)
      (w now : Option (List ℕ)) (ended : Report) (d : HasRunAs R asked image given w now ended) where
    p : Program
    p = program d.setup image

    is_trace : IsTraceOf files asked d.run.trace
    is_trace = by (all_legal (program d.setup image) d.run d.ran)
      where
        by : IsLegal (program d.setup image) d.run → IsTraceOf files asked d.run.trace
        by (inl l) = LegalRun image of_source d.setup d.cluster l
        by (inr none) = NothingRan none.0

    has_carried : d.run.end ≢ end.NoMemory → HasCarried files asked d.run.trace d.run.wires
    has_carried enough =
        let k : Carries (program d.setup image) given d.run = d.carries enough in
        record {
          image = image;
          of_source = of_source;
          setup = d.setup;
          cluster = d.cluster;
          legal = by (all_legal (program d.setup image) d.run d.ran);
          nodes = k.nodes ∙ fresh.nodes;
          carried = k.carried;
        }
      where
        by : IsLegal (program d.setup image) d.run → Legal (program d.setup image) (reverse d.run.trace)
        by (inl l) = l
        by (inr none) = absurd (enough none.1)

    ran : (HasCarried files asked d.run.trace d.run.wires → LeavesLinks asked.command files asked d.run.trace d.run.wires) → IsGood asked ended
    ran links = subst (λ r. IsGood asked r) (sym d.reported) (record {
      legal = is_trace;
      links = of_end d.run.end (IsUntouched d.run.trace d.run.wires) (LeavesLinks asked.command files asked d.run.trace d.run.wires) (λ enough. links (has_carried enough));
    })

  -- the same where the command is told apart
  of_image : (command : Command) (asked : Chosen) → asked.command ≡ command → (acts : Result (List Scheduled) ℕ) (image : Image) → IsImageOf files asked.command image → (w now : Option (List ℕ)) (ended : Report)
      → DoneWith command asked acts image given w now ended → IsGood asked ended
  of_image (Asm name) asked is acts image from w now ended d = record {
    legal = NothingRan d.1;
    links = each ended.status _ _ same (subst (λ c. LeavesLinks c files asked ended.trace ended.wires) (sym is) same);
  }
    where
      same : IsUntouched ended.trace ended.wires
      same = record { nothing = d.1; fresh = subst (λ (es : List (Ends Packet)). AreFreshFor node_limit es) (sym d.2) fresh }
  of_image (Run name) asked is acts image from w now ended d =
      ran (InRounds asked.turns) (rounds_legal asked.turns) asked image from w now ended d (λ h. subst (λ c. LeavesLinks c files asked d.run.trace d.run.wires) (sym is) h)
  of_image (Sim name) asked is acts image from w now ended d =
      ran (DrawnBy asked.moves asked.turns asked.seed) (drawn_legal asked.moves asked.turns asked.seed) asked image from w now ended d
      (λ h. subst (λ c. LeavesLinks c files asked d.run.trace d.run.wires) (sym is) h)
  of_image (Stress jobs) asked is acts image from w now ended d =
      ran (InRounds asked.turns) (rounds_legal asked.turns) asked image from w now ended d (λ h. subst (λ c. LeavesLinks c files asked d.run.trace d.run.wires) (sym is) h)
  of_image (Replay name file) asked is (Ok acts) image from w now ended (inl none) = plain asked NoMemory w now ended tt none
  of_image (Replay name file) asked is (Ok acts) image from w now ended (inr d) =
      ran (ScheduledBy acts) (scheduled_legal acts) asked image from w now ended d (λ h. subst (λ c. LeavesLinks c files asked d.run.trace d.run.wires) (sym is) h)
  of_image (Replay name file) asked is (Err line) image from w now ended none = plain asked (BadScheduleText line) w now ended untouched none

  of_run : (asked : Chosen) (w now : Option (List ℕ)) (ended : Report) → HasRun files asked given w now ended → IsGood asked ended
  of_run asked w now ended (NotRead h) = plain asked ReadFault w now ended untouched h
  of_run asked w now ended (Read source schedule may d) = by (image_in source) refl d
    where
      by : (r : Result Image AsmError) → image_in source ≡ r → HasSourceEnded asked r (acts_in asked.nodes (processors asked.tree) schedule) given w now ended → IsGood asked ended
      by (Ok image) is (inl none) = plain asked NoMemory w now ended tt none
      by (Ok image) is (inr d) = of_image asked.command asked refl (acts_in asked.nodes (processors asked.tree) schedule) image (image_given files asked.command source schedule image may is) w now ended d
      by (Err error) is none = plain asked (BadSource error) w now ended untouched none

  refused : (asked : Chosen) (ran : Report) (r : WriteRefusal) → is_told ran.status ≡ true → IsGood asked ran → IsGood asked (with_status (refusal_status r) ran)
  refused asked ran refusals.Failed told good = record { legal = good.legal; links = told_done ran.status _ _ told good.links }
  refused asked ran refusals.NoMemory told good = record { legal = good.legal; links = tt }

  of_obeyed : (asked : Chosen) (w now : Option (List ℕ)) (ended : Report) → HasObeyed files asked given w now ended → IsGood asked ended
  of_obeyed asked w now ended o = by o.tells
    where
      good : IsGood asked o.ran
      good = of_run asked w o.shown o.ran o.has_run

      by : Tells asked o.ran o.shown now ended → IsGood asked ended
      by (Nothing none same is) = subst (λ r. IsGood asked r) (sym is) good
      by (All some text is) = subst (λ r. IsGood asked r) (sym is) good
      by (Refused told part refusal is) = subst (λ r. IsGood asked r) (sym is) (refused asked o.ran refusal told good)

  pub legal : (settings : Option Chosen) (w now : Option (List ℕ)) (ended : Report) (trace : List Entry) → HasEnded files settings given w now ended → trace ≡ ended.trace
      → IfSome settings (λ asked. IsTraceOf files asked trace)
  legal settings w now ended trace done is =
      of_settings settings (λ asked. IsTraceOf files asked trace) (λ asked some. subst (λ (t : List Entry). IsTraceOf files asked t) (sym is) (by asked (obeyed_with files settings given w now ended asked done some)))
    where
      by : (asked : Chosen) → (ended ≡ plainly NoMemory given) ⊎ HasObeyed files asked given w now ended → IsTraceOf files asked ended.trace
      by asked (inl h) = NothingRan (ap (λ (r : Report). r.trace) h)
      by asked (inr o) = (of_obeyed asked w now ended o).legal

  of_command : (settings : Option Chosen) (w now : Option (List ℕ)) (ended : Report) → HasEnded files settings given w now ended → IsCarriedOut files settings ended
  of_command settings w now ended (NoSettings none same h) = subst (λ r. IsCarriedOut files settings r) (sym h) untouched
  of_command settings w now ended (NotSettled same h) = subst (λ r. IsCarriedOut files settings r) (sym h) tt
  of_command settings w now ended (Settled asked some o) =
      replaced ended.status _ (LeavesLinks asked.command files asked ended.trace ended.wires) (IsSomeAnd settings (λ a. LeavesLinks a.command files a ended.trace ended.wires))
      (λ h. subst (λ z. IsSomeAnd z (λ a. LeavesLinks a.command files a ended.trace ended.wires)) (sym some) h) (of_obeyed asked w now ended o).links

  -- the same of what is reported
  pub carried : (settings : Option Chosen) (w now : Option (List ℕ)) (ended report : Report) → HasEnded files settings given w now ended → IsTold ended report.status
      → report.trace ≡ ended.trace → report.wires ≡ ended.wires → IsCarriedOut files settings report
  carried settings w now ended report done (inl told) trace wires =
      let same : report ≡ ended = ap (λ s. record { status = s; trace = report.trace; wires = report.wires }) told
      ∙ (ap (λ (t : List Entry). record { status = ended.status; trace = t; wires = report.wires }) trace
      ∙ ap (λ (es : List (Ends Packet)). record { status = ended.status; trace = ended.trace; wires = es }) wires) in
      subst (λ r. IsCarriedOut files settings r) (sym same) (of_command settings w now ended done)
  carried settings w now ended report done (inr told) trace wires =
      subst (λ s. ByStatus s (IsUntouched report.trace report.wires) (IsSomeAnd settings (λ a. LeavesLinks a.command files a report.trace report.wires))) (sym told) tt
