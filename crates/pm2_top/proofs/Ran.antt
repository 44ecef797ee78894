-- What the end of a command says of its status.
use Rattle.std.proofs.Common.{◌≡◌, ℕ, List, [], ◌∷◌, length, take, Option, Some, None, Result, Ok, Err, true, false, inl, inr, refl, sym, ap, ◌∙◌, subst}
use Rattle.std.specs.Prelude.{◌⊎◌, Bool, IfSome, OnErr, ⊤}
use Rattle.std.proofs.lemmas.List.{append-nil}
use Rattle.std.proofs.Math.Seq.{take-append_seam}
use Rattle.outside.specs.Outside.{Content, Appends, AppendsPrefix, file_at}
use Rattle.outside.specs.declared.outside.WriteRefusal.TheVariants as refusals
use Rattle.rv_inst.specs.declared.image.Image.{Image}
use Rattle.rv_asm.specs.declared.error.AsmError.{AsmError}
use Rattle.rv_asm.specs.Images.{image_of}
use Rattle.asm_list.specs.Listing.{listing}
use Rattle.levels.specs.Trees.{processors}
use Rattle.run_trace.specs.declared.packet.Packet.{Packet}
use Rattle.run_trace.specs.declared.entry.Entry.{Entry}
use Rattle.run_trace.specs.Legality.{boot_entries}
use Rattle.run_trace.specs.Program.{Program, nodes_of}
use Rattle.run_texts.specs.declared.schedule.Scheduled.{Scheduled}
use Rattle.wires.specs.declared.ends.Ends.{Ends}
use Rattle.settings.specs.Settings.{Chosen}
use Rattle.settings.specs.declared.command.Command.{Command}
use Rattle.settings.specs.declared.command.Command.TheVariants.{Asm, Run, Sim, Replay, Stress}
use Rattle.simulation.specs.Ends.{EndsAt}
use Rattle.simulation.specs.Rounds.{EndsWith}
use Rattle.simulation.specs.declared.simulation.RunEnd.{RunEnd}
use Rattle.simulation.specs.declared.simulation.RunEnd.TheVariants as end
use Rattle.simulation.specs.declared.simulation.Simulated.{Simulated}
use Rattle.pm2_top.specs.Asked.{LacksAny, MayBeSuch, MayBeGiven, acts_in, acts_of, image_in, schedule_in, source_in}
use Rattle.pm2_top.specs.Delivery.{is_told, Tells, Nothing, All, Refused}
use Rattle.pm2_top.specs.Number.{end_status}
use Rattle.pm2_top.specs.Outcome.{IsUnlessMemory, IsUsual, IsRunsEnd, Lists, HasSource, HasSchedule, EndsPlainly, HasRunAs, DrawnBy, InRounds, HasReplayed, DoneWith, HasSourceEnded, HasRun, NotRead, Read, HasObeyed, HasEnded, NoSettings, NotSettled, Settled, plainly}
use Rattle.pm2_top.specs.declared.status.Status.{Status}
use Rattle.pm2_top.specs.declared.status.Status.TheVariants.{Done, Usage, BadSource, Stalled, OutOfTurns, ReadFault, WriteFault, NoMemory, NotPossible, BadScheduleText}
use Rattle.pm2_top.specs.declared.report.Report.{Report}
use Rattle.pm2_top.specs.Texts.{StatusTold}
use Rattle.pm2_top.proofs.Given.{at_told, source_such, no_source, no_schedule, schedule_such}

-- ## What is written

-- nothing is written yet
pub none_yet : (w : Option (List ℕ)) (text : List ℕ) → AppendsPrefix w text w
none_yet None text = (0, refl)
none_yet (Some b) text = (0, ap Some (sym (append-nil b)))

-- what was written whole is a first part of itself
pub whole_part : (written : Option (List ℕ)) (xs : List ℕ) (now : Option (List ℕ)) → Appends written xs now → AppendsPrefix written xs now
whole_part written xs now h = (length xs, subst (λ ys. Appends written ys now) (sym (take_all xs)) h)
  where
    take_all : (xs : List ℕ) → take (length xs) xs ≡ xs
    take_all xs = ap (take (length xs)) (sym (append-nil xs)) ∙ take-append_seam xs []

pub on_err : {A E : Type 0} (r : Result A E) (P : Type 0) → P → OnErr r P
on_err (Ok a) P p = tt
on_err (Err e) P p = p

-- ## The status of a command's end

status_is : {given : List (Ends Packet)} (ended : Report) (s : Status) → ended ≡ plainly s given → ended.status ≡ s
status_is ended s is = ap (λ (x : Report). x.status) is

plain : (s : Status) (given : List (Ends Packet)) (w now : Option (List ℕ)) (ended : Report) → EndsPlainly s given w now ended → IsUnlessMemory ended.status s
plain s given w now ended (same, inl h) = inl (status_is ended s h)
plain s given w now ended (same, inr h) = inr (status_is ended NoMemory h)

ran_status : (R : Program → Simulated → Type 0) (asked : Chosen) (image : Image) (given : List (Ends Packet)) (w now : Option (List ℕ)) (ended : Report) → (d : HasRunAs R asked image given w now ended)
    → ended.status ≡ end_status d.run.end
ran_status R asked image given w now ended d = ap (λ (x : Report). x.status) d.reported

-- why a command may end with this status
abbrev pub Cause : Content → Command → (nodes processors : ℕ) → Status → Type 0
Cause files command nodes processors Done = ⊤
Cause files command nodes processors Usage = ⊥
Cause files command nodes processors (BadSource error) = MayBeSuch (source_in files command) (λ bytes. image_of bytes ≡ Err error)
Cause files command nodes processors Stalled = ⊤
Cause files command nodes processors OutOfTurns = ⊤
Cause files command nodes processors ReadFault = ⊤
Cause files command nodes processors WriteFault = ⊤
Cause files command nodes processors NoMemory = ⊤
Cause files command nodes processors (NotPossible line) = ⊤
Cause files command nodes processors (BadScheduleText line) = MayBeSuch (schedule_in files command) (λ bytes. acts_of nodes processors bytes ≡ Err line)

module _ (files : Content) (command : Command) (nodes processors : ℕ) where
  unless : (s t : Status) → Cause files command nodes processors s → IsUnlessMemory t s → Cause files command nodes processors t
  unless s t c (inl e) = subst (λ x. Cause files command nodes processors x) (sym e) c
  unless s t c (inr e) = subst (λ x. Cause files command nodes processors x) (sym e) tt

  run_cause : (e : RunEnd) → Cause files command nodes processors (end_status e)
  run_cause end.Done = tt
  run_cause end.Stalled = tt
  run_cause end.OutOfTurns = tt
  run_cause (end.NotPossible line) = tt
  run_cause end.WriteFault = tt
  run_cause end.NoMemory = tt

  listing_cause : (text : List ℕ) (w now : Option (List ℕ)) (s : Status) → Lists text w now s → Cause files command nodes processors s
  listing_cause text w now Done d = tt
  listing_cause text w now WriteFault d = tt
  listing_cause text w now NoMemory d = tt
  listing_cause text w now Usage d = absurd d
  listing_cause text w now (BadSource error) d = absurd d
  listing_cause text w now Stalled d = absurd d
  listing_cause text w now OutOfTurns d = absurd d
  listing_cause text w now ReadFault d = absurd d
  listing_cause text w now (NotPossible line) d = absurd d
  listing_cause text w now (BadScheduleText line) d = absurd d

  ran_cause : (R : Program → Simulated → Type 0) (asked : Chosen) (image : Image) (given : List (Ends Packet)) (w now : Option (List ℕ)) (ended : Report) → HasRunAs R asked image given w now ended
      → Cause files command nodes processors ended.status
  ran_cause R asked image given w now ended d = subst (λ x. Cause files command nodes processors x) (sym (ran_status R asked image given w now ended d)) (run_cause d.run.end)

done_cause : (files : Content) (command : Command) (asked : Chosen) (source schedule : Option (List ℕ)) (image : Image) (given : List (Ends Packet)) (w now : Option (List ℕ)) (ended : Report)
    → MayBeGiven files command source schedule → DoneWith command asked (acts_in asked.nodes (processors asked.tree) schedule) image given w now ended → Cause files command asked.nodes (processors asked.tree) ended.status
done_cause files (Asm name) asked source schedule image given w now ended may d = listing_cause files (Asm name) asked.nodes (processors asked.tree) (listing image) w now ended.status d.0
done_cause files (Run name) asked source schedule image given w now ended may d = ran_cause files (Run name) asked.nodes (processors asked.tree) _ asked image given w now ended d
done_cause files (Sim name) asked source schedule image given w now ended may d = ran_cause files (Sim name) asked.nodes (processors asked.tree) _ asked image given w now ended d
done_cause files (Stress jobs) asked source schedule image given w now ended may d = ran_cause files (Stress jobs) asked.nodes (processors asked.tree) _ asked image given w now ended d
done_cause files (Replay name acts) asked source schedule image given w now ended may d = by (acts_in asked.nodes (processors asked.tree) schedule) refl d
  where
    by : (r : Result (List Scheduled) ℕ) → acts_in asked.nodes (processors asked.tree) schedule ≡ r → HasReplayed asked r image given w now ended → Cause files (Replay name acts) asked.nodes (processors asked.tree) ended.status
    by (Ok items) is (inl none) = unless files (Replay name acts) asked.nodes (processors asked.tree) NoMemory ended.status tt (plain NoMemory given w now ended none)
    by (Ok items) is (inr ran) = ran_cause files (Replay name acts) asked.nodes (processors asked.tree) _ asked image given w now ended ran
    by (Err line) is none =
        unless files (Replay name acts) asked.nodes (processors asked.tree) (BadScheduleText line) ended.status (no_schedule asked.nodes (processors asked.tree) line (file_at files acts) schedule may.1 is) (plain (BadScheduleText line) given w now ended none)

cause : (files : Content) (asked : Chosen) (given : List (Ends Packet)) (w now : Option (List ℕ)) (ended : Report) → HasRun files asked given w now ended → Cause files asked.command asked.nodes (processors asked.tree) ended.status
cause files asked given w now ended (NotRead h) = unless files asked.command asked.nodes (processors asked.tree) ReadFault ended.status tt (plain ReadFault given w now ended h)
cause files asked given w now ended (Read source schedule may d) = by (image_in source) refl d
  where
    by : (r : Result Image AsmError) → image_in source ≡ r → HasSourceEnded asked r (acts_in asked.nodes (processors asked.tree) schedule) given w now ended → Cause files asked.command asked.nodes (processors asked.tree) ended.status
    by (Ok image) is (inl none) = unless files asked.command asked.nodes (processors asked.tree) NoMemory ended.status tt (plain NoMemory given w now ended none)
    by (Ok image) is (inr d) = done_cause files asked.command asked source schedule image given w now ended may d
    by (Err error) is none =
        unless files asked.command asked.nodes (processors asked.tree) (BadSource error) ended.status (no_source files asked.command source schedule error may is) (plain (BadSource error) given w now ended none)

-- ## Where the files are told

-- it was no read that failed, and nothing else that has no cause in the program
abbrev IsFault : Status → Type 0
IsFault status = (status ≡ NoMemory) ⊎ ((status ≡ ReadFault) ⊎ (status ≡ WriteFault))

-- no run has an act that isn't possible
abbrev NeverIdle : RunEnd → Type 0
NeverIdle e = (line : ℕ) → e ≡ end.NotPossible line → ⊥

drawn_never_idle : (moves : Bool) (turns seed : ℕ) (p : Program) (s : Simulated) → DrawnBy moves turns seed p s → NeverIdle s.end
drawn_never_idle moves turns seed p s (inl r) line is = subst (λ e. EndsAt p turns (boot_entries p (nodes_of p)) r.later e) is r.ends
drawn_never_idle moves turns seed p s (inr none) line is = let bad : end.NoMemory ≡ end.NotPossible line = sym none.1 ∙ is in cc

rounds_never_idle : (turns : ℕ) (p : Program) (s : Simulated) → InRounds turns p s → NeverIdle s.end
rounds_never_idle turns p s (inl r) line is = by r.rounds (subst (λ e. EndsWith p turns (boot_entries p (nodes_of p)) r.rounds e) is r.ends)
  where
    by : (rounds : List (List Entry)) → EndsWith p turns (boot_entries p (nodes_of p)) rounds (end.NotPossible line) → ⊥
    by [] h = h
    by (round ∷ before) h = h
rounds_never_idle turns p s (inr none) line is = let bad : end.NoMemory ≡ end.NotPossible line = sym none.1 ∙ is in cc

end_usual : (e : RunEnd) → NeverIdle e → IsRunsEnd (end_status e) ⊎ IsFault (end_status e)
end_usual end.Done f = inl (inl refl)
end_usual end.Stalled f = inl (inr (inl refl))
end_usual end.OutOfTurns f = inl (inr (inr refl))
end_usual (end.NotPossible line) f = absurd (f line refl)
end_usual end.WriteFault f = inr (inr (inr refl))
end_usual end.NoMemory f = inr (inl refl)

run_usual : (R : Program → Simulated → Type 0) → ((p : Program) (s : Simulated) → R p s → NeverIdle s.end) → (asked : Chosen) (image : Image) (given : List (Ends Packet)) (w now : Option (List ℕ)) (ended : Report)
    → HasRunAs R asked image given w now ended → IsRunsEnd ended.status ⊎ IsFault ended.status
run_usual R never asked image given w now ended d =
    subst (λ s. IsRunsEnd s ⊎ IsFault s) (sym (ran_status R asked image given w now ended d)) (end_usual d.run.end (never _ d.run d.ran))

listing_usual : (name text : List ℕ) (w now : Option (List ℕ)) (s : Status) → Lists text w now s → IsUsual (Asm name) s ⊎ IsFault s
listing_usual name text w now Done d = inl refl
listing_usual name text w now WriteFault d = inr (inr (inr refl))
listing_usual name text w now NoMemory d = inr (inl refl)
listing_usual name text w now Usage d = absurd d
listing_usual name text w now (BadSource error) d = absurd d
listing_usual name text w now Stalled d = absurd d
listing_usual name text w now OutOfTurns d = absurd d
listing_usual name text w now ReadFault d = absurd d
listing_usual name text w now (NotPossible line) d = absurd d
listing_usual name text w now (BadScheduleText line) d = absurd d

replay_usual : (name acts : List ℕ) (e : RunEnd) → IsUsual (Replay name acts) (end_status e) ⊎ IsFault (end_status e)
replay_usual name acts end.Done = inl (inl (inl refl))
replay_usual name acts end.Stalled = inl (inl (inr (inl refl)))
replay_usual name acts end.OutOfTurns = inl (inl (inr (inr refl)))
replay_usual name acts (end.NotPossible line) = inl (inr (line, inl refl))
replay_usual name acts end.WriteFault = inr (inr (inr refl))
replay_usual name acts end.NoMemory = inr (inl refl)

-- want of memory, or what it is else
or_else : (U : Status → Type 0) (s t : Status) → U s ⊎ IsFault s → IsUnlessMemory t s → U t ⊎ IsFault t
or_else U s t u (inl e) = subst (λ x. U x ⊎ IsFault x) (sym e) u
or_else U s t u (inr e) = inr (inl e)

done_usual : (command : Command) (asked : Chosen) (acts : Result (List Scheduled) ℕ) (image : Image) (given : List (Ends Packet)) (w now : Option (List ℕ)) (ended : Report)
    → DoneWith command asked acts image given w now ended → IsUsual command ended.status ⊎ IsFault ended.status
done_usual (Asm name) asked acts image given w now ended d = listing_usual name (listing image) w now ended.status d.0
done_usual (Run name) asked acts image given w now ended d = run_usual (InRounds asked.turns) (rounds_never_idle asked.turns) asked image given w now ended d
done_usual (Sim name) asked acts image given w now ended d =
    run_usual (DrawnBy asked.moves asked.turns asked.seed) (drawn_never_idle asked.moves asked.turns asked.seed) asked image given w now ended d
done_usual (Stress jobs) asked acts image given w now ended d = run_usual (InRounds asked.turns) (rounds_never_idle asked.turns) asked image given w now ended d
done_usual (Replay name file) asked (Ok acts) image given w now ended (inl none) = or_else (IsUsual (Replay name file)) NoMemory ended.status (inr (inl refl)) (plain NoMemory given w now ended none)
done_usual (Replay name file) asked (Ok acts) image given w now ended (inr d) =
    subst (λ s. IsUsual (Replay name file) s ⊎ IsFault s) (sym (ran_status _ asked image given w now ended d)) (replay_usual name file d.run.end)
done_usual (Replay name file) asked (Err line) image given w now ended none =
    or_else (IsUsual (Replay name file)) (BadScheduleText line) ended.status (inl (inr (line, inr refl))) (plain (BadScheduleText line) given w now ended none)

-- a source with an image
abbrev has : Image → Result Image AsmError
has image = Ok image

abbrev fails : AsmError → Result Image AsmError
fails error = Err error

usual_of : (files : Content) (asked : Chosen) (given : List (Ends Packet)) (w now : Option (List ℕ)) (ended : Report) → HasRun files asked given w now ended → HasSource files asked
    → IsUsual asked.command ended.status ⊎ IsFault ended.status
usual_of files asked given w now ended (NotRead h) source = or_else (IsUsual asked.command) ReadFault ended.status (inr (inr (inl refl))) (plain ReadFault given w now ended h)
usual_of files asked given w now ended (Read text schedule may d) source =
    by (subst (λ r. HasSourceEnded asked r (acts_in asked.nodes (processors asked.tree) schedule) given w now ended) image_is d)
  where
    image_is : image_in text ≡ has source.image
    image_is = sym (at_told (source_in files asked.command) source.bytes (λ b. image_of b ≡ image_in text) source.told (source_such files asked.command text schedule may)) ∙ source.assembled

    by : HasSourceEnded asked (has source.image) (acts_in asked.nodes (processors asked.tree) schedule) given w now ended → IsUsual asked.command ended.status ⊎ IsFault ended.status
    by (inl none) = or_else (IsUsual asked.command) NoMemory ended.status (inr (inl refl)) (plain NoMemory given w now ended none)
    by (inr d) = done_usual asked.command asked (acts_in asked.nodes (processors asked.tree) schedule) source.image given w now ended d

-- a status, or a file wasn't read, or there was no memory
abbrev IsUnlessRead : Status → Status → Type 0
IsUnlessRead status s = IsUnlessMemory status s ⊎ (status ≡ ReadFault)

bad_of : (files : Content) (asked : Chosen) (given : List (Ends Packet)) (w now : Option (List ℕ)) (ended : Report) (bytes : List ℕ) (error : AsmError) → HasRun files asked given w now ended
    → source_in files asked.command ≡ Some (Some bytes) → image_of bytes ≡ Err error → IsUnlessRead ended.status (BadSource error)
bad_of files asked given w now ended bytes error (NotRead (same, inl h)) told is = inr (status_is ended ReadFault h)
bad_of files asked given w now ended bytes error (NotRead (same, inr h)) told is = inl (inr (status_is ended NoMemory h))
bad_of files asked given w now ended bytes error (Read text schedule may d) told is =
    inl (plain (BadSource error) given w now ended (subst (λ r. HasSourceEnded asked r (acts_in asked.nodes (processors asked.tree) schedule) given w now ended) reason d))
  where
    reason : image_in text ≡ fails error
    reason = sym (at_told (source_in files asked.command) bytes (λ b. image_of b ≡ image_in text) told (source_such files asked.command text schedule may)) ∙ is

-- a schedule that has a bad line
abbrev spoilt : ℕ → Result (List Scheduled) ℕ
spoilt line = Err line

bad_done : (files : Content) (command : Command) (asked : Chosen) (text schedule : Option (List ℕ)) (image : Image) (given : List (Ends Packet)) (w now : Option (List ℕ)) (ended : Report) (bytes : List ℕ) (line : ℕ)
    → MayBeGiven files command text schedule → DoneWith command asked (acts_in asked.nodes (processors asked.tree) schedule) image given w now ended → schedule_in files command ≡ Some (Some bytes) → acts_of asked.nodes (processors asked.tree) bytes ≡ Err line
    → IsUnlessMemory ended.status (BadScheduleText line)
bad_done files (Asm name) asked text schedule image given w now ended bytes line may d told is = let bad : Some None ≡ Some (Some bytes) = told in cc
bad_done files (Run name) asked text schedule image given w now ended bytes line may d told is = let bad : Some None ≡ Some (Some bytes) = told in cc
bad_done files (Sim name) asked text schedule image given w now ended bytes line may d told is = let bad : Some None ≡ Some (Some bytes) = told in cc
bad_done files (Stress jobs) asked text schedule image given w now ended bytes line may d told is = let bad : Some None ≡ Some (Some bytes) = told in cc
bad_done files (Replay name acts) asked text schedule image given w now ended bytes line may d told is =
    plain (BadScheduleText line) given w now ended (subst (λ r. HasReplayed asked r image given w now ended) reason d)
  where
    reason : acts_in asked.nodes (processors asked.tree) schedule ≡ spoilt line
    reason = sym (at_told (file_at files acts) bytes (λ b. acts_of asked.nodes (processors asked.tree) b ≡ acts_in asked.nodes (processors asked.tree) schedule) told (schedule_such asked.nodes (processors asked.tree) (file_at files acts) schedule may.1)) ∙ is

bad_schedule_of : (files : Content) (asked : Chosen) (given : List (Ends Packet)) (w now : Option (List ℕ)) (ended : Report) (bytes : List ℕ) (line : ℕ) → HasRun files asked given w now ended
    → HasSource files asked → schedule_in files asked.command ≡ Some (Some bytes) → acts_of asked.nodes (processors asked.tree) bytes ≡ Err line → IsUnlessRead ended.status (BadScheduleText line)
bad_schedule_of files asked given w now ended bytes line (NotRead (same, inl h)) source told is = inr (status_is ended ReadFault h)
bad_schedule_of files asked given w now ended bytes line (NotRead (same, inr h)) source told is = inl (inr (status_is ended NoMemory h))
bad_schedule_of files asked given w now ended bytes line (Read text schedule may d) source told is =
    by (subst (λ r. HasSourceEnded asked r (acts_in asked.nodes (processors asked.tree) schedule) given w now ended) image_is d)
  where
    image_is : image_in text ≡ has source.image
    image_is = sym (at_told (source_in files asked.command) source.bytes (λ b. image_of b ≡ image_in text) source.told (source_such files asked.command text schedule may)) ∙ source.assembled

    memory : IsUnlessMemory ended.status NoMemory → ended.status ≡ NoMemory
    memory (inl e) = e
    memory (inr e) = e

    by : HasSourceEnded asked (has source.image) (acts_in asked.nodes (processors asked.tree) schedule) given w now ended → IsUnlessRead ended.status (BadScheduleText line)
    by (inl none) = inl (inr (memory (plain NoMemory given w now ended none)))
    by (inr d) = inl (bad_done files asked.command asked text schedule source.image given w now ended bytes line may d told is)

-- ## The status that is told

-- a status stays, but for want of memory; where something is told at the end, writing it may have been refused
abbrev pub Becomes : Status → Status → Type 0
Becomes first last = (last ≡ first) ⊎ ((last ≡ NoMemory) ⊎ ((last ≡ WriteFault) × (is_told first ≡ true)))

becomes : (asked : Chosen) (ran : Report) (w now : Option (List ℕ)) (ended : Report) → Tells asked ran w now ended → Becomes ran.status ended.status
becomes asked ran w now ended (Nothing none same is) = inl (ap (λ (x : Report). x.status) is)
becomes asked ran w now ended (All some same is) = inl (ap (λ (x : Report). x.status) is)
becomes asked ran w now ended (Refused some part refusals.Failed is) = inr (inr (ap (λ (x : Report). x.status) is, some))
becomes asked ran w now ended (Refused some part refusals.NoMemory is) = inr (inl (ap (λ (x : Report). x.status) is))

-- the status of a command's end, or want of memory for its text
abbrev pub IsTold : Report → Status → Type 0
IsTold ended status = (status ≡ ended.status) ⊎ (status ≡ NoMemory)

pub is_told_as : {takes : Bool} (ended : Report) (status : Status) (w now : Option (List ℕ)) (before after : ℕ) → StatusTold takes ended status w now before after → IsTold ended status
is_told_as ended status w now before after (inl h) = inl h.0
is_told_as ended status w now before after (inr h) = inr h.0

pub as_read : (ended : Report) (status : Status) → IsTold ended status → status ≡ ReadFault → ended.status ≡ ReadFault
as_read ended status (inl told) is = sym told ∙ is
as_read ended status (inr told) is = let bad : NoMemory ≡ ReadFault = sym told ∙ is in cc

pub as_written : (ended : Report) (status : Status) → IsTold ended status → status ≡ WriteFault → ended.status ≡ WriteFault
as_written ended status (inl told) is = sym told ∙ is
as_written ended status (inr told) is = let bad : NoMemory ≡ WriteFault = sym told ∙ is in cc

told_after : (first : Status) (ended : Report) (status : Status) → Becomes first ended.status → IsTold ended status → Becomes first status
told_after first ended status b (inl told) = subst (λ s. Becomes first s) (sym told) b
told_after first ended status b (inr told) = inr (inl told)

-- what is said of settings, where there are some
pub of_settings : (settings : Option Chosen) (P : Chosen → Type 0) → ((asked : Chosen) → settings ≡ Some asked → P asked) → IfSome settings P
of_settings None P f = tt
of_settings (Some asked) P f = f asked refl

is_none : (settings : Option Chosen) (asked : Chosen) → settings ≡ Some asked → settings ≡ None → ⊥
is_none settings asked some none = let bad : Some asked ≡ None = sym some ∙ none in cc

same_asked : (settings : Option Chosen) (a b : Chosen) → settings ≡ Some a → settings ≡ Some b → a ≡ b
same_asked settings a b first second = inside a b (sym first ∙ second)
  where
    inside : (a b : Chosen) → Some a ≡ Some b → a ≡ b
    inside a b h = cc

-- with settings, the command has done what they ask for, or there was no memory to read the words
pub obeyed_with : (files : Content) (settings : Option Chosen) (given : List (Ends Packet)) (w now : Option (List ℕ)) (ended : Report) (asked : Chosen)
    → HasEnded files settings given w now ended → settings ≡ Some asked → (ended ≡ plainly NoMemory given) ⊎ HasObeyed files asked given w now ended
obeyed_with files settings given w now ended asked (NoSettings none same h) some = absurd (is_none settings asked some none)
obeyed_with files settings given w now ended asked (NotSettled same h) some = inl h
obeyed_with files settings given w now ended asked (Settled other is done) some =
    inr (subst (λ a. HasObeyed files a given w now ended) (same_asked settings other asked is some) done)

module _ (files : Content) (settings : Option Chosen) (given : List (Ends Packet)) (w now : Option (List ℕ)) (ended : Report) (status : Status) (done : HasEnded files settings given w now ended)
    (told : IsTold ended status) where
  memory : ended ≡ plainly NoMemory given → IsTold ended status → status ≡ NoMemory
  memory h (inl t) = t ∙ status_is ended NoMemory h
  memory h (inr t) = t

  -- what holds of want of memory and of all that a run's status becomes
  by_run : (P : Chosen → Status → Type 0) → ((asked : Chosen) → P asked NoMemory)
      → ((asked : Chosen) (ran : Report) (shown : Option (List ℕ)) → HasRun files asked given w shown ran → Becomes ran.status status → P asked status)
      → IfSome settings (λ asked. P asked status)
  by_run P none some = of_settings settings (λ asked. P asked status) (λ asked is. by asked (obeyed_with files settings given w now ended asked done is))
    where
      by : (asked : Chosen) → (ended ≡ plainly NoMemory given) ⊎ HasObeyed files asked given w now ended → P asked status
      by asked (inl h) = subst (λ s. P asked s) (sym (memory h told)) (none asked)
      by asked (inr o) = some asked o.ran o.shown o.has_run (told_after o.ran.status ended status (becomes asked o.ran o.shown now ended o.tells) told)

  caused : IfSome settings (λ asked. Cause files asked.command asked.nodes (processors asked.tree) status)
  caused = by_run (λ asked s. Cause files asked.command asked.nodes (processors asked.tree) s) (λ asked. tt) (λ asked ran shown r b. after asked ran.status b (cause files asked given w shown ran r))
    where
      after : (asked : Chosen) (first : Status) → Becomes first status → Cause files asked.command asked.nodes (processors asked.tree) first → Cause files asked.command asked.nodes (processors asked.tree) status
      after asked first (inl e) c = subst (λ s. Cause files asked.command asked.nodes (processors asked.tree) s) (sym e) c
      after asked first (inr (inl e)) c = subst (λ s. Cause files asked.command asked.nodes (processors asked.tree) s) (sym e) tt
      after asked first (inr (inr e)) c = subst (λ s. Cause files asked.command asked.nodes (processors asked.tree) s) (sym e.0) tt

  pub source : (error : AsmError) → status ≡ BadSource error → IfSome settings (λ asked. MayBeSuch (source_in files asked.command) (λ bytes. image_of bytes ≡ Err error))
  source error is = subst (λ s. IfSome settings (λ asked. Cause files asked.command asked.nodes (processors asked.tree) s)) is caused

  pub schedule : (line : ℕ) → status ≡ BadScheduleText line → IfSome settings (λ asked. MayBeSuch (schedule_in files asked.command) (λ bytes. acts_of asked.nodes (processors asked.tree) bytes ≡ Err line))
  schedule line is = subst (λ s. IfSome settings (λ asked. Cause files asked.command asked.nodes (processors asked.tree) s)) is caused

  pub usage : status ≡ Usage → settings ≡ None
  usage is = by settings (subst (λ s. IfSome settings (λ asked. Cause files asked.command asked.nodes (processors asked.tree) s)) is caused)
    where
      by : (o : Option Chosen) → IfSome o (λ asked. ⊥) → o ≡ None
      by None h = refl
      by (Some asked) h = absurd h

  -- nothing is told after a status that isn't a run's end
  kept : (s first : Status) → is_told s ≡ false → IsUnlessRead first s → Becomes first status → IsUnlessRead status s
  kept s first silent (inl (inl e)) (inl b) = inl (inl (b ∙ e))
  kept s first silent (inl (inr e)) (inl b) = inl (inr (b ∙ e))
  kept s first silent (inr e) (inl b) = inr (b ∙ e)
  kept s first silent h (inr (inl b)) = inl (inr b)
  kept s first silent (inl (inl e)) (inr (inr b)) = let bad : is_told s ≡ true = subst (λ x. is_told x ≡ true) e b.1 in cc
  kept s first silent (inl (inr e)) (inr (inr b)) = let bad : is_told NoMemory ≡ true = subst (λ x. is_told x ≡ true) e b.1 in cc
  kept s first silent (inr e) (inr (inr b)) = let bad : is_told ReadFault ≡ true = subst (λ x. is_told x ≡ true) e b.1 in cc

  pub bad : IfSome settings (λ asked. (bytes : List ℕ) (error : AsmError) → source_in files asked.command ≡ Some (Some bytes) → image_of bytes ≡ Err error
      → IsUnlessMemory status (BadSource error) ⊎ (status ≡ ReadFault))
  bad = by_run (λ asked s. (bytes : List ℕ) (error : AsmError) → source_in files asked.command ≡ Some (Some bytes) → image_of bytes ≡ Err error → IsUnlessRead s (BadSource error))
      (λ asked bytes error h is. inl (inr refl))
      (λ asked ran shown r b bytes error h is. kept (BadSource error) ran.status refl (bad_of files asked given w shown ran bytes error r h is) b)

  pub bad_schedule : IfSome settings (λ asked. (bytes : List ℕ) (line : ℕ) → HasSource files asked → schedule_in files asked.command ≡ Some (Some bytes) → acts_of asked.nodes (processors asked.tree) bytes ≡ Err line
      → IsUnlessMemory status (BadScheduleText line) ⊎ (status ≡ ReadFault))
  bad_schedule = by_run (λ asked s. (bytes : List ℕ) (line : ℕ) → HasSource files asked → schedule_in files asked.command ≡ Some (Some bytes) → acts_of asked.nodes (processors asked.tree) bytes ≡ Err line → IsUnlessRead s (BadScheduleText line))
      (λ asked bytes line source h is. inl (inr refl))
      (λ asked ran shown r b bytes line source h is. kept (BadScheduleText line) ran.status refl (bad_schedule_of files asked given w shown ran bytes line r source h is) b)

  usual_or_fault : IfSome settings (λ asked. HasSource files asked → IsUsual asked.command status ⊎ IsFault status)
  usual_or_fault = by_run (λ asked s. HasSource files asked → IsUsual asked.command s ⊎ IsFault s) (λ asked source. inr (inl refl))
      (λ asked ran shown r b source. after asked.command ran.status (usual_of files asked given w shown ran r source) b)
    where
      after : (command : Command) (first : Status) → IsUsual command first ⊎ IsFault first → Becomes first status → IsUsual command status ⊎ IsFault status
      after command first u (inl e) = subst (λ s. IsUsual command s ⊎ IsFault s) (sym e) u
      after command first u (inr (inl e)) = inr (inl e)
      after command first u (inr (inr e)) = inr (inr (inr e.0))

  pub no_settings : settings ≡ None → IsUnlessMemory status Usage
  no_settings none = by done told
    where
      by : HasEnded files settings given w now ended → IsTold ended status → IsUnlessMemory status Usage
      by (NoSettings is same h) (inl t) = inl (t ∙ status_is ended Usage h)
      by (NotSettled same h) (inl t) = inr (t ∙ status_is ended NoMemory h)
      by (Settled asked some o) (inl t) = absurd (is_none settings asked some none)
      by d (inr t) = inr t

-- ## Where nothing is lacking

not_lacking : (files : Content) (command : Command) (bytes : List ℕ) → source_in files command ≡ Some (Some bytes) → HasSchedule files command → LacksAny files command → ⊥
not_lacking files (Asm name) bytes told acts lacks = let bad : Some (Some bytes) ≡ Some None = sym told ∙ lacks in cc
not_lacking files (Run name) bytes told acts lacks = let bad : Some (Some bytes) ≡ Some None = sym told ∙ lacks in cc
not_lacking files (Sim name) bytes told acts lacks = let bad : Some (Some bytes) ≡ Some None = sym told ∙ lacks in cc
not_lacking files (Replay name file) bytes told acts (inl lacks) = let bad : Some (Some bytes) ≡ Some None = sym told ∙ lacks in cc
not_lacking files (Replay name file) bytes told acts (inr lacks) = let bad : Some (Some acts.0) ≡ Some None = sym acts.1 ∙ lacks in cc
not_lacking files (Stress jobs) bytes told acts lacks = lacks

-- with what a command reads told, the status is a usual one, but for want of memory and what has risen
pub usual : (files : Content) (settings : Option Chosen) (given : List (Ends Packet)) (w now : Option (List ℕ)) (ended : Report) (status : Status) (A B C : Type 0) → HasEnded files settings given w now ended
    → IsTold ended status → (status ≡ ReadFault → IfSome settings (λ asked. LacksAny files asked.command ⊎ A)) → (status ≡ WriteFault → B ⊎ C)
    → IfSome settings (λ asked. HasSource files asked → IsUsual asked.command status ⊎ ((status ≡ NoMemory) ⊎ (A ⊎ (B ⊎ C))))
usual files settings given w now ended status A B C done told read write =
    both settings (usual_or_fault files settings given w now ended status done told) read
  where
    at_one : (asked : Chosen) → (status ≡ ReadFault → LacksAny files asked.command ⊎ A) → HasSource files asked → IsUsual asked.command status ⊎ IsFault status
        → IsUsual asked.command status ⊎ ((status ≡ NoMemory) ⊎ (A ⊎ (B ⊎ C)))
    at_one asked read source (inl u) = inl u
    at_one asked read source (inr (inl e)) = inr (inl e)
    at_one asked read source (inr (inr (inl e))) = by (read e)
      where
        by : LacksAny files asked.command ⊎ A → IsUsual asked.command status ⊎ ((status ≡ NoMemory) ⊎ (A ⊎ (B ⊎ C)))
        by (inl lacks) = absurd (not_lacking files asked.command source.bytes source.told source.schedule lacks)
        by (inr a) = inr (inr (inl a))
    at_one asked read source (inr (inr (inr e))) = inr (inr (inr (write e)))

    both : (o : Option Chosen) → IfSome o (λ asked. HasSource files asked → IsUsual asked.command status ⊎ IsFault status) → (status ≡ ReadFault → IfSome o (λ asked. LacksAny files asked.command ⊎ A))
        → IfSome o (λ asked. HasSource files asked → IsUsual asked.command status ⊎ ((status ≡ NoMemory) ⊎ (A ⊎ (B ⊎ C))))
    both None u r = tt
    both (Some asked) u r = λ source. at_one asked r source (u source)

-- where a file is lacking it isn't read, also as it is told
pub missing : (files : Content) (settings : Option Chosen) (ended : Report) (status : Status) → IfSome settings (λ asked. LacksAny files asked.command → IsUnlessMemory ended.status ReadFault)
    → IsTold ended status → IfSome settings (λ asked. LacksAny files asked.command → IsUnlessMemory status ReadFault)
missing files None ended status h told = tt
missing files (Some asked) ended status h (inl told) = λ lacks. subst (λ s. IsUnlessMemory s ReadFault) (sym told) (h lacks)
missing files (Some asked) ended status h (inr told) = λ lacks. inr told
