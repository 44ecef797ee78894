-- The summary of a trace.
use Rattle.std.specs.Prelude.{◌==◌, ◌&&◌, Bool, true, false, List, [], ◌∷◌, ◌++◌, Option, Some, None, if◌then◌else◌, codes, count_by, decimal}
use Rattle.std.specs.Option.{option_or}
use Rattle.std.specs.List.{flat_map}
use Rattle.slot_space.specs.declared.names.Tid.{Tid}
use Rattle.marcel_core.specs.declared.end.End.{End}
use Rattle.marcel_core.specs.declared.end.End.TheVariants as end
use Rattle.run_trace.specs.declared.entry.Entry.{Entry}
use Rattle.run_trace.specs.declared.label.Label.{Label}
use Rattle.run_trace.specs.declared.label.Label.TheVariants as label
use Rattle.run_trace.specs.declared.label.Why.{Why}
use Rattle.run_trace.specs.declared.label.Why.TheVariants as why
use Rattle.run_texts.specs.declared.summaries.Counted.{Counted}
use Rattle.run_texts.specs.declared.summaries.Counted.TheVariants as counted
use Rattle.run_texts.specs.Parts.{Text}

-- what happened, in order
abbrev pub labels_of : List Entry → List Label
labels_of trace = flat_map (λ x. x.labels) trace

abbrev pub is_birth : Label → Bool
is_birth (label.Born t why entry a0 a1 sp slot) = true
is_birth _ = false

abbrev pub is_fault : End → Bool
is_fault (end.Fault kind pc) = true
is_fault (end.Exit value) = false

abbrev pub is_end_by_fault : Label → Bool
is_end_by_fault (label.Ended t e) = is_fault e
is_end_by_fault _ = false

abbrev pub is_line : Label → Bool
is_line (label.Shown t) = true
is_line _ = false

abbrev pub is_for_service : Why → Bool
is_for_service (why.Service by number) = true
is_for_service _ = false

abbrev pub is_birth_by_call : Label → Bool
is_birth_by_call (label.Born t w entry a0 a1 sp slot) = is_for_service w
is_birth_by_call _ = false

abbrev pub is_departure : Label → Bool
is_departure (label.Left t to) = true
is_departure _ = false

-- whether a label is one of those that are counted here
abbrev pub is_counted : Counted → Label → Bool
is_counted counted.Threads l = is_birth l
is_counted counted.Faults l = is_end_by_fault l
is_counted counted.Lines l = is_line l
is_counted counted.Services l = is_birth_by_call l
is_counted counted.Moves l = is_departure l

-- a word and how many such labels there are
abbrev pub count_line : Text → Counted → List Entry → Text
count_line word what trace = word ++ decimal (count_by (is_counted what) (labels_of trace)) ++ 10 ∷ []

-- the main thread is 0.0
abbrev pub is_main : Tid → Bool
is_main t = (t.home == 0) && (t.seq == 0)

-- how the main thread has ended, where a label says that
abbrev pub end_in : Label → Option End
end_in (label.Ended t e) = if is_main t then Some e else None
end_in _ = None

-- how it has ended, at the first label that says so
abbrev pub main_end : List Label → Option End
main_end [] = None
main_end (l ∷ ls) = option_or (end_in l) (main_end ls)

abbrev pub end_text : Option End → Text
end_text None = codes "lives"
end_text (Some (end.Exit value)) = decimal value
end_text (Some (end.Fault kind pc)) = codes "fault"

-- six lines
abbrev pub summary_of : List Entry → Text
summary_of trace =
    count_line (codes "threads ") counted.Threads trace
    ++ (count_line (codes "faults ") counted.Faults trace
    ++ (count_line (codes "lines ") counted.Lines trace
    ++ (count_line (codes "services ") counted.Services trace
    ++ (count_line (codes "moves ") counted.Moves trace
    ++ (codes "main " ++ end_text (main_end (labels_of trace)) ++ 10 ∷ [])))))
