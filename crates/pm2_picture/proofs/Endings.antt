-- How the stages of drawing a file end.
use Rattle.std.proofs.Common.{◌≡◌, List, Some, Ok, ap, ◌∙◌}
use Rattle.std.specs.Prelude.{option_map}
use Rattle.outside.specs.Outside.{Content, file_at, MayHold}
use Rattle.run_trace.specs.declared.entry.Entry.{Entry}
use Rattle.trace_text.specs.Texts.{read_trace}
use Rattle.pm2_picture.specs.declared.asked.Asked.{Asked}
use Rattle.pm2_picture.specs.declared.status.Status.{Status}
use Rattle.pm2_picture.specs.declared.status.Status.TheVariants as is
use Rattle.pm2_picture.specs.Words.{Text}
use Rattle.pm2_picture.specs.Drawn.{IsRefused, IsUnread, IsUndrawn, IsNoPicture, IsDrawnFrom, HasDrawn, HasNotDrawn, EndsFor, KeepsOthers}

-- a text that isn't read has no picture
pub unread : (a : Asked) (bytes : Text) (status : Status) → IsUnread status bytes → IsNoPicture a bytes status
unread a bytes is.NoMemory h = tt
unread a bytes (is.BadTrace i) h = h
unread a bytes is.Done h = absurd h
unread a bytes is.Usage h = absurd h
unread a bytes is.TooMany h = absurd h
unread a bytes is.ReadFault h = absurd h
unread a bytes is.WriteFault h = absurd h

-- nor has one whose trace isn't drawn
pub undrawn : (a : Asked) (bytes : Text) (trace : List Entry) (status : Status) → read_trace bytes ≡ Ok trace → IsUndrawn a trace status → IsNoPicture a bytes status
undrawn a bytes trace is.NoMemory r h = tt
undrawn a bytes trace is.TooMany r h = (trace, r, h)
undrawn a bytes trace is.Done r h = absurd h
undrawn a bytes trace is.Usage r h = absurd h
undrawn a bytes trace (is.BadTrace i) r h = absurd h
undrawn a bytes trace is.ReadFault r h = absurd h
undrawn a bytes trace is.WriteFault r h = absurd h

-- a file that isn't read isn't drawn
pub no_file : (a : Asked) (trace : Text) (old : Content) (status : Status) → IsRefused status → HasNotDrawn a trace old status
no_file a trace old is.ReadFault h = tt
no_file a trace old is.NoMemory h = tt
no_file a trace old is.WriteFault h = absurd h
no_file a trace old is.Done h = absurd h
no_file a trace old is.Usage h = absurd h
no_file a trace old (is.BadTrace i) h = absurd h
no_file a trace old is.TooMany h = absurd h

-- nor one without a picture
pub no_picture : (a : Asked) (trace bytes : Text) (old : Content) (status : Status) → MayHold old trace bytes → IsNoPicture a bytes status → HasNotDrawn a trace old status
no_picture a trace bytes old is.NoMemory m h = tt
no_picture a trace bytes old (is.BadTrace i) m h = (bytes, m, h)
no_picture a trace bytes old is.TooMany m h = (bytes, m, h)
no_picture a trace bytes old is.Done m h = absurd h
no_picture a trace bytes old is.Usage m h = absurd h
no_picture a trace bytes old is.ReadFault m h = tt
no_picture a trace bytes old is.WriteFault m h = tt

-- the picture is in its file
pub has_drawn : (a : Asked) (trace out bytes text : Text) (old mid new : Content) → MayHold old trace bytes → IsDrawnFrom a trace bytes text → mid ≡ old
    → file_at new out ≡ option_map (λ _. Some text) (file_at mid out) → HasDrawn a trace out old new
has_drawn a trace out bytes text old mid new m d e w = (bytes, text, m, d, w ∙ ap (λ c. option_map (λ _. Some text) (file_at c out)) e)

-- what isn't drawn is told by its status
pub not_drawn : (a : Asked) (trace out : Text) (old new : Content) (status : Status) → HasNotDrawn a trace old status → EndsFor (Some a) trace out old new status
not_drawn a trace out old new is.Done h = absurd h
not_drawn a trace out old new is.Usage h = absurd h
not_drawn a trace out old new (is.BadTrace i) h = h
not_drawn a trace out old new is.TooMany h = h
not_drawn a trace out old new is.ReadFault h = h
not_drawn a trace out old new is.WriteFault h = h
not_drawn a trace out old new is.NoMemory h = h

-- where nothing has changed, no other file has
pub kept : (out : Text) (old new : Content) → new ≡ old → KeepsOthers out old new
kept out old new e name other = ap (λ c. file_at c name) e

-- nor where a write that keeps the others is all that was done
pub others_kept : (out : Text) (old mid new : Content) → mid ≡ old → KeepsOthers out mid new → KeepsOthers out old new
others_kept out old mid new e k name other = k name other ∙ ap (λ c. file_at c name) e
