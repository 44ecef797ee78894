-- What is drawn: a text that is the picture of the trace that a file may hold, and how the program ends.
use Rattle.std.specs.Prelude.{◌≡◌, ◌≢◌, Bool, true, ◌&&◌, List, ◌∷◌, Option, Some, None, Ok, Err, count_by, nat_le, nat_lt, option_map, ⊤}
use Rattle.outside.specs.Outside.{Content, file_at, MayHold}
use Rattle.run_trace.specs.declared.entry.Entry.{Entry}
use Rattle.trace_text.specs.Texts.{read_trace}
use Rattle.pictures.specs.declared.shape.Shape.{Shape}
use Rattle.pictures.specs.declared.window.Window.{Window}
use Rattle.pictures.specs.Drawing.{picture}
use Rattle.picture_texts.specs.Svg.{svg_text}
use Rattle.picture_texts.specs.Paje.{IsPaje}
use Rattle.pm2_picture.specs.declared.asked.Form.{Form}
use Rattle.pm2_picture.specs.declared.asked.Form.TheVariants.{Svg, Paje}
use Rattle.pm2_picture.specs.declared.asked.Asked.{Asked}
use Rattle.pm2_picture.specs.declared.status.Status.{Status}
use Rattle.pm2_picture.specs.declared.status.Status.TheVariants as is
use Rattle.pm2_picture.specs.Words.{Text, asked}

abbrev pub is_in : Window → Entry → Bool
is_in w x = nat_le w.from x.stamp && nat_le x.stamp w.to

-- the window has more entries than a picture may have
abbrev pub is_one_too_many : Window → List Entry → Bool
is_one_too_many w trace = nat_lt 200000 (count_by (is_in w) trace)

-- the shapes as a text of this form
abbrev pub IsText : Form → Text → Window → List Shape → Text → Type 0
IsText Svg name w shapes text = text ≡ svg_text name w shapes
IsText Paje name w shapes text = IsPaje w shapes text

-- the picture of a trace
abbrev pub IsPictureOf : Asked → Text → List Entry → Text → Type 0
IsPictureOf a name trace text = IsText a.form name a.window (picture a.window trace) text

-- the text of a trace, and its picture
abbrev pub IsDrawnFrom : Asked → Text → Text → Text → Type 0
IsDrawnFrom a name bytes text = (trace : List Entry) × (read_trace bytes ≡ Ok trace) × IsPictureOf a name trace text

-- the file isn't read
abbrev pub IsRefused : Status → Type 0
IsRefused is.ReadFault = ⊤
IsRefused is.NoMemory = ⊤
IsRefused _ = ⊥

-- a trace isn't read
abbrev pub IsUnread : Status → Text → Type 0
IsUnread is.NoMemory bytes = ⊤
IsUnread (is.BadTrace i) bytes = read_trace bytes ≡ Err i
IsUnread _ bytes = ⊥

-- a trace that was read isn't drawn
abbrev pub IsUndrawn : Asked → List Entry → Status → Type 0
IsUndrawn a trace is.NoMemory = ⊤
IsUndrawn a trace is.TooMany = is_one_too_many a.window trace ≡ true
IsUndrawn a trace _ = ⊥

-- no picture of these bytes: they are no trace, or the window has too many entries, or there was no memory
abbrev pub IsNoPicture : Asked → Text → Status → Type 0
IsNoPicture a bytes is.NoMemory = ⊤
IsNoPicture a bytes (is.BadTrace i) = read_trace bytes ≡ Err i
IsNoPicture a bytes is.TooMany = (trace : List Entry) × (read_trace bytes ≡ Ok trace) × (is_one_too_many a.window trace ≡ true)
IsNoPicture a bytes _ = ⊥

-- the file has the picture of what the other file may hold, in place of what it had
abbrev pub HasDrawn : Asked → Text → Text → Content → Content → Type 0
HasDrawn a trace out old new =
    (bytes : Text) × (text : Text) × MayHold old trace bytes × IsDrawnFrom a trace bytes text × (file_at new out ≡ option_map (λ _. Some text) (file_at old out))

-- how drawing a file ends without a picture
abbrev pub HasNotDrawn : Asked → Text → Content → Status → Type 0
HasNotDrawn a trace old is.Done = ⊥
HasNotDrawn a trace old is.Usage = ⊥
HasNotDrawn a trace old (is.BadTrace i) = (bytes : Text) × MayHold old trace bytes × (read_trace bytes ≡ Err i)
HasNotDrawn a trace old is.TooMany = (bytes : Text) × MayHold old trace bytes × IsNoPicture a bytes is.TooMany
HasNotDrawn a trace old _ = ⊤

abbrev pub EndsFor : Option Asked → Text → Text → Content → Content → Status → Type 0
EndsFor None trace out old new status = status ≡ is.Usage
EndsFor (Some a) trace out old new is.Done = HasDrawn a trace out old new
EndsFor (Some a) trace out old new status = HasNotDrawn a trace old status

-- how the program ends by its words
abbrev pub Ends : List Text → Content → Content → Status → Type 0
Ends (trace ∷ out ∷ options) old new status = EndsFor (asked out options) trace out old new status
Ends _ old new status = status ≡ is.Usage

-- every other file has what it had
abbrev pub KeepsOthers : Text → Content → Content → Type 0
KeepsOthers out old new = (name : Text) → name ≢ out → file_at new name ≡ file_at old name

-- every file but the one that the words name for the picture has what it had
abbrev pub KeepsUnasked : List Text → Content → Content → Type 0
KeepsUnasked (trace ∷ out ∷ options) old new = KeepsOthers out old new
KeepsUnasked _ old new = new ≡ old
