-- What a line of a trace's text says, read from left to right, a word after another.
use Rattle.std.specs.Prelude.{ℕ, zero, suc, ◌+◌, ◌-◌, ◌*◌, ◌^◌, List, [], ◌∷◌, Bool, true, false, Option, Some, None, length, codes, not, ◌&&◌, ◌||◌, ◌==◌, nat_lt, nat_le, if◌then◌else◌, option_and_then, slice_index}
use Rattle.std.specs.List.{slice_split}
use Rattle.std.specs.Borrow.{Bor}
use Rattle.std.specs.Str.{bytes_eq, all_ascii_digits}
use Rattle.std.specs.Str.Parse.{digits_value}
use Rattle.slot_space.specs.declared.names.Tid.{Tid}
use Rattle.rv_step.specs.declared.hart.FaultKind.{FaultKind}
use Rattle.rv_step.specs.declared.hart.FaultKind.TheVariants as kinds
use Rattle.rv_step.specs.declared.hart.Stop.{Stop}
use Rattle.rv_step.specs.declared.hart.Stop.TheVariants as stops
use Rattle.marcel_core.specs.declared.end.End.{End}
use Rattle.marcel_core.specs.declared.end.End.TheVariants as ends
use Rattle.run_trace.specs.declared.entry.Act.{Act}
use Rattle.run_trace.specs.declared.entry.Act.TheVariants as acts
use Rattle.run_trace.specs.declared.entry.Entry.{Entry}
use Rattle.run_trace.specs.declared.label.Label.{Label}
use Rattle.run_trace.specs.declared.label.Label.TheVariants.{Born, Ran, Asked, Heard, Judged, Told, Took, Gave, Ended, Known, Left, Came, Lent, InHand, Decided, Returned, Home, Down, Burst, Gathered, Shown, Halted, Dropped}
use Rattle.run_trace.specs.declared.label.Why.{Why}
use Rattle.run_trace.specs.declared.label.Why.TheVariants as whys
use Rattle.run_trace.specs.declared.label.Extra.{Extra}
use Rattle.run_trace.specs.declared.label.Extra.TheVariants as extras
use Rattle.trace_text.specs.Calls.{CallRow, call_named, call_numbered}

infixl 10 ◌>>=◌
abbrev pub ◌>>=◌ : {A B : Type 0} → Option A → (A → Option B) → Option B
o >>= f = option_and_then f o

abbrev pub only_if : {A : Type 0} → Bool → A → Option A
only_if true x = Some x
only_if false x = None

-- the parts between bytes c
abbrev pub parts : ℕ → List ℕ → List (List ℕ)
parts c bs = slice_split (λ b. b == c) bs

-- the parts behind a part: of nothing where no byte c stands there, else of what is behind that byte
abbrev pub left : ℕ → List ℕ → List (List ℕ)
left c [] = []
left c (b ∷ bs) = parts c bs

-- ---- one word

-- digits with no zero in front of others
abbrev pub is_number : List ℕ → Bool
is_number bs = not (length bs == 0) && (all_ascii_digits bs && (not (slice_index bs 0 == 48) || (length bs == 1)))

-- a number up to the last one
unfoldable pub number_at : ℕ → List ℕ → Option ℕ
number_at last bs = only_if (is_number bs && nat_le (digits_value 10 bs) last) (digits_value 10 bs)

abbrev pub tid_in : List (List ℕ) → Option Tid
tid_in (home ∷ seq ∷ []) = number_at 255 home >>= λ h. number_at 4294967295 seq >>= λ s. Some (record { home = h; seq = s })
tid_in _ = None

unfoldable pub tid_at : List ℕ → Option Tid
tid_at bs = tid_in (parts 46 bs)

-- numbers of 16 bits, none below the one given or below its neighbour's successor
abbrev pub slots_from : ℕ → List (List ℕ) → Option (List ℕ)
slots_from least [] = Some []
slots_from least (p ∷ ps) = number_at 65535 p >>= λ n. if nat_le least n then (slots_from (n + 1) ps >>= λ ns. Some (n ∷ ns)) else None

unfoldable pub slots_at : List ℕ → Option (List ℕ)
slots_at bs = if bytes_eq bs (codes "-") then Some [] else slots_from 0 (parts 44 bs)

-- a lower-case hexadecimal digit
abbrev pub nibble : ℕ → Option ℕ
nibble c = if nat_le 48 c && nat_le c 57 then Some (c - 48) else only_if (nat_le 97 c && nat_le c 102) (c - 87)

abbrev pub pairs_in : List ℕ → Option (List ℕ)
pairs_in [] = Some []
pairs_in (c ∷ []) = None
pairs_in (c ∷ d ∷ bs) = nibble c >>= λ high. nibble d >>= λ low. pairs_in bs >>= λ more. Some ((high * 16 + low) ∷ more)

unfoldable pub bytes_at : List ℕ → Option (List ℕ)
bytes_at [] = None
bytes_at (c ∷ bs) = if bytes_eq (c ∷ bs) (codes "-") then Some [] else pairs_in (c ∷ bs)

-- a minus and 1 to 2^63, or a number below 2^63, as the number of a0
unfoldable pub reply_at : List ℕ → Option ℕ
reply_at [] = None
reply_at (c ∷ bs) =
    if c == 45 then (number_at (2 ^ 63) bs >>= λ m. only_if (nat_lt 0 m) (2 ^ 64 - m))
    else number_at (2 ^ 63 - 1) (c ∷ bs)

unfoldable pub kind_at : List ℕ → Option FaultKind
kind_at w =
    if bytes_eq w (codes "illegal") then Some kinds.Illegal
    else if bytes_eq w (codes "break") then Some kinds.Break
    else if bytes_eq w (codes "misaligned") then Some kinds.Misaligned
    else if bytes_eq w (codes "fetch") then Some kinds.Fetch
    else if bytes_eq w (codes "load") then Some kinds.Load
    else only_if (bytes_eq w (codes "store")) kinds.Store

unfoldable pub stop_at : List ℕ → Option Stop
stop_at w =
    if bytes_eq w (codes "quantum") then Some stops.Quantum
    else if bytes_eq w (codes "call") then Some stops.Call
    else kind_at w >>= λ kind. Some (stops.Fault kind)

unfoldable pub first_at : List ℕ → Option (Option ℕ)
first_at w = if bytes_eq w (codes "-") then Some None else number_at 65535 w >>= λ n. Some (Some n)

-- ---- several words: what they say, and the words behind them

abbrev pub Reader : Type 0 → Type 0
Reader X = List (List ℕ) → Option (X × List (List ℕ))

-- what was read, and the words behind it
abbrev pub given : {X : Type 0} → X × Bor (List ℕ) → X × List (List ℕ)
given p = (p.0, left 32 p.1.now)

abbrev pub first_word : Reader (List ℕ)
first_word [] = None
first_word (w ∷ ws) = Some (w, ws)

-- one, and then what comes by it
abbrev pub after : {A X : Type 0} → Reader A → (A → Reader X) → Reader X
after read next ws = read ws >>= λ p. next p.0 p.1

abbrev pub gives : {X : Type 0} → X → Reader X
gives x ws = Some (x, ws)

-- by one word
unfoldable pub one : {X : Type 0} → (List ℕ → Option X) → Reader X
one at [] = None
one at (w ∷ ws) = at w >>= λ x. Some (x, ws)

-- by the word in front
abbrev pub choose : {X : Type 0} → List (List ℕ × Reader X) → Option (X × List (List ℕ)) → List ℕ → Reader X
choose [] otherwise w ws = otherwise
choose (form ∷ forms) otherwise w ws = if bytes_eq w form.0 then form.1 ws else choose forms otherwise w ws

abbrev pub pick : {X : Type 0} → List (List ℕ × Reader X) → Reader X
pick forms [] = None
pick forms (w ∷ ws) = choose forms None w ws

abbrev pub number : ℕ → Reader ℕ
number last = one (number_at last)

-- numbers of 64, 32, 16 and 8 bits
abbrev pub long : Reader ℕ
long = number 18446744073709551615

abbrev pub word : Reader ℕ
word = number 4294967295

abbrev pub short : Reader ℕ
short = number 65535

abbrev pub small : Reader ℕ
small = number 255

abbrev pub tid : Reader Tid
tid = one tid_at

abbrev pub slots : Reader (List ℕ)
slots = one slots_at

abbrev pub reply : Reader ℕ
reply = one reply_at

abbrev pub stop : Reader Stop
stop = one stop_at

abbrev pub act_forms : List (List ℕ × Reader Act)
act_forms =
    (codes "boot", gives acts.Boot)
    ∷ (codes "run", after small (λ vp. after word (λ quantum. gives (acts.Run vp quantum))))
    ∷ (codes "take", after small (λ from. gives (acts.Take from)))
    ∷ (codes "move", after tid (λ t. after small (λ to. gives (acts.Move t to))))
    ∷ []

unfoldable pub act : Reader Act
act = pick act_forms

abbrev pub why_forms : List (List ℕ × Reader Why)
why_forms =
    (codes "main", gives whys.Main)
    ∷ (codes "create", after tid (λ by. gives (whys.Create by)))
    ∷ (codes "in", after tid (λ by. after word (λ bubble. gives (whys.Inside by bubble))))
    ∷ (codes "service", after tid (λ by. after word (λ count. gives (whys.Service by count))))
    ∷ []

unfoldable pub why : Reader Why
why = pick why_forms

unfoldable pub end : Reader End
end [] = None
end (w ∷ ws) =
    if bytes_eq w (codes "exit") then after long (λ value. gives (ends.Exit value)) ws
    else kind_at w >>= λ kind. after long (λ pc. gives (ends.Fault kind pc)) ws

unfoldable pub extra_at : List ℕ → Option Extra
extra_at [] = None
extra_at (c ∷ bs) =
    if c == 120 then (bytes_at bs >>= λ bytes. Some (extras.Bytes bytes))
    else number_at 18446744073709551615 (c ∷ bs) >>= λ second. Some (extras.Second second)

-- nothing where no word is left
unfoldable pub extra : Reader Extra
extra [] = Some (extras.Nothing, [])
extra (w ∷ ws) = extra_at w >>= λ x. Some (x, ws)

-- so many numbers
abbrev pub longs : ℕ → Reader (List ℕ)
longs zero ws = Some ([], ws)
longs (suc n) ws = long ws >>= λ p. longs n p.1 >>= λ q. Some (p.0 ∷ q.0, q.1)

abbrev pub said : Bool → Reader (List ℕ)
said false = gives []
said true = one bytes_at

-- a number that no call has
abbrev pub unknown_by : Tid → ℕ → Option CallRow → Reader Label
unknown_by t call None ws = Some (Asked t call [] [], ws)
unknown_by t call (Some r) ws = None

abbrev pub unknown : Tid → Reader Label
unknown t = after long (λ call. unknown_by t call (call_numbered call))

abbrev pub asked_by : Tid → CallRow → Reader Label
asked_by t r = after (longs r.arguments) (λ args. after (said r.says) (λ bytes. gives (Asked t r.number args bytes)))

abbrev pub asked_named : Tid → List ℕ → Reader Label
asked_named t w ws = if bytes_eq w (codes "unknown") then unknown t ws else call_named w >>= λ r. asked_by t r ws

abbrev pub asked_of : Tid → Reader Label
asked_of t [] = None
asked_of t (w ∷ ws) = asked_named t w ws

abbrev pub of : (Tid → Label) → Reader Label
of label = after tid (λ t. gives (label t))

abbrev pub asked_in : Reader Label
asked_in = after tid asked_of

abbrev pub judged_in : Reader Label
judged_in = after tid (λ t. after reply (λ code. after extra (λ more. gives (Judged t code more))))

abbrev pub gave_in : Reader Label
gave_in = after tid (λ t. after slots (λ given. gives (Gave t given)))

abbrev pub lent_in : Reader Label
lent_in = after small (λ to. after slots (λ given. gives (Lent to given)))

abbrev pub inhand_in : Reader Label
inhand_in = after small (λ lender. after slots (λ given. gives (InHand lender given)))

abbrev pub returned_in : Reader Label
returned_in = after small (λ to. after slots (λ given. gives (Returned to given)))

abbrev pub home_in : Reader Label
home_in = after slots (λ given. gives (Home given))

abbrev pub ran_in : Reader Label
ran_in = after tid (λ t. after small (λ vp. after word (λ count. after stop (λ why_so. gives (Ran t vp count why_so)))))

abbrev pub left_in : Reader Label
left_in = after tid (λ t. after small (λ to. gives (Left t to)))

abbrev pub took_in : Reader Label
took_in = after tid (λ t. after short (λ first. after short (λ count. gives (Took t first count))))

abbrev pub ended_in : Reader Label
ended_in = after tid (λ t. after end (λ e. gives (Ended t e)))

abbrev pub born_in : Reader Label
born_in = after tid (λ t. after why (λ w. after long (λ entry. after long (λ a0. after long (λ a1. after long (λ sp. after short (λ slot. gives (Born t w entry a0 a1 sp slot))))))))

abbrev pub decided_in : Reader Label
decided_in = after tid (λ t. after short (λ count. after (one first_at) (λ first. gives (Decided t count first))))

abbrev pub dropped_in : Reader Label
dropped_in = after tid (λ t. after word (λ count. after reply (λ code. gives (Dropped t count code))))

abbrev pub down_in : Reader Label
down_in = after word (λ bubble. after small (λ list. gives (Down bubble list)))

abbrev pub burst_in : Reader Label
burst_in = after word (λ bubble. after small (λ list. gives (Burst bubble list)))

abbrev pub gathered_in : Reader Label
gathered_in = after word (λ bubble. after word (λ count. gives (Gathered bubble count)))

-- labels that have lists
abbrev pub list_forms : List (List ℕ × Reader Label)
list_forms =
    (codes "asked", asked_in)
    ∷ (codes "judged", judged_in)
    ∷ (codes "gave", gave_in)
    ∷ (codes "home", home_in)
    ∷ []

-- labels of a node and slots
abbrev pub lent_forms : List (List ℕ × Reader Label)
lent_forms =
    (codes "lent", lent_in)
    ∷ (codes "inhand", inhand_in)
    ∷ (codes "returned", returned_in)
    ∷ []

-- labels of a bubble
abbrev pub bubble_forms : List (List ℕ × Reader Label)
bubble_forms =
    (codes "down", down_in)
    ∷ (codes "burst", burst_in)
    ∷ (codes "gathered", gathered_in)
    ∷ []

-- labels of a thread alone
abbrev pub thread_forms : List (List ℕ × Reader Label)
thread_forms =
    (codes "told", of Told)
    ∷ (codes "shown", of Shown)
    ∷ (codes "heard", of Heard)
    ∷ (codes "known", of Known)
    ∷ (codes "came", of Came)
    ∷ (codes "halted", of Halted)
    ∷ []

-- all others
abbrev pub plain_forms : List (List ℕ × Reader Label)
plain_forms =
    (codes "ran", ran_in)
    ∷ (codes "left", left_in)
    ∷ (codes "took", took_in)
    ∷ (codes "ended", ended_in)
    ∷ (codes "born", born_in)
    ∷ (codes "decided", decided_in)
    ∷ (codes "dropped", dropped_in)
    ∷ []

abbrev pub plain_named : List ℕ → Reader Label
plain_named w ws = choose plain_forms (choose bubble_forms (choose thread_forms None w ws) w ws) w ws

abbrev pub label_named : List ℕ → Reader Label
label_named w ws = choose list_forms (choose lent_forms (plain_named w ws) w ws) w ws

abbrev pub label : Reader Label
label [] = None
label (w ∷ ws) = label_named w ws

abbrev pub headed : ℕ → ℕ → ℕ → Act → Entry
headed stamp node round act = record { stamp = stamp; node = node; round = round; act = act; labels = [] }

-- an entry's head, behind the sign for it
abbrev pub head : Reader Entry
head = after long (λ stamp. after small (λ node. after long (λ round. after act (λ act. gives (headed stamp node round act)))))
