-- What a call on bubbles answers on its node, and what becomes of the node's forest of run lists and bubbles.
use Rattle.std.specs.Prelude.{ℕ, List, [], ◌∷◌, length, Option, Some, None, is_none, is_some, Bool, ◌==◌, not, nat_le}
use Rattle.slot_space.specs.declared.names.Tid.{Tid}
use Rattle.slot_space.specs.declared.names.Reply.{Reply}
use Rattle.slot_space.specs.declared.names.Reply.TheVariants as replies
use Rattle.slot_space.specs.Replies.{reply_code}
use Rattle.levels.specs.declared.entity.Entity.TheVariants as entities
use Rattle.levels.specs.Rows.{place_of}
use Rattle.bubbles.specs.declared.bubble.Did.{Did}
use Rattle.bubbles.specs.declared.bubble.Did.TheVariants as did
use Rattle.bubbles.specs.Rows.{bubble_of, is_filling}
use Rattle.bubbles.specs.Forests.{ForestView, Done, with_bubble, inserts, wakes, gathers}
use Rattle.marcel_sync.specs.Semaphores.{node_in, number_in, name_on}
use Rattle.run_trace.specs.declared.call.Call.{Call}
use Rattle.run_trace.specs.declared.call.Call.TheVariants.{BubbleNew, BubbleInsert, BubbleWake, BubbleGather, CreateIn}
use Rattle.run_trace.specs.declared.label.Why.{Why}
use Rattle.run_trace.specs.declared.label.Why.TheVariants as why
use Rattle.run_trace.specs.Program.{Program, nodes_of}
use Rattle.run_trace.specs.Calls.{refuse_if}

-- the thread is on a run list
abbrev pub is_listed : Tid → ForestView → Bool
is_listed t f = is_some (place_of (entities.Thread t) f.lists.rows)

-- ## The checks of a bubble's name, on node n

abbrev pub or_else : Option Reply → Option Reply → Option Reply
or_else (Some reply) rest = Some reply
or_else None rest = rest

-- it is no bubble of the cluster, or another node's, or there is none of that number
abbrev pub no_bubble : Program → (n name : ℕ) → ForestView → Option Reply
no_bubble p n name f =
    refuse_if (nat_le (nodes_of p) (node_in name)) replies.NoSuch
    (refuse_if (not (node_in name == n)) replies.NotHere (refuse_if (is_none (bubble_of (number_in name) f.bubbles)) replies.NoSuch None))

-- or it takes no members
abbrev pub not_filling : Program → (n name : ℕ) → ForestView → Option Reply
not_filling p n name f = or_else (no_bubble p n name f) (refuse_if (not (is_filling (bubble_of (number_in name) f.bubbles))) replies.Taken None)

-- ## The calls

abbrev pub did_code : Did → ℕ
did_code (did.Done count) = count
did_code did.BadArgument = reply_code replies.BadArgument
did_code did.NoSuch = reply_code replies.NoSuch
did_code did.Taken = reply_code replies.Taken

-- what is answered, and the forest then
pub record Outcome : Type 0 where
  pub code : ℕ
  pub after : ForestView

-- where no check of a name fails, the forest's own answer
abbrev pub unless_unnamed : Option Reply → ForestView → Done → Outcome
unless_unnamed (Some reply) f d = record { code = reply_code reply; after = f }
unless_unnamed None f d = record { code = did_code d.answer; after = d.after }

-- a call on bubbles of node n; no other call changes the forest here
abbrev pub bubble_outcome : Program → ℕ → Call → ForestView → Outcome
bubble_outcome p n (BubbleNew priority depth) f = record { code = name_on n (length f.bubbles); after = with_bubble priority depth f }
bubble_outcome p n (BubbleInsert b c) f = unless_unnamed (or_else (no_bubble p n b f) (no_bubble p n c f)) f (inserts (number_in b) (number_in c) f)
bubble_outcome p n (BubbleWake b) f = unless_unnamed (no_bubble p n b f) f (wakes (number_in b) f)
bubble_outcome p n (BubbleGather b) f = unless_unnamed (no_bubble p n b f) f (gathers (number_in b) f)
bubble_outcome p n c f = record { code = 0; after = f }

-- a bubble that is gathered, and how many it holds
pub record Gathering : Type 0 where
  pub bubble : ℕ
  pub count : ℕ

abbrev pub gathering_by : ℕ → Option Reply → Did → Option Gathering
gathering_by b None (did.Done count) = Some (record { bubble = b; count = count })
gathering_by b refused answer = None

abbrev pub gathering : Program → ℕ → Call → ForestView → Option Gathering
gathering p n (BubbleGather b) f = gathering_by (number_in b) (no_bubble p n b f) (gathers (number_in b) f).answer
gathering p n c f = None

-- the bubble for which a thread is born
abbrev pub bubble_for : Why → Option ℕ
bubble_for (why.Inside by bubble) = Some bubble
bubble_for _ = None
