-- What a call of a semaphore may come to: what holds of each such stage.
use Rattle.std.proofs.Common.{ℕ, List, None, Bool, true, false, eqb, cond}
use Rattle.slot_space.specs.Replies.{reply_code}
use Rattle.slot_space.specs.declared.names.Reply.{Reply}
use Rattle.slot_space.specs.declared.names.Reply.TheVariants as replies
use Rattle.marcel_sync.specs.declared.sem.SemRow.{SemRow}
use Rattle.marcel_sync.specs.declared.sem.Pgot.{Pgot}
use Rattle.marcel_sync.specs.declared.sem.Pgot.TheVariants as lowering
use Rattle.marcel_sync.specs.declared.sem.Vgot.{Vgot}
use Rattle.marcel_sync.specs.declared.sem.Vgot.TheVariants as raising
use Rattle.marcel_sync.specs.Semaphores.{node_in, number_in, lowered_answer, raised_answer}
use Rattle.run_trace.specs.Spots.{Stage, Due, Answers, Signals, Queues, answered_stage, lowering_stage, raising_stage, signal_stage, signal_asked}

-- P holds of a thread that is answered, at once or by node h, and of one that waits for semaphore id
pub record OfSignals (P : Stage → Type 0) (h id : ℕ) : Type 0 where
  pub due : (code : ℕ) → P (Due code)
  pub answers : (reply : Reply) → P (Answers h reply None)
  pub queues : P (Queues id)

module _ (P : Stage → Type 0) where
  pub answered_by : (h m id : ℕ) (reply : Reply) → OfSignals P h id → P (answered_stage h m reply)
  answered_by h m id reply k = elim (eqb h m) as (λ v. P (cond v (Due (reply_code reply)) (Answers h reply None))) [ true ↦ k.due (reply_code reply) | false ↦ k.answers reply ]

  pub signal_by : (h m id : ℕ) (up : Bool) (sems : List SemRow) → OfSignals P h id → P (signal_stage h m id up sems)
  signal_by h m id true sems k = by (raised_answer (number_in id) sems)
    where
      by : (got : Vgot) → P (raising_stage h m got)
      by (raising.Woke u at) = answered_by h m id (replies.Value 0) k
      by raising.Stored = answered_by h m id (replies.Value 0) k
      by raising.AtLimit = answered_by h m id replies.BadArgument k
      by raising.NoSuch = answered_by h m id replies.NoSuch k
  signal_by h m id false sems k = by (lowered_answer (number_in id) sems)
    where
      by : (got : Pgot) → P (lowering_stage h m id got)
      by lowering.Got = answered_by h m id (replies.Value 0) k
      by lowering.Later = k.queues
      by lowering.NoSuch = answered_by h m id replies.NoSuch k

  -- one of its own node at once, and of another by a packet
  pub signal_asked_by : (n id : ℕ) (up : Bool) (sems : List SemRow) → OfSignals P n id → P (Signals id up) → P (signal_asked n id up sems)
  signal_asked_by n id up sems k there = elim (eqb (node_in id) n) as (λ v. P (cond v (signal_stage n n id up sems) (Signals id up))) [ true ↦ signal_by n n id up sems k | false ↦ there ]
