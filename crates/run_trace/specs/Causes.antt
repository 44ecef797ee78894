-- What a label causes to be sent.
use Rattle.std.specs.Prelude.{ℕ, List, []}
use Rattle.slot_space.specs.declared.names.Tid.{Tid}
use Rattle.run_trace.specs.declared.label.Label.{Label}
use Rattle.run_trace.specs.declared.label.Label.TheVariants.{Asked, Judged, Left, Ended}
use Rattle.run_trace.specs.declared.packet.Body.TheVariants.{Mover, Show, ShowDone, JoinAsk, DetachAsk, SemAsk, Answer, EndNote}
use Rattle.run_trace.specs.declared.packet.Send.{Send}
use Rattle.run_trace.specs.Program.{Program}
use Rattle.run_trace.specs.Guests.{packed}
use Rattle.marcel_sync.specs.Semaphores.{node_in}
use Rattle.run_trace.specs.Talks.{one_send}
use Rattle.run_trace.specs.Spots.{Stage, Shows, Asks, Detaches, Signals, Showing, Answers, Life, On, Spots, stage_of_call}

abbrev pub asked_causes : Tid → Stage → List Send
asked_causes t (Shows bytes) = one_send 0 (Show t bytes)
asked_causes t (Asks u) = one_send u.home (JoinAsk t u.seq)
asked_causes t (Detaches u) = one_send u.home (DetachAsk t u.seq)
asked_causes t (Signals id up) = one_send (node_in id) (SemAsk t id up)
asked_causes t _ = []

abbrev pub judged_causes : Tid → Life → List Send
judged_causes t (On m Showing) = one_send m (ShowDone t)
judged_causes t (On m (Answers h reply second)) = one_send m (Answer t reply second)
judged_causes t _ = []

abbrev pub causes : Program → ℕ → Label → Spots → List Send
causes p n (Asked t call args bytes) w = asked_causes t (stage_of_call p n t w)
causes p n (Judged t reply extra) w = judged_causes t (w.threads t).life
causes p n (Left t to) w = one_send to (Mover (packed t (w.threads t).guest))
causes p n (Ended t end) w = one_send t.home (EndNote t.seq end)
causes p n _ w = []
