-- Where there is no thread for an act, nothing is done.
use Rattle.std.proofs.Common.{◌≡◌, ℕ, zero, suc, Option, Some, None, Bool, false, refl, ap, cond}
use Rattle.std.specs.Map.{lookup}
use Rattle.levels.specs.Choice.{has_ready}
use Rattle.levels.proofs.Lemmas.{not_ready}
use Rattle.bubbles.specs.declared.bubble.Step.{Step}
use Rattle.bubbles.specs.declared.bubble.Step.TheVariants.{Empty}
use Rattle.bubbles.specs.Forests.{ForestView}
use Rattle.bubbles.specs.Picking.{step, step_by}
use Rattle.run_trace.specs.declared.entry.Act.{Act}
use Rattle.run_trace.specs.declared.entry.Act.TheVariants.{Boot, Run, Take, Move}
use Rattle.run_trace.specs.declared.packet.Packet.{Packet}
use Rattle.run_trace.specs.Program.{Program}
use Rattle.run_trace.specs.Local.{Local, nothing}
use Rattle.run_trace.specs.Machine.{acts, chosen_by, chooses, choice_limit, moves_found}
use Rattle.run_trace.specs.Names.{is_tid}
use Rattle.node_state.specs.Events.{can_act}

-- a choice finds nothing where no entity is on the processor's lists
nothing_there : (vp : ℕ) (f : ForestView) → has_ready f.lists.tree vp f.lists.rows ≡ false → (step vp f).what ≡ Empty
unfolding step
nothing_there vp f e = ap (λ o. (step_by vp f o).what) (not_ready f.lists.tree vp f.lists.rows e)

none_chosen : (p : Program) (me vp quantum : ℕ) (s : Local) → has_ready s.forest.lists.tree vp s.forest.lists.rows ≡ false
    → chooses p me vp quantum (choice_limit s.forest) (nothing s) ≡ None
none_chosen p me vp quantum s e =
    by (choice_limit s.forest)
  where
    by : (k : ℕ) → chooses p me vp quantum k (nothing s) ≡ None
    by zero = refl
    by (suc k) = ap (λ (w : Step). chosen_by p me vp quantum (chooses p me vp quantum k) w (nothing s)) (nothing_there vp s.forest e)

pub none_done : (p : Program) (me : ℕ) (s : Local) (act : Act) (took : Option Packet) → can_act s act ≡ false → acts p me s act took ≡ None
none_done p me s Boot took e = absurd (cc e)
none_done p me s (Run vp quantum) None e = none_chosen p me vp quantum s e
none_done p me s (Run vp quantum) (Some packet) e = refl
none_done p me s (Take from) took e = absurd (cc e)
none_done p me s (Move t to) None e = ap (λ (b : Bool). cond b (moves_found p t to (lookup (is_tid t) s.threads) s) None) e
none_done p me s (Move t to) (Some packet) e = refl
