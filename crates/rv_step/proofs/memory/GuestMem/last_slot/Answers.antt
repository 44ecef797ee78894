use Rattle.std.proofs.Common.{◌≡◌, ◌-◌, ℕ, List, length, slice_get, Some, ap, sym}
use Rattle.rv_step.specs.declared.memory.Held.{Held}
use Rattle.rv_step.proofs.AscendingLemmas.{is_held}
use Rattle.rv_step.proofs.memory.GuestMem.last_slot.Goals as goal

pub returns-clause-held : goal.returns-clause-held
returns-clause-held c =
    let seen : c.self.inside.held.items ≡ c.args.self.now.0 = ap (λ (v : List Held × ℕ). v.0) c.self.view_is in
    let there : slice_get c.self.inside.held.items (length c.self.inside.held.items - 1) ≡ Some c.in_ok-held.held.now
    = rw (← c.deref.ensures.value) (sym c.in_ok-held.ensures.value) in
    rw (← seen) (is_held c.self.inside.held.items _ c.in_ok-held.held.now there)
