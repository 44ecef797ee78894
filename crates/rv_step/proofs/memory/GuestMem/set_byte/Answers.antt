use Rattle.std.proofs.Common.{◌≡◌, ℕ, List, refl, ap}
use Rattle.rv_step.specs.declared.memory.Held.{Held}
use Rattle.rv_step.proofs.InsideLemmas.{slots_set}
use Rattle.rv_step.proofs.memory.GuestMem.set_byte.Goals as goal

pub returns-in-Some-clause-slots : goal.returns-in-Some-clause-slots
returns-in-Some-clause-slots c =
    let seen : c.self.inside.held.items ≡ c.args.self.now.0 = ap (λ (v : List Held × ℕ). v.0) c.self.view_is in
    let new : Held = record { slot = c.index_mut.result.now.slot; block = c.set_slot_byte.new.block } in
    rw (← seen) (slots_set c.self.inside.held.items c.in-Some.place c.index_mut.result.now new c.index_mut.ensures.value refl)
