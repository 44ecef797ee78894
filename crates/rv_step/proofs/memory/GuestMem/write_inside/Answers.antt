use Rattle.std.proofs.Common.{◌≡◌, ℕ, List, Some, get_or, refl, ap, sym, ◌∙◌, arith}
use Rattle.rv_step.specs.declared.memory.Held.{Held}
use Rattle.rv_step.specs.Memory.{place_of}
use Rattle.rv_step.proofs.InsideLemmas.{written_inside, slots_set}
use Rattle.rv_step.proofs.memory.GuestMem.write_inside.Goals as goal

pub returns-clause-written : goal.returns-clause-written
returns-clause-written c =
    let seen : c.self.inside.held.items ≡ c.args.self.now.0 = ap (λ (v : List Held × ℕ). v.0) c.self.view_is in
    let place : place_of c.args.self.now.0 c.args.address ≡ Some c.in-Some.place = sym c.place.ensures.value ∙ c.in-Some.is in
    let there : c.index_mut.result.now ≡ get_or c.args.self.now.0 c.in-Some.place c.index_mut.result.now = rw (← seen) c.index_mut.ensures.value in
    let all = written_inside c.args.self.now.0 c.args.address c.in-Some.place c.args.from.now c.index_mut.result.now
    place there (omega arith) c.set_slot_bytes.ensures.len in
    rw (seen, c.set_slot_bytes.ensures.bytes) (all, ap (λ (v : List Held × ℕ). v.1) c.self.view_is)

pub returns-clause-slots : goal.returns-clause-slots
returns-clause-slots c =
    let seen : c.self.inside.held.items ≡ c.args.self.now.0 = ap (λ (v : List Held × ℕ). v.0) c.self.view_is in
    let new : Held = record { slot = c.index_mut.result.now.slot; block = c.set_slot_bytes.new.block } in
    rw (← seen) (slots_set c.self.inside.held.items c.in-Some.place c.index_mut.result.now new c.index_mut.ensures.value refl)
