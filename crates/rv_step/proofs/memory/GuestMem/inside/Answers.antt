use Rattle.std.proofs.Common.{◌≡◌, ℕ, List, Some, get_or, ap, sym, ◌∙◌, arith}
use Rattle.rv_step.specs.declared.memory.Held.{Held}
use Rattle.rv_step.specs.Memory.{place_of}
use Rattle.rv_step.proofs.InsideLemmas.{read_inside, held_at}
use Rattle.rv_step.proofs.memory.GuestMem.inside.Goals as goal

pub returns-clause-bytes : goal.returns-clause-bytes
returns-clause-bytes c = λ image.
    let seen : c.self.inside.held.items ≡ c.args.self.now.0 = ap (λ (v : List Held × ℕ). v.0) c.self.view_is in
    let place : place_of c.args.self.now.0 c.args.address ≡ Some c.in_ok-place.place = sym c.place.ensures.value ∙ c.in_ok-place.was in
    let there : c.index.result.now ≡ get_or c.args.self.now.0 c.in_ok-place.place c.index.result.now = rw (← seen) c.index.ensures in
    let held = held_at c.args.self.now.0 c.args.address c.in_ok-place.place c.index.result.now place there in
    rw c.bytes.ensures.value (read_inside image c.args.self.now.0 c.args.address c.in_ok-place.place c.args.len c.index.result.now
    place held (omega arith) c.bytes.ensures.len)
