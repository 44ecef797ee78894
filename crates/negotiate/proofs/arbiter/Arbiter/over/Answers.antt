use Rattle.std.proofs.Common.{subst, sym}
use Rattle.negotiate.specs.Turns.{AreOnceEach}
use Rattle.negotiate.proofs.Listing.{listed-rest}
use Rattle.negotiate.proofs.arbiter.Arbiter.over.Goals as goal

pub invariant_of-self : goal.invariant_of-self
invariant_of-self c = subst AreOnceEach (sym c.remove.ensures.items) (listed-rest c.self.inside.nodes.items c.self.invariant)
