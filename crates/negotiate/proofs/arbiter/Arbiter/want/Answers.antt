use Rattle.std.proofs.Common.{subst, sym, lit<}
use Rattle.negotiate.specs.Turns.{AreOnceEach}
use Rattle.negotiate.proofs.Listing.{room, listed-last}
use Rattle.negotiate.proofs.arbiter.Arbiter.want.Goals as goal

pub push-requires : goal.push-requires
push-requires c = (lit< tt, room c.args.node c.self.inside.nodes.items c.args.self.now c.self.view_is c.requires.small c.self.invariant c.requires.other)

pub invariant_of-self : goal.invariant_of-self
invariant_of-self c = subst AreOnceEach (sym c.push.ensures.items) (listed-last c.node.inside.0 c.args.node c.self.inside.nodes.items c.args.self.now c.node.view_is c.self.view_is c.requires.small c.self.invariant c.requires.other)
