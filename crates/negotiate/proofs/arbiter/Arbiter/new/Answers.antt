use Rattle.negotiate.proofs.Listing.{none_listed}
use Rattle.negotiate.proofs.arbiter.Arbiter.new.Goals as goal

pub invariant_of-result : goal.invariant_of-result
invariant_of-result c = none_listed c.new.result.items c.new.ensures
