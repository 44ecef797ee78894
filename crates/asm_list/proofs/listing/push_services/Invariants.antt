use Rattle.std.proofs.Common.{◌≡◌, ◌++◌, drop}
use Rattle.std.specs.List.{flat_map}
use Rattle.asm_list.specs.Listing.{service_line}
use Rattle.asm_list.proofs.listing.push_services.Given as goal

abbrev pub invariant-loop-service : goal.invariant-loop-service
invariant-loop-service l =
    l.out.items ++ flat_map service_line (drop l.service-index l.services) ≡ l.fn.out.items ++ flat_map service_line l.services
