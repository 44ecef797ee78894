use Rattle.std.proofs.Common.{◌≡◌, ◌-◌, ◌++◌}
use Rattle.std.specs.List.{flat_map, range_with_len}
use Rattle.picture_texts.specs.PajeHead.{processor_container}
use Rattle.picture_texts.proofs.paje_head.push_processors.Given as goal

abbrev pub invariant-loop-vp : goal.invariant-loop-vp
invariant-loop-vp l = l.out.items ++ flat_map (processor_container l.node) (range_with_len l.vp (l.processors - l.vp)) ≡ l.fn.out.items ++ flat_map (processor_container l.node) (range_with_len 0 l.processors)
