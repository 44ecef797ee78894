use Rattle.std.proofs.Common.{◌≡◌, is_some, drop}
use Rattle.levels.specs.declared.entity.Entity.TheVariants as entities
use Rattle.levels.specs.Rows.{place_of}
use Rattle.levels.proofs.lists.Lists.has_thread.Given as goal

-- the rows that are left settle the answer
abbrev pub invariant-loop-row : goal.invariant-loop-row
invariant-loop-row l =
    is_some (place_of (entities.Thread (record { home = l.home; seq = l.seq })) (drop l.row-index l.self.rows)) ≡ is_some (place_of (entities.Thread (record { home = l.home; seq = l.seq })) l.self.rows)
