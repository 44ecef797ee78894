-- How many blocks of memory stay spare.
use Rattle.std.specs.Prelude.{ℕ}

-- the most behind an event; those beyond are given up
abbrev pub spare_kept : ℕ
spare_kept = 64
