-- What an entry was asked: its stamp, its node, its round and its act.
use Rattle.std.specs.Prelude.{ℕ}
use Rattle.run_trace.specs.declared.entry.Act.{Act}
use Rattle.run_trace.specs.declared.entry.Entry.{Entry}

pub record Heading : Type 0 where
  pub stamp : ℕ
  pub node : ℕ
  pub round : ℕ
  pub act : Act

abbrev pub heading : Entry → Heading
heading x = record { stamp = x.stamp; node = x.node; round = x.round; act = x.act }
