-- After a round side by side the cluster stands for the trace with the round's entries.
use Rattle.std.proofs.Common.{◌≡◌, ◌+◌, List, ◌++◌, length, arith}
use Rattle.run_trace.specs.declared.entry.Entry.{Entry}
use Rattle.run_trace.specs.Histories.{Turn}
use Rattle.node_loop.specs.View.{NodeView, next_round}
use Rattle.cluster.specs.Gathering.{AreGathered, entries_in}
use Rattle.cluster.specs.Rounds.{HasRoomForRound, last_stamp}
use Rattle.cluster.specs.SideBySide.{HaveRounded}
use Rattle.cluster.specs.Standing.{StandsFor, turns_in}
use Rattle.cluster.specs.View.{ClusterView, greatest_clock, round_in, shell_of, view_of}
use Rattle.cluster.proofs.Shells.{is_shell}
use Rattle.cluster.proofs.SideRuns as side
use Rattle.cluster.proofs.Together as together
use Rattle.cluster.proofs.Together.{all_turns, entries_length, turns_joined}

module _ (c : ClusterView) (before kept : List Entry) (s : StandsFor c before kept) (room : HasRoomForRound c) (nodes : List NodeView) (h : HaveRounded (greatest_clock c.nodes) c.rest c.nodes nodes) where
  abbrev turns : List Turn
  turns = side.turns c before kept s nodes h

  abbrev entries : List Entry
  entries = entries_in turns

  pub greatest_now : greatest_clock h.ran ≡ last_stamp (greatest_clock c.nodes) entries
  greatest_now = together.greatest (shell_of c) h.ran (side.fits c before kept s nodes h) before kept (side.top c before kept s nodes h) (side.round c before kept s nodes h) (side.each c before kept s nodes h) (side.gone c before kept s nodes h room)

  pub round_now : round_in (view_of c.program c.turns h.ran c.rest) ≡ next_round (round_in c)
  round_now = together.round_now (shell_of c) h.ran (side.fits c before kept s nodes h) before kept (side.top c before kept s nodes h) (side.round c before kept s nodes h) (side.each c before kept s nodes h) (side.gone c before kept s nodes h room)

  made : c.turns + length entries ≡ turns_in (entries ++ kept)
  made = omega (
    arith,
    turns_joined kept entries,
    s.agrees.turns,
    all_turns (side.top c before kept s nodes h) (side.round c before kept s nodes h) turns (side.all_of_round c before kept s nodes h),
    entries_length turns,
  )

  pub stands : AreGathered c.program (kept ++ before) turns → StandsFor (view_of c.program (c.turns + length entries) nodes c.rest) before (entries ++ kept)
  stands a =
      together.stands (shell_of c) h.ran (side.fits c before kept s nodes h) before kept (side.top c before kept s nodes h) (side.round c before kept s nodes h) (side.each c before kept s nodes h) (side.gone c before kept s nodes h room)
      nodes h.settled (is_shell c before kept s.agrees) a (c.turns + length entries) made
