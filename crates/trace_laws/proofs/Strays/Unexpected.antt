-- A packet that a node doesn't expect changes nothing and says nothing.
use Rattle.std.proofs.Common.{◌≡◌, ◌≤◌, ℕ, Some, true, refl, arith}
use Rattle.std.proofs.lemmas.Bool.Decides.{nat_tests}
use Rattle.run_trace.specs.declared.entry.Act.{Act}
use Rattle.run_trace.specs.declared.entry.Act.TheVariants.{Take}
use Rattle.run_trace.specs.declared.packet.Packet.{Packet}
use Rattle.run_trace.specs.Program.{Program}
use Rattle.run_trace.specs.Local.{Local, nothing}
use Rattle.run_trace.specs.Machine.{is_range, is_stray, is_beyond, local_event, turn_event, stamp_limit}

pub stray_ignored : (p : Program) (me from : ℕ) (s : Local) (x : Packet) → is_range p me s (Take from) ≡ true → is_stray p me from s x.body ≡ true → local_event p me s (Take from) (Some x) ≡ Some (nothing s)
unfolding local_event
stray_ignored p me from s x range stray = rw (range, stray) refl

pub beyond_ignored : (p : Program) (me : ℕ) (s : Local) (act : Act) (x : Packet) → stamp_limit ≤ x.stamp → turn_event p me s act (Some x) ≡ Some (nothing s)
beyond_ignored p me s act x late =
    let beyond : is_beyond (Some x) ≡ true = grind (arith, nat_tests, late) in
    rw beyond refl
