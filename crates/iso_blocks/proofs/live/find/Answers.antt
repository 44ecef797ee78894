use Rattle.std.proofs.Common.{ℕ, ap, ◌∙◌, eq-eqb, get_or}
use Rattle.std.proofs.lemmas.Bool.{ne_eqb}
use Rattle.iso_blocks.proofs.LiveBlocks.{starts_rise, starts_at-place, starts_at-none}
use Rattle.iso_blocks.proofs.Rows.{same_read, same_default}
use Rattle.iso_blocks.proofs.live.find.Goals as goal
use Rattle.iso_blocks.proofs.live.find.Goals.{else-k-live-via-then-k-live+else-live-k, else-k-live-via-else-k-live}

pub starting_before-k-requires : goal.starting_before-k-requires
starting_before-k-requires c = starts_rise 0 c.requires.0 c.args.live.now c.requires.2

pub returns-then-live-k : goal.returns-then-live-k
returns-then-live-k c =
    let live = c.args.live.now in
    let k = c.starting_before-k.result in
    let at = starts_at-place 0 c.requires.0 live c.args.address k (0, 0) c.requires.2 c.starting_before-k.ensures.before c.starting_before-k.ensures.behind c.if-k-live.true in (
      c.if-k-live.true,
      at ∙ eq-eqb (get_or live k (0, 0)).0 c.args.address c.if-live-k.true,
      λ d read. ap (λ (p : ℕ × ℕ). p.0) (same_read live k d (get_or live k (0, 0)) c.if-k-live.true read (same_default live k (0, 0) c.if-k-live.true)) ∙ c.if-live-k.true,
    )

pub returns-else-k-live : goal.returns-else-k-live
returns-else-k-live c =
    let live = c.args.live.now in
    let k = c.starting_before-k.result in
    elim c.else-k-live.branch [
      | else-k-live-via-then-k-live+else-live-k w ↦
          starts_at-place 0 c.requires.0 live c.args.address k (0, 0) c.requires.2 c.starting_before-k.ensures.before c.starting_before-k.ensures.behind w.if-k-live.true
          ∙ ne_eqb (get_or live k (0, 0)).0 c.args.address w.if-live-k.false
      | else-k-live-via-else-k-live w ↦ starts_at-none live c.args.address k c.starting_before-k.ensures.before w.if-k-live.false
    ]
