use Rattle.std.proofs.Common.{◌≡◌, get_or, length, sym, ◌∙◌, subst, arith}
use Rattle.std.proofs.lemmas.Option.{get_or_from_slice_get, slice_get_within}
use Rattle.wires.specs.Wires.{StaysWired}
use Rattle.wires.proofs.Lemmas.{all_stay_wired}
use Rattle.cluster_tests.proofs.links.answer_beside.Goals as goal

pub returns : goal.returns
returns g c =
    let m = c.in_ok-back.ensures in
    let xs = c.args.nodes.items in
    let ys = c.in_ok-back.back.items in
    let long : length ys ≡ length xs = omega (arith, c.args.nodes.ok.0, c.in_ok-back.back.ok.0, m.len) in (
      m.len,
      all_stay_wired xs ys long
          (λ i a b p q.
          let k = (m.each i b (slice_get_within xs i a p)).1 in
          let ja : k.job ≡ a = sym (k.job_is a) ∙ get_or_from_slice_get xs i a a p in
          let rb : get_or ys i b ≡ b = get_or_from_slice_get ys i b b q in
          let s : StaysWired k.job (get_or ys i b) = k.call.met in
          subst (λ u. StaysWired u b) ja (subst (λ u. StaysWired k.job u) rb s))
          c.requires.wired,
    )
