-- What a cluster chooses by a word is the possible act at its place.
use Rattle.std.proofs.Common.{◌≡◌, ℕ, suc, ◌+◌, ◌%◌, ◌^◌, ◌<◌, List, [], ◌∷◌, ◌++◌, length, Option, Some, None, Bool, cond, refl, sym, ap, ◌∙◌, subst, arith}
use Rattle.std.specs.Prelude.{flat_map, slice_get}
use Rattle.std.proofs.lemmas.Option.{slice_get_past}
use Rattle.run_trace.specs.declared.entry.Act.{Act}
use Rattle.run_trace.specs.declared.entry.Entry.{Entry}
use Rattle.cluster.specs.Acts.{possible_acts}
use Rattle.cluster.specs.Between.{acts_by}
use Rattle.cluster.specs.Choosing.{IsCapped}
use Rattle.cluster.specs.Standing.{StandsFor, net_after}
use Rattle.cluster.specs.View.{ClusterView}
use Rattle.cluster.proofs.Listings.{all_acts}
use Rattle.cluster.proofs.Picks.{word_same}

module _ (c : ClusterView) (before kept : List Entry) (s : StandsFor c before kept) where
  abbrev trace : List Entry
  trace = kept ++ before

  pub nothing_chosen : (moves : Bool) (total word : ℕ) → IsCapped total (length (flat_map (acts_by moves) c.nodes)) → total ≡ 0
      → None ≡ slice_get (possible_acts moves c.program (net_after c.program trace)) (word % length (possible_acts moves c.program (net_after c.program trace)))
  nothing_chosen moves total word capped z =
      let none = ap (λ (acts : List (ℕ × Act)). length acts) (all_acts c before kept s moves) in
      sym (slice_get_past (possible_acts moves c.program (net_after c.program trace)) _ (omega (arith, capped, z, none)))

  pub chosen_by : (moves : Bool) (total word : ℕ) (it : Option (ℕ × Act)) → IsCapped total (length (flat_map (acts_by moves) c.nodes)) → word < 2 ^ 32 → it ≡ slice_get (flat_map (acts_by moves) c.nodes) (word % total)
      → it ≡ slice_get (possible_acts moves c.program (net_after c.program trace)) (word % length (possible_acts moves c.program (net_after c.program trace)))
  chosen_by moves total word it capped low is =
      is ∙ ap (slice_get (flat_map (acts_by moves) c.nodes)) (word_same total _ word capped low)
      ∙ ap (λ (acts : List (ℕ × Act)). slice_get acts (word % length acts)) (all_acts c before kept s moves)
