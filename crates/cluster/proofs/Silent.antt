-- No node but the first shows a line.
use Rattle.std.proofs.Common.{◌≡◌, ◌≢◌, ℕ, List, [], ◌∷◌, ◌++◌, refl, arith, ap, ◌∙◌}
use Rattle.run_trace.specs.declared.entry.Entry.{Entry}
use Rattle.run_trace.specs.declared.label.Label.{Label}
use Rattle.run_trace.specs.declared.label.Label.TheVariants.{Shown}
use Rattle.run_trace.specs.Program.{Program}
use Rattle.run_trace.specs.Console.{shown_by, shown_by_all}
use Rattle.run_trace.specs.Spots.{Life, after_label, after_labels}
use Rattle.run_trace.specs.World.{World, world_after}
use Rattle.run_trace.specs.Items.{Progress, worked_off, said}
use Rattle.run_trace.specs.Telling.{world_of}
use Rattle.run_trace.specs.Rules.{Occasion, saying, LifeRule, MayShow, spots_of}
use Rattle.run_trace.specs.Obeying.{GoesOn}

never_shows : (n : ℕ) (life : Life) → n ≢ 0 → MayShow n life → ⊥
never_shows n life ne h = grind (arith, ne, h)

no_line : (p : Program) (o : Occasion) (n : ℕ) (l : Label) (w : World) → n ≢ 0 → LifeRule p o n l w → shown_by l w.spots ≡ []
no_line p o n (Shown t) w ne h = absurd (never_shows n (w.spots.threads t).life ne h)
no_line p o n l w ne h = refl

pub silent : (p : Program) (o : Occasion) (n : ℕ) (ls : List Label) (w : World) (r : Progress) → n ≢ 0 → GoesOn p o n ls w r → shown_by_all p n ls w.spots ≡ []
silent p o n [] w r ne h = refl
silent p o n (l ∷ ls) w r ne h =
    ap (λ xs. xs ++ shown_by_all p n ls (after_label p n l w.spots)) (no_line p o n l w ne h.1.life)
    ∙ silent p (saying l o) n ls (world_after p n l w) (said p n l w.spots (worked_off n w.spots r)) ne h.2

pub told_spots : (p : Program) (old : World) (trace : List Entry) → (world_of p old trace).spots ≡ spots_of p old.spots trace
told_spots p old [] = refl
told_spots p old (x ∷ xs) = ap (λ w. after_labels p x.node x.labels w) (told_spots p old xs)
