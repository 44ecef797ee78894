use Rattle.std.proofs.Common.{◌≡◌, ◌∙◌, sym, refl, map, false}
use Rattle.std.specs.List.{list_all}
use Rattle.std.proofs.lemmas.List.Folds.{list_all-map}
use Rattle.words.specs.Words.{is_name}
use Rattle.settings.proofs.command.command_of.Goals as goal

pub returns-then-not-are_names-clause-usage : goal.returns-then-not-are_names-clause-usage
returns-then-not-are_names-clause-usage c = λ _.
    let names = c.args.names.now in
    let bad : list_all is_name (map (λ s. s.now) names) ≡ false = list_all-map is_name (λ s. s.now) names ∙ sym c.if-not-are_names.ensures in
    rw bad refl
