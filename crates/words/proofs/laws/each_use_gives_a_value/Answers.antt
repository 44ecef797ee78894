use Rattle.words.proofs.Uses.{uses_have_values}
use Rattle.words.proofs.laws.each_use_gives_a_value.Goals as goal

pub returns : goal.returns
returns c = λ g name words items e names. uses_have_values g name words items e names
