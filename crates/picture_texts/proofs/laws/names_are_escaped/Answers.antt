use Rattle.picture_texts.proofs.Escapes.{no_markup_in}
use Rattle.picture_texts.proofs.laws.names_are_escaped.Goals as goal

pub returns : goal.returns
returns c = no_markup_in
