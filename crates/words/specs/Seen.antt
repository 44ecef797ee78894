-- A grammar, and what was given, without where they lie in memory.
use Rattle.std.specs.Prelude.{List, [], map, unwrap_or}
use Rattle.std.specs.Option.{option_map}
use Rattle.clap.specs.Words.{found_of, matched_of, raw_values}
use Rattle.words.specs.Words.{GrammarOf, Text}
use Rattle.words.specs.declared.grammar.Grammar.{Grammar}
use Rattle.words.specs.declared.given.Given.{Given}

abbrev pub grammar_seen : Grammar → GrammarOf
grammar_seen g = record { options = map (λ s. s.now) g.options.now; flags = map (λ s. s.now) g.flags.now }

-- the values that were given under a name
abbrev pub values_given : Given → Text → List Text
values_given g name = unwrap_or (option_map raw_values (matched_of (found_of g.matches) name)) []
