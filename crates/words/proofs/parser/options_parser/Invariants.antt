use Rattle.std.proofs.Common.{◌≡◌, [], map, take}
use Rattle.clap.specs.Simple.{app_of}
use Rattle.words.specs.Parser.{parser_of}
use Rattle.words.proofs.Parses.{grammar_of}
use Rattle.words.proofs.parser.options_parser.Given as goal

abbrev pub invariant-loop-option : goal.invariant-loop-option
invariant-loop-option l = app_of l.command ≡ parser_of (grammar_of (map (λ s. s.now) (take l.option-index l.options)) [])
