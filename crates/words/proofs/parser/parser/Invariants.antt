use Rattle.std.proofs.Common.{◌≡◌, map, take}
use Rattle.clap.specs.Simple.{app_of}
use Rattle.words.specs.Parser.{parser_of}
use Rattle.words.proofs.Parses.{grammar_of}
use Rattle.words.proofs.parser.parser.Given as goal

abbrev pub invariant-loop-flag : goal.invariant-loop-flag
invariant-loop-flag l = app_of l.command ≡ parser_of (grammar_of (map (λ s. s.now) l.fn.grammar.options.now) (map (λ s. s.now) (take l.flag-index l.fn.grammar.flags.now)))
