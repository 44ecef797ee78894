use Rattle.std.proofs.Common.{◌∙◌, rules}
use Rattle.clap.specs.Simple.{app_of}
use Rattle.std.specs.String.{string_bytes}
use Rattle.words.specs.Seen.{grammar_seen}
use Rattle.words.proofs.Parses.{matched, refused, unclean}
use Rattle.words.proofs.reading.read.Goals as goal

pub returns-then-not-are_clean-clause-usage : goal.returns-then-not-are_clean-clause-usage
returns-then-not-are_clean-clause-usage c = λ _. unclean string_bytes _ c.args.words.now c.if-not-are_clean.ensures

pub returns-in-Ok-clause-ok : goal.returns-in-Ok-clause-ok
returns-in-Ok-clause-ok c =
    matched string_bytes (grammar_seen c.args.grammar) c.args.grammar.file_is_free c.args.words.now c.if-not-are_clean.ensures (app_of c.in_ok-command.command) c.in_ok-command.ensures c.in-Ok.matches c.in-Ok.ensures.kinds c.in-Ok.ensures.matches

pub returns-clause-usage : goal.returns-clause-usage
returns-clause-usage c = λ _.
    refused string_bytes (grammar_seen c.args.grammar) c.args.grammar.file_is_free c.args.words.now c.if-not-are_clean.ensures (app_of c.in_ok-command.command) c.in_ok-command.ensures c.in-Err.error c.in-Err.ensures.kinds (λ m. c.in_default.not-OutOfMemory (c.kind.ensures ∙ m))

pub returns-in-OutOfMemory-clause-usage : goal.returns-in-OutOfMemory-clause-usage
returns-in-OutOfMemory-clause-usage c = search rules
