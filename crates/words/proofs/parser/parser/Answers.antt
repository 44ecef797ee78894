use Rattle.std.proofs.Common.{◌∙◌, [], map, take, get_or, ap, sym}
use Rattle.clap.specs.Simple.{App, app_of, with_rule}
use Rattle.words.specs.Words.{Text}
use Rattle.words.specs.Parser.{parser_of, flag_rule}
use Rattle.words.proofs.Parses.{grammar_of, more_flags, more_texts}
use Rattle.words.proofs.parser.parser.Goals as goal

pub loop-flag-preserved : goal.loop-flag-preserved
loop-flag-preserved c =
    let options = map (λ s. s.now) c.args.grammar.options.now in
    let flags = c.args.grammar.flags.now in
    let texts = map (λ s. s.now) (take c.loop-flag.flag-index flags) in
    let this : Text = (get_or flags c.loop-flag.flag-index (record { ref_ptr = (0, 0); now = [] })).now in
    c.in_ok-command-2.ensures.shape c.flag_argument.ensures.local
    ∙ ap (with_rule (app_of c.loop-flag.command)) c.flag_argument.ensures.rule
    ∙ ap (λ (a : App). with_rule a (flag_rule this)) c.loop-flag.invariant
    ∙ more_flags options texts this
    ∙ ap (λ l. parser_of (grammar_of options l)) (sym (more_texts flags c.loop-flag.flag-index (record { ref_ptr = (0, 0); now = [] }) c.loop-flag-test.true))
