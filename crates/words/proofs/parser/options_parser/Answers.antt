use Rattle.std.proofs.Common.{◌∙◌, [], map, take, get_or, ap, sym}
use Rattle.clap.specs.Simple.{App, app_of, with_rule}
use Rattle.words.specs.Words.{Text}
use Rattle.words.specs.Parser.{parser_of, option_rule}
use Rattle.words.proofs.Parses.{grammar_of, more_options, more_texts}
use Rattle.words.proofs.parser.options_parser.Goals as goal

pub loop-option-preserved : goal.loop-option-preserved
loop-option-preserved c =
    let texts = map (λ s. s.now) (take c.loop-option.option-index c.args.options.now) in
    let this : Text = (get_or c.args.options.now c.loop-option.option-index (record { ref_ptr = (0, 0); now = [] })).now in
    c.in_ok-command-2.ensures.shape c.option_argument.ensures.local
    ∙ ap (with_rule (app_of c.loop-option.command)) c.option_argument.ensures.rule
    ∙ ap (λ (a : App). with_rule a (option_rule this)) c.loop-option.invariant
    ∙ more_options texts this
    ∙ ap (λ l. parser_of (grammar_of l [])) (sym (more_texts c.args.options.now c.loop-option.option-index (record { ref_ptr = (0, 0); now = [] }) c.loop-option-test.true))
