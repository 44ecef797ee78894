-- The command of `clap` that has these options and flags. Each use is one more value of its argument, so that nothing is
-- refused for being given twice, and the first argument takes all positional words.
use Rattle.std.specs.Prelude.{true, [], ◌∷◌, ◌++◌, map, Some, codes}
use Rattle.clap.specs.Walk.{Rule}
use Rattle.clap.specs.Simple.{App, new_app, new_rule}
use Rattle.clap.specs.declared.builder.action.ArgAction.TheVariants.{Append}
use Rattle.words.specs.Words.{GrammarOf, Text, file}

abbrev pub file_rule : Rule
file_rule = record (new_rule file) { action = Some Append }

abbrev pub option_rule : Text → Rule
option_rule name = record (new_rule name) { long = Some name; action = Some Append }

abbrev pub flag_rule : Text → Rule
flag_rule name = record (new_rule name) {
  long = Some name;
  action = Some Append;
  range = Some (record { start_inclusive = 0; end_inclusive = 0 });
  missing = codes "true" ∷ [];
}

abbrev pub parser_of : GrammarOf → App
parser_of g = record {
  top = record (new_app (codes "pm2")).top {
    rules = file_rule ∷ (map option_rule g.options ++ map flag_rule g.flags);
    no_binary_name = true;
    disable_help_flag = true;
  };
  subs = [];
}
