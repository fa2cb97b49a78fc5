-- The command line as clap is told it.
use Rattle.std.specs.Prelude.{ℕ, List, Some, true, codes}
use Rattle.clap.specs.Simple.{Shape, App, on_top}
use Rattle.clap.specs.Words.{Rule, new_app, new_rule, with_rule, with_subcommand}
use Rattle.clap.specs.declared.builder.action.ArgAction.TheVariants.{Set}

-- without help and version, which clap would add
abbrev pub bare : Shape → Shape
bare s = record s { disable_help_flag = true; disable_version_flag = true }

abbrev pub plain : List ℕ → App
plain name = on_top bare (new_app name)

-- an option that has to be given, with a value
abbrev pub given : List ℕ → Rule
given name = record (new_rule name) { long = Some name; required = true; action = Some Set }

abbrev pub work : App
work = with_rule (with_rule (plain (codes "work")) (given (codes "seed"))) (given (codes "steps"))

abbrev pub top : App
top = on_top
    (λ s. record s { no_binary_name = true; disable_help_subcommand = true; subcommand_required = true })
    (plain (codes "sharedtree"))

abbrev pub with_plain : App → List ℕ → App
with_plain a name = with_subcommand a (plain name).top

-- the program with the subcommands that have no options
abbrev pub names : App
names = with_plain (with_plain (with_plain (with_plain top (codes "trace")) (codes "replay"))
    (codes "algebra")) (codes "compat")

abbrev pub program : App
program = with_subcommand names work.top
