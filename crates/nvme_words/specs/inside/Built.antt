-- What the functions that build the command line make: an argument with a rule, and a command.
use Rattle.std.specs.Prelude.{◌≡◌, true, false, Result, IfOk}
use Rattle.clap.specs.Words.{App, Rule, app_of, rule_of, with_subcommand}
use Rattle.clap.specs.declared.builder.arg.Arg.{Arg}
use Rattle.clap.specs.declared.builder.command.Command.{Command}

-- an argument of its command alone
abbrev pub HasRule : Rule → Arg → Type 0
HasRule rule arg = (rule_of arg ≡ rule) × (arg.global ≡ false)

abbrev pub HasApp : App → Command → Type 0
HasApp app command = app_of command ≡ app

-- the first with the second, which is plain, as one more subcommand, where both are made
abbrev pub AddsIfMade : {E F G : Type 0} → Result Command E → Result Command F → Result Command G → Type 0
AddsIfMade program subcommand result = (app sub : App) → sub.top.is_plain ≡ true → IfOk program (HasApp app)
    → IfOk subcommand (HasApp sub) → IfOk result (HasApp (with_subcommand app sub.top))
