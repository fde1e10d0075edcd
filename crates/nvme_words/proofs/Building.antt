-- What building a command adds to what parsing reads of it.
use Rattle.std.proofs.Common.{◌≡◌, ◌∙◌, ◌&&◌, Bool, true, false, not, refl, ap, ap₂}
use Rattle.clap.specs.Words.{AddsArg, AddsSubcommand, App, Rule, app_of, with_rule, with_subcommand}
use Rattle.clap.specs.declared.builder.arg.Arg.{Arg}
use Rattle.clap.specs.declared.builder.command.Command.{Command}
use Rattle.nvme_words.specs.inside.Built.{HasApp, HasRule}

-- one more argument
pub rule_added : (old new : Command) (arg : Arg) (app : App) (rule : Rule) → AddsArg old arg new → HasApp app old → HasRule rule arg
    → HasApp (with_rule app rule) new
rule_added old new arg app rule added has of = added.shape of.1 ∙ ap₂ with_rule has of.0

third : (a b c d : Bool) → (a && (b && (not c && d))) ≡ true → c ≡ false
third true true false d e = refl
third false b c d e = cc
third true false c d e = cc
third true true true d e = cc

-- one more subcommand, which is plain
pub subcommand_added : (old sub new : Command) (app of : App) → AddsSubcommand old sub new → of.top.is_plain ≡ true → HasApp app old
    → HasApp of sub → HasApp (with_subcommand app of.top) new
subcommand_added old sub new app of added plain has is =
    let all : (app_of sub).top.is_plain ≡ true = ap (λ (a : App). a.top.is_plain) is ∙ plain in
    added.shape (third _ _ _ _ all) ∙ ap₂ with_subcommand has (ap (λ (a : App). a.top) is)
