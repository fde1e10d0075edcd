use Rattle.std.proofs.Common.{rules, ◌≡◌, ◌∙◌, Some, None, codes, option_map, sym}
use Rattle.clap.specs.Words.{first_value, found_of, rows_of, subcommand_rows_of}
use Rattle.nvme_words.proofs.Naming.{named_other, value_read}
use Rattle.nvme_words.proofs.files.value_in.Goals as goal

pub returns-in_err-name : goal.returns-in_err-name
returns-in_err-name c =
    let given : option_map (λ g. g.1) (subcommand_rows_of c.args.matches.now) ≡ Some (rows_of (found_of c.in_ok-asked.asked.now)) = search rules in
    let none : None ≡ first_value (found_of c.in_ok-asked.asked.now) c.args.id.now = search rules in
    sym (value_read c.args.id.now c.args.matches.now c.in_ok-asked.asked.now None given none ∙ search rules)

pub returns-then-eq : goal.returns-then-eq
returns-then-eq c =
    let given : option_map (λ g. g.1) (subcommand_rows_of c.args.matches.now) ≡ Some (rows_of (found_of c.in_ok-asked.asked.now)) = search rules in
    let dash : Some (codes "-") ≡ first_value (found_of c.in_ok-asked.asked.now) c.args.id.now = search rules in
    sym (value_read c.args.id.now c.args.matches.now c.in_ok-asked.asked.now (Some (codes "-")) given dash)

pub returns-else-eq : goal.returns-else-eq
returns-else-eq c =
    let given : option_map (λ g. g.1) (subcommand_rows_of c.args.matches.now) ≡ Some (rows_of (found_of c.in_ok-asked.asked.now)) = search rules in
    let text : Some c.in_ok-name.name.now ≡ first_value (found_of c.in_ok-asked.asked.now) c.args.id.now = search rules in
    sym (value_read c.args.id.now c.args.matches.now c.in_ok-asked.asked.now (Some c.in_ok-name.name.now) given text ∙ named_other c.in_ok-name.name.now (search rules))
