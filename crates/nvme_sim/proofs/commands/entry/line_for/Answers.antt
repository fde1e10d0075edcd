-- What one entry's answer says of the text that was taken.
use Rattle.std.proofs.Common.{◌≡◌, IfSome, rules}
use Rattle.nvme_words.specs.Once.{IsAnswer, entry_text}
use Rattle.nvme_sim.specs.Statuses.{IsBadEntry}
use Rattle.nvme_sim.proofs.Inputs.{bad_of_taken, ok_of_taken}
use Rattle.nvme_sim.proofs.commands.entry.line_for.Goals as goal

pub returns-clause-answer : goal.returns-clause-answer
returns-clause-answer g c =
    let whole : IfSome (g.R.Read.remaining c.args.input) (λ rest. c.as_slice.result.now ≡ rest) = search rules in
    ok_of_taken (g.R.Read.remaining c.args.input) c.as_slice.result.now (λ rest. IsAnswer (entry_text rest) c.args.blocks) c.line_of.result whole c.line_of.ensures.answer

pub returns-clause-input : goal.returns-clause-input
returns-clause-input g c =
    let whole : IfSome (g.R.Read.remaining c.args.input) (λ rest. c.as_slice.result.now ≡ rest) = search rules in
    bad_of_taken (g.R.Read.remaining c.args.input) c.as_slice.result.now IsBadEntry c.line_of.result whole c.line_of.ensures.input
