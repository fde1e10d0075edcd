use Rattle.std.proofs.Common.{rules}
use Rattle.nvme_numbers.proofs.Feeds.{came}
use Rattle.nvme_numbers.proofs.numbers.Numbers.come.Goals as goal

pub returns : goal.returns
returns c = record { fed = λ events is. rw c.with-self.ensures (came c.args.count c.args.at c.args.self.now events is); keeps = search rules }
