use Rattle.nvme_numbers.proofs.Feeds.{ended}
use Rattle.nvme_numbers.proofs.numbers.Numbers.end.Goals as goal

pub returns : goal.returns
returns c = record {
  fed = λ events is. ended c.args.finished.now c.args.self.now c.feed.new.self events c.feed.ensures.fed c.feed.ensures.keeps is;
  keeps = c.feed.ensures.keeps;
}
