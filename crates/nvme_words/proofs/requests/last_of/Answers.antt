use Rattle.std.proofs.Common.{codes}
use Rattle.std.specs.Str.Parse.{ExplainsUnsignedError, HasUnsignedDigitsIfOk, ParsesUnsigned}
use Rattle.nvme_words.proofs.Reading.{number_read}
use Rattle.nvme_words.proofs.requests.last_of.Goals as goal

pub returns : goal.returns
returns c = number_read 64 c.args.matches.now (codes "to")
    (λ text parsed. ParsesUnsigned 64 10 text parsed × ExplainsUnsignedError 10 text parsed × HasUnsignedDigitsIfOk text parsed)
    c.get_one.result (λ text parsed gives. gives.0) c.get_one.ensures.none c.get_one.ensures.value
