use Rattle.nvme_log.proofs.Prefixes.{accounted_by}
use Rattle.nvme_log.proofs.Posts.{whole_answers_by}
use Rattle.nvme_log.proofs.Promise.{whole_promise_by}
use Rattle.nvme_log.proofs.PickedOnce.{serve_once_by}
use Rattle.nvme_log.proofs.AnswerLaws.{accounts_keep_the_laws}
use Rattle.nvme_log.proofs.laws.laws_hold_whatever_executes.Goals as goal

pub returns : goal.returns
returns c = record {
  accounts = accounts_keep_the_laws;
  prefixes = accounted_by;
  whole = whole_answers_by;
  promise = whole_promise_by;
  served = serve_once_by;
}
