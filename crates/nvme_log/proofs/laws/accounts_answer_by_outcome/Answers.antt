use Rattle.nvme_log.proofs.AnswerLaws.{accounts_answer_alike, accounts_answer_by_outcome, answers_by_outcome_are_accounted}
use Rattle.nvme_log.proofs.laws.accounts_answer_by_outcome.Goals as goal

pub returns : goal.returns
returns c = record { exactly = accounts_answer_by_outcome; agreeing = answers_by_outcome_are_accounted; alike = accounts_answer_alike }
