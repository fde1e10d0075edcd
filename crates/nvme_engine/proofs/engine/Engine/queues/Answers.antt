use Rattle.nvme_engine.proofs.engine.Engine.queues.Goals as goal

pub returns-clause-few : goal.returns-clause-few
returns-clause-few c rules late notes s = s.few.0

pub returns-clause-sqs : goal.returns-clause-sqs
returns-clause-sqs c rules late notes s q from = (s.few.1 q from).0

pub returns-clause-cqs : goal.returns-clause-cqs
returns-clause-cqs c rules late notes s q from = (s.few.1 q from).1
