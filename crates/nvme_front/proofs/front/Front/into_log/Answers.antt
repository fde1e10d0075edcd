use Rattle.nvme_front.proofs.Ended.{account_seen, fetched_seen, posted_seen}
use Rattle.nvme_front.proofs.Executions.{jobs_seen, none_in_hand_seen}
use Rattle.nvme_front.proofs.Results.{tickets_seen}
use Rattle.nvme_front.proofs.front.Front.into_log.Goals as goal

pub returns-in-Ok-clause-account : goal.returns-in-Ok-clause-account
returns-in-Ok-clause-account g c = account_seen c.self.inside.state c.args.self c.self.view_is c.self.invariant

pub returns-in-Ok-clause-jobs : goal.returns-in-Ok-clause-jobs
returns-in-Ok-clause-jobs g c = jobs_seen c.self.inside.state c.args.self c.self.view_is c.self.invariant

pub returns-in-Ok-clause-none_in_hand : goal.returns-in-Ok-clause-none_in_hand
returns-in-Ok-clause-none_in_hand g c = none_in_hand_seen c.self.inside.state c.args.self c.self.view_is c.self.invariant

pub returns-in-Ok-clause-tickets : goal.returns-in-Ok-clause-tickets
returns-in-Ok-clause-tickets g c = tickets_seen c.self.inside.state c.args.self c.self.view_is c.self.invariant

pub returns-in-Ok-clause-fetched : goal.returns-in-Ok-clause-fetched
returns-in-Ok-clause-fetched g c = fetched_seen c.self.inside.state c.args.self c.self.view_is c.self.invariant

pub returns-in-Ok-clause-posted : goal.returns-in-Ok-clause-posted
returns-in-Ok-clause-posted g c = posted_seen c.self.inside.state c.args.self c.self.view_is c.self.invariant

pub returns-in-Err-clause-account : goal.returns-in-Err-clause-account
returns-in-Err-clause-account g c = account_seen c.self.inside.state c.args.self c.self.view_is c.self.invariant

pub returns-in-Err-clause-jobs : goal.returns-in-Err-clause-jobs
returns-in-Err-clause-jobs g c = jobs_seen c.self.inside.state c.args.self c.self.view_is c.self.invariant

pub returns-in-Err-clause-none_in_hand : goal.returns-in-Err-clause-none_in_hand
returns-in-Err-clause-none_in_hand g c = none_in_hand_seen c.self.inside.state c.args.self c.self.view_is c.self.invariant

pub returns-in-Err-clause-tickets : goal.returns-in-Err-clause-tickets
returns-in-Err-clause-tickets g c = tickets_seen c.self.inside.state c.args.self c.self.view_is c.self.invariant

pub returns-in-Err-clause-fetched : goal.returns-in-Err-clause-fetched
returns-in-Err-clause-fetched g c = fetched_seen c.self.inside.state c.args.self c.self.view_is c.self.invariant

pub returns-in-Err-clause-posted : goal.returns-in-Err-clause-posted
returns-in-Err-clause-posted g c = posted_seen c.self.inside.state c.args.self c.self.view_is c.self.invariant
