-- What a front keeps, read off its state (profile).
use Rattle.std.specs.Prelude.{List, ◌++◌, map, reverse}
use Rattle.nvme_entry.specs.declared.submission.Sqe.{Sqe}
use Rattle.nvme_lane.specs.View.{GetView}
use Rattle.nvme_log.specs.Rules.{FrontRules, Past}
use Rattle.nvme_front.specs.declared.region.SqRegion.{SqRegion}
use Rattle.nvme_front.specs.declared.state.FrontState.{FrontState}
use Rattle.nvme_front.specs.Regions.{cq_steps, sq_steps}
use Rattle.nvme_front.specs.View.{FrontView}

abbrev pub gets_of : List SqRegion → List (GetView Sqe)
gets_of sqs = map (λ (s : SqRegion). s.end) sqs

abbrev pub rules_of : FrontState → FrontRules
rules_of s = record {
  mechanism = s.config.mechanism;
  start = record { nsq = s.config.limits.nsq; ncq = s.config.limits.ncq; settings = s.config.settings };
  sizes = s.config.spaces;
  regions = cq_steps s.cqs.items ++ sq_steps (gets_of s.sqs.items);
}

-- the log, the newest event first
abbrev pub past_of : FrontState → Past
past_of s = reverse s.log.items

abbrev pub view_of : FrontState → FrontView
view_of s = record {
  rules = rules_of s;
  limit = s.config.max_events;
  late = s.late;
  log = s.log.items;
  gets = gets_of s.sqs.items;
  puts = s.cqs.items;
  hands = s.jobs.hands;
}
