use Rattle.std.proofs.Common.{rules}
use Rattle.serde_json.specs.View.{view}
use Rattle.nvme_arbiter.specs.Observation.{IsObservation}
use Rattle.nvme_trace.proofs.ReadingLemmas.{observed, not_observed}
use Rattle.nvme_trace.proofs.records.observation_of.Goals as goal

pub returns-then-is_observation-clause-value : goal.returns-then-is_observation-clause-value
returns-then-is_observation-clause-value c =
    let o : IsObservation c.in_ok-seen.seen.items = search rules in
    observed (view c.args.value.now) c.in_ok-seen.seen.items c.in_ok-seen.ensures o

pub returns-else-is_observation-clause-value : goal.returns-else-is_observation-clause-value
returns-else-is_observation-clause-value c =
    not_observed (view c.args.value.now) c.in_ok-seen.seen.items c.in_ok-seen.ensures (λ o. search rules)
