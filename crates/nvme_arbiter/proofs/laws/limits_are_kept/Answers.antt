use Rattle.nvme_arbiter.proofs.PickLaws.{limited_are_measured, limits_are_picks, picks_are_of_limits, wide_limits, lawful_is_limited, limited_prefixes}
use Rattle.nvme_arbiter.proofs.laws.limits_are_kept.Goals as goal

pub returns-clause-measured : goal.returns-clause-measured
returns-clause-measured c = limited_are_measured

pub returns-clause-limits : goal.returns-clause-limits
returns-clause-limits c = limits_are_picks

pub returns-clause-own : goal.returns-clause-own
returns-clause-own c = picks_are_of_limits

pub returns-clause-wide : goal.returns-clause-wide
returns-clause-wide c = wide_limits

pub returns-clause-runs : goal.returns-clause-runs
returns-clause-runs c = lawful_is_limited

pub returns-clause-prefixes : goal.returns-clause-prefixes
returns-clause-prefixes c = limited_prefixes
