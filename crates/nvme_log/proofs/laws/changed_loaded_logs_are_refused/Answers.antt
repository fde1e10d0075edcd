use Rattle.std.proofs.Common.{◌≡◌, true, false, [], ◌∷◌}
use Rattle.nvme_admin.specs.Accepted.{effects_of, queue_table, status_of, dw0_of, verdict_of}
use Rattle.nvme_arbiter.specs.declared.settings.Class.TheVariants.{Urgent}
use Rattle.nvme_log.specs.declared.event.Event.TheVariants.{OpenSq}
use Rattle.nvme_log.proofs.laws.changed_loaded_logs_are_refused.Goals as goal

pub returns-clause-fetched_above_window : goal.returns-clause-fetched_above_window
unfolding effects_of queue_table
returns-clause-fetched_above_window c h = let e : false ≡ true = h.1 in cc e

pub returns-clause-fetched_before_the_effect : goal.returns-clause-fetched_before_the_effect
unfolding effects_of queue_table status_of dw0_of verdict_of
returns-clause-fetched_before_the_effect c h = let e : [] ≡ OpenSq 1 1 1 Urgent ∷ [] = h in cc e

pub returns-clause-picked_before_the_first_fetch : goal.returns-clause-picked_before_the_first_fetch
unfolding effects_of queue_table
returns-clause-picked_before_the_first_fetch c h = let e : false ≡ true = h in cc e

pub returns-clause-picked_before_refilled : goal.returns-clause-picked_before_refilled
unfolding effects_of queue_table
returns-clause-picked_before_refilled c h = let e : false ≡ true = h in cc e

pub returns-clause-fetched_a_pick_too_late : goal.returns-clause-fetched_a_pick_too_late
unfolding effects_of queue_table
returns-clause-fetched_a_pick_too_late c h = let e : false ≡ true = h in cc e
