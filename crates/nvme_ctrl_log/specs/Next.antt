-- What makes an event of a controller lawful, beside its doorbells, the answers of its device, and what arbitration sees (profile).
use Rattle.std.specs.Prelude.{List, [], ◌∷◌}
use Rattle.nvme_log.specs.declared.event.Event.{Event}
use Rattle.nvme_log.specs.Rules.{FrontRules, Past}
use Rattle.nvme_log.specs.Effects.{EffectsAtOnce}
use Rattle.nvme_log.specs.Account.{IndexCounts, ServedWhileOpen}
use Rattle.nvme_ctrl_log.specs.Deletions.{FollowsDeletions}

pub record IsNext (rules : FrontRules) (past : Past) (e : Event) : Type 0 where
  pub index_counts : IndexCounts past e
  pub served_while_open : ServedWhileOpen rules past e
  pub effects_at_once : EffectsAtOnce rules past e
  pub deletes : FollowsDeletions past e

-- something holds of each of some events that come one after another, with the events before it
abbrev pub EachNext : (Past → Event → Type 0) → List Event → Past → Type 0
EachNext P [] past = Unit {0}
EachNext P (e ∷ rest) past = P past e × EachNext P rest (e ∷ past)
