-- A region that is added before its Create is picked, and after.
use Rattle.std.proofs.Common.{◌≡◌, true, false, refl}
use Rattle.nvme_admin.specs.Accepted.{effects_of, queue_table, status_of, dw0_of, verdict_of}
use Rattle.nvme_log.specs.Examples.{create_cq}
use Rattle.nvme_ctrl_log.specs.Notes.{Answered}
use Rattle.nvme_ctrl_log.specs.Making.{is_named}
use Rattle.nvme_ctrl_log.specs.Account.{IsLawful}
use Rattle.nvme_ctrl_log.specs.Examples.{without_region, with_late_region, creates_fetched, create_picked, create_refused}

pub unnamed : is_named without_region creates_fetched 0x9000 ≡ false
unnamed = refl

pub named : is_named without_region create_picked 0x9000 ≡ true
named = refl

pub refused : IsLawful without_region create_picked (Answered 0 0 create_refused)
unfolding effects_of queue_table status_of dw0_of verdict_of
refused = record { first = refl; executed = record { entry = create_cq; is_there = refl; picked = refl; whole = refl; finished = λ r. refl; status = refl; dw0 = refl } }

-- what the Create makes isn't there
pub refused_late : IsLawful with_late_region create_picked (Answered 0 0 create_refused) → ⊥
unfolding effects_of queue_table status_of dw0_of verdict_of
refused_late h = cc h.executed.whole
