-- The picks whose commands are handed to the device.
use Rattle.nvme_log.specs.Histories.{admin_entry}
use Rattle.std.proofs.Common.{◌⊎◌, true, ◌≡◌, Some}
use Rattle.nvme_entry.specs.declared.submission.Sqe.{Sqe}
use Rattle.nvme_arbiter.specs.declared.pick.Pick.{Pick}
use Rattle.nvme_log.specs.Rules.{Past}
use Rattle.nvme_ctrl_log.specs.Own.{may_be_own}

-- a pick of an I/O queue, or of an admin command that may be the device's: its commands are handed to the device
pub record IsPassing (past : Past) (pick : Pick) : Type 0 where
  pub of_admin : pick.qid ≡ 0
  pub entry : Sqe
  pub next : admin_entry past ≡ Some entry
  pub may_be : may_be_own past entry ≡ true

abbrev pub IsHanded : Past → Pick → Type 0
IsHanded past pick = (pick.qid ≡ 0 → ⊥) ⊎ IsPassing past pick
