-- What a drive answers where it fails (profile).
use Rattle.std.specs.Prelude.{◌≡◌, ◌⊎◌, false}
use Rattle.nvme_jobs.specs.Answers.{AnswersHaveResults}
use Rattle.nvme_jobs.specs.JobAccount.{AccountsForJobs}
use Rattle.nvme_front.specs.View.{FrontView, GoesOn, AccountsForEnds, NoneInHandPosted, ErrorMeans, past_in}
use Rattle.nvme_front.specs.declared.front.FrontError.{FrontError}
use Rattle.nvme_front.specs.declared.front.FrontError.TheVariants as front
use Rattle.nvme_threads.specs.declared.drives.DriveError.{DriveError}
use Rattle.nvme_threads.specs.declared.drives.DriveError.TheVariants as drive

-- how a turn that failed is told
abbrev pub fault_of : FrontError → DriveError
fault_of front.NoMemory = drive.NoMemory
fault_of e = drive.Front e

-- the log of a front accounts for its ends and for its jobs, and each answered I/O command has its result
pub record Accounts (v : FrontView) : Type 0 where
  pub ends : v.late ≡ false → AccountsForEnds v
  pub jobs : AccountsForJobs v.rules.sizes (past_in v) v.hands
  pub executed : NoneInHandPosted v
  pub results : AnswersHaveResults v.rules.sizes (past_in v) v.hands

-- a front made no turn yet, or its log accounts for it
abbrev pub HasTurned : FrontView → FrontView → Type 0
HasTurned given v = (v ≡ given) ⊎ Accounts v

-- a turn failed so: the front had gone on from this one until then
pub record TurnFails (given : FrontView) (e : FrontError) : Type 0 where
  pub before : FrontView
  pub after : FrontView
  pub goes_on : GoesOn given before
  pub stood : HasTurned given before
  pub turned : GoesOn before after
  pub accounts : Accounts after
  pub means : ErrorMeans e before after

-- a fault of the front is that of a turn. Refused memory is told as such, and never as a fault of the front
abbrev pub IsDriveFault : FrontView → DriveError → Type 0
IsDriveFault given drive.NoMemory = Unit {0}
IsDriveFault given (drive.Front front.NoMemory) = ⊥
IsDriveFault given (drive.Front e) = TurnFails given e
