-- What is driven, and what comes back (profile).
use Rattle.std.specs.Prelude.{◌≡◌, ◌≢◌, ◌<◌, ℕ, List, map, length, true, Result, IfOk, IfErr}
use Rattle.std.specs.List.{All, AllZip}
use Rattle.nvme_front.specs.View.{FrontView, GoesOn}
use Rattle.nvme_front.specs.declared.front.FrontError.{FrontError}
use Rattle.nvme_front.specs.declared.front.FrontError.TheVariants as front
use Rattle.nvme_front.specs.declared.settlement.Parts.{Parts}
use Rattle.nvme_threads.specs.declared.drives.Driven.{Driven}
use Rattle.nvme_entry.specs.declared.submission.Sqe.{Sqe}
use Rattle.nvme_lane.specs.declared.feeder.Feeder.{Feeder}
use Rattle.nvme_threads.specs.declared.drives.DriveError.{DriveError}
use Rattle.nvme_threads.specs.declared.drives.DriveError.TheVariants as drive
use Rattle.nvme_threads.specs.declared.hosts.Feeders.{Feeders}
use Rattle.nvme_threads.specs.declared.hosts.Feeders.TheVariants.{AtWork, Ended}
use Rattle.nvme_threads.specs.declared.hosts.Hosts.{Hosts}
use Rattle.nvme_threads.specs.declared.hosts.Running.{Running}
use Rattle.nvme_threads.specs.declared.join.Joined.{Joined}
use Rattle.nvme_threads.specs.declared.loaded_rings.SqEnds.{SqEnds}
use Rattle.nvme_threads.specs.declared.start.Started.{Started}
use Rattle.nvme_threads.specs.declared.tasks.Shared.{Shared}
use Rattle.nvme_threads.specs.declared.crew.Crewman.{Crewman}
use Rattle.nvme_threads.specs.Faults.{TurnFails, IsDriveFault}
use Rattle.nvme_threads.specs.Hosts.{feeder_seen, drainer_seen, ends_seen}
use Rattle.nvme_threads.specs.Loaded.{StaysLoaded}
use Rattle.nvme_pool.specs.Runs.{Ran}

-- where all threads of these tasks were started, there is one for each, in order
abbrev pub AreThreads : {T : Type 0} → List T → Started T → Type 0
AreThreads tasks started = started.is_whole ≡ true → map (λ h. h.promise.0.value) started.handles.items ≡ tasks

-- where all of these feeders were started, each came back with its script as the same end
abbrev pub HaveFed : List (Feeder Sqe) → Joined (Feeder Sqe) → Type 0
HaveFed tasks joined = joined.is_whole ≡ true → map feeder_seen joined.tasks.items ≡ map feeder_seen tasks

-- these feeders have threads at work, or are those that had submitted before
abbrev pub AreFeeders : List (Feeder Sqe) → Feeders → Type 0
AreFeeders tasks (AtWork started) = AreThreads tasks started
AreFeeders tasks (Ended feeders) = feeders.items ≡ tasks

-- where all threads of these rings were started, the rings came back
abbrev pub CameBack : List SqEnds → Joined SqEnds → Type 0
CameBack rings joined = joined.is_whole ≡ true → map ends_seen joined.tasks.items ≡ map ends_seen rings

-- the threads of these hosts and workers
pub record AreThreadsOf {G : Type 0} (hosts : Hosts G) (running : Running G) : Type 0 where
  pub feeders : AreFeeders hosts.feeders.items running.feeders
  pub drainers : AreThreads hosts.drainers.items running.drainers
  pub crew : AreThreads hosts.crew.items running.crew

-- the front can take admin commands and answer them, and it and the workers are of the lanes
pub record CanDrive {G : Type 0} (shared : Shared) (driven : Driven G) : Type 0 where
  pub admin_sq : 0 < length driven.front.gets
  pub admin_cq : 0 < length driven.front.puts
  pub seat : driven.front.hands.seat.lane ≡ shared.lanes
  pub workers : All (λ (c : Crewman G). c.worker.lane ≡ shared.lanes) driven.hosts.crew.items

-- these are the parts and the gates of what was driven
pub record ArePartsOf {G : Type 0} (shared : Shared) (driven : Driven G) (parts : Parts) (gates : List G) : Type 0 where
  pub lanes : parts.lanes ≡ shared.lanes
  pub front : parts.front ≡ driven.front
  pub feeders : parts.feeders ≡ driven.hosts.feeders
  pub drainers : parts.drainers ≡ driven.hosts.drainers
  pub workers : parts.workers.items ≡ map (λ (c : Crewman G). c.worker) driven.hosts.crew.items
  pub gates_of : gates ≡ map (λ (c : Crewman G). c.gate) driven.hosts.crew.items

-- a turn failed so, and left the front as it is now
pub record FailsAt (given now : FrontView) (e : FrontError) : Type 0 where
  pub fails : TurnFails given e
  pub is_now : fails.after ≡ now

abbrev pub IsFaultAt : FrontView → FrontView → DriveError → Type 0
IsFaultAt given now drive.NoMemory = Unit {0}
IsFaultAt given now (drive.Front front.NoMemory) = ⊥
IsFaultAt given now (drive.Front e) = FailsAt given now e

-- `runs` is the view of a gate after one execution, by the view before it and the ticket
module _ {G : Type 0} (runs : G → ℕ → G) where
  -- each feeder came back with its script as the same end, each drainer as the same end, and each worker with its gate as they ran
  pub record HaveRun (hosts back : Hosts G) : Type 0 where
    pub feeders : map feeder_seen back.feeders.items ≡ map feeder_seen hosts.feeders.items
    pub drainers : map drainer_seen back.drainers.items ≡ map drainer_seen hosts.drainers.items
    pub crew : AllZip (λ (c d : Crewman G). Ran runs c.worker c.gate d.worker d.gate) hosts.crew.items back.crew.items

  -- the front went on, and all that ran beside it came back, unless the drive failed, which had its cause
  pub record Drove {U : Type 0} (driven back : Driven G) (ended : Result U DriveError) : Type 0 where
    pub front : GoesOn driven.front back.front
    pub loaded : StaysLoaded driven.front back.front
    pub hosts : IfOk ended (λ _. HaveRun driven.hosts back.hosts)
    pub fault : IfErr ended (IsDriveFault driven.front)
    -- where a turn failed all that ran beside the front came back too
    pub fault_at : IfErr ended (IsFaultAt driven.front back.front)
    pub hosts_too : IfErr ended (λ e. e ≢ drive.NoMemory → HaveRun driven.hosts back.hosts)
