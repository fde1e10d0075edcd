-- Worked loaded logs, for which the definition computes: windows that are smaller than their scripts, and scripts of which nothing is served (profile).
use Rattle.std.specs.Prelude.{ℕ, List, [], ◌∷◌}
use Rattle.nvme_entry.specs.declared.submission.Sqe.{Sqe}
use Rattle.nvme_arbiter.specs.Settings.{settings_of}
use Rattle.nvme_arbiter.specs.declared.settings.Class.TheVariants.{Urgent}
use Rattle.nvme_arbiter.specs.declared.settings.Mechanism.TheVariants.{RoundRobin}
use Rattle.nvme_admin.specs.History.{Submission, Completion, RegionAdded}
use Rattle.nvme_log.specs.declared.event.Event.TheVariants.{Fetch, OpenSq, OpenCq, Closing, Abort, ClosedSq}
use Rattle.nvme_log.specs.Rules.{Past, FrontRules}
use Rattle.nvme_log.specs.Examples.{command, create_cq, delete_sq, read, admin_seen, reads_seen, picked_of}

-- nothing is submitted
abbrev pub no_scripts : ℕ → List Sqe
no_scripts r = []

-- ---- the window of the admin queue holds one command and that of queue 1 two, and either has a script of three

-- round robin, burst 1, an admin submission ring of two slots and a second submission ring of three
abbrev pub small_windows : FrontRules
small_windows = record {
  mechanism = RoundRobin;
  start = record { nsq = 16; ncq = 16; settings = settings_of 0 };
  sizes = 1000 ∷ [];
  regions = RegionAdded Completion 0x9000 64 ∷ RegionAdded Completion 0x8000 16 ∷ RegionAdded Submission 0x2000 3 ∷ RegionAdded Submission 0x1000 2 ∷ [];
}

-- Create I/O Submission Queue 1 of three slots
abbrev pub create_small : Sqe
create_small = command 1 1 0 0x2000 0x00020001 0x00010001

abbrev pub small_script : List Sqe
small_script = create_cq ∷ create_small ∷ delete_sq ∷ []

-- the log up to the second pick, up to the opening of queue 1, up to the fetch of the Delete, up to the fetches from queue 1, up to its pick,
-- up to the fetch after it, up to the pick of the Delete, up to its aborts, and whole
abbrev pub create_picked : Past
create_picked = picked_of (admin_seen 1 ∷ []) 0 ∷ Fetch 0 1 create_small ∷ OpenCq 1 1 ∷ picked_of (admin_seen 1 ∷ []) 0 ∷ Fetch 0 0 create_cq ∷ []

abbrev pub small_opened : Past
small_opened = OpenSq 1 1 1 Urgent ∷ create_picked

abbrev pub small_delete_fetched : Past
small_delete_fetched = Fetch 0 2 delete_sq ∷ small_opened

abbrev pub small_fetched : Past
small_fetched = Fetch 1 1 (read 1) ∷ Fetch 1 0 (read 0) ∷ small_delete_fetched

abbrev pub small_picked : Past
small_picked = picked_of (admin_seen 1 ∷ reads_seen 2 ∷ []) 1 ∷ small_fetched

abbrev pub small_refilled : Past
small_refilled = Fetch 1 2 (read 2) ∷ small_picked

abbrev pub small_delete_picked : Past
small_delete_picked = picked_of (admin_seen 1 ∷ reads_seen 2 ∷ []) 0 ∷ small_refilled

abbrev pub small_aborted : Past
small_aborted = Abort 1 2 ∷ Abort 1 1 ∷ Closing 1 1 ∷ small_delete_picked

abbrev pub small_closed : Past
small_closed = ClosedSq 1 1 ∷ small_aborted

-- ---- two queues are opened: queue 1 on region 2, and queue 2 on region 1
abbrev pub crosswise : Past
crosswise = OpenSq 2 1 1 Urgent ∷ OpenSq 1 2 1 Urgent ∷ []
