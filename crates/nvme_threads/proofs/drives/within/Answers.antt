use Rattle.std.specs.Prelude.{◌≢◌}
use Rattle.nvme_threads.specs.declared.drives.DriveError.{DriveError}
use Rattle.nvme_threads.specs.declared.drives.DriveError.TheVariants as drive
use Rattle.nvme_threads.proofs.Joins.{ok-so, err-if}
use Rattle.nvme_threads.proofs.Turned.{outcome-fault, outcome-fault_at}
use Rattle.nvme_threads.proofs.drives.within.Goals as goal

pub returns : goal.returns
returns g c =
    let ended = c.outcome.ensures in
    record {
      front = c.serve-served.ensures.goes_on;
      loaded = c.serve-served.ensures.loaded;
      hosts = ok-so _ _ _ ended.ok (λ _ whole. c.finish-hosts.ensures _ c.start-running.ensures whole);
      fault = outcome-fault _ _ _ c.serve-served.ensures.fault ended.fault;
      fault_at = outcome-fault_at _ _ _ _ c.serve-served.ensures.fault_at ended.fault;
      hosts_too = err-if _ (λ (e : DriveError). e ≢ drive.NoMemory) _ _ ended.whole (λ whole. c.finish-hosts.ensures _ c.start-running.ensures whole);
    }
