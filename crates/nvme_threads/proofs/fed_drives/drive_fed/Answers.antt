use Rattle.std.proofs.Common.{◌≡◌}
use Rattle.nvme_pool.specs.Worker.{WorkerView}
use Rattle.nvme_threads.specs.declared.crew.Crewman.{Crewman}
use Rattle.nvme_threads.proofs.FedTurns.{still_fed, fed_fault}
use Rattle.nvme_threads.proofs.Joins.{all-unmapped, ok-holds, err-holds}
use Rattle.nvme_threads.proofs.Running.{all_ran}
use Rattle.nvme_threads.proofs.fed_drives.drive_fed.Goals as goal

pub in_threads-driven-requires-after_bounds : goal.in_threads-driven-requires-after_bounds
in_threads-driven-requires-after_bounds g c κs within =
    let put = c.in_ok-shared.ensures in
    let pool = c.requires.pool in
    let shared = c.in_ok-shared.shared in
    record {
      admin_sq = rw (← put.front) c.requires.admin_sq;
      admin_cq = rw (← put.front) c.requires.admin_cq;
      seat = rw (← put.front, ← put.lanes) pool.seat_of;
      workers = all-unmapped (λ (w : WorkerView). w.lane ≡ shared.lanes) (λ (k : Crewman _). k.worker) _ (rw (← put.workers, ← put.lanes) pool.workers_of);
    }

pub given_up-requires : goal.given_up-requires
given_up-requires g c = λ other.
    let put = c.in_ok-shared.ensures in
    let ran = c.in_threads-driven.ensures in
    let back = c.in_threads-driven.result.0 in
    let hosts = err-holds c.in_threads-driven.result.1 _ c.in-Err.error c.in-Err.is ran.hosts_too other in
    still_fed c.args.parts.front back.front c.args.parts.feeders.items back.hosts.feeders.items c.requires.fed (rw put.feeders hosts.feeders) (rw put.front ran.front)

pub returns-in-Err : goal.returns-in-Err
returns-in-Err g c =
    let put = c.in_ok-shared.ensures in
    let ran = c.in_threads-driven.ensures in
    let back = c.in_threads-driven.result.0 in
    record {
      lanes = tt;
      front = tt;
      loaded = tt;
      feeders = tt;
      drainers = tt;
      workers = tt;
      fault = fed_fault c.args.parts.front back.front c.args.parts.feeders.items back.hosts.feeders.items c.in-Err.error
          (λ other. rw put.feeders (err-holds c.in_threads-driven.result.1 _ c.in-Err.error c.in-Err.is ran.hosts_too other).feeders)
          (rw put.front (err-holds c.in_threads-driven.result.1 _ c.in-Err.error c.in-Err.is ran.fault_at)) c.given_up.ensures;
    }

pub returns-in_ok-back-in-Ok-clause-loaded : goal.returns-in_ok-back-in-Ok-clause-loaded
returns-in_ok-back-in-Ok-clause-loaded g c =
    let put = c.in_ok-shared.ensures in
    rw (c.in_ok-back-in-Ok.ensures.front, put.front) c.in_threads-driven.ensures.loaded

pub returns-in_ok-back-in-Ok-clause-workers : goal.returns-in_ok-back-in-Ok-clause-workers
returns-in_ok-back-in-Ok-clause-workers g c =
    let put = c.in_ok-shared.ensures in
    let is = c.in_ok-back-in-Ok.ensures in
    let hosts = ok-holds c.in_threads-driven.result.1 _ _ c.in-Ok.is c.in_threads-driven.ensures.hosts in
    rw (put.workers, put.gates_of, is.workers, is.gates_of) (all_ran _ _ _ hosts.crew)
