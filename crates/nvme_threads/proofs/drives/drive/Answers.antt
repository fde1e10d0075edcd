use Rattle.std.proofs.Common.{◌≡◌, refl}
use Rattle.nvme_pool.specs.Worker.{WorkerView}
use Rattle.std.specs.Prelude.{Vec}
use Rattle.nvme_front.specs.declared.settlement.Parts.{Parts}
use Rattle.nvme_threads.specs.declared.crew.Crewman.{Crewman}
use Rattle.nvme_threads.specs.inside.Drives.{ArePartsOf, HaveRun}
use Rattle.nvme_threads.proofs.Joins.{all-unmapped, ok-so, both-ok}
use Rattle.nvme_threads.proofs.Running.{all_ran}
use Rattle.nvme_threads.proofs.Turned.{outcome-fault}
use Rattle.nvme_threads.proofs.drives.drive.Goals as goal

pub in_threads-driven-requires-after_bounds : goal.in_threads-driven-requires-after_bounds
in_threads-driven-requires-after_bounds g c κs within =
    let put = c.in_ok-shared.ensures in
    let pool = c.requires.pool in
    let shared = c.in_ok-shared.shared in
    record {
      admin_sq = rw (← put.front) c.requires.admin_sq;
      admin_cq = rw (← put.front) c.requires.admin_cq;
      seat = rw (← put.front, ← put.lanes) pool.seat_of;
      workers = all-unmapped (λ (w : WorkerView). w.lane ≡ shared.lanes) (λ (k : Crewman _). k.worker) _ (rw (← put.workers, ← put.lanes) pool.workers_of);
    }

pub returns : goal.returns
returns g c =
    let put = c.in_ok-shared.ensures in
    let ran = c.in_threads-driven.ensures in
    let back = c.given_back.ensures in
    let Are = λ (r : Parts × Vec _ _). ArePartsOf c.in_ok-shared.shared c.in_threads-driven.result.0 r.0 r.1.items in
    let Have = HaveRun (λ view ticket. g.G.Gate.left (g.G.Gate.entered view ticket) ticket) c.in_ok-shared.driven.hosts c.in_threads-driven.result.0.hosts in
    record {
      lanes = ok-so _ Are _ back.parts (λ r is. rw (is.lanes, put.lanes) refl);
      front = ok-so _ Are _ back.parts (λ r is. rw (is.front, put.front) ran.front);
      loaded = ok-so _ Are _ back.parts (λ r is. rw (is.front, put.front) ran.loaded);
      feeders = both-ok _ _ Are _ Have back.ended ran.hosts back.parts (λ r hosts is. rw (is.feeders, put.feeders) hosts.feeders);
      drainers = both-ok _ _ Are _ Have back.ended ran.hosts back.parts (λ r hosts is. rw (is.drainers, put.drainers) hosts.drainers);
      workers = both-ok _ _ Are _ Have back.ended ran.hosts back.parts (λ r hosts is. rw (put.workers, put.gates_of, is.workers, is.gates_of) (all_ran _ _ _ hosts.crew));
      fault = outcome-fault _ c.in_threads-driven.result.1 c.given_back.result (rw put.front ran.fault) back.fault;
    }
