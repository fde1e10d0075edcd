use Rattle.std.proofs.Common.{◌<◌, length, refl, ap, arith}
use Rattle.nvme_simulation.specs.declared.host.Host.{Host}
use Rattle.nvme_simulation.proofs.Beginnings.{one_unused}
use Rattle.nvme_simulation.proofs.Hosted.{all_stay, held, on_some, one_draws, one_goes}
use Rattle.nvme_simulation.proofs.Progress.{host_same}
use Rattle.nvme_simulation.proofs.hosts.Hosts.next_after.Goals as goal

pub returns-in_err-place-clause-goes : goal.returns-in_err-place-clause-goes
returns-in_err-place-clause-goes c now = all_stay now _

pub returns-clause-goes : goal.returns-clause-goes
returns-clause-goes c now =
    let hosts = c.args.self.now.all in
    let within : c.in_ok-place.place < length hosts.items = omega (arith, c.in_ok-place.ensures.within, hosts.ok.0) in
    let at = held hosts.items c.in_ok-place.place c.index_mut.result.now within c.index_mut.ensures.value in
    one_goes now c.args.self.now _ c.in_ok-place.place c.index_mut.result.now c.next_after.new.self refl within at
    (host_same now _ _ c.next_after.ensures.flights c.next_after.ensures.asking)

pub returns-clause-unused : goal.returns-clause-unused
returns-clause-unused c =
    let hosts = c.args.self.now.all in
    let within : c.in_ok-place.place < length hosts.items = omega (arith, c.in_ok-place.ensures.within, hosts.ok.0) in
    let at = held hosts.items c.in_ok-place.place c.index_mut.result.now within c.index_mut.ensures.value in
    one_unused c.args.self.now _ c.in_ok-place.place c.index_mut.result.now c.next_after.new.self refl within at c.next_after.ensures.asking c.next_after.ensures.flights
    (ap (λ (h : Host). h.head) c.next_after.ensures.rest)

pub returns-clause-next : goal.returns-clause-next
returns-clause-next c =
    let hosts = c.args.self.now.all in
    let within : c.in_ok-place.place < length hosts.items = omega (arith, c.in_ok-place.ensures.within, hosts.ok.0) in
    let at = held hosts.items c.in_ok-place.place c.index_mut.result.now within c.index_mut.ensures.value in
    on_some c.next_after.result
    (one_draws _ _ _ c.args.self.now _ c.in_ok-place.place c.index_mut.result.now c.next_after.new.self c.in_ok-place.ensures.behind refl within at
    (record { value = c.next_after.ensures.value; rest = c.next_after.ensures.rest }))
