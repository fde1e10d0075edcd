use Rattle.std.proofs.Common.{◌≡◌, ◌∙◌, ◌≤◌, List, [], length, refl, ap, subst, arith}
use Rattle.nvme_simulation.specs.Beginnings.{ShowsNoOther}
use Rattle.nvme_simulation.proofs.Beginnings.{as_many, draw_asking, few_hosts, model_begins, model_streams, shows_queues}
use Rattle.nvme_simulation.specs.Creating.{HasDone, creates_from}
use Rattle.nvme_simulation.specs.Loads.{Load}
use Rattle.nvme_simulation.specs.Plans.{events_of}
use Rattle.nvme_simulation.proofs.Rooms.{new_is}
use Rattle.nvme_simulation.proofs.simulation.Simulation.new.Goals as goal

pub returns-clause-stands : goal.returns-clause-stands
returns-clause-stands c = record {
  front = c.new-3.ensures.front.is;
  device = new_is _ _ _ _ c.args.model.device.some c.in_ok-device.ensures.device;
}

pub returns-clause-begins : goal.returns-clause-begins
returns-clause-begins c =
    let hosts = c.in_ok-hosts.ensures.hosts in
    record {
      front = c.new-3.ensures.front.arbitrates _ _ c.in_ok-front.ensures.front;
      depths = c.new-3.ensures.front.depths ∙ c.in_ok-front.ensures.depths;
      device = c.in_ok-device.ensures.device;
      started = c.in_ok-device.ensures.started;
      queues = shows_queues c.new-3.new.front _ _ hosts.loads c.args.model.at_most c.in_ok-hosts.ensures.shows;
      alone =
          let same : length c.in_ok-hosts.hosts.all.items ≡ length c.args.model.queues.items = as_many _ _ hosts.loads in
          subst (ShowsNoOther c.new-3.new.front) same c.in_ok-hosts.ensures.alone;
      creates =
          let few : length c.in_ok-hosts.hosts.all.items ≤ 65_535 = few_hosts _ _ _ hosts.loads (omega (arith, c.args.model.at_most)) in
          subst (λ (ls : List Load). HasDone c.args.model.mechanism c.args.model.settings (creates_from 1 ls) c.new-3.new.front) hosts.loads
          (c.in_ok-hosts.ensures.creates few c.args.model.mechanism c.args.model.settings [] c.in_ok-front.ensures.done);
      streams =
          let few : length c.begin_queues.new.hosts.all.items ≤ 64 = few_hosts _ _ _ (c.begin_queues.ensures.hosts.loads ∙ hosts.loads) c.args.model.at_most in
          draw_asking _ _ _ c.begin_queues.ensures.hosts.asking few c.in_ok-hosts.ensures.streams;
      begins = record {
        hosts = c.in_ok-hosts.hosts;
        are = hosts;
        streams = model_streams _ _ (few_hosts _ _ _ hosts.loads c.args.model.at_most) c.in_ok-hosts.ensures.streams;
        events = events_of c.begin_queues.new.agenda;
        queues = model_begins _ _ _ _ _ _ hosts.loads c.args.model.at_most c.new-agenda.ensures c.in_ok-begin_queues.ensures.begins;
        pauses = c.in_ok-begin_pauses.ensures.begins;
      };
      hosts = record { loads = c.begin_queues.ensures.hosts.loads ∙ hosts.loads; none = c.begin_queues.ensures.hosts.none hosts.none };
      time = c.begin_pauses.ensures.time ∙ c.begin_queues.ensures.time ∙ ap (λ h. h.time) c.new-agenda.ensures;
      occupancy = c.new-4.ensures;
      end = refl;
      pauses = refl;
      warm_up = refl;
      picks = refl;
    }
