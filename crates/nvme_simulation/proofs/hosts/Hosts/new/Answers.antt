use Rattle.std.proofs.Common.{◌≡◌, ℕ, length, ap, subst, rules, arith}
use Rattle.nvme_simulation.proofs.Beginnings.{none_left, none_more, one_more, streams_more, streams_none}
use Rattle.nvme_simulation.specs.Beginnings.{HasStreams, qid_at}
use Rattle.nvme_simulation.specs.Loads.{Load}
use Rattle.nvme_simulation.proofs.Creating.{created_more, created_none}
use Rattle.nvme_simulation.proofs.Machines.{front_stays, front_then}
use Rattle.nvme_simulation.proofs.hosts.Hosts.new.Goals as goal

pub loop-queue-init : goal.loop-queue-init
loop-queue-init c = record { front = front_stays _ c.requires.front; loads = search rules; none = search rules; streams = streams_none _ _ (search rules); creates = λ few. created_none _ c.args.front.now (search rules) }

pub create-requires : goal.create-requires
create-requires c = record { front = c.loop-queue.invariant.front.is }

pub returns-in_err-create-clause-front : goal.returns-in_err-create-clause-front
returns-in_err-create-clause-front c = front_then _ _ _ c.loop-queue.invariant.front c.create.ensures.front

pub returns-in_err-host-clause-front : goal.returns-in_err-host-clause-front
returns-in_err-host-clause-front c = front_then _ _ _ c.loop-queue.invariant.front c.create.ensures.front

pub returns-in_default-clause-front : goal.returns-in_default-clause-front
returns-in_default-clause-front c = front_then _ _ _ c.loop-queue.invariant.front c.create.ensures.front

pub loop-queue-preserved : goal.loop-queue-preserved
loop-queue-preserved c = record {
  front = front_then _ _ _ c.loop-queue.invariant.front c.create.ensures.front;
  loads = one_more _ _ c.in_ok-host.host _ _ c.in-Some.queue _ c.in-Ok.ensures.items c.in-Some.ensures.steps.0 c.in_ok-host.ensures.load c.loop-queue.invariant.loads;
  none = none_more _ _ c.in_ok-host.host c.in-Ok.ensures.items c.loop-queue.invariant.none c.in_ok-host.ensures.none;
  streams =
      let long : c.len.result ≡ length c.loop-queue.all.items = omega (arith, c.len.ensures, c.loop-queue.all.ok.0) in
      streams_more c.args.seed _ _ c.in_ok-host.host c.in-Ok.ensures.items c.loop-queue.invariant.streams
      (subst (λ (n : ℕ). HasStreams c.args.seed (qid_at n) c.in_ok-host.host) long c.in_ok-host.ensures.streams);
  creates =
      let long : c.len.result ≡ length c.loop-queue.all.items = omega (arith, c.len.ensures, c.loop-queue.all.ok.0) in
      created_more c.args.front.now c.loop-queue.front c.create.new.front c.loop-queue.all.items _ c.in_ok-host.host _ _ _ c.in-Ok.ensures.items (ap qid_at long) (ap (λ (l : Load). l.slots) c.in_ok-host.ensures.load)
      (ap (λ (l : Load). l.class) c.in_ok-host.ensures.load) c.loop-queue.invariant.creates c.in_ok-create.ensures.done;
}

pub returns-then-not-are_shown-clause-front : goal.returns-then-not-are_shown-clause-front
returns-then-not-are_shown-clause-front c = c.loop-queue.invariant.front

pub returns-then-not-are_alone-clause-front : goal.returns-then-not-are_alone-clause-front
returns-then-not-are_alone-clause-front c = c.loop-queue.invariant.front

pub returns-clause-streams : goal.returns-clause-streams
returns-clause-streams c = c.loop-queue.invariant.streams

pub returns-clause-creates : goal.returns-clause-creates
returns-clause-creates c = c.loop-queue.invariant.creates

pub returns-clause-front : goal.returns-clause-front
returns-clause-front c = c.loop-queue.invariant.front

pub returns-clause-hosts : goal.returns-clause-hosts
returns-clause-hosts c = record { loads = none_left _ _ _ (omega (arith, c.in-None.ensures.steps.0, c.loop-queue.queue-iterator.rest.ok.0)) c.loop-queue.invariant.loads; none = c.loop-queue.invariant.none }
