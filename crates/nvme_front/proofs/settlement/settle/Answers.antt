use Rattle.std.proofs.Common.{true, map, refl, sym, ap, subst, ◌∙◌, arith}
use Rattle.std.specs.Prelude.{reverse}
use Rattle.nvme_front.specs.Ends.{put_place}
use Rattle.nvme_front.specs.Hosts.{AreHosts, drainer_place}
use Rattle.nvme_log.specs.Account.{IsClear}
use Rattle.nvme_front.proofs.Hosted.{fed_from_pairs, drained_from_pairs, seen_length, IsSameFront-trans}
use Rattle.nvme_front.proofs.Rested.{at_rest, not_at_rest, not_clear, feeders_number, takes_from, collects_more, is_settled, is_account, executes, answers_executed}
use Rattle.nvme_front.proofs.settlement.settle.Goals as goal
use Rattle.nvme_front.proofs.settlement.settle.Goals.{then-not-quiet-via-then-not-quiet, then-not-quiet-via-else-not-quiet+then-not-is_clear, then-not-quiet-via-else-not-quiet+else-not-is_clear+then-not-none_kept}

pub look-quiet-requires : goal.look-quiet-requires
look-quiet-requires g c =
    let v = c.args.parts.front in
    let f = c.args.parts.feeders.items in
    let d = c.args.parts.drainers.items in
    let hosts : AreHosts v f d = rw (c.as_slice.ensures.value, c.as_slice-2.ensures.value) at (c.are_hosts.ensures.0 c.if-not-are_hosts.false) in
    fed_from_pairs v f d c.requires.hosts hosts

pub returns-then-not-quiet-clause-outstanding : goal.returns-then-not-quiet-clause-outstanding
returns-then-not-quiet-clause-outstanding g c =
    let v = c.args.parts.front in
    let f = c.args.parts.feeders.items in
    let d = c.args.parts.drainers.items in
    let hosts : AreHosts v f d = rw (c.as_slice.ensures.value, c.as_slice-2.ensures.value) at (c.are_hosts.ensures.0 c.if-not-are_hosts.false) in
    let same = feeders_number v f d hosts in
    λ e rest. elim c.then-not-quiet.branch [
      | then-not-quiet-via-then-not-quiet w ↦ not_at_rest v _ f _ _ c.look-quiet.ensures same w.if-not-quiet.true rest.front
      | then-not-quiet-via-else-not-quiet+then-not-is_clear w ↦ not_clear v _ f _ _ c.look-quiet.ensures same (λ h. let t = w.is_clear.ensures.1 h in cc (t, w.if-not-is_clear.true)) rest.front
      | then-not-quiet-via-else-not-quiet+else-not-is_clear+then-not-none_kept w ↦
          let t = w.none_kept.ensures.1 (rw w.as_slice-else-not-is_clear.ensures.value rest.none_kept) in cc (t, w.if-not-none_kept.true)
    ]

pub returns-in_default-clause-no_memory : goal.returns-in_default-clause-no_memory
returns-in_default-clause-no_memory g c =
    let v = c.args.parts.front in
    let f = c.args.parts.feeders.items in
    let d = c.args.parts.drainers.items in
    let hosts : AreHosts v f d = rw (c.as_slice.ensures.value, c.as_slice-2.ensures.value) at (c.are_hosts.ensures.0 c.if-not-are_hosts.false) in
    let rests = rw c.if-not-quiet.false at c.look-quiet.ensures in
    let clear = c.is_clear.ensures.0 c.if-not-is_clear.false in
    let kept = rw c.as_slice-else-not-is_clear.ensures.value at (c.none_kept.ensures.0 c.if-not-none_kept.false) in
    λ e. record { front = at_rest v _ f _ true rests (feeders_number v f d hosts) refl clear; none_kept = kept }

pub collect-requires : goal.collect-requires
collect-requires g c =
    let v = c.args.parts.front in
    let f = c.args.parts.feeders.items in
    let d = c.args.parts.drainers.items in
    let hosts : AreHosts v f d = rw (c.as_slice.ensures.value, c.as_slice-2.ensures.value) at (c.are_hosts.ensures.0 c.if-not-are_hosts.false) in
    drained_from_pairs v f d c.requires.hosts hosts ∙ ap (map put_place) (sym c.look-quiet.ensures.puts)

pub returns-then-not-collect-clause-back : goal.returns-then-not-collect-clause-back
returns-then-not-collect-clause-back g c =
    let rests = c.look-quiet.ensures in
    let taken = c.collect.ensures.kept in
    record {
      lanes = refl;
      workers = cc;
      front = IsSameFront-trans _ _ _ rests.front taken.front;
      feeders = rests.feeders;
      drainers = takes_from _ _ _ _ rests.puts taken.takes;
    }

pub returns-then-not-collect-clause-no_memory : goal.returns-then-not-collect-clause-no_memory
returns-then-not-collect-clause-no_memory g c =
    let v = c.args.parts.front in
    let f = c.args.parts.feeders.items in
    let d = c.args.parts.drainers.items in
    let hosts : AreHosts v f d = rw (c.as_slice.ensures.value, c.as_slice-2.ensures.value) at (c.are_hosts.ensures.0 c.if-not-are_hosts.false) in
    let rests = rw c.if-not-quiet.false at c.look-quiet.ensures in
    let clear = c.is_clear.ensures.0 c.if-not-is_clear.false in
    let kept = rw c.as_slice-else-not-is_clear.ensures.value at (c.none_kept.ensures.0 c.if-not-none_kept.false) in
    λ e. record { front = at_rest v _ f _ true rests (feeders_number v f d hosts) refl clear; none_kept = kept }

pub settled_of-requires-clause-collected : goal.settled_of-requires-clause-collected
settled_of-requires-clause-collected g c =
    let same = seen_length drainer_place drainer_place _ _ c.collect.ensures.kept.takes.places in
    let room = c.in-Ok-Ok.ensures'.capacity in
    (c.in-Ok-Ok.ensures'.items, omega arith)

pub returns-in-Ok-clause-collected : goal.returns-in-Ok-clause-collected
returns-in-Ok-clause-collected g c =
    let v = c.args.parts.front in
    let f = c.args.parts.feeders.items in
    let d = c.args.parts.drainers.items in
    let hosts : AreHosts v f d = rw (c.as_slice.ensures.value, c.as_slice-2.ensures.value) at (c.are_hosts.ensures.0 c.if-not-are_hosts.false) in
    let rests = rw c.if-not-quiet.false at c.look-quiet.ensures in
    let clear = c.is_clear.ensures.0 c.if-not-is_clear.false in
    let collects = c.collect.ensures.all c.if-not-collect.false in
    collects_more v _ _ f _ d _ _ hosts rests clear collects (c.settled_of.ensures.log ∙ c.in-Ok.ensures.log) c.settled_of.ensures.sent c.settled_of.ensures.collected

pub returns-in-Ok-clause-account : goal.returns-in-Ok-clause-account
returns-in-Ok-clause-account g c =
    let v = c.args.parts.front in
    let f = c.args.parts.feeders.items in
    let d = c.args.parts.drainers.items in
    let hosts : AreHosts v f d = rw (c.as_slice.ensures.value, c.as_slice-2.ensures.value) at (c.are_hosts.ensures.0 c.if-not-are_hosts.false) in
    let rests = rw c.if-not-quiet.false at c.look-quiet.ensures in
    let clear = c.is_clear.ensures.0 c.if-not-is_clear.false in
    let collects = c.collect.ensures.all c.if-not-collect.false in
    is_account v _ _ f _ d _ c.settled_of.result hosts rests clear collects (c.settled_of.ensures.log ∙ c.in-Ok.ensures.log) c.settled_of.ensures.sent c.settled_of.ensures.collected c.in-Ok.ensures.fetched c.in-Ok.ensures.posted c.in-Ok.ensures.account

pub returns-in-Ok-clause-settled : goal.returns-in-Ok-clause-settled
returns-in-Ok-clause-settled g c =
    let v = c.args.parts.front in
    let f = c.args.parts.feeders.items in
    let d = c.args.parts.drainers.items in
    let hosts : AreHosts v f d = rw (c.as_slice.ensures.value, c.as_slice-2.ensures.value) at (c.are_hosts.ensures.0 c.if-not-are_hosts.false) in
    let rests = rw c.if-not-quiet.false at c.look-quiet.ensures in
    let clear = c.is_clear.ensures.0 c.if-not-is_clear.false in
    let collects = c.collect.ensures.all c.if-not-collect.false in
    is_settled v _ _ f _ d _ _ hosts rests clear collects (c.settled_of.ensures.log ∙ c.in-Ok.ensures.log) c.settled_of.ensures.sent c.settled_of.ensures.collected c.in-Ok.ensures.fetched c.in-Ok.ensures.posted

pub returns-in-Ok-clause-at_rest : goal.returns-in-Ok-clause-at_rest
returns-in-Ok-clause-at_rest g c =
    let v = c.args.parts.front in
    let f = c.args.parts.feeders.items in
    let d = c.args.parts.drainers.items in
    let hosts : AreHosts v f d = rw (c.as_slice.ensures.value, c.as_slice-2.ensures.value) at (c.are_hosts.ensures.0 c.if-not-are_hosts.false) in
    let rests = rw c.if-not-quiet.false at c.look-quiet.ensures in
    let clear = c.is_clear.ensures.0 c.if-not-is_clear.false in
    let kept = rw c.as_slice-else-not-is_clear.ensures.value at (c.none_kept.ensures.0 c.if-not-none_kept.false) in
    record { front = at_rest v _ f _ true rests (feeders_number v f d hosts) refl clear; none_kept = kept }

pub returns-in-Err-clause-back : goal.returns-in-Err-clause-back
returns-in-Err-clause-back g c =
    let rests = c.look-quiet.ensures in
    let taken = c.collect.ensures.kept in
    let back = c.in-Err.ensures.back in
    record {
      lanes = back.1;
      workers = back.2;
      front = rw back.0 (IsSameFront-trans _ _ _ rests.front taken.front);
      feeders = rests.feeders;
      drainers = takes_from _ _ _ _ rests.puts taken.takes;
    }

pub returns-in-Err-clause-no_memory : goal.returns-in-Err-clause-no_memory
returns-in-Err-clause-no_memory g c =
    let v = c.args.parts.front in
    let f = c.args.parts.feeders.items in
    let d = c.args.parts.drainers.items in
    let hosts : AreHosts v f d = rw (c.as_slice.ensures.value, c.as_slice-2.ensures.value) at (c.are_hosts.ensures.0 c.if-not-are_hosts.false) in
    let rests = rw c.if-not-quiet.false at c.look-quiet.ensures in
    let clear = c.is_clear.ensures.0 c.if-not-is_clear.false in
    let kept = rw c.as_slice-else-not-is_clear.ensures.value at (c.none_kept.ensures.0 c.if-not-none_kept.false) in
    λ e. record { front = at_rest v _ f _ true rests (feeders_number v f d hosts) refl clear; none_kept = kept }

pub returns-in-Ok-clause-executed : goal.returns-in-Ok-clause-executed
returns-in-Ok-clause-executed g c =
    let collects = c.collect.ensures.kept in
    let clear = c.is_clear.ensures.0 c.if-not-is_clear.false in
    let kept = rw c.as_slice-else-not-is_clear.ensures.value at (c.none_kept.ensures.0 c.if-not-none_kept.false) in
    let done = c.in-Ok.ensures in
    executes c.args.parts.front c.collect.new.front _ c.args.parts.workers.items (IsSameFront-trans _ _ _ c.look-quiet.ensures.front collects.front) (ap reverse (c.settled_of.ensures.log ∙ done.log)) done.jobs
    (done.none_in_hand (subst IsClear (sym (ap reverse collects.front.log)) clear)) c.requires.pool.none_before done.closed kept

pub returns-in-Ok-clause-answered : goal.returns-in-Ok-clause-answered
returns-in-Ok-clause-answered g c =
    let done = c.in-Ok.ensures in
    answers_executed c.args.parts.front.rules.sizes _ _ c.args.parts.front.hands.seat c.args.parts.workers.items (ap reverse (c.settled_of.ensures.log ∙ done.log)) done.tickets
    (returns-in-Ok-clause-executed g c)
