use Rattle.std.proofs.Common.{◌∙◌, sym, ap, find}
use Rattle.std.specs.Option.{option_or}
use Rattle.nvme_arbiter.specs.Observation.{is_wanted}
use Rattle.nvme_arbiter.proofs.NextLemmas.{least-filter, next-filter}
use Rattle.nvme_arbiter.proofs.ready.search.Goals as goal

pub returns-in-Some-first_above : goal.returns-in-Some-first_above
returns-in-Some-first_above g c =
    let seen = g.Q.ReadyQueues.seen c.args.queues.now in
    rw c.in-Some.is (rw (next-filter (is_wanted c.args.class) c.in-Some.last seen c.requires.ascending)
    (ap (λ o. option_or o (find (is_wanted c.args.class) seen)) c.in-Some-first_above.ensures))

pub returns-in-None-first_above : goal.returns-in-None-first_above
returns-in-None-first_above g c =
    let seen = g.Q.ReadyQueues.seen c.args.queues.now in
    rw c.in-Some.is (rw (next-filter (is_wanted c.args.class) c.in-Some.last seen c.requires.ascending)
    (c.first.ensures ∙ ap (λ o. option_or o (find (is_wanted c.args.class) seen)) c.in-None-first_above.ensures))

pub returns-in-None : goal.returns-in-None
returns-in-None g c =
    rw c.in-None.is (c.first-in-None.ensures ∙ sym (least-filter (is_wanted c.args.class) (g.Q.ReadyQueues.seen c.args.queues.now) c.requires.ascending))
