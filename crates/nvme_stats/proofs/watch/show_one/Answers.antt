use Rattle.nvme_trace.specs.Format.{event_view}
use Rattle.nvme_stats.proofs.ShowLemmas.{after_ok, more_chosen, none_chosen}
use Rattle.nvme_stats.proofs.watch.show_one.Goals as goal

pub returns-then-chooses-clause-stands : goal.returns-then-chooses-clause-stands
returns-then-chooses-clause-stands g c =
    let event = event_view c.args.event.now in
    after_ok c.watch.result _ _ c.watch.ensures.stands (λ stands head past is before.
    more_chosen c.args.chooser.now.mechanism c.args.chooser.now.selection past event c.chooses.result (λ them. g.W.Watch.stands head them c.watch.new.self)
    (c.chooses.ensures.chosen past is) c.if-chooses.true (stands head _ before))

pub returns-else-chooses-clause-stands : goal.returns-else-chooses-clause-stands
returns-else-chooses-clause-stands g c =
    let event = event_view c.args.event.now in
    λ head past is before. none_chosen c.args.chooser.now.mechanism c.args.chooser.now.selection past event c.chooses.result (λ them. g.W.Watch.stands head them c.pass.new.self)
    (c.chooses.ensures.chosen past is) c.if-chooses.false (c.pass.ensures head _ before)
