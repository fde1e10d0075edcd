use Rattle.std.proofs.Common.{refl, ◌++◌}
use Rattle.nvme_trace.proofs.SurveyLemmas.{after_ok, counts_more, surveys_tell}
use Rattle.nvme_trace.proofs.survey.Surveyor.tell.Goals as goal

pub returns-clause-at : goal.returns-clause-at
returns-clause-at c = after_ok c.keep_first.result _ _ c.keep_first.ensures.first (λ first head prior past lines at o different.
    surveys_tell head prior past lines c.args.seen.now c.args.picked c.args.difference c.args.self.now _ at o different
    (c.follow-self.ensures.follows head.mechanism head.settings (past ++ prior) at.follows) first
    (counts_more c.args.self.now.survey.counts c.count.new.self c.args.difference c.kind_of-kind.result c.kind_of-kind.ensures
    c.count.ensures.nothing_ready c.count.ensures.queue c.count.ensures.number c.count.ensures.fresh) refl)
