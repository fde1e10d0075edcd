use Rattle.std.proofs.Common.{[], refl}
use Rattle.nvme_judge.specs.Standing.{JudgeStandsAt}
use Rattle.nvme_audit_text.specs.Picks.{Span}
use Rattle.nvme_audit_text.proofs.PickLemmas.{at_some, at_none, after_ok, picks_kept, picks_broken}
use Rattle.nvme_audit_text.proofs.picks.WholePicks.judge_pick.Goals as goal

pub returns-in-None-clause-taken : goal.returns-in-None-clause-taken
returns-in-None-clause-taken c = λ mechanism said at.
    picks_kept mechanism c.args.line _ said c.args.self.now _ c.requires.pick c.requires.judges at
    (λ (span : Span) (stands : JudgeStandsAt mechanism span.settings [] span.past c.args.self.now.judge). at_none _ _ c.in_ok-judged.field-0 (c.in_ok-judged.ensures.kept (record { mechanism = mechanism; settings = span.settings }) span.past stands) c.in-None.is)
    refl c.requires.judges refl c.in_ok-self.ensures.more

pub returns-in-Some-clause-taken : goal.returns-in-Some-clause-taken
returns-in-Some-clause-taken c = after_ok c.add.result _ _ c.add.ensures.more (λ tells mechanism said at.
    picks_broken mechanism c.args.line _ c.in-Some.breach said c.args.self.now _ c.requires.pick c.requires.judges at
    (λ (span : Span) (stands : JudgeStandsAt mechanism span.settings [] span.past c.args.self.now.judge). at_some _ _ c.in_ok-judged.field-0 c.in-Some.breach (c.in_ok-judged.ensures.kept (record { mechanism = mechanism; settings = span.settings }) span.past stands) c.in-Some.is)
    tells refl refl c.in_ok-self.ensures.more)
