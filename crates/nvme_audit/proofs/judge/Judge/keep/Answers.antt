use Rattle.std.proofs.Common.{◌∷◌, OnOk, Option, subst, sym, ap, ◌∙◌}
use Rattle.nvme_entry.specs.declared.admin.AdminCommand.{AdminCommand}
use Rattle.nvme_audit.specs.declared.event.Event.{Event}
use Rattle.nvme_audit.specs.declared.facts.Command.{Command}
use Rattle.nvme_audit.specs.Answers.{answered_in}
use Rattle.nvme_audit.specs.Standing.{StandsAt}
use Rattle.nvme_audit.specs.inside.Steps.{Asks}
use Rattle.nvme_audit.proofs.StepLemmas.{fetch_stands, post_stands, on_ok}
use Rattle.nvme_audit.proofs.judge.Judge.keep.Goals as goal

pub returns-in_ok-keep_fetch-in-Fetch : goal.returns-in_ok-keep_fetch-in-Fetch
returns-in_ok-keep_fetch-in-Fetch c = λ start past stands verdict.
    subst (λ (e : Event). OnOk c.ask.result (StandsAt start (e ∷ past) c.ask.new.self)) (sym c.in-Fetch.is)
    (on_ok
    c.ask.result
    (λ asks. fetch_stands start past c.args.self.now c.keep_fetch.new.self c.ask.new.self c.in-Fetch.sq c.in-Fetch.cid c.in-Fetch.slot c.in-Fetch.command stands c.in_ok-keep_fetch-in-Fetch.ensures
    (subst (λ (a : AdminCommand). Asks c.keep_fetch.new.self c.ask.new.self a) c.asking.ensures asks))
    c.ask.ensures)

pub returns-in_ok-turn-in-Post : goal.returns-in_ok-turn-in-Post
returns-in_ok-turn-in-Post c = λ start past stands verdict.
    subst (λ (e : Event). StandsAt start (e ∷ past) c.note.new.self) (sym c.in-Post.is)
    (post_stands start past c.args.self.now c.keep_post.new.self c.owe.new.self c.answer.new.self c.turn.new.self c.note.new.self c.in-Post.cq c.in-Post.slot c.in-Post.completion c.answered-asked.result c.done-done.result c.told-told.result stands
    (c.answered-asked.ensures ∙ ap (λ (o : Option Command). answered_in o c.in-Post.completion) c.get.ensures)
    c.told-told.ensures
    c.done-done.ensures
    c.in_ok-keep_post-in-Post.ensures
    c.in_ok-owe-in-Post.ensures
    c.in_ok-answer-in-Post.ensures
    c.in_ok-turn-in-Post.ensures
    c.note.ensures)
