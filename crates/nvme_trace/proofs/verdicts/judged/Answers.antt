use Rattle.std.proofs.Common.{◌≡◌, ◌+◌, ◌++◌, ℕ, Option, None, Ok, subst, arith, rules}
use Rattle.std.proofs.lemmas.Result.{err_from_is_err_and}
use Rattle.nvme_arbiter.specs.History.{History}
use Rattle.nvme_lines.specs.Lines.{TakesTold, HasNoTold}
use Rattle.nvme_trace.specs.Format.{head_of_kept, event_by, event_view, room_view, room_of_line}
use Rattle.nvme_trace.specs.Judged.{IsObserved, picks_of}
use Rattle.nvme_trace.specs.Bases.{IsAllowedBy, IsReasonBy, StandsBy, picks_by}
use Rattle.nvme_trace.proofs.JudgeLemmas.{at_none, if_none, few_picks}
use Rattle.nvme_trace.proofs.CheckLemmas.{judged_head, judged_more, judged_all, judged_reason, judged_fault}
use Rattle.nvme_trace.proofs.verdicts.judged.Goals as goal

pub loop-init : goal.loop-init
loop-init g c =
    let new = c.args.trace.now.rest in
    record {
      judged = λ text t. judged_head c.args.basis text c.args.trace.now.number new c.args.start c.new-judge.result c.requires t c.new-judge.ensures.stands c.new-judge.ensures.picks;
      picks = omega (arith, c.new-judge.ensures.picks);
    }

pub returns-in_err-event-clause-fault : goal.returns-in_err-event-clause-fault
returns-in_err-event-clause-fault g c =
    let p = err_from_is_err_and c.from_residual.result c.from_residual.ensures.1 in
    rw (p.1, p.2) (λ text t. judged_fault c.args.basis text _ c.loop.trace.number (head_of_kept c.args.start) c.loop.judge _ (c.loop.invariant.judged text t) c.in_err-event.ensures.err)

pub returns-in_default-clause-answer : goal.returns-in_default-clause-answer
returns-in_default-clause-answer g c = λ text t.
    let old = c.loop.trace.rest in
    let none : HasNoTold c.loop.trace.number old = search rules in
    judged_all c.args.basis text old c.loop.trace.number (head_of_kept c.args.start) c.loop.judge c.picks.result (c.loop.invariant.judged text t) none c.picks.ensures

pub returns-in-Some-judge-clause-answer : goal.returns-in-Some-judge-clause-answer
returns-in-Some-judge-clause-answer g c = λ text t.
    let old = c.loop.trace.rest in
    let new = c.event_by.new.self.rest in
    let event = event_view c.in-Some.event in
    let m = c.loop.trace.number in
    let n = c.event_by.new.self.number in
    let took : TakesTold (λ line. event_by c.args.basis line ≡ Ok event) m old n new = search rules in
    let quoted : TakesTold (λ line. line ≡ c.take_line.result.items) m old n new = search rules in
    let room : room_view c.in-Some.event ≡ room_of_line c.take_line.result.items = search rules in
    judged_reason c.args.basis text m old n new c.number.result c.take_line.result.items (head_of_kept c.args.start) c.loop.judge event c.in-Some-judge.reason (c.loop.invariant.judged text t) took quoted
    (λ prior past s. subst (λ (r : Option ℕ). IsReasonBy c.args.basis (head_of_kept c.args.start) (past ++ prior) r event c.in-Some-judge.reason) room (c.in-Some-judge.ensures.allowed c.args.basis (head_of_kept c.args.start) prior past s)) c.number.ensures

pub loop-preserved : goal.loop-preserved
loop-preserved g c =
    let old = c.loop.trace.rest in
    let new = c.event_by.new.self.rest in
    let event = event_view c.in-Some.event in
    let m = c.loop.trace.number in
    let n = c.event_by.new.self.number in
    let head = head_of_kept c.args.start in
    let took : TakesTold (λ line. event_by c.args.basis line ≡ Ok event) m old n new = search rules in
    let latest = c.event_by.new.self.latest in
    let quoted : TakesTold (λ line. line ≡ latest) m old n new = search rules in
    let room : room_view c.in-Some.event ≡ room_of_line latest = search rules in
    let seen : IsObserved event = search rules in
    let none : c.judge.result ≡ None = search rules in
    let allowed : (prior past : History) → StandsBy c.args.basis head prior past c.loop.judge → IsAllowedBy c.args.basis head (past ++ prior) (room_of_line latest) event =
    λ prior past s. subst (λ (r : Option ℕ). IsAllowedBy c.args.basis head (past ++ prior) r event) room (at_none _ _ c.judge.result (c.judge.ensures.allowed c.args.basis head prior past s) none) in
    let stands = λ (prior past : History) (s : StandsBy c.args.basis head prior past c.loop.judge). if_none _ c.judge.result (c.judge.ensures.stands c.args.basis head prior past s) none in
    let picks : picks_by c.judge.new.self ≡ picks_by c.loop.judge + picks_of event = if_none _ c.judge.result c.judge.ensures.picks none in
    let few = few_picks event in
    record {
      judged = λ text t. judged_more c.args.basis text m old n new latest head c.loop.judge c.judge.new.self event (c.loop.invariant.judged text t) took quoted seen allowed stands picks;
      picks = omega (arith, picks, few, c.loop.invariant.picks);
    }
