use Rattle.std.proofs.Common.{◌≡◌, ◌∷◌, ℕ, List, Option, Ok, sym, subst, arith, rules}
use Rattle.std.proofs.lemmas.Result.{err_from_is_err_and}
use Rattle.nvme_arbiter.specs.History.{History}
use Rattle.nvme_lines.specs.Lines.{TakesTold, HasNoTold}
use Rattle.nvme_trace.specs.Format.{head_of_kept, event_by, event_view}
use Rattle.nvme_trace.specs.inside.Steps.{SurveysAt}
use Rattle.nvme_trace.specs.declared.basis.Basis.TheVariants.{Profile}
use Rattle.nvme_trace.proofs.JudgeLemmas.{few_picks}
use Rattle.nvme_trace.proofs.SurveyLemmas.{SurveyedUpTo, surveyed_head, surveyed_more, surveyed_all, surveyed_fault}
use Rattle.nvme_trace.proofs.survey.surveyed.Goals as goal

pub loop-init : goal.loop-init
loop-init g c = record {
  surveyed = λ text t. surveyed_head text c.args.trace.now.number c.args.trace.now.rest c.args.start c.new-surveyor.result c.requires t c.new-surveyor.ensures.at;
  few = c.new-surveyor.ensures.few;
  picks = omega (arith, c.new-surveyor.ensures.picks);
}

pub returns-in_err-event-clause-fault : goal.returns-in_err-event-clause-fault
returns-in_err-event-clause-fault g c =
    let p = err_from_is_err_and c.from_residual.result c.from_residual.ensures.1 in
    rw (p.1, p.2) (λ text t. surveyed_fault text _ c.loop.trace.number (head_of_kept c.args.start) c.loop.surveyor _ (c.loop.invariant.surveyed text t) c.in_err-event.ensures.err)

pub returns-in_default-clause-survey : goal.returns-in_default-clause-survey
returns-in_default-clause-survey g c = λ text t.
    let old = c.loop.trace.rest in
    let none : HasNoTold c.loop.trace.number old = search rules in
    surveyed_all text old c.loop.trace.number (head_of_kept c.args.start) c.loop.surveyor (c.loop.invariant.surveyed text t) none

pub loop-preserved : goal.loop-preserved
loop-preserved g c =
    let old = c.loop.trace.rest in
    let new = c.event_by.new.self.rest in
    let event = event_view c.in-Some.event in
    let m = c.loop.trace.number in
    let n = c.event_by.new.self.number in
    let quoted = c.event_by.new.self.latest in
    let head = head_of_kept c.args.start in
    let next = c.note.new.self in
    let took : TakesTold (λ line. event_by Profile line ≡ Ok event) m old n new = search rules in
    let same : TakesTold (λ line. line ≡ quoted) m old n new = search rules in
    let at : (prior past : History) (lines : List (ℕ × List ℕ)) → SurveysAt head prior past lines c.loop.surveyor → SurveysAt head prior (event ∷ past) ((n, quoted) ∷ lines) next =
    λ prior past lines s. c.in_ok-note.ensures.at head prior past lines s in
    let few = few_picks event in
    record {
      surveyed = λ text t.
          subst (λ (r : Option (List ℕ)). SurveyedUpTo text r c.note.new.trace.number head next) (sym c.note.ensures.rest)
          (subst (λ (k : ℕ). SurveyedUpTo text new k head next) (sym c.note.ensures.number)
          (surveyed_more text m old n new quoted head c.loop.surveyor next event (c.loop.invariant.surveyed text t) took same at));
      few = c.note.ensures.counts;
      picks = omega (arith, c.note.ensures.picks, few, c.loop.invariant.picks);
    }
