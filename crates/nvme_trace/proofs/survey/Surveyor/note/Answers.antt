use Rattle.std.proofs.Common.{◌≡◌, ◌∷◌, ◌++◌, ℕ, List, Option, sym, ap, subst, ◌∙◌}
use Rattle.nvme_arbiter.specs.Observation.{IsObservation}
use Rattle.nvme_arbiter.specs.History.{Picked}
use Rattle.nvme_trace.specs.Format.{room_of_line}
use Rattle.nvme_trace.specs.Taken.{IsTakenPick}
use Rattle.nvme_arbiter.specs.declared.pick.Seen.{Seen}
use Rattle.nvme_trace.specs.Surveys.{IsDifferent}
use Rattle.nvme_trace.specs.inside.Steps.{SurveysAt}
use Rattle.nvme_trace.proofs.SurveyLemmas.{after_ok}
use Rattle.nvme_trace.proofs.survey.Surveyor.note.Goals as goal

pub returns-in-Set-clause-at : goal.returns-in-Set-clause-at
returns-in-Set-clause-at g c = λ head prior past lines at. rw c.in-Set.is (c.set.ensures.at head prior past _ lines at)

pub returns-in-None-clause-at : goal.returns-in-None-clause-at
returns-in-None-clause-at g c = λ head prior past lines at.
    let pick = c.in-Pick.pick in
    let observed : IsObservation c.in-Pick.seen.items = rw c.in-Pick.is at c.requires.observed in
    let first = c.deref.ensures.0 in
    let second = c.deref-in-None.ensures.0 in
    let room : c.in-Pick.room ≡ room_of_line c.args.trace.now.latest = rw c.in-Pick.is at c.requires.told in
    let lawful = subst (λ (r : Option ℕ). IsTakenPick head.mechanism head.settings (past ++ prior) r c.deref.result.now pick) room (c.in-None.ensures head (past ++ prior) at.follows) in
    rw c.in-Pick.is
    (subst (λ (xs : List Seen). SurveysAt head prior (Picked xs pick ∷ past) ((c.args.trace.now.number, c.args.trace.now.latest) ∷ lines) c.pass.new.self) second
    (c.pass.ensures.at head prior past _ lines at (subst IsObservation (sym second) observed)
    (subst (λ (xs : List Seen). IsTakenPick head.mechanism head.settings (past ++ prior) (room_of_line c.args.trace.now.latest) xs pick) (first ∙ sym second) lawful)))

pub returns-in-Some-clause-at : goal.returns-in-Some-clause-at
returns-in-Some-clause-at g c = after_ok c.tell.result _ _ c.tell.ensures.at (λ told head prior past lines at.
    let pick = c.in-Pick.pick in
    let finding = c.in-Some.finding in
    let observed : IsObservation c.in-Pick.seen.items = rw c.in-Pick.is at c.requires.observed in
    let first = c.deref.ensures.0 in
    let second = c.deref-in-Some.ensures.0 in
    let line = c.take_line-quoted.result.items in
    let room : c.in-Pick.room ≡ room_of_line c.args.trace.now.latest = rw c.in-Pick.is at c.requires.told in
    let told_in : c.in-Pick.room ≡ room_of_line line = room ∙ ap room_of_line (sym c.take_line-quoted.ensures.latest) in
    let different = subst (λ (r : Option ℕ). IsDifferent head (past ++ prior) r c.deref.result.now pick finding) told_in (c.in-Some.ensures head (past ++ prior) at.follows) in
    let after = told head prior past lines at (subst IsObservation (sym second) observed) (subst (λ (xs : List Seen). IsDifferent head (past ++ prior) (room_of_line line) xs pick finding) (first ∙ sym second) different) in
    rw c.in-Pick.is
    (subst (λ (xs : List Seen). SurveysAt head prior (Picked xs pick ∷ past) ((c.args.trace.now.number, c.args.trace.now.latest) ∷ lines) c.tell.new.self) second
    (subst (λ (l : List ℕ). SurveysAt head prior (Picked c.deref-in-Some.result.now pick ∷ past) ((c.args.trace.now.number, l) ∷ lines) c.tell.new.self) c.take_line-quoted.ensures.latest
    (subst (λ (k : ℕ). SurveysAt head prior (Picked c.deref-in-Some.result.now pick ∷ past) ((k, c.take_line-quoted.result.items) ∷ lines) c.tell.new.self) c.number-line.ensures after))))
