use Rattle.std.proofs.Common.{◌≡◌, ◌∙◌, ◌∷◌, Ok, refl, sym, subst, rules}
use Rattle.std.proofs.lemmas.Result.{err_from_is_err_and}
use Rattle.nvme_arbiter.specs.History.{History}
use Rattle.nvme_lines.specs.Lines.{TakesTold, HasNoTold}
use Rattle.nvme_trace.specs.Format.{event_by, event_view}
use Rattle.nvme_trace.specs.declared.basis.Basis.TheVariants.{Specification}
use Rattle.nvme_trace.specs.declared.records.Head.{Head}
use Rattle.nvme_arbiter.specs.declared.settings.Mechanism.{Mechanism}
use Rattle.nvme_stats.specs.Chosen.{IsPart, chosen}
use Rattle.nvme_stats.specs.declared.selection.Part.{Part}
use Rattle.nvme_stats.specs.declared.selection.Selection.{Selection}
use Rattle.nvme_stats.proofs.ShowLemmas.{IsFollowed, first_number, shown_head, shown_more, shown_all, shown_fault, shown_weaker}
use Rattle.nvme_stats.proofs.watch.show.Goals as goal

pub loop-init : goal.loop-init
loop-init g c =
    let new = c.args.trace.now.rest in
    let P = λ (head : Head). IsFollowed c.args.mechanism c.args.selection 1 (λ (past : History). g.W.Watch.stands head past c.args.watcher.now) in
    record {
      shown = λ text head t s. shown_head text c.args.trace.now.number new head (P head) t (record { next_is = first_number; holds = s });
      mechanism = refl;
      selection = refl;
    }

pub returns-in_err-event-clause-fault : goal.returns-in_err-event-clause-fault
returns-in_err-event-clause-fault g c =
    let p = err_from_is_err_and c.from_residual.result c.from_residual.ensures.1 in
    rw (p.1, p.2) (λ text head t s. shown_fault text _ c.loop.trace.number head _ _ (c.loop.invariant.shown text head t s) c.in_err-event.ensures.err)

pub returns-in_default-clause-shown : goal.returns-in_default-clause-shown
returns-in_default-clause-shown g c = λ text head t st same.
    let old = c.loop.trace.rest in
    let none : HasNoTold c.loop.trace.number old = search rules in
    let s = c.args.selection in
    let part : Part = record { selection = s; next = c.loop.chooser.next } in
    let P = λ (h : Head) (past : History). g.W.Watch.stands h (chosen h.mechanism s past) c.loop.watcher × IsPart s past part in
    shown_all text old c.loop.trace.number head P
    (shown_weaker text old c.loop.trace.number head _ (P head) (c.loop.invariant.shown text head t st)
    (λ past followed. (subst (λ (m : Mechanism). g.W.Watch.stands head (chosen m s past) c.loop.watcher) (sym same) followed.holds, record { selection = refl; next = followed.next_is }))) none

pub loop-preserved : goal.loop-preserved
loop-preserved g c =
    let old = c.loop.trace.rest in
    let new = c.event_by.new.self.rest in
    let event = event_view c.in-Some.event in
    let m = c.loop.trace.number in
    let n = c.event_by.new.self.number in
    let took : TakesTold (λ line. event_by Specification line ≡ Ok event) m old n new = search rules in
    let s = c.args.selection in
    let k = c.args.mechanism in
    let same : c.loop.chooser.selection ≡ s = c.loop.invariant.selection in
    let alike : c.loop.chooser.mechanism ≡ k = c.loop.invariant.mechanism in
    let P = λ (head : Head). IsFollowed k s c.loop.chooser.next (λ (past : History). g.W.Watch.stands head past c.loop.watcher) in
    let Q = λ (head : Head). IsFollowed k s c.show_one.new.chooser.next (λ (past : History). g.W.Watch.stands head past c.show_one.new.watcher) in
    record {
      shown = λ text head t st. shown_more text m old n new head (P head) (Q head) event (c.loop.invariant.shown text head t st) took
          (λ past followed. record {
            next_is = c.in_ok-show_one.ensures.next past followed.next_is;
            holds = subst (λ (x : Selection). g.W.Watch.stands head (chosen k x (event ∷ past)) c.show_one.new.watcher) same
                (subst (λ (m : Mechanism). g.W.Watch.stands head (chosen m c.loop.chooser.selection (event ∷ past)) c.show_one.new.watcher) alike
                (c.in_ok-show_one.ensures.stands head past followed.next_is
                (subst (λ (m : Mechanism). g.W.Watch.stands head (chosen m c.loop.chooser.selection past) c.loop.watcher) (sym alike)
                (subst (λ (x : Selection). g.W.Watch.stands head (chosen k x past) c.loop.watcher) (sym same) followed.holds))));
          });
      mechanism = c.in_ok-show_one.ensures.mechanism ∙ alike;
      selection = c.in_ok-show_one.ensures.selection ∙ same;
    }
