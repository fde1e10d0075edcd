use Rattle.std.proofs.Common.{◌≡◌, ◌&&◌, Bool, true, false, if◌then◌else◌, sym, ap, ◌∙◌}
use Rattle.std.proofs.lemmas.Bool.{eq-eqb, ne_eqb}
use Rattle.nvme_log.specs.Aborts.{is_abort_entry}
use Rattle.nvme_log.specs.Histories.{admin_entry}
use Rattle.nvme_ctrl_log.specs.Notes.{logged}
use Rattle.nvme_ctrl.proofs.state.Controller.needs.Goals.{else-pick-eq0-via-then-pick-eq0+else-is_abort_first, else-pick-eq0-via-else-pick-eq0}
use Rattle.nvme_ctrl.proofs.state.Controller.needs.Goals as goal

pub returns-then-is_abort_first : goal.returns-then-is_abort_first
returns-then-is_abort_first c rules late notes s =
    let abort : is_abort_entry (admin_entry (logged notes)) ≡ true = sym (c.is_abort_first.ensures rules late notes s) ∙ c.if-is_abort_first.true in
    sym (ap (λ (b : Bool). if b && is_abort_entry (admin_entry (logged notes)) then 2 else c.args.pick.n) (eq-eqb c.args.pick.qid 0 c.if-pick-eq0.true)
    ∙ ap (λ (b : Bool). if b then 2 else c.args.pick.n) abort)

pub returns-else-pick-eq0 : goal.returns-else-pick-eq0
returns-else-pick-eq0 c rules late notes s = elim c.else-pick-eq0.branch [
  | else-pick-eq0-via-then-pick-eq0+else-is_abort_first w ↦
      let none : is_abort_entry (admin_entry (logged notes)) ≡ false = sym (w.is_abort_first.ensures rules late notes s) ∙ w.if-is_abort_first.false in
      sym (ap (λ (b : Bool). if b && is_abort_entry (admin_entry (logged notes)) then 2 else c.args.pick.n) (eq-eqb c.args.pick.qid 0 w.if-pick-eq0.true)
      ∙ ap (λ (b : Bool). if b then 2 else c.args.pick.n) none)
  | else-pick-eq0-via-else-pick-eq0 w ↦
      sym (ap (λ (b : Bool). if b && is_abort_entry (admin_entry (logged notes)) then 2 else c.args.pick.n) (ne_eqb c.args.pick.qid 0 w.if-pick-eq0.false))
]
