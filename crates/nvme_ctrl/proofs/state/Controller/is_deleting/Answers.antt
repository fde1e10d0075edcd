use Rattle.std.proofs.Common.{not, true≢false, sym, ap, ◌∙◌, inl, inr}
use Rattle.std.proofs.lemmas.Bool.{cases_eq, eq-eqb, ne_eqb}
use Rattle.nvme_ctrl.proofs.SomeDeleting.{none_deleting, some_deleting}
use Rattle.nvme_ctrl.proofs.state.Controller.is_deleting.Goals as goal

pub returns-clause-none : goal.returns-clause-none
returns-clause-none c rules late notes pool s none =
    none_deleting rules late notes c.args.self.now pool s (elim (cases_eq c.args.self.now.pending_deletions 0) [
      | inl idle ↦ idle
      | inr some ↦ absurd (true≢false (sym (ap not (ne_eqb c.args.self.now.pending_deletions 0 some)) ∙ none))
    ])

pub returns-clause-some : goal.returns-clause-some
returns-clause-some c rules late notes pool s some =
    some_deleting rules late notes c.args.self.now pool s (λ idle. true≢false (sym some ∙ ap not (eq-eqb c.args.self.now.pending_deletions 0 idle)))
