use Rattle.std.proofs.Common.{◌≡◌, ◌∙◌, ◌∷◌, false, true, ap, subst, sym}
use Rattle.nvme_entry.specs.AdminCommand.{admin_command_of}
use Rattle.nvme_entry.specs.declared.submission.Sqe.{Sqe}
use Rattle.nvme_admin.specs.History.{EntryApplied}
use Rattle.nvme_admin.specs.Accepted.{verdict_of, queue_table}
use Rattle.nvme_admin.specs.Checks.{status_over, is_success}
use Rattle.nvme_admin.specs.Layout.{view_of}
use Rattle.nvme_admin.specs.Standing.{Shows, table_of}
use Rattle.nvme_admin.specs.Steps.{table_after}
use Rattle.nvme_capi.specs.Tables.{answer_of}
use Rattle.nvme_capi.proofs.table.nvmearb_table_apply.Goals as goal

pub returns-clause-verdict : goal.returns-clause-verdict
returns-clause-verdict c = λ _ entry is start h s.
    let e : c.from_bytes.result ≡ entry = c.submission_layout_is_exact.ensures.one_entry c.args.bytes.now c.from_bytes.result entry c.from_bytes.ensures.layout is in
    c.answer_of.ensures ∙ ap answer_of (c.apply.ensures.verdict start h s ∙ ap (verdict_of start h) e)

pub returns-clause-stands : goal.returns-clause-stands
returns-clause-stands c = λ _ entry is start h s.
    let e : c.from_bytes.result ≡ entry = c.submission_layout_is_exact.ensures.one_entry c.args.bytes.now c.from_bytes.result entry c.from_bytes.ensures.layout is in
    subst (λ (x : Sqe). Shows (view_of c.apply.new.self) (queue_table start (EntryApplied x ∷ h))) e (c.apply.ensures.stands start h s)

pub returns-clause-accepted : goal.returns-clause-accepted
returns-clause-accepted c = λ _ entry is yes.
    let e : c.from_bytes.result ≡ entry = c.submission_layout_is_exact.ensures.one_entry c.args.bytes.now c.from_bytes.result entry c.from_bytes.ensures.layout is in
    let status : is_success (status_over (table_of (view_of c.args.state.now.table)) c.from_bytes.result) ≡ true =
    subst (λ (x : Sqe). is_success (status_over (table_of (view_of c.args.state.now.table)) x) ≡ true) (sym e) yes in
    subst (λ (x : Sqe). Shows (view_of c.apply.new.self) (table_after (table_of (view_of c.args.state.now.table)) (admin_command_of x))) e
    (c.apply.ensures.accepted (ap is_success c.apply.ensures.checked ∙ status))

pub returns-clause-refused : goal.returns-clause-refused
returns-clause-refused c = λ _ entry is no.
    let e : c.from_bytes.result ≡ entry = c.submission_layout_is_exact.ensures.one_entry c.args.bytes.now c.from_bytes.result entry c.from_bytes.ensures.layout is in
    let status : is_success (status_over (table_of (view_of c.args.state.now.table)) c.from_bytes.result) ≡ false =
    subst (λ (x : Sqe). is_success (status_over (table_of (view_of c.args.state.now.table)) x) ≡ false) (sym e) no in
    λ i. record c.args.state.now { table = c.apply.ensures.unchanged (ap is_success c.apply.ensures.checked ∙ status) i }
