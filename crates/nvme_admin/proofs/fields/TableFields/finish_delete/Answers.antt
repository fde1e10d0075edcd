use Rattle.std.proofs.Common.{◌≡◌, ◌∷◌, ℕ, List, Option, None, set, subst, sym, if◌then◌else◌, ◌==◌, get_or, refl}
use Rattle.nvme_admin.specs.declared.verdict.SqEntry.{SqEntry}
use Rattle.nvme_admin.specs.History.{Finished}
use Rattle.nvme_admin.specs.QueueTable.{table_in}
use Rattle.nvme_admin.specs.Accepted.{effects_of, queue_table}
use Rattle.nvme_admin.specs.Standing.{TableView, Shows, sq_of}
use Rattle.nvme_admin.proofs.PlaceLemmas.{sqs-set}
use Rattle.nvme_admin.proofs.Slots.{closing_some, within, slot-set}
use Rattle.nvme_admin.proofs.Shown.{Shows-finish}
use Rattle.nvme_admin.specs.Layout.{view_of}
use Rattle.nvme_admin.proofs.fields.TableFields.finish_delete.Goals as goal

pub returns-clause-stands : goal.returns-clause-stands
unfolding effects_of queue_table
returns-clause-stands c = λ start h s.
    let v : TableView = view_of c.args.self.now in
    subst (λ (qs : List (Option SqEntry)). Shows (record v { sqs = qs }) (table_in start (Finished c.args.qid ∷ effects_of start h)))
    (sym (sqs-set c.args.self.now.sqs c.from.result c.of.result None c.of.ensures))
    (subst (λ (q : ℕ). Shows (record v { sqs = set v.sqs q None }) (table_in start (Finished c.args.qid ∷ effects_of start h))) (sym c.from.ensures)
    (Shows-finish start (effects_of start h) v c.args.qid c.requires s))

pub returns-clause-gone : goal.returns-clause-gone
returns-clause-gone c =
    let v : TableView = view_of c.args.self.now in
    let found = closing_some (sq_of v c.args.qid) c.requires in
    subst (λ (qs : List (Option SqEntry)). (q : ℕ) → get_or qs q None ≡ (if c.args.qid == q then None else sq_of (view_of c.args.self.now) q))
    (sym (sqs-set c.args.self.now.sqs c.from.result c.of.result None c.of.ensures))
    (subst (λ (k : ℕ). (q : ℕ) → get_or (set v.sqs k None) q None ≡ (if c.args.qid == q then None else sq_of (view_of c.args.self.now) q)) (sym c.from.ensures)
    (slot-set v.sqs c.args.qid None (λ _. None) (within v.sqs c.args.qid found.0 found.1) refl))
