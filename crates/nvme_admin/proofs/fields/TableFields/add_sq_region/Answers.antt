use Rattle.std.proofs.Common.{rules, ◌≡◌, ◌==◌, if◌then◌else◌, ℕ, None, get_or, arith, ◌<◌, length, ◌∷◌, List, subst, sym, set, Option, Some, false}
use Rattle.nvme_arbiter.specs.declared.settings.Class.TheVariants.{Admin}
use Rattle.nvme_admin.specs.declared.region.Region.{Region}
use Rattle.nvme_admin.specs.declared.verdict.SqEntry.{SqEntry}
use Rattle.nvme_admin.specs.History.{Submission, Added}
use Rattle.nvme_admin.specs.QueueTable.{table_in}
use Rattle.nvme_admin.specs.Accepted.{effects_of, queue_table}
use Rattle.nvme_admin.specs.Standing.{TableView, Shows, sq_of}
use Rattle.nvme_admin.proofs.PlaceLemmas.{sqs-set}
use Rattle.nvme_admin.proofs.Slots.{slot-set-admin}
use Rattle.nvme_admin.proofs.Shown.{Shows-add_sq}
use Rattle.nvme_admin.proofs.PlaceLemmas.{sized-in}
use Rattle.nvme_admin.specs.Layout.{view_of, regions_in}
use Rattle.nvme_admin.proofs.fields.TableFields.add_sq_region.Goals as goal

pub returns-clause-stands : goal.returns-clause-stands
unfolding effects_of queue_table
returns-clause-stands c = λ start h s.
    let v : TableView = view_of c.args.self.now in
    subst (λ (qs : List (Option SqEntry)). Shows (record v { sq_regions = (regions_in c.push.new.self); sqs = qs }) (table_in start (Added Submission c.args.address c.args.slots ∷ effects_of start h)))
    (sym (sqs-set c.args.self.now.sqs 0 c.of.result (Some (record { region = 0; cqid = 0; class = Admin; closing = false })) c.of.ensures))
    (subst (λ (rs : List Region). Shows (record v { sq_regions = rs; sqs = set v.sqs 0 (Some (record { region = 0; cqid = 0; class = Admin; closing = false })) }) (table_in start (Added Submission c.args.address c.args.slots ∷ effects_of start h)))
    (sym c.push.ensures)
    (Shows-add_sq start (effects_of start h) v c.args.address c.args.slots (sized-in c.args.self.now (search rules) (search rules) (search rules) (search rules)) s))

pub returns-clause-queues : goal.returns-clause-queues
returns-clause-queues c =
    let v : TableView = view_of c.args.self.now in
    let room : 0 < length v.sqs = rw (sized-in c.args.self.now (search rules) (search rules) (search rules) (search rules)).sqs (omega arith) in
    subst (λ (qs : List (Option SqEntry)). (q : ℕ) → get_or qs q None ≡ (if q == 0 then Some (record { region = 0; cqid = 0; class = Admin; closing = false }) else sq_of (view_of c.args.self.now) q))
    (sym (sqs-set c.args.self.now.sqs 0 c.of.result (Some (record { region = 0; cqid = 0; class = Admin; closing = false })) c.of.ensures))
    (slot-set-admin v.sqs (Some (record { region = 0; cqid = 0; class = Admin; closing = false })) room)
