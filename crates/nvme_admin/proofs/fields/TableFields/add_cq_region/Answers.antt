use Rattle.std.proofs.Common.{rules, ◌≡◌, ◌==◌, if◌then◌else◌, ℕ, None, get_or, arith, ◌<◌, length, ◌∷◌, List, subst, sym, set, Option, Some}
use Rattle.nvme_admin.specs.declared.region.Region.{Region}
use Rattle.nvme_admin.specs.History.{Completion, Added}
use Rattle.nvme_admin.specs.QueueTable.{table_in}
use Rattle.nvme_admin.specs.Accepted.{effects_of, queue_table}
use Rattle.nvme_admin.specs.Standing.{TableView, Shows, cq_of}
use Rattle.nvme_admin.proofs.PlaceLemmas.{cqs-set}
use Rattle.nvme_admin.proofs.Slots.{slot-set-admin}
use Rattle.nvme_admin.proofs.Shown.{Shows-add_cq}
use Rattle.nvme_admin.proofs.PlaceLemmas.{sized-in}
use Rattle.nvme_admin.specs.Layout.{view_of, regions_in}
use Rattle.nvme_admin.proofs.fields.TableFields.add_cq_region.Goals as goal

pub returns-clause-stands : goal.returns-clause-stands
unfolding effects_of queue_table
returns-clause-stands c = λ start h s.
    let v : TableView = view_of c.args.self.now in
    subst (λ (qs : List (Option ℕ)). Shows (record v { cq_regions = (regions_in c.push.new.self); cqs = qs }) (table_in start (Added Completion c.args.address c.args.slots ∷ effects_of start h)))
    (sym (cqs-set c.args.self.now.cqs 0 c.of.result (Some 0) c.of.ensures))
    (subst (λ (rs : List Region). Shows (record v { cq_regions = rs; cqs = set v.cqs 0 (Some 0) }) (table_in start (Added Completion c.args.address c.args.slots ∷ effects_of start h)))
    (sym c.push.ensures)
    (Shows-add_cq start (effects_of start h) v c.args.address c.args.slots (sized-in c.args.self.now (search rules) (search rules) (search rules) (search rules)) s))

pub returns-clause-queues : goal.returns-clause-queues
returns-clause-queues c =
    let v : TableView = view_of c.args.self.now in
    let room : 0 < length v.cqs = rw (sized-in c.args.self.now (search rules) (search rules) (search rules) (search rules)).cqs (omega arith) in
    subst (λ (qs : List (Option ℕ)). (q : ℕ) → get_or qs q None ≡ (if q == 0 then Some 0 else cq_of (view_of c.args.self.now) q))
    (sym (cqs-set c.args.self.now.cqs 0 c.of.result (Some 0) c.of.ensures))
    (slot-set-admin v.cqs (Some 0) room)
