use Rattle.std.proofs.Common.{rules, ◌∙◌, None}
use Rattle.nvme_admin.specs.Checks.{attaches}
use Rattle.nvme_admin.specs.Layout.{sqs_of_places}
use Rattle.nvme_admin.specs.declared.bounds.TheConstants.{MAX_REGIONS}
use Rattle.nvme_admin.proofs.PlaceLemmas.{any-place, sized-in}
use Rattle.nvme_admin.proofs.Slots.{list_any-below}
use Rattle.nvme_admin.proofs.fields.TableFields.is_attached_to.Goals as goal

pub returns : goal.returns
returns c =
    let places = c.args.self.now.sqs in
    let sized = sized-in c.args.self.now (search rules) (search rules) (search rules) (search rules) in
    c.any_attached.ensures ∙ any-place (attaches c.args.cqid) places ∙ list_any-below (attaches c.args.cqid) (sqs_of_places places) None MAX_REGIONS sized.sqs
