use Rattle.std.proofs.Common.{◌∙◌}
use Rattle.serde_json.specs.View.{view}
use Rattle.nvme_audit_text.proofs.ReadingLemmas.{fields_of}
use Rattle.nvme_audit_text.proofs.reading.field_count.Goals as goal

pub returns-in-Some : goal.returns-in-Some
returns-in-Some c =
    c.member_count.ensures ∙ fields_of (view c.args.value.now) _ c.in-Some.ensures
