use Rattle.std.proofs.Common.{◌≡◌, string_bytes, ap, ◌∙◌, rules}
use Rattle.toml.specs.View.{view, members_view}
use Rattle.nvme_workload.specs.Keys.{text_of}
use Rattle.nvme_short.specs.Documents.{with_member}
use Rattle.nvme_short.proofs.Members.{members_view-insert_entry}
use Rattle.nvme_short.proofs.document.put.Goals as goal

pub returns : goal.returns
returns c =
    let old = c.args.table.now.entries in
    let named : string_bytes c.in_ok-name.name ≡ text_of c.args.key = search rules in
    ap members_view c.in_ok-insert.ensures.entries ∙ members_view-insert_entry old c.in_ok-name.name c.args.value ∙ ap (λ k. with_member k (view c.args.value) (members_view old)) named
