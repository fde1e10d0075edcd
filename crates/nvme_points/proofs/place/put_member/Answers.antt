use Rattle.std.proofs.Common.{◌≡◌, string_bytes, refl, rules}
use Rattle.nvme_points.proofs.Puts.{members_view-insert}
use Rattle.nvme_points.proofs.place.put_member.Goals as goal

pub returns-in-Ok : goal.returns-in-Ok
returns-in-Ok c =
    let named : string_bytes c.in_ok-from_str.field-0 ≡ c.args.name.now = search rules in
    rw (c.in-Ok.ensures.entries, members_view-insert c.args.members.now.entries c.in_ok-from_str.field-0 c.args.value, named) refl
