use Rattle.std.proofs.Common.{◌≡◌, ◌+◌, length}
use Rattle.serde_json.specs.View.{members_view}
use Rattle.nvme_audit_text.specs.Readings.{member_count}
use Rattle.nvme_audit_text.proofs.reading.member_count.Given as goal

-- of the members that are left none is taken off yet
abbrev pub invariant-loop-name : goal.invariant-loop-name
invariant-loop-name l = l.count + member_count (members_view l.name-iterator) ≡ member_count (members_view l.fn.members.entries) + length l.name-iterator
