use Rattle.std.proofs.Common.{◌≡◌, true, arith}
use Rattle.std.specs.Prelude.{string_bytes}
use Rattle.nvme_audit_text.specs.Readings.{is_extra}
use Rattle.nvme_audit_text.proofs.ReadingLemmas.{ignored_first}
use Rattle.nvme_audit_text.proofs.reading.member_count.Goals as goal

pub overflow_sub-count : goal.overflow_sub-count
overflow_sub-count c =
    let ignored : is_extra (string_bytes c.in-Some.name.now) ≡ true = search in
    let first = ignored_first _ _ _ c.in-Some.ensures.steps ignored in
    omega (arith, first.same, first.one_less, first.few, c.loop-name.invariant)

pub loop-name-preserved-then-is_extra : goal.loop-name-preserved-then-is_extra
loop-name-preserved-then-is_extra c =
    let ignored : is_extra (string_bytes c.in-Some.name.now) ≡ true = search in
    let first = ignored_first _ _ _ c.in-Some.ensures.steps ignored in
    omega (arith, first.same, first.one_less, first.few, c.loop-name.invariant)
