use Rattle.std.proofs.Common.{◌≡◌, false, inl, inr}
use Rattle.std.specs.Str.{is_utf8}
use Rattle.std.proofs.lemmas.Bool.{cases_Bool}
use Rattle.std.proofs.lemmas.Str.{is_utf8-from_IsUtf8, IsUtf8-from_is_utf8}
use Rattle.nvme_workload.specs.Plan.{workload_of}
use Rattle.nvme_workload.proofs.file.read.Goals as goal

pub returns-in-Ok-clause-value : goal.returns-in-Ok-clause-value
unfolding workload_of
returns-in-Ok-clause-value c =
    let yes = is_utf8-from_IsUtf8 c.args.bytes.now c.in-Ok.ensures.cases.1 in
    rw (yes, ← c.in-Ok.ensures.cases.0) c.workload_of_text.ensures.value

pub returns-in-Err-clause-value : goal.returns-in-Err-clause-value
unfolding workload_of
returns-in-Err-clause-value c =
    let no : is_utf8 c.args.bytes.now ≡ false =
    elim (cases_Bool (is_utf8 c.args.bytes.now)) [
      | inl is ↦ absurd (c.in-Err.ensures.cases.0 (IsUtf8-from_is_utf8 c.args.bytes.now is))
      | inr not ↦ not
    ] in
    rw no
