use Rattle.std.proofs.Common.{◌≡◌, ltb, false, length, inl, inr}
use Rattle.std.specs.Str.{is_utf8}
use Rattle.std.proofs.lemmas.Bool.{cases_Bool, le-ltb}
use Rattle.std.proofs.lemmas.Str.{is_utf8-from_IsUtf8, IsUtf8-from_is_utf8}
use Rattle.nvme_trace.specs.Format.{data_of}
use Rattle.nvme_lines.specs.Lines.{longest_line}
use Rattle.nvme_trace.proofs.records.data_of.Goals as goal

pub returns-in-Ok : goal.returns-in-Ok
unfolding data_of
returns-in-Ok c =
    let short : ltb longest_line (length c.args.line.now) ≡ false = le-ltb _ _ c.requires in
    let yes = is_utf8-from_IsUtf8 c.args.line.now c.in-Ok.ensures.cases.1 in
    rw (short, yes, ← c.in-Ok.ensures.cases.0) c.value_of.ensures

pub returns-in-Err : goal.returns-in-Err
unfolding data_of
returns-in-Err c =
    let short : ltb longest_line (length c.args.line.now) ≡ false = le-ltb _ _ c.requires in
    let no : is_utf8 c.args.line.now ≡ false =
    elim (cases_Bool (is_utf8 c.args.line.now)) [
      | inl is ↦ absurd (c.in-Err.ensures.cases.0 (IsUtf8-from_is_utf8 c.args.line.now is))
      | inr not ↦ not
    ] in
    rw (short, no)
