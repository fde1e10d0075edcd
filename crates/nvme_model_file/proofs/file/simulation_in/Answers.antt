use Rattle.std.proofs.Common.{rules, ◌≡◌, true, false, inl, inr, Some, refl}
use Rattle.std.specs.Str.{is_utf8}
use Rattle.std.proofs.lemmas.Bool.{cases_Bool}
use Rattle.std.proofs.lemmas.Str.{is_utf8-from_IsUtf8, IsUtf8-from_is_utf8}
use Rattle.toml.specs.Parse.{parse_document}
use Rattle.toml.specs.View.{table_view}
use Rattle.nvme_model_file.proofs.file.simulation_in.Goals as goal

pub returns-in_default : goal.returns-in_default
returns-in_default c =
    let no : is_utf8 c.args.bytes.now ≡ false =
    elim (cases_Bool (is_utf8 c.args.bytes.now)) [
      | inl is ↦ absurd (c.in_default.ensures.cases.0 (IsUtf8-from_is_utf8 c.args.bytes.now is))
      | inr not ↦ not
    ] in
    rw no refl

pub returns-in-Ok-document : goal.returns-in-Ok-document
returns-in-Ok-document c =
    let yes = is_utf8-from_IsUtf8 c.args.bytes.now c.in-Ok.ensures.cases.1 in
    let parsed : parse_document c.in-Ok.text.now ≡ Some (table_view c.in-Ok-document.table) = search rules in
    rw (yes, ← c.in-Ok.ensures.cases.0, parsed) c.is_simulation.ensures
