-- What is told of the document of the bytes is told of the bytes.
use Rattle.std.proofs.Common.{rules, ◌≡◌, ℕ, false, List, Some, None, inl, inr, subst}
use Rattle.std.specs.Str.{is_utf8}
use Rattle.std.proofs.lemmas.Bool.{cases_Bool}
use Rattle.std.proofs.lemmas.Str.{is_utf8-from_IsUtf8, IsUtf8-from_is_utf8}
use Rattle.toml.specs.Parse.{parse_document}
use Rattle.toml.specs.View.{table_view}
use Rattle.nvme_workload.specs.Documents.{IsFaultOf}
use Rattle.nvme_workload.specs.declared.file.DocumentError.{DocumentError}
use Rattle.nvme_workload.specs.declared.file.DocumentError.TheVariants as no_document
use Rattle.nvme_workload.specs.declared.error.WorkloadError.TheVariants as fault
use Rattle.nvme_workload.proofs.Placed.{of_document, of_no_document, of_no_text, told_fault, told_tables, told_of_bytes, told_of_tables, read_document}
use Rattle.nvme_workload.proofs.reading.read_placed.Goals as goal

pub returns-in-Err-clause-fault : goal.returns-in-Err-clause-fault
returns-in-Err-clause-fault c =
    let bytes = c.args.bytes.now in
    let no : is_utf8 bytes ≡ false =
    elim (cases_Bool (is_utf8 bytes)) [
      | inl is ↦ absurd (c.in-Err.ensures.cases.0 (IsUtf8-from_is_utf8 bytes is))
      | inr not ↦ not
    ] in
    told_fault bytes fault.NotUtf8 c.in_bytes.result (of_no_text bytes no) c.in_bytes.ensures.fault

pub returns-in-Err-clause-place : goal.returns-in-Err-clause-place
returns-in-Err-clause-place c = told_of_bytes c.args.bytes.now c.valid_up_to.result c.in_bytes.result c.in-Err.ensures.cases.0 (search rules) c.in_bytes.ensures.place

pub returns-in-Ok-document-clause-value : goal.returns-in-Ok-document-clause-value
returns-in-Ok-document-clause-value c =
    let bytes = c.args.bytes.now in
    let members = table_view c.in-Ok-document.table in
    let text = is_utf8-from_IsUtf8 bytes c.in-Ok.ensures.cases.1 in
    let parsed = subst (λ (t : List ℕ). parse_document t ≡ Some members) c.in-Ok.ensures.cases.0 c.in-Ok-document.ensures.value in
    read_document bytes members c.in_document.result (of_document bytes members text parsed) c.in_document.ensures.value

pub returns-in-Ok-document-clause-fault : goal.returns-in-Ok-document-clause-fault
returns-in-Ok-document-clause-fault c =
    let bytes = c.args.bytes.now in
    let members = table_view c.in-Ok-document.table in
    let text = is_utf8-from_IsUtf8 bytes c.in-Ok.ensures.cases.1 in
    let parsed = subst (λ (t : List ℕ). parse_document t ≡ Some members) c.in-Ok.ensures.cases.0 c.in-Ok-document.ensures.value in
    told_tables bytes members c.in_document.result (of_document bytes members text parsed) c.in_document.ensures.fault

pub returns-in-Ok-document-clause-place : goal.returns-in-Ok-document-clause-place
returns-in-Ok-document-clause-place c =
    let bytes = c.args.bytes.now in
    let members = table_view c.in-Ok-document.table in
    let parsed = subst (λ (t : List ℕ). parse_document t ≡ Some members) c.in-Ok.ensures.cases.0 c.in-Ok-document.ensures.value in
    told_of_tables bytes members c.in_document.result c.in-Ok.ensures.cases.1 parsed c.in_document.ensures.fault

pub returns-in-Err-NotToml-clause-fault : goal.returns-in-Err-NotToml-clause-fault
returns-in-Err-NotToml-clause-fault c =
    let bytes = c.args.bytes.now in
    let text = is_utf8-from_IsUtf8 bytes c.in-Ok.ensures.cases.1 in
    let none : IsFaultOf c.in-Ok.text.now (no_document.NotToml c.in-Err-NotToml.error) =
    subst (λ (e : DocumentError). IsFaultOf c.in-Ok.text.now e) c.in-Err-NotToml.field-0-is c.in-Err-NotToml.ensures.not_toml in
    let parsed = subst (λ (t : List ℕ). parse_document t ≡ None) c.in-Ok.ensures.cases.0 none.0 in
    told_fault bytes fault.NotToml c.in_text.result (of_no_document bytes text parsed) c.in_text.ensures.fault
