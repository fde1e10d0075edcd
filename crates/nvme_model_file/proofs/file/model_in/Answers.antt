use Rattle.std.proofs.Common.{rules, ◌≡◌, Some, Result, Ok, Err, refl}
use Rattle.std.specs.Prelude.{IfOk}
use Rattle.std.proofs.lemmas.Str.{is_utf8-from_IsUtf8}
use Rattle.toml.specs.Parse.{parse_document}
use Rattle.toml.specs.View.{table_view}
use Rattle.nvme_model_file.specs.Documents.{SaysIn, document_in}
use Rattle.nvme_model_file.proofs.file.model_in.Goals as goal

-- what is so of an answer
answered : {X E : Type 0} {P Q : X → Type 0} (r : Result X E) → ((x : X) → P x → Q x) → IfOk r P → IfOk r Q
answered (Ok x) so p = so x p
answered (Err e) so p = tt

pub returns : goal.returns
returns c =
    let yes = is_utf8-from_IsUtf8 c.args.bytes.now c.in-Ok.ensures.cases.1 in
    let parsed : parse_document c.in-Ok.text.now ≡ Some (table_view c.in-Ok-document.table) = search rules in
    let is_file : document_in c.args.bytes.now ≡ Some (table_view c.in-Ok-document.table) = rw (yes, ← c.in-Ok.ensures.cases.0, parsed) refl in
    answered c.model_at.result (λ model says. record { file = table_view c.in-Ok-document.table; is_file = is_file; says = says }) c.model_at.ensures
