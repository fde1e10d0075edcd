-- Why a text gives no document.
use Rattle.std.specs.Prelude.{◌≡◌, ℕ, List, None}
use Rattle.toml.specs.Errors.{IsWithin}
use Rattle.toml.specs.Parse.{parse_document}
use Rattle.nvme_workload.specs.declared.file.DocumentError.{DocumentError}
use Rattle.nvme_workload.specs.declared.file.DocumentError.TheVariants as no_document

-- only a text that isn't a document is refused as such, with an error that stands within it. Out of memory is told as such
abbrev pub IsFaultOf : List ℕ → DocumentError → Type 0
IsFaultOf text (no_document.NotToml error) = (parse_document text ≡ None) × IsWithin text error
IsFaultOf text no_document.NoMemory = Unit {0}
