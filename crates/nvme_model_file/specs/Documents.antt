-- What the bytes of a simulation file say. (profile)
use Rattle.std.specs.Prelude.{◌≡◌, ℕ, Bool, false, if◌then◌else◌, List, Option, Some, None}
use Rattle.std.specs.Str.{is_utf8}
use Rattle.toml.specs.Data.{Members}
use Rattle.toml.specs.Parse.{parse_document}
use Rattle.nvme_model.specs.declared.model.Model.{Model}
use Rattle.nvme_model_form.specs.Models.{Says, is_simulation}

-- the document of a text in UTF-8
abbrev pub document_in : (bytes : List ℕ) → Option Members
document_in bytes = if is_utf8 bytes then parse_document bytes else None

-- and a text
pub record SaysIn (text : List ℕ) (model : Model) : Type 0 where
  pub file : Members
  pub is_file : document_in text ≡ Some file
  pub says : Says file model

-- a text that isn't UTF-8 or no document is none
abbrev pub is_simulation_document : Option Members → Bool
is_simulation_document None = false
is_simulation_document (Some file) = is_simulation file

abbrev pub is_simulation_text : (bytes : List ℕ) → Bool
is_simulation_text bytes = is_simulation_document (document_in bytes)
