-- The words that say settings, and what is read of them. (profile)
use Rattle.std.specs.Prelude.{◌≡◌, ℕ, ◌∷◌, ◌++◌, Option, Some, None, Ok, codes, decimal}
use Rattle.nvme_arbiter.specs.Settings.{ArbitrationFields, FitsFields, burst_of, cdw11_of, weight_of}
use Rattle.nvme_arbiter.specs.declared.settings.Class.TheVariants.{High, Medium, Low}
use Rattle.nvme_settings.specs.Reading.{Text, settings_in}

abbrev pub limit_words : Option ℕ → Text
limit_words None = codes "none"
limit_words (Some burst) = decimal burst

-- the burst as it is counted
abbrev pub burst_words : ArbitrationFields → Text
burst_words s = limit_words (burst_of s)

-- the weights as they are counted
abbrev pub weights_words : ArbitrationFields → Text
weights_words s = decimal (weight_of s High) ++ 58 ∷ (decimal (weight_of s Medium) ++ 58 ∷ decimal (weight_of s Low))

-- the burst and the weights that settings are said by are read as the dword of these settings
abbrev pub WordsReadBack : Type 0
WordsReadBack = (s : ArbitrationFields) → FitsFields s → settings_in None (Some (burst_words s)) (Some (weights_words s)) ≡ Ok (cdw11_of s)
