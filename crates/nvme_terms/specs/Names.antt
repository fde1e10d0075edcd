-- The names of classes and mechanisms. (profile)
use Rattle.std.specs.Prelude.{ℕ, List, codes}
use Rattle.nvme_arbiter.specs.declared.settings.Class.{Class}
use Rattle.nvme_arbiter.specs.declared.settings.Class.TheVariants.{Admin, Urgent, High, Medium, Low}
use Rattle.nvme_arbiter.specs.declared.settings.Mechanism.{Mechanism}
use Rattle.nvme_arbiter.specs.declared.settings.Mechanism.TheVariants.{RoundRobin, Weighted}

abbrev pub class_text : Class → List ℕ
class_text Admin = codes "admin"
class_text Urgent = codes "urgent"
class_text High = codes "high"
class_text Medium = codes "medium"
class_text Low = codes "low"

abbrev pub mechanism_text : Mechanism → List ℕ
mechanism_text RoundRobin = codes "round-robin"
mechanism_text Weighted = codes "weighted"
