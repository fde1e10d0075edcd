-- The names of classes, mechanisms and operations. (profile)
use Rattle.std.specs.Prelude.{ℕ, List, codes}
use Rattle.nvme_arbiter.specs.declared.settings.Class.{Class}
use Rattle.nvme_arbiter.specs.declared.settings.Class.TheVariants.{Admin, Urgent, High, Medium, Low}
use Rattle.nvme_arbiter.specs.declared.settings.Mechanism.{Mechanism}
use Rattle.nvme_arbiter.specs.declared.settings.Mechanism.TheVariants.{RoundRobin, Weighted}
use Rattle.nvme_load.specs.declared.mix.Operation.{Operation}
use Rattle.nvme_load.specs.declared.mix.Operation.TheVariants.{Read, Write, Flush}

abbrev pub class_text : Class → List ℕ
class_text Admin = codes "admin"
class_text Urgent = codes "urgent"
class_text High = codes "high"
class_text Medium = codes "medium"
class_text Low = codes "low"

abbrev pub mechanism_text : Mechanism → List ℕ
mechanism_text RoundRobin = codes "round-robin"
mechanism_text Weighted = codes "weighted"

abbrev pub operation_text : Operation → List ℕ
operation_text Read = codes "read"
operation_text Write = codes "write"
operation_text Flush = codes "flush"
