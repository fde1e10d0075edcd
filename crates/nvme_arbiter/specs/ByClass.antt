-- A value for each priority class (profile).
use Rattle.nvme_arbiter.specs.declared.settings.Class.{Class}
use Rattle.nvme_arbiter.specs.declared.settings.Class.TheVariants.{Admin, Urgent, High, Medium, Low}
use Rattle.nvme_arbiter.specs.declared.by_class.ByClass.{ByClass}

-- the value of a class
abbrev pub of_class : {T : Type 0} → ByClass T → Class → T
of_class values Admin = values.admin
of_class values Urgent = values.urgent
of_class values High = values.high
of_class values Medium = values.medium
of_class values Low = values.low

-- the values with that of a class changed
abbrev pub with_class : {T : Type 0} → ByClass T → Class → T → ByClass T
with_class values Admin value = record values { admin = value }
with_class values Urgent value = record values { urgent = value }
with_class values High value = record values { high = value }
with_class values Medium value = record values { medium = value }
with_class values Low value = record values { low = value }

-- the same value for every class
abbrev pub same_for_all : {T : Type 0} → T → ByClass T
same_for_all value = record { admin = value; urgent = value; high = value; medium = value; low = value }
