-- A value for each priority class.
use Rattle.std.proofs.Common.{◌≡◌, cond, refl}
use Rattle.nvme_arbiter.specs.declared.settings.Class.{Class}
use Rattle.nvme_arbiter.specs.declared.settings.Class.TheVariants.{Admin, Urgent, High, Medium, Low}
use Rattle.nvme_arbiter.specs.declared.by_class.ByClass.{ByClass}
use Rattle.nvme_arbiter.specs.Observation.{is_class}
use Rattle.nvme_arbiter.specs.ByClass.{of_class, with_class, same_for_all}

-- where the value of a class becomes another, that of every other class stays
pub of_class_after : {T : Type 0} (values : ByClass T) (other class : Class) (f : T → T) → of_class (with_class values other (f (of_class values other))) class ≡ cond (is_class class other) (f (of_class values class)) (of_class values class)
of_class_after values Admin Admin f = refl
of_class_after values Urgent Urgent f = refl
of_class_after values High High f = refl
of_class_after values Medium Medium f = refl
of_class_after values Low Low f = refl
of_class_after values _ _ f = refl

pub of_class_same : {T : Type 0} (value : T) (class : Class) → of_class (same_for_all value) class ≡ value
of_class_same value Admin = refl
of_class_same value Urgent = refl
of_class_same value High = refl
of_class_same value Medium = refl
of_class_same value Low = refl
