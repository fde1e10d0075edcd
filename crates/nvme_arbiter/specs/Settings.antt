-- The settings of Command Arbitration: Base Specification, Arbitration feature (identifier 01h), CDW11.
use Rattle.std.specs.Prelude.{◌≡◌, ℕ, ◌+◌, ◌*◌, ◌/◌, ◌%◌, ◌^◌, ◌<◌, ◌==◌, Option, Some, None, if◌then◌else◌, bit_and}
use Rattle.nvme_arbiter.specs.declared.settings.Class.{Class}
use Rattle.nvme_arbiter.specs.declared.settings.Class.TheVariants.{Admin, Urgent, High, Medium, Low}

-- the fields of CDW11 as they are encoded: a weight is its field plus 1
pub record ArbitrationFields : Type 0 where
  -- Arbitration Burst, bits 02:00
  pub burst_code : ℕ
  -- Low Priority Weight, bits 15:08
  pub low : ℕ
  -- Medium Priority Weight, bits 23:16
  pub medium : ℕ
  -- High Priority Weight, bits 31:24
  pub high : ℕ

-- each field fits its bits
pub record FitsFields (s : ArbitrationFields) : Type 0 where
  pub burst_code : s.burst_code < 8
  pub low : s.low < 256
  pub medium : s.medium < 256
  pub high : s.high < 256

-- the settings of a CDW11. Bits 07:03 are ignored (profile)
abbrev pub settings_of : ℕ → ArbitrationFields
settings_of x = record { burst_code = x % 8; low = x / 2 ^ 8 % 256; medium = x / 2 ^ 16 % 256; high = x / 2 ^ 24 % 256 }

-- the CDW11 of the settings, with bits 07:03 as 0 (profile)
abbrev pub cdw11_of : ArbitrationFields → ℕ
cdw11_of s = s.burst_code + 2 ^ 8 * s.low + 2 ^ 16 * s.medium + 2 ^ 24 * s.high

-- the most commands that one pick may take: 2 to the power of the field, and no limit for 111b
abbrev pub burst_of : ArbitrationFields → Option ℕ
burst_of s = if s.burst_code == 7 then None else Some (2 ^ s.burst_code)

-- how many commands of a level may be taken in a round. A weight is zero based; the other classes have none
abbrev pub weight_of : ArbitrationFields → Class → ℕ
weight_of s High = s.high + 1
weight_of s Medium = s.medium + 1
weight_of s Low = s.low + 1
weight_of s Admin = 0
weight_of s Urgent = 0

-- the number of a class (profile)
abbrev pub number_of_class : Class → ℕ
number_of_class Admin = 0
number_of_class Urgent = 1
number_of_class High = 2
number_of_class Medium = 3
number_of_class Low = 4

-- the class of a number, where it is the number of one
abbrev pub class_of_number : ℕ → Option Class
class_of_number n =
    if n == 0 then Some Admin
    else (if n == 1 then Some Urgent
    else (if n == 2 then Some High
    else (if n == 3 then Some Medium
    else (if n == 4 then Some Low
    else None))))

-- the weighted priority classes
abbrev pub IsLevel : Class → Type 0
IsLevel High = Unit {0}
IsLevel Medium = Unit {0}
IsLevel Low = Unit {0}
IsLevel Admin = ⊥
IsLevel Urgent = ⊥

-- a CDW11 that is read and written back has bits 07:03 as 0 and every other bit as it was
abbrev pub WritesBack : Type 0
WritesBack = (x : ℕ) → x < 2 ^ 32 → cdw11_of (settings_of x) ≡ bit_and x 0xFFFF_FF07

-- settings that are written and read back are the same
abbrev pub ReadsBack : Type 0
ReadsBack = (s : ArbitrationFields) → FitsFields s → settings_of (cdw11_of s) ≡ s

-- a class that is no level has no weight
abbrev pub OnlyLevelsHaveWeights : Type 0
OnlyLevelsHaveWeights = (s : ArbitrationFields) (class : Class) → (IsLevel class → ⊥) → weight_of s class ≡ 0
