-- Jain's index of the commands of queues. (profile)
use Rattle.std.specs.Prelude.{◌≡◌, ◌≤◌, ◌⊎◌, ℕ, ◌*◌, ◌^◌, List, [], ◌∷◌, MatchOption, None, Option, length, map, sum}
use Rattle.std.specs.List.{flat_map}
use Rattle.nvme_arbiter.specs.Settings.{ArbitrationFields, weight_of}
use Rattle.nvme_arbiter.specs.declared.settings.Class.{Class}
use Rattle.nvme_arbiter.specs.declared.settings.Class.TheVariants.{Admin, Urgent, High, Medium, Low}
use Rattle.nvme_arbiter.specs.declared.settings.Mechanism.{Mechanism}
use Rattle.nvme_arbiter.specs.declared.settings.Mechanism.TheVariants.{RoundRobin, Weighted}
use Rattle.nvme_numbers.specs.Quotients.{jain_of, squares_of}
use Rattle.nvme_numbers.specs.declared.answer.Member.{Member}

-- parts have no index: none is above 0, or a number of the quotient has more than 128 bits
abbrev pub HasNoJain : List ℕ → Type 0
HasNoJain parts =
    (squares_of parts * length parts ≡ 0) ⊎ ((2 ^ 128 ≤ sum parts * sum parts * 10_000) ⊎ (2 ^ 128 ≤ squares_of parts * length parts))

-- the index of parts, where they have one
abbrev pub IsJain : List ℕ → Option ℕ → Type 0
IsJain parts index = MatchOption index (HasNoJain parts) (λ j. j ≡ jain_of parts)

-- the time is the same for all queues, so the index of their commands is that of their commands a second
abbrev pub commands_of_each : List Member → List ℕ
commands_of_each queues = map (λ m. m.row.commands) queues

-- the product of the weights of the other levels: so often the weight of a level is in that of all three
abbrev pub other_weights : ArbitrationFields → Class → List ℕ
other_weights s Admin = []
other_weights s Urgent = []
other_weights s High = weight_of s Medium * weight_of s Low ∷ []
other_weights s Medium = weight_of s High * weight_of s Low ∷ []
other_weights s Low = weight_of s High * weight_of s Medium ∷ []

-- commands of a queue of a level divided by its weight, times the weights of all levels; of other classes none
abbrev pub level_part : ArbitrationFields → Member → List ℕ
level_part s m = map (λ w. m.row.commands * w) (other_weights s m.class)

abbrev pub level_parts : ArbitrationFields → List Member → List ℕ
level_parts s queues = flat_map (level_part s) queues

-- the index by weight, which is told under weighted round robin alone
abbrev pub IsJainByWeight : Mechanism → List ℕ → Option ℕ → Type 0
IsJainByWeight RoundRobin parts index = index ≡ None
IsJainByWeight Weighted parts index = IsJain parts index
