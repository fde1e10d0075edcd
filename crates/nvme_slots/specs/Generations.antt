-- The generations of a pool's slots, which tell the commands apart that a slot holds one after the other, and the tags that have them (profile).
use Rattle.std.specs.Prelude.{◌≡◌, ◌≢◌, ℕ, ◌+◌, ◌*◌, ◌/◌, ◌%◌, ◌<◌, ◌==◌, if◌then◌else◌, List, [], ◌∷◌, Option, Some, None}
use Rattle.nvme_log.specs.Laws.{count_of}
use Rattle.nvme_slots.specs.declared.slot.Slot.{Slot}
use Rattle.nvme_slots.specs.declared.tag.Tag.{Tag}
use Rattle.nvme_slots.specs.Pool.{slot_at}

-- how many generations there are before the first comes again, and how many slots a pool may have
abbrev pub generations : ℕ
generations = 65536

abbrev pub generation_at : List Slot → ℕ → ℕ
generation_at slots x = (slot_at slots x).generation

-- ---- tags
-- the tag of the command in a slot
abbrev pub tag_at : List Slot → ℕ → Tag
tag_at slots x = record { slot = x; generation = generation_at slots x }

-- the slot of a tag, unless the slot has another generation: then the tag is used up
abbrev pub slot_of : List Slot → Tag → Option ℕ
slot_of slots tag = if generation_at slots tag.slot == tag.generation then Some tag.slot else None

-- a tag as one number of 32 bits: the slot below, the generation above
abbrev pub number_of : Tag → ℕ
number_of tag = tag.slot + generations * tag.generation

abbrev pub tag_of : ℕ → Tag
tag_of n = record { slot = n % generations; generation = n / generations }

-- ---- what calls do to them
-- all are left
abbrev pub SameGenerations : (old new : List Slot) → Type 0
SameGenerations old new = (x : ℕ) → generation_at new x ≡ generation_at old x

-- the device takes the command of a slot: the slot has the next generation, and the others are left
pub record IsNextGeneration (old new : List Slot) (x : ℕ) : Type 0 where
  pub next : generation_at new x ≡ (generation_at old x + 1) % generations
  pub others : (y : ℕ) → y ≢ x → generation_at new y ≡ generation_at old y

-- the commands of these slots are taken, one after the other, with other calls between them
abbrev pub AreTaken : (old new : List Slot) → List ℕ → Type 0
AreTaken old new [] = SameGenerations old new
AreTaken old new (x ∷ xs) = (mid : List Slot) × IsNextGeneration old mid x × AreTaken mid new xs

-- how often the command of a slot is taken
abbrev pub times : ℕ → List ℕ → ℕ
times x xs = count_of (λ (y : ℕ). y == x) xs

-- so a tag is used up once the command of its slot was taken again, and comes again with the 65,536th
abbrev pub TagsAreUsedUp : Type 0
TagsAreUsedUp = (old new : List Slot) (xs : List ℕ) (x : ℕ) → AreTaken old new xs → 0 < times x xs → times x xs < generations → slot_of new (tag_at old x) ≡ None

abbrev pub TagsComeAgain : Type 0
TagsComeAgain = (old new : List Slot) (xs : List ℕ) (x : ℕ) → AreTaken old new xs → times x xs ≡ generations → generation_at old x < generations → slot_of new (tag_at old x) ≡ Some x
