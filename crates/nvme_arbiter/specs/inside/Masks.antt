-- The masks of a board's ready queues, and what is found by them (profile).
use Rattle.std.specs.Prelude.{◌≡◌, ℕ, ◌-◌, ◌*◌, ◌%◌, ◌^◌, ◌<◌, ◌≤◌, ◌==◌, Bool, true, false, nat_lt, if◌then◌else◌, List, Option, Some, None, slice_set, bit_and, bit_or}
use Rattle.std.specs.Int.{bit_at, bit_not, w64}
use Rattle.nvme_arbiter.specs.Observation.{is_wanted}
use Rattle.nvme_arbiter.specs.Settings.{number_of_class}
use Rattle.nvme_arbiter.specs.Queues.{queue_at, seen_as}
use Rattle.nvme_arbiter.specs.declared.settings.Class.{Class}
use Rattle.nvme_arbiter.specs.declared.settings.Class.TheVariants.{Admin, Urgent, High, Medium, Low}
use Rattle.nvme_arbiter.specs.declared.pick.OpenQueue.{OpenQueue}
use Rattle.nvme_arbiter.specs.declared.pick.Seen.{Seen}
use Rattle.nvme_arbiter.specs.Layout.{mask_in}
use Rattle.nvme_arbiter.specs.declared.queues.QueuesFields.{QueuesFields}

-- no bit is set
abbrev pub HasNoBit : ℕ → Type 0
HasNoBit mask = (i : ℕ) → bit_at mask i ≡ 0

-- the bit is set, and none below it
pub record IsLowest (mask bit : ℕ) : Type 0 where
  pub within : bit < 64
  pub is_set : bit_at mask bit ≡ 1
  pub none_below : (i : ℕ) → i < bit → bit_at mask i ≡ 0

-- a mask with one bit set or cleared
abbrev pub with_bit : ℕ → ℕ → Bool → ℕ
with_bit mask bit true = bit_or mask (1 * 2 ^ bit % 2 ^ 64)
with_bit mask bit false = bit_and mask (bit_not w64 (1 * 2 ^ bit % 2 ^ 64))

-- a mask with the bits below one cleared
abbrev pub KeepsFrom : ℕ → ℕ → ℕ → Type 0
KeepsFrom mask bit kept = (i : ℕ) → i < 64 → bit_at kept i ≡ (if nat_lt i bit then 0 else bit_at mask i)

-- the masks with that of a class changed
abbrev pub with_mask : QueuesFields → Class → ℕ → QueuesFields
with_mask b Admin mask = b
with_mask b class mask = record b { ready = slice_set b.ready (number_of_class class - 1) mask }

-- the bit of a queue set or cleared in the mask of a class
abbrev pub marked_with : QueuesFields → ℕ → Class → Bool → QueuesFields
marked_with b qid class on = if qid == 0 then b else with_mask b class (with_bit (mask_in b class) (qid - 1) on)

-- the mask of a class, or of all
abbrev pub mask_for : QueuesFields → Option Class → ℕ
mask_for b (Some class) = mask_in b class
mask_for b None = bit_or (bit_or (bit_or (mask_in b Urgent) (mask_in b High)) (mask_in b Medium)) (mask_in b Low)

-- whether this is the class of I/O queues
abbrev pub is_io : Option Class → Bool
is_io None = false
is_io (Some Admin) = false
is_io (Some class) = true

-- whether an open queue passes a test
abbrev pub passes : (Seen → Bool) → ℕ → Option OpenQueue → Bool
passes test qid None = false
passes test qid (Some queue) = test (seen_as qid queue)

-- this is the queue of an identifier as it is seen, ready and of a wanted class
pub record IsWantedAt (slots : List (Option OpenQueue)) (wanted : Option Class) (qid : ℕ) (s : Seen) : Type 0 where
  pub queue : OpenQueue
  pub is_open : queue_at slots qid ≡ Some queue
  pub is : s ≡ seen_as qid queue
  pub is_wanted : is_wanted wanted s ≡ true

-- no queue from an identifier on is ready and of a wanted class
abbrev pub NoneFrom : List (Option OpenQueue) → Option Class → ℕ → Type 0
NoneFrom slots wanted least = (j : ℕ) → least ≤ j → passes (is_wanted wanted) j (queue_at slots j) ≡ false

-- this is the first one from an identifier on
pub record IsFirstFrom (slots : List (Option OpenQueue)) (wanted : Option Class) (least : ℕ) (s : Seen) : Type 0 where
  pub from : least ≤ s.qid
  pub there : IsWantedAt slots wanted s.qid s
  pub none_before : (j : ℕ) → least ≤ j → j < s.qid → passes (is_wanted wanted) j (queue_at slots j) ≡ false
