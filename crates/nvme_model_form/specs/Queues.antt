-- The queues, by what a file says. (profile)
use Rattle.std.specs.Prelude.{ℕ, ◌+◌, ◌==◌, ◌&&◌, nat_le, nat_lt, is_some, if◌then◌else◌, codes, List, [], ◌∷◌, ◌++◌, Option, Some, None}
use Rattle.toml.specs.Data.{Data, Members, as_str, as_array, as_table}
use Rattle.nvme_arbiter.specs.declared.settings.Class.{Class}
use Rattle.nvme_arbiter.specs.declared.settings.Class.TheVariants as class
use Rattle.nvme_load.specs.declared.places.Order.{Order}
use Rattle.nvme_load.specs.declared.places.Order.TheVariants.{Uniform, Sequential}
use Rattle.nvme_load.specs.declared.places.TheConstants.{MAX_BLOCKS}
use Rattle.nvme_model.specs.declared.model.TheConstants.{MAX_QUEUES}
use Rattle.nvme_model.specs.declared.queue.TheConstants.{MIN_SLOTS, MAX_SLOTS}
use Rattle.nvme_short_form.specs.declared.place.Place.TheVariants as place
use Rattle.nvme_short_form.specs.Commands.{is_named}
use Rattle.nvme_short_form.specs.Queues.{qprio_in}
use Rattle.nvme_model_form.specs.declared.key.Key.{Key}
use Rattle.nvme_model_form.specs.declared.key.Key.TheVariants as key
use Rattle.nvme_model_form.specs.Keys.{queue_keys, mix_keys}
use Rattle.nvme_model_form.specs.Readings.{◌>>=◌, ◌>>◌, accepted, in_turn, item_count, only_keys, value_in, number_or}
use Rattle.nvme_model_form.specs.Arrivals.{arrivals_at}
use Rattle.nvme_model_form.specs.Services.{services_for}
use Rattle.nvme_model_form.specs.Views.{Coming, ByPoisson, ByGap, InBursts, BehindOthers, Replayed, Shares, Asking}

-- QPRIO: Base Specification, Create I/O Submission Queue, CDW11 02:01
abbrev pub class_of_qprio : ℕ → Class
class_of_qprio qprio = if qprio == 0 then class.Urgent else (if qprio == 1 then class.High else (if qprio == 2 then class.Medium else class.Low))

-- as the short workload file has it
abbrev pub class_in : ℕ → Members → Option Class
class_in number queue = accepted (qprio_in (place.Queue number) queue) >>= (λ qprio. Some (class_of_qprio qprio))

abbrev pub slots_in : Members → Option ℕ
slots_in queue = number_or key.Slots 1024 MIN_SLOTS MAX_SLOTS queue

abbrev pub share_in : Key → Members → Option ℕ
share_in key mix = number_or key 0 0 4294967295 mix

-- one share is above 0
abbrev pub mix_of : (read write flush : ℕ) → Option Shares
mix_of read write flush = if nat_lt 0 (read + write + flush) then Some (record { read = read; write = write; flush = flush }) else None

unfoldable pub mix_table : Members → Option Shares
mix_table table = do
  only_keys mix_keys table
  read ← share_in key.Read table
  write ← share_in key.Write table
  flush ← share_in key.Flush table
  mix_of read write flush

-- reads alone, where it is left out
abbrev pub optional_mix : Option Data → Option Shares
optional_mix None = Some (record { read = 1; write = 0; flush = 0 })
optional_mix (Some d) = as_table d >>= mix_table

abbrev pub mix_in : Members → Option Shares
mix_in queue = optional_mix (value_in key.Mix queue)

-- the blocks of a command, for which the namespace has room
abbrev pub blocks_in : ℕ → Members → Option ℕ
blocks_in size queue = number_or key.Blocks 8 1 MAX_BLOCKS queue >>= (λ blocks. if nat_le blocks size then Some blocks else None)

abbrev pub order_named : Option (List ℕ) → Option Order
order_named None = None
order_named (Some name) =
    if is_named name (codes "uniform") then Some Uniform else (if is_named name (codes "sequential") then Some Sequential else None)

abbrev pub optional_order : Option Data → Option Order
optional_order None = Some Uniform
optional_order (Some d) = order_named (as_str d)

abbrev pub order_in : Members → Option Order
order_in queue = optional_order (value_in key.Offsets queue)

-- what a list says of commands, a table says nothing of
abbrev pub without : Key → Members → Option (Unit {0})
without key table = if is_some (value_in key table) then None else Some tt

abbrev pub listed_alone : Coming → Members → Option (Unit {0})
listed_alone Replayed queue = without key.Mix queue >> without key.Blocks queue >> without key.Offsets queue
listed_alone (ByPoisson mean) queue = Some tt
listed_alone (ByGap gap) queue = Some tt
listed_alone (InBursts mean on off) queue = Some tt
listed_alone (BehindOthers depth think) queue = Some tt

-- a queue of this number, over a device with a namespace of this size
unfoldable pub queue_in : (number size : ℕ) → (device queue : Members) → Option Asking
queue_in number size device queue = do
  only_keys queue_keys queue
  class ← class_in number queue
  slots ← slots_in queue
  coming ← arrivals_at queue
  listed_alone coming queue
  shares ← mix_in queue
  blocks ← blocks_in size queue
  order ← order_in queue
  serving ← services_for coming shares queue device
  Some (record { class = class; slots = slots; coming = coming; shares = shares; size = size; blocks = blocks; order = order; read = serving.read; write = serving.write; flush = serving.flush })

-- the queues before, with one more
unfoldable pub with_queue : ℕ → Members → ℕ → List Asking → Data → Option (List Asking)
with_queue size device index before d = do
  queue ← as_table d
  asking ← queue_in (index + 1) size device queue
  Some (before ++ asking ∷ [])

-- 1 to 64 of them
abbrev pub few : ℕ → Option (Unit {0})
few count = if nat_lt 0 count && nat_le count MAX_QUEUES then Some tt else None

unfoldable pub queues_in : ℕ → (device file : Members) → Option (List Asking)
queues_in size device file = do
  d ← value_in key.Queue file
  items ← as_array d
  few (item_count items)
  in_turn (with_queue size device) 0 [] items

-- how many tables the array of queues has
abbrev pub queue_count : Members → Option ℕ
queue_count file = value_in key.Queue file >>= as_array >>= (λ items. Some (item_count items))
