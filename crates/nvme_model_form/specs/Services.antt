-- How long a device takes for commands, by what a file says. (profile)
use Rattle.std.specs.Prelude.{ℕ, ◌+◌, ◌==◌, ◌&&◌, Bool, true, nat_le, if◌then◌else◌, List, [], ◌∷◌, ◌++◌, length, Option, Some, None}
use Rattle.toml.specs.Data.{Data, Members, as_array, as_table}
use Rattle.nvme_load.specs.declared.mix.Operation.{Operation}
use Rattle.nvme_load.specs.declared.mix.Operation.TheVariants.{Read, Write, Flush}
use Rattle.nvme_model_form.specs.declared.key.Key.{Key}
use Rattle.nvme_model_form.specs.declared.key.Key.TheVariants as key
use Rattle.nvme_model_form.specs.Keys.{service_keys, flush_keys}
use Rattle.nvme_model_form.specs.Readings.{◌>>=◌, ◌>>◌, in_turn, only_keys, value_in, whole}
use Rattle.nvme_model_form.specs.Times.{duration_of, duration_at, duration_or_none, mean_of}
use Rattle.nvme_model_form.specs.Views.{Coming, ByPoisson, ByGap, InBursts, BehindOthers, Replayed, Shares, Spread, Always, Exponentially, OneOfTwo, ByQuantiles, Taking, Serving}

-- the durations of an array, with those before them
unfoldable pub with_time : ℕ → List ℕ → Data → Option (List ℕ)
with_time index before d = duration_of d >>= (λ time. Some (before ++ time ∷ []))

-- none is below the one before it
abbrev pub rises : List ℕ → Bool
rises [] = true
rises (a ∷ []) = true
rises (a ∷ b ∷ times) = nat_le a b && rises (b ∷ times)

-- two quantiles or more, which don't fall
abbrev pub table_of : List ℕ → Option (List ℕ)
table_of times = if nat_le 2 (length times) && rises times then Some times else None

unfoldable pub quantiles_of : Data → Option (List ℕ)
quantiles_of d = do
  items ← as_array d
  times ← in_turn with_time 0 [] items
  table_of times

unfoldable pub exponential_of : Data → Option Spread
exponential_of d = do
  time ← duration_of d
  mean ← mean_of time
  Some (Exponentially mean)

-- the rare time comes once in so many commands
unfoldable pub two_points_of : Data → Members → Option Spread
two_points_of d table = do
  usual ← duration_of d
  rare ← duration_at key.Rare table
  one_in ← value_in key.OneIn table
  out_of ← whole 1 9223372036854775807 one_in
  Some (OneOfTwo usual rare 1 out_of)

-- by the one key of four that a table has, where rare times come beside usual ones alone
abbrev pub spread_by : Members → (fixed exponential usual quantiles rare one_in : Option Data) → Option Spread
spread_by table (Some d) None None None None None = duration_of d >>= (λ time. Some (Always time))
spread_by table None (Some d) None None None None = exponential_of d
spread_by table None None (Some d) None rare one_in = two_points_of d table
spread_by table None None None (Some d) None None = quantiles_of d >>= (λ times. Some (ByQuantiles times))
spread_by table _ _ _ _ _ _ = None

unfoldable pub spread_in : Members → Option Spread
spread_in table = spread_by table (value_in key.Fixed table) (value_in key.Exponential table) (value_in key.Usual table) (value_in key.Quantiles table) (value_in key.Rare table) (value_in key.OneIn table)

-- a flush has no blocks
abbrev pub keys_of : Operation → List Key
keys_of Flush = flush_keys
keys_of Read = service_keys
keys_of Write = service_keys

unfoldable pub service_in : Operation → Members → Option Taking
service_in operation table = do
  only_keys (keys_of operation) table
  spread ← spread_in table
  per_block ← duration_or_none key.PerBlock table
  Some (record { spread = spread; per_block = per_block })

-- a duration, or a table
abbrev pub service_by_kind : Operation → Data → Option Members → Option Taking
service_by_kind operation d (Some members) = service_in operation members
service_by_kind operation d None = duration_of d >>= (λ time. Some (record { spread = Always time; per_block = 0 }))

abbrev pub service_of : Operation → Data → Option Taking
service_of operation d = service_by_kind operation d (as_table d)

abbrev pub key_of : Operation → Key
key_of Read = key.Read
key_of Write = key.Write
key_of Flush = key.Flush

-- how large a share of a queue's commands needs a service of their operation: none where a list says what they do
abbrev pub needed : Coming → ℕ → ℕ
needed Replayed share = 0
needed (ByPoisson mean) share = share
needed (ByGap gap) share = share
needed (InBursts mean on off) share = share
needed (BehindOthers depth think) share = share

-- the queue's own service, or else the device's. An operation without a share may have none
abbrev pub service_by : Operation → ℕ → Option Data → Option Data → Option Taking
service_by operation share (Some d) _ = service_of operation d
service_by operation share None (Some d) = service_of operation d
service_by operation share None None = if share == 0 then Some (record { spread = Always 0; per_block = 0 }) else None

abbrev pub service_for : Operation → ℕ → (queue device : Members) → Option Taking
service_for operation share queue device = service_by operation share (value_in (key_of operation) queue) (value_in (key_of operation) device)

abbrev pub flush_for : ℕ → (queue device : Members) → Option Spread
flush_for share queue device = service_for Flush share queue device >>= (λ taking. Some taking.spread)

-- the services of a queue
unfoldable pub services_for : Coming → Shares → (queue device : Members) → Option Serving
services_for coming shares queue device = do
  read ← service_for Read (needed coming shares.read) queue device
  write ← service_for Write (needed coming shares.write) queue device
  flush ← flush_for (needed coming shares.flush) queue device
  Some (record { read = read; write = write; flush = flush })

-- what a device has of services has no fault, whether or not a queue needs it
abbrev pub optional_service : Operation → Option Data → Option (Unit {0})
optional_service operation None = Some tt
optional_service operation (Some d) = service_of operation d >>= (λ taking. Some tt)

abbrev pub checked_service : Operation → (device : Members) → Option (Unit {0})
checked_service operation device = optional_service operation (value_in (key_of operation) device)
