-- What open queues ask for and what the channels of a device can do, in so many parts of a channel, each rounded down. (profile)
use Rattle.std.specs.Prelude.{ℕ, ◌+◌, ◌-◌, ◌*◌, ◌/◌, min, List, [], ◌∷◌, length, drop, sum, sum_by, Option, Some, None}
use Rattle.std.specs.List.{filter_map, zip}
use Rattle.nvme_model_form.specs.Views.{Asking, Coming, ByPoisson, ByGap, InBursts, BehindOthers, Replayed, Resting, Running, Spread, Always, Exponentially, OneOfTwo, ByQuantiles, Taking}

-- reckoned in 128 bits: a greater number is taken for the greatest of these. Times have 64 bits, so no mean comes so far
abbrev pub cut_off : ℕ → ℕ
cut_off n = min n 0xffff_ffff_ffff_ffff_ffff_ffff_ffff_ffff

-- of a number, this part of a whole
abbrev pub part_of : (number part whole : ℕ) → ℕ
part_of number part whole = cut_off (number * part) / whole

-- ---- mean times

-- each step from a quantile to the next one counts with the mean of the two
abbrev pub mean_between : List ℕ → ℕ
mean_between times = sum_by (λ ends. ends.0 + ends.1) (zip times (drop 1 times)) / (2 * (length times - 1))

abbrev pub mean_of : Spread → ℕ
mean_of (Always time) = time
mean_of (Exponentially mean) = mean
mean_of (OneOfTwo usual rare times out_of) = (usual * (out_of - times) + rare * min times out_of) / out_of
mean_of (ByQuantiles times) = mean_between times

-- of a command of so many blocks
abbrev pub mean_taken : Taking → (blocks : ℕ) → ℕ
mean_taken taking blocks = mean_of taking.spread + taking.per_block * blocks

-- of the commands of a queue, each operation by its share. A flush has no blocks
abbrev pub mean_service : Asking → ℕ
mean_service queue =
    (mean_taken queue.read queue.blocks * queue.shares.read + mean_taken queue.write queue.blocks * queue.shares.write + mean_of queue.flush * queue.shares.flush)
    / (queue.shares.read + queue.shares.write + queue.shares.flush)

-- ---- what open queues ask for

-- the mean time that a command runs, by the mean gap between two. In bursts that is so while it is on, which is a part of the time. A queue isn't open whose
-- commands wait for completions, or come by a list
abbrev pub asked_by : (parts service : ℕ) → Coming → Option ℕ
asked_by parts service (ByPoisson mean) = Some (part_of service parts mean)
asked_by parts service (ByGap gap) = Some (part_of service parts gap)
asked_by parts service (InBursts mean on off) = Some (part_of (part_of service parts mean) on (on + off))
asked_by parts service (BehindOthers depth think) = None
asked_by parts service Replayed = None

abbrev pub offered_by : (parts : ℕ) → Asking → Option ℕ
offered_by parts queue = asked_by parts (mean_service queue) queue.coming

-- the sum of numbers, if there are any
abbrev pub total_of : List ℕ → Option ℕ
total_of [] = None
total_of (first ∷ others) = Some (cut_off (sum (first ∷ others)))

-- all open queues together. None where no queue is open
abbrev pub offered_in : (parts : ℕ) → List Asking → Option ℕ
offered_in parts queues = total_of (filter_map (offered_by parts) queues)

-- ---- what a device can do

-- for the part of the time in which channels don't pause
abbrev pub unpaused : ℕ → Option Resting → ℕ
unpaused number None = number
unpaused number (Some pauses) = part_of number (pauses.every - pauses.length) pauses.every

abbrev pub capacity_of : (parts : ℕ) → Running → ℕ
capacity_of parts device = unpaused (cut_off (device.channels * parts)) device.resting
