-- What is drawn of a stream of 64-bit words is no longer than the longest service.
use Rattle.std.proofs.Common.{◌≡◌, ◌<◌, ◌≤◌, ℕ, zero, suc, ◌+◌, ◌-◌, ◌*◌, ◌/◌, ◌%◌, Bool, true, false, not, nat_lt, cond, min, max, List, [], ◌∷◌, length, slice_index, Option, Some, sym, ap, arith}
use Rattle.std.proofs.Math.Nat.{div-le_of_le-mul, mod-lt}
use Rattle.std.proofs.lemmas.Bool.Decides.{nat_tests}
use Rattle.std.proofs.lemmas.List.{get_or_default}
use Rattle.std.proofs.lemmas.Nat.{div_below, mul-le}
use Rattle.rand_core.specs.Stream.{Call, Stream, next_u64, u64_call}
use Rattle.rand_core.specs.Steps.{state_after, steps_u64_high, stream_of}
use Rattle.rand_xoshiro.specs.Xoshiro256.{plus_plus}
use Rattle.nvme_clock.specs.Draws.{accepted_below, exponential_from, part_of, quantile, run_behind, run_from, uniform, uniform_from}
use Rattle.nvme_clock.specs.Quantiles.{values_of}
use Rattle.nvme_clock.specs.Tables.{IsTable}
use Rattle.nvme_clock.proofs.Rising.{highest}
use Rattle.nvme_load.specs.Longest.{longest_by, longest_service, longest_time}
use Rattle.nvme_load.specs.Mixes.{operation, operation_at}
use Rattle.nvme_load.specs.Services.{service_by, service_of, time_of}
use Rattle.nvme_load.specs.Times.{fitting}
use Rattle.nvme_load.specs.declared.mix.Mix.{Mix}
use Rattle.nvme_load.specs.declared.mix.Operation.{Operation}
use Rattle.nvme_load.specs.declared.mix.Operation.TheVariants.{Read, Write, Flush}
use Rattle.nvme_load.specs.declared.services.Distribution.{Distribution}
use Rattle.nvme_load.specs.declared.services.Distribution.TheVariants.{Fixed, Exponential, TwoPoints, Quantiles}
use Rattle.nvme_load.specs.declared.services.Service.{Service}
use Rattle.nvme_load.specs.declared.services.Services.{Services}
use Rattle.nvme_simulation.specs.Asking.{words}
use Rattle.nvme_waits.specs.Longest.{share_of}

-- each word of a stream has 64 bits
HasWords : Stream → Type 0
HasWords s = (calls : List Call) → s.u64_after calls < 0x1_0000_0000_0000_0000

words_are : (state : List ℕ) → HasWords (words state)
unfolding HasWords stream_of
words_are state calls = let l : (plus_plus (state_after (steps_u64_high plus_plus) calls state)).0 < 0x1_0000_0000_0000_0000 = mod-lt _ (omega arith) in l

first_has : (s : Stream) → HasWords s → (next_u64 s).0 < 0x1_0000_0000_0000_0000
unfolding HasWords next_u64
first_has s has = has []

others_have : (s : Stream) → HasWords s → HasWords (next_u64 s).1
unfolding HasWords next_u64
others_have s has calls = has (u64_call ∷ calls)

part_within : (word whole : ℕ) → word < 0x1_0000_0000_0000_0000 → part_of word whole ≤ whole
part_within word whole few = div-le_of_le-mul 0x1_0000_0000_0000_0000 (mul-le word whole 0x1_0000_0000_0000_0000 whole (omega (arith, few)) (omega arith))

run_has : (turns : ℕ) (odd : Bool) (last : ℕ) (s : Stream) → HasWords s → HasWords (run_from turns odd last s).1
unfolding run_from
run_has zero odd last s has = has
run_has (suc turns) odd last s has = by (nat_lt (next_u64 s).0 last) (run_has turns (not odd) (next_u64 s).0 (next_u64 s).1 (others_have s has))
  where
    by : (b : Bool) → HasWords (run_from turns (not odd) (next_u64 s).0 (next_u64 s).1).1
        → HasWords (cond b (run_from turns (not odd) (next_u64 s).0 (next_u64 s).1) (odd, (next_u64 s).1)).1
    by true more = more
    by false more = others_have s has

exponential_within : (runs mean means : ℕ) (s : Stream) → HasWords s → (exponential_from runs mean means s).0 ≤ (means + runs) * mean
unfolding exponential_from
exponential_within zero mean means s has = omega arith
exponential_within (suc runs) mean means s has =
    let first = next_u64 s in
    let run = run_behind first.0 first.1 in
    by first.0 run.0 run.1 (first_has s has) (exponential_within runs mean (means + 1) run.1 (run_has 64 true first.0 first.1 (others_have s has)))
  where
    by : (word : ℕ) (odd : Bool) (left : Stream) → word < 0x1_0000_0000_0000_0000 → (exponential_from runs mean (means + 1) left).0 ≤ (means + 1 + runs) * mean
        → (cond odd (means * mean + part_of word mean, left) (exponential_from runs mean (means + 1) left)).0 ≤ (means + suc runs) * mean
    by word true left few more = let part = part_within word mean few in omega (arith, part)
    by word false left few more = omega (arith, more)

-- a word lies between two neighbours of a table
quantile_within : (values : List ℕ) (word : ℕ) → IsTable values → word < 0x1_0000_0000_0000_0000 → quantile values word ≤ slice_index values (length values - 1)
quantile_within values word table few =
    let steps = length values - 1 in
    let place = word * steps in
    let k = place / 0x1_0000_0000_0000_0000 in
    let some : 2 ≤ length values = table.long in
    let within : k < steps = div_below place 0x1_0000_0000_0000_0000 steps (omega arith) (omega (arith, few, some, mul-le word steps 0xffff_ffff_ffff_ffff steps (omega (arith, few)) (omega arith))) in
    highest values k (slice_index values k) (slice_index values (k + 1)) (part_of (place % 0x1_0000_0000_0000_0000) (slice_index values (k + 1) - slice_index values k)) table (omega (arith, within))
    (sym (get_or_default values k (slice_index values k) 0 (omega (arith, within)))) (sym (get_or_default values (k + 1) (slice_index values (k + 1)) 0 (omega (arith, within))))
    (part_within (place % 0x1_0000_0000_0000_0000) (slice_index values (k + 1) - slice_index values k) (mod-lt place (omega arith)))

-- a number that is drawn below another one
uniform_from_within : (turns n : ℕ) (s : Stream) → 0 < n → (uniform_from turns n s).0 < n
unfolding uniform_from
uniform_from_within zero n s some = mod-lt (next_u64 s).0 some
uniform_from_within (suc turns) n s some = by (nat_lt (next_u64 s).0 (accepted_below n)) (uniform_from_within turns n (next_u64 s).1 some)
  where
    by : (b : Bool) → (uniform_from turns n (next_u64 s).1).0 < n → (cond b ((next_u64 s).0 % n, (next_u64 s).1) (uniform_from turns n (next_u64 s).1)).0 < n
    by true more = mod-lt (next_u64 s).0 some
    by false more = more

uniform_within : (n : ℕ) (s : Stream) → 0 < n → (uniform n s).0 < n
uniform_within n s some = uniform_from_within 64 n s some

time_within : (d : Distribution) (s : Stream) → HasWords s → (time_of d s).0 ≤ longest_time d
time_within (Fixed time) s has = omega arith
time_within (Exponential mean) s has = let l = exponential_within 64 mean.picoseconds 0 s has in omega (arith, l)
time_within (TwoPoints points) s has = by (nat_lt (uniform points.out_of s).0 points.times)
  where
    by : (b : Bool) → cond b points.rare points.usual ≤ max points.usual points.rare
    by true = omega arith
    by false = omega arith
time_within (Quantiles table) s has = quantile_within (values_of table) (next_u64 s).0 table.table (first_has s has)

fits : (time sum : ℕ) → Some time ≡ fitting sum → time ≤ min sum 0xffff_ffff_ffff_ffff
fits time sum is = grind (arith, is)

service_within : (x : Service) (blocks time : ℕ) (s : Stream) → HasWords s → Some time ≡ (service_of x blocks s).0 → time ≤ longest_service x blocks
service_within x blocks time s has is =
    let drawn = time_within x.time s has in
    let l = fits time ((time_of x.time s).0 + x.per_block * blocks) is in
    omega (arith, l, drawn)

by_operation : (x : Services) (operation : Operation) (blocks time : ℕ) (s : Stream) → HasWords s → Some time ≡ (service_by x operation blocks s).0 → time ≤ longest_by x operation blocks
by_operation x Read blocks time s has is = service_within x.read blocks time s has is
by_operation x Write blocks time s has is = service_within x.write blocks time s has is
by_operation x Flush blocks time s has is = let drawn = time_within x.flush s has in let same : time ≡ (time_of x.flush s).0 = cc is in omega (arith, same, drawn)

-- so of the words of a generator
pub drawn_within : (x : Services) (operation : Operation) (blocks time : ℕ) (state : List ℕ) (left : Stream) → (Some time, left) ≡ service_by x operation blocks (words state)
    → time ≤ longest_by x operation blocks
drawn_within x operation blocks time state left is = by_operation x operation blocks time (words state) (words_are state) (ap (λ (o : Option ℕ × Stream). o.0) is)

-- an operation that is drawn has a share
pub drawn_has : (mix : Mix) (o : Operation) (s left : Stream) → (o, left) ≡ operation mix.read mix.write mix.flush s → 0 < share_of mix o
drawn_has mix o s left is = by o (ap (λ (x : Operation × Stream). x.0) is) (uniform_within (mix.read + mix.write + mix.flush) s mix.some)
  where
    by : (o : Operation) → o ≡ operation_at mix.read mix.write (uniform (mix.read + mix.write + mix.flush) s).0
        → (uniform (mix.read + mix.write + mix.flush) s).0 < mix.read + mix.write + mix.flush → 0 < share_of mix o
    by Read is l = grind (arith, nat_tests, is, l)
    by Write is l = grind (arith, nat_tests, is, l)
    by Flush is l = grind (arith, nat_tests, is, l)
