-- What is drawn from a stream of words of 64 bits, each uniform. (profile)
use Rattle.std.specs.Prelude.{◌≡◌, ◌<◌, ℕ, zero, suc, ◌+◌, ◌-◌, ◌*◌, ◌/◌, ◌%◌, Bool, true, not, nat_lt, if◌then◌else◌, List, length, slice_index}
use Rattle.rand_core.specs.Stream.{Stream, next_u64}

-- this part of a whole, where a word counts 2^64ths
abbrev pub part_of : ℕ → ℕ → ℕ
part_of word whole = word * whole / 0x1_0000_0000_0000_0000

-- the words below this are as many multiples of n as fit: each remainder has equally many of them
abbrev pub accepted_below : ℕ → ℕ
accepted_below n = 0xffff_ffff_ffff_ffff - 0xffff_ffff_ffff_ffff % n

-- the remainder of the first accepted word, or of the one behind so many that were not
unfoldable pub uniform_from : ℕ → ℕ → Stream → ℕ × Stream
uniform_from zero n s = ((next_u64 s).0 % n, (next_u64 s).1)
uniform_from (suc turns) n s =
    if nat_lt (next_u64 s).0 (accepted_below n) then ((next_u64 s).0 % n, (next_u64 s).1)
    else uniform_from turns n (next_u64 s).1

abbrev pub uniform : ℕ → Stream → ℕ × Stream
uniform n s = uniform_from 64 n s

-- n divides the accepted words into equally many of each remainder: those with r are i * n + r, for each i below the same bound
pub record IsFair (n : ℕ) : Type 0 where
  pub reached : (r i : ℕ) → r < n → i < 0xffff_ffff_ffff_ffff / n → (i * n + r < accepted_below n) × ((i * n + r) % n ≡ r)
  pub no_others : (word : ℕ) → word < accepted_below n → (word / n < 0xffff_ffff_ffff_ffff / n) × (word / n * n + word % n ≡ word)

-- each word is below the one before it: whether such a run is odd where it ends, or after so many more words
unfoldable pub run_from : ℕ → Bool → ℕ → Stream → Bool × Stream
run_from zero odd last s = (odd, s)
run_from (suc words) odd last s =
    if nat_lt (next_u64 s).0 last then run_from words (not odd) (next_u64 s).0 (next_u64 s).1
    else (odd, (next_u64 s).1)

-- whether the falling run that begins with this word is odd
abbrev pub run_behind : ℕ → Stream → Bool × Stream
run_behind first s = run_from 64 true first s

-- a mean for each even run, and of the first odd one the part that its first word says
unfoldable pub exponential_from : ℕ → ℕ → ℕ → Stream → ℕ × Stream
exponential_from zero mean means s = (means * mean, s)
exponential_from (suc runs) mean means s =
    let first = next_u64 s in
    let run = run_behind first.0 first.1 in
    if run.0 then (means * mean + part_of first.0 mean, run.1) else exponential_from runs mean (means + 1) run.1

abbrev pub exponential : ℕ → Stream → ℕ × Stream
exponential mean s = exponential_from 64 mean 0 s

-- one of two values, the second as many times out of so many
abbrev pub one_of_two : ℕ → ℕ → ℕ → ℕ → Stream → ℕ × Stream
one_of_two usual rare times out_of s = ((if nat_lt (uniform out_of s).0 times then rare else usual), (uniform out_of s).1)

-- a word as a place in a table of n + 1 quantiles: between which neighbours, and which part of the way from the lower one
abbrev pub quantile : List ℕ → ℕ → ℕ
quantile table word =
    let place = word * (length table - 1) in
    let k = place / 0x1_0000_0000_0000_0000 in
    slice_index table k + part_of (place % 0x1_0000_0000_0000_0000) (slice_index table (k + 1) - slice_index table k)

-- the quantile of the next word
abbrev pub drawn_from : List ℕ → Stream → ℕ × Stream
drawn_from table s = (quantile table (next_u64 s).0, (next_u64 s).1)
