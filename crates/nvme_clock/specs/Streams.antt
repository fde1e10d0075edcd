-- The streams of a seed: xoshiro256++, seeded by SplitMix64. Each queue's begins 2^192 words behind that of the queue before
-- it, and in it each purpose's 2^128 words behind the one before. (profile)
use Rattle.std.specs.Prelude.{ℕ, zero, suc, List}
use Rattle.rand_xoshiro.specs.SplitMix64.{splitmix_seed}
use Rattle.rand_xoshiro.specs.Xoshiro256.{jump, jump_polynomial, long_jump_polynomial, of_seed}
use Rattle.nvme_clock.specs.declared.streams.Purpose.{Purpose}
use Rattle.nvme_clock.specs.declared.streams.Purpose.TheVariants.{Arrivals, Services, Sizes, Offsets}

-- a state after n jumps by a polynomial
unfoldable pub jumps : List ℕ → ℕ → List ℕ → List ℕ
jumps polynomial zero state = state
jumps polynomial (suc n) state = jump polynomial (jumps polynomial n state)

unfoldable pub seeded : ℕ → List ℕ
seeded seed = of_seed (splitmix_seed 32 seed)

abbrev pub purpose_index : Purpose → ℕ
purpose_index Arrivals = 0
purpose_index Services = 1
purpose_index Sizes = 2
purpose_index Offsets = 3

abbrev pub stream_state : ℕ → ℕ → Purpose → List ℕ
stream_state seed queue purpose =
    jumps jump_polynomial (purpose_index purpose) (jumps long_jump_polynomial queue (seeded seed))
