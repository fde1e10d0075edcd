-- One turn more of a jump or a draw.
use Rattle.std.proofs.Common.{◌≡◌, ◌∙◌, ℕ, suc, ◌+◌, ◌-◌, ◌*◌, ◌%◌, ◌<◌, Bool, true, false, not, nat_lt, List, ap, refl, arith}
use Rattle.rand_core.specs.Stream.{Stream, next_u64}
use Rattle.rand_xoshiro.specs.Xoshiro256.{jump}
use Rattle.nvme_clock.specs.Draws.{accepted_below, exponential_from, part_of, run_behind, run_from, uniform_from}
use Rattle.nvme_clock.specs.Streams.{jumps}

-- a jump more
pub jumps_more : (polynomial : List ℕ) (n : ℕ) (start before after : List ℕ) → before ≡ jumps polynomial n start
    → after ≡ jump polynomial before → after ≡ jumps polynomial (n + 1) start
unfolding jumps
jumps_more polynomial n start before after so_far more =
    let e : n + 1 ≡ suc n = omega arith in rw e (more ∙ ap (λ (v : List ℕ). jump polynomial v) so_far)

-- a word that is accepted, and one that is not
pub uniform_hit : (turn n w : ℕ) (s t : Stream) → turn < 64 → (w, t) ≡ next_u64 s → nat_lt w (accepted_below n) ≡ true
    → (w % n, t) ≡ uniform_from (64 - turn) n s
unfolding uniform_from
uniform_hit turn n w s t l drawn hit = let e : 64 - turn ≡ suc (64 - (turn + 1)) = omega arith in rw (e, ← drawn, hit) refl

pub uniform_miss : (turn n w : ℕ) (s t : Stream) → turn < 64 → (w, t) ≡ next_u64 s → nat_lt w (accepted_below n) ≡ false
    → uniform_from (64 - (turn + 1)) n t ≡ uniform_from (64 - turn) n s
unfolding uniform_from
uniform_miss turn n w s t l drawn miss = let e : 64 - turn ≡ suc (64 - (turn + 1)) = omega arith in rw (e, ← drawn, miss) refl

pub uniform_last : (n w : ℕ) (s t : Stream) → (w, t) ≡ next_u64 s → (w % n, t) ≡ uniform_from 0 n s
unfolding uniform_from
uniform_last n w s t drawn = rw (← drawn) refl

-- a word that falls, and one that ends the run
pub run_falls : (turn last w : ℕ) (odd : Bool) (s t : Stream) → turn < 64 → (w, t) ≡ next_u64 s → nat_lt w last ≡ true
    → run_from (64 - (turn + 1)) (not odd) w t ≡ run_from (64 - turn) odd last s
unfolding run_from
run_falls turn last w odd s t l drawn falls = let e : 64 - turn ≡ suc (64 - (turn + 1)) = omega arith in rw (e, ← drawn, falls) refl

pub run_ends : (turn last w : ℕ) (odd : Bool) (s t : Stream) → turn < 64 → (w, t) ≡ next_u64 s → nat_lt w last ≡ false
    → (odd, t) ≡ run_from (64 - turn) odd last s
unfolding run_from
run_ends turn last w odd s t l drawn ends = let e : 64 - turn ≡ suc (64 - (turn + 1)) = omega arith in rw (e, ← drawn, ends) refl

pub run_full : (odd : Bool) (last : ℕ) (s : Stream) → (odd, s) ≡ run_from 0 odd last s
unfolding run_from
run_full odd last s = refl

-- an odd run, and an even one
pub exponential_odd : (turn mean w : ℕ) (odd : Bool) (s t u : Stream) → turn < 64 → (w, t) ≡ next_u64 s → (odd, u) ≡ run_behind w t → odd ≡ true
    → (turn * mean + part_of w mean, u) ≡ exponential_from (64 - turn) mean turn s
unfolding exponential_from
exponential_odd turn mean w odd s t u l drawn run is = let e : 64 - turn ≡ suc (64 - (turn + 1)) = omega arith in rw (e, ← drawn, ← run, is) refl

pub exponential_even : (turn mean w : ℕ) (odd : Bool) (s t u : Stream) → turn < 64 → (w, t) ≡ next_u64 s → (odd, u) ≡ run_behind w t → odd ≡ false
    → exponential_from (64 - (turn + 1)) mean (turn + 1) u ≡ exponential_from (64 - turn) mean turn s
unfolding exponential_from
exponential_even turn mean w odd s t u l drawn run is = let e : 64 - turn ≡ suc (64 - (turn + 1)) = omega arith in rw (e, ← drawn, ← run, is) refl

pub exponential_full : (mean means : ℕ) (s : Stream) → (means * mean, s) ≡ exponential_from 0 mean means s
unfolding exponential_from
exponential_full mean means s = refl
