-- The flags of completions: in slots, and in the log.
use Rattle.std.proofs.Common.{◌≡◌, ◌==◌, Bool, true, false, refl}
use Rattle.nvme_ctrl_log.specs.declared.status_flags.StatusFlags.{StatusFlags}
use Rattle.nvme_slots.specs.Pool.{bit}

-- a mark that is put into a slot is there
bit_is : (mark : Bool) → (bit mark == 1) ≡ mark
bit_is true = refl
bit_is false = refl

pub put_flags : (m : StatusFlags) → record { more = bit m.more == 1; do_not_retry = bit m.do_not_retry == 1 } ≡ m
put_flags m = λ j. record { more = bit_is m.more j; do_not_retry = bit_is m.do_not_retry j }
