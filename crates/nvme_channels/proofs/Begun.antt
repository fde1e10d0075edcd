-- What a command makes of its channel.
use Rattle.std.proofs.Common.{◌≡◌, ℕ, ◌+◌, ◌≤◌, Bool, true, false, nat_lt, cond, Ok, Err, refl, arith}
use Rattle.std.proofs.lemmas.Bool.Decides.{nat_tests}
use Rattle.nvme_channels.specs.declared.channel.Channel.{Channel}
use Rattle.nvme_channels.specs.declared.channel.StepFault.TheVariants.{Early, TooLate}
use Rattle.nvme_channels.specs.Channel.{begun}
use Rattle.nvme_channels.specs.Steps.{Outcome}

pub either : (P : Outcome → Type 0) (b : Bool) (x y : Outcome) → (b ≡ true → P x) → (b ≡ false → P y) → P (cond b x y)
either P true x y f g = f refl
either P false x y f g = g refl

-- it runs, from the end of the last one on or later, as long as its service
pub begun_is : (now service : ℕ) (c b : Channel) → begun now service c ≡ Ok b
    → (b.running ≡ true) × (c.ends ≤ now) × (b.ends ≡ now + service) × (b.busy ≡ c.busy + service)
begun_is now service c b e = go (nat_lt now c.ends) refl (nat_lt (now + service) 0x1_0000_0000_0000_0000) e
  where
    go : (u : Bool) → nat_lt now c.ends ≡ u → (v : Bool)
        → cond u (Err Early) (cond v (Ok (record { running = true; paused = c.paused; ends = now + service; busy = c.busy + service })) (Err TooLate)) ≡ Ok b
        → (b.running ≡ true) × (c.ends ≤ now) × (b.ends ≡ now + service) × (b.busy ≡ c.busy + service)
    go true t v e = cc
    go false t true e =
        let same : record { running = true; paused = c.paused; ends = now + service; busy = c.busy + service } ≡ b = cc in
        let late : c.ends ≤ now = grind (arith, nat_tests) in
        rw (← same) (refl, late, refl, refl)
    go false t false e = cc
