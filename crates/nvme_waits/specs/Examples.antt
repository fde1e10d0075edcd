-- Worked examples. (profile)
use Rattle.std.specs.Prelude.{◌≡◌, ℕ, [], ◌∷◌, Option, Some, None, Ok, Err, codes}
use Rattle.nvme_cells.specs.Tables.{row_text}
use Rattle.std.proofs.Common.{lit<, lit≤}
use Rattle.nvme_channels.specs.declared.placement.Placement.{Placement}
use Rattle.nvme_channels.specs.declared.placement.Placement.TheVariants.{Pool, Striped}
use Rattle.nvme_channels.specs.declared.placement.Stripe.{Stripe}
use Rattle.nvme_model.specs.declared.device.Device.{Device}
use Rattle.nvme_model.specs.declared.device.Pauses.{Pauses}
use Rattle.nvme_waits.specs.declared.bounds.NoBound.TheVariants as reason
use Rattle.nvme_waits.specs.Bounds.{time_of}
use Rattle.nvme_waits.specs.Longest.{greatest_by}
use Rattle.nvme_waits.specs.Texts.{queue_row, reason_row}
use Rattle.nvme_arbiter.specs.declared.settings.Class.TheVariants.{Low}

-- four channels and a depth of 16
abbrev pub device : Placement → Option Pauses → Device
device placement pauses = record { channels = 4; depth = 16; placement = placement; pauses = pauses; some = lit< tt; at_most = lit≤ tt; has = lit< tt; few = lit≤ tt }

-- four channels, of which a depth of 2 lets two run
abbrev pub shallow : Device
shallow = record { channels = 4; depth = 2; placement = Pool; pauses = None; some = lit< tt; at_most = lit≤ tt; has = lit< tt; few = lit≤ tt }

abbrev pub stripe : Stripe
stripe = record { blocks = 8; some = lit< tt }

abbrev pub pauses : Pauses
pauses = record { every = 1_000; length = 100; some = lit< tt; apart = lit< tt }

-- 24 commands of others before one, each of 80 us at most
pub record BoundExamples : Type 0 where
  pub four_channels : time_of (device Pool None) (Some 24) 80 ≡ Ok 560
  pub depth_of_two : time_of shallow (Some 24) 80 ≡ Ok 1_040
  pub none_before : time_of shallow (Some 0) 80 ≡ Ok 80
  pub urgent : time_of (device Pool None) None 80 ≡ Err reason.Urgent
  pub striped : time_of (device (Striped stripe) None) (Some 24) 80 ≡ Err reason.Striped
  pub pausing : time_of (device Pool (Some pauses)) (Some 24) 80 ≡ Err reason.Pauses
  pub greatest : greatest_by (λ (n : ℕ). n) (3 ∷ 7 ∷ 5 ∷ []) ≡ 7
  pub greatest_of_none : greatest_by (λ (n : ℕ). n) [] ≡ 0

pub record TextExamples : Type 0 where
  pub line : row_text (queue_row 0 (record { class = Low; before = Some 24; time = Err reason.Pauses }) (Some 1_500_000)) ≡ codes "q1    low             1.500            -            24"
  pub why : row_text (reason_row (Err reason.Pauses)) ≡ codes "  no bound: none is told of devices that pause"
