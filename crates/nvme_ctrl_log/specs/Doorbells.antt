-- What the doorbells tell: how many commands the host submitted, and how many completions it consumed.
-- (PCIe Transport Specification, Submission Queue y Tail Doorbell, Completion Queue y Head Doorbell)
use Rattle.std.specs.Prelude.{ℕ, ◌+◌, ◌-◌, ◌%◌, ◌==◌, nat_le, if◌then◌else◌, [], ◌∷◌}
use Rattle.nvme_log.specs.Rules.{FrontRules, sq_regions_of, cq_regions_of, slots_at}
use Rattle.nvme_ctrl_log.specs.Notes.{Notes, Tail, Head}

-- how many slots it is from one slot on to another, round the ring
abbrev pub gap : (slots from to : ℕ) → ℕ
gap slots from to = if nat_le from to then to - from else to + slots - from

-- the slots of the ring on a submission region, and on a completion region
abbrev pub sq_slots : FrontRules → ℕ → ℕ
sq_slots rules r = slots_at (sq_regions_of rules) r

abbrev pub cq_slots : FrontRules → ℕ → ℕ
cq_slots rules c = slots_at (cq_regions_of rules) c

-- how many commands the host submitted to a region: each tail is that many slots further on
abbrev pub submitted : FrontRules → Notes → ℕ → ℕ
submitted rules [] r = 0
submitted rules (Tail region slot ∷ notes) r =
    if region == r then submitted rules notes r + gap (sq_slots rules r) (submitted rules notes r % sq_slots rules r) slot else submitted rules notes r
submitted rules (note ∷ notes) r = submitted rules notes r

-- how many completions the host consumed from a region
abbrev pub consumed : FrontRules → Notes → ℕ → ℕ
consumed rules [] c = 0
consumed rules (Head region slot ∷ notes) c =
    if region == c then consumed rules notes c + gap (cq_slots rules c) (consumed rules notes c % cq_slots rules c) slot else consumed rules notes c
consumed rules (note ∷ notes) c = consumed rules notes c
