-- The picks of a stretch of steps, in the history of arbitration.
use Rattle.std.proofs.Common.{◌≡◌, ◌++◌, ◌∷◌, [], true, refl}
use Rattle.std.proofs.lemmas.List.Elements.{All-head, All-tail}
use Rattle.nvme_arbiter.specs.History.{Picked}
use Rattle.nvme_arbiter.specs.declared.pick.Pick.{Pick}
use Rattle.nvme_log.specs.Histories.{arbitration_of}
use Rattle.nvme_log.specs.declared.event.Event.TheVariants as event
use Rattle.nvme_ctrl_log.specs.Notes.{Note, Notes, Logged, logged}
use Rattle.nvme_ctrl_log.specs.Observation.{observed_of}
use Rattle.nvme_ctrl_log.specs.Steps.{picked_notes}
use Rattle.nvme_simulation.specs.Quiet.{AreQuiet, is_quiet}

-- what the controller notes between picks changes none of it
pub quiet_history : (later notes : Notes) → AreQuiet later → arbitration_of (logged (later ++ notes)) ≡ arbitration_of (logged notes)
quiet_history [] notes quiet = refl
quiet_history (note ∷ later) notes quiet =
    by note (All-head (λ (note : Note). is_quiet note ≡ true) note later quiet) (quiet_history later notes (All-tail (λ (note : Note). is_quiet note ≡ true) note later quiet))
  where
    by : (note : Note) → is_quiet note ≡ true → arbitration_of (logged (later ++ notes)) ≡ arbitration_of (logged notes)
        → arbitration_of (logged (note ∷ (later ++ notes))) ≡ arbitration_of (logged notes)
    by (Logged (event.Pick seen pick)) q rest = absurd (cc q)
    by (Logged (event.SetArbitration settings)) q rest = absurd (cc q)
    by (Logged e) q rest = rest
    by note q rest = rest

-- a pick is the newest event
pub pick_history : (later notes : Notes) (pick : Pick) → AreQuiet later
    → arbitration_of (logged (later ++ picked_notes notes pick)) ≡ Picked (observed_of notes) pick ∷ arbitration_of (logged notes)
pick_history later notes pick quiet = quiet_history later (picked_notes notes pick) quiet
