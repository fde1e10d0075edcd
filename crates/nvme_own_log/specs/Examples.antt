-- Worked logs of a controller, as they show (profile).
use Rattle.std.specs.Prelude.{ℕ, Bool, true, false, [], ◌∷◌, Some}
use Rattle.nvme_entry.specs.Status.{StatusCode, success, aborted_by_deletion}
use Rattle.nvme_entry.specs.declared.admin.AdminCommand.TheVariants.{DeleteSq, CreateSq, CreateCq, GetFeatures, Other}
use Rattle.nvme_audit.specs.declared.event.Event.{Event}
use Rattle.nvme_audit.specs.declared.event.Event.TheVariants.{Tail, Head, Fetch, Post}
use Rattle.nvme_audit.specs.Lives.{Past}

-- a completion in a slot of a completion queue, of a command after three were fetched from its queue
abbrev pub told : (cq slot sq cid : ℕ) → StatusCode → Event
told cq slot sq cid status = Post cq (Some slot) (record { sq = sq; cid = cid; sqhd = Some 3; phase = Some true; status = status; dw0 = Some 0 })

-- a Read
abbrev pub read : (slot cid : ℕ) → Event
read slot cid = Fetch 1 (Some slot) cid Other

-- two Creates and a Delete of queue 1, and three Reads in it, two of which end with it: `deletion_noted`, by the rules `one_deletion`
abbrev pub deletion_shown : Past
deletion_shown =
    told 0 2 0 2 success
    ∷ told 1 2 1 0 success
    ∷ told 1 1 1 2 aborted_by_deletion
    ∷ told 1 0 1 1 aborted_by_deletion
    ∷ read 2 2
    ∷ read 1 1
    ∷ read 0 0
    ∷ Tail 1 3
    ∷ told 0 1 0 1 success
    ∷ told 0 0 0 0 success
    ∷ Fetch 0 (Some 2) 2 (DeleteSq 1)
    ∷ Fetch 0 (Some 1) 1 (CreateSq 1 7 0x2000 1 0 true)
    ∷ Fetch 0 (Some 0) 0 (CreateCq 1 63 0x9000 true)
    ∷ Tail 0 3
    ∷ []

-- Get Features of Arbitration, and its completion after four were fetched
abbrev pub asks : ℕ → Event
asks cid = Fetch 0 (Some cid) cid (GetFeatures 1)

abbrev pub tells : (slot cid : ℕ) → Bool → Event
tells slot cid phase = Post 0 (Some slot) (record { sq = 0; cid = cid; sqhd = Some 4; phase = Some phase; status = success; dw0 = Some 0x03010001 })

-- four of them pass a ring of two slots twice: `two_passes`, by the rules `two_slots`
abbrev pub passes_shown : Past
passes_shown =
    tells 1 3 false ∷ Head 0 1 ∷ tells 0 2 false ∷ Head 0 0 ∷ tells 1 1 true ∷ Head 0 1 ∷ tells 0 0 true
    ∷ asks 3 ∷ asks 2 ∷ asks 1 ∷ asks 0 ∷ Tail 0 4
    ∷ []
