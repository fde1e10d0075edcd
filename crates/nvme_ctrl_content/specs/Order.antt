-- The ready completions of a controller are in the order in which they became ready (profile).
use Rattle.std.specs.Prelude.{◌≡◌, ℕ, ◌==◌, if◌then◌else◌, List, [], ◌∷◌, ◌++◌, map}
use Rattle.nvme_log.specs.declared.event.Event.TheVariants.{Post}
use Rattle.nvme_log.specs.Rules.{Past}
use Rattle.nvme_log.specs.declared.place.Place.{Place}
use Rattle.nvme_log.specs.Dispatches.{place_at}
use Rattle.nvme_ctrl_log.specs.Notes.{Notes, logged}
use Rattle.nvme_ctrl_log.specs.Ready.{ready_in}
use Rattle.nvme_ctrl_content.specs.Content.{Ready, Content}

-- the places whose completions were posted to a completion region, in order
abbrev pub posted_places : Past → ℕ → List Place
posted_places [] c = []
posted_places (Post x r i cqe ∷ past) c = if x == c then posted_places past c ++ place_at r i ∷ [] else posted_places past c
posted_places (e ∷ past) c = posted_places past c

abbrev pub ready_places : List Ready → List Place
ready_places ts = map (λ (t : Ready). t.place) ts

-- what became ready for a completion region is what was posted to it, and then what is ready, in this order
abbrev pub AreInOrder : Notes → (ℕ → List Ready) → Type 0
AreInOrder notes ready = (c : ℕ) → ready_in notes c ≡ posted_places (logged notes) c ++ ready_places (ready c)

abbrev pub HoldsOrder : Notes → Content → Type 0
HoldsOrder notes k = AreInOrder notes (λ (c : ℕ). (k.cq c).ready)
