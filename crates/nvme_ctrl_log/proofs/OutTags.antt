-- Tags that are out: the device has their commands and hasn't answered them.
use Rattle.std.proofs.Common.{◌≡◌, ℕ, ◌==◌, ◌&&◌, Bool, true, false, if◌then◌else◌, ◌∷◌, Option, Some, None, refl}
use Rattle.std.specs.Prelude.{is_none}
use Rattle.nvme_log.specs.declared.place.Place.{Place}
use Rattle.nvme_log.specs.declared.event.Event.{Event}
use Rattle.nvme_log.specs.declared.event.Event.TheVariants as event
use Rattle.nvme_log.specs.Answers.{Answer}
use Rattle.nvme_ctrl_log.specs.Notes.{Notes, Logged, Answered, Flagged}
use Rattle.nvme_ctrl_log.specs.declared.status_flags.StatusFlags.{StatusFlags}
use Rattle.nvme_ctrl_log.specs.Tags.{holder, answer_of, is_place, is_unanswered, is_out}

-- a command that was answered stays so
still_answered : (notes : Notes) (r i : ℕ) (answer : Answer) (o : Option Place) → is_unanswered notes o ≡ false → is_unanswered (Answered r i answer ∷ notes) o ≡ false
still_answered notes r i answer None h = refl
still_answered notes r i answer (Some p) h = by (r == p.region && i == p.index) where
  by : (b : Bool) → is_none (if b then Some answer else answer_of notes p.region p.index) ≡ false
  by true = refl
  by false = h

-- so does one whose completion is posted, and whose tag stands for none then
still_posted : (notes : Notes) (b : Bool) (o : Option Place) → is_unanswered notes o ≡ false → is_unanswered notes (if b then None else o) ≡ false
still_posted notes true o h = refl
still_posted notes false o h = h

-- an event makes no tag stand for a command
pub still_not_out-logged : (e : Event) (notes : Notes) (t : ℕ) → is_out notes t ≡ false → is_out (Logged e ∷ notes) t ≡ false
still_not_out-logged (event.Post c r i cqe) notes t h = still_posted notes (is_place r i (holder notes t)) (holder notes t) h
still_not_out-logged e notes t h = h

-- nor does an answer
pub still_not_out-answered : (r i : ℕ) (answer : Answer) (notes : Notes) (t : ℕ) → is_out notes t ≡ false → is_out (Answered r i answer ∷ notes) t ≡ false
still_not_out-answered r i answer notes t h = still_answered notes r i answer (holder notes t) h

-- nor do flags
pub still_not_out-flagged : (r i : ℕ) (flags : StatusFlags) (notes : Notes) (t : ℕ) → is_out notes t ≡ false → is_out (Flagged r i flags ∷ notes) t ≡ false
still_not_out-flagged r i flags notes t h = by (holder notes t) h where
  by : (o : Option Place) → is_unanswered notes o ≡ false → is_unanswered (Flagged r i flags ∷ notes) o ≡ false
  by None h = refl
  by (Some p) h = h
