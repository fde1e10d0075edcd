-- Controllers that note nothing that arbitration goes by.
use Rattle.std.proofs.Common.{◌≡◌, ◌≢◌, ◌∙◌, ◌++◌, ◌∷◌, [], ℕ, Bool, true, nat_lt, List, Option, Some, None, refl, sym, subst, arith}
use Rattle.std.specs.Prelude.{IfSome}
use Rattle.std.proofs.lemmas.Bool.{lt-ltb}
use Rattle.std.proofs.lemmas.List.{append_assoc}
use Rattle.std.proofs.lemmas.List.Elements.{All-append, All-cons, All-nil}
use Rattle.nvme_log.specs.Queues.{Queue, open_sq}
use Rattle.nvme_log.specs.Rules.{FrontRules}
use Rattle.nvme_log.specs.Answers.{Answer}
use Rattle.nvme_entry.specs.declared.submission.Sqe.{Sqe}
use Rattle.nvme_ctrl_log.specs.Notes.{Note, Notes, logged}
use Rattle.nvme_ctrl_log.specs.declared.status_flags.StatusFlags.{StatusFlags}
use Rattle.nvme_ctrl.specs.Calls.{HasAnswered, HasFetched}
use Rattle.nvme_ctrl.specs.Standing.{Stands}
use Rattle.nvme_ctrl.specs.declared.state.Controller.{Controller}
use Rattle.nvme_slots.specs.declared.slot.Slot.{Slot}
use Rattle.nvme_simulation.specs.Fronts.{IsFront, StaysFront}
use Rattle.nvme_simulation.specs.Quiet.{AreQuiet, GoesFront, NotesAs, Quietly, StandsBehind, is_quiet}
use Rattle.nvme_simulation.specs.declared.agenda.Event.{Event}
use Rattle.nvme_simulation.specs.declared.front.Front.{Front}
use Rattle.nvme_simulation.specs.declared.happening.Happening.{Happening}
use Rattle.nvme_simulation.specs.declared.happening.Happening.TheVariants.{Came, Picked, Settled, Finished, Paused, Resumed, Over}
use Rattle.nvme_simulation.specs.Plans.{cause}

-- ---- a call
module _ (rules : FrontRules) (late : Bool) (notes : Notes) (c : Controller) (slots : List Slot) where
  pub behind_none : Stands rules late notes c slots → StandsBehind rules late notes c slots
  behind_none s = record { later = []; quiet = All-nil (λ (note : Note). is_quiet note ≡ true); stands = s }

  pub behind_one : (note : Note) → is_quiet note ≡ true → Stands rules late (note ∷ notes) c slots → StandsBehind rules late notes c slots
  behind_one note quiet s = record {
    later = note ∷ [];
    quiet = All-cons (λ (note : Note). is_quiet note ≡ true) note [] quiet (All-nil (λ (note : Note). is_quiet note ≡ true));
    stands = s;
  }

  pub behind_more : (later : Notes) → AreQuiet later → StandsBehind rules late (later ++ notes) c slots → StandsBehind rules late notes c slots
  behind_more later quiet b = record {
    later = b.later ++ later;
    quiet = All-append (λ (note : Note). is_quiet note ≡ true) b.later later b.quiet quiet;
    stands = subst (λ (ns : Notes). Stands rules late ns c slots) (sym (append_assoc b.later later notes)) b.stands;
  }

-- one that changed nothing
pub behind_same : (rules : FrontRules) (late : Bool) (notes : Notes) (before after : Controller) (old slots : List Slot) → (after ≡ before) × (slots ≡ old)
    → Stands rules late notes before old → StandsBehind rules late notes after slots
behind_same rules late notes before after old slots same s =
    behind_none rules late notes after slots
    (subst (λ (c : Controller). Stands rules late notes c slots) (sym same.0) (subst (λ (xs : List Slot). Stands rules late notes before xs) (sym same.1) s))

-- one that changed nothing where it told none
pub behind_told : {R : Type 0} (rules : FrontRules) (late : Bool) (notes : Notes) (before after : Controller) (old slots : List Slot) (P : R → Type 0) (o : Option R)
    → (o ≡ None → (after ≡ before) × (slots ≡ old)) → IfSome o P → ((x : R) → P x → StandsBehind rules late notes after slots)
    → Stands rules late notes before old → StandsBehind rules late notes after slots
behind_told rules late notes before after old slots P None same h f s = behind_same rules late notes before after old slots (same refl) s
behind_told rules late notes before after old slots P (Some x) same h f s = f x h

-- another open queue than the admin queue is on another region
pub io_region : (rules : FrontRules) (late : Bool) (notes : Notes) (c : Controller) (slots : List Slot) (qid : ℕ) (queue : Queue) → Stands rules late notes c slots
    → open_sq (logged notes) qid ≡ Some queue → qid ≢ 0 → queue.region ≢ 0
io_region rules late notes c slots qid queue s is io zero =
    let ids = s.numbers.sqs.ids in
    let its : s.content.sq_id queue.region ≡ Some qid = ids.ids_are qid queue.region (s.holds.lives.sqs qid queue is) in
    let admin : s.content.sq_id 0 ≡ Some 0 = ids.ids_are 0 0 ids.admin in
    io (cc (its, admin, zero))

some_is : (r : ℕ) → r ≢ 0 → nat_lt 0 r ≡ true
some_is r other = lt-ltb 0 r (omega (arith, other))

-- a command that is read of another queue than the admin queue
pub behind_fetch : (rules : FrontRules) (late : Bool) (notes : Notes) (c : Controller) (slots : List Slot) (qid : ℕ) (entry : Sqe) (cookie : ℕ) → qid ≢ 0
    → HasFetched rules late notes qid entry cookie c slots → StandsBehind rules late notes c slots
behind_fetch rules late notes c slots qid entry cookie io h =
    let first = behind_one rules late _ c slots _ refl h.stands in
    let other : h.may.queue.region ≢ 0 = io_region rules late _ c slots qid h.may.queue h.stands h.may.is_open io in
    behind_more rules late notes c slots (_ ∷ [])
    (All-cons (λ (note : Note). is_quiet note ≡ true) _ [] (some_is h.may.queue.region other)
    (All-nil (λ (note : Note). is_quiet note ≡ true))) first

pub behind_answer : (rules : FrontRules) (late : Bool) (notes : Notes) (c : Controller) (slots : List Slot) (tag : ℕ) (answer : Answer) (flags : StatusFlags)
    → HasAnswered rules late notes tag answer flags c slots → StandsBehind rules late notes c slots
behind_answer rules late notes c slots tag answer flags h =
    let first = behind_one rules late _ c slots _ refl h.stands in
    behind_more rules late notes c slots (_ ∷ [])
    (All-cons (λ (note : Note). is_quiet note ≡ true) _ [] refl (All-nil (λ (note : Note). is_quiet note ≡ true))) first

-- ---- fronts
pub quiet_self : (f : Front) → Quietly f f
quiet_self f rules late notes s = behind_none rules late notes f.controller f.pool.items s

pub quiet_then : (a b c : Front) → Quietly a b → Quietly b c → Quietly a c
quiet_then a b c first second rules late notes s =
    let one = first rules late notes s in
    behind_more rules late notes c.controller c.pool.items one.later one.quiet (second rules late (one.later ++ notes) one.stands)

pub front_by : (a b : Front) → StaysFront a b → Quietly a b → GoesFront a b
front_by a b stays quiet = record { is = stays.is; depths = stays.depths; arbitrates = stays.arbitrates; quiet = quiet }

pub stays_front : (a b : Front) → GoesFront a b → StaysFront a b
stays_front a b goes = record { is = goes.is; depths = goes.depths; arbitrates = goes.arbitrates }

pub front_rests : (f : Front) → IsFront f → GoesFront f f
front_rests f is = record { is = is; depths = refl; arbitrates = λ m s a. a; quiet = quiet_self f }

pub front_goes : (a b c : Front) → GoesFront a b → GoesFront b c → GoesFront a c
front_goes a b c first second = record {
  is = second.is;
  depths = second.depths ∙ first.depths;
  arbitrates = λ m s it. second.arbitrates m s (first.arbitrates m s it);
  quiet = quiet_then a b c first.quiet second.quiet;
}

-- ---- what a step notes
-- what an event makes happen is no pick
pub event_notes : (event : Event) (h : Happening) (a b : Front) → cause h ≡ Some event → Quietly a b → NotesAs h a b
event_notes event (Picked p) a b is quiet = absurd (cc is)
event_notes event Settled a b is quiet = quiet
event_notes event (Came queue) a b is quiet = quiet
event_notes event (Finished command counts) a b is quiet = quiet
event_notes event (Paused channel) a b is quiet = quiet
event_notes event (Resumed channel) a b is quiet = quiet
event_notes event Over a b is quiet = quiet

pub over_notes : (h : Happening) (a b : Front) → h ≡ Over → Quietly a b → NotesAs h a b
over_notes h a b is quiet = subst (λ (x : Happening). NotesAs x a b) (sym is) quiet
