-- A controller and its slots after a call that wrote them.
use Rattle.std.proofs.Common.{◌≡◌, ℕ, List, Option, Some, None, length, refl, ap, sym, subst, ◌∙◌}
use Rattle.std.specs.Prelude.{IfSome, Vec}
use Rattle.std.specs.Vec.{with_items}
use Rattle.std.proofs.lemmas.List.{with_items_is}
use Rattle.nvme_admin.specs.History.{Placing}
use Rattle.nvme_admin.specs.declared.verdict.Verdict.{Verdict}
use Rattle.nvme_admin.specs.declared.verdict.Verdict.TheVariants as verdict
use Rattle.nvme_arbiter.specs.Settings.{ArbitrationFields}
use Rattle.nvme_arbiter.specs.declared.settings.Mechanism.{Mechanism}
use Rattle.nvme_entry.specs.declared.submission.Sqe.{Sqe}
use Rattle.nvme_log.specs.Rules.{FrontRules}
use Rattle.nvme_log.specs.Answers.{Answer}
use Rattle.nvme_ctrl.specs.Calls.{HasAnswered, HasFetched}
use Rattle.nvme_ctrl_log.specs.Making.{placed_by}
use Rattle.nvme_ctrl_log.specs.Notes.{Notes}
use Rattle.nvme_ctrl.specs.Standing.{Stands}
use Rattle.nvme_ctrl.specs.Steps.{HasStepped}
use Rattle.nvme_ctrl_log.specs.declared.status_flags.StatusFlags.{StatusFlags}
use Rattle.nvme_ctrl.specs.declared.picks.Step.{Step}
use Rattle.nvme_ctrl.specs.declared.picks.Step.TheVariants.{Idle, Busy, NoRoom, Picked, Passed, Done}
use Rattle.nvme_slots.specs.declared.slot.Slot.{Slot}
use Rattle.nvme_ctrl.specs.declared.state.Controller.{Controller}
use Rattle.nvme_simulation.specs.Fronts.{Arbitrates}

-- what holds of what was written holds of the pool, where as many slots were written as there are
pub at_pool : {Z : Type 0} (P : List Slot → Type 0) (pool : Vec Slot Z) (old slots : List Slot) → old ≡ pool.items → length slots ≡ length old
    → P slots → P (with_items pool slots).items
at_pool P pool old slots value size is =
    subst P (sym (with_items_is pool slots (size ∙ ap (λ (xs : List Slot). length xs) value ∙ sym pool.ok.0))) is

-- a controller stands at more notes
pub again : (mechanism : Mechanism) (settings : ArbitrationFields) (before after : Controller) (old slots : List Slot)
    (a : Arbitrates mechanism settings before old) (notes : Notes) → Stands a.rules a.late notes after slots → Arbitrates mechanism settings after slots
again mechanism settings before after old slots a notes s =
    record { rules = a.rules; late = a.late; notes = notes; stands = s; in_time = a.in_time; mechanism_is = a.mechanism_is; settings_are = a.settings_are }

-- an admin command leaves the mechanism and the first settings
pub placed_mechanism : (p : Option Placing) (v : Verdict) (e : Sqe) (rules : FrontRules) → (placed_by p v e rules).mechanism ≡ rules.mechanism
placed_mechanism None v e rules = refl
placed_mechanism (Some p) (verdict.OpenSq qid region cqid class) e rules = refl
placed_mechanism (Some p) (verdict.OpenCq qid region) e rules = refl
placed_mechanism (Some p) v e rules = refl

pub placed_settings : (p : Option Placing) (v : Verdict) (e : Sqe) (rules : FrontRules) → (placed_by p v e rules).start.settings ≡ rules.start.settings
placed_settings None v e rules = refl
placed_settings (Some p) (verdict.OpenSq qid region cqid class) e rules = refl
placed_settings (Some p) (verdict.OpenCq qid region) e rules = refl
placed_settings (Some p) v e rules = refl

pub stepped : (mechanism : Mechanism) (settings : ArbitrationFields) (before after : Controller) (old slots : List Slot)
    (a : Arbitrates mechanism settings before old) (room : ℕ) (step : Step) → HasStepped a.rules a.late a.notes room step after slots
    → Arbitrates mechanism settings after slots
stepped mechanism settings before after old slots a room Idle h = again mechanism settings before after old slots a _ h.0
stepped mechanism settings before after old slots a room Busy h = again mechanism settings before after old slots a _ h.0
stepped mechanism settings before after old slots a room NoRoom h = again mechanism settings before after old slots a _ h.0
stepped mechanism settings before after old slots a room (Picked pick) h = again mechanism settings before after old slots a _ h.1
stepped mechanism settings before after old slots a room (Passed pick) h = again mechanism settings before after old slots a _ h.stands
stepped mechanism settings before after old slots a room (Done effect entry) h = record {
  rules = _;
  late = a.late;
  notes = _;
  stands = h.carried_out.stands;
  in_time = a.in_time;
  mechanism_is = placed_mechanism _ h.verdict entry a.rules ∙ a.mechanism_is;
  settings_are = placed_settings _ h.verdict entry a.rules ∙ a.settings_are;
}

-- a call that changed nothing
pub unchanged : (mechanism : Mechanism) (settings : ArbitrationFields) (before after : Controller) (old slots : List Slot)
    → (after ≡ before) × (slots ≡ old) → Arbitrates mechanism settings before old → Arbitrates mechanism settings after slots
unchanged mechanism settings before after old slots same a =
    subst (λ (c : Controller). Arbitrates mechanism settings c slots) (sym same.0) (subst (λ (xs : List Slot). Arbitrates mechanism settings before xs) (sym same.1) a)

-- a call that changed nothing where it told none
pub told : {R : Type 0} (mechanism : Mechanism) (settings : ArbitrationFields) (before after : Controller) (old slots : List Slot) (P : R → Type 0) (o : Option R)
    → (o ≡ None → (after ≡ before) × (slots ≡ old)) → IfSome o P → ((x : R) → P x → Arbitrates mechanism settings after slots)
    → Arbitrates mechanism settings before old → Arbitrates mechanism settings after slots
told mechanism settings before after old slots P None same h f a = unchanged mechanism settings before after old slots (same refl) a
told mechanism settings before after old slots P (Some x) same h f a = f x h

pub fetched : (mechanism : Mechanism) (settings : ArbitrationFields) (before after : Controller) (old slots : List Slot) (a : Arbitrates mechanism settings before old)
    (qid : ℕ) (entry : Sqe) (cookie : ℕ) → HasFetched a.rules a.late a.notes qid entry cookie after slots → Arbitrates mechanism settings after slots
fetched mechanism settings before after old slots a qid entry cookie h = again mechanism settings before after old slots a _ h.stands

pub answered : (mechanism : Mechanism) (settings : ArbitrationFields) (before after : Controller) (old slots : List Slot) (a : Arbitrates mechanism settings before old)
    (tag : ℕ) (answer : Answer) (flags : StatusFlags) → HasAnswered a.rules a.late a.notes tag answer flags after slots → Arbitrates mechanism settings after slots
answered mechanism settings before after old slots a tag answer flags h = again mechanism settings before after old slots a _ h.stands
