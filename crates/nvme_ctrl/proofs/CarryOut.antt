-- The effect of each admin command, carried out.
use Rattle.std.proofs.Common.{◌≡◌, ℕ, ◌<◌, Bool, List, [], ◌∷◌, Some, refl, sym, ap, ◌∙◌, subst, arith, inr, eq-eqb}
use Rattle.nvme_arbiter.specs.Settings.{ArbitrationFields}
use Rattle.nvme_arbiter.specs.History.{History, Changed}
use Rattle.nvme_arbiter.specs.Board.{BoardView, BoardStandsAt}
use Rattle.nvme_arbiter.specs.Layout.{board_of}
use Rattle.nvme_arbiter.specs.declared.settings.Mechanism.{Mechanism}
use Rattle.nvme_arbiter.specs.declared.settings.Class.{Class}
use Rattle.nvme_admin.specs.declared.verdict.Verdict.{Verdict}
use Rattle.nvme_admin.specs.declared.verdict.Verdict.TheVariants as verdict
use Rattle.nvme_admin.specs.declared.effect.Effect.{Effect}
use Rattle.nvme_entry.specs.AdminCommand.{admin_command_of}
use Rattle.nvme_entry.specs.declared.admin.AdminCommand.{AdminCommand}
use Rattle.nvme_entry.specs.declared.admin.AdminCommand.TheVariants.{DeleteSq, CreateSq, DeleteCq, CreateCq, Abort, SetFeatures, GetFeatures, Other}
use Rattle.nvme_entry.specs.Status.{StatusCode, success}
use Rattle.nvme_entry.specs.declared.submission.Sqe.{Sqe}
use Rattle.nvme_log.specs.Rules.{FrontRules}
use Rattle.nvme_ctrl_log.specs.Making.{slots_asked}
use Rattle.nvme_ctrl_log.specs.Notes.{Notes, Answered, logged}
use Rattle.nvme_ctrl.specs.Steps.{IsAnswerOf, HasCarriedOut}
use Rattle.nvme_slots.specs.declared.slot.Slot.{Slot}
use Rattle.nvme_ctrl.specs.declared.state.Controller.{Controller}
use Rattle.nvme_ctrl_content.specs.Content.{Ready, Content, with_ready}
use Rattle.nvme_ctrl_content.specs.Steps.{told}
use Rattle.nvme_ctrl.specs.kept.Kept.{Items, IsThrough, IsCookie, is_passed_at, IsUnflagged}
use Rattle.nvme_ctrl.specs.inside.Loose.{IsLoose, Keeps, MakesReady, ended, with_item}
use Rattle.nvme_ctrl.specs.inside.Carrying.{IsApplied}
use Rattle.nvme_ctrl_content.specs.Carrying.{IsOpenable, IsCqOpenable, IsUnattached, opening, opening_cq, closing_cq}
use Rattle.nvme_slots.specs.Pool.{slot_at, item_at}
use Rattle.nvme_ctrl_content.proofs.AfterSteps.{IsChosen, after_admin}
use Rattle.nvme_ctrl.proofs.CarriedOut.{made_notes, applied, cookie_kept, not_passed_on, unflagged, keeps_told, keeps_told_of, carried_told}
use Rattle.nvme_ctrl.proofs.AppliedQueues.{opens_to, opens_for}
use Rattle.nvme_ctrl.proofs.AppliedLives.{opens_openable, opens_cq_openable, closes_region, closes_is, closes_open, closes_unattached, closes_ready}

-- a Create asks for some slots
pub some_asked : (command : AdminCommand) → 0 < slots_asked command
some_asked (CreateSq qid qsize prp1 cqid qprio pc) = omega arith
some_asked (CreateCq qid qsize prp1 pc) = omega arith
some_asked (DeleteSq qid) = omega arith
some_asked (DeleteCq qid) = omega arith
some_asked (SetFeatures fid sv cdw11) = omega arith
some_asked (GetFeatures fid) = omega arith
some_asked (Abort sqid cid) = omega arith
some_asked Other = omega arith

-- what a command that ends as an admin command is answered keeps
abbrev pub KeepsEnd : (a : Controller) (slots : List Slot) (tag : ℕ) (status : StatusCode) (dw0 : ℕ) (b : Controller) (pool : List Slot) → Type 0
KeepsEnd a slots tag status dw0 b pool =
    (rules : FrontRules) (notes : Notes) (k : Content) (g : Items) (t : Ready) → Keeps rules notes a slots k g → IsLoose slots g tag → MakesReady slots tag 4 status dw0 t → IsThrough notes t
    → IsCookie notes slots tag t.place → t.passed ≡ is_passed_at notes t.place → IsUnflagged notes t.place
    → (x : ℕ) → k.cq_life 0 ≡ Some x → k.sq_id t.place.region ≡ Some t.sqid → Keeps rules notes b pool (with_ready k x t) (with_item g x (ended tag t))

module _ (rules : FrontRules) (late : Bool) (notes : Notes) (a : Controller) (slots : List Slot) (tag : ℕ) (did : Effect) (v : Verdict)
    (h : IsApplied rules late notes a slots tag did v) where
  -- the notes with its answer
  abbrev pub told_notes : StatusCode → ℕ → Notes
  told_notes status dw0 = Answered 0 h.candidate.index (record { status = status; dw0 = dw0 }) ∷ made_notes rules late notes a slots tag did v h

  -- it was answered, after something was done before
  pub ended_told : (before : Content) (status : StatusCode) (dw0 c : ℕ) (board : BoardView) → IsChosen rules (logged notes) h.before c h.picked board v
      → after_admin (logged notes) (applied rules late notes a slots tag did v h) h.candidate c board v ≡ with_ready before 0 (told h.candidate status dw0)
      → IsAnswerOf v (Some (record { status = status; dw0 = dw0 })) → (m : Controller) (mid : List Slot) (g : Items) → Keeps rules (told_notes status dw0) m mid before g → IsLoose mid g tag → item_at mid tag ≡ item_at slots tag
      → (b : Controller) (pool : List Slot) → KeepsEnd m mid tag status dw0 b pool → HasCarriedOut rules late notes v b pool
  ended_told before status dw0 c board chosen is answered m mid g keeps loose slot b pool end =
      carried_told rules late notes a slots tag did v h before status dw0 c board chosen is answered b pool (with_item g 0 (ended tag (told h.candidate status dw0)))
      (end rules (told_notes status dw0) before g (told h.candidate status dw0) keeps loose (record {
        state_is = refl;
        sqid = ap (λ (s : Slot). s.sqid) slot ∙ h.queue;
        cid = ap (λ (s : Slot). s.entry.cid) slot ∙ ap (λ (e : Sqe). e.cid) h.entry;
        status_is = refl;
        dw0_is = refl;
      }) (inr (rw (eq-eqb h.candidate.index h.candidate.index refl) refl))
      (cookie_kept rules late notes a slots tag did v h ∙ ap (λ (s : Slot). Some s.cookie) (sym slot)) (sym (not_passed_on rules late notes a slots tag did v h)) (unflagged rules late notes a slots tag did v h) 0 keeps.numbers.cqs.ids.admin
      (keeps.numbers.sqs.ids.ids_are 0 0 keeps.numbers.sqs.ids.admin))

  -- it was answered, and made no more of what is kept
  pub ended_plain : (status : StatusCode) (dw0 : ℕ) → IsChosen rules (logged notes) h.before 0 h.picked h.picked v
      → after_admin (logged notes) (applied rules late notes a slots tag did v h) h.candidate 0 h.picked v ≡ with_ready (applied rules late notes a slots tag did v h) 0 (told h.candidate status dw0)
      → IsAnswerOf v (Some (record { status = status; dw0 = dw0 })) → (b : Controller) (pool : List Slot) → KeepsEnd a slots tag status dw0 b pool → HasCarriedOut rules late notes v b pool
  ended_plain status dw0 chosen is answered b pool end =
      ended_told (applied rules late notes a slots tag did v h) status dw0 0 h.picked chosen is answered a slots h.items
      (keeps_told rules late notes a slots tag did v h (record { status = status; dw0 = dw0 })) h.loose refl b pool end

-- a submission queue was opened
pub ended_opened : (rules : FrontRules) (late : Bool) (notes : Notes) (a : Controller) (slots : List Slot) (tag qid region cqid size : ℕ) (class : Class) (did : Effect)
    (h : IsApplied rules late notes a slots tag did (verdict.OpenSq qid region cqid class)) (m b : Controller) (pool : List Slot) → size ≡ slots_asked (admin_command_of (slot_at slots tag).entry)
    → ((rules : FrontRules) (notes : Notes) (slots : List Slot) (k : Content) (g : Items) (region x : ℕ) → Keeps rules notes a slots k g → a.picked ≡ 0 → IsOpenable rules notes k qid size cqid region x
    → Keeps rules notes m slots (opening k qid region x class) g)
    → KeepsEnd m slots tag success 0 b pool → HasCarriedOut rules late notes (verdict.OpenSq qid region cqid class) b pool
ended_opened rules late notes a slots tag qid region cqid size class did h m b pool size_is opened end =
    let v : Verdict = verdict.OpenSq qid region cqid class in
    let k : Content = applied rules late notes a slots tag did v h in
    let to : ℕ = opens_to rules late notes a slots tag qid region cqid class did h in
    ended_told rules late notes a slots tag did v h (opening k qid region to class) success 0 to h.picked
    (opens_for rules late notes a slots tag qid region cqid class did h) refl refl m slots h.items
    (keeps_told_of rules late notes a slots tag did v h m (opening k qid region to class) (record { status = success; dw0 = 0 })
    (opened rules notes slots k h.items region to h.keeps h.none_picked
    (subst (λ (n : ℕ). IsOpenable rules notes k qid n cqid region to) (sym (size_is ∙ ap (λ (e : Sqe). slots_asked (admin_command_of e)) h.entry))
    (opens_openable rules late notes a slots tag qid region cqid class did h)))) h.loose refl b pool end

-- a completion queue was opened
pub ended_cq_opened : (rules : FrontRules) (late : Bool) (notes : Notes) (a : Controller) (slots : List Slot) (tag qid region size : ℕ) (did : Effect)
    (h : IsApplied rules late notes a slots tag did (verdict.OpenCq qid region)) (m b : Controller) (pool : List Slot) → size ≡ slots_asked (admin_command_of (slot_at slots tag).entry)
    → ((rules : FrontRules) (notes : Notes) (slots : List Slot) (k : Content) (g : Items) (x : ℕ) → Keeps rules notes a slots k g → IsCqOpenable rules notes k qid size x
    → Keeps rules notes m slots (opening_cq k qid x) g)
    → KeepsEnd m slots tag success 0 b pool → HasCarriedOut rules late notes (verdict.OpenCq qid region) b pool
ended_cq_opened rules late notes a slots tag qid region size did h m b pool size_is opened end =
    let v : Verdict = verdict.OpenCq qid region in
    let k : Content = applied rules late notes a slots tag did v h in
    ended_told rules late notes a slots tag did v h (opening_cq k qid region) success 0 0 h.picked tt refl refl m slots h.items
    (keeps_told_of rules late notes a slots tag did v h m (opening_cq k qid region) (record { status = success; dw0 = 0 })
    (opened rules notes slots k h.items region h.keeps
    (subst (λ (n : ℕ). IsCqOpenable rules notes k qid n region) (sym (size_is ∙ ap (λ (e : Sqe). slots_asked (admin_command_of e)) h.entry)) (opens_cq_openable rules late notes a slots tag qid region did h)))) h.loose refl b pool end

-- a completion queue was closed
pub ended_cq_closed : (rules : FrontRules) (late : Bool) (notes : Notes) (a : Controller) (slots : List Slot) (tag qid : ℕ) (did : Effect)
    (h : IsApplied rules late notes a slots tag did (verdict.CloseCq qid)) (m b : Controller) (pool : List Slot)
    → ((rules : FrontRules) (notes : Notes) (slots : List Slot) (k : Content) (g : Items) (x : ℕ) → Keeps rules notes a slots k g → k.cq_life qid ≡ Some x → g.readies x ≡ [] → IsUnattached k qid x
    → Keeps rules notes m slots (closing_cq k qid x) g)
    → KeepsEnd m slots tag success 0 b pool → HasCarriedOut rules late notes (verdict.CloseCq qid) b pool
ended_cq_closed rules late notes a slots tag qid did h m b pool closed end =
    let v : Verdict = verdict.CloseCq qid in
    let k : Content = applied rules late notes a slots tag did v h in
    let region : ℕ = closes_region rules late notes a slots tag qid did h in
    ended_told rules late notes a slots tag did v h (closing_cq k qid region) success 0 0 h.picked tt
    (ap (λ (x : Content). with_ready x 0 (told h.candidate success 0)) (closes_is rules late notes a slots tag qid did h)) refl m slots h.items
    (keeps_told_of rules late notes a slots tag did v h m (closing_cq k qid region) (record { status = success; dw0 = 0 })
    (closed rules notes slots k h.items region h.keeps (closes_open rules late notes a slots tag qid did h) (closes_ready rules late notes a slots tag qid did h)
    (closes_unattached rules late notes a slots tag qid did h))) h.loose refl b pool end

-- new settings of arbitration are in force
pub ended_set : (rules : FrontRules) (late : Bool) (notes : Notes) (a : Controller) (slots : List Slot) (tag : ℕ) (settings : ArbitrationFields) (did : Effect)
    (h : IsApplied rules late notes a slots tag did (verdict.SetArbitration settings)) (m b : Controller) (pool : List Slot)
    → ((rules : FrontRules) (notes : Notes) (slots : List Slot) (k : Content) (g : Items) → Keeps rules notes a slots k g → Keeps rules notes m slots (record k { board = board_of m.board }) g)
    → (board_of m.board).queues ≡ (board_of a.board).queues
    → ((mechanism : Mechanism) (first : ArbitrationFields) (past : History) → BoardStandsAt mechanism first past (board_of a.board) → BoardStandsAt mechanism first (Changed settings ∷ past) (board_of m.board))
    → KeepsEnd m slots tag success 0 b pool → HasCarriedOut rules late notes (verdict.SetArbitration settings) b pool
ended_set rules late notes a slots tag settings did h m b pool set queues stands end =
    let v : Verdict = verdict.SetArbitration settings in
    let k : Content = applied rules late notes a slots tag did v h in
    ended_told rules late notes a slots tag did v h (record k { board = board_of m.board }) success 0 0 (board_of m.board) (
      queues ∙ ap (λ (v : BoardView). v.queues) h.keeps.numbers.board_is,
      λ past s. stands rules.mechanism rules.start.settings past (subst (λ (v : BoardView). BoardStandsAt rules.mechanism rules.start.settings past v) (sym h.keeps.numbers.board_is) s),
    ) refl refl m slots h.items
    (set rules (told_notes rules late notes a slots tag did v h success 0) slots k h.items (keeps_told rules late notes a slots tag did v h (record { status = success; dw0 = 0 }))) h.loose refl b pool end

-- ---- as it was carried out
-- the effect is this one
pub carried_as : (rules : FrontRules) (late : Bool) (notes : Notes) (v : Verdict) (a : Controller) (slots : List Slot) (tag : ℕ) (did this : Effect) (b : Controller) (pool : List Slot) → did ≡ this
    → (IsApplied rules late notes a slots tag this v → HasCarriedOut rules late notes v b pool) → IsApplied rules late notes a slots tag did v → HasCarriedOut rules late notes v b pool
carried_as rules late notes v a slots tag did this b pool is carried =
    subst (λ (e : Effect). IsApplied rules late notes a slots tag e v → HasCarriedOut rules late notes v b pool) (sym is) carried

-- so is the verdict
pub applied_as : (rules : FrontRules) (late : Bool) (notes : Notes) (a : Controller) (slots : List Slot) (tag : ℕ) (did : Effect) (v this : Verdict) → v ≡ this
    → IsApplied rules late notes a slots tag did v → IsApplied rules late notes a slots tag did this
applied_as rules late notes a slots tag did v this is = subst (IsApplied rules late notes a slots tag did) is

pub carried_by : (rules : FrontRules) (late : Bool) (notes : Notes) (b : Controller) (pool : List Slot) (v this : Verdict) → v ≡ this → HasCarriedOut rules late notes this b pool
    → HasCarriedOut rules late notes v b pool
carried_by rules late notes b pool v this is = subst (λ (w : Verdict). HasCarriedOut rules late notes w b pool) (sym is)
