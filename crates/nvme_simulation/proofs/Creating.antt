-- Admin commands that were done.
use Rattle.std.proofs.Common.{◌≡◌, ◌≢◌, ◌∙◌, ◌<◌, ◌≤◌, ℕ, ◌+◌, ◌*◌, ◌/◌, ◌%◌, ◌==◌, ◌&&◌, if◌then◌else◌, Bool, true, false, All, List, [], ◌∷◌, ◌++◌, length, map, get_or, Option, Some, None, refl, sym, ap, subst, arith, inl, inr}
use Rattle.std.specs.Prelude.{IfSome, slice_get}
use Rattle.std.proofs.lemmas.Bool.{cases_Bool}
use Rattle.std.proofs.lemmas.Bool.Decides.{nat_tests}
use Rattle.std.proofs.lemmas.List.{append_assoc, append-nil, length-append, length-map, map-append}
use Rattle.std.proofs.lemmas.List.Elements.{All-push}
use Rattle.std.proofs.lemmas.Option.{slice_get_within}
use native.Mathlib.Nat.{mod-eq_of_lt}
use Rattle.nvme_admin.specs.Effects.{verdict_in}
use Rattle.nvme_admin.specs.History.{Placing}
use Rattle.nvme_admin.specs.declared.effect.Effect.{Effect}
use Rattle.nvme_admin.specs.declared.effect.Effect.TheVariants as effect
use Rattle.nvme_admin.specs.declared.verdict.Verdict.{Verdict}
use Rattle.nvme_admin.specs.declared.verdict.Verdict.TheVariants as verdict
use Rattle.nvme_arbiter.specs.History.{History, settings_after}
use Rattle.nvme_arbiter.specs.Settings.{ArbitrationFields}
use Rattle.nvme_arbiter.specs.declared.pick.Pick.{Pick}
use Rattle.nvme_arbiter.specs.declared.settings.Class.{Class}
use Rattle.nvme_arbiter.specs.declared.settings.Mechanism.{Mechanism}
use Rattle.nvme_ctrl.specs.Standing.{Stands}
use Rattle.nvme_ctrl.specs.Steps.{HasCarriedOut, HasDone as HasMade}
use Rattle.nvme_ctrl.specs.declared.state.Controller.{Controller}
use Rattle.nvme_ctrl_log.specs.Making.{placed, placing_in}
use Rattle.nvme_ctrl_log.specs.Notes.{Notes, Logged, Tail, Head, Kept, Answered, logged}
use Rattle.nvme_ctrl_log.specs.Steps.{with_answer, picked_notes}
use Rattle.nvme_ctrl_log.specs.Tags.{answer_of}
use Rattle.nvme_entry.specs.AdminCommand.{admin_command_of, cid_of, cqid_of, fid_of, pc_of, qid_of, qprio_of, qsize_of, sqid_of, sv_of}
use Rattle.nvme_entry.specs.Status.{success}
use Rattle.nvme_entry.specs.declared.admin.AdminCommand.{AdminCommand}
use Rattle.nvme_entry.specs.declared.admin.AdminCommand.TheVariants as command
use Rattle.nvme_entry.specs.declared.completion.Cqe.{Cqe}
use Rattle.nvme_entry.specs.declared.submission.Sqe.{Sqe}
use Rattle.nvme_log.specs.Answers.{Answer}
use Rattle.nvme_log.specs.Histories.{arbitration_of}
use Rattle.nvme_log.specs.Places.{entry_at, fetched}
use Rattle.nvme_log.specs.Rules.{FrontRules, Past}
use Rattle.nvme_log.specs.declared.event.Event.{Event}
use Rattle.nvme_log.specs.declared.event.Event.TheVariants as event
use Rattle.nvme_placing.specs.Telling.{IsToldBy, unplaced_verdict}
use Rattle.nvme_simulation.specs.Creating.{Does, HasDone, KeepsDone, StandsAfter, WasDone, creates_from, creates_of, opens}
use Rattle.nvme_simulation.specs.Loads.{Load, load_of}
use Rattle.nvme_simulation.specs.declared.front.Front.{Front}
use Rattle.nvme_simulation.specs.declared.host.Host.{Host}
use Rattle.nvme_slots.specs.declared.slot.Slot.{Slot}
use Rattle.nvme_simulation.proofs.Moves.{beside}
use Rattle.nvme_simulation.proofs.Pools.{placed_mechanism, placed_settings}

-- what was done stays so where notes are added that answer and fetch nothing
pub tail_done : (r slot : ℕ) (notes : Notes) (c : AdminCommand) → WasDone notes c → WasDone (Tail r slot ∷ notes) c
tail_done r slot notes c d = record { index = d.index; entry = d.entry; fetched = d.fetched; is = d.is; answered = d.answered }

pub head_done : (r slot : ℕ) (notes : Notes) (c : AdminCommand) → WasDone notes c → WasDone (Head r slot ∷ notes) c
head_done r slot notes c d = record { index = d.index; entry = d.entry; fetched = d.fetched; is = d.is; answered = d.answered }

pub post_done : (x r i : ℕ) (cqe : Cqe) (notes : Notes) (c : AdminCommand) → WasDone notes c → WasDone (Logged (event.Post x r i cqe) ∷ notes) c
post_done x r i cqe notes c d = record { index = d.index; entry = d.entry; fetched = d.fetched; is = d.is; answered = d.answered }

-- a command more
fetched_more : (past : Past) (r i index : ℕ) (entry e : Sqe) → entry_at past 0 index ≡ Some e → entry_at (event.Fetch r i entry ∷ past) 0 index ≡ Some e
fetched_more past r i index entry e there = elim (cases_Bool (r == 0)) [
  | inl same ↦
      let l : index < length (fetched past 0) = slice_get_within (fetched past 0) index e there in
      let apart : index ≢ length (fetched past 0) = λ e. absurd (omega (arith, l, e)) in
      rw same (beside (fetched past 0) entry index apart ∙ there)
  | inr other ↦ rw other there
]

pub fetch_done : (r i cookie : ℕ) (entry : Sqe) (notes : Notes) (c : AdminCommand) → WasDone notes c → WasDone (Kept r i cookie ∷ Logged (event.Fetch r i entry) ∷ notes) c
fetch_done r i cookie entry notes c d = record {
  index = d.index;
  entry = d.entry;
  fetched = fetched_more (logged notes) r i d.index entry d.entry d.fetched;
  is = d.is;
  answered = d.answered;
}

pub noted : (mechanism : Mechanism) (settings : ArbitrationFields) (done : List AdminCommand) (before after : Controller) (old slots : List Slot)
    (a : StandsAfter mechanism settings done before old) (notes : Notes) → Stands a.rules a.late notes after slots
    → arbitration_of (logged notes) ≡ arbitration_of (logged a.notes) → ((c : AdminCommand) → WasDone a.notes c → WasDone notes c) → StandsAfter mechanism settings done after slots
noted mechanism settings done before after old slots a notes stands same keeps = record {
  rules = a.rules;
  late = a.late;
  notes = notes;
  stands = stands;
  in_time = a.in_time;
  mechanism_is = a.mechanism_is;
  settings_are = a.settings_are;
  in_force = ap (λ (past : History). settings_after a.rules.start.settings past) same ∙ a.in_force;
  done = λ i d l. keeps (get_or done i d) (a.done i d l);
}

-- a call that changed nothing
pub same_done : (mechanism : Mechanism) (settings : ArbitrationFields) (done : List AdminCommand) (before after : Controller) (old slots : List Slot)
    → (after ≡ before) × (slots ≡ old) → StandsAfter mechanism settings done before old → StandsAfter mechanism settings done after slots
same_done mechanism settings done before after old slots same a =
    subst (λ (c : Controller). StandsAfter mechanism settings done c slots) (sym same.0)
    (subst (λ (xs : List Slot). StandsAfter mechanism settings done before xs) (sym same.1) a)

-- a call that changed nothing where it told none
pub told_done : {R : Type 0} (mechanism : Mechanism) (settings : ArbitrationFields) (done : List AdminCommand) (before after : Controller) (old slots : List Slot)
    (P : R → Type 0) (o : Option R) → (o ≡ None → (after ≡ before) × (slots ≡ old)) → IfSome o P → ((x : R) → P x → StandsAfter mechanism settings done after slots)
    → StandsAfter mechanism settings done before old → StandsAfter mechanism settings done after slots
told_done mechanism settings done before after old slots P None same h f a = same_done mechanism settings done before after old slots (same refl) a
told_done mechanism settings done before after old slots P (Some x) same h f a = f x h

-- a verdict opens a queue
abbrev makes : Verdict → Bool
makes (verdict.OpenCq qid region) = true
makes (verdict.OpenSq qid region cqid class) = true
makes v = false

unplaced_makes : (v : Verdict) → makes (unplaced_verdict v) ≡ makes v
unplaced_makes (verdict.Done status dw0) = refl
unplaced_makes (verdict.OpenSq qid region cqid class) = refl
unplaced_makes (verdict.OpenCq qid region) = refl
unplaced_makes (verdict.BeginDelete qid) = refl
unplaced_makes (verdict.CloseCq qid) = refl
unplaced_makes (verdict.Abort sqid cid) = refl
unplaced_makes (verdict.SetArbitration settings) = refl

makes_opens : (e : Effect) → makes (verdict_in e) ≡ opens e
makes_opens (effect.Done status dw0) = refl
makes_opens (effect.OpenSq qid region cqid cq_region class) = refl
makes_opens (effect.OpenCq qid region) = refl
makes_opens (effect.BeginDelete qid region) = refl
makes_opens (effect.CloseCq qid region) = refl
makes_opens (effect.Abort sqid cid) = refl
makes_opens (effect.SetArbitration settings) = refl

told_makes : (p : Option Placing) (e : Effect) (v : Verdict) → IsToldBy p (verdict_in e) v → opens e ≡ true → makes v ≡ true
told_makes None e v told is = ap makes (sym told) ∙ makes_opens e ∙ is
told_makes (Some p) e v told is = sym (unplaced_makes v) ∙ ap makes (sym told) ∙ unplaced_makes (verdict_in e) ∙ makes_opens e ∙ is

abbrev ok : Answer
ok = record { status = success; dw0 = 0 }

-- an answer more, which is success
abbrev answered_by : ℕ → Event → Notes → Pick → Notes
answered_by index e notes pick = Answered 0 index ok ∷ Logged e ∷ picked_notes notes pick

answer_more : (i index : ℕ) (before : Option Answer) → before ≡ Some ok → (if 0 == 0 && index == i then Some ok else before) ≡ Some ok
answer_more i index before is = elim (cases_Bool (index == i)) [
  | inl same ↦ rw same refl
  | inr other ↦ rw other is
]

made_more : (index : ℕ) (e : Event) (notes : Notes) (pick : Pick) → ((past : Past) → fetched (e ∷ past) 0 ≡ fetched past 0) → (c : AdminCommand) → WasDone notes c
    → WasDone (answered_by index e notes pick) c
made_more index e notes pick same c d = record {
  index = d.index;
  entry = d.entry;
  fetched = ap (λ (xs : List Sqe). slice_get xs d.index) (same (logged (picked_notes notes pick))) ∙ d.fetched;
  is = d.is;
  answered = answer_more d.index index (answer_of notes 0 d.index) d.answered;
}

made_new : (index : ℕ) (e : Event) (notes : Notes) (pick : Pick) (entry : Sqe) → ((past : Past) → fetched (e ∷ past) 0 ≡ fetched past 0)
    → entry_at (logged notes) 0 index ≡ Some entry → WasDone (answered_by index e notes pick) (admin_command_of entry)
made_new index e notes pick entry same there =
    let yes : (index == index) ≡ true = grind (arith, nat_tests) in
    record {
      index = index;
      entry = entry;
      fetched = ap (λ (xs : List Sqe). slice_get xs index) (same (logged (picked_notes notes pick))) ∙ there;
      is = refl;
      answered = rw yes refl;
    }

opened : (mechanism : Mechanism) (settings : ArbitrationFields) (done : List AdminCommand) (rules : FrontRules) (late : Bool) (notes : Notes) (pick : Pick) (index : ℕ)
    (e : Event) (entry : Sqe) (c : Controller) (slots : List Slot) → ((past : Past) → fetched (e ∷ past) 0 ≡ fetched past 0)
    → ((past : Past) → arbitration_of (e ∷ past) ≡ arbitration_of past) → late ≡ false → rules.mechanism ≡ mechanism → rules.start.settings ≡ settings
    → settings_after rules.start.settings (arbitration_of (logged notes)) ≡ settings → All (WasDone notes) done → entry_at (logged notes) 0 index ≡ Some entry → (answer : Option Answer) → answer ≡ Some ok
    → Stands rules late (with_answer index answer (Logged e ∷ picked_notes notes pick)) c slots → StandsAfter mechanism settings (done ++ admin_command_of entry ∷ []) c slots
opened mechanism settings done rules late notes pick index e entry c slots same quiet in_time mechanism_is settings_are in_force all there answer is stands =
    let after : Notes = answered_by index e notes pick in
    let kept : All (WasDone after) done = λ i d l. made_more index e notes pick same (get_or done i d) (all i d l) in
    record {
      rules = rules;
      late = late;
      notes = after;
      stands = subst (λ (a : Option Answer). Stands rules late (with_answer index a (Logged e ∷ picked_notes notes pick)) c slots) is stands;
      in_time = in_time;
      mechanism_is = mechanism_is;
      settings_are = settings_are;
      in_force = ap (λ (past : History). settings_after rules.start.settings past) (quiet (logged (picked_notes notes pick))) ∙ in_force;
      done = All-push (WasDone after) done (admin_command_of entry) kept (made_new index e notes pick entry same there);
    }

carried : (mechanism : Mechanism) (settings : ArbitrationFields) (done : List AdminCommand) (rules : FrontRules) (late : Bool) (notes : Notes) (v : Verdict) (entry : Sqe)
    (c : Controller) (slots : List Slot) → makes v ≡ true → late ≡ false → rules.mechanism ≡ mechanism → rules.start.settings ≡ settings
    → settings_after rules.start.settings (arbitration_of (logged notes)) ≡ settings → All (WasDone notes) done → (h : HasCarriedOut rules late notes v c slots) → entry_at (logged notes) 0 h.index ≡ Some entry
    → StandsAfter mechanism settings (done ++ admin_command_of entry ∷ []) c slots
carried mechanism settings done rules late notes (verdict.OpenCq q r) entry c slots is in_time mechanism_is settings_are in_force all h there =
    opened mechanism settings done rules late notes h.pick h.index (event.OpenCq q r) entry c slots (λ past. refl) (λ past. refl) in_time mechanism_is settings_are in_force all there h.answer h.answered h.stands
carried mechanism settings done rules late notes (verdict.OpenSq q r cq class) entry c slots is in_time mechanism_is settings_are in_force all h there =
    opened mechanism settings done rules late notes h.pick h.index (event.OpenSq q r cq class) entry c slots (λ past. refl) (λ past. refl) in_time mechanism_is settings_are in_force all there h.answer
    h.answered h.stands
carried mechanism settings done rules late notes (verdict.Done status dw0) entry c slots is in_time mechanism_is settings_are in_force all h there = absurd (cc is)
carried mechanism settings done rules late notes (verdict.BeginDelete q) entry c slots is in_time mechanism_is settings_are in_force all h there = absurd (cc is)
carried mechanism settings done rules late notes (verdict.CloseCq q) entry c slots is in_time mechanism_is settings_are in_force all h there = absurd (cc is)
carried mechanism settings done rules late notes (verdict.Abort q cid) entry c slots is in_time mechanism_is settings_are in_force all h there = absurd (cc is)
carried mechanism settings done rules late notes (verdict.SetArbitration set) entry c slots is in_time mechanism_is settings_are in_force all h there = absurd (cc is)

-- a Create that is picked
pub made : (mechanism : Mechanism) (settings : ArbitrationFields) (done : List AdminCommand) (before after : Controller) (old slots : List Slot)
    (a : StandsAfter mechanism settings done before old) (e : Effect) (entry : Sqe) → opens e ≡ true → HasMade a.rules a.late a.notes e entry after slots
    → StandsAfter mechanism settings (done ++ admin_command_of entry ∷ []) after slots
made mechanism settings done before after old slots a e entry is h =
    let first : (placed h.verdict entry a.rules).start.settings ≡ a.rules.start.settings = placed_settings (placing_in a.rules) h.verdict entry a.rules in
    carried mechanism settings done (placed h.verdict entry a.rules) a.late a.notes h.verdict entry after slots (told_makes (placing_in a.rules) e h.verdict h.told is)
    a.in_time (placed_mechanism (placing_in a.rules) h.verdict entry a.rules ∙ a.mechanism_is) (first ∙ a.settings_are)
    (ap (λ (x : ArbitrationFields). settings_after x (arbitration_of (logged a.notes))) first ∙ a.in_force) a.done h.carried_out h.its_entry

-- controllers
pub keeps_self : (f : Front) → KeepsDone f f
keeps_self f m s done h = h

pub keeps_then : (a b c : Front) → KeepsDone a b → KeepsDone b c → KeepsDone a c
keeps_then a b c first second m s done h = second m s done (first m s done h)

pub keeps_does : (commands : List AdminCommand) (a b c : Front) → KeepsDone a b → Does commands b c → Does commands a c
keeps_does commands a b c first second m s done h = second m s done (first m s done h)

pub does_keeps : (commands : List AdminCommand) (a b c : Front) → Does commands a b → KeepsDone b c → Does commands a c
does_keeps commands a b c first second m s done h = second m s (done ++ commands) (first m s done h)

pub does_then : (xs ys : List AdminCommand) (a b c : Front) → Does xs a b → Does ys b c → Does (xs ++ ys) a c
does_then xs ys a b c first second m s done h =
    subst (λ (zs : List AdminCommand). HasDone m s zs c) (append_assoc done xs ys) (second m s (done ++ xs) (first m s done h))

pub does_none : (f : Front) → Does [] f f
does_none f m s done h = subst (λ (zs : List AdminCommand). HasDone m s zs f) (sym (append-nil done)) h

pub does_same : (xs ys : List AdminCommand) (a b : Front) → xs ≡ ys → Does xs a b → Does ys a b
does_same xs ys a b same is = subst (λ (zs : List AdminCommand). Does zs a b) same is

-- the Creates of a queue more
creates_push : (n : ℕ) (xs : List Load) (y : Load) → creates_from n (xs ++ y ∷ []) ≡ creates_from n xs ++ creates_of (n + length xs) y.slots y.class
unfolding creates_from
creates_push n [] y =
    let none : n ≡ n + 0 = omega arith in
    append-nil (creates_of n y.slots y.class) ∙ ap (λ (k : ℕ). creates_of k y.slots y.class) none
creates_push n (x ∷ xs) y =
    let more : n + 1 + length xs ≡ n + length (x ∷ xs) = omega arith in
    ap (λ (rest : List AdminCommand). creates_of n x.slots x.class ++ rest) (creates_push (n + 1) xs y)
    ∙ sym (append_assoc (creates_of n x.slots x.class) (creates_from (n + 1) xs) (creates_of (n + 1 + length xs) y.slots y.class))
    ∙ ap (λ (k : ℕ). (creates_of n x.slots x.class ++ creates_from (n + 1) xs) ++ creates_of k y.slots y.class) more

pub created_none : (all : List Host) (f : Front) → length all ≡ 0 → Does (creates_from 1 (map load_of all)) f f
unfolding creates_from
created_none [] f none = does_none f
created_none (h ∷ all) f none = absurd (omega (arith, none))

pub created_more : (first before after : Front) (all new : List Host) (h : Host) (qid slots : ℕ) (class : Class) → new ≡ all ++ h ∷ [] → qid ≡ length all % 65_535 + 1
    → h.slots ≡ slots → h.class ≡ class → (length all ≤ 65_535 → Does (creates_from 1 (map load_of all)) first before) → Does (creates_of qid slots class) before after
    → length new ≤ 65_535 → Does (creates_from 1 (map load_of new)) first after
created_more first before after all new h qid slots class items id slots_are class_is did does few =
    let long : length new ≡ length all + 1 = ap (λ (hs : List Host). length hs) items ∙ length-append all (h ∷ []) in
    let small : length all % 65_535 ≡ length all = mod-eq_of_lt (let l : length all < 65_535 = omega (arith, few, long) in l) in
    let same : qid ≡ 1 + length (map load_of all) = id ∙ ap (λ (n : ℕ). n + 1) small ∙ (let e : length all + 1 ≡ 1 + length (map load_of all) = omega (arith, length-map all load_of) in e) in
    let its : creates_of qid slots class ≡ creates_of (1 + length (map load_of all)) h.slots h.class =
    ap (λ (q : ℕ). creates_of q slots class) same ∙ ap (λ (n : ℕ). creates_of (1 + length (map load_of all)) n class) (sym slots_are)
    ∙ ap (λ (k : Class). creates_of (1 + length (map load_of all)) h.slots k) (sym class_is) in
    let total : creates_from 1 (map load_of all) ++ creates_of qid slots class ≡ creates_from 1 (map load_of new) =
    ap (λ (cs : List AdminCommand). creates_from 1 (map load_of all) ++ cs) its ∙ sym (creates_push 1 (map load_of all) (load_of h))
    ∙ ap (creates_from 1) (sym (map-append load_of all (h ∷ []))) ∙ ap (λ (hs : List Host). creates_from 1 (map load_of hs)) (sym items) in
    does_same (creates_from 1 (map load_of all) ++ creates_of qid slots class) (creates_from 1 (map load_of new)) first after total
    (does_then (creates_from 1 (map load_of all)) (creates_of qid slots class) first before after (did (omega (arith, few, long))) does)

-- the fields of a Create
abbrev command_by : ℕ → Sqe → AdminCommand
command_by opcode e =
    if opcode == 0x00 then command.DeleteSq (qid_of e)
    else (if opcode == 0x01 then command.CreateSq (qid_of e) (qsize_of e) e.prp1 (cqid_of e) (qprio_of e) (pc_of e)
    else (if opcode == 0x04 then command.DeleteCq (qid_of e)
    else (if opcode == 0x05 then command.CreateCq (qid_of e) (qsize_of e) e.prp1 (pc_of e)
    else (if opcode == 0x08 then command.Abort (sqid_of e) (cid_of e)
    else (if opcode == 0x09 then command.SetFeatures (fid_of e) (sv_of e) e.cdw11
    else (if opcode == 0x0a then command.GetFeatures (fid_of e)
    else command.Other))))))

low_16 : (x high low : ℕ) → x ≡ high * 65_536 + low → low < 65_536 → x / 1 % 65_536 ≡ low
low_16 x high low is l = omega (arith, is, l)

high_16 : (x high low : ℕ) → x ≡ high * 65_536 + low → low < 65_536 → high < 65_536 → x / 65_536 % 65_536 ≡ high
high_16 x high low is l h = omega (arith, is, l, h)

pub create_cq : (e : Sqe) (qid last address : ℕ) → e.opcode ≡ 0x05 → e.prp1 ≡ address → e.cdw10 ≡ last * 65_536 + qid → e.cdw11 ≡ 1 → qid < 65_536 → last < 65_536
    → admin_command_of e ≡ command.CreateCq qid last address true
create_cq e qid last address opcode prp1 cdw10 cdw11 l m =
    let first : admin_command_of e ≡ command.CreateCq (qid_of e) (qsize_of e) e.prp1 (pc_of e) = ap (λ (o : ℕ). command_by o e) opcode in
    let pc : pc_of e ≡ true = ap (λ (x : ℕ). x / 1 % 2 == 1) cdw11 in
    first ∙ ap (λ (n : ℕ). command.CreateCq n (qsize_of e) e.prp1 (pc_of e)) (low_16 e.cdw10 last qid cdw10 l)
    ∙ ap (λ (n : ℕ). command.CreateCq qid n e.prp1 (pc_of e)) (high_16 e.cdw10 last qid cdw10 l m)
    ∙ ap (λ (n : ℕ). command.CreateCq qid last n (pc_of e)) prp1 ∙ ap (λ (b : Bool). command.CreateCq qid last address b) pc

pub create_sq : (e : Sqe) (qid last address priority : ℕ) → e.opcode ≡ 0x01 → e.prp1 ≡ address → e.cdw10 ≡ last * 65_536 + qid
    → e.cdw11 ≡ qid * 65_536 + (priority * 2 + 1) → qid < 65_536 → last < 65_536 → priority ≤ 3
    → admin_command_of e ≡ command.CreateSq qid last address qid priority true
create_sq e qid last address priority opcode prp1 cdw10 cdw11 l m few =
    let first : admin_command_of e ≡ command.CreateSq (qid_of e) (qsize_of e) e.prp1 (cqid_of e) (qprio_of e) (pc_of e) = ap (λ (o : ℕ). command_by o e) opcode in
    let small : priority * 2 + 1 < 65_536 = omega (arith, few) in
    let class : e.cdw11 / 2 % 4 ≡ priority = omega (arith, cdw11, few) in
    let one : e.cdw11 / 1 % 2 ≡ 1 = omega (arith, cdw11) in
    let pc : pc_of e ≡ true = ap (λ (x : ℕ). x == 1) one in
    first ∙ ap (λ (n : ℕ). command.CreateSq n (qsize_of e) e.prp1 (cqid_of e) (qprio_of e) (pc_of e)) (low_16 e.cdw10 last qid cdw10 l)
    ∙ ap (λ (n : ℕ). command.CreateSq qid n e.prp1 (cqid_of e) (qprio_of e) (pc_of e)) (high_16 e.cdw10 last qid cdw10 l m)
    ∙ ap (λ (n : ℕ). command.CreateSq qid last n (cqid_of e) (qprio_of e) (pc_of e)) prp1
    ∙ ap (λ (n : ℕ). command.CreateSq qid last address n (qprio_of e) (pc_of e)) (high_16 e.cdw11 qid (priority * 2 + 1) cdw11 small l)
    ∙ ap (λ (n : ℕ). command.CreateSq qid last address qid n (pc_of e)) class ∙ ap (λ (b : Bool). command.CreateSq qid last address qid priority b) pc
