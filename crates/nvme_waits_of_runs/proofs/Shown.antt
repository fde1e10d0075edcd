-- What arbitration sees in a run of a model: its queues, each in its class, and no command of the admin queue.
use Rattle.std.proofs.Common.{◌≡◌, ◌∙◌, ◌≤◌, ◌&&◌, ℕ, zero, suc, ◌+◌, ◌==◌, Bool, true, false, nat_lt, cond, List, [], ◌∷◌, ◌++◌, length, map, get_or, ◌||◌, Option, Some, None, option_map, unwrap_or, inl, inr, refl, sym, ap, subst, arith}
use Rattle.std.specs.Prelude.{if◌then◌else◌, All, IfSome, slice_get}
use Rattle.std.specs.List.{flat_map, list_any}
use Rattle.std.proofs.lemmas.Bool.{cases_Bool, cases_lt, eq-eqb}
use Rattle.std.proofs.lemmas.Bool.Decides.{nat_tests}
use Rattle.std.proofs.lemmas.List.{length-drop}
use Rattle.std.proofs.lemmas.List.Elements.{All-append, All-cons, All-filter, All-head, All-map, All-nil, All-tail, filter_passes}
use Rattle.std.proofs.lemmas.Option.{same_Some, slice_get-map}
use Rattle.nvme_arbiter.specs.Board.{BoardView}
use Rattle.nvme_arbiter.specs.Layout.{board_of}
use Rattle.nvme_arbiter.specs.Limits.{queue_limit}
use Rattle.nvme_arbiter.specs.Observation.{is_class, ready_of}
use Rattle.nvme_arbiter.specs.Queues.{seen_of}
use Rattle.nvme_arbiter.specs.declared.pick.Pick.{Pick}
use Rattle.nvme_arbiter.specs.declared.pick.Seen.{Seen}
use Rattle.nvme_arbiter.specs.Settings.{number_of_class}
use Rattle.nvme_arbiter.specs.declared.settings.Class.{Class}
use Rattle.nvme_arbiter.specs.declared.settings.Class.TheVariants.{Admin}
use Rattle.nvme_arbiter.proofs.Choices.{same_class}
use Rattle.nvme_ctrl.specs.Standing.{Stands}
use Rattle.nvme_ctrl.specs.declared.state.Controller.{Controller}
use Rattle.nvme_ctrl_content.proofs.Observing.{seen_is_observed}
use Rattle.nvme_ctrl_log.specs.Notes.{Note, Notes, Logged, Passed, Held, Classed, logged}
use Rattle.nvme_ctrl_log.specs.Observation.{class_set, is_held, observed_of, seen_in, shown, shown_as}
use Rattle.nvme_ctrl_log.specs.Steps.{picked_notes}
use Rattle.nvme_log.specs.Places.{observation_of, seen_as, waiting}
use Rattle.nvme_log.specs.Queues.{Queue as Open, has_region, open_sq}
use Rattle.nvme_log.specs.Rules.{FrontRules, upto}
use Rattle.nvme_log.specs.declared.event.Event.TheVariants as event
use Rattle.nvme_log.proofs.Waiting.{waiting-fetch_other, waiting-pick, waiting-pick_other}
use Rattle.nvme_model.specs.declared.model.Model.{Model}
use Rattle.nvme_model.specs.declared.queue.Queue.{Queue}
use Rattle.nvme_simulation.specs.Beginnings.{IsNewOf, Shows}
use Rattle.nvme_simulation.specs.Fronts.{IsFrontOf}
use Rattle.nvme_simulation.specs.Quiet.{AreQuiet, Quietly, StandsBehind, is_quiet}
use Rattle.nvme_simulation.specs.Runs.{IsRun, Moment}
use Rattle.nvme_simulation.specs.Simulations.{StandsAt}
use Rattle.nvme_simulation.specs.Stepping.{HasStepped}
use Rattle.nvme_simulation.specs.declared.happening.Happening.{Happening}
use Rattle.nvme_simulation.specs.declared.happening.Happening.TheVariants.{Came, Picked, Settled, Finished, Paused, Resumed, Over}
use Rattle.nvme_simulation.specs.declared.simulation.Simulation.{Simulation}
use Rattle.nvme_slots.specs.declared.slot.Slot.{Slot}
use Rattle.nvme_waits_of_runs.specs.Models.{OnlyQueuesAreReady, ids_from, ids_of}
use Rattle.nvme_waits_of_runs.specs.Waits.{SeesAmong}
use Rattle.nvme_waits_of_runs.proofs.Pending.{both, past_end}

-- ---- notes
-- the class in which a queue is shown
abbrev class_at : Notes → ℕ → Option Class
class_at notes qid = option_map (λ (s : Seen). s.class) (seen_in notes qid)

-- the admin queue is open, and none of its commands is shown
record IdleAdmin (notes : Notes) : Type 0 where
  pub queue : Open
  pub is : open_sq (logged notes) 0 ≡ Some queue
  pub on : queue.region ≡ 0
  pub none : (if is_held notes 0 then 0 else length (waiting (logged notes) 0)) ≡ 0

-- a note that leaves classes and the admin queue
record Leaves (notes after : Notes) : Type 0 where
  pub classes : (qid : ℕ) → class_at after qid ≡ class_at notes qid
  pub admin : IdleAdmin notes → IdleAdmin after

leaves_self : (notes : Notes) → Leaves notes notes
leaves_self notes = record { classes = λ qid. refl; admin = λ idle. idle }

leaves_then : (a b c : Notes) → Leaves a b → Leaves b c → Leaves a c
leaves_then a b c first second = record { classes = λ qid. second.classes qid ∙ first.classes qid; admin = λ idle. second.admin (first.admin idle) }

-- a class that is shown stays where no class is set and no queue is opened
same_class_at : (a b : Notes) (qid : ℕ) → open_sq (logged b) qid ≡ open_sq (logged a) qid → class_set b qid ≡ class_set a qid → class_at b qid ≡ class_at a qid
same_class_at a b qid opens set =
    ap (λ (o : Option Open). option_map (λ (s : Seen). s.class) (option_map (shown_as b qid) o)) opens ∙ by (open_sq (logged a) qid)
  where
    by : (o : Option Open) → option_map (λ (s : Seen). s.class) (option_map (shown_as b qid) o) ≡ option_map (λ (s : Seen). s.class) (option_map (shown_as a qid) o)
    by None = refl
    by (Some queue) = ap (λ (c : Option Class). Some (unwrap_or c queue.class)) set

none_less : (held : Bool) (m n : ℕ) → n ≤ m → cond held 0 m ≡ 0 → cond held 0 n ≡ 0
none_less true m n l none = refl
none_less false m n l none = omega (arith, l, none)

quiet_leaves : (note : Note) (notes : Notes) → is_quiet note ≡ true → Leaves notes (note ∷ notes)
quiet_leaves (Logged (event.Fetch r i entry)) notes quiet = record {
  classes = λ qid. same_class_at notes (Logged (event.Fetch r i entry) ∷ notes) qid refl refl;
  admin = λ idle. record {
    queue = idle.queue;
    is = idle.is;
    on = idle.on;
    none = ap (λ (ws : List ℕ). cond (is_held notes 0) 0 (length ws)) (waiting-fetch_other (logged notes) r i entry 0 (λ e. absurd (grind (arith, nat_tests, quiet, e)))) ∙ idle.none;
  };
}
quiet_leaves (Logged (event.Post c r i cqe)) notes quiet = record {
  classes = λ qid. same_class_at notes (Logged (event.Post c r i cqe) ∷ notes) qid refl refl;
  admin = λ idle. record { queue = idle.queue; is = idle.is; on = idle.on; none = idle.none };
}
quiet_leaves (Logged e) notes quiet = absurd (cc quiet)
quiet_leaves (Passed i) notes quiet = absurd (cc quiet)
quiet_leaves (Held q on) notes quiet = absurd (cc quiet)
quiet_leaves (Classed q class) notes quiet = absurd (cc quiet)
quiet_leaves note notes quiet = record { classes = λ qid. refl; admin = λ idle. record { queue = idle.queue; is = idle.is; on = idle.on; none = idle.none } }

pick_leaves : (notes : Notes) (pick : Pick) → Leaves notes (picked_notes notes pick)
pick_leaves notes pick = record {
  classes = λ qid. same_class_at notes (picked_notes notes pick) qid refl refl;
  admin = λ idle. record { queue = idle.queue; is = idle.is; on = idle.on; none = none_less (is_held notes 0) (length (waiting (logged notes) 0)) _ fewer idle.none };
} where
  fewer : length (waiting (logged (picked_notes notes pick)) 0) ≤ length (waiting (logged notes) 0)
  fewer = elim (cases_Bool (has_region 0 (open_sq (logged notes) pick.qid))) [
    | inl own ↦
        let same = ap (λ (ws : List ℕ). length ws) (waiting-pick (logged notes) (observed_of notes) pick 0 own) in
        omega (arith, same, length-drop pick.n (waiting (logged notes) 0))
    | inr other ↦ let same = ap (λ (ws : List ℕ). length ws) (waiting-pick_other (logged notes) (observed_of notes) pick 0 other) in omega (arith, same)
  ]

all_leave : (later notes : Notes) → AreQuiet later → Leaves notes (later ++ notes)
all_leave [] notes quiet = leaves_self notes
all_leave (note ∷ later) notes quiet =
    leaves_then notes (later ++ notes) (note ∷ (later ++ notes)) (all_leave later notes (All-tail (λ (note : Note). is_quiet note ≡ true) note later quiet))
    (quiet_leaves note (later ++ notes) (All-head (λ (note : Note). is_quiet note ≡ true) note later quiet))

-- ---- what is seen
record Sees (queues : List Queue) (notes : Notes) : Type 0 where
  pub admin : IdleAdmin notes
  pub model : (k : ℕ) → IfSome (slice_get queues k) (λ q. class_at notes (k + 1) ≡ Some q.class)
  pub others : (k : ℕ) → length queues ≤ k → class_at notes (k + 1) ≡ None

sees_on : (queues : List Queue) (a b : Notes) → Leaves a b → Sees queues a → Sees queues b
sees_on queues a b l s = record {
  admin = l.admin s.admin;
  model = λ k. by k (slice_get queues k) (s.model k);
  others = λ k past. l.classes (k + 1) ∙ s.others k past;
} where
  by : (k : ℕ) (o : Option Queue) → IfSome o (λ q. class_at a (k + 1) ≡ Some q.class) → IfSome o (λ q. class_at b (k + 1) ≡ Some q.class)
  by k None is = tt
  by k (Some q) is = l.classes (k + 1) ∙ is

-- a simulation stands at notes at which so is seen
record Sighted (queues : List Queue) (s : Simulation) : Type 0 where
  pub rules : FrontRules
  pub late : Bool
  pub notes : Notes
  pub stands : StandsAt rules late notes s
  pub sees : Sees queues notes

sighted_behind : (queues : List Queue) (b : Simulation) (rules : FrontRules) (late : Bool) (notes : Notes)
    → StandsBehind rules late notes b.machine.front.controller b.machine.front.pool.items → Sees queues notes → Sighted queues b
sighted_behind queues b rules late notes later sees =
    record { rules = rules; late = late; notes = later.later ++ notes; stands = later.stands; sees = sees_on queues notes (later.later ++ notes) (all_leave later.later notes later.quiet) sees }

quiet_sighted : (queues : List Queue) (a b : Simulation) → Quietly a.machine.front b.machine.front → Sighted queues a → Sighted queues b
quiet_sighted queues a b quiet x = sighted_behind queues b x.rules x.late x.notes (quiet x.rules x.late x.notes x.stands) x.sees

sighted_step : (queues : List Queue) (a b : Simulation) (h : Happening) → HasStepped a b h → Sighted queues a → Sighted queues b
sighted_step queues a b (Came queue) s x = quiet_sighted queues a b s.notes x
sighted_step queues a b Settled s x = quiet_sighted queues a b s.notes x
sighted_step queues a b (Finished command counted) s x = quiet_sighted queues a b s.notes x
sighted_step queues a b (Paused channel) s x = quiet_sighted queues a b s.notes x
sighted_step queues a b (Resumed channel) s x = quiet_sighted queues a b s.notes x
sighted_step queues a b Over s x = quiet_sighted queues a b s.notes x
sighted_step queues a b (Picked p) s x =
    sighted_behind queues b x.rules x.late (picked_notes x.notes p.pick) (s.notes x.rules x.late x.notes x.stands) (sees_on queues x.notes (picked_notes x.notes p.pick) (pick_leaves x.notes p.pick) x.sees)

sighted_goes : (queues : List Queue) (first s : Simulation) (past : List Moment) → Sighted queues first → IsRun first past s → Sighted queues s
unfolding IsRun
sighted_goes queues first s [] x same = subst (Sighted queues) (sym same) x
sighted_goes queues first s (m ∷ past) x goes =
    subst (Sighted queues) goes.0 (sighted_step queues m.before m.after m.told goes.1.0 (sighted_goes queues first m.before past x goes.1.1))

-- ---- the beginning
no_class : {c : Class} → None ≡ Some c → ⊥
no_class e = cc e

module _ (rules : FrontRules) (late : Bool) (notes : Notes) (c : Controller) (slots : List Slot) (s : Stands rules late notes c slots) where
  idle_first : seen_in notes 0 ≡ Some (record { qid = 0; class = Admin; count = 0 }) → IdleAdmin notes
  idle_first seen = by (open_sq (logged notes) 0) refl seen
    where
      by : (o : Option Open) → open_sq (logged notes) 0 ≡ o → option_map (shown_as notes 0) o ≡ Some (record { qid = 0; class = Admin; count = 0 }) → IdleAdmin notes
      by None is e = absurd (cc e)
      by (Some queue) is e =
          let on : queue.region ≡ 0 = same_Some queue.region 0 (sym (s.holds.lives.sqs 0 queue is) ∙ s.numbers.sqs.ids.admin) in
          let count : cond (is_held notes 0) 0 (length (waiting (logged notes) queue.region)) ≡ 0 = ap (λ (x : Seen). x.count) (same_Some (shown_as notes 0 queue) _ e) in
          record { queue = queue; is = is; on = on; none = subst (λ (r : ℕ). cond (is_held notes 0) 0 (length (waiting (logged notes) r)) ≡ 0) on count }

  none_beyond : (qid : ℕ) → queue_limit ≤ qid → class_at notes qid ≡ None
  none_beyond qid past = by (open_sq (logged notes) qid) refl
    where
      by : (o : Option Open) → open_sq (logged notes) qid ≡ o → option_map (λ (x : Seen). x.class) (option_map (shown_as notes qid) o) ≡ None
      by None is = refl
      by (Some queue) is = absurd (let few = s.holds.queues.few qid queue is in omega (arith, few, past))

sighted_new : (model : Model) (s : Simulation) → IsNewOf model s → Sighted model.queues.items s
sighted_new model s new = record {
  rules = f.rules;
  late = f.late;
  notes = f.notes;
  stands = f.stands;
  sees = record {
    admin = idle_first f.rules f.late f.notes s.machine.front.controller s.machine.front.pool.items f.stands (new.alone.admin f.rules f.late f.notes f.stands);
    model = λ k. by k (slice_get model.queues.items k) (new.queues k);
    others = λ k past. elim (cases_lt (k + 1) queue_limit) [
      | inl l ↦ ap (option_map (λ (x : Seen). x.class)) (new.alone.none (k + 1) (omega (arith, past)) l f.rules f.late f.notes f.stands)
      | inr beyond ↦ none_beyond f.rules f.late f.notes s.machine.front.controller s.machine.front.pool.items f.stands (k + 1) beyond
    ];
  };
} where
  f : IsFrontOf model.mechanism model.settings s.machine.front
  f = new.front

  by : (k : ℕ) (o : Option Queue) → IfSome o (λ q. Shows s.machine.front (k + 1) q.class) → IfSome o (λ q. class_at f.notes (k + 1) ≡ Some q.class)
  by k None is = tt
  by k (Some q) is = ap (option_map (λ (x : Seen). x.class)) (is f.rules f.late f.notes f.stands)

-- ---- identifiers
or_true : (b : Bool) → (b || true) ≡ true
or_true true = refl
or_true false = refl

ids_have : (first k : ℕ) (classes : List Class) (c class : Class) → slice_get classes k ≡ Some c → c ≡ class
    → list_any (λ (i : ℕ). first + k == i) (ids_from first classes class) ≡ true
unfolding ids_from
ids_have first k [] c class at is = absurd (cc at)
ids_have first zero (x ∷ xs) c class at is =
    let own : (number_of_class x == number_of_class class) ≡ true = eq-eqb (number_of_class x) (number_of_class class) (ap number_of_class (same_Some x c at ∙ is)) in
    let here : (first + 0 == first) ≡ true = eq-eqb (first + 0) first (omega arith) in
    ap (λ (b : Bool). list_any (λ (i : ℕ). first + 0 == i) (cond b (first ∷ ids_from (first + 1) xs class) (ids_from (first + 1) xs class))) own
    ∙ ap (λ (b : Bool). b || list_any (λ (i : ℕ). first + 0 == i) (ids_from (first + 1) xs class)) here
ids_have first (suc k) (x ∷ xs) c class at is =
    let e : first + 1 + k ≡ first + suc k = omega arith in
    let more : list_any (λ (i : ℕ). first + suc k == i) (ids_from (first + 1) xs class) ≡ true =
    subst (λ (n : ℕ). list_any (λ (i : ℕ). n == i) (ids_from (first + 1) xs class) ≡ true) e (ids_have (first + 1) k xs c class at is) in
    by (number_of_class x == number_of_class class) more
  where
    by : (b : Bool) → list_any (λ (i : ℕ). first + suc k == i) (ids_from (first + 1) xs class) ≡ true
        → list_any (λ (i : ℕ). first + suc k == i) (cond b (first ∷ ids_from (first + 1) xs class) (ids_from (first + 1) xs class)) ≡ true
    by true more = ap (λ (b : Bool). (first + suc k == first) || b) more ∙ or_true (first + suc k == first)
    by false more = more

-- a queue that is seen ready in a class is one of the model's
listed : (queues : List Queue) (notes : Notes) (class : Class) (v : Seen) → Sees queues notes → seen_in notes v.qid ≡ Some v
    → (is_class class v.class && nat_lt 0 v.count) ≡ true → list_any (λ (i : ℕ). v.qid == i) (ids_of queues class) ≡ true
listed queues notes class v s seen ready = by v.qid refl
  where
    of : (k : ℕ) (o : Option Queue) → slice_get queues k ≡ o → IfSome o (λ q. class_at notes (k + 1) ≡ Some q.class) → v.qid ≡ k + 1
        → list_any (λ (i : ℕ). v.qid == i) (ids_of queues class) ≡ true
    of k None at is id =
        let none : class_at notes (k + 1) ≡ None = s.others k (past_end queues k at) in
        absurd (no_class (sym none ∙ ap (class_at notes) (sym id) ∙ ap (option_map (λ (x : Seen). x.class)) seen))
    of k (Some q) at is id =
        let its : v.class ≡ q.class = same_Some v.class q.class (sym (ap (option_map (λ (x : Seen). x.class)) seen) ∙ ap (class_at notes) id ∙ is) in
        let same : class ≡ q.class = same_class class v.class (both (is_class class v.class) (nat_lt 0 v.count) ready).0 ∙ its in
        let there : slice_get (map (λ (x : Queue). x.class) queues) k ≡ Some q.class = slice_get-map (λ (x : Queue). x.class) queues k ∙ ap (option_map (λ (x : Queue). x.class)) at in
        let e : 1 + k ≡ v.qid = omega (arith, id) in
        subst (λ (n : ℕ). list_any (λ (i : ℕ). n == i) (ids_of queues class) ≡ true) e (ids_have 1 k (map (λ (x : Queue). x.class) queues) q.class class there (sym same))

    by : (n : ℕ) → v.qid ≡ n → list_any (λ (i : ℕ). v.qid == i) (ids_of queues class) ≡ true
    by zero id =
        let shown : Some (shown_as notes 0 s.admin.queue) ≡ Some v = ap (option_map (shown_as notes 0)) (sym s.admin.is) ∙ ap (seen_in notes) (sym id) ∙ seen in
        let count : cond (is_held notes 0) 0 (length (waiting (logged notes) s.admin.queue.region)) ≡ v.count = ap (λ (x : Seen). x.count) (same_Some _ v shown) in
        let none : v.count ≡ 0 = sym count ∙ ap (λ (r : ℕ). cond (is_held notes 0) 0 (length (waiting (logged notes) r))) s.admin.on ∙ s.admin.none in
        absurd (let some = (both (is_class class v.class) (nat_lt 0 v.count) ready).1 in grind (arith, nat_tests, some, none))
    by (suc k) id = of k (slice_get queues k) refl (s.model k) (omega (arith, id))

-- what arbitration sees is what the board has
board_seen : (rules : FrontRules) (late : Bool) (notes : Notes) (c : Controller) (slots : List Slot) → Stands rules late notes c slots
    → seen_of (board_of c.board).queues ≡ observed_of notes
board_seen rules late notes c slots s =
    ap (λ (b : BoardView). seen_of b.queues) s.numbers.board_is ∙ seen_is_observed notes s.content s.holds.regions s.holds.queues s.shown

-- each queue that it sees is the one of its identifier
module _ (notes : Notes) where
  abbrev IsShown : Seen → Type 0
  IsShown v = seen_in notes v.qid ≡ Some (shown notes v)

  of_one : (q : ℕ) (o : Option Open) → open_sq (logged notes) q ≡ o → All IsShown (seen_as (logged notes) q o)
  of_one q None is = All-nil IsShown
  of_one q (Some queue) is =
      All-cons IsShown (record { qid = q; class = queue.class; count = length (waiting (logged notes) queue.region) }) [] (ap (option_map (shown_as notes q)) is) (All-nil IsShown)

  of_all : (qs : List ℕ) → All IsShown (flat_map (λ (q : ℕ). seen_as (logged notes) q (open_sq (logged notes) q)) qs)
  of_all [] = All-nil IsShown
  of_all (q ∷ qs) =
      All-append IsShown (seen_as (logged notes) q (open_sq (logged notes) q)) (flat_map (λ (p : ℕ). seen_as (logged notes) p (open_sq (logged notes) p)) qs)
      (of_one q (open_sq (logged notes) q) refl) (of_all qs)

  each_seen : All (λ (v : Seen). seen_in notes v.qid ≡ Some v) (observed_of notes)
  each_seen = All-map (λ (v : Seen). seen_in notes v.qid ≡ Some v) (shown notes) (observation_of (logged notes)) (of_all (upto queue_limit))

-- so it is at all notes at which the controller stands
among : (queues : List Queue) (s : Simulation) → Sighted queues s → SeesAmong (ids_of queues) s
among queues s x rules late notes stands class =
    subst (λ (vs : List Seen). All (λ (v : Seen). list_any (λ (i : ℕ). v.qid == i) (ids_of queues class) ≡ true) (ready_of class vs)) same own
  where
    c : Controller
    c = s.machine.front.controller

    slots : List Slot
    slots = s.machine.front.pool.items

    same : observed_of x.notes ≡ observed_of notes
    same = sym (board_seen x.rules x.late x.notes c slots x.stands) ∙ board_seen rules late notes c slots stands

    is_ready : Seen → Bool
    is_ready v = is_class class v.class && nat_lt 0 v.count

    own : All (λ (v : Seen). list_any (λ (i : ℕ). v.qid == i) (ids_of queues class) ≡ true) (ready_of class (observed_of x.notes))
    own i d l =
        listed queues x.notes class (get_or (ready_of class (observed_of x.notes)) i d) x.sees
        (All-filter is_ready (λ (v : Seen). seen_in x.notes v.qid ≡ Some v) (observed_of x.notes) (each_seen x.notes) i d l)
        (filter_passes is_ready (observed_of x.notes) i d l)

pub only_queues_are_ready : OnlyQueuesAreReady
only_queues_are_ready model first s past new run =
    among model.queues.items s (sighted_goes model.queues.items first s past (sighted_new model first new) run)
