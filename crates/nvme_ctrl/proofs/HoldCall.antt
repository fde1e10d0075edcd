-- The device holds a queue, holds it no longer, or sets its class: the controller stands at its log with the note.
use Rattle.std.proofs.Common.{◌≡◌, ◌≢◌, ℕ, ◌<◌, ◌==◌, Bool, true, false, if◌then◌else◌, List, ◌∷◌, length, Option, Some, None, refl, sym, ap, ◌∙◌, subst, arith, inl, inr, is_some}
use Rattle.std.specs.Prelude.{slice_set, option_map, unwrap_or, min, IsTrue}
use Rattle.std.proofs.lemmas.Bool.{cases_eq, eq-eqb, eqb-true, eqb-false}
use Rattle.std.proofs.lemmas.List.{set-get_or}
use Rattle.std.proofs.lemmas.Option.{same_Some}
use Rattle.nvme_arbiter.specs.Settings.{ArbitrationFields}
use Rattle.nvme_arbiter.specs.History.{History}
use Rattle.nvme_arbiter.specs.Board.{BoardView, BoardStandsAt}
use Rattle.nvme_arbiter.specs.Layout.{is_arbiter, board_of}
use Rattle.nvme_arbiter.specs.Queues.{queue_at}
use Rattle.nvme_arbiter.specs.declared.arbiter_fields.ArbiterFields.{ArbiterFields}
use Rattle.nvme_arbiter.specs.declared.board_fields.BoardFields.{BoardFields}
use Rattle.nvme_arbiter.specs.declared.pick.OpenQueue.{OpenQueue}
use Rattle.nvme_arbiter.specs.declared.settings.Class.{Class}
use Rattle.nvme_arbiter.specs.declared.settings.Class.TheVariants.{Admin}
use Rattle.nvme_arbiter.specs.declared.settings.Mechanism.{Mechanism}
use Rattle.nvme_log.specs.Rules.{FrontRules, Past}
use Rattle.nvme_log.specs.Places.{fetched}
use Rattle.nvme_log.specs.Queues.{Queue, open_sq}
use Rattle.nvme_log.specs.Histories.{arbitration_of}
use Rattle.nvme_ctrl_log.specs.Notes.{Notes, Held, Classed, logged}
use Rattle.nvme_ctrl_log.specs.Doorbells.{submitted}
use Rattle.nvme_ctrl_log.specs.Observation.{is_held, class_set}
use Rattle.nvme_ctrl_log.specs.Account.{MayBeHeld, MayBeClassed}
use Rattle.nvme_slots.specs.declared.slot.Slot.{Slot}
use Rattle.nvme_ctrl.specs.declared.state.SqState.{SqState}
use Rattle.nvme_ctrl.specs.declared.state.Controller.{Controller}
use Rattle.nvme_ctrl_content.specs.Content.{PendingDelete, Content, put_held, put_class}
use Rattle.nvme_ctrl.specs.kept.Kept.{HasNumbers, HasItems, HoldsDoorbells, StandsAt, shown_in}
use Rattle.nvme_ctrl_content.specs.Standing.{HoldsReady, HoldsDeletion, HoldsQueues, IsPending, Holds, hand_of, on_board}
use Rattle.nvme_ctrl.specs.kept.State.{no_sq_state, sq_at}
use Rattle.nvme_ctrl.specs.inside.Fetching.{waiting_in}
use Rattle.nvme_ctrl.proofs.Cookies.{cookies_later}
use Rattle.nvme_ctrl.proofs.DoorbellCalls.{sq_lives, sq_there}
use Rattle.nvme_ctrl.proofs.FetchCalls.{waiting_are}
use Rattle.nvme_ctrl.proofs.Passed.{passed_later}
use Rattle.nvme_ctrl_content.proofs.QueueChanges.{apart_queues, arrange}
use Rattle.nvme_ctrl_content.proofs.QueueSteps.{agreement, holds_queues}
use Rattle.nvme_ctrl_content.proofs.QueueWords.{in_log, in_content, counted}
use Rattle.nvme_ctrl_log.proofs.QueueWords.{at_same, at_other}
use Rattle.nvme_ctrl.proofs.PendingDeletions.{deletions_kept}
use Rattle.nvme_ctrl.proofs.QueueStates.{put_sqs, sq_changed, shown_put, waiting_kept, rings_kept}
use Rattle.nvme_ctrl.proofs.QueueSets.{rung-kept}

-- another number for whether a queue is held
abbrev pub held_state : SqState → ℕ → SqState
held_state sq h = record sq { held = h }

abbrev pub arranged : Controller → (q h : ℕ) → BoardFields → Controller
arranged c q h board = record c { board = board; sqs = slice_set c.sqs q (held_state (sq_at c.sqs q) h) }

-- the same in its place leaves it
put_held-same : (held : ℕ → Bool) (r x : ℕ) → put_held held r (held r) x ≡ held x
put_held-same held r x = elim (cases_eq x r) [
  | inl same ↦ at_same x r (held r) (held x) same ∙ ap held (sym same)
  | inr other ↦ at_other x r (held r) (held x) other
]

put_class-same : (classed : ℕ → Option Class) (r x : ℕ) → put_class classed r (classed r) x ≡ classed x
put_class-same classed r x = elim (cases_eq x r) [
  | inl same ↦ at_same x r (classed r) (classed x) same ∙ ap classed (sym same)
  | inr other ↦ at_other x r (classed r) (classed x) other
]

-- an open queue is on the board
pub open_is_shown : (rules : FrontRules) (late : Bool) (notes : Notes) (c : Controller) (slots : List Slot) → StandsAt rules late notes c slots → (q : ℕ) → queue_at (board_of c.board).queues q ≡ None
    → (queue : Queue) → open_sq (logged notes) q ≡ Some queue → ⊥
open_is_shown rules late notes c slots s q none queue is_open =
    let here = ap (λ (b : BoardView). queue_at b.queues q) s.numbers.board_is ∙ s.holds.queues.board q ∙ ap (option_map (on_board s.content)) is_open in
    absurd (cc (none, here))

module _ (rules : FrontRules) (late : Bool) (notes : Notes) (c : Controller) (slots : List Slot) (s : StandsAt rules late notes c slots)
    (q : ℕ) (queue : Queue) (is_open : open_sq (logged notes) q ≡ Some queue)
    (on : Bool) (class : Option Class) (h : ℕ) (h_is : (h == 1) ≡ on) (board : BoardFields)
    (shows : board_of board ≡ record (board_of c.board) {
      queues = slice_set (board_of c.board).queues q (Some (record { class = unwrap_or class queue.class; count = if on then 0 else length (s.content.sq queue.region).window }));
    })
    (arbiter : board.arbiter ≡ c.board.arbiter)
    (stands : (mechanism : Mechanism) (first : ArbitrationFields) (past : History) → BoardStandsAt mechanism first past (board_of c.board) → BoardStandsAt mechanism first past (board_of board)) where
  abbrev k : Content
  k = s.content

  abbrev past : Past
  past = logged notes

  abbrev r : ℕ
  r = queue.region

  abbrev now : Content
  now = record k {
    board = record k.board { queues = slice_set k.board.queues q (Some (counted (put_held k.held r on) (put_class k.classed r class) k.sq queue)) };
    held = put_held k.held r on;
    classed = put_class k.classed r class;
  }

  abbrev after : Controller
  after = arranged c q h board

  life : k.sq_life q ≡ Some r
  life = sq_lives rules late notes c slots s q queue is_open

  there : q < length c.sqs
  there = sq_there rules late notes c slots s q queue is_open

  shown_is : Some (record { class = unwrap_or class queue.class; count = if on then 0 else length (k.sq r).window }) ≡ Some (counted (put_held k.held r on) (put_class k.classed r class) k.sq queue)
  shown_is = rw (eq-eqb r r refl) refl

  board_is : board_of board ≡ now.board
  board_is =
      shows
      ∙ ap (λ (o : Option OpenQueue). record (board_of c.board) { queues = slice_set (board_of c.board).queues q o }) shown_is
      ∙ ap (λ (b : BoardView). record b { queues = slice_set b.queues q (Some (counted (put_held k.held r on) (put_class k.classed r class) k.sq queue)) }) s.numbers.board_is

  -- ---- what is kept
  queues_now : HoldsQueues past now
  queues_now = holds_queues past now (arrange (in_log past) (in_content k) (agreement rules late past k s.holds) q queue on class is_open) s.holds.queues.sqs s.holds.queues.cqs s.holds.queues.unused

  ready_now : HoldsReady past now (hand_of now)
  ready_now = let m = s.holds.ready in record {
    once = m.once;
    each = m.each;
    taken = m.taken;
    none_beyond = m.none_beyond;
    admin_qid = m.admin_qid;
    admin_region = m.admin_region;
  }

  pending_now : (x : ℕ) (d : PendingDelete) → IsPending past k x d → IsPending past now x d
  pending_now x d p = record {
    at = p.at;
    closing = p.closing;
    in_table = p.in_table;
    is_closing = p.is_closing;
    region = p.region;
    of_admin = p.of_admin;
    entry = p.entry;
    is_there = p.is_there;
    cid = p.cid;
    not_aborted = p.not_aborted;
    none_waits = p.none_waits;
    not_closed = p.not_closed;
    not_admin = p.not_admin;
    attached = p.attached;
  }

  deletion_now : HoldsDeletion past now
  deletion_now = let m = s.holds.deletion in record {
    place_is = m.place_is;
    stands = λ x d e. pending_now x d (m.stands x d e);
  }

  board_stands_now : BoardStandsAt rules.mechanism rules.start.settings (arbitration_of past) now.board
  board_stands_now =
      subst (λ (b : BoardView). BoardStandsAt rules.mechanism rules.start.settings (arbitration_of past) b) board_is
      (stands rules.mechanism rules.start.settings (arbitration_of past)
      (subst (λ (b : BoardView). BoardStandsAt rules.mechanism rules.start.settings (arbitration_of past) b) (sym s.numbers.board_is) s.holds.arbitration.stands))

  holds_now : Holds rules late past now
  holds_now = let m = s.holds in record {
    regions = m.regions;
    ready = ready_now;
    hand = record { each = m.hand.each };
    counts = record { unposted = m.counts.unposted; outstanding_is = m.counts.outstanding_is };
    posts = record { posted_is = m.posts.posted_is; counted = m.posts.counted };
    queues = queues_now;
    deletion = deletion_now;
    lives = (let l = m.lives in record { sqs = l.sqs; deleted = l.deleted; cqs = l.cqs; not_closed = l.not_closed; unopened = l.unopened; named = l.named; in_table = l.in_table; there = l.there });
    arbitration = record { stands = board_stands_now; lawful = m.arbitration.lawful };
    tabled = (let t = m.tabled in record {
      history = t.history;
      table_is = t.table_is;
      few_queues = t.few_queues;
      in_time = t.in_time;
      placing = t.placing;
      history_is = t.history_is;
      sq_count = t.sq_count;
      cq_count = t.cq_count;
      sq_number = t.sq_number;
      cq_number = t.cq_number;
      sq_slots = t.sq_slots;
      cq_slots = t.cq_slots;
      sq_regions_are = t.sq_regions_are;
      cq_regions_are = t.cq_regions_are;
    });
    own = λ on_time. (let o = m.own on_time in record { effects_whole = o.effects_whole; own_statuses = o.own_statuses; own_deletion = o.own_deletion });
  }

  -- ---- what lies in memory
  abbrev state : SqState
  state = held_state (sq_at c.sqs q) h

  -- the queue was shown, and so the same are
  still_shown : (p : ℕ) → shown_in now.board p ≡ shown_in k.board p
  still_shown = shown_put k.board.queues q (Some (counted (put_held k.held r on) (put_class k.classed r class) k.sq queue))
      (sym (ap (λ (o : Option OpenQueue). is_some o) (s.holds.queues.board q ∙ ap (option_map (on_board k)) is_open)))

  numbers_now : HasNumbers after now
  numbers_now = let n = s.numbers in record {
    tells = n.tells;
    board_is = board_is;
    is_arbiter = subst (λ (a : ArbiterFields). IsTrue (is_arbiter a)) (sym arbiter) n.is_arbiter;
    outstanding_is = n.outstanding_is;
    sqs = (let m = n.sqs.each q r life in put_sqs c k n q r life state c.rung k.sq (put_held k.held r on) (shown_in now.board)
        (sq_changed k.table k.cq_life q r (sq_at c.sqs q) state (k.sq r) (k.sq r) (k.held r) (put_held k.held r on r) (shown_in k.board q) (shown_in now.board q) m refl refl m.unposted refl refl
        (h_is ∙ sym (at_same r r on (k.held r) refl)) (m.shown ∙ sym (still_shown q)))
        (λ x other. refl) (λ x other. at_other x r on (k.held x) other) (λ p other. still_shown p) (rung-kept c.rung q c.sqs state there n.sqs.rung (λ same. same)));
    cqs = n.cqs;
  }

  items_now : HasItems after slots now s.items
  items_now = let m = s.has in record {
    windows = waiting_kept c.sqs c.picked c.picked_qid slots k.sq_life k.sq_id (λ (x : ℕ). (k.sq x).window) s.items.windows q state there refl m.windows;
    outs = m.outs;
    readies = m.readies;
    deletions = deletions_kept c.sqs c.pending_deletions slots k.sq_life k.deletion s.items.deletes q state there refl refl m.deletions;
    free = m.free;
    few = m.few;
  }

  doorbells_now : HoldsDoorbells rules notes after now
  doorbells_now = let d = s.doorbells in record {
    sqs = rings_kept c.sqs k.sq_life (λ (x : ℕ). (k.sq x).queue) (fetched past) (submitted rules notes) q state there refl d.sqs;
    cqs = d.cqs;
  }

  -- ---- what is shown
  -- another open queue has another region
  apart : (p : ℕ) (other : Queue) → open_sq past p ≡ Some other → (q == p) ≡ false → other.region ≢ r
  apart p other is_other differs = apart_queues (in_log past) (in_content k) (agreement rules late past k s.holds) q p queue other is_open is_other (λ e. eqb-false q p differs (sym e))

  same_queue : (p : ℕ) (other : Queue) → open_sq past p ≡ Some other → (q == p) ≡ true → other.region ≡ r
  same_queue p other is_other same = ap (λ (z : Queue). z.region) (same_Some other queue (sym is_other ∙ ap (open_sq past) (sym (eqb-true q p same)) ∙ is_open))

  held_now : (p : ℕ) (other : Queue) → open_sq past p ≡ Some other → put_held k.held r on other.region ≡ (if q == p then on else is_held notes p)
  held_now p other is_other = by (q == p) refl where
    by : (b : Bool) → (q == p) ≡ b → put_held k.held r on other.region ≡ (if b then on else is_held notes p)
    by true e = at_same other.region r on (k.held other.region) (same_queue p other is_other e)
    by false e = at_other other.region r on (k.held other.region) (apart p other is_other e) ∙ s.shown.held p other is_other

  classed_now : (p : ℕ) (other : Queue) → open_sq past p ≡ Some other → put_class k.classed r class other.region ≡ (if q == p then class else class_set notes p)
  classed_now p other is_other = by (q == p) refl where
    by : (b : Bool) → (q == p) ≡ b → put_class k.classed r class other.region ≡ (if b then class else class_set notes p)
    by true e = at_same other.region r class (k.classed other.region) (same_queue p other is_other e)
    by false e = at_other other.region r class (k.classed other.region) (apart p other is_other e) ∙ s.shown.classed p other is_other

  -- ---- the controller stands at its log with the note
  -- that the queue is held, or is held no longer
  pub held_stands : class ≡ k.classed r → StandsAt rules late (Held q on ∷ notes) after slots
  held_stands left = record {
    content = now;
    items = s.items;
    holds = holds_now;
    numbers = numbers_now;
    has = items_now;
    doorbells = (let d = doorbells_now in record { sqs = d.sqs; cqs = d.cqs });
    tags = (let t = s.tags in record {
      untaken_are = t.untaken_are;
      held = t.held;
      through = t.through;
      unanswered = t.unanswered;
      hand_entries = t.hand_entries;
      free_count = t.free_count;
      cookies = cookies_later notes (Held q on ∷ notes) slots s.items (λ x i. refl) (λ x. refl) t.cookies;
      passed = passed_later notes (Held q on ∷ notes) s.items (λ i. refl) refl (λ i waits. waits) t.passed;
      flagged = t.flagged;
    });
    shown = record {
      held = held_now;
      classed = λ p other is_other. ap (λ (o : Option Class). put_class k.classed r o other.region) left ∙ put_class-same k.classed r other.region ∙ s.shown.classed p other is_other;
    };
    ordered = s.ordered;
    regions = record { sqs = s.regions.sqs; cqs = s.regions.cqs };
    account = λ on_time. (let a = s.account on_time in record { each = (record { queue = queue; is_open = is_open }, a.each); lawful = a.lawful; effects_whole = a.effects_whole });
  }

  -- and that its class is set
  pub classed_stands : (io : q ≢ 0) (given : Class) → given ≢ Admin → class ≡ Some given → on ≡ k.held r → StandsAt rules late (Classed q given ∷ notes) after slots
  classed_stands io given class_of_io is left = record {
    content = now;
    items = s.items;
    holds = holds_now;
    numbers = numbers_now;
    has = items_now;
    doorbells = (let d = doorbells_now in record { sqs = d.sqs; cqs = d.cqs });
    tags = (let t = s.tags in record {
      untaken_are = t.untaken_are;
      held = t.held;
      through = t.through;
      unanswered = t.unanswered;
      hand_entries = t.hand_entries;
      free_count = t.free_count;
      cookies = cookies_later notes (Classed q given ∷ notes) slots s.items (λ x i. refl) (λ x. refl) t.cookies;
      passed = passed_later notes (Classed q given ∷ notes) s.items (λ i. refl) refl (λ i waits. waits) t.passed;
      flagged = t.flagged;
    });
    shown = record {
      held = λ p other is_other. ap (λ (b : Bool). put_held k.held r b other.region) left ∙ put_held-same k.held r other.region ∙ s.shown.held p other is_other;
      classed = λ p other is_other. classed_now p other is_other ∙ ap (λ (o : Option Class). if q == p then o else class_set notes p) is;
    };
    ordered = s.ordered;
    regions = record { sqs = s.regions.sqs; cqs = s.regions.cqs };
    account = λ on_time. (let a = s.account on_time in record {
      each = (record { queue = queue; is_open = is_open; io = io; class_of_io = class_of_io }, a.each);
      lawful = a.lawful;
      effects_whole = a.effects_whole;
    });
  }

-- ---- the open queue
-- a queue that is on the board is open in the log
pub record IsOpenOn (notes : Notes) (k : Content) (q : ℕ) (seen : OpenQueue) : Type 0 where
  pub queue : Queue
  pub is_open : open_sq (logged notes) q ≡ Some queue
  pub shown : seen ≡ on_board k queue

open_on_board : (notes : Notes) (k : Content) (q : ℕ) (seen : OpenQueue) (o : Option Queue) → open_sq (logged notes) q ≡ o → Some seen ≡ option_map (on_board k) o → IsOpenOn notes k q seen
open_on_board notes k q seen None is h = absurd (cc h)
open_on_board notes k q seen (Some queue) is h = record { queue = queue; is_open = is; shown = same_Some seen (on_board k queue) h }

module _ (rules : FrontRules) (late : Bool) (notes : Notes) (c : Controller) (slots : List Slot) (s : StandsAt rules late notes c slots) (q : ℕ) where
  on_board_is : queue_at (board_of c.board).queues q ≡ option_map (on_board s.content) (open_sq (logged notes) q)
  on_board_is = ap (λ (b : BoardView). queue_at b.queues q) s.numbers.board_is ∙ s.holds.queues.board q

  pub is_open_on : (seen : OpenQueue) → queue_at (board_of c.board).queues q ≡ Some seen → IsOpenOn notes s.content q seen
  is_open_on seen is = open_on_board notes s.content q seen (open_sq (logged notes) q) refl (sym is ∙ on_board_is)

  -- so it may be held, and its class may be set
  pub may_be_held : (seen : OpenQueue) → queue_at (board_of c.board).queues q ≡ Some seen → MayBeHeld notes q
  may_be_held seen is = let it = is_open_on seen is in record { queue = it.queue; is_open = it.is_open }

  pub may_be_classed : (seen : OpenQueue) → queue_at (board_of c.board).queues q ≡ Some seen → q ≢ 0 → (class : Class) → class ≢ Admin → MayBeClassed notes q class
  may_be_classed seen is io class class_of_io = let it = is_open_on seen is in record { queue = it.queue; is_open = it.is_open; io = io; class_of_io = class_of_io }

-- a queue of a class, with a count
abbrev queue_with : Class → ℕ → OpenQueue
queue_with class count = record { class = class; count = count }

-- a queue of the board is shown in a class and with a count
abbrev pub IsShownOn : (old new : BoardFields) (q : ℕ) → OpenQueue → Type 0
IsShownOn old new q queue = board_of new ≡ record (board_of old) { queues = slice_set (board_of old).queues q (Some queue) }

-- its arbiter stands where it stood
abbrev pub StandsOn : (old new : BoardFields) → Type 0
StandsOn old new = (mechanism : Mechanism) (first : ArbitrationFields) (past : History) → BoardStandsAt mechanism first past (board_of old) → BoardStandsAt mechanism first past (board_of new)

-- ---- as they are called
-- a queue is held, or held no longer
pub hold_call : (rules : FrontRules) (late : Bool) (notes : Notes) (c : Controller) (slots : List Slot) (s : StandsAt rules late notes c slots) (q : ℕ) (seen : OpenQueue)
    (is : queue_at (board_of c.board).queues q ≡ Some seen) (on : Bool) (count h : ℕ) (board : BoardFields)
    → count ≡ (if on then 0 else min (waiting_in c q) 256) → h ≡ (if on then 1 else 0)
    → IsShownOn c.board board q (record { class = seen.class; count = count }) → board.arbiter ≡ c.board.arbiter → StandsOn c.board board
    → StandsAt rules late (Held q on ∷ notes) (arranged c q h board) slots
hold_call rules late notes c slots s q seen is on count h board count_is h_is shows arbiter stands =
    held_stands rules late notes c slots s q it.queue it.is_open on (s.content.classed it.queue.region) h (ap (λ (n : ℕ). n == 1) h_is ∙ told on) board
    (shows ∙ ap (λ (x : OpenQueue). record (board_of c.board) { queues = slice_set (board_of c.board).queues q (Some x) }) shown_is)
    arbiter stands refl
  where
    it : IsOpenOn notes s.content q seen
    it = is_open_on rules late notes c slots s q seen is

    told : (b : Bool) → ((if b then 1 else 0) == 1) ≡ b
    told true = refl
    told false = refl

    waits : min (waiting_in c q) 256 ≡ length (s.content.sq it.queue.region).window
    waits =
        let as_many = waiting_are rules late notes c slots s q it.queue.region (sq_lives rules late notes c slots s q it.queue it.is_open) in
        let few = (s.holds.regions it.queue.region).few_waiting in
        omega (arith, as_many, few)

    shown_is : queue_with seen.class count ≡ queue_with (unwrap_or (s.content.classed it.queue.region) it.queue.class) (if on then 0 else length (s.content.sq it.queue.region).window)
    shown_is = λ t. queue_with (it.shown t).class ((count_is ∙ ap (λ (n : ℕ). if on then 0 else n) waits) t)

-- the class of a queue is set
pub class_call : (rules : FrontRules) (late : Bool) (notes : Notes) (c : Controller) (slots : List Slot) (s : StandsAt rules late notes c slots) (q : ℕ) (seen : OpenQueue)
    (is : queue_at (board_of c.board).queues q ≡ Some seen) (io : q ≢ 0) (class : Class) (class_of_io : class ≢ Admin) (board : BoardFields)
    → IsShownOn c.board board q (record { class = class; count = seen.count }) → board.arbiter ≡ c.board.arbiter → StandsOn c.board board
    → StandsAt rules late (Classed q class ∷ notes) (record c { board = board }) slots
class_call rules late notes c slots s q seen is io class class_of_io board shows arbiter stands =
    subst (λ (sqs : List SqState). StandsAt rules late (Classed q class ∷ notes) (record c { board = board; sqs = sqs }) slots) (set-get_or c.sqs q no_sq_state)
    (classed_stands rules late notes c slots s q it.queue it.is_open (s.content.held it.queue.region) (Some class) (sq_at c.sqs q).held
    (s.numbers.sqs.each q it.queue.region (sq_lives rules late notes c slots s q it.queue it.is_open)).held board
    (shows ∙ ap (λ (n : ℕ). record (board_of c.board) { queues = slice_set (board_of c.board).queues q (Some (record { class = class; count = n })) }) (ap (λ (x : OpenQueue). x.count) it.shown))
    arbiter stands io class class_of_io refl refl)
  where
    it : IsOpenOn notes s.content q seen
    it = is_open_on rules late notes c slots s q seen is
