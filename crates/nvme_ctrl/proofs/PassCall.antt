-- A pick of the admin queue whose command is passed on to the device: the controller stands at its log afterwards.
use Rattle.std.proofs.Common.{◌||◌, ◌&&◌, ◌==◌, eqb-true, ◌≡◌, ℕ, Bool, true, false, List, [], ◌∷◌, ◌++◌, map, take, Option, Some, None, inr, refl, sym, ap, ◌∙◌, subst, not}
use Rattle.std.specs.Prelude.{slice_get, IsTrue}
use Rattle.std.specs.List.{All}
use Rattle.std.proofs.lemmas.Bool.{eq-eqb, or_left}
use Rattle.std.proofs.lemmas.List.{append-nil}
use Rattle.std.proofs.lemmas.List.Elements.{All-head, All-same, All-append, All-cons, All-nil, All-weaker}
use Rattle.nvme_arbiter.specs.Settings.{ArbitrationFields}
use Rattle.nvme_arbiter.specs.History.{History, Picked}
use Rattle.nvme_arbiter.specs.Lawful.{IsLimitedPick}
use Rattle.nvme_arbiter.specs.Queues.{seen_of}
use Rattle.nvme_arbiter.specs.Layout.{is_arbiter, board_of}
use Rattle.nvme_arbiter.specs.Board.{BoardStandsAt, queues_after}
use Rattle.nvme_arbiter.specs.declared.settings.Mechanism.{Mechanism}
use Rattle.nvme_arbiter.specs.declared.pick.Pick.{Pick}
use Rattle.nvme_arbiter.specs.declared.board_fields.BoardFields.{BoardFields}
use Rattle.nvme_log.specs.declared.event.Event.TheVariants as event
use Rattle.nvme_log.specs.declared.place.Place.{Place}
use Rattle.nvme_log.specs.Rules.{FrontRules, Past}
use Rattle.nvme_log.specs.Queues.{Queue, admin_queue, open_sq}
use Rattle.nvme_ctrl.specs.inside.Loose.{Keeps}
use Rattle.nvme_ctrl_content.specs.Steps.{CanPick}
use Rattle.nvme_ctrl.proofs.Standable.{keeps_standing}
use Rattle.nvme_log.specs.Places.{waiting, entry_at, fate_of, is_waiting, is_aborted}
use Rattle.nvme_log.specs.Dispatches.{place_at, dispatched_by}
use Rattle.nvme_log.proofs.Turns.{stays}
use Rattle.nvme_ctrl_log.specs.Notes.{Notes, Passed, logged}
use Rattle.nvme_ctrl_log.specs.Observation.{observed_of}
use Rattle.nvme_ctrl_log.specs.Own.{may_be_own}
use Rattle.nvme_ctrl_log.specs.Tags.{is_passed, handed, taken, answer_of}
use Rattle.nvme_ctrl_log.specs.Account.{IsPassed}
use Rattle.nvme_ctrl.specs.Steps.{HasPassed}
use Rattle.nvme_ctrl_log.specs.Steps.{picked_notes}
use Rattle.nvme_slots.specs.declared.slot.Slot.{Slot}
use Rattle.nvme_ctrl.specs.declared.state.Controller.{Controller}
use Rattle.nvme_ctrl_content.specs.Content.{Candidate, Content, Ready}
use Rattle.nvme_ctrl_content.specs.Standing.{Holds, IsInHand, hand_of}
use Rattle.nvme_ctrl.specs.kept.Kept.{Item, Items, IsWaitingIn, IsUnanswered, IsDevices, HasEntry, HoldsDoorbells, HoldsPassed, HoldsTags, StandsAt, candidate_of, places_of, tags_of, untaken, IsReadyOf, ReadyItem, is_passed_at, DeleteItem, deletion_in}
use Rattle.nvme_ctrl.specs.inside.Picks.{oldest_entry}
use Rattle.nvme_ctrl.proofs.AdminCall.{queue_is, one, can_admin, oldest, linked, window_is, first, unanswered_all}
use Rattle.nvme_ctrl_content.proofs.AfterSteps.{after_io}
use Rattle.nvme_ctrl.proofs.CarriedOut.{was_picked}
use Rattle.nvme_ctrl.proofs.Cookies.{cookies_later}
use Rattle.nvme_ctrl_content.proofs.HandSteps.{hand_done}
use Rattle.nvme_ctrl_content.proofs.NextEvents.{next-io}
use Rattle.nvme_ctrl_content.proofs.OwnStatus.{candidates_wait, oldest_waits, All-unmap, IsAnswerable, answerable_is_done, ready_is_answerable}
use Rattle.nvme_ctrl.proofs.PickCall.{after_pick_io, due, can, attached, none_untaken, picked_items, pick-numbers, pick-items, pick-doorbells, saw, admin_next}
use Rattle.nvme_ctrl.proofs.SlotItems.{All-parts, All-both}
use Rattle.nvme_ctrl_content.proofs.Standing.{holds-io}
use Rattle.nvme_ctrl_log.proofs.HandedPicks.{IsPassing}
use Rattle.nvme_ctrl_content.proofs.Oldest.{admin_entry_is}
use Rattle.nvme_slots.proofs.Pools.{linked-head}
use Rattle.nvme_slots.specs.Pool.{slot_at}
use Rattle.nvme_ctrl.specs.kept.State.{sq_at}
use Rattle.nvme_ctrl.proofs.PendingDeletions.{deletion_item}
use Rattle.nvme_ctrl_content.proofs.DeletedQueues.{deletion_done}

module _ (rules : FrontRules) (late : Bool) (notes : Notes) (c : Controller) (slots : List Slot) (s : StandsAt rules late notes c slots)
    (none : c.picked ≡ 0) (pick : Pick) (board : BoardFields)
    (lawful : (m : Mechanism) (first : ArbitrationFields) (h : History) → BoardStandsAt m first h (board_of c.board) → IsLimitedPick m first h (seen_of (board_of c.board).queues) pick)
    (stands : (m : Mechanism) (first : ArbitrationFields) (h : History) → BoardStandsAt m first h (board_of c.board) → BoardStandsAt m first (Picked (seen_of (board_of c.board).queues) pick ∷ h) (board_of board))
    (queues : (board_of board).queues ≡ queues_after (board_of c.board).queues pick)
    (arbiter : IsTrue (is_arbiter board.arbiter))
    (first_is : pick.qid ≡ 0)
    (may : may_be_own (logged notes) (oldest_entry c slots) ≡ true) where
  abbrev k : Content
  k = s.content

  abbrev g : Items
  g = s.items

  abbrev now : Past
  now = logged notes

  pub one_is : pick.n ≡ 1
  one_is = one rules late notes c slots s none pick board lawful stands queues arbiter first_is

  pub keeps : Keeps rules notes c slots k g
  keeps = keeps_standing rules late notes c slots s

  pub can_be : CanPick rules (logged notes) k admin_queue pick (board_of board)
  can_be = can_admin rules late notes c slots s none pick board lawful stands queues arbiter first_is

  abbrev x : Item
  x = (oldest rules late notes c slots k g s.holds s.shown s.ordered s.account keeps none pick board can_be arbiter first_is one_is).first

  abbrev rest : List Item
  rest = (oldest rules late notes c slots k g s.holds s.shown s.ordered s.account keeps none pick board can_be arbiter first_is one_is).rest

  windows_are : g.windows 0 ≡ x ∷ rest
  windows_are = (oldest rules late notes c slots k g s.holds s.shown s.ordered s.account keeps none pick board can_be arbiter first_is one_is).is

  abbrev queue : Queue
  queue = (due rules late notes c slots s none pick board lawful stands queues arbiter).queue

  region_is : queue.region ≡ 0
  region_is = ap (λ (q : Queue). q.region) (queue_is rules late notes c slots s none pick board lawful stands queues arbiter first_is)

  abbrev new : Controller
  new = after_pick_io c board pick.qid pick.n

  abbrev after : Content
  after = after_io k queue pick.n (board_of board)

  abbrev i : ℕ
  i = x.place.index

  abbrev later : Notes
  later = Passed i ∷ picked_notes notes pick

  window_here : (k.sq 0).window ≡ candidate_of x ∷ map candidate_of rest
  window_here = window_is rules late notes c slots k g s.holds s.shown s.ordered s.account keeps none pick board can_be arbiter first_is one_is

  waits_there : IsWaitingIn slots 0 0 x
  waits_there = first rules late notes c slots k g s.holds s.shown s.ordered s.account keeps none pick board can_be arbiter first_is one_is

  -- it is the one that is looked at
  entry_is : x.entry ≡ oldest_entry c slots
  entry_is =
      let there = linked rules late notes c slots k g s.holds s.shown s.ordered s.account keeps none pick board can_be arbiter first_is one_is in
      let first_slot : (sq_at c.sqs 0).window.first ≡ x.tag = linked-head slots (sq_at c.sqs 0).window.first (sq_at c.sqs 0).window.last x.tag (tags_of rest) there.linked in
      sym (ap (λ (z : ℕ). (slot_at slots z).entry) first_slot ∙ waits_there.entry)

  place_is : x.place ≡ place_at 0 i
  place_is = λ j. record { region = waits_there.place j; index = x.place.index }

  -- it is the oldest that waits
  front : slice_get (waiting now 0) 0 ≡ Some i
  front = oldest_waits now 0 (k.sq 0) (candidate_of x) (map candidate_of rest) (s.holds.regions 0) window_here

  waited : is_waiting (fate_of now 0 i) ≡ true
  waited = All-head (λ (z : Candidate). is_waiting (fate_of now 0 z.index) ≡ true) (candidate_of x) (map candidate_of rest)
      (All-same (λ (z : Candidate). is_waiting (fate_of now 0 z.index) ≡ true) (candidate_of x ∷ map candidate_of rest) (k.sq 0).window (sym window_here) (candidates_wait now 0 (k.sq 0) (s.holds.regions 0)))

  entry_there : entry_at now 0 i ≡ Some x.entry
  entry_there = All-head (λ (z : Candidate). entry_at now 0 z.index ≡ Some z.entry) (candidate_of x) (map candidate_of rest)
      (All-same (λ (z : Candidate). entry_at now 0 z.index ≡ Some z.entry) (candidate_of x ∷ map candidate_of rest) (k.sq 0).window (sym window_here) (s.holds.regions 0).entries)

  not_passed : is_passed notes i ≡ false
  not_passed = by (is_passed notes i) refl where
    by : (b : Bool) → is_passed notes i ≡ b → b ≡ false
    by true e = (let done = s.tags.passed.served i e in absurd (cc (done, waited)))
    by false e = refl

  passing : IsPassing now pick
  passing = record {
    of_admin = first_is;
    entry = x.entry;
    next = admin_entry_is now (k.sq 0) (candidate_of x) (map candidate_of rest) (s.holds.regions 0) window_here;
    may_be = ap (may_be_own now) entry_is ∙ may;
  }

  -- ---- what is handed over
  untaken_one : untaken new after g ≡ x ∷ []
  untaken_one =
      picked_items rules late notes c slots s none pick board lawful stands queues arbiter
      ∙ ap (λ (r : ℕ). take pick.n (g.windows r)) region_is ∙ ap (λ (its : List Item). take pick.n its) windows_are ∙ ap (λ (n : ℕ). take n (x ∷ rest)) one_is

  quiet : (o : Option Queue) → dispatched_by now pick o ≡ []
  quiet None = refl
  quiet (Some q) = rw (eq-eqb pick.qid 0 first_is) refl

  hands : handed later ≡ handed notes ++ place_at 0 i ∷ []
  hands = ap (λ (ps : List Place). (handed notes ++ ps) ++ place_at 0 i ∷ []) (quiet (open_sq now pick.qid)) ∙ ap (λ (ps : List Place). ps ++ place_at 0 i ∷ []) (append-nil (handed notes))

  untaken_now : handed later ≡ taken notes ++ places_of (untaken new after g)
  untaken_now =
      hands
      ∙ ap (λ (ps : List Place). ps ++ place_at 0 i ∷ [])
      (s.tags.untaken_are ∙ ap (λ (its : List Item). taken notes ++ places_of its) (none_untaken rules late notes c slots s none pick board lawful stands queues arbiter) ∙ append-nil (taken notes))
      ∙ ap (λ (p : Place). taken notes ++ p ∷ []) (sym place_is) ∙ ap (λ (its : List Item). taken notes ++ places_of its) (sym untaken_one)

  pass-holds : Holds rules late (event.Pick (observed_of notes) pick ∷ now) after
  pass-holds =
      holds-io rules late now k queue (observed_of notes) pick (board_of board) (attached rules late notes c slots s none pick board lawful stands queues arbiter).cq_region s.holds
      (can rules late notes c slots s none pick board lawful stands queues arbiter) (saw rules late notes c slots s none pick board lawful stands queues arbiter) (inr passing)
      (attached rules late notes c slots s none pick board lawful stands queues arbiter).attached

  -- its place is in hand now, so it waits no longer
  in_hand : (P : Place → Type 0) → All P after.hand → P (place_at 0 i)
  in_hand P all =
      subst P place_is
      (All-head P x.place []
      (All-same P (x.place ∷ []) (places_of (untaken new after g)) (sym (ap places_of untaken_one))
      (All-parts P (places_of g.outs) (places_of (untaken new after g)) (subst (All P) (hand_now ∙ places-append g.outs (untaken new after g)) all)).1)) where
        hand_now : after.hand ≡ places_of (g.outs ++ untaken new after g)
        hand_now = (pick-items rules late notes c slots s none pick board lawful stands queues arbiter).outs.hand_is

        places-append : (xs ys : List Item) → places_of (xs ++ ys) ≡ places_of xs ++ places_of ys
        places-append [] ys = refl
        places-append (z ∷ zs) ys = ap (λ (ps : List Place). z.place ∷ ps) (places-append zs ys)

  abbrev picked_now : Past
  picked_now = event.Pick (observed_of notes) pick ∷ now

  unaborted : is_aborted picked_now 0 i ≡ false
  unaborted = (in_hand (IsInHand picked_now) pass-holds.hand.each).not_aborted

  done : is_waiting (fate_of picked_now 0 i) ≡ false
  done = in_hand (λ (p : Place). is_waiting (fate_of picked_now p.region p.index) ≡ false) (hand_done picked_now after pass-holds.ready)

  passed_now : HoldsPassed later g
  passed_now = record {
    all_handed = subst (All (IsDevices later)) (sym hands)
        (All-append (IsDevices later) (handed notes) (place_at 0 i ∷ [])
        (All-weaker (IsDevices notes) (IsDevices later) (λ p is. still p is) (handed notes) s.tags.passed.all_handed)
        (All-cons (IsDevices later) (place_at 0 i) [] (or_left (i == i) (is_passed notes i) (eq-eqb i i refl)) (All-nil (IsDevices later))));
    served = λ j is. by j (i == j) refl is;
    readies = λ y. readies_stay y;
    deletes = λ r it at. delete_stays r it at (i == it.index) refl;
  } where
    still : (p : Place) → IsDevices notes p → IsDevices later p
    still p is = mono (p.region == 0) (i == p.index) (is_passed notes p.index) is where
      mono : (a b d : Bool) → (not a || d) ≡ true → (not a || (b || d)) ≡ true
      mono true true d h = refl
      mono true false d h = h
      mono false b d h = refl

    by : (j : ℕ) (b : Bool) → (i == j) ≡ b → (b || is_passed notes j) ≡ true → is_waiting (fate_of picked_now 0 j) ≡ false
    by j true e h = subst (λ (z : ℕ). is_waiting (fate_of picked_now 0 z) ≡ false) (eqb-true i j e) done
    by j false e h = stays (event.Pick (observed_of notes) pick) now 0 j (s.tags.passed.served j h)

    -- a Delete whose deletion is pending was picked before
    delete_stays : (r : ℕ) (it : DeleteItem) → g.deletes r ≡ Some it → (b : Bool) → (i == it.index) ≡ b → (b || is_passed notes it.index) ≡ false
    delete_stays r it at true e =
        let d = deletion_item c.sqs c.pending_deletions slots k.sq_life k.deletion g.deletes s.has.deletions r it at in
        let ended : is_waiting (fate_of now 0 it.index) ≡ false = deletion_done rules late now k s.holds r (deletion_in slots r it) d in
        let here : is_waiting (fate_of now 0 i) ≡ false = subst (λ (z : ℕ). is_waiting (fate_of now 0 z) ≡ false) (sym (eqb-true i it.index e)) ended in
        absurd (cc (here, waited))
    delete_stays r it at false e = s.tags.passed.deletes r it at

    -- what is ready is another place
    same_at : (p : Place) → is_waiting (fate_of now p.region p.index) ≡ false → is_passed_at notes p ≡ is_passed_at later p
    same_at p ended = other (p.region == 0) (i == p.index) refl refl where
      other : (a b : Bool) → (p.region == 0) ≡ a → (i == p.index) ≡ b → (a && is_passed notes p.index) ≡ (a && (b || is_passed notes p.index))
      other true true e f =
          let here : is_waiting (fate_of now 0 i) ≡ false = subst (λ (z : ℕ). is_waiting (fate_of now z i) ≡ false) (eqb-true p.region 0 e)
          (subst (λ (z : ℕ). is_waiting (fate_of now p.region z) ≡ false) (sym (eqb-true i p.index f)) ended) in
          absurd (cc (here, waited))
      other true false e f = refl
      other false b e f = refl

    readies_stay : (y : ℕ) → All (IsReadyOf later) (g.readies y)
    readies_stay y = All-both (λ (z : ReadyItem). is_waiting (fate_of now z.ready.place.region z.ready.place.index) ≡ false) (IsReadyOf notes) (IsReadyOf later)
        (λ z ended is. is ∙ same_at z.ready.place ended) (g.readies y)
        (All-unmap (λ (t : Ready). is_waiting (fate_of now t.place.region t.place.index) ≡ false) (λ (z : ReadyItem). z.ready) (g.readies y)
        (subst (All (λ (t : Ready). is_waiting (fate_of now t.place.region t.place.index) ≡ false)) (s.has.readies.are y)
        (All-weaker (λ (t : Ready). IsAnswerable now (hand_of k) t.place.region t.place.index) (λ (t : Ready). is_waiting (fate_of now t.place.region t.place.index) ≡ false)
        (λ t is. answerable_is_done now (hand_of k) t.place.region t.place.index is) (k.cq y).ready (ready_is_answerable now k (hand_of k) s.holds.ready y))))
        (s.tags.passed.readies y)

  pass-tags : HoldsTags later new slots after g
  pass-tags = record {
    untaken_are = untaken_now;
    held = s.tags.held;
    through = s.tags.through;
    unanswered = s.tags.unanswered;
    hand_entries = All-append (HasEntry now) g.outs (untaken new after g) (All-parts (HasEntry now) g.outs (untaken c k g) s.tags.hand_entries).0
        (subst (All (HasEntry now)) (sym untaken_one)
        (All-cons (HasEntry now) x [] (ap (λ (r : ℕ). entry_at now r i) waits_there.place ∙ entry_there) (All-nil (HasEntry now))));
    free_count = s.tags.free_count;
    cookies = cookies_later notes later slots g (λ r j. refl) (λ r. refl) s.tags.cookies;
    passed = passed_now;
    flagged = s.tags.flagged;
  }

  -- the note is lawful
  unanswered : answer_of notes 0 i ≡ None
  unanswered = subst (λ (r : ℕ). answer_of notes r i ≡ None) waits_there.place
      (All-head (λ (it : Item). IsUnanswered notes it.place) x rest (unanswered_all rules late notes c slots k g s.holds s.shown s.ordered s.account keeps none pick board can_be arbiter first_is one_is))

  is_passed_now : IsPassed (picked_notes notes pick) i
  is_passed_now = record {
    latest = rw (eq-eqb pick.qid 0 first_is) front;
    picked = was_picked picked_now 0 i unaborted done;
    entry = x.entry;
    is_there = entry_there;
    may_be = ap (may_be_own now) entry_is ∙ may;
    first = not_passed;
    unanswered = unanswered;
  }

  pass-doorbells : HoldsDoorbells rules later new after
  pass-doorbells = let d = pick-doorbells rules late notes c slots s none pick board lawful stands queues arbiter in
      record { sqs = d.sqs; cqs = d.cqs }

  -- the controller stands at its log with the pick and the note
  pub pass-stands : StandsAt rules late later new slots
  pass-stands = record {
    content = after;
    items = g;
    holds = pass-holds;
    numbers = pick-numbers rules late notes c slots s none pick board lawful stands queues arbiter;
    has = pick-items rules late notes c slots s none pick board lawful stands queues arbiter;
    doorbells = pass-doorbells;
    tags = pass-tags;
    shown = record { held = s.shown.held; classed = s.shown.classed };
    ordered = s.ordered;
    regions = record { sqs = s.regions.sqs; cqs = s.regions.cqs };
    account = λ on_time.
        let next = next-io rules late now k queue (observed_of notes) pick (board_of board)
        (attached rules late notes c slots s none pick board lawful stands queues arbiter).cq_region s.holds
        (can rules late notes c slots s none pick board lawful stands queues arbiter) (saw rules late notes c slots s none pick board lawful stands queues arbiter) (inr passing)
        (attached rules late notes c slots s none pick board lawful stands queues arbiter).attached pass-holds.regions on_time in
        record {
          each = (
            is_passed_now,
            (
              record {
                index_counts = next.index_counts;
                served_while_open = next.served_while_open;
                observed = refl;
                effects_at_once = next.effects_at_once;
                deletes = next.deletes;
                posts_own = tt;
                fetches_submitted = tt;
                posts_on_free_slot = tt;
                posts_what_is_through = tt;
                posts_in_order = tt;
              },
              (s.account on_time).each,
            ),
          );
          lawful = pass-holds.arbitration.lawful;
          effects_whole = (pass-holds.own on_time).effects_whole;
        };
  }

  -- so the step is made
  pub pass-call : HasPassed rules late notes pick (after_pick_io c board 0 1) slots
  pass-call =
      subst (λ (n : ℕ). HasPassed rules late notes pick (after_pick_io c board 0 n) slots) one_is
      (subst (λ (q : ℕ). HasPassed rules late notes pick (after_pick_io c board q pick.n) slots) first_is
      (record { of_admin = first_is; next = admin_next rules late notes c slots s pick lawful first_is; index = i; oldest = front; stands = pass-stands }))
