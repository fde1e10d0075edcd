-- The next pick, and a pick of an I/O queue: the controller stands at its log afterwards.
use Rattle.std.proofs.Common.{◌≢◌, inl, ◌≡◌, ℕ, ◌+◌, ◌<◌, ◌≤◌, Bool, if◌then◌else◌, List, [], ◌∷◌, ◌++◌, length, map, take, drop, Option, Some, None, refl, sym, ap, ◌∙◌, subst, arith, is_some}
use Rattle.std.proofs.lemmas.List.{length-append, length-take-le, append-nil, drop-map, length-map, map-append, take-map}
use Rattle.std.specs.Prelude.{min, slice_set, unwrap_or, IsTrue, IsSomeAnd, not, ◌||◌}
use Rattle.std.specs.List.{All}
use Rattle.std.proofs.lemmas.Bool.{eq-eqb, ne_eqb}
use Rattle.std.proofs.lemmas.List.Elements.{All-append, All-head, All-same, All-tail, All-take, All-map, All-weaker}
use Rattle.nvme_arbiter.specs.declared.board_fields.BoardFields.{BoardFields}
use Rattle.nvme_log.specs.Queues.{Queue}
use Rattle.nvme_log.specs.declared.event.Event.TheVariants as event
use Rattle.nvme_log.specs.declared.place.Place.{Place}
use Rattle.nvme_log.specs.Places.{fetched, entry_at}
use Rattle.nvme_log.specs.Dispatches.{place_at, dispatched_by}
use Rattle.nvme_ctrl_log.specs.Notes.{Notes, logged}
use Rattle.nvme_ctrl_log.specs.Doorbells.{submitted}
use Rattle.nvme_slots.specs.Rings.{HasCounts}
use Rattle.nvme_ctrl_log.specs.Tags.{taken, is_passed, handed}
use Rattle.nvme_ctrl_log.specs.Steps.{IsNextPick, IsBusy, picked_notes}
use Rattle.nvme_ctrl.specs.declared.state.SqState.{SqState}
use Rattle.nvme_ctrl_content.specs.Content.{Candidate, Content, SqContent}
use Rattle.nvme_ctrl_content.specs.Standing.{Holds, IsAttached}
use Rattle.nvme_ctrl_content.specs.Steps.{CanPick, picked_sq}
use Rattle.nvme_slots.specs.Pool.{IsChain}
use Rattle.nvme_ctrl.specs.kept.State.{sq_at}
use Rattle.nvme_ctrl.specs.kept.Kept.{Item, Items, IsWaitingIn, HasNumbers, HasItems, HoldsDoorbells, HoldsTags, HasEntry, StandsAt, tags_of, places_of, candidate_of, picked_region, picked_of, untaken, IsDevices, HoldsPassed, IsSq, shown_in}
use Rattle.nvme_arbiter.proofs.Stands.{lawful as lawful_where_stands}
use Rattle.nvme_log.proofs.Turns.{stays}
use Rattle.nvme_ctrl_content.proofs.OpenQueues.{io_region}
use Rattle.nvme_ctrl_content.proofs.AfterSteps.{after_io, place_of}
use Rattle.nvme_ctrl.proofs.Cookies.{cookies_later}
use Rattle.nvme_ctrl.proofs.PoolBounds.{unposted_held, window_held}
use Rattle.nvme_ctrl_content.proofs.NextEvents.{next-io}
use Rattle.nvme_log.proofs.AdminPicks.{admin_is_whole}
use Rattle.nvme_ctrl_content.proofs.Observing.{IsPickable, pickable, seen_is_observed}
use Rattle.nvme_ctrl_content.proofs.OwnStatus.{All-unmap}
use Rattle.nvme_ctrl.proofs.Lives.{one_life, put_sq-states}
use Rattle.nvme_ctrl.proofs.QueueStates.{put_sqs, sq_changed, shown_picked, put_sq-regions, kept_there, none_picked_of}
use Rattle.nvme_ctrl.proofs.PendingDeletions.{deletions_kept}
use Rattle.nvme_ctrl_content.proofs.DeletingRegions.{put-same, put-other}
use Rattle.nvme_ctrl.proofs.SlotItems.{All-both, All-parts, at_put}
use Rattle.nvme_ctrl_content.proofs.Standing.{holds-io}
use Rattle.nvme_arbiter.specs.Settings.{ArbitrationFields}
use Rattle.nvme_arbiter.specs.History.{History, Picked}
use Rattle.nvme_arbiter.specs.Lawful.{lawful_pick, IsLimitedPick, IsCutOf}
use Rattle.nvme_arbiter.specs.Queues.{seen_of, queue_at}
use Rattle.nvme_arbiter.specs.Layout.{is_arbiter, board_of}
use Rattle.nvme_arbiter.specs.Board.{BoardView, BoardStandsAt, queues_after}
use Rattle.nvme_arbiter.specs.Standing.{pick_of}
use Rattle.nvme_arbiter.specs.declared.settings.Mechanism.{Mechanism}
use Rattle.nvme_arbiter.specs.declared.pick.Pick.{Pick}
use Rattle.nvme_arbiter.specs.declared.pick.OpenQueue.{OpenQueue}
use Rattle.nvme_arbiter.specs.declared.pick.Seen.{Seen}
use Rattle.nvme_log.specs.Rules.{FrontRules, Past}
use Rattle.nvme_ctrl_log.specs.Observation.{observed_of}
use Rattle.nvme_log.specs.Histories.{arbitration_of}
use Rattle.nvme_slots.specs.declared.slot.Slot.{Slot}
use Rattle.nvme_ctrl.specs.declared.state.Controller.{Controller}
use Rattle.nvme_ctrl.proofs.QueueSets.{rung-kept}

module _ (rules : FrontRules) (late : Bool) (notes : Notes) (c : Controller) (slots : List Slot) (s : StandsAt rules late notes c slots) where
  abbrev past : Past
  past = logged notes

  -- the board stands at the arbitration of the log
  pub board_stands : BoardStandsAt rules.mechanism rules.start.settings (arbitration_of past) (board_of c.board)
  board_stands = subst (λ (b : BoardView). BoardStandsAt rules.mechanism rules.start.settings (arbitration_of past) b) (sym s.numbers.board_is) s.holds.arbitration.stands

  -- the board that is kept shows it
  pub saw_board : seen_of s.content.board.queues ≡ observed_of notes
  saw_board = seen_is_observed notes s.content s.holds.regions s.holds.queues s.shown

  -- and shows what arbitration sees
  pub board_sees : seen_of (board_of c.board).queues ≡ observed_of notes
  board_sees = ap (λ (b : BoardView). seen_of b.queues) s.numbers.board_is ∙ saw_board

  -- so what it would pick is the next pick
  pub next_is : (result : Option Pick)
      → ((m : Mechanism) (first : ArbitrationFields) (h : History) → BoardStandsAt m first h (board_of c.board) → result ≡ lawful_pick m first h (seen_of (board_of c.board).queues))
      → IsNextPick rules notes result
  next_is result lawful =
      lawful rules.mechanism rules.start.settings (arbitration_of past) board_stands
      ∙ ap (λ (xs : List Seen). lawful_pick rules.mechanism rules.start.settings (arbitration_of past) xs) board_sees

-- so is what it would pick of the admin queue, for any limit
pub admin_next : (rules : FrontRules) (late : Bool) (notes : Notes) (c : Controller) (slots : List Slot) (s : StandsAt rules late notes c slots) (pick : Pick)
    → ((m : Mechanism) (first : ArbitrationFields) (h : History) → BoardStandsAt m first h (board_of c.board) → IsLimitedPick m first h (seen_of (board_of c.board).queues) pick)
    → pick.qid ≡ 0 → IsNextPick rules notes (Some pick)
admin_next rules late notes c slots s pick lawful admin =
    let stands = board_stands rules late notes c slots s in
    admin_is_whole rules.mechanism rules.start.settings (arbitration_of (logged notes)) (seen_of (board_of c.board).queues) pick stands.observed
    (lawful rules.mechanism rules.start.settings (arbitration_of (logged notes)) stands) admin
    ∙ ap (λ (xs : List Seen). lawful_pick rules.mechanism rules.start.settings (arbitration_of (logged notes)) xs) (board_sees rules late notes c slots s)

-- what the board would pick, or fewer of its commands, is lawful for some limit
pub next_lawful : (c : Controller) (pick : Pick) → IsSomeAnd (pick_of (board_of c.board).kept (seen_of (board_of c.board).queues)) (λ whole. IsCutOf whole pick) → 1 ≤ pick.n
    → (m : Mechanism) (first : ArbitrationFields) (h : History) → BoardStandsAt m first h (board_of c.board) → IsLimitedPick m first h (seen_of (board_of c.board).queues) pick
next_lawful c pick next some m first h stands = by (pick_of (board_of c.board).kept (seen_of (board_of c.board).queues)) refl next where
  by : (o : Option Pick) → pick_of (board_of c.board).kept (seen_of (board_of c.board).queues) ≡ o → IsSomeAnd o (λ whole. IsCutOf whole pick) → IsLimitedPick m first h (seen_of (board_of c.board).queues) pick
  by None e is = absurd is
  by (Some whole) e is = record { whole = whole; lawful = sym (lawful_where_stands m first h (board_of c.board).kept (seen_of (board_of c.board).queues) stands.stands) ∙ e; is_cut = is; some = some }

-- ---- candidates of items
-- the places of the candidates of waiting items are those of the items
places-are : (slots : List Slot) (q r : ℕ) (its : List Item) → All (IsWaitingIn slots q r) its → map (place_of r) (map candidate_of its) ≡ places_of its
places-are slots q r [] h = refl
places-are slots q r (it ∷ its) h =
    let here : place_of r (candidate_of it) ≡ it.place = λ t. record { region = sym (All-head (IsWaitingIn slots q r) it its h).place t; index = it.place.index } in
    λ t. here t ∷ places-are slots q r its (All-tail (IsWaitingIn slots q r) it its h) t

-- their entries are those of their places
entries-are : (past : Past) (slots : List Slot) (q r : ℕ) (its : List Item) → All (IsWaitingIn slots q r) its
    → All (λ (c : Candidate). entry_at past r c.index ≡ Some c.entry) (map candidate_of its) → All (HasEntry past) its
entries-are past slots q r its waits entries =
    All-both (IsWaitingIn slots q r) (λ (it : Item). entry_at past r it.place.index ≡ Some it.entry) (HasEntry past)
    (λ it w e. ap (λ (x : ℕ). entry_at past x it.place.index) w.place ∙ e) its waits
    (All-unmap (λ (c : Candidate). entry_at past r c.index ≡ Some c.entry) candidate_of its entries)

-- a number that isn't over 65,535
capped : (n : ℕ) → n ≤ 65535 → min n 65535 ≡ n
capped n few = omega (arith, few)

-- the index of a candidate's place
indexes-are : (r : ℕ) (cs : List Candidate) → map (place_at r) (map (λ (c : Candidate). c.index) cs) ≡ map (place_of r) cs
indexes-are r [] = refl
indexes-are r (c ∷ cs) = ap (λ (ps : List Place). place_at r c.index ∷ ps) (indexes-are r cs)

-- ---- a pick of an I/O queue
abbrev pub picked_state : Controller → (q n : ℕ) → SqState
picked_state c q n = record (sq_at c.sqs q) { unposted = min ((sq_at c.sqs q).unposted + n) 65535 }

abbrev pub after_pick_io : Controller → BoardFields → (q n : ℕ) → Controller
after_pick_io c board q n =
    record c { board = board; sqs = slice_set c.sqs q (picked_state c q n); outstanding = min (c.outstanding + n) 65535; picked = n; picked_qid = q }

module _ (rules : FrontRules) (late : Bool) (notes : Notes) (c : Controller) (slots : List Slot) (s : StandsAt rules late notes c slots)
    (none : c.picked ≡ 0) (pick : Pick) (board : BoardFields)
    (lawful : (m : Mechanism) (first : ArbitrationFields) (h : History) → BoardStandsAt m first h (board_of c.board) → IsLimitedPick m first h (seen_of (board_of c.board).queues) pick)
    (stands : (m : Mechanism) (first : ArbitrationFields) (h : History) → BoardStandsAt m first h (board_of c.board) → BoardStandsAt m first (Picked (seen_of (board_of c.board).queues) pick ∷ h) (board_of board))
    (queues : (board_of board).queues ≡ queues_after (board_of c.board).queues pick)
    (is_arbiter_still : IsTrue (is_arbiter board.arbiter)) where
  abbrev k : Content
  k = s.content

  abbrev g : Items
  g = s.items

  abbrev now : Past
  now = logged notes

  pub due : IsPickable now k pick
  due = pickable rules.mechanism rules.start.settings (arbitration_of now) now k pick s.holds.queues s.holds.arbitration.stands.observed
      (subst (λ (b : BoardView). IsLimitedPick rules.mechanism rules.start.settings (arbitration_of now) (seen_of b.queues) pick) s.numbers.board_is
      ((lawful rules.mechanism rules.start.settings (arbitration_of now) (board_stands rules late notes c slots s))))

  abbrev q : ℕ
  q = pick.qid

  abbrev r : ℕ
  r = due.queue.region

  pub due_life : k.sq_life q ≡ Some r
  due_life = s.holds.lives.sqs q due.queue due.is_open

  pub attached : IsAttached now k pick.qid due.queue
  attached = s.holds.queues.attached pick.qid due.queue due.is_open

  there_in : r < k.nsq
  there_in = s.holds.queues.sq_there r (record { qid = pick.qid; cq_region = attached.cq_region }) attached.attached

  pub there : q < length c.sqs
  there = kept_there c k s.numbers q r due_life

  pub saw : observed_of notes ≡ seen_of k.board.queues
  saw = sym (saw_board rules late notes c slots s)

  pub can : CanPick rules now k due.queue pick (board_of board)
  can = record {
    is_open = due.is_open;
    enough = due.enough;
    lawful = subst (λ (b : BoardView). IsLimitedPick rules.mechanism rules.start.settings (arbitration_of now) (seen_of b.queues) pick) s.numbers.board_is
        ((lawful rules.mechanism rules.start.settings (arbitration_of now) (board_stands rules late notes c slots s)));
    board_queues = queues ∙ ap (λ (b : BoardView). queues_after b.queues pick) s.numbers.board_is;
    board_stands = subst (λ (b : BoardView). BoardStandsAt rules.mechanism rules.start.settings (Picked (seen_of b.queues) pick ∷ arbitration_of now) (board_of board)) s.numbers.board_is
        (stands rules.mechanism rules.start.settings (arbitration_of now) (board_stands rules late notes c slots s));
  }

  -- the counts are within the pool
  unposted_is : (picked_state c q pick.n).unposted ≡ (k.sq r).unposted + pick.n
  unposted_is =
      let was = (s.numbers.sqs.each q r due_life).unposted in
      let held = unposted_held rules late now k s.holds r there_in in
      capped ((sq_at c.sqs q).unposted + pick.n) (omega (arith, was, held, due.enough, s.tags.free_count, s.has.few)) ∙ ap (λ (n : ℕ). n + pick.n) was

  outstanding_is : (after_pick_io c board q pick.n).outstanding ≡ k.outstanding + pick.n
  outstanding_is =
      let held = window_held rules late now k s.holds r there_in in
      capped (c.outstanding + pick.n) (omega (arith, s.numbers.outstanding_is, held, due.enough, s.tags.free_count, s.has.few)) ∙ ap (λ (n : ℕ). n + pick.n) s.numbers.outstanding_is

  abbrev after : Content
  after = after_io k due.queue pick.n (board_of board)

  abbrev new : Controller
  new = after_pick_io c board q pick.n

  -- ---- numbers
  -- the same queues are shown
  still_shown : (p : ℕ) → shown_in after.board p ≡ shown_in k.board p
  still_shown p = ap (λ (qs : List (Option OpenQueue)). is_some (queue_at qs p)) queues ∙ shown_picked (board_of c.board).queues pick p ∙ ap (λ (v : BoardView). shown_in v p) s.numbers.board_is

  pub pick-numbers : HasNumbers new after
  pick-numbers = let n = s.numbers in record {
    tells = n.tells;
    board_is = refl;
    is_arbiter = is_arbiter_still;
    outstanding_is = outstanding_is;
    sqs = (let h = n.sqs.each q r due_life in let state : SqState = picked_state c q pick.n in let u : SqContent = picked_sq (k.sq r) pick.n in
        put_sqs c k n q r due_life state c.rung after.sq k.held (shown_in after.board)
        (subst (λ (x : SqContent). IsSq k.table k.cq_life q r state x (k.held r) (shown_in after.board q)) (sym (put-same k.sq r u))
        (sq_changed k.table k.cq_life q r (sq_at c.sqs q) state (k.sq r) u (k.held r) (k.held r) (shown_in k.board q) (shown_in after.board q) h refl refl unposted_is refl refl h.held (h.shown ∙ sym (still_shown q))))
        (λ x other. put-other k.sq r u x other) (λ x other. refl) (λ p other. still_shown p) (rung-kept c.rung q c.sqs state there n.sqs.rung (λ same. same)));
    cqs = n.cqs;
  }

  -- ---- items
  window_was : (x : ℕ) → (k.sq x).window ≡ map candidate_of (g.windows x)
  window_was x = s.has.windows.are x ∙ ap (λ (n : ℕ). map candidate_of (drop n (g.windows x))) (none_picked_of c (k.sq_id x) none)

  enough : pick.n ≤ length (g.windows r)
  enough = omega (arith, due.enough, ap (λ (cs : List Candidate). length cs) (window_was r), length-map (g.windows r) candidate_of)

  -- the commands that are picked
  abbrev its : List Item
  its = take pick.n (g.windows r)

  picked_there : picked_region new after ≡ r
  picked_there = ap (λ (o : Option ℕ). unwrap_or o 0) due_life

  pub picked_items : untaken new after g ≡ its
  picked_items = ap (λ (x : ℕ). take pick.n (g.windows x)) picked_there

  pub none_untaken : untaken c k g ≡ []
  none_untaken = ap (λ (n : ℕ). take n (g.windows (picked_region c k))) none

  -- none of another region is
  picked_other : (x : ℕ) → x ≢ r → picked_of new (k.sq_id x) ≡ 0
  picked_other x other = by (k.sq_id x) refl where
    by : (o : Option ℕ) → k.sq_id x ≡ o → picked_of new o ≡ 0
    by None is = refl
    by (Some p) is = ap (λ (b : Bool). if b then pick.n else 0)
        (ne_eqb p q (λ same. other (one_life k.sq_life q x r (subst (λ (n : ℕ). k.sq_life n ≡ Some x) same (s.numbers.sqs.ids.lives_are x p is)) due_life)))

  taken_window : take pick.n (k.sq r).window ≡ map candidate_of its
  taken_window = ap (take pick.n) (window_was r) ∙ take-map candidate_of pick.n (g.windows r)

  waits : All (IsWaitingIn slots q r) its
  waits = All-take (IsWaitingIn slots q r) pick.n (g.windows r) (s.has.windows.items q r due_life)

  hand_is : after.hand ≡ places_of (g.outs ++ untaken new after g)
  hand_is =
      let was : k.hand ≡ places_of g.outs = s.has.outs.hand_is ∙ ap (λ (more : List Item). places_of (g.outs ++ more)) none_untaken ∙ ap places_of (append-nil g.outs) in
      let more : map (place_of r) (take pick.n (k.sq r).window) ≡ places_of its = ap (map (place_of r)) taken_window ∙ places-are slots q r its waits in
      (λ t. was t ++ more t) ∙ sym (map-append (λ (it : Item). it.place) g.outs its) ∙ sym (ap (λ (more : List Item). places_of (g.outs ++ more)) picked_items)

  pub pick-items : HasItems new slots after g
  pick-items = record {
    windows = record {
      chain = λ p. put_sq-states (λ y state. (x : ℕ) → k.sq_life y ≡ Some x → IsChain slots state.window (tags_of (g.windows x))) c.sqs q (picked_state c q pick.n) there
          (s.has.windows.chain q) p (λ other. s.has.windows.chain p);
      items = s.has.windows.items;
      none = s.has.windows.none;
      are = at_put (λ x u. u.window ≡ map candidate_of (drop (picked_of new (k.sq_id x)) (g.windows x))) k.sq r (picked_sq (k.sq r) pick.n)
          (rw (s.numbers.sqs.ids.ids_are q r due_life, eq-eqb q q refl) (ap (drop pick.n) (window_was r) ∙ drop-map candidate_of pick.n (g.windows r)))
          (λ x other. rw (picked_other x other) (window_was x));
      picked_there = subst (λ (x : ℕ). pick.n ≤ length (g.windows x)) (sym picked_there) enough;
    };
    outs = record {
      items = s.has.outs.items;
      apart = s.has.outs.apart;
      all = s.has.outs.all;
      hand_is = hand_is;
    };
    readies = s.has.readies;
    deletions = deletions_kept c.sqs c.pending_deletions slots k.sq_life k.deletion g.deletes q (picked_state c q pick.n) there refl refl s.has.deletions;
    free = s.has.free;
    few = s.has.few;
  }

  -- ---- doorbells
  pub pick-doorbells : HoldsDoorbells rules (picked_notes notes pick) new after
  pick-doorbells = record {
    sqs = record {
      each = put_sq-regions (λ p x state. HasCounts state.ring (length (fetched now x)) (submitted rules notes x)) k.sq_life k.sq_id s.numbers.sqs.ids c.sqs q r (picked_state c q pick.n)
          due_life there (s.doorbells.sqs.each q r due_life) (λ p x other apart is. s.doorbells.sqs.each p x is);
      no_tails = at_put (λ x u. u.queue ≡ None → submitted rules notes x ≡ 0) k.sq r (picked_sq (k.sq r) pick.n) (s.doorbells.sqs.no_tails r) (λ x other. s.doorbells.sqs.no_tails x);
    };
    cqs = s.doorbells.cqs;
  }

  -- ---- tags
  module _ (io : pick.qid ≡ 0 → ⊥) where
    dispatches : handed (picked_notes notes pick) ≡ handed notes ++ places_of its
    dispatches =
        ap (λ (o : Option Queue). handed notes ++ dispatched_by now pick o) due.is_open
        ∙ rw (ne_eqb pick.qid 0 io) (ap (λ (is : List ℕ). handed notes ++ map (place_at r) (take pick.n is)) (s.holds.regions r).waiting_is
        ∙ ap (λ (is : List ℕ). handed notes ++ map (place_at r) is) (take-map (λ (x : Candidate). x.index) pick.n (k.sq r).window)
        ∙ ap (λ (ps : List Place). handed notes ++ ps)
        (indexes-are r (take pick.n (k.sq r).window) ∙ ap (map (place_of r)) taken_window ∙ places-are slots q r its waits))

    -- what is handed over is the device's
    picked_devices : All (IsDevices notes) (handed (picked_notes notes pick))
    picked_devices =
        subst (All (IsDevices notes)) (sym dispatches)
        (All-append (IsDevices notes) (handed notes) (places_of its) s.tags.passed.all_handed
        (All-map (IsDevices notes) (λ (it : Item). it.place) its
        (All-weaker (IsWaitingIn slots q r) (λ (it : Item). IsDevices notes it.place)
        (λ it w. ap (λ (b : Bool). not b || is_passed notes it.place.index)
        (ne_eqb it.place.region 0 (λ zero. io_region rules late now k s.holds r pick.qid attached.cq_region attached.attached io (sym w.place ∙ zero))))
        its waits)))

    picked_passed : HoldsPassed (picked_notes notes pick) g
    picked_passed = record {
      all_handed = picked_devices;
      served = λ i is. stays (event.Pick (observed_of notes) pick) now 0 i (s.tags.passed.served i is);
      readies = s.tags.passed.readies;
      deletes = s.tags.passed.deletes;
    }

    pick-tags : HoldsTags (picked_notes notes pick) new slots after g
    pick-tags = record {
      untaken_are = dispatches ∙ ap (λ (ps : List Place). ps ++ places_of its)
          (s.tags.untaken_are ∙ ap (λ (more : List Item). taken notes ++ places_of more) none_untaken ∙ append-nil (taken notes))
          ∙ sym (ap (λ (more : List Item). taken notes ++ places_of more) picked_items);
      held = s.tags.held;
      through = s.tags.through;
      unanswered = s.tags.unanswered;
      hand_entries = subst (λ (more : List Item). All (HasEntry now) (g.outs ++ more)) (sym picked_items)
          (All-append (HasEntry now) g.outs its (All-parts (HasEntry now) g.outs (untaken c k g) s.tags.hand_entries).0
          (entries-are now slots q r its waits
          (All-same (λ (x : Candidate). entry_at now r x.index ≡ Some x.entry) (map candidate_of its) (take pick.n (k.sq r).window) (sym taken_window)
          (All-take (λ (x : Candidate). entry_at now r x.index ≡ Some x.entry) pick.n (k.sq r).window (s.holds.regions r).entries))));
      free_count = s.tags.free_count;
      cookies = cookies_later notes (picked_notes notes pick) slots g (λ x i. refl) (λ x. refl) s.tags.cookies;
      passed = picked_passed;
      flagged = s.tags.flagged;
    }

    pick-holds : Holds rules late (event.Pick (observed_of notes) pick ∷ now) after
    pick-holds = holds-io rules late now k due.queue (observed_of notes) pick (board_of board) attached.cq_region s.holds can saw (inl io) attached.attached

    -- the controller stands at its log with the pick
    pub pick-stands : StandsAt rules late (picked_notes notes pick) new slots
    pick-stands = record {
      content = after;
      items = g;
      holds = pick-holds;
      numbers = pick-numbers;
      has = pick-items;
      doorbells = pick-doorbells;
      tags = pick-tags;
      shown = record { held = s.shown.held; classed = s.shown.classed };
      ordered = s.ordered;
      regions = record { sqs = s.regions.sqs; cqs = s.regions.cqs };
      account = λ on_time.
          let next = next-io rules late now k due.queue (observed_of notes) pick (board_of board) attached.cq_region s.holds can saw (inl io) attached.attached pick-holds.regions on_time in
          record {
            each = (
              record {
                index_counts = next.index_counts;
                served_while_open = next.served_while_open;
                observed = refl;
                effects_at_once = next.effects_at_once;
                deletes = next.deletes;
                posts_own = tt;
                fetches_submitted = tt;
                posts_on_free_slot = tt;
                posts_what_is_through = tt;
                posts_in_order = tt;
              },
              (s.account on_time).each,
            );
            lawful = pick-holds.arbitration.lawful;
            effects_whole = (pick-holds.own on_time).effects_whole;
          };
    }

-- ---- no pick is made
-- what is picked and not taken was dispatched, and not taken
picked_count : (rules : FrontRules) (late : Bool) (notes : Notes) (c : Controller) (slots : List Slot) → StandsAt rules late notes c slots → length (handed notes) ≡ length (taken notes) + c.picked
picked_count rules late notes c slots s =
    let all : length (handed notes) ≡ length (taken notes) + length (places_of (untaken c s.content s.items)) =
    ap (λ (ps : List Place). length ps) s.tags.untaken_are ∙ length-append (taken notes) (places_of (untaken c s.content s.items)) in
    let many : length (places_of (untaken c s.content s.items)) ≡ c.picked =
    length-map (untaken c s.content s.items) (λ (it : Item). it.place) ∙ length-take-le c.picked (s.items.windows (picked_region c s.content)) s.has.windows.picked_there in
    omega (arith, all, many)

-- so the controller is busy where some is, and only there
pub is_busy : (rules : FrontRules) (late : Bool) (notes : Notes) (c : Controller) (slots : List Slot) → StandsAt rules late notes c slots → c.picked ≢ 0 → IsBusy notes
is_busy rules late notes c slots s some = let all = picked_count rules late notes c slots s in omega (arith, all, some)

pub isnt_busy : (rules : FrontRules) (late : Bool) (notes : Notes) (c : Controller) (slots : List Slot) → StandsAt rules late notes c slots → c.picked ≡ 0 → IsBusy notes → ⊥
isnt_busy rules late notes c slots s none busy = let all = picked_count rules late notes c slots s in omega (arith, all, none, busy)
