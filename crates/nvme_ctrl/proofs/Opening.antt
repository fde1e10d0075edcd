-- Queues are opened and closed: the state of a queue is put under its identifier, or taken away.
use Rattle.std.proofs.Common.{◌≡◌, ◌≢◌, ℕ, ◌<◌, ◌≤◌, ◌%◌, ◌==◌, Bool, true, false, if◌then◌else◌, List, [], ◌++◌, length, map, take, drop, Option, Some, None, refl, sym, ap, ◌∙◌, subst, arith, inl, inr, eq-eqb, is_some}
use Rattle.std.specs.Prelude.{slice_set, option_map, IsTrue}
use Rattle.std.specs.List.{All}
use Rattle.std.proofs.lemmas.Bool.{cases_eq, ne_eqb}
use Rattle.std.proofs.lemmas.Option.{same_Some}
use Rattle.std.proofs.lemmas.List.{length-set, get_or-set_same, get_or-set_other}
use Rattle.std.proofs.lemmas.List.Elements.{All-nil, All-weaker}
use Rattle.std.proofs.Math.Nat.{zero-div, zero-mod}
use Rattle.nvme_arbiter.specs.Board.{BoardView}
use Rattle.nvme_arbiter.specs.Layout.{is_arbiter, board_of}
use Rattle.nvme_arbiter.specs.declared.board_fields.BoardFields.{BoardFields}
use Rattle.nvme_arbiter.specs.declared.arbiter_fields.ArbiterFields.{ArbiterFields}
use Rattle.nvme_arbiter.specs.declared.settings.Class.{Class}
use Rattle.nvme_entry.specs.declared.submission.Sqe.{Sqe}
use Rattle.nvme_entry.specs.declared.completion.Cqe.{Cqe}
use Rattle.nvme_arbiter.specs.Queues.{queue_at}
use Rattle.nvme_arbiter.specs.declared.pick.OpenQueue.{OpenQueue}
use Rattle.nvme_log.specs.Rules.{FrontRules}
use Rattle.nvme_log.specs.Places.{fetched}
use Rattle.nvme_log.specs.Completions.{posted_to, phase_after}
use Rattle.nvme_ctrl_log.specs.Notes.{Notes, logged}
use Rattle.nvme_ctrl_log.specs.Doorbells.{submitted, consumed}
use Rattle.nvme_slots.specs.Rings.{HasCounts, first_ring}
use Rattle.nvme_ctrl_log.specs.Tags.{taken}
use Rattle.nvme_slots.specs.declared.slot.Slot.{Slot}
use Rattle.nvme_ctrl.specs.declared.state.SqState.{SqState}
use Rattle.nvme_ctrl.specs.declared.state.CqState.{CqState}
use Rattle.nvme_ctrl.specs.declared.state.Controller.{Controller}
use Rattle.nvme_ctrl_content.specs.Content.{Attachment, SqContent, Content, put_life, put_held, put_class, with_sq}
use Rattle.nvme_ctrl.specs.kept.Kept.{Item, ReadyItem, DeleteItem, Items, IsWaitingIn, IsOutIn, IsReadyIn, HasEntry, IsSqOf, HasNumbers, HasItems, HasDeletions, HoldsDoorbells, tags_of, places_of, ready_tags, candidate_of, picked_region, untaken, delete_of, shown_in}
use Rattle.nvme_ctrl.specs.inside.Loose.{Keeps}
use Rattle.nvme_ctrl_content.specs.Carrying.{IsOpenable, IsCqOpenable, IsUnattached, opening, opening_cq, closing_cq}
use Rattle.nvme_slots.specs.Pool.{IsChain}
use Rattle.nvme_ctrl.specs.kept.State.{no_chain, no_sq_state, no_cq_state, sq_at, cq_at}
use Rattle.nvme_ctrl.proofs.CarriedOut.{none_picked_of}
use Rattle.nvme_ctrl.proofs.Lives.{put_cq-states, ids_opened, ids_closed}
use Rattle.nvme_ctrl.proofs.PendingDeletions.{none_deletes, deletions_kept}
use Rattle.nvme_ctrl.proofs.QueueStates.{sq_changed, sq_attached, each_sqs}
use Rattle.nvme_ctrl.proofs.Windowed.{keeps_board}
use Rattle.nvme_ctrl.proofs.QueueSets.{rung-kept, readied-kept}

-- ---- lives
-- the life of an identifier, where another one is put
life_same : (lives : ℕ → Option ℕ) (q : ℕ) (o : Option ℕ) → put_life lives q o q ≡ o
life_same lives q o = rw (eq-eqb q q refl) refl

life_other : (lives : ℕ → Option ℕ) (q : ℕ) (o : Option ℕ) (p : ℕ) → p ≢ q → put_life lives q o p ≡ lives p
life_other lives q o p differs = rw (ne_eqb p q differs) refl

-- a life that was there is left, where a new one is put
life_left : (lives : ℕ → Option ℕ) (q : ℕ) (o : Option ℕ) → lives q ≡ None → (p r : ℕ) → lives p ≡ Some r → put_life lives q o p ≡ Some r
life_left lives q o none p r is = life_other lives q o p (λ e. let here = subst (λ (n : ℕ). lives n ≡ Some r) e is in cc (here, none)) ∙ is

-- one that is there now is the new one, or was there
data IsLife (lives : ℕ → Option ℕ) (q r : ℕ) (p x : ℕ) : Type 0 where
  NewLife : p ≡ q → r ≡ x → IsLife lives q r p x
  OldLife : p ≢ q → lives p ≡ Some x → IsLife lives q r p x

is_life : (lives : ℕ → Option ℕ) (q r p x : ℕ) → put_life lives q (Some r) p ≡ Some x → IsLife lives q r p x
is_life lives q r p x is = elim (cases_eq p q) [
  | inl same ↦ NewLife same (same_Some r x (sym (ap (λ (b : Bool). if b then Some r else lives p) (eq-eqb p q same)) ∙ is))
  | inr differs ↦ OldLife differs (sym (life_other lives q (Some r) p differs) ∙ is)
]

-- what is so of the new one, and was of the others, is so of each
each_life : (P : ℕ → ℕ → Type 0) (lives : ℕ → Option ℕ) (q r : ℕ) → P q r → ((p x : ℕ) → p ≢ q → lives p ≡ Some x → P p x)
    → (p x : ℕ) → put_life lives q (Some r) p ≡ Some x → P p x
each_life P lives q r here others p x is = elim (is_life lives q r p x is) [
  | NewLife same region ↦ subst (λ (n : ℕ). P n x) (sym same) (subst (λ (n : ℕ). P q n) region here)
  | OldLife differs was ↦ others p x differs was
]

-- where none is, none was
none_left : (lives : ℕ → Option ℕ) (q r p : ℕ) → put_life lives q (Some r) p ≡ None → (p ≢ q) × (lives p ≡ None)
none_left lives q r p none =
    let differs : p ≢ q = λ same. let some = ap (λ (b : Bool). if b then Some r else lives p) (eq-eqb p q same) in cc (some, none) in
    (differs, sym (life_other lives q (Some r) p differs) ∙ none)

-- so where one was taken away
record WasLife (lives : ℕ → Option ℕ) (q p x : ℕ) : Type 0 where
  other : p ≢ q
  was : lives p ≡ Some x

was_life : (lives : ℕ → Option ℕ) (q p x : ℕ) → put_life lives q None p ≡ Some x → WasLife lives q p x
was_life lives q p x is =
    let differs : p ≢ q = λ same. let none = ap (λ (b : Bool). if b then None else lives p) (eq-eqb p q same) in cc (none, is) in
    record { other = differs; was = sym (life_other lives q None p differs) ∙ is }

-- ---- a new queue
-- a ring with slots starts empty
first_counts : (n : ℕ) → 0 < n → HasCounts (first_ring n) 0 0
first_counts n some = record { some = some; head_is = sym (zero-mod n); tail_is = sym (zero-mod n); order = omega arith; fits = omega (arith, some) }

-- the chain of no slot
empty_chain : (slots : List Slot) → IsChain slots no_chain []
empty_chain slots = record { len_is = refl; inside = All-nil (λ (x : ℕ). x < length slots); apart = tt; linked = tt }

-- its phase tag is 1
first_phase : (n : ℕ) → true ≡ phase_after 0 n
first_phase n = sym (ap (λ (m : ℕ). m % 2 == 0) (zero-div n))

-- ---- a completion queue is opened
module _ (rules : FrontRules) (notes : Notes) (a : Controller) (slots : List Slot) (k : Content) (g : Items) (cqid size x : ℕ) (h : Keeps rules notes a slots k g) (o : IsCqOpenable rules notes k cqid size x) where
  abbrev cq_state : CqState
  cq_state = record no_cq_state { ring = first_ring size }

  abbrev cq_after : Controller
  cq_after = record a { cqs = slice_set a.cqs cqid cq_state }

  abbrev cq_kept : Content
  cq_kept = opening_cq k cqid x

  cq_there : cqid < length a.cqs
  cq_there = let size = h.numbers.cqs.size in let few = o.few in omega (arith, size, few)

  cq_here : cq_at cq_after.cqs cqid ≡ cq_state
  cq_here = get_or-set_same a.cqs cqid cq_state no_cq_state cq_there

  cq_left : (q : ℕ) → q ≢ cqid → cq_at cq_after.cqs q ≡ cq_at a.cqs q
  cq_left q differs = get_or-set_other a.cqs cqid q cq_state no_cq_state differs

  -- what is so of the new queue, and of the others, is so of each
  each_cq : (P : ℕ → ℕ → CqState → Type 0) → P cqid x cq_state → ((q y : ℕ) → k.cq_life q ≡ Some y → P q y (cq_at a.cqs q))
      → (q y : ℕ) → cq_kept.cq_life q ≡ Some y → P q y (cq_at cq_after.cqs q)
  each_cq P here others =
      each_life (λ q y. P q y (cq_at cq_after.cqs q)) k.cq_life cqid x (subst (P cqid x) (sym cq_here) here) (λ q y differs was. subst (P q y) (sym (cq_left q differs)) (others q y was))

  cq_numbers : HasNumbers cq_after cq_kept
  cq_numbers = let n = h.numbers in record {
    tells = n.tells;
    board_is = n.board_is;
    is_arbiter = n.is_arbiter;
    outstanding_is = n.outstanding_is;
    sqs = each_sqs a.sqs a.rung k.table k.table k.cq_life cq_kept.cq_life k.sq_life k.sq_id k.sq k.sq k.held k.held (shown_in k.board) (shown_in k.board)
        (λ q r is w. sq_attached k.table k.cq_life cq_kept.cq_life q r (sq_at a.sqs q) (k.sq r) (k.held r) (shown_in k.board q) w (life_left k.cq_life cqid (Some x) o.no_queue _ _ w.cq_open)) n.sqs;
    cqs = record {
      ids = ids_opened k.cq_life k.cq_id cqid x n.cqs.ids o.no_queue o.no_life;
      each = λ q y is. record {
        slots = each_cq (λ q y s. s.ring.slots ≡ (k.cq y).slots) o.size_is (λ q y was. (n.cqs.each q y was).slots) q y is;
        some = each_cq (λ q y s. 0 < (k.cq y).slots) (subst (λ (m : ℕ). 0 < m) o.size_is o.some) (λ q y was. (n.cqs.each q y was).some) q y is;
      };
      few = each_cq (λ q y s. q < 65) o.few n.cqs.few;
      none = λ q none. let p = none_left k.cq_life cqid x q none in cq_left q p.0 ∙ n.cqs.none q p.1;
      size = length-set a.cqs cqid cq_state ∙ n.cqs.size;
      readied = readied-kept a.readied cqid a.cqs cq_state cq_there n.cqs.readied (λ none. refl);
    };
  }

  cq_items : HasItems cq_after slots cq_kept g
  cq_items = let m = h.has in record {
    windows = m.windows;
    outs = m.outs;
    readies = record {
      chain = each_cq (λ q y s. IsChain slots s.ready (ready_tags (g.readies y)))
          (subst (λ (its : List ReadyItem). IsChain slots no_chain (ready_tags its)) (sym (m.readies.none x o.no_life)) (empty_chain slots)) m.readies.chain;
      items = m.readies.items;
      none = λ y none. m.readies.none y (none_left k.cq_id x cqid y none).1;
      are = m.readies.are;
    };
    deletions = m.deletions;
    free = m.free;
    few = m.few;
  }

  cq_doorbells : HoldsDoorbells rules notes cq_after cq_kept
  cq_doorbells = let d = h.doorbells in record {
    sqs = d.sqs;
    cqs = record {
      each = each_cq (λ q y s. HasCounts s.ring (consumed rules notes y) (length (posted_to (logged notes) y)))
          (subst (λ (n : ℕ). HasCounts (first_ring size) n (length (posted_to (logged notes) x))) (sym (d.cqs.no_heads x o.unopened))
          (subst (λ (xs : List Cqe). HasCounts (first_ring size) 0 (length xs)) (sym (d.cqs.no_posts x o.unopened)) (first_counts size o.some))) d.cqs.each;
      phases = each_cq (λ q y s. (s.phase == 1) ≡ phase_after (length (posted_to (logged notes) y)) s.ring.slots)
          (subst (λ (xs : List Cqe). true ≡ phase_after (length xs) size) (sym (d.cqs.no_posts x o.unopened)) (first_phase size)) d.cqs.phases;
      no_heads = d.cqs.no_heads;
      no_posts = d.cqs.no_posts;
    };
  }

  pub keeps_cq_opened : Keeps rules notes cq_after slots cq_kept g
  keeps_cq_opened = record {
    numbers = cq_numbers;
    has = cq_items;
    doorbells = cq_doorbells;
    tags = h.tags;
    apart = h.apart;
  }

-- ---- a completion queue is closed
module _ (rules : FrontRules) (notes : Notes) (a : Controller) (slots : List Slot) (k : Content) (g : Items) (cqid x : ℕ) (h : Keeps rules notes a slots k g) (life : k.cq_life cqid ≡ Some x)
    (none_ready : g.readies x ≡ []) (u : IsUnattached k cqid x) where
  abbrev after_close : Controller
  after_close = record a { cqs = slice_set a.cqs cqid no_cq_state }

  abbrev kept_close : Content
  kept_close = closing_cq k cqid x

  io : cqid ≢ 0
  io e = let is = eq-eqb cqid 0 e in let not = u.io in cc (is, not)

  close_there : cqid < length a.cqs
  close_there = let size = h.numbers.cqs.size in let few = h.numbers.cqs.few cqid x life in omega (arith, size, few)

  close_left : (q : ℕ) → q ≢ cqid → cq_at after_close.cqs q ≡ cq_at a.cqs q
  close_left q differs = get_or-set_other a.cqs cqid q no_cq_state no_cq_state differs

  -- what is so of the others is so of each
  each_left : (P : ℕ → ℕ → CqState → Type 0) → ((q y : ℕ) → k.cq_life q ≡ Some y → P q y (cq_at a.cqs q)) → (q y : ℕ) → kept_close.cq_life q ≡ Some y → P q y (cq_at after_close.cqs q)
  each_left P others q y is = let w = was_life k.cq_life cqid q y is in subst (P q y) (sym (close_left q w.other)) (others q y w.was)

  close_numbers : HasNumbers after_close kept_close
  close_numbers = let n = h.numbers in record {
    tells = n.tells;
    board_is = n.board_is;
    is_arbiter = n.is_arbiter;
    outstanding_is = n.outstanding_is;
    sqs = each_sqs a.sqs a.rung k.table k.table k.cq_life kept_close.cq_life k.sq_life k.sq_id k.sq k.sq k.held k.held (shown_in k.board) (shown_in k.board)
        (λ q r is w. sq_attached k.table k.cq_life kept_close.cq_life q r (sq_at a.sqs q) (k.sq r) (k.held r) (shown_in k.board q) w
        (life_other k.cq_life cqid None _ (λ e. absurd (u.none q w.entry w.in_table (w.to ∙ e))) ∙ w.cq_open)) n.sqs;
    cqs = record {
      ids = ids_closed k.cq_life k.cq_id cqid x n.cqs.ids life io;
      each = λ q y is. record {
        slots = each_left (λ q y s. s.ring.slots ≡ (k.cq y).slots) (λ q y was. (n.cqs.each q y was).slots) q y is;
        some = each_left (λ q y s. 0 < (k.cq y).slots) (λ q y was. (n.cqs.each q y was).some) q y is;
      };
      few = each_left (λ q y s. q < 65) n.cqs.few;
      none = λ q none. put_cq-states (λ (p : ℕ) (s : CqState). kept_close.cq_life p ≡ None → s ≡ no_cq_state) a.cqs cqid no_cq_state close_there (λ none. refl) q
          (λ differs none. n.cqs.none q (sym (life_other k.cq_life cqid None q differs) ∙ none)) none;
      size = length-set a.cqs cqid no_cq_state ∙ n.cqs.size;
      readied = readied-kept a.readied cqid a.cqs no_cq_state close_there n.cqs.readied (λ none. refl);
    };
  }

  close_items : HasItems after_close slots kept_close g
  close_items = let m = h.has in record {
    windows = m.windows;
    outs = m.outs;
    readies = record {
      chain = each_left (λ q y s. IsChain slots s.ready (ready_tags (g.readies y))) m.readies.chain;
      items = m.readies.items;
      none = λ y none. elim (cases_eq y x) [
        | inl same ↦ ap g.readies same ∙ none_ready
        | inr differs ↦ m.readies.none y (sym (life_other k.cq_id x None y differs) ∙ none)
      ];
      are = m.readies.are;
    };
    deletions = m.deletions;
    free = m.free;
    few = m.few;
  }

  pub keeps_cq_closed : Keeps rules notes after_close slots kept_close g
  keeps_cq_closed = record {
    numbers = close_numbers;
    has = close_items;
    doorbells = (let d = h.doorbells in record {
      sqs = d.sqs;
      cqs = record {
        each = each_left (λ q y s. HasCounts s.ring (consumed rules notes y) (length (posted_to (logged notes) y))) d.cqs.each;
        phases = each_left (λ q y s. (s.phase == 1) ≡ phase_after (length (posted_to (logged notes) y)) s.ring.slots) d.cqs.phases;
        no_heads = d.cqs.no_heads;
        no_posts = d.cqs.no_posts;
      };
    });
    tags = h.tags;
    apart = h.apart;
  }

-- ---- a submission queue is opened
-- the queue of an identifier alone; its board is another
module _ (rules : FrontRules) (notes : Notes) (a : Controller) (slots : List Slot) (k : Content) (g : Items) (qid size cqid region c : ℕ) (h : Keeps rules notes a slots k g) (none_picked : a.picked ≡ 0)
    (o : IsOpenable rules notes k qid size cqid region c) (shows : shown_in k.board qid ≡ true) where
  abbrev sq_state : SqState
  sq_state = record no_sq_state { ring = first_ring size; cqid = cqid }

  abbrev sq_after : Controller
  sq_after = record a { sqs = slice_set a.sqs qid sq_state }

  abbrev queue : Attachment
  queue = record { qid = qid; cq_region = c }

  abbrev sq_kept : Content
  sq_kept = record (with_sq k region (record (k.sq region) { queue = Some queue })) {
    held = put_held k.held region false;
    classed = put_class k.classed region None;
    sq_life = put_life k.sq_life qid (Some region);
    sq_id = put_life k.sq_id region (Some qid);
  }

  sq_there : qid < length a.sqs
  sq_there = let size = h.numbers.sqs.size in let few = o.few in omega (arith, size, few)

  sq_here : sq_at sq_after.sqs qid ≡ sq_state
  sq_here = get_or-set_same a.sqs qid sq_state no_sq_state sq_there

  sq_left : (q : ℕ) → q ≢ qid → sq_at sq_after.sqs q ≡ sq_at a.sqs q
  sq_left q differs = get_or-set_other a.sqs qid q sq_state no_sq_state differs

  -- the region of another queue is another
  region_apart : (q r : ℕ) → k.sq_life q ≡ Some r → r ≢ region
  region_apart q r was e =
      let id = subst (λ (n : ℕ). k.sq_id n ≡ Some q) e (h.numbers.sqs.ids.ids_are q r was) in
      let none = o.no_life in
      cc (id, none)

  region_here : sq_kept.sq region ≡ record (k.sq region) { queue = Some queue }
  region_here = rw (eq-eqb region region refl) refl

  region_left : (r : ℕ) → r ≢ region → sq_kept.sq r ≡ k.sq r
  region_left r differs = rw (ne_eqb r region differs) refl

  -- what is so of the new queue, and of the others, is so of each
  each_sq : (P : ℕ → ℕ → SqState → SqContent → Bool → Type 0) → P qid region sq_state (record (k.sq region) { queue = Some queue }) false
      → ((q r : ℕ) → k.sq_life q ≡ Some r → P q r (sq_at a.sqs q) (k.sq r) (k.held r))
      → (q r : ℕ) → sq_kept.sq_life q ≡ Some r → P q r (sq_at sq_after.sqs q) (sq_kept.sq r) (sq_kept.held r)
  each_sq P here others =
      each_life (λ q r. P q r (sq_at sq_after.sqs q) (sq_kept.sq r) (sq_kept.held r)) k.sq_life qid region (rw (sq_here, eq-eqb region region refl) here)
      (λ q r differs was. rw (sq_left q differs, ne_eqb r region (region_apart q r was)) (others q r was))

  -- the same window, slots and count of each region
  window_left : (r : ℕ) → (sq_kept.sq r).window ≡ (k.sq r).window
  window_left r = elim (cases_eq r region) [
    | inl same ↦ subst (λ (n : ℕ). (sq_kept.sq n).window ≡ (k.sq n).window) (sym same) (ap (λ (s : SqContent). s.window) region_here)
    | inr differs ↦ ap (λ (s : SqContent). s.window) (region_left r differs)
  ]

  none_untaken : (b : Controller) (m : Content) → b.picked ≡ 0 → untaken b m g ≡ []
  none_untaken b m none = ap (λ (n : ℕ). take n (g.windows (picked_region b m))) none

  new_sq : IsSqOf sq_after sq_kept qid region
  new_sq = record {
    entry = o.entry;
    in_table = o.in_table;
    on = o.on;
    to = o.to ∙ sym (ap (λ (s : SqState). s.cqid) sq_here);
    cq_region = c;
    cq_open = ap (λ (s : SqState). k.cq_life s.cqid) sq_here ∙ o.cq_open;
    opened = ap (λ (s : SqContent). s.queue) region_here;
    held = ap (λ (s : SqState). s.held == 1) sq_here ∙ sym (ap (λ (b : Bool). if b then false else k.held region) (eq-eqb region region refl));
    shown = ap (λ (s : SqState). s.closing == 0) sq_here ∙ sym shows;
    unposted = ap (λ (s : SqState). s.unposted) sq_here ∙ sym o.none_unposted ∙ sym (ap (λ (s : SqContent). s.unposted) region_here);
    slots = ap (λ (s : SqState). s.ring.slots) sq_here ∙ o.size_is ∙ sym (ap (λ (s : SqContent). s.slots) region_here);
    some = subst (λ (n : ℕ). 0 < n) (o.size_is ∙ sym (ap (λ (s : SqContent). s.slots) region_here)) o.some;
  }

  other_sq : (q r : ℕ) → q ≢ qid → k.sq_life q ≡ Some r → IsSqOf sq_after sq_kept q r
  other_sq q r differs was =
      let s = h.numbers.sqs.each q r was in
      let same = sq_left q differs in
      let left = region_left r (region_apart q r was) in
      sq_changed k.table k.cq_life q r (sq_at a.sqs q) (sq_at sq_after.sqs q) (k.sq r) (sq_kept.sq r) (k.held r) (sq_kept.held r) (shown_in k.board q) (shown_in k.board q) s
      (ap (λ (z : SqState). z.cqid) same) (ap (λ (z : SqState). z.ring.slots) same) (ap (λ (z : SqState). z.unposted) same ∙ s.unposted ∙ sym (ap (λ (z : SqContent). z.unposted) left))
      (ap (λ (z : SqContent). z.queue) left) (ap (λ (z : SqContent). z.slots) left)
      (ap (λ (z : SqState). z.held == 1) same ∙ s.held ∙ sym (ap (λ (b : Bool). if b then false else k.held r) (ne_eqb r region (region_apart q r was)))) (ap (λ (z : SqState). z.closing == 0) same ∙ s.shown)

  sq_numbers : HasNumbers sq_after sq_kept
  sq_numbers = let n = h.numbers in record {
    tells = n.tells;
    board_is = n.board_is;
    is_arbiter = n.is_arbiter;
    outstanding_is = n.outstanding_is;
    sqs = record {
      ids = ids_opened k.sq_life k.sq_id qid region n.sqs.ids o.no_queue o.no_life;
      each = each_life (IsSqOf sq_after sq_kept) k.sq_life qid region new_sq other_sq;
      few = each_life (λ (q r : ℕ). q < 65) k.sq_life qid region o.few (λ q r differs was. n.sqs.few q r was);
      none = λ q none. let p = none_left k.sq_life qid region q none in sq_left q p.0 ∙ n.sqs.none q p.1;
      size = length-set a.sqs qid sq_state ∙ n.sqs.size;
      rung = rung-kept a.rung qid a.sqs sq_state sq_there n.sqs.rung (λ same. refl);
    };
    cqs = n.cqs;
  }

  nothing_waits : g.windows region ≡ []
  nothing_waits = h.has.windows.none region o.no_life

  none_was : sq_at a.sqs qid ≡ no_sq_state
  none_was = h.numbers.sqs.none qid o.no_queue

  sq_deletions : HasDeletions sq_after.sqs a.pending_deletions slots sq_kept.sq_life k.deletion g.deletes
  sq_deletions =
      let d = deletions_kept a.sqs a.pending_deletions slots k.sq_life k.deletion g.deletes qid sq_state sq_there
      (sym (ap (λ (s : SqState). s.closing) none_was)) (sym (ap (λ (s : SqState). s.tag) none_was)) h.has.deletions in
      record {
        are = d.are;
        tags = λ q. d.tags q ∙ ap (option_map (λ (it : DeleteItem). it.tag)) (elim (cases_eq q qid) [
          | inl same ↦ subst (λ (n : ℕ). delete_of g.deletes (k.sq_life n) ≡ delete_of g.deletes (sq_kept.sq_life n)) (sym same)
              (ap (delete_of g.deletes) o.no_queue ∙ sym (none_deletes sq_after.sqs a.pending_deletions slots k.sq_life k.deletion g.deletes d region o.undeleted)
              ∙ sym (ap (delete_of g.deletes) (life_same k.sq_life qid (Some region))))
          | inr differs ↦ ap (delete_of g.deletes) (sym (life_other k.sq_life qid (Some region) q differs))
        ]);
        queues = λ r it is. life_left k.sq_life qid (Some region) o.no_queue it.qid r (d.queues r it is);
        items = d.items;
        apart = d.apart;
        counted = d.counted;
      }

  sq_items : HasItems sq_after slots sq_kept g
  sq_items = let m = h.has in record {
    windows = record {
      chain = each_sq (λ q r s y on. IsChain slots s.window (tags_of (g.windows r)))
          (subst (λ (its : List Item). IsChain slots no_chain (tags_of its)) (sym nothing_waits) (empty_chain slots)) m.windows.chain;
      items = each_life (λ (q r : ℕ). All (IsWaitingIn slots q r) (g.windows r)) k.sq_life qid region
          (subst (All (IsWaitingIn slots qid region)) (sym nothing_waits) (All-nil (IsWaitingIn slots qid region))) (λ q r differs was. m.windows.items q r was);
      none = λ r none. m.windows.none r (none_left k.sq_id region qid r none).1;
      are = λ r. window_left r ∙ m.windows.are r
          ∙ ap (λ (n : ℕ). map candidate_of (drop n (g.windows r))) (none_picked_of a (k.sq_id r) none_picked ∙ sym (none_picked_of sq_after (sq_kept.sq_id r) none_picked));
      picked_there = subst (λ (n : ℕ). n ≤ length (g.windows (picked_region sq_after sq_kept))) (sym none_picked) (omega arith);
    };
    outs = record {
      items = All-weaker (IsOutIn k.sq_id slots) (IsOutIn sq_kept.sq_id slots)
          (λ it w. record { inside = w.inside; state = w.state; queue = life_left k.sq_id region (Some qid) o.no_life _ _ w.queue; entry = w.entry }) g.outs m.outs.items;
      apart = m.outs.apart;
      all = m.outs.all;
      hand_is = m.outs.hand_is ∙ ap (λ (its : List Item). places_of (g.outs ++ its)) (none_untaken a k none_picked ∙ sym (none_untaken sq_after sq_kept none_picked));
    };
    readies = record {
      chain = m.readies.chain;
      items = λ x. All-weaker (IsReadyIn k.sq_id slots) (IsReadyIn sq_kept.sq_id slots) (λ y w. record {
        state = w.state;
        queue = life_left k.sq_id region (Some qid) o.no_life _ _ w.queue;
        sqid = w.sqid;
        cid = w.cid;
        sct = w.sct;
        few_types = w.few_types;
        sc = w.sc;
        dw0 = w.dw0;
        not_both = w.not_both;
        flags = w.flags;
      }) (g.readies x) (m.readies.items x);
      none = m.readies.none;
      are = m.readies.are;
    };
    deletions = sq_deletions;
    free = m.free;
    few = m.few;
  }

  sq_doorbells : HoldsDoorbells rules notes sq_after sq_kept
  sq_doorbells = let d = h.doorbells in record {
    sqs = record {
      each = each_sq (λ q r s y on. HasCounts s.ring (length (fetched (logged notes) r)) (submitted rules notes r))
          (subst (λ (n : ℕ). HasCounts (first_ring size) (length (fetched (logged notes) region)) n) (sym (d.sqs.no_tails region o.unopened))
          (subst (λ (xs : List Sqe). HasCounts (first_ring size) (length xs) 0) (sym o.nothing_fetched) (first_counts size o.some))) d.sqs.each;
      no_tails = λ r none. d.sqs.no_tails r (elim (cases_eq r region) [
        | inl same ↦ absurd (let some = subst (λ (n : ℕ). (sq_kept.sq n).queue ≡ Some queue) (sym same) (ap (λ (s : SqContent). s.queue) region_here) in cc (some, none))
        | inr differs ↦ sym (ap (λ (s : SqContent). s.queue) (region_left r differs)) ∙ none
      ]);
    };
    cqs = d.cqs;
  }

  keeps_sq_opened : Keeps rules notes sq_after slots sq_kept g
  keeps_sq_opened = record {
    numbers = sq_numbers;
    has = sq_items;
    doorbells = sq_doorbells;
    tags = (let m = h.tags in record {
      untaken_are = m.untaken_are ∙ ap (λ (its : List Item). taken notes ++ places_of its) (none_untaken a k none_picked ∙ sym (none_untaken sq_after sq_kept none_picked));
      held = m.held;
      through = m.through;
      unanswered = m.unanswered;
      hand_entries = subst (λ (its : List Item). All (HasEntry (logged notes)) (g.outs ++ its)) (none_untaken a k none_picked ∙ sym (none_untaken sq_after sq_kept none_picked)) m.hand_entries;
      free_count = m.free_count;
      cookies = m.cookies;
      passed = m.passed;
      flagged = m.flagged;
    });
    apart = h.apart;
  }

-- with its board
pub keeps_opened : (rules : FrontRules) (notes : Notes) (a b : Controller) (slots : List Slot) (k : Content) (g : Items) (qid size cqid region c : ℕ) (class : Class) (board : BoardFields)
    → Keeps rules notes a slots k g → a.picked ≡ 0 → IsOpenable rules notes k qid size cqid region c
    → board_of board ≡ record (board_of a.board) { queues = slice_set (board_of a.board).queues qid (Some (record { class = class; count = 0 })) } → board.arbiter ≡ a.board.arbiter
    → queue_at (board_of board).queues qid ≡ Some (record { class = class; count = 0 })
    → b ≡ record a { board = board; sqs = slice_set a.sqs qid (record no_sq_state { ring = first_ring size; cqid = cqid }) } → Keeps rules notes b slots (opening k qid region c class) g
keeps_opened rules notes a b slots k g qid size cqid region c class board h none o opened arbiter there is =
    let v : BoardView = record k.board { queues = slice_set k.board.queues qid (Some (record { class = class; count = 0 })) } in
    let now : board_of board ≡ v = opened ∙ ap (λ (x : BoardView). record x { queues = slice_set x.queues qid (Some (record { class = class; count = 0 })) }) h.numbers.board_is in
    let shows : shown_in v qid ≡ true = ap (λ (x : BoardView). shown_in x qid) (sym now) ∙ ap (λ (x : Option OpenQueue). is_some x) there in
    let on : Keeps rules notes (record a { board = board }) slots (record k { board = v }) g =
    keeps_board rules notes a slots k g board v h now (subst (λ (x : ArbiterFields). IsTrue (is_arbiter x)) (sym arbiter) h.numbers.is_arbiter)
    (λ q r is. ap (λ (x : Option OpenQueue). is_some x) (get_or-set_other k.board.queues qid q (Some (record { class = class; count = 0 })) None (λ e. absurd (let none = o.no_queue in let life = ap k.sq_life (sym e) ∙ is in cc (none, life))))) in
    subst (λ (z : Controller). Keeps rules notes z slots (opening k qid region c class) g) (sym is)
    (keeps_sq_opened rules notes (record a { board = board }) slots (record k { board = v }) g qid size cqid region c on none (record {
      entry = o.entry;
      in_table = o.in_table;
      on = o.on;
      to = o.to;
      few = o.few;
      no_queue = o.no_queue;
      no_life = o.no_life;
      unopened = o.unopened;
      nothing_fetched = o.nothing_fetched;
      none_unposted = o.none_unposted;
      undeleted = o.undeleted;
      size_is = o.size_is;
      some = o.some;
      cq_open = o.cq_open;
    }) shows)
