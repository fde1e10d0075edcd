-- A command whose slot is between two lists becomes ready in a completion queue.
use Rattle.std.proofs.Common.{◌≡◌, ◌≢◌, ℕ, ◌+◌, ◌<◌, ◌≤◌, ◌^◌, ◌==◌, Bool, true, false, if◌then◌else◌, List, [], ◌∷◌, ◌++◌, length, Option, Some, None, refl, sym, ap, ◌∙◌, subst, arith, inl, inr, eq-eqb}
use Rattle.std.specs.Prelude.{slice_set}
use Rattle.std.specs.List.{All}
use Rattle.std.proofs.lemmas.Bool.{cases_eq, ne_eqb}
use Rattle.std.proofs.lemmas.List.{length-set, map-append}
use Rattle.std.proofs.lemmas.List.Elements.{All-cons, All-push, All-weaker, All-map}
use Rattle.nvme_entry.specs.Status.{StatusCode}
use Rattle.nvme_log.specs.Rules.{FrontRules}
use Rattle.nvme_log.specs.Completions.{posted_to, phase_after}
use Rattle.nvme_log.specs.Dispatches.{place_at}
use Rattle.nvme_ctrl_log.specs.Notes.{Notes, logged}
use Rattle.nvme_ctrl_log.specs.Doorbells.{consumed}
use Rattle.nvme_slots.specs.Rings.{HasCounts}
use Rattle.nvme_ctrl_log.specs.StatusFlags.{flags_or, own_flags}
use Rattle.nvme_ctrl_log.specs.Tags.{holder, all_posts}
use Rattle.nvme_ctrl_log.specs.declared.status_flags.StatusFlags.{StatusFlags}
use Rattle.nvme_slots.specs.declared.slot.Slot.{Slot}
use Rattle.nvme_slots.specs.declared.chain.Chain.{Chain}
use Rattle.nvme_ctrl.specs.declared.state.CqState.{CqState}
use Rattle.nvme_ctrl.specs.declared.state.Controller.{Controller}
use Rattle.nvme_ctrl_content.specs.Content.{Ready, CqContent, Content, with_ready}
use Rattle.nvme_ctrl.specs.kept.Kept.{is_passed_at, IsReadyOf, Item, ReadyItem, Items, IsWaitingIn, IsOutIn, IsReadyIn, IsThrough, IsCookie, IsUnflagged, HasReadyCookie, HasFlags, HoldsCookies, HasNumbers, HasItems, HoldsDoorbells, HoldsTags, tags_of, ready_tags, readies_of, ready_state, is_free}
use Rattle.nvme_ctrl.specs.inside.Loose.{IsLoose, AreReadiesApart, Keeps, MakesReady, ended, with_item}
use Rattle.nvme_slots.specs.Pool.{slot_at, item_at, next_at, put_item, bit, flags_in, IsChain, IsNew, SameLinks}
use Rattle.nvme_ctrl.specs.kept.State.{no_cq_state, cq_at}
use Rattle.nvme_slots.proofs.Chains.{IsPushed}
use Rattle.nvme_ctrl.proofs.Cookies.{SameCookies, same_cookies-but, cookie_left, items_left, readies_left}
use Rattle.nvme_ctrl.proofs.Lives.{put_cq-lives, put_cq-states}
use Rattle.nvme_ctrl.proofs.PendingDeletions.{deletions_stay}
use Rattle.nvme_ctrl.proofs.PutFlags.{put_flags}
use Rattle.nvme_ctrl_content.proofs.OwnStatus.{All-unmap}
use Rattle.nvme_slots.proofs.Pools.{length-put_item, item_at-put_item_same, item_at-put_item_other, next_at-put_item, chain-put_item, IsNew-nil, IsNew-cons, IsNew-append, chain-other, length-apart}
use Rattle.nvme_ctrl.proofs.SlotItems.{All-both, ready_state-range, same_state, waiting_stays, out_stays, ready_stays}
use Rattle.nvme_ctrl.specs.kept.QueueSets.{with_queue}
use Rattle.nvme_ctrl.proofs.QueueSets.{readied-put}

module _ (rules : FrontRules) (notes : Notes) (a : Controller) (slots : List Slot) (k : Content) (g : Items) (h : Keeps rules notes a slots k g) where
  -- a slot of another state is none of those that are ready
  pub new_to_ready : (x n : ℕ) → (slot_at slots x).state ≡ n → n ≤ 2 → (y : ℕ) → IsNew x (ready_tags (g.readies y))
  new_to_ready x n is low y =
      All-map (λ (z : ℕ). z ≢ x) (λ (it : ReadyItem). it.tag) (g.readies y)
      (All-weaker (IsReadyIn k.sq_id slots) (λ (it : ReadyItem). it.tag ≢ x)
      (λ it r e. absurd (omega (arith, ap (λ (z : ℕ). (slot_at slots z).state) e, r.state, (ready_state-range it.was_out it.ready.with_queue).0, is, low)))
      (g.readies y) (h.has.readies.items y))

  -- so with those that wait
  pub windows_unready : (q r y : ℕ) → k.sq_life q ≡ Some r → All (λ (x : ℕ). IsNew x (ready_tags (g.readies y))) (tags_of (g.windows r))
  windows_unready q r y life =
      All-map (λ (x : ℕ). IsNew x (ready_tags (g.readies y))) (λ (it : Item). it.tag) (g.windows r)
      (All-weaker (IsWaitingIn slots q r) (λ (it : Item). IsNew it.tag (ready_tags (g.readies y))) (λ it w. new_to_ready it.tag 1 w.state (omega arith) y) (g.windows r) (h.has.windows.items q r life))

  -- and the free ones
  pub free_unready : (y : ℕ) → All (λ (x : ℕ). IsNew x (ready_tags (g.readies y))) g.free
  free_unready y = All-weaker (is_free slots) (λ (x : ℕ). IsNew x (ready_tags (g.readies y))) (λ x f. new_to_ready x 0 f (omega arith) y) g.free h.has.free.items

module _ (rules : FrontRules) (notes : Notes) (a : Controller) (slots : List Slot) (k : Content) (g : Items) (h : Keeps rules notes a slots k g)
    (tag : ℕ) (loose : IsLoose slots g tag) (cqid region : ℕ) (life : k.cq_life cqid ≡ Some region) (t : Ready) (through : IsThrough notes t)
    (pool : List Slot) (size : length pool ≡ length slots) (others : (y : ℕ) → y ≢ tag → item_at pool y ≡ item_at slots y)
    (links : SameLinks (ready_tags (g.readies region)) slots pool)
    (chain : Chain) (linked : IsChain pool chain (ready_tags (g.readies region) ++ tag ∷ []))
    (ready : IsReadyIn k.sq_id pool (ended tag t)) (same : SameCookies slots pool) (cookie : IsCookie notes slots tag t.place) (passed_as : t.passed ≡ is_passed_at notes t.place) (unflagged : IsUnflagged notes t.place) where
  abbrev later : Items
  later = with_item g region (ended tag t)

  abbrev kept : Content
  kept = with_ready k region t

  abbrev state : CqState
  state = record (cq_at a.cqs cqid) { ready = chain }

  abbrev after : Controller
  after = record a { cqs = slice_set a.cqs cqid state; readied = with_queue a.readied cqid true }

  there : cqid < length a.cqs
  there = let size = h.numbers.cqs.size in let within = h.numbers.cqs.few cqid region life in omega (arith, within)

  abbrev ready_content : CqContent
  ready_content = record (k.cq region) { ready = (k.cq region).ready ++ t ∷ [] }

  -- what is so of each open completion queue
  each : (P : ℕ → ℕ → CqState → CqContent → Type 0) → P cqid region state ready_content
      → ((q x : ℕ) → q ≢ cqid → x ≢ region → k.cq_life q ≡ Some x → P q x (cq_at a.cqs q) (k.cq x))
      → (q x : ℕ) → k.cq_life q ≡ Some x → P q x (cq_at after.cqs q) (kept.cq x)
  each P here other =
      put_cq-lives (λ q x s c (its : List ReadyItem). P q x s c) k.cq_life k.cq_id h.numbers.cqs.ids a.cqs k.cq g.readies cqid region state ready_content [] life there here other

  -- with what is ready in it
  each_ready : (P : ℕ → ℕ → CqState → List ReadyItem → Type 0) → P cqid region state (g.readies region ++ ended tag t ∷ [])
      → ((q x : ℕ) → q ≢ cqid → x ≢ region → k.cq_life q ≡ Some x → P q x (cq_at a.cqs q) (g.readies x))
      → (q x : ℕ) → k.cq_life q ≡ Some x → P q x (cq_at after.cqs q) (later.readies x)
  each_ready P here other =
      put_cq-lives (λ q x s (c : CqContent) its. P q x s its) k.cq_life k.cq_id h.numbers.cqs.ids a.cqs k.cq g.readies cqid region state ready_content (g.readies region ++ ended tag t ∷ []) life there here other

  -- what is so of each completion region
  each_region : (P : ℕ → CqContent → List ReadyItem → Type 0) → P region ready_content (g.readies region ++ ended tag t ∷ [])
      → ((x : ℕ) → x ≢ region → P x (k.cq x) (g.readies x)) → (x : ℕ) → P x (kept.cq x) (later.readies x)
  each_region P here other x = elim (cases_eq x region) [
    | inl same ↦ subst (λ (n : ℕ). P n (kept.cq n) (later.readies n)) (sym same) (rw (eq-eqb region region refl) here)
    | inr differs ↦ rw (ne_eqb x region differs) (other x differs)
  ]

  -- the tags in the region are one more
  tags_are : ready_tags (g.readies region ++ ended tag t ∷ []) ≡ ready_tags (g.readies region) ++ tag ∷ []
  tags_are = map-append (λ (it : ReadyItem). it.tag) (g.readies region) (ended tag t ∷ [])

  -- a chain of others is left
  left : (c : Chain) (xs : List ℕ) → IsChain slots c xs → All (λ (x : ℕ). IsNew x (ready_tags (g.readies region))) xs → IsChain pool c xs
  left c xs is apart = chain-other slots pool c xs (ready_tags (g.readies region)) is links size apart

  -- the slot has another state now
  ended_state : (n : ℕ) → n ≤ 3 → (slot_at pool tag).state ≡ n → ⊥
  ended_state n low is = by t.with_queue ready.state where
    by : (b : Bool) → (slot_at pool tag).state ≡ ready_state false b → ⊥
    by true s = absurd (omega (arith, s, is, low))
    by false s = absurd (omega (arith, s, is, low))

  -- so a slot of such a state had it before
  had_state : (x n : ℕ) → n ≤ 3 → (slot_at pool x).state ≡ n → (slot_at slots x).state ≡ n
  had_state x n low is = elim (cases_eq x tag) [
    | inl same ↦ absurd (ended_state n low (subst (λ (y : ℕ). (slot_at pool y).state ≡ n) same is))
    | inr other ↦ ap (λ (s : Slot). s.state) (sym (others x other)) ∙ is
  ]

  numbers_after : HasNumbers after kept
  numbers_after = let n = h.numbers in record {
    tells = n.tells;
    board_is = n.board_is;
    is_arbiter = n.is_arbiter;
    outstanding_is = n.outstanding_is;
    sqs = n.sqs;
    cqs = record {
      ids = n.cqs.ids;
      each = λ q x is. record {
        slots = each (λ q x s c. s.ring.slots ≡ c.slots) (n.cqs.each cqid region life).slots (λ q x other apart is. (n.cqs.each q x is).slots) q x is;
        some = each (λ q x s c. 0 < c.slots) (n.cqs.each cqid region life).some (λ q x other apart is. (n.cqs.each q x is).some) q x is;
      };
      few = n.cqs.few;
      none = λ q. put_cq-states (λ (q : ℕ) (s : CqState). k.cq_life q ≡ None → s ≡ no_cq_state) a.cqs cqid state there (λ none. absurd (cc (none, life))) q (λ other. n.cqs.none q);
      size = length-set a.cqs cqid state ∙ n.cqs.size;
      readied = readied-put a.readied cqid true a.cqs state there n.cqs.readied (λ no. absurd (cc no));
    };
  }

  items_after : HasItems after pool kept later
  items_after = let m = h.has in record {
    windows = record {
      chain = λ q r is. left _ _ (m.windows.chain q r is) (windows_unready rules notes a slots k g h q r region is);
      items = λ q r is. All-both (λ (it : Item). it.tag ≢ tag) (IsWaitingIn slots q r) (IsWaitingIn pool q r) (λ it. waiting_stays slots pool tag size others q r it) (g.windows r)
          (All-unmap (λ (x : ℕ). x ≢ tag) (λ (it : Item). it.tag) (g.windows r) (loose.windows r)) (m.windows.items q r is);
      none = m.windows.none;
      are = m.windows.are;
      picked_there = m.windows.picked_there;
    };
    outs = record {
      items = All-both (λ (it : Item). it.tag ≢ tag) (IsOutIn k.sq_id slots) (IsOutIn k.sq_id pool) (out_stays slots pool tag size others k.sq_id) g.outs
          (All-unmap (λ (x : ℕ). x ≢ tag) (λ (it : Item). it.tag) g.outs loose.outs) m.outs.items;
      apart = m.outs.apart;
      all = λ x is. m.outs.all x (had_state x 2 (omega arith) is);
      hand_is = m.outs.hand_is;
    };
    readies = record {
      chain = each_ready (λ q x s its. IsChain pool s.ready (ready_tags its)) (subst (IsChain pool chain) (sym tags_are) linked)
          (λ q x other apart is. left _ _ (m.readies.chain q x is) (h.apart x region apart));
      items = each_region (λ x c its. All (IsReadyIn k.sq_id pool) its) (All-push (IsReadyIn k.sq_id pool) (g.readies region) (ended tag t) (still region) ready) (λ x other. still x);
      none = each_region (λ x c its. k.cq_id x ≡ None → its ≡ []) (λ none. absurd (let id = h.numbers.cqs.ids.ids_are cqid region life in cc (none, id))) (λ x other. m.readies.none x);
      are = each_region (λ x c its. c.ready ≡ readies_of its)
          (ap (λ (ts : List Ready). ts ++ t ∷ []) (m.readies.are region) ∙ sym (map-append (λ (it : ReadyItem). it.ready) (g.readies region) (ended tag t ∷ [])))
          (λ x other. m.readies.are x);
    };
    deletions = deletions_stay a.sqs a.pending_deletions slots pool k.sq_life k.deletion g.deletes tag size others loose.deletes m.deletions;
    free = record {
      chain = left _ _ m.free.chain (free_unready rules notes a slots k g h region);
      items = All-both (λ (x : ℕ). x ≢ tag) (is_free slots) (is_free pool) (λ x other. same_state slots pool tag size others x 0 other) g.free loose.free m.free.items;
    };
    few = subst (λ (n : ℕ). n < 2 ^ 16) (sym size) m.few;
  } where
    still : (x : ℕ) → All (IsReadyIn k.sq_id pool) (g.readies x)
    still x = All-both (λ (it : ReadyItem). it.tag ≢ tag) (IsReadyIn k.sq_id slots) (IsReadyIn k.sq_id pool) (ready_stays slots pool tag size others k.sq_id) (g.readies x)
        (All-unmap (λ (y : ℕ). y ≢ tag) (λ (it : ReadyItem). it.tag) (g.readies x) (loose.readies x)) (h.has.readies.items x)

  doorbells_after : HoldsDoorbells rules notes after kept
  doorbells_after = let d = h.doorbells in record {
    sqs = d.sqs;
    cqs = record {
      each = each (λ q x s c. HasCounts s.ring (consumed rules notes x) (length (posted_to (logged notes) x))) (d.cqs.each cqid region life) (λ q x other apart is. d.cqs.each q x is);
      phases = each (λ q x s c. (s.phase == 1) ≡ phase_after (length (posted_to (logged notes) x)) s.ring.slots) (d.cqs.phases cqid region life) (λ q x other apart is. d.cqs.phases q x is);
      no_heads = d.cqs.no_heads;
      no_posts = d.cqs.no_posts;
    };
  }

  tags_after : HoldsTags notes after pool kept later
  tags_after = let m = h.tags in record {
    untaken_are = m.untaken_are;
    held = record {
      outs = m.held.outs;
      readies = each_region (λ x c its. All (λ (y : ReadyItem). y.was_out ≡ true → holder notes y.tag ≡ Some y.ready.place) its)
          (All-push (λ (y : ReadyItem). y.was_out ≡ true → holder notes y.tag ≡ Some y.ready.place) (g.readies region) (ended tag t) (m.held.readies region) (λ no. absurd (cc no)))
          (λ x other. m.held.readies x);
      none = λ x not_out not_answered. elim (cases_eq x tag) [
        | inl same ↦ subst (λ (y : ℕ). holder notes y ≡ None) (sym same) (m.held.none tag loose.not_out loose.not_answered)
        | inr other ↦ let state = ap (λ (s : Slot). s.state) (others x other) in
            m.held.none x (λ e. not_out (state ∙ e)) (λ e. not_answered (state ∙ e))
      ];
      answered = λ x is. m.held.answered x (had_state x 3 (omega arith) is);
    };
    through = each_region (λ x c its. All (λ (y : ReadyItem). IsThrough notes y.ready) its)
        (All-push (λ (y : ReadyItem). IsThrough notes y.ready) (g.readies region) (ended tag t) (m.through region) through) (λ x other. m.through x);
    unanswered = m.unanswered;
    hand_entries = m.hand_entries;
    free_count = m.free_count ∙ ap (λ (n : ℕ). n + all_posts (logged notes)) (sym size);
    cookies = cookies_after;
    passed = (let p = m.passed in record {
      all_handed = p.all_handed;
      served = p.served;
      readies = each_region (λ x c its. All (IsReadyOf notes) its) (All-push (IsReadyOf notes) (g.readies region) (ended tag t) (p.readies region) passed_as) (λ x other. p.readies x);
      deletes = p.deletes;
    });
    flagged = record {
      none = m.flagged.none;
      readies = each_region (λ x c its. All (HasFlags notes) its)
          (All-push (HasFlags notes) (g.readies region) (ended tag t) (m.flagged.readies region) (ap (λ (o : Option StatusFlags). flags_or t.status o) (sym unflagged))) (λ x other. m.flagged.readies x);
    };
  } where
    cookies_after : HoldsCookies notes pool later
    cookies_after = let q = h.tags.cookies in record {
      windows = λ r. items_left notes slots pool same (g.windows r) (q.windows r);
      outs = items_left notes slots pool same g.outs q.outs;
      readies = each_region (λ x c its. All (HasReadyCookie notes pool) its)
          (readies_left notes slots pool same (g.readies region ++ ended tag t ∷ []) (All-push (HasReadyCookie notes slots) (g.readies region) (ended tag t) (q.readies region) cookie))
          (λ x other. readies_left notes slots pool same (g.readies x) (q.readies x));
      deletes = λ r it is. cookie_left notes slots pool same it.tag (place_at 0 it.index) (q.deletes r it is);
      none = q.none;
    }

  apart_after : AreReadiesApart later
  apart_after x y differ = elim (cases_eq x region) [
    | inl same ↦
        let other : y ≢ region = λ e. differ (same ∙ sym e) in
        subst (λ (n : ℕ). All (λ (z : ℕ). IsNew z (ready_tags (later.readies y))) (ready_tags (later.readies n))) (sym same)
        (rw (eq-eqb region region refl) (rw (ne_eqb y region other)
        (subst (All (λ (z : ℕ). IsNew z (ready_tags (g.readies y)))) (sym tags_are)
        (All-push (λ (z : ℕ). IsNew z (ready_tags (g.readies y))) (ready_tags (g.readies region)) tag (h.apart region y (λ e. other (sym e))) (loose.readies y)))))
    | inr other ↦ rw (ne_eqb x region other) (elim (cases_eq y region) [
      | inl same ↦
          subst (λ (n : ℕ). All (λ (z : ℕ). IsNew z (ready_tags (later.readies n))) (ready_tags (g.readies x))) (sym same)
          (rw (eq-eqb region region refl) (subst (λ (ys : List ℕ). All (λ (z : ℕ). IsNew z ys) (ready_tags (g.readies x))) (sym tags_are)
          (All-both (λ (z : ℕ). z ≢ tag) (λ (z : ℕ). IsNew z (ready_tags (g.readies region))) (λ (z : ℕ). IsNew z (ready_tags (g.readies region) ++ tag ∷ []))
          (λ z not new. IsNew-append z (ready_tags (g.readies region)) (tag ∷ []) new (IsNew-cons z tag [] (λ e. not (sym e)) (IsNew-nil z)))
          (ready_tags (g.readies x)) (loose.readies x) (h.apart x region other))))
      | inr differs ↦ rw (ne_eqb y region differs) (h.apart x y differ)
    ])
  ]

  -- all is kept
  pub keeps_ended : Keeps rules notes after pool kept later
  keeps_ended = record {
    numbers = numbers_after;
    has = items_after;
    doorbells = doorbells_after;
    tags = tags_after;
    apart = apart_after;
  }

-- another slot that is in no list stays so
pub loose_ended : (slots pool : List Slot) (g : Items) (tag region : ℕ) (t : Ready) (y : ℕ) → length pool ≡ length slots
    → ((z : ℕ) → z ≢ tag → item_at pool z ≡ item_at slots z) → y ≢ tag → IsLoose slots g y → IsLoose pool (with_item g region (ended tag t)) y
loose_ended slots pool g tag region t y size others differ loose =
    let state = ap (λ (s : Slot). s.state) (others y differ) in
    record {
      inside = subst (λ (n : ℕ). y < n) (sym size) loose.inside;
      windows = loose.windows;
      outs = loose.outs;
      readies = λ x. by (x == region) x;
      deletes = loose.deletes;
      free = loose.free;
      not_out = λ e. loose.not_out (sym state ∙ e);
      not_answered = λ e. loose.not_answered (sym state ∙ e);
    } where
      by : (b : Bool) (x : ℕ) → IsNew y (ready_tags (if b then g.readies region ++ ended tag t ∷ [] else g.readies x))
      by true x =
          subst (IsNew y) (sym (map-append (λ (it : ReadyItem). it.tag) (g.readies region) (ended tag t ∷ [])))
          (IsNew-append y (ready_tags (g.readies region)) (tag ∷ []) (loose.readies region) (IsNew-cons y tag [] (λ e. differ (sym e)) (IsNew-nil y)))
      by false x = loose.readies x

-- ---- as a slot is put, and pushed
-- all is kept where its answer was put into the slot, and the slot pushed onto the chain of a completion queue
pub keeps_end : (rules : FrontRules) (notes : Notes) (a b : Controller) (slots mid pool : List Slot) (k : Content) (g : Items) (t : Ready) (tag state cqid dw0 : ℕ) (status : StatusCode)
    (chain : Chain) → Keeps rules notes a slots k g
    → mid ≡ put_item slots tag (record (slot_at slots tag) { state = state; sct = status.sct; sc = status.sc; dw0 = dw0; more = bit (own_flags status).more; do_not_retry = bit (own_flags status).do_not_retry })
    → IsPushed mid (cq_at a.cqs cqid).ready tag pool chain → b ≡ record a { cqs = slice_set a.cqs cqid (record (cq_at a.cqs cqid) { ready = chain }); readied = with_queue a.readied cqid true } → status.sct < 8
    → IsLoose slots g tag → MakesReady slots tag state status dw0 t → IsThrough notes t → IsCookie notes slots tag t.place → t.passed ≡ is_passed_at notes t.place → IsUnflagged notes t.place
    → (region : ℕ) → k.cq_life cqid ≡ Some region → k.sq_id t.place.region ≡ Some t.sqid
    → Keeps rules notes b pool (with_ready k region t) (with_item g region (ended tag t))
keeps_end rules notes a b slots mid pool k g t tag state cqid dw0 status chain h put p is few loose makes through cookie passed_as unflagged region life of_queue =
    subst (λ (c : Controller). Keeps rules notes c pool (with_ready k region t) (with_item g region (ended tag t))) (sym is)
    (keeps_ended rules notes a slots k g h tag loose cqid region life t through pool size others left chain
    (p.chain (ready_tags (g.readies region)) linked (subst (λ (n : ℕ). tag < n) (sym mid_size) loose.inside) (loose.readies region) room) ready
    (same_cookies-but slots pool tag others (ap (λ (x : Slot). x.cookie) now)) cookie passed_as unflagged) where
      put_slot : Slot
      put_slot = record (slot_at slots tag) { state = state; sct = status.sct; sc = status.sc; dw0 = dw0; more = bit (own_flags status).more; do_not_retry = bit (own_flags status).do_not_retry }

      mid_size : length mid ≡ length slots
      mid_size = ap (λ (xs : List Slot). length xs) put ∙ length-put_item slots tag put_slot

      size : length pool ≡ length slots
      size = p.items.size ∙ mid_size

      others : (y : ℕ) → y ≢ tag → item_at pool y ≡ item_at slots y
      others y differ = p.items.items y ∙ ap (λ (xs : List Slot). item_at xs y) put ∙ item_at-put_item_other slots tag put_slot y differ

      linked : IsChain mid (cq_at a.cqs cqid).ready (ready_tags (g.readies region))
      linked =
          subst (λ (xs : List Slot). IsChain xs (cq_at a.cqs cqid).ready (ready_tags (g.readies region))) (sym put)
          (chain-put_item slots (cq_at a.cqs cqid).ready (ready_tags (g.readies region)) tag put_slot (h.has.readies.chain cqid region life))

      left : SameLinks (ready_tags (g.readies region)) slots pool
      left x new = p.links (ready_tags (g.readies region)) linked x new ∙ ap (λ (xs : List Slot). next_at xs x) put ∙ next_at-put_item slots tag put_slot x

      -- the chain and the slot are no more than the pool
      room : length (ready_tags (g.readies region)) + 1 < 2 ^ 16
      room =
          let was = h.has.readies.chain cqid region life in
          let all = length-apart (length slots) (tag ∷ ready_tags (g.readies region)) (loose.readies region, was.apart)
          (All-cons (λ (x : ℕ). x < length slots) tag (ready_tags (g.readies region)) loose.inside was.inside) in
          let few = h.has.few in
          omega arith

      now : item_at pool tag ≡ record put_slot { next = 0 }
      now = p.items.items tag ∙ ap (λ (xs : List Slot). item_at xs tag) put ∙ item_at-put_item_same slots tag put_slot loose.inside

      slot_queue : (slot_at pool tag).sqid ≡ t.sqid
      slot_queue = ap (λ (x : Slot). x.sqid) now ∙ makes.sqid

      ready : IsReadyIn k.sq_id pool (ended tag t)
      ready = record {
        state = ap (λ (x : Slot). x.state) now ∙ makes.state_is;
        queue = of_queue ∙ sym (ap (λ (n : ℕ). Some n) slot_queue);
        sqid = slot_queue;
        cid = ap (λ (x : Slot). x.entry.cid) now ∙ makes.cid;
        sct = ap (λ (x : Slot). x.sct) now ∙ ap (λ (x : StatusCode). x.sct) makes.status_is;
        few_types = subst (λ (n : ℕ). n < 8) (sym (ap (λ (x : Slot). x.sct) now)) few;
        sc = ap (λ (x : Slot). x.sc) now ∙ ap (λ (x : StatusCode). x.sc) makes.status_is;
        dw0 = ap (λ (x : Slot). x.dw0) now ∙ makes.dw0_is;
        not_both = λ no. absurd (cc no);
        flags = ap flags_in now ∙ put_flags (own_flags status) ∙ ap own_flags makes.status_is;
      }
