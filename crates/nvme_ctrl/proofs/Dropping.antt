-- The candidates of a submission queue are dropped, the oldest first: their completions are ready.
use Rattle.std.proofs.Common.{◌≡◌, ◌≢◌, ℕ, ◌+◌, ◌<◌, ◌≤◌, ◌==◌, Bool, true, false, if◌then◌else◌, List, [], ◌∷◌, ◌++◌, zero, suc, length, get_or, map, drop, Option, Some, None, refl, sym, ap, ◌∙◌, subst, arith, inl, inr, eq-eqb, append_assoc, append-nil}
use Rattle.std.specs.Prelude.{slice_set}
use Rattle.std.specs.List.{All}
use Rattle.std.proofs.lemmas.Option.{same_Some}
use Rattle.std.proofs.lemmas.List.{length-map, drop_more}
use Rattle.nvme_log.specs.Dispatches.{place_at}
use Rattle.std.proofs.lemmas.Bool.{cases_eq, ne_eqb}
use Rattle.std.proofs.lemmas.List.Elements.{All-head, All-tail, All-weaker, All-map}
use Rattle.nvme_entry.specs.Status.{aborted_by_deletion}
use Rattle.nvme_entry.specs.declared.submission.Sqe.{Sqe}
use Rattle.nvme_log.specs.Rules.{FrontRules}
use Rattle.nvme_log.specs.Places.{is_aborted}
use Rattle.nvme_ctrl_log.specs.Tags.{answer_of, cookie_of}
use Rattle.nvme_ctrl_log.specs.Notes.{Notes, logged}
use Rattle.nvme_slots.specs.declared.slot.Slot.{Slot}
use Rattle.nvme_ctrl.specs.declared.state.SqState.{SqState}
use Rattle.nvme_ctrl.specs.declared.state.Controller.{Controller}
use Rattle.nvme_ctrl_content.specs.Content.{Attachment, Candidate, Ready, SqContent, CqContent, Content, put_sq, put_cq, with_sq, with_ready}
use Rattle.nvme_ctrl_content.specs.Steps.{aborted}
use Rattle.nvme_ctrl.specs.kept.Kept.{is_passed_at, Item, Items, IsWaitingIn, IsOutIn, IsUnanswered, IsThrough, tags_of, candidate_of, IsCookie, HasCookie, IsUnflagged}
use Rattle.nvme_ctrl.specs.inside.Loose.{IsLoose, Keeps, MakesReady, ended, with_item}
use Rattle.nvme_ctrl_content.specs.Carrying.{IsDroppable, dropped}
use Rattle.nvme_ctrl.specs.inside.Carrying.{oldest_dropped, item_dropped, HasDropped}
use Rattle.nvme_slots.specs.Pool.{no_entry, slot_at, item_at, first_of, shorter, IsChain, IsNew}
use Rattle.nvme_ctrl.specs.kept.State.{sq_at}
use Rattle.nvme_ctrl.proofs.CarriedOut.{none_picked_of}
use Rattle.nvme_slots.proofs.Chains.{pop-first, pop-shorter}
use Rattle.nvme_ctrl.proofs.Ending.{new_to_ready, loose_ended}
use Rattle.nvme_ctrl.proofs.PendingDeletions.{deletes_apart}
use Rattle.nvme_ctrl.proofs.Lives.{one_life}
use Rattle.nvme_slots.proofs.Pools.{IsNew-by, IsNew-nil}
use Rattle.nvme_ctrl.proofs.Windowed.{with_window, keeps_windowed}

-- the completion queue of a submission queue is the one of the region that it posts to
pub posts_to : (rules : FrontRules) (notes : Notes) (a : Controller) (slots : List Slot) (k : Content) (g : Items) (qid region c : ℕ) → Keeps rules notes a slots k g → k.sq_life qid ≡ Some region
    → (k.sq region).queue ≡ Some (record { qid = qid; cq_region = c }) → k.cq_life (sq_at a.sqs qid).cqid ≡ Some c
posts_to rules notes a slots k g qid region c h life attached =
    let s = h.numbers.sqs.each qid region life in
    let same = same_Some (record { qid = qid; cq_region = s.cq_region }) (record { qid = qid; cq_region = c }) (sym s.opened ∙ attached) in
    s.cq_open ∙ ap (λ (x : Attachment). Some x.cq_region) same

-- ---- a slot that waited, and that is in the window no more
module _ (rules : FrontRules) (notes : Notes) (a : Controller) (slots : List Slot) (k : Content) (g : Items) (h : Keeps rules notes a slots k g)
    (qid region : ℕ) (life : k.sq_life qid ≡ Some region) (x : Item) (waits : IsWaitingIn slots qid region x) (inside : x.tag < length slots) (rest : List Item) (apart : IsNew x.tag (tags_of rest)) where
  -- it is in no list
  pub loose_waited : IsLoose slots (with_window g region rest) x.tag
  loose_waited = record {
    inside = inside;
    windows = window;
    outs = All-map (λ (y : ℕ). y ≢ x.tag) (λ (it : Item). it.tag) g.outs
        (All-weaker (IsOutIn k.sq_id slots) (λ (it : Item). it.tag ≢ x.tag) (λ it o e. absurd (cc (sym o.state ∙ ap (λ (z : ℕ). (slot_at slots z).state) e ∙ waits.state))) g.outs h.has.outs.items);
    readies = new_to_ready rules notes a slots k g h x.tag 1 waits.state (omega arith);
    deletes = deletes_apart a.sqs a.pending_deletions slots k.sq_life k.deletion g.deletes x.tag h.has.deletions (λ e. absurd (cc (sym e ∙ waits.state)));
    free = IsNew-by (λ (y : ℕ). (slot_at slots y).state ≡ 0) x.tag g.free h.has.free.items (λ e. absurd (cc (sym e ∙ waits.state)));
    not_out = λ e. absurd (cc (sym e ∙ waits.state));
    not_answered = λ e. absurd (cc (sym e ∙ waits.state));
  } where
    -- the queue of another region, where there is one
    other_window : (r : ℕ) → r ≢ region → (id : Option ℕ) → k.sq_id r ≡ id → IsNew x.tag (tags_of (g.windows r))
    other_window r other None none = subst (λ (its : List Item). IsNew x.tag (tags_of its)) (sym (h.has.windows.none r none)) (IsNew-nil x.tag)
    other_window r other (Some q) id =
        let there : k.sq_life q ≡ Some r = h.numbers.sqs.ids.lives_are r q id in
        let differs : q ≢ qid = λ e. other (one_life k.sq_life qid r region (subst (λ (n : ℕ). k.sq_life n ≡ Some r) e there) life) in
        All-map (λ (y : ℕ). y ≢ x.tag) (λ (it : Item). it.tag) (g.windows r)
        (All-weaker (IsWaitingIn slots q r) (λ (it : Item). it.tag ≢ x.tag) (λ it w e. differs (sym w.queue ∙ ap (λ (z : ℕ). (slot_at slots z).sqid) e ∙ waits.queue)) (g.windows r) (h.has.windows.items q r there))

    window : (r : ℕ) → IsNew x.tag (tags_of ((with_window g region rest).windows r))
    window r = elim (cases_eq r region) [
      | inl same ↦ subst (λ (n : ℕ). IsNew x.tag (tags_of ((with_window g region rest).windows n))) (sym same) (rw (eq-eqb region region refl) apart)
      | inr other ↦ rw (ne_eqb r region other) (other_window r other (k.sq_id r) refl)
    ]

-- another slot that is in no list stays so, where fewer wait
pub loose_windowed : (slots : List Slot) (g : Items) (region : ℕ) (rest : List Item) (y : ℕ) → IsLoose slots g y → IsNew y (tags_of rest) → IsLoose slots (with_window g region rest) y
loose_windowed slots g region rest y h new = record {
  inside = h.inside;
  windows = λ r. by (r == region) r;
  outs = h.outs;
  readies = h.readies;
  deletes = h.deletes;
  free = h.free;
  not_out = h.not_out;
  not_answered = h.not_answered;
} where
  by : (b : Bool) (r : ℕ) → IsNew y (tags_of (if b then rest else g.windows r))
  by true r = new
  by false r = h.windows r

-- the first of those that wait is the first of the chain
pub first_there : (rules : FrontRules) (notes : Notes) (a : Controller) (slots : List Slot) (k : Content) (g : Items) (qid region : ℕ) (x : Item) (rest : List Item) → Keeps rules notes a slots k g
    → k.sq_life qid ≡ Some region → g.windows region ≡ x ∷ rest → first_of (sq_at a.sqs qid).window ≡ Some x.tag
first_there rules notes a slots k g qid region x rest h life is =
    pop-first slots (sq_at a.sqs qid).window x.tag (tags_of rest)
    (subst (λ (its : List Item). IsChain slots (sq_at a.sqs qid).window (tags_of its)) is (h.has.windows.chain qid region life))

-- ---- the oldest candidate
-- a command that ends with its queue
abbrev pub KeepsDrop : (a : Controller) (slots : List Slot) (tag cqid : ℕ) (b : Controller) (pool : List Slot) → Type 0
KeepsDrop a slots tag cqid b pool =
    (rules : FrontRules) (notes : Notes) (k : Content) (g : Items) (t : Ready) → Keeps rules notes a slots k g → IsLoose slots g tag → MakesReady slots tag 5 aborted_by_deletion 0 t → IsThrough notes t
    → IsCookie notes slots tag t.place → t.passed ≡ is_passed_at notes t.place → IsUnflagged notes t.place
    → (x : ℕ) → k.cq_life cqid ≡ Some x → k.sq_id t.place.region ≡ Some t.sqid → Keeps rules notes b pool (with_ready k x t) (with_item g x (ended tag t))

module _ (rules : FrontRules) (notes : Notes) (a : Controller) (slots : List Slot) (k : Content) (g : Items) (qid region c : ℕ) (x : Item) (rest : List Item)
    (h : Keeps rules notes a slots k g) (none : a.picked ≡ 0) (d : IsDroppable notes k qid region c) (is : g.windows region ≡ x ∷ rest) where
  pub oldest_chain : IsChain slots (sq_at a.sqs qid).window (x.tag ∷ tags_of rest)
  oldest_chain = subst (λ (its : List Item). IsChain slots (sq_at a.sqs qid).window (tags_of its)) is (h.has.windows.chain qid region d.there)

  waits : All (IsWaitingIn slots qid region) (x ∷ rest)
  waits = subst (All (IsWaitingIn slots qid region)) is (h.has.windows.items qid region d.there)

  first : IsWaitingIn slots qid region x
  first = All-head (IsWaitingIn slots qid region) x rest waits

  loose : IsLoose slots (with_window g region rest) x.tag
  loose = loose_waited rules notes a slots k g h qid region d.there x first (All-head (λ (z : ℕ). z < length slots) x.tag (tags_of rest) oldest_chain.inside) rest oldest_chain.apart.0

  pub window_is : (k.sq region).window ≡ map candidate_of (x ∷ rest)
  window_is =
      h.has.windows.are region ∙ ap (λ (n : ℕ). map candidate_of (drop n (g.windows region))) (none_picked_of a (k.sq_id region) none)
      ∙ ap (λ (its : List Item). map candidate_of its) is

  cookies : All (HasCookie notes slots) (x ∷ rest)
  cookies = subst (All (HasCookie notes slots)) is (h.tags.cookies.windows region)

  cookie : IsCookie notes slots x.tag (aborted qid region (candidate_of x)).place
  cookie = subst (λ (r : ℕ). cookie_of notes r x.place.index ≡ Some (slot_at slots x.tag).cookie) first.place (All-head (HasCookie notes slots) x rest cookies)

  unflagged : IsUnflagged notes (aborted qid region (candidate_of x)).place
  unflagged = h.tags.flagged.none region x.place.index
      (subst (λ (r : ℕ). answer_of notes r x.place.index ≡ None) first.place
      (All-head (λ (it : Item). IsUnanswered notes it.place) x rest (subst (All (λ (it : Item). IsUnanswered notes it.place)) is (h.tags.unanswered.windows region))))

  is_through : IsThrough notes (aborted qid region (candidate_of x))
  is_through = inl (All-head (λ (z : Candidate). is_aborted (logged notes) region z.index ≡ true) (candidate_of x) (map candidate_of rest)
      (subst (All (λ (z : Candidate). is_aborted (logged notes) region z.index ≡ true)) window_is d.are_aborted))

  -- it is dropped
  pub keeps_dropped : (m b : Controller) (pool : List Slot) (tag cqid : ℕ) → m ≡ record a { sqs = slice_set a.sqs qid (record (sq_at a.sqs qid) { window = shorter slots (sq_at a.sqs qid).window }) }
      → tag ≡ x.tag → cqid ≡ (sq_at m.sqs qid).cqid → KeepsDrop m slots tag cqid b pool
      → Keeps rules notes b pool (oldest_dropped k qid region c x rest) (item_dropped g qid region c x rest)
  keeps_dropped m b pool tag cqid m_is tag_is cqid_is drops =
      subst (λ (z : ℕ). KeepsDrop m slots z cqid b pool) tag_is drops rules notes mid (with_window g region rest) t keeps loose made is_through cookie (sym (rw d.io refl)) unflagged c to
      (h.numbers.sqs.ids.ids_are qid region d.there) where
        t : Ready
        t = aborted qid region (candidate_of x)

        mid : Content
        mid = with_sq k region (record (k.sq region) { window = map candidate_of rest })

        s : SqState
        s = record (sq_at a.sqs qid) { window = shorter slots (sq_at a.sqs qid).window }

        keeps : Keeps rules notes m slots mid (with_window g region rest)
        keeps =
            subst (λ (z : Controller). Keeps rules notes z slots mid (with_window g region rest)) (sym m_is)
            (keeps_windowed rules notes a slots k g h none qid region d.there s (record (k.sq region) { window = map candidate_of rest }) rest slots k.held k.classed (h.numbers.sqs.each qid region d.there).held (λ z other. refl)
            (record { size = refl; items = λ z. refl }) (λ z new. refl) refl refl refl refl refl (h.numbers.sqs.each qid region d.there).unposted refl (pop-shorter slots (sq_at a.sqs qid).window x.tag (tags_of rest) oldest_chain) (All-tail (IsWaitingIn slots qid region) x rest waits) refl
            (All-tail (λ (it : Item). IsUnanswered notes it.place) x rest (subst (All (λ (it : Item). IsUnanswered notes it.place)) is (h.tags.unanswered.windows region)))
            (All-tail (HasCookie notes slots) x rest cookies))

        to : k.cq_life cqid ≡ Some c
        to = ap k.cq_life cqid_is ∙ posts_to rules notes m slots mid (with_window g region rest) qid region c keeps d.there (rw (eq-eqb region region refl) d.attached)

        made : MakesReady slots x.tag 5 aborted_by_deletion 0 t
        made = record {
          state_is = refl;
          sqid = first.queue;
          cid = ap (λ (z : Sqe). z.cid) first.entry;
          status_is = refl;
          dw0_is = refl;
        }

  among : (y : ℕ) → IsLoose slots g y → IsNew y (x.tag ∷ tags_of rest)
  among y other = subst (λ (its : List Item). IsNew y (tags_of its)) is (other.windows region)

  pub another : (y : ℕ) → IsLoose slots g y → y ≢ x.tag
  another y other e = All-head (λ (z : ℕ). z ≢ y) x.tag (tags_of rest) (among y other) (sym e)

  -- another slot stays in no list
  pub loose_dropped : (pool : List Slot) (y : ℕ) → length pool ≡ length slots → ((z : ℕ) → z ≢ x.tag → item_at pool z ≡ item_at slots z) → IsLoose slots g y
      → IsLoose pool (item_dropped g qid region c x rest) y
  loose_dropped pool y size others other =
      loose_ended slots pool (with_window g region rest) x.tag c (aborted qid region (candidate_of x)) y size others (another y other)
      (loose_windowed slots g region rest y other (All-tail (λ (z : ℕ). z ≢ y) x.tag (tags_of rest) (among y other)))

-- ---- all of them
-- what is kept while they are dropped: the others are to be dropped, and all comes to the same
pub record IsDropping (rules : FrontRules) (notes : Notes) (k : Content) (qid region c : ℕ) (slots : List Slot) (y : ℕ) (now : Controller) (pool : List Slot) (left : List Item) : Type 0 where
  pub content : Content
  pub items : Items
  pub keeps : Keeps rules notes now pool content items
  pub window : items.windows region ≡ left
  pub may : IsDroppable notes content qid region c
  pub loose : IsLoose pool items y
  pub slot : item_at pool y ≡ item_at slots y
  pub whole : dropped content qid region c ≡ dropped k qid region c

-- a region put twice is put once
pub put_sq-twice : (sq : ℕ → SqContent) (r : ℕ) (s t : SqContent) (x : ℕ) → put_sq (put_sq sq r s) r t x ≡ put_sq sq r t x
put_sq-twice sq r s t x = by (x == r) where
  by : (b : Bool) → (if b then t else (if b then s else sq x)) ≡ (if b then t else sq x)
  by true = refl
  by false = refl

put_cq-twice : (cq : ℕ → CqContent) (r : ℕ) (s t : CqContent) (x : ℕ) → put_cq (put_cq cq r s) r t x ≡ put_cq cq r t x
put_cq-twice cq r s t x = by (x == r) where
  by : (b : Bool) → (if b then t else (if b then s else cq x)) ≡ (if b then t else cq x)
  by true = refl
  by false = refl

-- a region put as it is is left
put_sq-same : (sq : ℕ → SqContent) (r : ℕ) (s : SqContent) (x : ℕ) → s ≡ sq r → put_sq sq r s x ≡ sq x
put_sq-same sq r s x same = elim (cases_eq x r) [
  | inl is ↦ subst (λ (n : ℕ). put_sq sq r s n ≡ sq n) (sym is) (rw (eq-eqb r r refl) same)
  | inr other ↦ rw (ne_eqb x r other) refl
]

put_cq-same : (cq : ℕ → CqContent) (r : ℕ) (s : CqContent) (x : ℕ) → s ≡ cq r → put_cq cq r s x ≡ cq x
put_cq-same cq r s x same = elim (cases_eq x r) [
  | inl is ↦ subst (λ (n : ℕ). put_cq cq r s n ≡ cq n) (sym is) (rw (eq-eqb r r refl) same)
  | inr other ↦ rw (ne_eqb x r other) refl
]

-- where none is left, all are dropped
pub all_dropped : (k : Content) (qid region c : ℕ) → (k.sq region).window ≡ [] → dropped k qid region c ≡ k
all_dropped k qid region c none = λ t. record k { sq = λ x. sq x t; cq = λ x. cq x t } where
  sq : (x : ℕ) → put_sq k.sq region (record (k.sq region) { window = [] }) x ≡ k.sq x
  sq x = put_sq-same k.sq region (record (k.sq region) { window = [] }) x (ap (λ (w : List Candidate). record (k.sq region) { window = w }) (sym none))

  cq : (x : ℕ) → put_cq k.cq c (record (k.cq c) { ready = (k.cq c).ready ++ map (aborted qid region) (k.sq region).window }) x ≡ k.cq x
  cq x = put_cq-same k.cq c (record (k.cq c) { ready = (k.cq c).ready ++ map (aborted qid region) (k.sq region).window }) x
      (ap (λ (ts : List Ready). record (k.cq c) { ready = ts })
      (ap (λ (w : List Candidate). (k.cq c).ready ++ map (aborted qid region) w) none ∙ append-nil (k.cq c).ready))

-- the oldest and then the others are all
pub dropped_step : (k : Content) (qid region c : ℕ) (x : Item) (rest : List Item) → (k.sq region).window ≡ map candidate_of (x ∷ rest)
    → dropped (oldest_dropped k qid region c x rest) qid region c ≡ dropped k qid region c
dropped_step k qid region c x rest is = λ t. record k { sq = λ z. sq z t; cq = λ z. cq z t } where
  mid : Content
  mid = oldest_dropped k qid region c x rest

  sq_here : mid.sq region ≡ record (k.sq region) { window = map candidate_of rest }
  sq_here = rw (eq-eqb region region refl) refl

  cq_here : mid.cq c ≡ record (k.cq c) { ready = (k.cq c).ready ++ aborted qid region (candidate_of x) ∷ [] }
  cq_here = rw (eq-eqb c c refl) refl

  sq : (z : ℕ) → put_sq mid.sq region (record (mid.sq region) { window = [] }) z ≡ put_sq k.sq region (record (k.sq region) { window = [] }) z
  sq z =
      ap (λ (s : SqContent). put_sq mid.sq region (record s { window = [] }) z) sq_here
      ∙ put_sq-twice k.sq region (record (k.sq region) { window = map candidate_of rest }) (record (k.sq region) { window = [] }) z

  readies : (mid.cq c).ready ++ map (aborted qid region) (mid.sq region).window ≡ (k.cq c).ready ++ map (aborted qid region) (k.sq region).window
  readies =
      ap (λ (s : SqContent). (mid.cq c).ready ++ map (aborted qid region) s.window) sq_here
      ∙ ap (λ (s : CqContent). s.ready ++ map (aborted qid region) (map candidate_of rest)) cq_here
      ∙ append_assoc (k.cq c).ready (aborted qid region (candidate_of x) ∷ []) (map (aborted qid region) (map candidate_of rest))
      ∙ ap (λ (w : List Candidate). (k.cq c).ready ++ map (aborted qid region) w) (sym is)

  cq : (z : ℕ) → put_cq mid.cq c (record (mid.cq c) { ready = (mid.cq c).ready ++ map (aborted qid region) (mid.sq region).window }) z
      ≡ put_cq k.cq c (record (k.cq c) { ready = (k.cq c).ready ++ map (aborted qid region) (k.sq region).window }) z
  cq z =
      ap (λ (ts : List Ready). put_cq mid.cq c (record (mid.cq c) { ready = ts }) z) readies
      ∙ ap (λ (s : CqContent). put_cq mid.cq c (record s { ready = (k.cq c).ready ++ map (aborted qid region) (k.sq region).window }) z) cq_here
      ∙ put_cq-twice k.cq c (record (k.cq c) { ready = (k.cq c).ready ++ aborted qid region (candidate_of x) ∷ [] })
      (record (k.cq c) { ready = (k.cq c).ready ++ map (aborted qid region) (k.sq region).window }) z

-- the others may be dropped too
pub droppable_step : (notes : Notes) (k : Content) (qid region c : ℕ) (x : Item) (rest : List Item) → IsDroppable notes k qid region c → (k.sq region).window ≡ map candidate_of (x ∷ rest)
    → IsDroppable notes (oldest_dropped k qid region c x rest) qid region c
droppable_step notes k qid region c x rest d is = record {
  there = d.there;
  attached = rw (eq-eqb region region refl) d.attached;
  io = d.io;
  undeleted = d.undeleted;
  are_aborted = rw (eq-eqb region region refl)
      (All-tail (λ (z : Candidate). is_aborted (logged notes) region z.index ≡ true) (candidate_of x) (map candidate_of rest)
      (subst (All (λ (z : Candidate). is_aborted (logged notes) region z.index ≡ true)) is d.are_aborted));
}

-- the next one is dropped
pub dropping_step : (rules : FrontRules) (notes : Notes) (k : Content) (qid region c : ℕ) (slots : List Slot) (y : ℕ) (now later : Controller) (pool after : List Slot) (x : Item) (rest : List Item)
    → now.picked ≡ 0 → IsDropping rules notes k qid region c slots y now pool (x ∷ rest)
    → ((k : Content) (g : Items) → Keeps rules notes now pool k g → now.picked ≡ 0 → IsDroppable notes k qid region c → g.windows region ≡ x ∷ rest
    → Keeps rules notes later after (oldest_dropped k qid region c x rest) (item_dropped g qid region c x rest))
    → length after ≡ length pool → ((k : Content) (g : Items) → Keeps rules notes now pool k g → k.sq_life qid ≡ Some region → g.windows region ≡ x ∷ rest → (z : ℕ) → z ≢ x.tag → item_at after z ≡ item_at pool z)
    → IsDropping rules notes k qid region c slots y later after rest
dropping_step rules notes k qid region c slots y now later pool after x rest none h drops size others =
    let same : (z : ℕ) → z ≢ x.tag → item_at after z ≡ item_at pool z = others h.content h.items h.keeps h.may.there h.window in
    let w : (h.content.sq region).window ≡ map candidate_of (x ∷ rest) = window_is rules notes now pool h.content h.items qid region c x rest h.keeps none h.may h.window in
    record {
      content = oldest_dropped h.content qid region c x rest;
      items = item_dropped h.items qid region c x rest;
      keeps = drops h.content h.items h.keeps none h.may h.window;
      window = rw (eq-eqb region region refl) refl;
      may = droppable_step notes h.content qid region c x rest h.may w;
      loose = loose_dropped rules notes now pool h.content h.items qid region c x rest h.keeps none h.may h.window after y size same h.loose;
      slot = same y (another rules notes now pool h.content h.items qid region c x rest h.keeps none h.may h.window y h.loose) ∙ h.slot;
      whole = dropped_step h.content qid region c x rest w ∙ h.whole;
    }

-- in the end all are
pub dropping_end : (rules : FrontRules) (notes : Notes) (k : Content) (qid region c : ℕ) (slots : List Slot) (y : ℕ) (now : Controller) (pool : List Slot)
    → now.picked ≡ 0 → IsDropping rules notes k qid region c slots y now pool [] → HasDropped rules notes (dropped k qid region c) slots y now pool
dropping_end rules notes k qid region c slots y now pool none h =
    let w : (h.content.sq region).window ≡ [] =
    h.keeps.has.windows.are region ∙ ap (λ (n : ℕ). map candidate_of (drop n (h.items.windows region))) (none_picked_of now (h.content.sq_id region) none) ∙ ap (λ (its : List Item). map candidate_of its) h.window in
    record {
      items = h.items;
      keeps = subst (λ (z : Content). Keeps rules notes now pool z h.items) (sym (all_dropped h.content qid region c w) ∙ h.whole) h.keeps;
      loose = h.loose;
      slot = h.slot;
    }

-- ---- one after another
-- in the beginning none is dropped
pub dropping_start : (rules : FrontRules) (notes : Notes) (k : Content) (g : Items) (qid region c : ℕ) (slots : List Slot) (y : ℕ) (now : Controller)
    → Keeps rules notes now slots k g → IsDroppable notes k qid region c → IsLoose slots g y → IsDropping rules notes k qid region c slots y now slots (g.windows region)
dropping_start rules notes k g qid region c slots y now h d loose =
    record { content = k; items = g; keeps = h; window = refl; may = d; loose = loose; slot = refl; whole = refl }

no_item : Item
no_item = record { tag = 0; place = place_at 0 0; entry = no_entry }

-- where some are left, the next one is dropped
pub dropping_next : (rules : FrontRules) (notes : Notes) (k : Content) (qid region c : ℕ) (slots : List Slot) (y : ℕ) (now later : Controller) (pool after : List Slot) (xs : List Item) (i : ℕ)
    → i < length xs → now.picked ≡ 0 → IsDropping rules notes k qid region c slots y now pool (drop i xs)
    → ((k : Content) (g : Items) (x : Item) (rest : List Item) → Keeps rules notes now pool k g → now.picked ≡ 0 → IsDroppable notes k qid region c → g.windows region ≡ x ∷ rest
    → Keeps rules notes later after (oldest_dropped k qid region c x rest) (item_dropped g qid region c x rest))
    → length after ≡ length pool
    → ((k : Content) (g : Items) (x : Item) (rest : List Item) → Keeps rules notes now pool k g → k.sq_life qid ≡ Some region → g.windows region ≡ x ∷ rest → (z : ℕ) → z ≢ x.tag → item_at after z ≡ item_at pool z)
    → IsDropping rules notes k qid region c slots y later after (drop (i + 1) xs)
dropping_next rules notes k qid region c slots y now later pool after xs i more none h drops size others =
    let x : Item = get_or xs i no_item in
    let rest : List Item = drop (i + 1) xs in
    dropping_step rules notes k qid region c slots y now later pool after x rest none
    (subst (IsDropping rules notes k qid region c slots y now pool) (drop_more xs i no_item more) h)
    (λ k g keeps none may is. drops k g x rest keeps none may is) size (λ k g keeps life is. others k g x rest keeps life is)

drop-none : (xs : List Item) (i : ℕ) → length xs ≤ i → drop i xs ≡ []
drop-none [] zero h = refl
drop-none [] (suc i) h = refl
drop-none (x ∷ xs) zero h = absurd (omega arith)
drop-none (x ∷ xs) (suc i) h = drop-none xs i (omega arith)

-- where none is left, all are dropped
pub dropping_done : (rules : FrontRules) (notes : Notes) (k : Content) (qid region c : ℕ) (slots : List Slot) (y : ℕ) (now : Controller) (pool : List Slot) (xs : List Item) (i : ℕ)
    → length xs ≤ i → now.picked ≡ 0 → IsDropping rules notes k qid region c slots y now pool (drop i xs) → HasDropped rules notes (dropped k qid region c) slots y now pool
dropping_done rules notes k qid region c slots y now pool xs i past none h =
    dropping_end rules notes k qid region c slots y now pool none (subst (IsDropping rules notes k qid region c slots y now pool) (drop-none xs i past) h)

-- as many wait as the chain has slots
pub window_length : (rules : FrontRules) (notes : Notes) (a : Controller) (slots : List Slot) (k : Content) (g : Items) (qid region : ℕ) → Keeps rules notes a slots k g
    → k.sq_life qid ≡ Some region → (sq_at a.sqs qid).window.len ≡ length (g.windows region)
window_length rules notes a slots k g qid region h life = (h.has.windows.chain qid region life).len_is ∙ length-map (g.windows region) (λ (it : Item). it.tag)
