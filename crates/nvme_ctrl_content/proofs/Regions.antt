-- What each event leaves of a region's places and its window.
use Rattle.std.proofs.Common.{◌≡◌, ℕ, suc, ◌+◌, ◌-◌, ◌<◌, ◌≤◌, true, false, if◌then◌else◌, List, [], ◌∷◌, ◌++◌, map, length, drop, Option, Some, None, ap, sym, refl, ◌∙◌, subst, arith, length-append, length-drop, inl, inr}
use Rattle.std.specs.Prelude.{slice_get}
use Rattle.std.proofs.lemmas.List.{length_push, length-map, map-append, map_push, drop-map}
use Rattle.std.proofs.lemmas.List.Elements.{All-push, All-weaker, All-drop, All-head, All-tail, All-same}
use Rattle.std.proofs.lemmas.Bool.{eq-eqb, ne_eqb}
use Rattle.std.proofs.lemmas.Bool.Decides.{eqb_tells}
use Rattle.std.proofs.lemmas.Option.{slice_get_within, same_Some}
use Rattle.nvme_entry.specs.declared.submission.Sqe.{Sqe}
use Rattle.nvme_entry.specs.declared.completion.Cqe.{Cqe}
use Rattle.nvme_arbiter.specs.Limits.{highest_count}
use Rattle.nvme_arbiter.specs.declared.pick.Pick.{Pick}
use Rattle.nvme_arbiter.specs.declared.pick.Seen.{Seen}
use Rattle.nvme_arbiter.specs.Board.{BoardView}
use Rattle.nvme_admin.specs.Accepted.{queue_table, verdict_of}
use Rattle.nvme_admin.specs.Changes.{IsDue}
use Rattle.nvme_admin.specs.History.{TableHistory}
use Rattle.nvme_admin.specs.declared.verdict.Verdict.{Verdict}
use Rattle.nvme_admin.specs.declared.verdict.Verdict.TheVariants.{Done, BeginDelete, CloseCq}
use Rattle.nvme_admin.specs.declared.verdict.Verdict.TheVariants as verdict
use Rattle.nvme_admin.proofs.Changed.{TellsChange-entry}
use Rattle.nvme_ctrl_content.specs.Content.{Attachment, Candidate, SqContent, Content, put_sq}
use Rattle.nvme_log.specs.declared.event.Event.{Event}
use Rattle.nvme_log.specs.declared.event.Event.TheVariants as event
use Rattle.nvme_log.specs.Rules.{FrontRules, Past}
use Rattle.nvme_log.specs.Queues.{Queue, admin_queue, open_sq, open_cq, has_region}
use Rattle.nvme_log.specs.Places.{fetched, picked, is_aborted, unaborted_below, entry_at, waiting}
use Rattle.nvme_log.specs.Completions.{is_posted}
use Rattle.nvme_log.specs.Effects.{made_by, abort_in, target_of, closing_of, closed_cq_of}
use Rattle.nvme_ctrl_content.specs.Standing.{HoldsSq, HoldsQueues, IsReady}
use Rattle.nvme_ctrl_content.specs.Steps.{picked_sq, applied_to, verdict_at, oldest_named, without_oldest}
use Rattle.nvme_ctrl_log.proofs.LaterEvents.{with_events}
use Rattle.nvme_ctrl_content.proofs.AfterSteps.{fetched_sq, after_admin, aborting_from, aborting_in, deleting_from}
use Rattle.nvme_ctrl_content.proofs.StepKeeps.{Regions, KeepsFetch, KeepsIo, KeepsAdmin, KeepsPost, KeepsClose}
use Rattle.nvme_log.proofs.Waiting.{left, left-more, unaborted, waiting_is-drop, fetched-fetch, fetched-fetch_other, waiting-fetch, waiting-same, unaborted_below-same, picked-pick, picked-pick_other, waiting-pick, waiting-abort, waiting-abort_at, few_picked-abort_at, is_aborted-abort, is_aborted-abort_other, few_picked-abort}
use Rattle.nvme_ctrl_content.proofs.Windows.{window-below}
use Rattle.nvme_ctrl_content.proofs.Named.{splits, waiting_splits, found_is, found_one, left_hold, made_abort, made_none}
use Rattle.nvme_ctrl_log.proofs.AbortTargets.{slice_get-append_left, aborts_of, target_is}

-- the item put at the end of a list
pub slice_get-push : {X : Type 0} (xs : List X) (x : X) → slice_get (xs ++ x ∷ []) (length xs) ≡ Some x
slice_get-push [] x = refl
slice_get-push (y ∷ xs) x = slice_get-push xs x

-- ---- a region's places after an event that says nothing of them
-- the same fetches, picks and aborts, and no post of a place that wasn't fetched
pub HoldsSq-later : (past later : Past) (r : ℕ) (s : SqContent) → HoldsSq past r s → fetched later r ≡ fetched past r → picked later r ≡ picked past r
    → ((i : ℕ) → is_aborted later r i ≡ is_aborted past r i) → ((i : ℕ) → length s.got ≤ i → is_posted later r i ≡ false) → HoldsSq later r s
HoldsSq-later past later r s h f p a posted = record {
  fetched_is = f ∙ h.fetched_is;
  counted = h.counted;
  waiting_is = waiting-same past later r f p a ∙ h.waiting_is;
  entries = All-weaker (λ (c : Candidate). entry_at past r c.index ≡ Some c.entry) (λ (c : Candidate). entry_at later r c.index ≡ Some c.entry)
      (λ (c : Candidate) (e : entry_at past r c.index ≡ Some c.entry). ap (λ (z : List Sqe). slice_get z c.index) f ∙ e) s.window h.entries;
  few_waiting = h.few_waiting;
  few_picked = few;
  none_aborted = λ i from. a i ∙ h.none_aborted i from;
  none_posted = posted;
} where
  few : picked later r ≤ unaborted_below later r (length s.got)
  few = omega (arith, h.few_picked, p, unaborted_below-same past later r a (length s.got))

-- another record with the same places
pub HoldsSq-kept : (past : Past) (r : ℕ) (s t : SqContent) → t.got ≡ s.got → t.window ≡ s.window → t.fetched ≡ s.fetched → HoldsSq past r s → HoldsSq past r t
HoldsSq-kept past r s t got window fetched h =
    subst (λ (z : ℕ). HoldsSq past r (record t { fetched = z })) (sym fetched)
    (subst (λ (z : List Candidate). HoldsSq past r (record t { window = z; fetched = s.fetched })) (sym window)
    (subst (λ (z : List Sqe). HoldsSq past r (record t { got = z; window = s.window; fetched = s.fetched })) (sym got)
    (record {
      fetched_is = h.fetched_is;
      counted = h.counted;
      waiting_is = h.waiting_is;
      entries = h.entries;
      few_waiting = h.few_waiting;
      few_picked = h.few_picked;
      none_aborted = h.none_aborted;
      none_posted = h.none_posted;
    })))

-- fewer places were picked than are left
pub few_picked-left : (past : Past) (r : ℕ) (s : SqContent) → HoldsSq past r s → picked past r ≤ length (unaborted past r)
few_picked-left past r s h = omega (arith, h.few_picked, ap (λ (z : List Sqe). unaborted_below past r (length z)) h.fetched_is)

-- ---- a fetch
-- the fetched place is the newest candidate of its region
pub HoldsSq-fetch : (past : Past) (r : ℕ) (s : SqContent) (entry : Sqe) → HoldsSq past r s → length s.window + 1 ≤ highest_count
    → HoldsSq (event.Fetch r s.fetched entry ∷ past) r (fetched_sq s entry)
HoldsSq-fetch past r s entry h room =
    let n : length (fetched past r) ≡ s.fetched = ap length h.fetched_is ∙ sym h.counted in
    let longer = fetched-fetch past r s.fetched entry in
    let more : length (s.got ++ entry ∷ []) ≡ length s.got + 1 = length_push s.got entry in
    record {
      fetched_is = longer ∙ ap (λ (z : List Sqe). z ++ entry ∷ []) h.fetched_is;
      counted = omega (arith, more, h.counted);
      waiting_is =
          waiting-fetch past r s.fetched entry (h.none_aborted (length (fetched past r)) (omega (arith, ap length h.fetched_is))) (few_picked-left past r s h)
          ∙ (λ t. h.waiting_is t ++ n t ∷ [])
          ∙ sym (map_push (λ (c : Candidate). c.index) s.window (record { index = s.fetched; entry = entry }));
      entries = All-push (λ (c : Candidate). entry_at (event.Fetch r s.fetched entry ∷ past) r c.index ≡ Some c.entry) s.window (record { index = s.fetched; entry = entry })
          (All-weaker (λ (c : Candidate). entry_at past r c.index ≡ Some c.entry) (λ (c : Candidate). entry_at (event.Fetch r s.fetched entry ∷ past) r c.index ≡ Some c.entry)
          (λ (c : Candidate) (e : entry_at past r c.index ≡ Some c.entry).
          ap (λ (z : List Sqe). slice_get z c.index) longer ∙ slice_get-append_left (fetched past r) (entry ∷ []) c.index c.entry e) s.window h.entries)
          (ap (λ (z : List Sqe). slice_get z s.fetched) longer ∙ ap (slice_get (fetched past r ++ entry ∷ [])) (sym n) ∙ slice_get-push (fetched past r) entry);
      few_waiting = omega (arith, room, length_push s.window (record { index = s.fetched; entry = entry }));
      few_picked = few more;
      none_aborted = λ i from. h.none_aborted i (omega (arith, more, from));
      none_posted = λ i from. h.none_posted i (omega (arith, more, from));
    } where
      few : length (s.got ++ entry ∷ []) ≡ length s.got + 1 → picked past r ≤ unaborted_below past r (length (s.got ++ entry ∷ []))
      few more =
          let a = left-more (λ (i : ℕ). is_aborted past r i) (length s.got) (is_aborted past r (length s.got)) refl in
          let to : length (s.got ++ entry ∷ []) ≡ suc (length s.got) = omega (arith, more) in
          omega (arith, h.few_picked, ap (unaborted_below past r) to, ap length a, length-append (left (λ (i : ℕ). is_aborted past r i) (length s.got)) (if is_aborted past r (length s.got) then [] else length s.got ∷ []))

-- a fetch from another region
pub HoldsSq-fetch_other : (past : Past) (region index : ℕ) (entry : Sqe) (r : ℕ) (s : SqContent) → (region ≡ r → ⊥) → HoldsSq past r s
    → HoldsSq (event.Fetch region index entry ∷ past) r s
HoldsSq-fetch_other past region index entry r s other h =
    HoldsSq-later past (event.Fetch region index entry ∷ past) r s h (fetched-fetch_other past region index entry r other) refl (λ i. refl) h.none_posted

-- ---- a pick
-- a pick of the region's queue takes its first candidates
pub HoldsSq-pick : (past : Past) (seen : List Seen) (pick : Pick) (n : ℕ) (r : ℕ) (s : SqContent) → HoldsSq past r s → pick.n ≡ n → n ≤ length s.window
    → has_region r (open_sq past pick.qid) ≡ true → HoldsSq (event.Pick seen pick ∷ past) r (picked_sq s n)
HoldsSq-pick past seen pick n r s h is enough own = record {
  fetched_is = h.fetched_is;
  counted = h.counted;
  waiting_is =
      waiting-pick past seen pick r own ∙ (λ t. drop (is t) (h.waiting_is t)) ∙ drop-map (λ (c : Candidate). c.index) n s.window;
  entries = All-drop (λ (c : Candidate). entry_at past r c.index ≡ Some c.entry) n s.window h.entries;
  few_waiting = omega (arith, h.few_waiting, length-drop n s.window);
  few_picked = few;
  none_aborted = h.none_aborted;
  none_posted = h.none_posted;
} where
  few : picked (event.Pick seen pick ∷ past) r ≤ unaborted_below past r (length s.got)
  few = omega (
    arith,
    picked-pick past seen pick r own,
    is,
    enough,
    few_picked-left past r s h,
    ap (λ (z : List Sqe). unaborted_below past r (length z)) h.fetched_is,
    ap length (sym (waiting_is-drop past r) ∙ h.waiting_is),
    length-drop (picked past r) (unaborted past r),
    length-map s.window (λ (c : Candidate). c.index),
  )

-- a pick of another queue
pub HoldsSq-pick_other : (past : Past) (seen : List Seen) (pick : Pick) (r : ℕ) (s : SqContent) → has_region r (open_sq past pick.qid) ≡ false → HoldsSq past r s
    → HoldsSq (event.Pick seen pick ∷ past) r s
HoldsSq-pick_other past seen pick r s other h =
    HoldsSq-later past (event.Pick seen pick ∷ past) r s h refl (picked-pick_other past seen pick r other) (λ i. refl) h.none_posted

-- ---- an abort
-- an abort of the oldest candidate takes it out of the window
pub HoldsSq-abort : (past : Past) (r : ℕ) (s : SqContent) (c : Candidate) (rest : List Candidate) → HoldsSq past r s → s.window ≡ c ∷ rest
    → HoldsSq (event.Abort r c.index ∷ past) r (record s { window = rest })
HoldsSq-abort past r s c rest h oldest =
    let waits : waiting past r ≡ c.index ∷ map (λ (d : Candidate). d.index) rest = h.waiting_is ∙ ap (map (λ (d : Candidate). d.index)) oldest in
    let below : c.index < length (fetched past r) =
    All-head (λ (d : Candidate). d.index < length (fetched past r)) c rest (All-same (λ (d : Candidate). d.index < length (fetched past r)) (c ∷ rest) s.window (sym oldest) (window-below past r s h)) in
    record {
      fetched_is = h.fetched_is;
      counted = h.counted;
      waiting_is = waiting-abort past r c.index (map (λ (d : Candidate). d.index) rest) waits;
      entries = All-tail (λ (d : Candidate). entry_at past r d.index ≡ Some d.entry) c rest
          (All-same (λ (d : Candidate). entry_at past r d.index ≡ Some d.entry) (c ∷ rest) s.window (sym oldest) h.entries);
      few_waiting = omega (arith, h.few_waiting, ap length oldest);
      few_picked = subst (λ (z : List Sqe). picked past r ≤ unaborted_below (event.Abort r c.index ∷ past) r (length z)) h.fetched_is
          (few_picked-abort past r c.index (map (λ (d : Candidate). d.index) rest) waits);
      none_aborted = λ i from. is_aborted-abort past r c.index i ∙ rw (ne_eqb c.index i (λ e. omega (arith, e, below, from, ap length h.fetched_is))) (h.none_aborted i from);
      none_posted = h.none_posted;
    }

-- a candidate that an Abort command takes is aborted
pub HoldsSq-abort_named : (past : Past) (r : ℕ) (s : SqContent) (cid : ℕ) (c : Candidate) → HoldsSq past r s → oldest_named cid s.window ≡ Some c
    → HoldsSq (event.Abort r c.index ∷ past) r (record s { window = without_oldest cid s.window })
HoldsSq-abort_named past r s cid c h oldest =
    let p = splits cid s.window c oldest in
    let xs : List ℕ = map (λ (d : Candidate). d.index) p.before in
    let ys : List ℕ = map (λ (d : Candidate). d.index) p.behind in
    let waits : waiting past r ≡ xs ++ c.index ∷ ys = waiting_splits past r s cid c h p in
    let below : c.index < length (fetched past r) = found_is cid s.window c oldest (λ (d : Candidate). d.index < length (fetched past r)) (window-below past r s h) in
    record {
      fetched_is = h.fetched_is;
      counted = h.counted;
      waiting_is = waiting-abort_at past r c.index xs ys waits ∙ sym (ap (map (λ (d : Candidate). d.index)) p.left ∙ map-append (λ (d : Candidate). d.index) p.before p.behind);
      entries = left_hold (λ (d : Candidate). entry_at past r d.index ≡ Some d.entry) cid s.window h.entries;
      few_waiting = omega (arith, h.few_waiting, found_one cid s.window c oldest);
      few_picked = subst (λ (z : List Sqe). picked past r ≤ unaborted_below (event.Abort r c.index ∷ past) r (length z)) h.fetched_is
          (few_picked-abort_at past r c.index xs ys waits);
      none_aborted = λ i from. is_aborted-abort past r c.index i ∙ rw (ne_eqb c.index i (λ e. omega (arith, e, below, from, ap length h.fetched_is))) (h.none_aborted i from);
      none_posted = h.none_posted;
    }

-- an abort in another region
pub HoldsSq-abort_other : (past : Past) (region i r : ℕ) (s : SqContent) → (region ≡ r → ⊥) → HoldsSq past r s → HoldsSq (event.Abort region i ∷ past) r s
HoldsSq-abort_other past region i r s other h =
    HoldsSq-later past (event.Abort region i ∷ past) r s h refl refl (λ j. is_aborted-abort_other past region i r j other) h.none_posted

-- all candidates are aborted, the oldest first
pub HoldsSq-aborts : (cs : List Candidate) (past : Past) (r : ℕ) (s : SqContent) → HoldsSq past r s → s.window ≡ cs
    → HoldsSq (with_events (aborts_of r (map (λ (c : Candidate). c.index) cs)) past) r (record s { window = [] })
HoldsSq-aborts [] past r s h window = subst (λ (z : List Candidate). HoldsSq past r (record s { window = z })) window h
HoldsSq-aborts (c ∷ cs) past r s h window = HoldsSq-aborts cs (event.Abort r c.index ∷ past) r (record s { window = cs }) (HoldsSq-abort past r s c cs h window) refl

-- aborts in another region
pub HoldsSq-aborts_other : (is : List ℕ) (past : Past) (region r : ℕ) (s : SqContent) → (region ≡ r → ⊥) → HoldsSq past r s
    → HoldsSq (with_events (aborts_of region is) past) r s
HoldsSq-aborts_other [] past region r s other h = h
HoldsSq-aborts_other (i ∷ is) past region r s other h = HoldsSq-aborts_other is (event.Abort region i ∷ past) region r s other (HoldsSq-abort_other past region i r s other h)

-- ---- a post
-- a post of a fetched place leaves what is said of every region's places
pub HoldsSq-post : (past : Past) (c region index : ℕ) (cqe : Cqe) (r : ℕ) (s : SqContent) → (region ≡ r → index < length s.got) → HoldsSq past r s
    → HoldsSq (event.Post c region index cqe ∷ past) r s
HoldsSq-post past c region index cqe r s there h = HoldsSq-later past (event.Post c region index cqe ∷ past) r s h refl refl (λ i. refl) none where
  none : (i : ℕ) → length s.got ≤ i → is_posted (event.Post c region index cqe ∷ past) r i ≡ false
  none i from = elim (eqb_tells region r) [
    | inl same ↦ rw (same.0, ne_eqb index i (λ e. omega (arith, e, from, there same.1))) (h.none_posted i from)
    | inr apart ↦ rw apart.0 (h.none_posted i from)
  ]

-- ---- all regions
-- another region in the place of one
pub put_sq-holds : (later : Past) (sq : ℕ → SqContent) (region : ℕ) (t : SqContent) → HoldsSq later region t → ((r : ℕ) → (region ≡ r → ⊥) → HoldsSq later r (sq r))
    → (r : ℕ) → HoldsSq later r (put_sq sq region t r)
put_sq-holds later sq region t here others r = elim (eqb_tells r region) [
  | inl same ↦ rw same.0 (subst (λ (z : ℕ). HoldsSq later z t) (sym same.1) here)
  | inr apart ↦ rw apart.0 (others r (λ e. apart.1 (sym e)))
]

-- one that is not in the place of another
pub put_sq-other : (sq : ℕ → SqContent) (region : ℕ) (t : SqContent) (r : ℕ) → (region ≡ r → ⊥) → put_sq sq region t r ≡ sq r
put_sq-other sq region t r other = rw (ne_eqb r region (λ e. other (sym e))) refl

-- a queue has its own region
own_region : (o : Option Queue) (queue : Queue) → o ≡ Some queue → has_region queue.region o ≡ true
own_region o queue is = rw is (eq-eqb queue.region queue.region refl)

-- and no other
other_region : (o : Option Queue) (queue : Queue) (r : ℕ) → o ≡ Some queue → (queue.region ≡ r → ⊥) → has_region r o ≡ false
other_region o queue r is other = rw is (ne_eqb queue.region r other)

-- a fetch keeps what is said of all regions
pub regions-fetch : KeepsFetch Regions
regions-fetch rules late past k q queue entry s can =
    put_sq-holds (event.Fetch queue.region (k.sq queue.region).fetched entry ∷ past) k.sq queue.region (fetched_sq (k.sq queue.region) entry)
    (HoldsSq-fetch past queue.region (k.sq queue.region) entry (s.regions queue.region) (omega (arith, can.room)))
    (λ r other. HoldsSq-fetch_other past queue.region (k.sq queue.region).fetched entry r (k.sq r) other (s.regions r))

-- a pick of a queue takes the first candidates of its region, and leaves the other regions
picked_regions : (past : Past) (sq : ℕ → SqContent) (queue : Queue) (seen : List Seen) (pick : Pick) (n : ℕ) → ((r : ℕ) → HoldsSq past r (sq r))
    → open_sq past pick.qid ≡ Some queue → pick.n ≡ n → n ≤ length (sq queue.region).window
    → (r : ℕ) → HoldsSq (event.Pick seen pick ∷ past) r (put_sq sq queue.region (picked_sq (sq queue.region) n) r)
picked_regions past sq queue seen pick n h is_open is enough =
    put_sq-holds (event.Pick seen pick ∷ past) sq queue.region (picked_sq (sq queue.region) n)
    (HoldsSq-pick past seen pick n queue.region (sq queue.region) (h queue.region) is enough (own_region (open_sq past pick.qid) queue is_open))
    (λ r other. HoldsSq-pick_other past seen pick r (sq r) (other_region (open_sq past pick.qid) queue r is_open other) (h r))

-- an I/O pick keeps what is said of all regions
pub regions-io : KeepsIo Regions
regions-io rules late past k queue seen pick board c s can saw io attached =
    picked_regions past k.sq queue seen pick pick.n s.regions can.is_open refl can.enough

-- so does a post
pub regions-post : KeepsPost Regions
regions-post rules late past k c t rest cqe s can =
    let ready : IsReady past k.deletion c t =
    All-head (IsReady past k.deletion c) t rest (All-same (IsReady past k.deletion c) (t ∷ rest) (k.cq c).ready (sym can.oldest) (s.ready.each c)) in
    let there : t.place.index < length (fetched past t.place.region) = slice_get_within (fetched past t.place.region) t.place.index ready.entry ready.is_there in
    put_sq-holds (event.Post c t.place.region t.place.index cqe ∷ past) k.sq t.place.region (record (k.sq t.place.region) { unposted = (k.sq t.place.region).unposted - 1 })
    (HoldsSq-kept (event.Post c t.place.region t.place.index cqe ∷ past) t.place.region (k.sq t.place.region) (record (k.sq t.place.region) { unposted = (k.sq t.place.region).unposted - 1 }) refl refl refl
    (HoldsSq-post past c t.place.region t.place.index cqe t.place.region (k.sq t.place.region) (λ e. omega (arith, there, ap length (s.regions t.place.region).fetched_is)) (s.regions t.place.region)))
    (λ r other. HoldsSq-post past c t.place.region t.place.index cqe r (k.sq r) (λ e. absurd (other e)) (s.regions r))

-- so does the end of a deletion
pub regions-close : KeepsClose Regions
regions-close rules late past k d table s can = λ r.
    HoldsSq-later past (event.ClosedSq d.qid d.region ∷ past) r (k.sq r) (s.regions r) refl refl (λ i. refl) (s.regions r).none_posted

-- ---- what an admin command makes
-- an event that says nothing of places
made_regions : (e : Event) (past : Past) (sq : ℕ → SqContent) → ((r : ℕ) → fetched (e ∷ past) r ≡ fetched past r) → ((r : ℕ) → picked (e ∷ past) r ≡ picked past r)
    → ((r i : ℕ) → is_aborted (e ∷ past) r i ≡ is_aborted past r i) → ((r i : ℕ) → is_posted (e ∷ past) r i ≡ is_posted past r i)
    → ((r : ℕ) → HoldsSq past r (sq r)) → (r : ℕ) → HoldsSq (e ∷ past) r (sq r)
made_regions e past sq f p a posted h r =
    HoldsSq-later past (e ∷ past) r (sq r) (h r) (f r) (p r) (a r) (λ i from. posted r i ∙ (h r).none_posted i from)

-- the deletion of a queue of a region: all its candidates are aborted
closing_regions : (past now : Past) (sq : ℕ → SqContent) (qid region unposted : ℕ) → waiting past region ≡ map (λ (c : Candidate). c.index) (sq region).window
    → ((r : ℕ) → HoldsSq now r (sq r)) → (r : ℕ)
    → HoldsSq (with_events (aborts_of region (waiting past region)) (event.Closing qid region ∷ now)) r
    (put_sq sq region (record (sq region) { window = []; unposted = unposted }) r)
closing_regions past now sq qid region unposted waits h =
    let closing = made_regions (event.Closing qid region) now sq (λ r. refl) (λ r. refl) (λ r i. refl) (λ r i. refl) h in
    put_sq-holds (with_events (aborts_of region (waiting past region)) (event.Closing qid region ∷ now)) sq region (record (sq region) { window = []; unposted = unposted })
    (HoldsSq-kept (with_events (aborts_of region (waiting past region)) (event.Closing qid region ∷ now)) region (record (sq region) { window = [] })
    (record (sq region) { window = []; unposted = unposted }) refl refl refl
    (subst (λ (z : List ℕ). HoldsSq (with_events (aborts_of region z) (event.Closing qid region ∷ now)) region (record (sq region) { window = [] })) (sym waits)
    (HoldsSq-aborts (sq region).window (event.Closing qid region ∷ now) region (sq region) (closing region) refl)))
    (λ r other. HoldsSq-aborts_other (waiting past region) (event.Closing qid region ∷ now) region r (sq r) other (closing r))

-- the deletion of an identifier: that of its queue where one is open
deleting_regions : (past now : Past) (k : Content) (candidate : Candidate) (c qid : ℕ) (o : Option Queue)
    → ((queue : Queue) → o ≡ Some queue → waiting past queue.region ≡ map (λ (d : Candidate). d.index) (k.sq queue.region).window)
    → ((r : ℕ) → HoldsSq now r (k.sq r)) → (r : ℕ) → HoldsSq (with_events (closing_of past qid o) now) r ((deleting_from k qid c candidate o).sq r)
deleting_regions past now k candidate c qid None waits h = h
deleting_regions past now k candidate c qid (Some queue) waits h =
    closing_regions past now k.sq qid queue.region ((k.sq queue.region).unposted + length (k.sq queue.region).window) (waits queue refl) h

-- a completion queue is closed
closed_cq_regions : (now : Past) (sq : ℕ → SqContent) (qid : ℕ) (o : Option ℕ) → ((r : ℕ) → HoldsSq now r (sq r)) → (r : ℕ) → HoldsSq (with_events (closed_cq_of qid o) now) r (sq r)
closed_cq_regions now sq qid None h = h
closed_cq_regions now sq qid (Some region) h = made_regions (event.ClosedCq qid region) now sq (λ r. refl) (λ r. refl) (λ r i. refl) (λ r i. refl) h

-- an Abort command takes a candidate of a region, or finds none
aborting_regions : (past now : Past) (k : Content) (candidate : Candidate) (sqid c cid : ℕ) (board : BoardView) (queue : Queue) (o : Option Candidate)
    → oldest_named cid (k.sq queue.region).window ≡ o → HoldsSq past queue.region (k.sq queue.region)
    → ((r : ℕ) → HoldsSq now r (k.sq r)) → (r : ℕ) → HoldsSq (with_events (abort_in past cid (Some queue)) now) r ((aborting_in k candidate sqid queue.region c cid board o).sq r)
aborting_regions past now k candidate sqid c cid board queue None is held h r =
    subst (λ (es : List Event). HoldsSq (with_events es now) r (k.sq r)) (sym (made_none past cid queue (k.sq queue.region) held is)) (h r)
aborting_regions past now k candidate sqid c cid board queue (Some found) is held h r =
    let later : Past = event.Abort queue.region found.index ∷ now in
    let left : SqContent = record (k.sq queue.region) { window = without_oldest cid (k.sq queue.region).window } in
    let counted : SqContent = record left { unposted = (k.sq queue.region).unposted + 1 } in
    subst (λ (es : List Event). HoldsSq (with_events es now) r (put_sq k.sq queue.region counted r)) (sym (made_abort past cid queue (k.sq queue.region) found held is))
    (put_sq-holds later k.sq queue.region counted
    (HoldsSq-kept later queue.region left counted refl refl refl (HoldsSq-abort_named now queue.region (k.sq queue.region) cid found (h queue.region) is))
    (λ x other. HoldsSq-abort_other now queue.region found.index x (k.sq x) other (h x)) r)

-- of the queue that it names, where that is open
target_regions : (past now : Past) (k : Content) (candidate : Candidate) (sqid c cid : ℕ) (board : BoardView) (o : Option Queue)
    → ((queue : Queue) → o ≡ Some queue → HoldsSq past queue.region (k.sq queue.region))
    → ((r : ℕ) → HoldsSq now r (k.sq r)) → (r : ℕ) → HoldsSq (with_events (abort_in past cid o) now) r ((aborting_from k candidate sqid c cid board o).sq r)
target_regions past now k candidate sqid c cid board None held h = h
target_regions past now k candidate sqid c cid board (Some queue) held h =
    aborting_regions past now k candidate sqid c cid board queue (oldest_named cid (k.sq queue.region).window) refl (held queue refl) h

-- whatever the verdict makes
verdict_regions : (past now : Past) (k : Content) (candidate : Candidate) (c : ℕ) (board : BoardView) (v : Verdict)
    → ((qid : ℕ) (queue : Queue) → v ≡ BeginDelete qid → open_sq past qid ≡ Some queue → waiting past queue.region ≡ map (λ (d : Candidate). d.index) (k.sq queue.region).window)
    → ((sqid : ℕ) (queue : Queue) → target_of past sqid ≡ Some queue → HoldsSq past queue.region (k.sq queue.region))
    → ((r : ℕ) → HoldsSq now r (k.sq r)) → (r : ℕ) → HoldsSq (with_events (made_by past v) now) r ((after_admin past k candidate c board v).sq r)
verdict_regions past now k candidate c board (Done status dw0) waits held h = h
verdict_regions past now k candidate c board (verdict.OpenSq qid region cqid class) waits held h =
    let made = made_regions (event.OpenSq qid region cqid class) now k.sq (λ r. refl) (λ r. refl) (λ r i. refl) (λ r i. refl) h in
    put_sq-holds (event.OpenSq qid region cqid class ∷ now) k.sq region (record (k.sq region) { queue = Some (record { qid = qid; cq_region = c }) })
    (HoldsSq-kept (event.OpenSq qid region cqid class ∷ now) region (k.sq region) (record (k.sq region) { queue = Some (record { qid = qid; cq_region = c }) }) refl refl refl (made region))
    (λ r other. made r)
verdict_regions past now k candidate c board (verdict.OpenCq qid region) waits held h =
    made_regions (event.OpenCq qid region) now k.sq (λ r. refl) (λ r. refl) (λ r i. refl) (λ r i. refl) h
verdict_regions past now k candidate c board (verdict.Abort sqid cid) waits held h =
    target_regions past now k candidate sqid c cid board (target_of past sqid) (held sqid) h
verdict_regions past now k candidate c board (BeginDelete qid) waits held h =
    deleting_regions past now k candidate c qid (open_sq past qid) (λ queue is. waits qid queue refl is) h
verdict_regions past now k candidate c board (CloseCq qid) waits held h = closed_cq_regions now k.sq qid (open_cq past qid) h
verdict_regions past now k candidate c board (verdict.SetArbitration settings) waits held h =
    made_regions (event.SetArbitration settings) now k.sq (λ r. refl) (λ r. refl) (λ r i. refl) (λ r i. refl) h

-- two open queues with one region have one identifier
pub one_queue : (past : Past) (k : Content) (q p : ℕ) (queue other : Queue) → HoldsQueues past k → open_sq past q ≡ Some queue → open_sq past p ≡ Some other → queue.region ≡ other.region
    → q ≡ p
one_queue past k q p queue other h one two same =
    let a = h.attached q queue one in
    let b = h.attached p other two in
    ap (λ (x : Attachment). x.qid) (same_Some _ _ (sym a.attached ∙ ap (λ (z : ℕ). (k.sq z).queue) same ∙ b.attached))

-- so it has another region than the admin queue
pub target_apart : (past : Past) (k : Content) → HoldsQueues past k → open_sq past 0 ≡ Some admin_queue → (sqid : ℕ) (queue : Queue) → target_of past sqid ≡ Some queue
    → queue.region ≡ 0 → ⊥
target_apart past k h admin sqid queue is e =
    let target = target_is past sqid queue is in
    target.0 (one_queue past k sqid 0 queue admin_queue h target.1 admin e)

-- and a pick of the admin queue leaves that region
pub target_left : (past : Past) (k : Content) → HoldsQueues past k → open_sq past 0 ≡ Some admin_queue → (sqid : ℕ) (queue : Queue) → target_of past sqid ≡ Some queue
    → (x : SqContent) → put_sq k.sq 0 x queue.region ≡ k.sq queue.region
target_left past k h admin sqid queue is x = put_sq-other k.sq 0 x queue.region (λ e. target_apart past k h admin sqid queue is (sym e))

-- so it still holds what waited
pub target_holds : (past : Past) (k : Content) → HoldsQueues past k → ((r : ℕ) → HoldsSq past r (k.sq r)) → open_sq past 0 ≡ Some admin_queue → (sqid : ℕ) (queue : Queue)
    → target_of past sqid ≡ Some queue → (n : ℕ) → HoldsSq past queue.region (put_sq k.sq 0 (picked_sq (k.sq 0) n) queue.region)
target_holds past k h regions admin sqid queue is n =
    subst (λ (z : SqContent). HoldsSq past queue.region z) (sym (target_left past k h admin sqid queue is (picked_sq (k.sq 0) n))) (regions queue.region)

-- the queue of a due deletion isn't the admin queue
pub not_admin_queue : (rules : FrontRules) (history : TableHistory) (entry : Sqe) (qid : ℕ) → verdict_of rules.start history entry ≡ BeginDelete qid → qid ≡ 0 → ⊥
not_admin_queue rules history entry qid is =
    (subst (λ (v : Verdict). IsDue (queue_table rules.start history) v) is (TellsChange-entry rules.start history entry).due).not_admin

-- an admin pick, with what its command makes, keeps what is said of all regions
pub regions-admin : KeepsAdmin Regions
regions-admin rules late past k seen pick picked candidate rest table c board s can saw admin one apply chosen =
    verdict_regions past (event.Pick seen pick ∷ past) (applied_to k picked table) candidate c board (verdict_at rules s.tabled.history candidate) waits
    (λ sqid queue is. target_holds past k s.queues s.regions (subst (λ (q : ℕ). open_sq past q ≡ Some admin_queue) admin can.is_open) sqid queue is 1)
    (picked_regions past k.sq admin_queue seen pick 1 s.regions can.is_open one (omega (arith, can.enough, one))) where
      waits : (qid : ℕ) (queue : Queue) → verdict_at rules s.tabled.history candidate ≡ BeginDelete qid → open_sq past qid ≡ Some queue
          → waiting past queue.region ≡ map (λ (d : Candidate). d.index) ((applied_to k picked table).sq queue.region).window
      waits qid queue begins is_open =
          let apart : 0 ≡ queue.region → ⊥ = λ e. not_admin_queue rules s.tabled.history candidate.entry qid begins
          (one_queue past k qid pick.qid queue admin_queue s.queues is_open can.is_open (sym e) ∙ admin) in
          (s.regions queue.region).waiting_is
          ∙ ap (λ (z : SqContent). map (λ (d : Candidate). d.index) z.window) (sym (put_sq-other k.sq 0 (picked_sq (k.sq 0) 1) queue.region apart))
