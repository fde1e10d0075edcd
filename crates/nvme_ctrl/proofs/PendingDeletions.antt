-- The pending deletions: the places that they hold, and the slots of their commands.
use Rattle.std.proofs.Common.{◌≡◌, ◌≢◌, ℕ, ◌+◌, ◌-◌, ◌<◌, ◌≤◌, ◌==◌, Bool, true, false, not, if◌then◌else◌, List, length, Option, Some, None, refl, sym, ap, ◌∙◌, subst, arith, inl, inr}
use Rattle.std.specs.Prelude.{slice_set, option_map, min}
use Rattle.std.proofs.lemmas.Bool.{cases_eq, cases_lt, eq-eqb, ne_eqb}
use Rattle.std.proofs.lemmas.Option.{same_Some}
use Rattle.std.proofs.lemmas.List.{get_or_past}
use Rattle.std.proofs.lemmas.List.Sums.{sum_by-set, sum_by-le, get_or-le-sum_by}
use Rattle.nvme_log.specs.Places.{one_if}
use Rattle.nvme_log.specs.Dispatches.{place_at}
use Rattle.nvme_slots.specs.declared.slot.Slot.{Slot}
use Rattle.nvme_ctrl.specs.declared.state.SqState.{SqState}
use Rattle.nvme_ctrl_content.specs.Content.{PendingDelete, put_deletion, put_life}
use Rattle.nvme_ctrl.specs.kept.Kept.{DeleteItem, deletion_in, put_delete, delete_of, IsDeletingIn, HasDeletions}
use Rattle.nvme_slots.specs.Pool.{slot_at, item_at}
use Rattle.nvme_ctrl.specs.kept.State.{no_sq_state, sq_at, delete_tag, count_closing}
use Rattle.nvme_ctrl.proofs.Lives.{put_sq-states}
use Rattle.nvme_ctrl_content.proofs.DeletingRegions.{put-other, put-same, Here, Elsewhere, is_put}

-- ---- the slots of their commands
-- where what is in their slots is left, all is
pub deletions_left : (states : List SqState) (pending : ℕ) (slots new : List Slot) (lives : ℕ → Option ℕ) (kept : ℕ → Option PendingDelete) (deletes : ℕ → Option DeleteItem)
    → length new ≡ length slots → ((r : ℕ) (it : DeleteItem) → deletes r ≡ Some it → item_at new it.tag ≡ item_at slots it.tag)
    → HasDeletions states pending slots lives kept deletes → HasDeletions states pending new lives kept deletes
deletions_left states pending slots new lives kept deletes size same h = record {
  are = λ r. h.are r ∙ by r (deletes r) refl;
  tags = h.tags;
  queues = h.queues;
  items = λ r it is. let i = h.items r it is in let e = same r it is in record {
    inside = subst (λ (n : ℕ). it.tag < n) (sym size) i.inside;
    state = ap (λ (s : Slot). s.state) e ∙ i.state;
    queue = ap (λ (s : Slot). s.sqid) e ∙ i.queue;
  };
  apart = h.apart;
  counted = h.counted;
} where
  by : (r : ℕ) (o : Option DeleteItem) → deletes r ≡ o → option_map (deletion_in slots r) o ≡ option_map (deletion_in new r) o
  by r None is = refl
  by r (Some it) is =
      ap (λ (s : Slot). Some (record { place = place_at 0 it.index; cid = s.entry.cid; qid = it.qid; region = r })) (sym (same r it is))

-- where another slot was changed
pub deletions_stay : (states : List SqState) (pending : ℕ) (slots new : List Slot) (lives : ℕ → Option ℕ) (kept : ℕ → Option PendingDelete) (deletes : ℕ → Option DeleteItem) (tag : ℕ)
    → length new ≡ length slots → ((y : ℕ) → y ≢ tag → item_at new y ≡ item_at slots y) → ((r : ℕ) (it : DeleteItem) → deletes r ≡ Some it → it.tag ≢ tag)
    → HasDeletions states pending slots lives kept deletes → HasDeletions states pending new lives kept deletes
deletions_stay states pending slots new lives kept deletes tag size others apart h =
    deletions_left states pending slots new lives kept deletes size (λ r it is. others it.tag (apart r it is)) h

-- a slot of another state is none of theirs
pub deletes_apart : (states : List SqState) (pending : ℕ) (slots : List Slot) (lives : ℕ → Option ℕ) (kept : ℕ → Option PendingDelete) (deletes : ℕ → Option DeleteItem) (tag : ℕ)
    → HasDeletions states pending slots lives kept deletes → (slot_at slots tag).state ≢ 6 → (r : ℕ) (it : DeleteItem) → deletes r ≡ Some it → it.tag ≢ tag
deletes_apart states pending slots lives kept deletes tag h other r it is e = other (ap (λ (y : ℕ). (slot_at slots y).state) (sym e) ∙ (h.items r it is).state)

-- what is kept of a region is what its slot has
pub deletion_item : (states : List SqState) (pending : ℕ) (slots : List Slot) (lives : ℕ → Option ℕ) (kept : ℕ → Option PendingDelete) (deletes : ℕ → Option DeleteItem)
    → HasDeletions states pending slots lives kept deletes → (r : ℕ) (it : DeleteItem) → deletes r ≡ Some it → kept r ≡ Some (deletion_in slots r it)
deletion_item states pending slots lives kept deletes h r it is = h.are r ∙ ap (option_map (deletion_in slots r)) is

-- where none is kept of a region, no slot has one
pub none_deletes : (states : List SqState) (pending : ℕ) (slots : List Slot) (lives : ℕ → Option ℕ) (kept : ℕ → Option PendingDelete) (deletes : ℕ → Option DeleteItem)
    → HasDeletions states pending slots lives kept deletes → (r : ℕ) → kept r ≡ None → deletes r ≡ None
none_deletes states pending slots lives kept deletes h r none = by (deletes r) refl where
  by : (o : Option DeleteItem) → deletes r ≡ o → o ≡ None
  by None is = refl
  by (Some it) is = absurd (cc (none, deletion_item states pending slots lives kept deletes h r it is))

-- one that is kept is in a slot
pub record HasDelete (slots : List Slot) (deletes : ℕ → Option DeleteItem) (r : ℕ) (d : PendingDelete) : Type 0 where
  pub item : DeleteItem
  pub is : deletes r ≡ Some item
  pub same : d ≡ deletion_in slots r item

pub some_deletes : (states : List SqState) (pending : ℕ) (slots : List Slot) (lives : ℕ → Option ℕ) (kept : ℕ → Option PendingDelete) (deletes : ℕ → Option DeleteItem)
    → HasDeletions states pending slots lives kept deletes → (r : ℕ) (d : PendingDelete) → kept r ≡ Some d → HasDelete slots deletes r d
some_deletes states pending slots lives kept deletes h r d some = by (deletes r) refl where
  by : (o : Option DeleteItem) → deletes r ≡ o → HasDelete slots deletes r d
  by None is = absurd (let none : kept r ≡ None = h.are r ∙ ap (option_map (deletion_in slots r)) is in cc (none, some))
  by (Some it) is = record { item = it; is = is; same = same_Some d (deletion_in slots r it) (sym some ∙ deletion_item states pending slots lives kept deletes h r it is) }

-- ---- the queues that are closing
-- one that is tells the slot
pub flagged : (state : SqState) → state.closing ≢ 0 → delete_tag state ≡ Some state.tag
flagged state some = ap (λ (b : Bool). if b then None else Some state.tag) (ne_eqb state.closing 0 some)

pub unflagged : (state : SqState) → state.closing ≡ 0 → delete_tag state ≡ None
unflagged state none = ap (λ (b : Bool). if b then None else Some state.tag) (eq-eqb state.closing 0 none)

-- a pending deletion of a queue is that of its region, and in a slot
pub record IsFlagged (lives : ℕ → Option ℕ) (deletes : ℕ → Option DeleteItem) (q tag : ℕ) : Type 0 where
  pub region : ℕ
  pub life : lives q ≡ Some region
  pub item : DeleteItem
  pub is : deletes region ≡ Some item
  pub tag_is : item.tag ≡ tag

pub flagged_item : (states : List SqState) (pending : ℕ) (slots : List Slot) (lives : ℕ → Option ℕ) (kept : ℕ → Option PendingDelete) (deletes : ℕ → Option DeleteItem)
    → HasDeletions states pending slots lives kept deletes → (q : ℕ) → (sq_at states q).closing ≢ 0 → IsFlagged lives deletes q (sq_at states q).tag
flagged_item states pending slots lives kept deletes h q some = by (lives q) refl where
  tag : option_map (λ (it : DeleteItem). it.tag) (delete_of deletes (lives q)) ≡ Some (sq_at states q).tag
  tag = sym (h.tags q) ∙ flagged (sq_at states q) some

  of : (r : ℕ) → lives q ≡ Some r → (o : Option DeleteItem) → deletes r ≡ o → IsFlagged lives deletes q (sq_at states q).tag
  of r life None is = absurd (let none : option_map (λ (it : DeleteItem). it.tag) (delete_of deletes (lives q)) ≡ None =
      ap (λ (l : Option ℕ). option_map (λ (it : DeleteItem). it.tag) (delete_of deletes l)) life ∙ ap (option_map (λ (it : DeleteItem). it.tag)) is in cc (none, tag))
  of r life (Some it) is = record {
    region = r;
    life = life;
    item = it;
    is = is;
    tag_is = same_Some it.tag (sq_at states q).tag (sym (ap (λ (l : Option ℕ). option_map (λ (x : DeleteItem). x.tag) (delete_of deletes l)) life
        ∙ ap (option_map (λ (x : DeleteItem). x.tag)) is) ∙ tag);
  }

  by : (l : Option ℕ) → lives q ≡ l → IsFlagged lives deletes q (sq_at states q).tag
  by None life = absurd (cc tag)
  by (Some r) life = of r life (deletes r) refl

-- one that is in a slot is pending, under the identifier of the queue that it deletes
pub item_flagged : (states : List SqState) (pending : ℕ) (slots : List Slot) (lives : ℕ → Option ℕ) (kept : ℕ → Option PendingDelete) (deletes : ℕ → Option DeleteItem)
    → HasDeletions states pending slots lives kept deletes → (r : ℕ) (it : DeleteItem) → deletes r ≡ Some it → (sq_at states it.qid).closing ≢ 0
item_flagged states pending slots lives kept deletes h r it is idle =
    let tag = h.tags it.qid ∙ ap (λ (l : Option ℕ). option_map (λ (x : DeleteItem). x.tag) (delete_of deletes l)) (h.queues r it is) ∙ ap (option_map (λ (x : DeleteItem). x.tag)) is in
    let none = unflagged (sq_at states it.qid) idle in
    cc (tag, none)

-- no more are pending than there are
few_one : (b : Bool) → one_if b ≤ 1
few_one true = omega arith
few_one false = omega arith

pub few_pending : (states : List SqState) → count_closing states ≤ length states
few_pending states =
    omega (arith, sum_by-le (λ (state : SqState). one_if (not (state.closing == 0))) 1 states (λ j d l. few_one (not (_ == 0))))

-- where none is counted, none is pending
pub none_counted : (states : List SqState) (pending : ℕ) (slots : List Slot) (lives : ℕ → Option ℕ) (kept : ℕ → Option PendingDelete) (deletes : ℕ → Option DeleteItem)
    → HasDeletions states pending slots lives kept deletes → pending ≡ 0 → (r : ℕ) → (sq_at states r).closing ≡ 0
none_counted states pending slots lives kept deletes h uncounted r = elim (cases_lt r (length states)) [
  | inl below ↦ by (sq_at states r).closing (get_or-le-sum_by (λ (state : SqState). one_if (not (state.closing == 0))) states r no_sq_state below)
  | inr beyond ↦ ap (λ (state : SqState). state.closing) (get_or_past states r no_sq_state beyond)
] where
  by : (n : ℕ) → one_if (not (n == 0)) ≤ count_closing states → n ≡ 0
  by n few = elim (cases_eq n 0) [
    | inl is ↦ is
    | inr some ↦ absurd (omega (arith, few, h.counted, uncounted, ap (λ (b : Bool). one_if (not b)) (ne_eqb n 0 some)))
  ]

-- where another state is put of a queue that is closing as it was, all is
pub deletions_kept : (states : List SqState) (pending : ℕ) (slots : List Slot) (lives : ℕ → Option ℕ) (kept : ℕ → Option PendingDelete) (deletes : ℕ → Option DeleteItem) (q : ℕ) (state : SqState)
    → q < length states → state.closing ≡ (sq_at states q).closing → state.tag ≡ (sq_at states q).tag
    → HasDeletions states pending slots lives kept deletes → HasDeletions (slice_set states q state) pending slots lives kept deletes
deletions_kept states pending slots lives kept deletes q state there closing tag h = record {
  are = h.are;
  tags = λ p. put_sq-states (λ x s. delete_tag s ≡ option_map (λ (it : DeleteItem). it.tag) (delete_of deletes (lives x))) states q state there
      ((λ i. if closing i == 0 then None else Some (tag i)) ∙ h.tags q) p (λ other. h.tags p);
  queues = h.queues;
  items = h.items;
  apart = h.apart;
  counted =
      let sum = sum_by-set (λ (s : SqState). one_if (not (s.closing == 0))) states q state no_sq_state there in
      omega (arith, h.counted, sum, ap (λ (n : ℕ). one_if (not (n == 0))) closing);
}

-- ---- one begins
-- another region has another identifier
delete_of-other : (deletes : ℕ → Option DeleteItem) (region : ℕ) (o : Option DeleteItem) (l : Option ℕ) → (l ≡ Some region → ⊥) → delete_of (put_delete deletes region o) l ≡ delete_of deletes l
delete_of-other deletes region o None other = refl
delete_of-other deletes region o (Some r) other = put-other deletes region o r (λ e. other (ap Some e))

pub deletions_begun : (states : List SqState) (pending now : ℕ) (slots : List Slot) (lives : ℕ → Option ℕ) (kept : ℕ → Option PendingDelete) (deletes : ℕ → Option DeleteItem) (qid region : ℕ) (it : DeleteItem)
    → HasDeletions states pending slots lives kept deletes → ((q : ℕ) → lives q ≡ Some region → q ≡ qid) → lives qid ≡ Some region → it.qid ≡ qid → qid < 65
    → deletes region ≡ None → IsDeletingIn slots it
    → ((r : ℕ) (other : DeleteItem) → deletes r ≡ Some other → other.tag ≢ it.tag) → now ≡ min (pending + 1) 65535 → length states ≡ 65
    → HasDeletions (slice_set states qid (record (sq_at states qid) { tag = it.tag; closing = 1 })) now slots lives (put_deletion kept region (Some (deletion_in slots region it))) (put_delete deletes region (Some it))
deletions_begun states pending now slots lives kept deletes qid region it h one life qid_is within none is others now_is size = record {
  are = λ r. elim (cases_eq r region) [
    | inl e ↦ subst (λ (z : ℕ). put_deletion kept region (Some (deletion_in slots region it)) z ≡ option_map (deletion_in slots z) (put_delete deletes region (Some it) z)) (sym e)
        (put-same kept region (Some (deletion_in slots region it)) ∙ ap (option_map (deletion_in slots region)) (sym (put-same deletes region (Some it))))
    | inr d ↦ put-other kept region (Some (deletion_in slots region it)) r d ∙ h.are r ∙ ap (option_map (deletion_in slots r)) (sym (put-other deletes region (Some it) r d))
  ];
  tags = λ q. put_sq-states (λ z state. delete_tag state ≡ option_map (λ (x : DeleteItem). x.tag) (delete_of (put_delete deletes region (Some it)) (lives z))) states qid new there
      (ap (option_map (λ (x : DeleteItem). x.tag)) (sym here)) q
      (λ d. h.tags q ∙ ap (option_map (λ (x : DeleteItem). x.tag)) (sym (delete_of-other deletes region (Some it) (lives q) (λ l. d (one q l)))));
  queues = λ r x at. elim (is_put deletes region (Some it) r x at) [
    | Here e same ↦ subst (λ (y : DeleteItem). lives y.qid ≡ Some r) (same_Some it x same) (ap lives qid_is ∙ life ∙ ap Some (sym e))
    | Elsewhere d was_there ↦ h.queues r x was_there
  ];
  items = λ r x at. elim (is_put deletes region (Some it) r x at) [
    | Here e same ↦ subst (IsDeletingIn slots) (same_Some it x same) is
    | Elsewhere d was_there ↦ h.items r x was_there
  ];
  apart = λ r x a b at_r at_x same. elim (is_put deletes region (Some it) r a at_r) [
    | Here e is_a ↦ elim (is_put deletes region (Some it) x b at_x) [
      | Here f is_b ↦ e ∙ sym f
      | Elsewhere d there_b ↦ absurd (others x b there_b (sym same ∙ ap (λ (z : DeleteItem). z.tag) (sym (same_Some it a is_a))))
    ]
    | Elsewhere d there_a ↦ elim (is_put deletes region (Some it) x b at_x) [
      | Here f is_b ↦ absurd (others r a there_a (same ∙ ap (λ (z : DeleteItem). z.tag) (sym (same_Some it b is_b))))
      | Elsewhere d2 there_b ↦ h.apart r x a b there_a there_b same
    ]
  ];
  counted = now_is ∙ count;
} where
  new : SqState
  new = record (sq_at states qid) { tag = it.tag; closing = 1 }

  there : qid < length states
  there = omega (arith, size, within)

  here : delete_of (put_delete deletes region (Some it)) (lives qid) ≡ Some it
  here = ap (delete_of (put_delete deletes region (Some it))) life ∙ put-same deletes region (Some it)

  was : (sq_at states qid).closing ≡ 0
  was = elim (cases_eq (sq_at states qid).closing 0) [
    | inl idle ↦ idle
    | inr some ↦ absurd (let f = flagged_item states pending slots lives kept deletes h qid some in
        let is = subst (λ (r : ℕ). deletes r ≡ Some f.item) (same_Some f.region region (sym f.life ∙ life)) f.is in cc (is, none))
  ]

  count : min (pending + 1) 65535 ≡ count_closing (slice_set states qid new)
  count =
      let sum = sum_by-set (λ (state : SqState). one_if (not (state.closing == 0))) states qid new no_sq_state there in
      let before : one_if (not ((sq_at states qid).closing == 0)) ≡ 0 = ap (λ (b : Bool). one_if (not b)) (eq-eqb (sq_at states qid).closing 0 was) in
      omega (arith, sum, before, h.counted, few_pending states, size)

-- ---- one ends
pub deletions_ended : (states : List SqState) (pending : ℕ) (slots : List Slot) (lives : ℕ → Option ℕ) (kept : ℕ → Option PendingDelete) (deletes : ℕ → Option DeleteItem) (region : ℕ) (it : DeleteItem)
    → HasDeletions states pending slots lives kept deletes → ((q : ℕ) → lives q ≡ Some region → q ≡ it.qid) → lives it.qid ≡ Some region → it.qid < 65 → deletes region ≡ Some it → length states ≡ 65
    → HasDeletions (slice_set states it.qid no_sq_state) (pending - 1) slots (put_life lives it.qid None) (put_deletion kept region None) (put_delete deletes region None)
deletions_ended states pending slots lives kept deletes region it h one life within is size = record {
  are = λ r. elim (cases_eq r region) [
    | inl e ↦ subst (λ (z : ℕ). put_deletion kept region None z ≡ option_map (deletion_in slots z) (put_delete deletes region None z)) (sym e)
        (put-same kept region None ∙ ap (option_map (deletion_in slots region)) (sym (put-same deletes region None)))
    | inr d ↦ put-other kept region None r d ∙ h.are r ∙ ap (option_map (deletion_in slots r)) (sym (put-other deletes region None r d))
  ];
  tags = λ q. put_sq-states (λ z state. delete_tag state ≡ option_map (λ (x : DeleteItem). x.tag) (delete_of (put_delete deletes region None) (put_life lives it.qid None z))) states it.qid no_sq_state there
      (ap (λ (l : Option ℕ). option_map (λ (x : DeleteItem). x.tag) (delete_of (put_delete deletes region None) l)) (sym (put-same lives it.qid None))) q
      (λ d. h.tags q ∙ ap (option_map (λ (x : DeleteItem). x.tag)) (sym (delete_of-other deletes region None (lives q) (λ l. d (one q l))))
      ∙ ap (λ (l : Option ℕ). option_map (λ (x : DeleteItem). x.tag) (delete_of (put_delete deletes region None) l)) (sym (put-other lives it.qid None q d)));
  queues = λ r x at. elim (is_put deletes region None r x at) [
    | Here e same ↦ absurd (cc same)
    | Elsewhere d was_there ↦ put-other lives it.qid None x.qid (λ e. d (same_Some r region (sym (h.queues r x was_there) ∙ ap lives e ∙ life))) ∙ h.queues r x was_there
  ];
  items = λ r x at. elim (is_put deletes region None r x at) [
    | Here e same ↦ absurd (cc same)
    | Elsewhere d was_there ↦ h.items r x was_there
  ];
  apart = λ r x a b at_r at_x same. elim (is_put deletes region None r a at_r) [
    | Here e is_a ↦ absurd (cc is_a)
    | Elsewhere d there_a ↦ elim (is_put deletes region None x b at_x) [
      | Here f is_b ↦ absurd (cc is_b)
      | Elsewhere d2 there_b ↦ h.apart r x a b there_a there_b same
    ]
  ];
  counted = count;
} where
  there : it.qid < length states
  there = omega (arith, size, within)

  count : pending - 1 ≡ count_closing (slice_set states it.qid no_sq_state)
  count =
      let sum = sum_by-set (λ (state : SqState). one_if (not (state.closing == 0))) states it.qid no_sq_state no_sq_state there in
      let before : one_if (not ((sq_at states it.qid).closing == 0)) ≡ 1 =
      ap (λ (b : Bool). one_if (not b)) (ne_eqb (sq_at states it.qid).closing 0 (item_flagged states pending slots lives kept deletes h region it is)) in
      omega (arith, sum, before, h.counted)
