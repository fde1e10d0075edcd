-- Where nothing is ready in a completion region, what is through of its queues is posted; and a ring with no free slot is full.
use Rattle.std.proofs.Common.{◌≡◌, ℕ, ◌+◌, ◌<◌, ◌≤◌, ◌==◌, ◌&&◌, Bool, true, false, List, [], ◌∷◌, ◌++◌, length, map, drop, Option, Some, None, refl, sym, ap, ◌∙◌, subst, arith, inl, inr}
use Rattle.std.specs.Prelude.{All, sum_by}
use Rattle.std.proofs.lemmas.Bool.{cases_eq, cases_lt, eq-eqb, eqb-true, lt-ltb, and_parts, false_from_ne_true, true_from_ne_false, false≢true}
use Rattle.std.proofs.lemmas.Option.{same_Some}
use Rattle.std.proofs.lemmas.List.Sums.{sum_by-cons}
use Rattle.std.proofs.lemmas.List.Elements.{All-nil, All-head, All-tail, All-same, All-map, All-weaker, All-append, All-take, All-drop}
use Rattle.nvme_entry.specs.declared.submission.Sqe.{Sqe}
use Rattle.nvme_log.specs.declared.place.Place.{Place}
use Rattle.nvme_log.specs.Rules.{FrontRules}
use Rattle.nvme_log.specs.Queues.{open_cq, cq_region_of}
use Rattle.nvme_log.specs.Places.{fetched, fate_of, is_aborted, is_waiting, is_served, one_if}
use Rattle.nvme_log.specs.Completions.{is_posted, posted_to}
use Rattle.nvme_log.specs.Dispatches.{place_at}
use Rattle.nvme_log.proofs.Posts.{posts_of-none}
use Rattle.nvme_ctrl_log.specs.Notes.{Notes, logged}
use Rattle.nvme_ctrl_log.specs.Doorbells.{gap, consumed}
use Rattle.nvme_ctrl_log.specs.Tags.{answer_of}
use Rattle.nvme_ctrl_log.specs.Posts.{IsFullRing, AllPosted, NonePostable}
use Rattle.nvme_ctrl.specs.Posts.{next_post_of}
use Rattle.nvme_slots.specs.declared.slot.Slot.{Slot}
use Rattle.nvme_ctrl.specs.declared.state.Controller.{Controller}
use Rattle.nvme_ctrl_content.specs.Content.{Candidate, Ready, PendingDelete}
use Rattle.nvme_ctrl_content.specs.Standing.{IsInHand, IsReady, times_in, times_held, held_upto}
use Rattle.nvme_slots.specs.Pool.{IsChain}
use Rattle.nvme_ctrl.specs.kept.State.{cq_at}
use Rattle.nvme_ctrl.specs.kept.Kept.{Item, ReadyItem, ready_tags, readies_of, candidate_of, places_of, picked_region, picked_of, untaken, IsWaitingIn, IsUnanswered, StandsAt}
use Rattle.nvme_ctrl.proofs.NextPost.{none_is_out, not_postable, chain-none}
use Rattle.nvme_ctrl_content.proofs.OwnStatus.{waiting_is_unaborted}
use Rattle.nvme_ctrl_content.proofs.Readying.{over_none}
use Rattle.nvme_ctrl_content.proofs.ReadyHand.{times_held-append}
use Rattle.nvme_ctrl_log.proofs.Served.{IsServed, through-served}
use Rattle.nvme_ctrl.proofs.SlotItems.{All-both}
use Rattle.nvme_slots.proofs.Turns.{filled-is}
use Rattle.nvme_ctrl_content.proofs.Windows.{window-waits, served-or_window}
use Rattle.nvme_ctrl_content.proofs.DeletingRegions.{held-none}
use Rattle.nvme_ctrl.proofs.PendingDeletions.{some_deletes}

-- a test that none passes counts none
none_of : {X : Type 0} (test : X → Bool) (xs : List X) → All (λ (z : X). test z ≡ false) xs → sum_by (λ (z : X). one_if (test z)) xs ≡ 0
none_of test [] h = refl
none_of {X = X} test (x ∷ xs) h =
    omega (
      arith,
      sum_by-cons (λ (z : X). one_if (test z)) x xs,
      ap one_if (All-head (λ (z : X). test z ≡ false) x xs h),
      none_of test xs (All-tail (λ (z : X). test z ≡ false) x xs h),
    )

module _ (rules : FrontRules) (late : Bool) (notes : Notes) (c : Controller) (slots : List Slot) (stands : StandsAt rules late notes c slots) where
  -- ---- a place that is through
  -- it is none that is neither aborted nor answered
  undone_other : (r i : ℕ) → IsServed notes (place_at r i) → (q : Place) → is_aborted (logged notes) q.region q.index ≡ false → IsUnanswered notes q
      → (q.region == r && q.index == i) ≡ false
  undone_other r i served q unaborted unanswered = false_from_ne_true (q.region == r && q.index == i) (λ same.
      let parts = and_parts (q.region == r) (q.index == i) same in
      let er : q.region ≡ r = eqb-true q.region r parts.0 in
      let ei : q.index ≡ i = eqb-true q.index i parts.1 in
      elim served [
        | inl aborted ↦ false≢true (sym unaborted ∙ (λ j. is_aborted (logged notes) (er j) (ei j)) ∙ aborted)
        | inr a ↦ (let none : None ≡ Some a.answer = sym unanswered ∙ (λ j. answer_of notes (er j) (ei j)) ∙ a.answered in cc none)
      ])

  -- it was fetched
  was_fetched : (r i : ℕ) → IsServed notes (place_at r i) → i < length (fetched (logged notes) r)
  was_fetched r i served = elim (cases_lt i (length (fetched (logged notes) r))) [
    | inl within ↦ within
    | inr beyond ↦ absurd (elim served [
      | inl aborted ↦ (
          let got : length (stands.content.sq r).got ≤ i = subst (λ (xs : List Sqe). length xs ≤ i) (stands.holds.regions r).fetched_is beyond in
          false≢true (sym ((stands.holds.regions r).none_aborted i got) ∙ aborted))
      | inr a ↦ (let none : None ≡ Some a.answer = sym (stands.tags.unanswered.none r i beyond) ∙ a.answered in cc none)
    ])
  ]

  -- what waits in a region is of its place
  window_regions : (r : ℕ) → All (λ (it : Item). it.place.region ≡ r) (stands.items.windows r)
  window_regions r = by (stands.content.sq_id r) refl where
    by : (o : Option ℕ) → stands.content.sq_id r ≡ o → All (λ (it : Item). it.place.region ≡ r) (stands.items.windows r)
    by None none = All-same (λ (it : Item). it.place.region ≡ r) (stands.items.windows r) [] (stands.has.windows.none r none) (All-nil (λ (it : Item). it.place.region ≡ r))
    by (Some q) is =
        All-weaker (IsWaitingIn slots q r) (λ (it : Item). it.place.region ≡ r) (λ it h. h.place) (stands.items.windows r)
        (stands.has.windows.items q r (stands.numbers.sqs.ids.lives_are r q is))

  -- it doesn't wait
  not_waiting : (r i : ℕ) → IsServed notes (place_at r i) → one_if (is_served (logged notes) r i) ≡ 1
  not_waiting r i served =
      let s = stands.content.sq r in
      let all : List Item = stands.items.windows r in
      let picked : ℕ = picked_of c (stands.content.sq_id r) in
      let unanswered : All (λ (it : Item). answer_of notes r it.place.index ≡ None) all =
      All-both (λ (it : Item). it.place.region ≡ r) (λ (it : Item). IsUnanswered notes it.place) (λ (it : Item). answer_of notes r it.place.index ≡ None)
      (λ it at u. ap (λ (z : ℕ). answer_of notes z it.place.index) (sym at) ∙ u) all (window_regions r) (stands.tags.unanswered.windows r) in
      let candidates : All (λ (z : Candidate). answer_of notes r z.index ≡ None) s.window =
      All-same (λ (z : Candidate). answer_of notes r z.index ≡ None) s.window (map candidate_of (drop picked all)) (stands.has.windows.are r)
      (All-map (λ (z : Candidate). answer_of notes r z.index ≡ None) candidate_of (drop picked all)
      (All-drop (λ (it : Item). answer_of notes r it.place.index ≡ None) picked all unanswered)) in
      let others : All (λ (z : Candidate). (z.index == i) ≡ false) s.window =
      All-both (λ (z : Candidate). is_waiting (fate_of (logged notes) r z.index) ≡ true) (λ (z : Candidate). answer_of notes r z.index ≡ None) (λ (z : Candidate). (z.index == i) ≡ false)
      (λ z w u. subst (λ (b : Bool). (b && z.index == i) ≡ false) (eq-eqb r r refl) (undone_other r i served (place_at r z.index) (waiting_is_unaborted (logged notes) r z.index w) u))
      s.window (window-waits (logged notes) r s (stands.holds.regions r)) candidates in
      omega (
        arith,
        served-or_window (logged notes) r s (stands.holds.regions r) i,
        none_of (λ (z : Candidate). z.index == i) s.window others,
        ap one_if (lt-ltb i (length (fetched (logged notes) r)) (was_fetched r i served)),
      )

  -- it isn't in hand
  not_in_hand : (r i : ℕ) → IsServed notes (place_at r i) → times_held r i stands.content.hand ≡ 0
  not_in_hand r i served =
      let held : List Item = stands.items.outs ++ untaken c stands.content stands.items in
      let unanswered : All (IsUnanswered notes) stands.content.hand =
      All-same (IsUnanswered notes) stands.content.hand (places_of held) stands.has.outs.hand_is
      (All-map (IsUnanswered notes) (λ (it : Item). it.place) held
      (All-append (λ (it : Item). IsUnanswered notes it.place) stands.items.outs (untaken c stands.content stands.items) stands.tags.unanswered.outs
      (All-take (λ (it : Item). IsUnanswered notes it.place) c.picked (stands.items.windows (picked_region c stands.content)) (stands.tags.unanswered.windows (picked_region c stands.content))))) in
      none_of (λ (q : Place). q.region == r && q.index == i) stands.content.hand
      (All-both (IsInHand (logged notes)) (IsUnanswered notes) (λ (q : Place). (q.region == r && q.index == i) ≡ false)
      (λ q h u. undone_other r i served q h.not_aborted u) stands.content.hand stands.holds.hand.each unanswered)

  -- nor that of a pending deletion
  not_deleting : (r i : ℕ) → IsServed notes (place_at r i) → times_held r i (held_upto stands.content.deletion stands.content.nsq) ≡ 0
  not_deleting r i served = held-none r i stands.content.deletion stands.content.nsq (λ x d e.
      let is = some_deletes c.sqs c.pending_deletions slots stands.content.sq_life stands.content.deletion stands.items.deletes stands.has.deletions x d e in
      let unanswered : IsUnanswered notes d.place = subst (IsUnanswered notes) (ap (λ (z : PendingDelete). z.place) (sym is.same)) (stands.tags.unanswered.deletes x is.item is.is) in
      undone_other r i served d.place (stands.holds.deletion.stands x d e).not_aborted unanswered)

  -- nor ready, where nothing is ready in the region that it posts to
  not_ready_at : (x r i : ℕ) → (stands.content.cq x).ready ≡ [] → cq_region_of (logged notes) r ≡ Some x → (y : ℕ) → times_in r i (stands.content.cq y).ready ≡ 0
  not_ready_at x r i empty region y =
      none_of (λ (t : Ready). t.place.region == r && t.place.index == i) (stands.content.cq y).ready (elim (cases_eq y x) [
        | inl same ↦ All-same (λ (t : Ready). (t.place.region == r && t.place.index == i) ≡ false) (stands.content.cq y).ready []
            (ap (λ (z : ℕ). (stands.content.cq z).ready) same ∙ empty) (All-nil (λ (t : Ready). (t.place.region == r && t.place.index == i) ≡ false))
        | inr other ↦ All-weaker (IsReady (logged notes) stands.content.deletion y) (λ (t : Ready). (t.place.region == r && t.place.index == i) ≡ false)
            (λ t h. false_from_ne_true (t.place.region == r && t.place.index == i) (λ same.
            let er : t.place.region ≡ r = eqb-true t.place.region r (and_parts (t.place.region == r) (t.place.index == i) same).0 in
            other (same_Some y x (sym h.region ∙ ap (λ (z : ℕ). cq_region_of (logged notes) z) er ∙ region))))
            (stands.content.cq y).ready (stands.holds.ready.each y)
      ])

  -- so it is posted
  pub all_posted : (x : ℕ) → (stands.content.cq x).ready ≡ [] → AllPosted notes x
  all_posted x empty r i region through = true_from_ne_false (is_posted (logged notes) r i) (λ unposted.
      let served : IsServed notes (place_at r i) = through-served notes r i through in
      omega (
        arith,
        stands.holds.ready.once r i,
        not_waiting r i served,
        over_none (λ (y : ℕ). times_in r i (stands.content.cq y).ready) stands.content.ncq (λ y lt. not_ready_at x r i empty region y),
        posts_of-none (logged notes) r i unposted,
        times_held-append r i stands.content.hand (held_upto stands.content.deletion stands.content.nsq),
        not_in_hand r i served,
        not_deleting r i served,
      ))

  -- no slot is ready where the chain has none
  pub none_ready : (q x : ℕ) → stands.content.cq_life q ≡ Some x → ((y : ℕ) (rest : List ℕ) → IsChain slots (cq_at c.cqs q).ready (y ∷ rest) → ⊥) → (stands.content.cq x).ready ≡ []
  none_ready q x life none = stands.has.readies.are x ∙ by (stands.items.readies x) (stands.has.readies.chain q x life) where
    by : (items : List ReadyItem) → IsChain slots (cq_at c.cqs q).ready (ready_tags items) → readies_of items ≡ []
    by [] h = refl
    by (it ∷ rest) h = absurd (none it.tag (ready_tags rest) h)

  -- an open queue is on the region that is kept of it
  pub open_life : (q x : ℕ) → open_cq (logged notes) q ≡ Some x → stands.content.cq_life q ≡ Some x
  open_life q x is = stands.holds.lives.cqs q ∙ is

  -- ---- a ring with no free slot
  pub full_ring : (q x : ℕ) → stands.content.cq_life q ≡ Some x
      → (cq_at c.cqs q).ring.slots ≤ gap (cq_at c.cqs q).ring.slots (cq_at c.cqs q).ring.head (cq_at c.cqs q).ring.tail + 1 → IsFullRing rules notes x
  full_ring q x life filled =
      omega (
        arith,
        stands.holds.tabled.cq_slots x,
        (stands.numbers.cqs.each q x life).slots,
        filled,
        filled-is (cq_at c.cqs q).ring (consumed rules notes x) (length (posted_to (logged notes) x)) (stands.doorbells.cqs.each q x life),
      )

  -- ---- where no completion comes next, nothing may be posted
  pub none_postable : (q x : ℕ) → open_cq (logged notes) q ≡ Some x → next_post_of c slots q ≡ None → NonePostable rules notes x
  none_postable q x is none =
      let life = open_life q x is in
      let few = stands.numbers.cqs.few q x life in
      let empty : (cq_at c.cqs q).ready.len ≡ 0 → NonePostable rules notes x = λ len. inr (all_posted x (none_ready q x life (chain-none slots (cq_at c.cqs q) len))) in
      elim (none_is_out c slots q none) [
        | inl out ↦ empty (stands.numbers.cqs.readied q (omega (arith, few)) out)
        | inr within ↦ elim (not_postable c slots (cq_at c.cqs q) within) [
          | inl full ↦ inl (full_ring q x life full)
          | inr len ↦ empty len
        ]
      ]
