-- Where nothing is to be done, what is fetched and what isn't waits for somebody else.
use Rattle.std.proofs.Common.{◌≡◌, ◌⊎◌, ℕ, zero, suc, ◌<◌, ◌≤◌, ◌==◌, ◌&&◌, ◌||◌, Bool, true, false, not, if◌then◌else◌, List, [], ◌∷◌, ◌++◌, length, map, Option, Some, None, is_some, refl, sym, ap, ◌∙◌, subst, arith, inl, inr, eqb-true, true≢false}
use Rattle.std.specs.Prelude.{option_map, nat_lt, IsNone, slice_index_or}
use Rattle.std.specs.List.{All, Contains}
use Rattle.std.proofs.lemmas.Bool.{cases_Bool, cases_lt, and_parts, false_from_ne_true, ltb-true}
use Rattle.std.proofs.lemmas.List.{append-nil, length-append, length-map}
use Rattle.std.proofs.lemmas.List.Elements.{All-contains, All-map, All-same, All-tail}
use Rattle.std.proofs.lemmas.List.Sums.{sum_by-cons, sum_by-le}
use Rattle.nvme_arbiter.specs.Observation.{IsIdle}
use Rattle.nvme_arbiter.specs.declared.pick.Pick.{Pick}
use Rattle.nvme_arbiter.specs.declared.pick.Seen.{Seen}
use Rattle.nvme_arbiter.proofs.RoundLaws.{idle_law}
use Rattle.nvme_log.specs.Histories.{arbitration_of}
use Rattle.nvme_log.specs.Rules.{FrontRules, Past, window_at}
use Rattle.nvme_log.specs.Places.{fate_of, fetched, is_aborted, is_served, is_waiting, one_if, waiting}
use Rattle.nvme_log.specs.Queues.{cq_region_of, is_closed_region, open_cq, qid_of_region}
use Rattle.nvme_log.specs.Completions.{is_posted}
use Rattle.nvme_log.specs.Answers.{Answer}
use Rattle.nvme_log.specs.Dispatches.{place_at}
use Rattle.nvme_log.specs.declared.place.Place.{Place}
use Rattle.nvme_log.proofs.Posts.{posts_of-none}
use Rattle.nvme_ctrl_log.specs.Notes.{Notes, logged}
use Rattle.nvme_ctrl.specs.Depths.{held_in}
use Rattle.nvme_ctrl_log.specs.Observation.{is_held, observed_of, shown_as}
use Rattle.nvme_ctrl.specs.Progress.{IsStill, NoneWaitDeleted, ServedAwait, UnfetchedAwait, WaitingAwait}
use Rattle.nvme_ctrl_log.specs.Progress.{IsWithDevice, WaitsForHost, WaitsForQueue}
use Rattle.nvme_ctrl_log.specs.Account.{HasTag}
use Rattle.nvme_ctrl_log.specs.Deletions.{deleting}
use Rattle.nvme_ctrl_log.specs.Tags.{answer_of, holder, is_through, taken}
use Rattle.nvme_slots.specs.declared.slot.Slot.{Slot}
use Rattle.nvme_ctrl.specs.declared.state.Controller.{Controller}
use Rattle.nvme_ctrl_content.specs.Content.{Attachment, Candidate, Content, PendingDelete, Ready}
use Rattle.nvme_ctrl.specs.kept.Kept.{IsThrough, Item, ReadyItem, StandsAt, places_of, readies_of, untaken}
use Rattle.nvme_ctrl_content.specs.Standing.{answer_in, hand_of, held_by, held_upto, times_held, times_in, times_ready}
use Rattle.nvme_ctrl.specs.kept.State.{sq_at}
use Rattle.nvme_ctrl_content.proofs.DeletingRegions.{times_held-by}
use Rattle.nvme_ctrl_content.proofs.ReadyHand.{times_held-append}
use Rattle.nvme_ctrl_content.proofs.Readying.{over_none}
use Rattle.nvme_ctrl_log.proofs.Readying.{unposted-counts}
use Rattle.nvme_ctrl.proofs.SeenQueues.{seen_one_by_one}

-- what counts is so
one_true : (b : Bool) → 1 ≤ one_if b → b ≡ true
one_true true h = refl
one_true false h = absurd (omega (arith, h))

counts_none : (b : Bool) → (b ≡ true → ⊥) → one_if b ≤ 0
counts_none true n = absurd (n refl)
counts_none false n = omega arith

length_zero : {X : Type 0} (xs : List X) → length xs ≡ 0 → xs ≡ []
length_zero [] e = refl
length_zero (x ∷ xs) e = absurd (omega (arith, e))

none_from : (o : Option Answer) (aborted : Bool) → (aborted || is_some o) ≡ false → o ≡ None
none_from None aborted e = refl
none_from (Some a) true e = absurd (cc e)
none_from (Some a) false e = absurd (cc e)

or_true : (b : Bool) → (b || true) ≡ true
or_true true = refl
or_true false = refl

-- a place whose completion is ready is through
done_through : (notes : Notes) (r i x j : ℕ) → x ≡ r → j ≡ i → (t : Ready) → (is_aborted (logged notes) x j ≡ true) ⊎ (answer_of notes x j ≡ Some (answer_in t))
    → is_through notes r i ≡ true
done_through notes r i x j er ei t h =
    subst (λ (z : ℕ). is_through notes z i ≡ true) er (subst (λ (z : ℕ). is_through notes x z ≡ true) ei (elim h [
      | inl aborted ↦ rw aborted refl
      | inr answered ↦ rw answered (or_true (is_aborted (logged notes) x j))
    ]))

none_is : (o : Option Pick) → None ≡ o → IsNone o
none_is o e = subst (λ (x : Option Pick). IsNone x) e refl

pub waiting_await : WaitingAwait
waiting_await rules late notes c slots depth q queue s still is_open waits =
    let seen : Seen = shown_as notes q queue in
    let idle : IsIdle (observed_of notes) = (idle_law rules.mechanism rules.start.settings (arbitration_of (logged notes)) (observed_of notes)).0 (none_is _ still.picks) in
    let there : Contains (observed_of notes) seen = (seen_one_by_one rules late notes c slots s seen).1 (ap (option_map (shown_as notes q)) is_open) in
    let zero : (if is_held notes q then 0 else length (waiting (logged notes) queue.region)) ≡ 0 = All-contains (λ (x : Seen). x.count ≡ 0) (observed_of notes) seen idle there in
    by (is_held notes q) refl zero
  where
    by : (b : Bool) → is_held notes q ≡ b → (if b then 0 else length (waiting (logged notes) queue.region)) ≡ 0 → b ≡ true
    by true e none = refl
    by false e none = absurd (omega (arith, none, waits))

pub unfetched_await : UnfetchedAwait
unfetched_await rules late notes c slots depth q queue s still is_open more free =
    let life = s.holds.lives.sqs q queue is_open in
    let counts = s.doorbells.sqs.each q queue.region life in
    let ring = (s.numbers.sqs.each q queue.region life).slots in
    let slots_are = s.holds.tabled.sq_slots queue.region in
    let some : 0 < window_at rules queue.region = omega (arith, more, counts.fits, ring, slots_are) in
    elim (cases_lt (held_in (logged notes) queue.region) (depth queue.region)) [
      | inl less ↦ elim (cases_lt (length (waiting (logged notes) queue.region)) (window_at rules queue.region)) [
        | inl room ↦ absurd (still.fetches q queue is_open more less room)
        | inr full ↦
            let held = waiting_await rules late notes c slots depth q queue s still is_open (omega (arith, some, full)) in
            absurd (true≢false (sym held ∙ free))
      ]
      | inr deep ↦ deep
    ]

pub none_wait_deleted : NoneWaitDeleted
none_wait_deleted rules late notes c slots r s = (
  λ i is. by (s.content.deletion r) refl (sym (s.holds.deletion.place_is r) ∙ is),
  λ closed. (s.holds.regions r).waiting_is ∙ ap (map (λ (d : Candidate). d.index)) (s.holds.queues.gone r closed).none_waits,
)
  where
    by : {i : ℕ} → (o : Option PendingDelete) → s.content.deletion r ≡ o → option_map (λ (d : PendingDelete). d.place.index) (s.content.deletion r) ≡ Some i
        → waiting (logged notes) r ≡ []
    by None none is = let no : None ≡ Some _ = sym (ap (option_map (λ (d : PendingDelete). d.place.index)) none) ∙ is in absurd (cc no)
    by (Some d) some is =
        let p = s.holds.deletion.stands r d some in
        let here : (s.content.sq r).window ≡ [] = subst (λ (x : ℕ). (s.content.sq x).window ≡ []) p.at p.none_waits in
        (s.holds.regions r).waiting_is ∙ ap (map (λ (d : Candidate). d.index)) here

-- ---- places in hand
-- a place of the device's is under a tag
out_tagged : (notes : Notes) (r i : ℕ) (items : List Item) → All (λ (it : Item). holder notes it.tag ≡ Some it.place) items
    → 1 ≤ times_held r i (places_of items) → HasTag notes r i
out_tagged notes r i [] held some = absurd (omega (arith, some))
out_tagged notes r i (it ∷ items) held some =
    by (it.place.region == r && it.place.index == i) refl (out_tagged notes r i items (All-tail (λ (x : Item). holder notes x.tag ≡ Some x.place) it items held))
  where
    by : (b : Bool) → (it.place.region == r && it.place.index == i) ≡ b → (1 ≤ times_held r i (places_of items) → HasTag notes r i) → HasTag notes r i
    by true is rest =
        let parts = and_parts (it.place.region == r) (it.place.index == i) is in
        let same : it.place ≡ place_at r i = λ k. place_at (eqb-true it.place.region r parts.0 k) (eqb-true it.place.index i parts.1 k) in
        record { tag = it.tag; stands = held 0 it (omega arith) ∙ ap Some same }
    by false is rest =
        let sums = sum_by-cons (λ (p : Place). one_if (p.region == r && p.index == i)) it.place (places_of items) in
        rest (omega (arith, some, sums, ap one_if is))

-- a deletion whose Delete is at a place
record IsDeleteAt (deletion : ℕ → Option PendingDelete) (r i : ℕ) : Type 0 where
  region : ℕ
  delete : PendingDelete
  is : deletion region ≡ Some delete
  at_region : delete.place.region ≡ r
  at_index : delete.place.index ≡ i

delete_found : (r i : ℕ) (deletion : ℕ → Option PendingDelete) (n : ℕ) → 1 ≤ times_held r i (held_upto deletion n) → IsDeleteAt deletion r i
unfolding held_upto
delete_found r i deletion zero some = absurd (omega (arith, some))
delete_found r i deletion (suc n) some =
    let split = times_held-append r i (held_upto deletion n) (held_by (deletion n)) in
    elim (cases_lt 0 (times_held r i (held_upto deletion n))) [
      | inl before ↦ delete_found r i deletion n (omega (arith, before))
      | inr none ↦ by (deletion n) refl (omega (arith, split, some, none))
    ]
  where
    by : (o : Option PendingDelete) → deletion n ≡ o → 1 ≤ times_held r i (held_by o) → IsDeleteAt deletion r i
    by None is here = absurd (omega (arith, here))
    by (Some d) is here =
        let parts = and_parts (d.place.region == r) (d.place.index == i) (one_true (d.place.region == r && d.place.index == i) (omega (arith, here, times_held-by r i d))) in
        record { region = n; delete = d; is = is; at_region = eqb-true d.place.region r parts.0; at_index = eqb-true d.place.index i parts.1 }

module _ (rules : FrontRules) (late : Bool) (notes : Notes) (c : Controller) (slots : List Slot) (depth : ℕ → ℕ) (r i : ℕ) (s : StandsAt rules late notes c slots)
    (still : IsStill rules depth notes) (served : is_served (logged notes) r i ≡ true) (unposted : is_posted (logged notes) r i ≡ false) where
  abbrev past : Past
  past = logged notes

  abbrev k : Content
  k = s.content

  -- its region isn't closed
  alive : is_closed_region past r ≡ false
  alive = false_from_ne_true (is_closed_region past r) (λ closed.
      unposted-counts past r i served unposted (sym (s.holds.counts.unposted r) ∙ (s.holds.queues.gone r closed).all_posted))

  -- a command that is through waits for its host
  through_waits : is_through notes r i ≡ true → WaitsForHost rules notes r
  through_waits through = by (k.sq r).queue refl where
    by : (o : Option Attachment) → (k.sq r).queue ≡ o → WaitsForHost rules notes r
    by None none =
        let nothing : fetched past r ≡ [] = (s.holds.regions r).fetched_is ∙ (s.holds.queues.unopened r none).nothing_got in
        let there = ltb-true i (length (fetched past r)) (and_parts (nat_lt i (length (fetched past r))) (not (is_waiting (fate_of past r i))) served).0 in
        absurd (omega (arith, there, ap length nothing))
    by (Some a) is =
        let named : qid_of_region past r ≡ Some a.qid = s.holds.queues.qid_is r ∙ ap (option_map (λ (x : Attachment). x.qid)) is in
        let life = s.holds.lives.there r a.qid named alive in
        let sq = s.numbers.sqs.each a.qid r life in
        let goes_to : cq_region_of past r ≡ Some sq.cq_region = s.holds.queues.cq_region_is r ∙ ap (option_map (λ (x : Attachment). x.cq_region)) sq.opened in
        let is_open : open_cq past (sq_at c.sqs a.qid).cqid ≡ Some sq.cq_region = sym (s.holds.lives.cqs (sq_at c.sqs a.qid).cqid) ∙ sq.cq_open in
        elim (still.posts (sq_at c.sqs a.qid).cqid sq.cq_region is_open) [
          | inl full ↦ record { x = sq.cq_region; goes_to = goes_to; full = full }
          | inr all ↦ absurd (true≢false (sym (all r i goes_to through) ∙ unposted))
        ]

  -- the device took all that was picked for it
  none_untaken : untaken c k s.items ≡ []
  none_untaken =
      let sizes = length-append (taken notes) (places_of (untaken c k s.items)) in
      let mapped = length-map (untaken c k s.items) (λ (it : Item). it.place) in
      length_zero (untaken c k s.items) (omega (arith, sizes, mapped, still.takes, ap length s.tags.untaken_are))

  hand_is_out : k.hand ≡ places_of s.items.outs
  hand_is_out =
      s.has.outs.hand_is ∙ ap (λ (its : List Item). places_of (s.items.outs ++ its)) none_untaken ∙ ap places_of (append-nil s.items.outs)

  -- a command that isn't through is ready nowhere
  not_ready : is_through notes r i ≡ false → times_ready k r i ≡ 0
  not_ready undone = over_none (λ (x : ℕ). times_in r i (k.cq x).ready) k.ncq (λ x lt.
      omega (
        arith,
        sum_by-le (λ (t : Ready). one_if (t.place.region == r && t.place.index == i)) 0 (k.cq x).ready (λ j d m.
            let t : Ready = slice_index_or (k.cq x).ready j d in
            let all : All (IsThrough notes) (k.cq x).ready = All-same (IsThrough notes) (k.cq x).ready (readies_of (s.items.readies x)) (s.has.readies.are x)
            (All-map (IsThrough notes) (λ (y : ReadyItem). y.ready) (s.items.readies x) (s.tags.through x)) in
            counts_none (t.place.region == r && t.place.index == i) (λ e.
            let parts = and_parts (t.place.region == r) (t.place.index == i) e in
            let er = eqb-true t.place.region r parts.0 in
            let ei = eqb-true t.place.index i parts.1 in
            true≢false (sym (done_through notes r i t.place.region t.place.index er ei t (all j d m)) ∙ undone))),
      ))

  -- so the device has it, or it is a Delete
  in_hand : is_through notes r i ≡ false → IsWithDevice notes r i ⊎ WaitsForQueue notes r i
  in_hand undone =
      let once = s.holds.ready.once r i in
      let held : times_held r i (hand_of k) ≡ 1 = omega (arith, once, not_ready undone, posts_of-none past r i unposted, ap one_if served) in
      let parts = times_held-append r i k.hand (held_upto k.deletion k.nsq) in
      elim (cases_lt 0 (times_held r i k.hand)) [
        | inl here ↦
            let out : 1 ≤ times_held r i (places_of s.items.outs) = subst (λ (ps : List Place). 1 ≤ times_held r i ps) hand_is_out here in
            inl (record { has = out_tagged notes r i s.items.outs s.tags.held.outs out; unanswered = none_from (answer_of notes r i) (is_aborted past r i) undone })
        | inr none ↦
            let d = delete_found r i k.deletion k.nsq (omega (arith, held, parts, none)) in
            let pending = s.holds.deletion.stands d.region d.delete d.is in
            let deletes : deleting past d.region ≡ Some i = s.holds.deletion.place_is d.region ∙ ap (option_map (λ (x : PendingDelete). x.place.index)) d.is ∙ ap Some d.at_index in
            inr (record { of_admin = sym d.at_region ∙ pending.of_admin; region = d.region; other = λ e. pending.not_admin (pending.at ∙ e); deletes = deletes; unposted = still.ends d.region i deletes })
      ]

  served_waits : IsWithDevice notes r i ⊎ (WaitsForHost rules notes r ⊎ WaitsForQueue notes r i)
  served_waits = elim (cases_Bool (is_through notes r i)) [
    | inl through ↦ inr (inl (through_waits through))
    | inr undone ↦ elim (in_hand undone) [ inl device ↦ inl device | inr queue ↦ inr (inr queue) ]
  ]

pub served_await : ServedAwait
served_await rules late notes c slots depth r i s still served unposted = served_waits rules late notes c slots depth r i s still served unposted
