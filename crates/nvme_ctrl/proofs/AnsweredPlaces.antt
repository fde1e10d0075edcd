-- The device answers a command: its place is none of those of the others.
use Rattle.std.proofs.Common.{◌≡◌, ℕ, ◌<◌, ◌==◌, ◌&&◌, not, nat_lt, Bool, true, false, List, [], ◌∷◌, ◌++◌, length, map, take, drop, Option, Some, None, refl, sym, ap, ◌∙◌, subst, arith, inl, inr}
use Rattle.std.specs.Prelude.{unwrap_or, option_map}
use Rattle.std.specs.List.{All}
use Rattle.std.proofs.lemmas.Bool.{cases_eq, eq-eqb, ne_eqb, eqb-true, ltb-true, and_parts, false_from_ne_true, true≢false}
use Rattle.std.proofs.lemmas.List.{append_assoc, map-append, take-append-drop}
use Rattle.std.proofs.lemmas.List.Elements.{All-nil, All-cons, All-append, All-same, All-drop}
use Rattle.std.proofs.lemmas.List.Sums.{sum_by-cons}
use Rattle.nvme_log.specs.Rules.{FrontRules}
use Rattle.nvme_log.specs.Answers.{Answer}
use Rattle.nvme_log.specs.Places.{fetched, fate_of, is_waiting, one_if}
use Rattle.nvme_log.specs.declared.place.Place.{Place}
use Rattle.nvme_ctrl_log.specs.Notes.{Notes, Answered, logged}
use Rattle.nvme_slots.specs.declared.slot.Slot.{Slot}
use Rattle.nvme_ctrl.specs.declared.state.Controller.{Controller}
use Rattle.nvme_ctrl_content.specs.Content.{Candidate, Ready, Attachment, Content}
use Rattle.nvme_ctrl_content.specs.Standing.{Holds, IsInHand, times_held, held_upto, hand_of}
use Rattle.nvme_ctrl_content.specs.Steps.{done}
use Rattle.nvme_ctrl.specs.kept.Kept.{Item, Items, IsWaitingIn, IsOutIn, IsSqOf, HasNumbers, HasItems, HoldsTags, HasEntry, places_of, candidate_of, untaken, picked_region, picked_of}
use Rattle.nvme_slots.specs.Pool.{slot_at}
use Rattle.nvme_ctrl.specs.kept.State.{picked_in}
use Rattle.nvme_ctrl_content.proofs.AfterSteps.{CanAnswer, after_answer}
use Rattle.nvme_ctrl_content.proofs.OwnStatus.{All-unmap, IsAnswerable, ready_is_answerable, answerable_is_done, candidates_wait}
use Rattle.nvme_ctrl_content.proofs.ReadyHand.{All-taken, times_held-append}
use Rattle.nvme_ctrl_content.proofs.Standing.{holds-answer}
use Rattle.nvme_ctrl.proofs.SlotItems.{All-both, All-parts}
use Rattle.nvme_ctrl_content.proofs.Ordering.{order_answered}
use Rattle.nvme_ctrl_content.specs.Order.{HoldsOrder}

-- ---- other places
-- a place is another than this one
abbrev pub IsOther : ℕ → ℕ → Place → Type 0
IsOther r i q = (r == q.region && i == q.index) ≡ false

pub is_other : (r i : ℕ) (q : Place) → (r ≡ q.region → i ≡ q.index → ⊥) → IsOther r i q
is_other r i q differ = false_from_ne_true (r == q.region && i == q.index) (λ same.
    let parts = and_parts (r == q.region) (i == q.index) same in
    differ (eqb-true r q.region parts.0) (eqb-true i q.index parts.1))

-- places among which this one isn't are others
none_held : (r i : ℕ) (ps : List Place) → times_held r i ps ≡ 0 → All (IsOther r i) ps
none_held r i [] h = All-nil (IsOther r i)
none_held r i (p ∷ ps) h =
    let sums = sum_by-cons (λ (q : Place). one_if (q.region == r && q.index == i)) p ps in
    All-cons (IsOther r i) p ps
    (is_other r i p (λ same_region same_index.
    let here : one_if (p.region == r && p.index == i) ≡ 1 = rw (eq-eqb p.region r (sym same_region), eq-eqb p.index i (sym same_index)) refl in
    absurd (omega (arith, sums, here, h))))
    (none_held r i ps (omega (arith, sums, h)))

-- ---- a command that the device has
module _ (rules : FrontRules) (late : Bool) (notes : Notes) (c : Controller) (slots : List Slot) (k : Content) (g : Items)
    (s : Holds rules late (logged notes) k) (n : HasNumbers c k) (h : HasItems c slots k g) (t : HoldsTags notes c slots k g)
    (before : List Item) (it : Item) (after : List Item) (are : g.outs ≡ before ++ it ∷ after) (answer : Answer) where
  -- the others in hand that are behind it
  abbrev pub behind : List Item
  behind = after ++ untaken c k g

  pub whole : g.outs ++ untaken c k g ≡ before ++ it ∷ behind
  whole = ap (λ (its : List Item). its ++ untaken c k g) are ∙ append_assoc before (it ∷ after) (untaken c k g)

  in_hand : k.hand ≡ places_of before ++ it.place ∷ places_of behind
  in_hand = h.outs.hand_is ∙ ap places_of whole ∙ map-append (λ (y : Item). y.place) before (it ∷ behind)

  pub at_hand : IsInHand (logged notes) it.place
  at_hand = (All-taken (IsInHand (logged notes)) (places_of before) it.place (places_of behind)
      (All-same (IsInHand (logged notes)) (places_of before ++ it.place ∷ places_of behind) k.hand (sym in_hand) s.hand.each)).0

  pub has_entries : HasEntry (logged notes) it × All (HasEntry (logged notes)) (before ++ behind)
  has_entries = All-taken (HasEntry (logged notes)) before it behind
      (All-same (HasEntry (logged notes)) (before ++ it ∷ behind) (g.outs ++ untaken c k g) (sym whole) t.hand_entries)

  -- its slot
  pub has_it : IsOutIn k.sq_id slots it
  has_it = (All-taken (IsOutIn k.sq_id slots) before it after (All-same (IsOutIn k.sq_id slots) (before ++ it ∷ after) g.outs (sym are) h.outs.items)).0

  -- its queue, and the completion region of that
  abbrev pub sqid : ℕ
  sqid = (slot_at slots it.tag).sqid

  life : k.sq_life sqid ≡ Some it.place.region
  life = n.sqs.ids.lives_are it.place.region sqid has_it.queue

  pub queue_is : IsSqOf c k sqid it.place.region
  queue_is = n.sqs.each sqid it.place.region life

  abbrev pub goes_to : ℕ
  goes_to = queue_is.cq_region

  attached : (k.sq it.place.region).queue ≡ Some (record { qid = sqid; cq_region = goes_to })
  attached = queue_is.opened

  can : CanAnswer k it.place (places_of before) (places_of behind) sqid goes_to
  can = record { in_hand = in_hand; attached = attached }

  -- what is kept afterwards
  abbrev pub answered : Content
  answered = after_answer k it.place (places_of before) (places_of behind) sqid goes_to it.entry.cid answer

  pub holds_answered : Holds rules late (logged notes) answered
  holds_answered =
      holds-answer rules late (logged notes) k it.place (places_of before) (places_of behind) sqid goes_to it.entry.cid answer it.entry s can has_entries.0 refl

  -- its completion is the last that is ready
  pub answered-in-order : HoldsOrder notes k → HoldsOrder (Answered it.place.region it.place.index answer ∷ notes) answered
  answered-in-order ordered =
      order_answered notes (record k { hand = places_of before ++ places_of behind }) it.place.region it.place.index goes_to answer (done sqid it.place it.entry.cid answer)
      (s.queues.cq_region_is it.place.region ∙ ap (option_map (λ (a : Attachment). a.cq_region)) attached) refl ordered

  -- its place is ready then
  answerable : IsAnswerable (logged notes) (hand_of answered) it.place.region it.place.index
  answerable =
      (All-taken (λ (y : Ready). IsAnswerable (logged notes) (hand_of answered) y.place.region y.place.index) (k.cq goes_to).ready
      (done sqid it.place it.entry.cid answer) []
      (All-same (λ (y : Ready). IsAnswerable (logged notes) (hand_of answered) y.place.region y.place.index) _ (answered.cq goes_to).ready
      ready_there (ready_is_answerable (logged notes) answered (hand_of answered) holds_answered.ready goes_to))).0
    where
      ready_there : (k.cq goes_to).ready ++ done sqid it.place it.entry.cid answer ∷ [] ≡ (answered.cq goes_to).ready
      ready_there = rw (eq-eqb goes_to goes_to refl) refl

  pub was_fetched : it.place.index < length (fetched (logged notes) it.place.region)
  was_fetched = ltb-true it.place.index (length (fetched (logged notes) it.place.region))
      (and_parts (nat_lt it.place.index (length (fetched (logged notes) it.place.region))) (not (is_waiting (fate_of (logged notes) it.place.region it.place.index))) answerable.served).0

  -- ---- the others
  -- those in hand
  others_in_hand : All (λ (y : Item). IsOther it.place.region it.place.index y.place) (before ++ behind)
  others_in_hand =
      let held = times_held-append it.place.region it.place.index (places_of before ++ places_of behind) (held_upto k.deletion k.nsq) in
      All-unmap (IsOther it.place.region it.place.index) (λ (y : Item). y.place) (before ++ behind)
      (All-same (IsOther it.place.region it.place.index) (places_of (before ++ behind)) (places_of before ++ places_of behind) (map-append (λ (y : Item). y.place) before behind)
      (none_held it.place.region it.place.index (places_of before ++ places_of behind) (omega (arith, held, answerable.not_held))))

  parts : All (λ (y : Item). IsOther it.place.region it.place.index y.place) (before ++ after) × All (λ (y : Item). IsOther it.place.region it.place.index y.place) (untaken c k g)
  parts = All-parts (λ (y : Item). IsOther it.place.region it.place.index y.place) (before ++ after) (untaken c k g)
      (All-same (λ (y : Item). IsOther it.place.region it.place.index y.place) (before ++ after ++ untaken c k g) (before ++ behind) (append_assoc before after (untaken c k g)) others_in_hand)

  pub others_out : All (λ (y : Item). IsOther it.place.region it.place.index y.place) (before ++ after)
  others_out = parts.0

  -- those that wait
  waiting_is_other : (r : ℕ) (y : Item) → is_waiting (fate_of (logged notes) r y.place.index) ≡ true → y.place.region ≡ r → IsOther it.place.region it.place.index y.place
  waiting_is_other r y waits own = is_other it.place.region it.place.index y.place (λ same_region same_index.
      let served : is_waiting (fate_of (logged notes) it.place.region it.place.index) ≡ false = answerable_is_done (logged notes) (hand_of answered) it.place.region it.place.index answerable in
      let both : is_waiting (fate_of (logged notes) it.place.region it.place.index) ≡ is_waiting (fate_of (logged notes) r y.place.index) =
      (λ j. is_waiting (fate_of (logged notes) ((same_region ∙ own) j) (same_index j))) in
      true≢false (sym waits ∙ sym both ∙ served))

  -- in the window of a queue, those behind the picked ones wait
  others_waiting : (q r : ℕ) → k.sq_id r ≡ Some q → All (λ (y : Item). IsOther it.place.region it.place.index y.place) (drop (picked_in c q) (g.windows r))
  others_waiting q r id =
      All-both (λ (y : Item). is_waiting (fate_of (logged notes) r y.place.index) ≡ true) (IsWaitingIn slots q r) (λ (y : Item). IsOther it.place.region it.place.index y.place)
      (λ y waits waiting. waiting_is_other r y waits waiting.place) (drop (picked_in c q) (g.windows r))
      (All-unmap (λ (d : Candidate). is_waiting (fate_of (logged notes) r d.index) ≡ true) candidate_of (drop (picked_in c q) (g.windows r))
      (All-same (λ (d : Candidate). is_waiting (fate_of (logged notes) r d.index) ≡ true) (map candidate_of (drop (picked_in c q) (g.windows r))) (k.sq r).window
      (sym (h.windows.are r ∙ ap (λ (o : Option ℕ). map candidate_of (drop (picked_of c o) (g.windows r))) id)) (candidates_wait (logged notes) r (k.sq r) (s.regions r))))
      (All-drop (IsWaitingIn slots q r) (picked_in c q) (g.windows r) (h.windows.items q r (n.sqs.ids.lives_are r q id)))

  -- those that are picked and not taken
  others_picked : (q r : ℕ) → k.sq_id r ≡ Some q → All (λ (y : Item). IsOther it.place.region it.place.index y.place) (take (picked_in c q) (g.windows r))
  others_picked q r id = elim (cases_eq q c.picked_qid) [
    | inl same ↦
        let number : picked_in c q ≡ c.picked = rw (eq-eqb q c.picked_qid same) refl in
        let region : picked_region c k ≡ r = ap (λ (p : ℕ). unwrap_or (k.sq_life p) 0) (sym same) ∙ ap (λ (o : Option ℕ). unwrap_or o 0) (n.sqs.ids.lives_are r q id) in
        subst (λ (m : ℕ). All (λ (y : Item). IsOther it.place.region it.place.index y.place) (take m (g.windows r))) (sym number)
        (subst (λ (z : ℕ). All (λ (y : Item). IsOther it.place.region it.place.index y.place) (take c.picked (g.windows z))) region parts.1)
    | inr other ↦
        let number : picked_in c q ≡ 0 = rw (ne_eqb q c.picked_qid other) refl in
        subst (λ (m : ℕ). All (λ (y : Item). IsOther it.place.region it.place.index y.place) (take m (g.windows r))) (sym number)
        (All-nil (λ (y : Item). IsOther it.place.region it.place.index y.place))
  ]

  -- a region without a queue has no window
  pub others_in_windows : (r : ℕ) → All (λ (y : Item). IsOther it.place.region it.place.index y.place) (g.windows r)
  others_in_windows r = by (k.sq_id r) refl where
    by : (o : Option ℕ) → k.sq_id r ≡ o → All (λ (y : Item). IsOther it.place.region it.place.index y.place) (g.windows r)
    by None id = All-same (λ (y : Item). IsOther it.place.region it.place.index y.place) (g.windows r) [] (h.windows.none r id)
        (All-nil (λ (y : Item). IsOther it.place.region it.place.index y.place))
    by (Some q) id = All-same (λ (y : Item). IsOther it.place.region it.place.index y.place) (g.windows r)
        (take (picked_in c q) (g.windows r) ++ drop (picked_in c q) (g.windows r)) (sym (take-append-drop (picked_in c q) (g.windows r)))
        (All-append (λ (y : Item). IsOther it.place.region it.place.index y.place) (take (picked_in c q) (g.windows r)) (drop (picked_in c q) (g.windows r))
        (others_picked q r id) (others_waiting q r id))
