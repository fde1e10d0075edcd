-- A pool whose slots are all free: no command waits, all completions are posted, and no queue is being deleted.
use Rattle.std.proofs.Common.{◌≡◌, ℕ, zero, suc, ◌<◌, ◌≤◌, ◌==◌, Bool, true, List, [], ◌∷◌, ◌++◌, length, map, take, drop, sum_by, Option, Some, None, refl, sym, ap, ◌∙◌, arith, inl, inr}
use Rattle.std.specs.Prelude.{option_map}
use Rattle.std.specs.List.{All, list_all}
use Rattle.std.proofs.Math.Seq.{drop-nil}
use Rattle.std.proofs.lemmas.Bool.{cases_eq, cases_lt, and_from, lt-ltb, true_from_ne_false}
use Rattle.std.proofs.lemmas.List.{get_or_past}
use Rattle.std.proofs.lemmas.List.Elements.{All-cons, All-head}
use Rattle.std.proofs.lemmas.List.Folds.{list_all-append}
use Rattle.std.proofs.lemmas.Option.{none-some}
use Rattle.nvme_log.specs.Rules.{FrontRules, Past, upto, sq_regions_of}
use Rattle.nvme_log.specs.Places.{fetched, waiting, one_if}
use Rattle.nvme_log.specs.Completions.{is_posted}
use Rattle.nvme_log.specs.Laws.{count_of}
use Rattle.nvme_log.specs.declared.place.Place.{Place}
use Rattle.nvme_log.proofs.Counting.{count_of-push}
use Rattle.nvme_log.proofs.Posts.{all_below, posts_of-none}
use Rattle.nvme_ctrl_log.specs.Notes.{Notes, logged}
use Rattle.nvme_ctrl.specs.Outlook.{IsAllDone}
use Rattle.nvme_slots.specs.declared.slot.Slot.{Slot}
use Rattle.nvme_ctrl.specs.declared.state.Controller.{Controller}
use Rattle.nvme_ctrl_content.specs.Content.{Candidate, Ready, Content}
use Rattle.nvme_ctrl.specs.kept.Kept.{Item, DeleteItem, Items, IsWaitingIn, IsOutIn, IsReadyIn, StandsAt, candidate_of, deletion_in, is_free, picked_of, picked_region, places_of, readies_of, ready_state, untaken}
use Rattle.nvme_slots.specs.Pool.{IsNew, no_slot, slot_at}
use Rattle.nvme_ctrl_content.specs.Standing.{held_upto, times_held, times_in}
use Rattle.nvme_ctrl.proofs.HeldSlots.{fetches-by, posts-by, fetched_none}
use Rattle.nvme_ctrl_content.proofs.DeletingRegions.{held-none}
use Rattle.nvme_slots.proofs.Pools.{IsNew-by, length-apart, length-chain}
use Rattle.nvme_ctrl_content.proofs.ReadyHand.{times_held-append}
use Rattle.nvme_ctrl_content.proofs.Readying.{over_none}
use Rattle.nvme_ctrl.proofs.SlotItems.{ready_state-range}
use Rattle.nvme_ctrl.proofs.SomeDeleting.{kept_none}
use Rattle.nvme_ctrl_log.proofs.Sums.{sum_same}
use Rattle.nvme_ctrl_content.proofs.Windows.{served-or_window}

-- ---- lists
-- a list has none where what holds of all holds of none
empty_by : {X : Type 0} (P : X → Type 0) (xs : List X) → All P xs → ((x : X) → P x → ⊥) → xs ≡ []
empty_by P [] h never = refl
empty_by P (x ∷ xs) h never = absurd (never x (All-head P x xs h))

abbrev no_items : List Item
no_items = []

take_none : (n : ℕ) → take n no_items ≡ []
take_none zero = refl
take_none (suc n) = refl

-- a test passes on all numbers below n where it passes at each
all_upto : (test : ℕ → Bool) (n : ℕ) → ((i : ℕ) → i < n → test i ≡ true) → list_all test (upto n) ≡ true
all_upto test zero h = refl
all_upto test (suc n) h =
    list_all-append test (upto n) (n ∷ [])
    ∙ and_from (list_all test (upto n)) (list_all test (n ∷ [])) (all_upto test n (λ i lt. h i (omega (arith, lt)))) (and_from (test n) true (h n (omega arith)) refl)

-- and counts them all
all_counted : (test : ℕ → Bool) (n : ℕ) → ((i : ℕ) → i < n → test i ≡ true) → count_of test (upto n) ≡ n
all_counted test zero h = refl
all_counted test (suc n) h =
    let last = ap one_if (h n (omega arith)) in
    omega (arith, count_of-push test (upto n) n, all_counted test n (λ i lt. h i (omega (arith, lt))), last)

module _ (rules : FrontRules) (late : Bool) (notes : Notes) (c : Controller) (slots : List Slot) (s : StandsAt rules late notes c slots) where
  abbrev past : Past
  past = logged notes

  abbrev k : Content
  k = s.content

  abbrev g : Items
  g = s.items

  -- ---- where all slots are free
  module _ (all : c.free.len ≡ length slots) where
    -- no slot has a command: else one more would be apart from the free ones
    free_state : (t : ℕ) → (slot_at slots t).state ≡ 0
    free_state t = elim (cases_lt t (length slots)) [
      | inl inside ↦ elim (cases_eq (slot_at slots t).state 0) [
        | inl free ↦ free
        | inr used ↦ absurd (
            let new : IsNew t g.free = IsNew-by (is_free slots) t g.free s.has.free.items used in
            let few : suc (length g.free) ≤ length slots =
            length-apart (length slots) (t ∷ g.free) (new, s.has.free.chain.apart) (All-cons (λ (x : ℕ). x < length slots) t g.free inside s.has.free.chain.inside) in
            let len = s.has.free.chain.len_is in
            omega (arith, few, len, all))
      ]
      | inr beyond ↦ ap (λ (x : Slot). x.state) (get_or_past slots t no_slot beyond)
    ]

    not_used : (t n : ℕ) → (slot_at slots t).state ≡ n → 0 < n → ⊥
    not_used t n is some = let free = free_state t in omega (arith, free, is, some)

    -- so there is no command
    no_window : (r : ℕ) → g.windows r ≡ []
    no_window r = by (k.sq_id r) refl where
      by : (o : Option ℕ) → k.sq_id r ≡ o → g.windows r ≡ []
      by None none = s.has.windows.none r none
      by (Some q) is =
          empty_by (IsWaitingIn slots q r) (g.windows r) (s.has.windows.items q r (s.numbers.sqs.ids.lives_are r q is)) (λ it w. not_used it.tag 1 w.state (omega arith))

    no_outs : g.outs ≡ []
    no_outs = empty_by (IsOutIn k.sq_id slots) g.outs s.has.outs.items (λ it w. not_used it.tag 2 w.state (omega arith))

    no_readies : (x : ℕ) → g.readies x ≡ []
    no_readies x = empty_by (IsReadyIn k.sq_id slots) (g.readies x) (s.has.readies.items x) (λ y w.
        let range = (ready_state-range y.was_out y.ready.with_queue).0 in not_used y.tag (ready_state y.was_out y.ready.with_queue) w.state (omega (arith, range)))

    no_deletion : (r : ℕ) → k.deletion r ≡ None
    no_deletion r = s.has.deletions.are r ∙ by (g.deletes r) refl where
      by : (o : Option DeleteItem) → g.deletes r ≡ o → option_map (deletion_in slots r) o ≡ None
      by None is = refl
      by (Some it) is = absurd (not_used it.tag 6 (s.has.deletions.items r it is).state (omega arith))

    -- none waits
    window_none : (r : ℕ) → (k.sq r).window ≡ []
    window_none r =
        s.has.windows.are r ∙ ap (λ (its : List Item). map candidate_of (drop (picked_of c (k.sq_id r)) its)) (no_window r)
        ∙ ap (λ (its : List Item). map candidate_of its) (drop-nil (picked_of c (k.sq_id r)))

    none_waits : (r : ℕ) → waiting past r ≡ []
    none_waits r = (s.holds.regions r).waiting_is ∙ ap (λ (ws : List Candidate). map (λ (x : Candidate). x.index) ws) (window_none r)

    -- none is in hand
    hand_none : k.hand ≡ []
    hand_none =
        s.has.outs.hand_is ∙ ap (λ (outs : List Item). places_of (outs ++ untaken c k g)) no_outs
        ∙ ap (λ (its : List Item). places_of (take c.picked its)) (no_window (picked_region c k)) ∙ ap places_of (take_none c.picked)

    -- so what was fetched is posted
    posted : (r i : ℕ) → i < length (fetched past r) → is_posted past r i ≡ true
    posted r i within = true_from_ne_false (is_posted past r i) (λ unposted.
        let none_ready = over_none (λ (y : ℕ). times_in r i (k.cq y).ready) k.ncq (λ y lt. ap (λ (ts : List Ready). times_in r i ts) (s.has.readies.are y ∙ ap readies_of (no_readies y))) in
        let none_held : times_held r i k.hand ≡ 0 = ap (λ (ps : List Place). times_held r i ps) hand_none in
        let none_deletes = held-none r i k.deletion k.nsq (λ x d e. absurd (none-some d (sym (no_deletion x) ∙ e))) in
        let none_in_window : sum_by (λ (z : Candidate). one_if (z.index == i)) (k.sq r).window ≡ 0 =
        ap (λ (ws : List Candidate). sum_by (λ (z : Candidate). one_if (z.index == i)) ws) (window_none r) in
        omega (
          arith,
          s.holds.ready.once r i,
          none_ready,
          posts_of-none past r i unposted,
          times_held-append r i k.hand (held_upto k.deletion k.nsq),
          none_held,
          none_deletes,
          served-or_window past r (k.sq r) (s.holds.regions r) i,
          none_in_window,
          ap one_if (lt-ltb i (length (fetched past r)) within),
        ))

    pub all_done : IsAllDone past
    all_done = record {
      none_waits = none_waits;
      all_posted = λ r. all_upto (λ (i : ℕ). is_posted past r i) (length (fetched past r)) (posted r);
      none_deleting = kept_none rules late notes c slots s no_deletion;
    }

  -- ---- where all is done
  -- as much was posted as was fetched, so all slots are free
  pub all_free : IsAllDone past → c.free.len ≡ length slots
  all_free d =
      let number : ℕ = length (sq_regions_of rules) in
      let fetches = fetches-by past number (fetched_none rules late past k s.holds) in
      let posts = posts-by (λ (r : ℕ). length (fetched past r)) number past in
      let same = sum_same (λ (r : ℕ). length (fetched past r)) (λ (r : ℕ). count_of (λ (i : ℕ). is_posted past r i) (upto (length (fetched past r)))) number
      (λ r lt. all_counted (λ (i : ℕ). is_posted past r i) (length (fetched past r)) (all_below (λ (i : ℕ). is_posted past r i) (length (fetched past r)) (d.all_posted r))) in
      let few = length-chain slots c.free g.free s.has.free.chain in
      let len = s.has.free.chain.len_is in
      let count = s.tags.free_count in
      omega (arith, fetches, posts, same, few, len, count)
