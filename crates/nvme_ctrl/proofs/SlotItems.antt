-- What is in slots, where one of them is changed.
use Rattle.std.proofs.Common.{◌≡◌, ◌≢◌, ℕ, zero, suc, ◌-◌, ◌<◌, ◌≤◌, ◌==◌, Bool, true, false, if◌then◌else◌, List, [], ◌∷◌, ◌++◌, length, take, drop, get_or, Option, Some, refl, sym, ap, ◌∙◌, subst, arith, inl, inr}
use Rattle.std.specs.List.{All}
use Rattle.std.proofs.lemmas.Bool.{cases_eq, eq-eqb, ne_eqb}
use Rattle.std.proofs.lemmas.List.Elements.{All-nil, All-cons, All-head, All-tail}
use Rattle.nvme_slots.specs.declared.slot.Slot.{Slot}
use Rattle.nvme_ctrl.specs.kept.Kept.{Item, ReadyItem, IsWaitingIn, IsOutIn, IsReadyIn, ready_state, is_free}
use Rattle.nvme_slots.specs.Pool.{slot_at, item_at, flags_in}

-- ---- lists
-- what follows from two things that hold of all of a list
pub All-both : {X : Type 0} (P Q R : X → Type 0) → ((x : X) → P x → Q x → R x) → (xs : List X) → All P xs → All Q xs → All R xs
All-both P Q R f xs p q k d lt = f (get_or xs k d) (p k d lt) (q k d lt)

-- what holds of all of two lists holds of all of each
pub All-parts : {X : Type 0} (P : X → Type 0) (xs ys : List X) → All P (xs ++ ys) → All P xs × All P ys
All-parts P [] ys h = (All-nil P, h)
All-parts P (x ∷ xs) ys h =
    let rest = All-parts P xs ys (All-tail P x (xs ++ ys) h) in
    (All-cons P x xs (All-head P x (xs ++ ys) h) rest.0, rest.1)

-- something else at one number
pub at_put : {X : Type 0} (P : ℕ → X → Type 0) (f : ℕ → X) (r : ℕ) (s : X) → P r s → ((x : ℕ) → x ≢ r → P x (f x)) → (x : ℕ) → P x (if x == r then s else f x)
at_put P f r s here others x = elim (cases_eq x r) [
  | inl same ↦ subst (λ (n : ℕ). P n (if n == r then s else f n)) (sym same) (rw (eq-eqb r r refl) here)
  | inr other ↦ rw (ne_eqb x r other) (others x other)
]

-- the first n of a list, and the others, where the first one is taken out
pub take_step : {X : Type 0} (n : ℕ) (x : X) (xs : List X) → n ≢ 0 → take n (x ∷ xs) ≡ x ∷ take (n - 1) xs
take_step zero x xs some = absurd (some refl)
take_step (suc n) x xs some = let less : suc n - 1 ≡ n = omega arith in rw less refl

pub drop_step : {X : Type 0} (n : ℕ) (x : X) (xs : List X) → n ≢ 0 → drop n (x ∷ xs) ≡ drop (n - 1) xs
drop_step zero x xs some = absurd (some refl)
drop_step (suc n) x xs some = let less : suc n - 1 ≡ n = omega arith in rw less refl

-- ---- states
-- the state of a command that is ready is one of three
pub ready_state-range : (was_out with_queue : Bool) → (3 ≤ ready_state was_out with_queue) × (ready_state was_out with_queue ≤ 5)
ready_state-range true true = (omega arith, omega arith)
ready_state-range true false = (omega arith, omega arith)
ready_state-range false true = (omega arith, omega arith)
ready_state-range false false = (omega arith, omega arith)

-- slots of different states are different
pub other_state : (slots : List Slot) (x y m n : ℕ) → (slot_at slots x).state ≡ m → (slot_at slots y).state ≡ n → m ≢ n → x ≢ y
other_state slots x y m n is_m is_n differ e = differ (sym is_m ∙ ap (λ (z : ℕ). (slot_at slots z).state) e ∙ is_n)

module _ (slots new : List Slot) (tag : ℕ) (size : length new ≡ length slots) (others : (y : ℕ) → y ≢ tag → item_at new y ≡ item_at slots y) where
  -- the state of another slot is left
  pub same_state : (y n : ℕ) → y ≢ tag → (slot_at slots y).state ≡ n → (slot_at new y).state ≡ n
  same_state y n other h = ap (λ (s : Slot). s.state) (others y other) ∙ h

  -- what waits in another slot is left
  pub waiting_stays : (q r : ℕ) (it : Item) → it.tag ≢ tag → IsWaitingIn slots q r it → IsWaitingIn new q r it
  waiting_stays q r it other h =
      let same = others it.tag other in
      record {
        state = ap (λ (s : Slot). s.state) same ∙ h.state;
        queue = ap (λ (s : Slot). s.sqid) same ∙ h.queue;
        entry = ap (λ (s : Slot). s.entry) same ∙ h.entry;
        place = h.place;
      }

  -- so is what the device has
  pub out_stays : (ids : ℕ → Option ℕ) (it : Item) → it.tag ≢ tag → IsOutIn ids slots it → IsOutIn ids new it
  out_stays ids it other h =
      let same = others it.tag other in
      record {
        inside = subst (λ (n : ℕ). it.tag < n) (sym size) h.inside;
        state = ap (λ (s : Slot). s.state) same ∙ h.state;
        queue = h.queue ∙ sym (ap (λ (s : Slot). Some s.sqid) same);
        entry = ap (λ (s : Slot). s.entry) same ∙ h.entry;
      }

  -- and what is ready
  pub ready_stays : (ids : ℕ → Option ℕ) (x : ReadyItem) → x.tag ≢ tag → IsReadyIn ids slots x → IsReadyIn ids new x
  ready_stays ids x other h =
      let same = others x.tag other in
      record {
        state = ap (λ (s : Slot). s.state) same ∙ h.state;
        queue = h.queue ∙ sym (ap (λ (s : Slot). Some s.sqid) same);
        sqid = ap (λ (s : Slot). s.sqid) same ∙ h.sqid;
        cid = ap (λ (s : Slot). s.entry.cid) same ∙ h.cid;
        sct = ap (λ (s : Slot). s.sct) same ∙ h.sct;
        few_types = subst (λ (n : ℕ). n < 8) (sym (ap (λ (s : Slot). s.sct) same)) h.few_types;
        sc = ap (λ (s : Slot). s.sc) same ∙ h.sc;
        dw0 = ap (λ (s : Slot). s.dw0) same ∙ h.dw0;
        not_both = h.not_both;
        flags = ap flags_in same ∙ h.flags;
      }

  -- a slot that doesn't wait is left by a change to one that does, and so by the states
  pub all_waiting_stay : (q r : ℕ) (its : List Item) → (slot_at slots tag).state ≢ 1 → All (IsWaitingIn slots q r) its → All (IsWaitingIn new q r) its
  all_waiting_stay q r its not h k d lt =
      let it : Item = get_or its k d in
      waiting_stays q r it (λ e. not (ap (λ (y : ℕ). (slot_at slots y).state) (sym e) ∙ (h k d lt).state)) (h k d lt)

  pub all_ready_stay : (ids : ℕ → Option ℕ) (xs : List ReadyItem) → (slot_at slots tag).state ≤ 2 → All (IsReadyIn ids slots) xs → All (IsReadyIn ids new) xs
  all_ready_stay ids xs low h k d lt =
      let x : ReadyItem = get_or xs k d in
      let state = (h k d lt).state in
      let range = (ready_state-range x.was_out x.ready.with_queue).0 in
      ready_stays ids x (λ e. absurd (omega (arith, ap (λ (y : ℕ). (slot_at slots y).state) e, state, range, low))) (h k d lt)

  pub all_free_stay : (ys : List ℕ) → (slot_at slots tag).state ≢ 0 → All (is_free slots) ys → All (is_free new) ys
  all_free_stay ys not h k d lt =
      let y : ℕ = get_or ys k d in
      same_state y 0 (λ e. not (ap (λ (z : ℕ). (slot_at slots z).state) (sym e) ∙ h k d lt)) (h k d lt)
