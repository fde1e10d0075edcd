-- The places that wait in an open queue, by the slots of its window's chain.
use Rattle.std.proofs.Common.{◌≡◌, ℕ, zero, suc, ◌+◌, ◌≤◌, Bool, inl, inr, List, [], ◌∷◌, length, map, drop, Option, Some, None, refl, sym, ap, ◌∙◌, arith}
use Rattle.std.specs.Prelude.{option_map, slice_get}
use Rattle.std.specs.List.{All}
use Rattle.std.proofs.lemmas.Option.{none-some, same_Some, slice_get-map, slice_get_within, slice_get_cases, get_or_from_slice_get}
use Rattle.std.proofs.lemmas.List.Elements.{All-contains}
use Rattle.nvme_log.specs.Rules.{FrontRules, Past}
use Rattle.nvme_log.specs.Queues.{Queue, open_sq}
use Rattle.nvme_log.specs.Places.{entry_at, waiting}
use Rattle.nvme_ctrl_log.specs.Notes.{Notes, logged}
use Rattle.nvme_ctrl_log.specs.Tags.{cookie_of}
use Rattle.nvme_ctrl_log.specs.Waits.{WaitsAt}
use Rattle.nvme_slots.specs.declared.slot.Slot.{Slot}
use Rattle.nvme_ctrl.specs.declared.state.Controller.{Controller}
use Rattle.nvme_ctrl_content.specs.Content.{Candidate}
use Rattle.nvme_ctrl.specs.kept.Kept.{Item, IsWaitingIn, HasCookie, StandsAt, candidate_of, tags_of}
use Rattle.nvme_slots.specs.Pool.{slot_at, IsChain}
use Rattle.nvme_ctrl.specs.kept.State.{sq_at, picked_in}
use Rattle.nvme_ctrl.proofs.FetchCalls.{picked_are, waits}

-- what holds of each holds of the one at a position
all-at : {X : Type 0} (P : X → Type 0) (xs : List X) (n : ℕ) (x : X) → All P xs → slice_get xs n ≡ Some x → P x
all-at P xs n x all is = All-contains P xs x all (n, slice_get_within xs n x is, get_or_from_slice_get xs n x x is)

-- those behind some, by position
get-behind : {X : Type 0} (p : ℕ) (xs : List X) (n : ℕ) → slice_get (drop p xs) n ≡ slice_get xs (p + n)
get-behind zero xs n = ap (slice_get xs) (omega arith)
get-behind (suc p) [] n = refl
get-behind (suc p) (x ∷ xs) n =
    let same : suc p + n ≡ suc (p + n) = omega arith in
    get-behind p xs n ∙ ap (slice_get (x ∷ xs)) (sym same)

-- an item whose slot is at a position
record IsAt (its : List Item) (n tag : ℕ) : Type 0 where
  it : Item
  there : slice_get its n ≡ Some it
  tag_is : it.tag ≡ tag

item-at : (its : List Item) (n tag : ℕ) → Some tag ≡ slice_get (tags_of its) n → IsAt its n tag
item-at its n tag h = by (slice_get its n) refl (h ∙ slice_get-map (λ (it : Item). it.tag) its n) where
  by : (o : Option Item) → slice_get its n ≡ o → Some tag ≡ option_map (λ (it : Item). it.tag) o → IsAt its n tag
  by None is e = absurd (none-some tag (sym e))
  by (Some it) is e = record { it = it; there = is; tag_is = sym (same_Some tag it.tag e) }

module _ (rules : FrontRules) (late : Bool) (notes : Notes) (c : Controller) (slots : List Slot) (s : StandsAt rules late notes c slots)
    (q : ℕ) (queue : Queue) (is_open : open_sq (logged notes) q ≡ Some queue) where
  abbrev past : Past
  past = logged notes

  abbrev r : ℕ
  r = queue.region

  abbrev its : List Item
  its = s.items.windows r

  abbrev p : ℕ
  p = picked_in c q

  life : s.content.sq_life q ≡ Some r
  life = s.holds.lives.sqs q queue is_open

  -- its window's slots are in a chain
  pub waiting_chain : IsChain slots (sq_at c.sqs q).window (tags_of its)
  waiting_chain = s.has.windows.chain q r life

  -- behind those that are picked come those that wait
  window_is : (s.content.sq r).window ≡ map candidate_of (drop p its)
  window_is = s.has.windows.are r ∙ ap (λ (n : ℕ). map candidate_of (drop n its)) (picked_are rules late notes c slots s q r life)

  candidate-at : (n : ℕ) → slice_get (s.content.sq r).window n ≡ option_map candidate_of (slice_get its (p + n))
  candidate-at n =
      ap (λ (cs : List Candidate). slice_get cs n) window_is ∙ slice_get-map candidate_of (drop p its) n
      ∙ ap (option_map candidate_of) (get-behind p its n)

  -- so its place waits, with its entry and its cookie
  pub waits_at : (n tag : ℕ) → Some tag ≡ slice_get (tags_of its) (p + n) → WaitsAt notes q n (slot_at slots tag).entry (slot_at slots tag).cookie
  waits_at n tag h =
      let at = item-at its (p + n) tag h in
      let it = at.it in
      let candidate : slice_get (s.content.sq r).window n ≡ Some (candidate_of it) = candidate-at n ∙ ap (option_map candidate_of) at.there in
      let waiting_in_slot : IsWaitingIn slots q r it = all-at (IsWaitingIn slots q r) its (p + n) it (s.has.windows.items q r life) at.there in
      let entry = all-at (λ (x : Candidate). entry_at past r x.index ≡ Some x.entry) (s.content.sq r).window n (candidate_of it) (s.holds.regions r).entries candidate in
      let cookie = all-at (HasCookie notes slots) its (p + n) it (s.tags.cookies.windows r) at.there in
      record {
        queue = queue;
        is_open = is_open;
        index = it.place.index;
        at = ap (λ (is : List ℕ). slice_get is n) (s.holds.regions r).waiting_is ∙ slice_get-map (λ (x : Candidate). x.index) (s.content.sq r).window n
            ∙ ap (option_map (λ (x : Candidate). x.index)) candidate;
        entry_is = entry ∙ λ t. Some ((sym waiting_in_slot.entry ∙ ap (λ (x : ℕ). (slot_at slots x).entry) at.tag_is) t);
        cookie_is = ap (λ (x : ℕ). cookie_of notes x it.place.index) (sym waiting_in_slot.place) ∙ cookie ∙ ap (λ (x : ℕ). Some (slot_at slots x).cookie) at.tag_is;
      }

  -- where no slot comes there, no more wait
  pub none_at : (n : ℕ) → None ≡ slice_get (tags_of its) (p + n) → length (waiting past r) ≤ n
  none_at n h =
      let beyond : length (tags_of its) ≤ p + n = none_beyond (tags_of its) (p + n) (sym h) in
      let all = waits rules late notes c slots s q r life in
      let len = waiting_chain.len_is in
      omega (arith, beyond, all, len)
    where
      none_beyond : (xs : List ℕ) (k : ℕ) → slice_get xs k ≡ None → length xs ≤ k
      none_beyond xs k is = elim (slice_get_cases xs k).1 [
        | inl some ↦ absurd (none-some some.0 (sym is ∙ some.2))
        | inr none ↦ none.0
      ]
