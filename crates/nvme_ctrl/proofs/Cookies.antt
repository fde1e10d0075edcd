-- What the caller keeps with commands stays with them.
use Rattle.std.proofs.Common.{◌≡◌, ◌≢◌, ℕ, ◌≤◌, List, length, Some, sym, ap, ◌∙◌, subst, inl, inr}
use Rattle.std.specs.List.{All}
use Rattle.std.proofs.lemmas.Bool.{cases_eq}
use Rattle.std.proofs.lemmas.List.Elements.{All-weaker}
use Rattle.nvme_entry.specs.declared.submission.Sqe.{Sqe}
use Rattle.nvme_log.specs.Places.{fetched}
use Rattle.nvme_log.specs.declared.place.Place.{Place}
use Rattle.nvme_ctrl_log.specs.Notes.{Notes, logged}
use Rattle.nvme_ctrl_log.specs.Tags.{cookie_of}
use Rattle.nvme_slots.specs.declared.slot.Slot.{Slot}
use Rattle.nvme_ctrl.specs.kept.Kept.{Item, ReadyItem, Items, IsCookie, HasCookie, HasReadyCookie, HoldsCookies}
use Rattle.nvme_slots.specs.Pool.{slot_at, item_at, SameItems}

-- each slot has the cookie that it had
abbrev pub SameCookies : (slots pool : List Slot) → Type 0
SameCookies slots pool = (y : ℕ) → (slot_at pool y).cookie ≡ (slot_at slots y).cookie

-- where what is in each slot is left
pub same_cookies : (slots pool : List Slot) → SameItems slots pool → SameCookies slots pool
same_cookies slots pool same y = ap (λ (s : Slot). s.cookie) (same.items y)

-- where what is in each other slot is left
pub same_cookies-but : (slots pool : List Slot) (tag : ℕ) → ((y : ℕ) → y ≢ tag → item_at pool y ≡ item_at slots y) → (slot_at pool tag).cookie ≡ (slot_at slots tag).cookie
    → SameCookies slots pool
same_cookies-but slots pool tag others here y = elim (cases_eq y tag) [
  | inl same ↦ subst (λ (z : ℕ). (slot_at pool z).cookie ≡ (slot_at slots z).cookie) (sym same) here
  | inr other ↦ ap (λ (s : Slot). s.cookie) (others y other)
]

module _ (notes : Notes) (slots pool : List Slot) (same : SameCookies slots pool) where
  pub cookie_left : (tag : ℕ) (p : Place) → IsCookie notes slots tag p → IsCookie notes pool tag p
  cookie_left tag p h = h ∙ ap (λ (n : ℕ). Some n) (sym (same tag))

  pub items_left : (its : List Item) → All (HasCookie notes slots) its → All (HasCookie notes pool) its
  items_left its = All-weaker (HasCookie notes slots) (HasCookie notes pool) (λ it. cookie_left it.tag it.place) its

  pub readies_left : (ys : List ReadyItem) → All (HasReadyCookie notes slots) ys → All (HasReadyCookie notes pool) ys
  readies_left ys = All-weaker (HasReadyCookie notes slots) (HasReadyCookie notes pool) (λ y. cookie_left y.tag y.ready.place) ys

-- other notes, which keep the same and fetch nothing
pub cookies_later : (notes later : Notes) (slots : List Slot) (g : Items) → ((r i : ℕ) → cookie_of later r i ≡ cookie_of notes r i)
    → ((r : ℕ) → fetched (logged later) r ≡ fetched (logged notes) r) → HoldsCookies notes slots g → HoldsCookies later slots g
cookies_later notes later slots g same fetches h = record {
  windows = λ r. All-weaker (HasCookie notes slots) (HasCookie later slots) (λ it is. same it.place.region it.place.index ∙ is) (g.windows r) (h.windows r);
  outs = All-weaker (HasCookie notes slots) (HasCookie later slots) (λ it is. same it.place.region it.place.index ∙ is) g.outs h.outs;
  readies = λ x. All-weaker (HasReadyCookie notes slots) (HasReadyCookie later slots) (λ y is. same y.ready.place.region y.ready.place.index ∙ is) (g.readies x) (h.readies x);
  deletes = λ r it is. same 0 it.index ∙ h.deletes r it is;
  none = λ r i past. same r i ∙ h.none r i (subst (λ (xs : List Sqe). length xs ≤ i) (fetches r) past);
}
