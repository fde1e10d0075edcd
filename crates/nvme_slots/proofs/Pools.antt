-- Slots of a pool and the chains that link them: what a change to one slot leaves, and when a chain is left.
use Rattle.std.proofs.Common.{◌≡◌, ◌≢◌, ℕ, ◌<◌, ◌≤◌, ◌==◌, Bool, true, false, if◌then◌else◌, eqb, Some, List, [], ◌∷◌, ◌++◌, length, refl, sym, ap, subst, inl, inr}
use Rattle.std.specs.List.{All, IsDistinct, list_any}
use Rattle.std.proofs.lemmas.Bool.{cases_lt, cases_eq, eqb-true, ne_eqb, or_cases}
use Rattle.std.proofs.lemmas.List.{length-set, get_or-set_same, get_or-set_other, set_past}
use Rattle.std.proofs.lemmas.List.Elements.{All-nil, All-cons, All-head, All-tail, All-append, All-weaker, recursion_from_All}
use Rattle.std.proofs.lemmas.Map.Steps.{length-le_from_distinct_below}
use Rattle.std.proofs.lemmas.Option.{same_Some}
use Rattle.nvme_slots.specs.declared.slot.Slot.{Slot}
use Rattle.nvme_slots.specs.declared.chain.Chain.{Chain}
use Rattle.nvme_slots.specs.Pool.{no_slot, slot_at, item_at, next_at, put_next, put_item, IsNew, AreApart, AreLinked, IsChain, SameLinks, named_in, without_named}

-- ---- slots
-- a link leaves a pool's size
pub length-put_next : (slots : List Slot) (y n : ℕ) → length (put_next slots y n) ≡ length slots
length-put_next slots y n = length-set slots y (record (slot_at slots y) { next = n })

-- something else in a slot leaves it
pub length-put_item : (slots : List Slot) (y : ℕ) (s : Slot) → length (put_item slots y s) ≡ length slots
length-put_item slots y s = length-set slots y (record s { next = next_at slots y })

-- a slot that is linked to another
pub slot_at-put_next_same : (slots : List Slot) (y n : ℕ) → y < length slots → slot_at (put_next slots y n) y ≡ record (slot_at slots y) { next = n }
slot_at-put_next_same slots y n h = get_or-set_same slots y (record (slot_at slots y) { next = n }) no_slot h

-- a link leaves the other slots
pub slot_at-put_next_other : (slots : List Slot) (y n x : ℕ) → x ≢ y → slot_at (put_next slots y n) x ≡ slot_at slots x
slot_at-put_next_other slots y n x h = get_or-set_other slots y x (record (slot_at slots y) { next = n }) no_slot h

-- a slot with something else in it
pub slot_at-put_item_same : (slots : List Slot) (y : ℕ) (s : Slot) → y < length slots → slot_at (put_item slots y s) y ≡ record s { next = next_at slots y }
slot_at-put_item_same slots y s h = get_or-set_same slots y (record s { next = next_at slots y }) no_slot h

-- something else in a slot leaves the other slots
pub slot_at-put_item_other : (slots : List Slot) (y : ℕ) (s : Slot) (x : ℕ) → x ≢ y → slot_at (put_item slots y s) x ≡ slot_at slots x
slot_at-put_item_other slots y s x h = get_or-set_other slots y x (record s { next = next_at slots y }) no_slot h

-- the link of a slot that is linked to another
pub next_at-put_next_same : (slots : List Slot) (y n : ℕ) → y < length slots → next_at (put_next slots y n) y ≡ n
next_at-put_next_same slots y n h = ap (λ (s : Slot). s.next) (slot_at-put_next_same slots y n h)

-- a link leaves those of the other slots
pub next_at-put_next_other : (slots : List Slot) (y n x : ℕ) → x ≢ y → next_at (put_next slots y n) x ≡ next_at slots x
next_at-put_next_other slots y n x h = ap (λ (s : Slot). s.next) (slot_at-put_next_other slots y n x h)

-- what is in a slot after something else was put into it
pub item_at-put_item_same : (slots : List Slot) (y : ℕ) (s : Slot) → y < length slots → item_at (put_item slots y s) y ≡ record s { next = 0 }
item_at-put_item_same slots y s h = ap (λ (t : Slot). record t { next = 0 }) (slot_at-put_item_same slots y s h)

-- what is in the others is left
pub item_at-put_item_other : (slots : List Slot) (y : ℕ) (s : Slot) (x : ℕ) → x ≢ y → item_at (put_item slots y s) x ≡ item_at slots x
item_at-put_item_other slots y s x h = ap (λ (t : Slot). record t { next = 0 }) (slot_at-put_item_other slots y s x h)

-- something else in a slot leaves each link
pub next_at-put_item : (slots : List Slot) (y : ℕ) (s : Slot) (x : ℕ) → next_at (put_item slots y s) x ≡ next_at slots x
next_at-put_item slots y s x = elim (cases_eq x y) [
  | inl same ↦ elim (cases_lt y (length slots)) [
    | inl within ↦ subst (λ (z : ℕ). next_at (put_item slots y s) z ≡ next_at slots z) (sym same)
        (ap (λ (t : Slot). t.next) (slot_at-put_item_same slots y s within))
    | inr past ↦ ap (λ (new : List Slot). next_at new x) (set_past slots y (record s { next = next_at slots y }) past)
  ]
  | inr other ↦ ap (λ (t : Slot). t.next) (slot_at-put_item_other slots y s x other)
]

-- ---- numbers that are apart
-- each number is new to no number
pub IsNew-nil : (x : ℕ) → IsNew x []
IsNew-nil x = All-nil (λ (y : ℕ). y ≢ x)

-- a number is new to one more if the two differ
pub IsNew-cons : (x y : ℕ) (ys : List ℕ) → y ≢ x → IsNew x ys → IsNew x (y ∷ ys)
IsNew-cons x y ys h k = All-cons (λ (z : ℕ). z ≢ x) y ys h k

-- a number that is new differs from the first
pub IsNew-head : (x y : ℕ) (ys : List ℕ) → IsNew x (y ∷ ys) → y ≢ x
IsNew-head x y ys h = All-head (λ (z : ℕ). z ≢ x) y ys h

-- it is new to those behind it
pub IsNew-tail : (x y : ℕ) (ys : List ℕ) → IsNew x (y ∷ ys) → IsNew x ys
IsNew-tail x y ys h = All-tail (λ (z : ℕ). z ≢ x) y ys h

-- a number that is new to two lists is new to both together
pub IsNew-append : (x : ℕ) (xs ys : List ℕ) → IsNew x xs → IsNew x ys → IsNew x (xs ++ ys)
IsNew-append x xs ys h k = All-append (λ (y : ℕ). y ≢ x) xs ys h k

-- what holds of all of two lists holds of all of the first
pub All-left : (P : ℕ → Type 0) (xs ys : List ℕ) → All P (xs ++ ys) → All P xs
All-left P [] ys h = All-nil P
All-left P (x ∷ xs) ys h = All-cons P x xs (All-head P x (xs ++ ys) h) (All-left P xs ys (All-tail P x (xs ++ ys) h))

-- it holds of all of the second
pub All-right : (P : ℕ → Type 0) (xs ys : List ℕ) → All P (xs ++ ys) → All P ys
All-right P [] ys h = h
All-right P (x ∷ xs) ys h = All-right P xs ys (All-tail P x (xs ++ ys) h)

-- a number that is new to two lists is new to the first
pub IsNew-left : (x : ℕ) (xs ys : List ℕ) → IsNew x (xs ++ ys) → IsNew x xs
IsNew-left x xs ys h = All-left (λ (y : ℕ). y ≢ x) xs ys h

-- it is new to the second
pub IsNew-right : (x : ℕ) (xs ys : List ℕ) → IsNew x (xs ++ ys) → IsNew x ys
IsNew-right x xs ys h = All-right (λ (y : ℕ). y ≢ x) xs ys h

-- a number is new where a test holds of all and not of it
pub IsNew-by : (P : ℕ → Type 0) (x : ℕ) (xs : List ℕ) → All P xs → (P x → ⊥) → IsNew x xs
IsNew-by P x xs h not = All-weaker P (λ (y : ℕ). y ≢ x) (λ y p e. not (subst P e p)) xs h

-- all of a list are new to another, and so the other way round
pub IsNew-swap : (xs ys : List ℕ) → All (λ (x : ℕ). IsNew x ys) xs → All (λ (y : ℕ). IsNew y xs) ys
IsNew-swap xs [] h = All-nil (λ (y : ℕ). IsNew y xs)
IsNew-swap xs (y ∷ ys) h =
    All-cons (λ (z : ℕ). IsNew z xs) y ys
    (All-weaker (λ (x : ℕ). IsNew x (y ∷ ys)) (λ (x : ℕ). x ≢ y) (λ x new e. IsNew-head x y ys new (sym e)) xs h)
    (IsNew-swap xs ys (All-weaker (λ (x : ℕ). IsNew x (y ∷ ys)) (λ (x : ℕ). IsNew x ys) (λ x new. IsNew-tail x y ys new) xs h))

-- two lists with no number twice, where none is in both
pub AreApart-append : (xs ys : List ℕ) → AreApart xs → AreApart ys → All (λ (x : ℕ). IsNew x ys) xs → AreApart (xs ++ ys)
AreApart-append [] ys h k across = k
AreApart-append (x ∷ xs) ys h k across =
    (IsNew-append x xs ys h.0 (All-head (λ (z : ℕ). IsNew z ys) x xs across), AreApart-append xs ys h.1 k (All-tail (λ (z : ℕ). IsNew z ys) x xs across))

-- so are the numbers of the first
pub AreApart-left : (xs ys : List ℕ) → AreApart (xs ++ ys) → AreApart xs
AreApart-left [] ys h = tt
AreApart-left (x ∷ xs) ys h = (IsNew-left x xs ys h.0, AreApart-left xs ys h.1)

-- those of the second
pub AreApart-right : (xs ys : List ℕ) → AreApart (xs ++ ys) → AreApart ys
AreApart-right [] ys h = h
AreApart-right (x ∷ xs) ys h = AreApart-right xs ys h.1

-- all of the first are new to the second
pub AreApart-across : (xs ys : List ℕ) → AreApart (xs ++ ys) → All (λ (x : ℕ). IsNew x ys) xs
AreApart-across [] ys h = All-nil (λ (x : ℕ). IsNew x ys)
AreApart-across (x ∷ xs) ys h = All-cons (λ (z : ℕ). IsNew z ys) x xs (IsNew-right x xs ys h.0) (AreApart-across xs ys h.1)

-- one more number, which is new
pub AreApart-push : (xs : List ℕ) (x : ℕ) → AreApart xs → IsNew x xs → AreApart (xs ++ x ∷ [])
AreApart-push xs x h new =
    AreApart-append xs (x ∷ []) h (IsNew-nil x, tt)
    (All-weaker (λ (y : ℕ). y ≢ x) (λ (y : ℕ). IsNew y (x ∷ [])) (λ y other. IsNew-cons y x [] (λ e. other (sym e)) (IsNew-nil y)) xs new)

-- each is new to the others
pub IsNew-others : (before : List ℕ) (x : ℕ) (after : List ℕ) → AreApart (before ++ x ∷ after) → IsNew x (before ++ after)
IsNew-others before x after h =
    IsNew-append x before after
    (All-head (λ (y : ℕ). IsNew y before) x after (IsNew-swap before (x ∷ after) (AreApart-across before (x ∷ after) h)))
    (AreApart-right before (x ∷ after) h).0

-- without one the others are apart
pub AreApart-others : (before : List ℕ) (x : ℕ) (after : List ℕ) → AreApart (before ++ x ∷ after) → AreApart (before ++ after)
AreApart-others before x after h =
    AreApart-append before after (AreApart-left before (x ∷ after) h) (AreApart-right before (x ∷ after) h).1
    (All-weaker (λ (y : ℕ). IsNew y (x ∷ after)) (λ (y : ℕ). IsNew y after) (λ y new. IsNew-tail y x after new)
    before (AreApart-across before (x ∷ after) h))

-- ---- chains
-- a chain's first slot is the first of its list
pub linked-head : (slots : List Slot) (first last x : ℕ) (xs : List ℕ) → AreLinked slots first last (x ∷ xs) → first ≡ x
linked-head slots first last x [] h = h.0
linked-head slots first last x (y ∷ ys) h = h.0

-- the others are linked from it on
pub linked-tail : (slots : List Slot) (first last x : ℕ) (xs : List ℕ) → AreLinked slots first last (x ∷ xs) → AreLinked slots (next_at slots x) last xs
linked-tail slots first last x [] h = tt
linked-tail slots first last x (y ∷ ys) h = h.1

-- what holds of all slots of a chain holds of its last
pub linked-last : (P : ℕ → Type 0) (slots : List Slot) (first last x : ℕ) (xs : List ℕ) → All P (x ∷ xs) → AreLinked slots first last (x ∷ xs) → P last
linked-last P slots first last x [] each h = subst P (sym h.1) (All-head P x [] each)
linked-last P slots first last x (y ∷ ys) each h = linked-last P slots (next_at slots x) last y ys (All-tail P x (y ∷ ys) each) h.1

-- slots with the same links are linked as they were
pub linked-same : (slots new : List Slot) (first last : ℕ) (xs : List ℕ) → All (λ (x : ℕ). next_at new x ≡ next_at slots x) xs
    → AreLinked slots first last xs → AreLinked new first last xs
linked-same slots new first last [] each h = tt
linked-same slots new first last (x ∷ []) each h = h
linked-same slots new first last (x ∷ y ∷ ys) each h = (
  h.0,
  subst (λ (n : ℕ). AreLinked new n last (y ∷ ys)) (sym (All-head (λ (z : ℕ). next_at new z ≡ next_at slots z) x (y ∷ ys) each))
      (linked-same slots new (next_at slots x) last (y ∷ ys) (All-tail (λ (z : ℕ). next_at new z ≡ next_at slots z) x (y ∷ ys) each) h.1),
)

-- a chain is left where the links of its slots are
pub chain-same-links : (slots new : List Slot) (c : Chain) (xs : List ℕ) → IsChain slots c xs → length new ≡ length slots
    → All (λ (x : ℕ). next_at new x ≡ next_at slots x) xs → IsChain new c xs
chain-same-links slots new c xs h size each = record {
  len_is = h.len_is;
  inside = subst (λ (n : ℕ). All (λ (x : ℕ). x < n) xs) (sym size) h.inside;
  apart = h.apart;
  linked = linked-same slots new c.first c.last xs each h.linked;
}

-- so it is where something else was put into a slot
pub chain-put_item : (slots : List Slot) (c : Chain) (xs : List ℕ) (y : ℕ) (s : Slot) → IsChain slots c xs → IsChain (put_item slots y s) c xs
chain-put_item slots c xs y s h = chain-same-links slots (put_item slots y s) c xs h (length-put_item slots y s) (λ k d _. next_at-put_item slots y s _)

-- where links were changed of slots that are none of it
pub chain-other : (slots new : List Slot) (c : Chain) (xs ys : List ℕ) → IsChain slots c xs → SameLinks ys slots new → length new ≡ length slots
    → All (λ (x : ℕ). IsNew x ys) xs → IsChain new c xs
chain-other slots new c xs ys h links size new_to =
    chain-same-links slots new c xs h size (All-weaker (λ (x : ℕ). IsNew x ys) (λ (x : ℕ). next_at new x ≡ next_at slots x) links xs new_to)

-- ---- how many
-- numbers that are apart are distinct
distinct : (xs : List ℕ) → AreApart xs → IsDistinct eqb xs
unfolding IsDistinct
distinct [] h = tt
distinct (x ∷ xs) h =
    (recursion_from_All (λ (y : ℕ). eqb x y ≡ false) xs (All-weaker (λ (y : ℕ). y ≢ x) (λ (y : ℕ). eqb x y ≡ false) (λ y other. ne_eqb x y (λ e. other (sym e))) xs h.0), distinct xs h.1)

-- one of a list of numbers below a limit is below it
any-below : (n : ℕ) (xs : List ℕ) → All (λ (x : ℕ). x < n) xs → (q : ℕ) → list_any (eqb q) xs ≡ true → q < n
any-below n [] each q h = cc h
any-below n (x ∷ xs) each q h = elim (or_cases (eqb q x) (list_any (eqb q) xs) h) [
  | inl here ↦ subst (λ (y : ℕ). y < n) (sym (eqb-true q x here)) (All-head (λ (y : ℕ). y < n) x xs each)
  | inr there ↦ any-below n xs (All-tail (λ (y : ℕ). y < n) x xs each) q there
]

-- numbers below a limit that are apart are no more than it
pub length-apart : (n : ℕ) (xs : List ℕ) → AreApart xs → All (λ (x : ℕ). x < n) xs → length xs ≤ n
length-apart n xs h each = length-le_from_distinct_below xs n (distinct xs h) (any-below n xs each)

-- a chain has no more slots than its pool
pub length-chain : (slots : List Slot) (c : Chain) (xs : List ℕ) → IsChain slots c xs → length xs ≤ length slots
length-chain slots c xs h = length-apart (length slots) xs h.apart h.inside

-- ---- one with a name
-- a list of slots with this one, which has the name, among others, and the list without it
pub record PartsAt (slots : List Slot) (cid : ℕ) (xs : List ℕ) (x : ℕ) : Type 0 where
  pub before : List ℕ
  pub behind : List ℕ
  pub has_name : (slot_at slots x).entry.cid ≡ cid
  pub whole : xs ≡ before ++ x ∷ behind
  pub left : without_named slots cid xs ≡ before ++ behind

-- so it is with the oldest that has the name
pub parts : (slots : List Slot) (cid : ℕ) (xs : List ℕ) (x : ℕ) → named_in slots cid xs ≡ Some x → PartsAt slots cid xs x
parts slots cid [] x h = cc h
parts slots cid (y ∷ ys) x h = by ((slot_at slots y).entry.cid == cid) refl h (parts slots cid ys x) where
  by : (b : Bool) → ((slot_at slots y).entry.cid == cid) ≡ b → (if b then Some y else named_in slots cid ys) ≡ Some x
      → (named_in slots cid ys ≡ Some x → PartsAt slots cid ys x) → PartsAt slots cid (y ∷ ys) x
  by true e here later =
      let same : y ≡ x = same_Some y x here in
      record {
        before = [];
        behind = ys;
        has_name = subst (λ (z : ℕ). (slot_at slots z).entry.cid ≡ cid) same (eqb-true ((slot_at slots y).entry.cid) cid e);
        whole = ap (λ (z : ℕ). z ∷ ys) same;
        left = rw e refl;
      }
  by false e there later =
      let rest = later there in
      record {
        before = y ∷ rest.before;
        behind = rest.behind;
        has_name = rest.has_name;
        whole = ap (λ (zs : List ℕ). y ∷ zs) rest.whole;
        left = rw e (ap (λ (zs : List ℕ). y ∷ zs) rest.left);
      }

-- what holds of all holds of the others
pub All-without : (P : ℕ → Type 0) (slots : List Slot) (cid : ℕ) (xs : List ℕ) → All P xs → All P (without_named slots cid xs)
All-without P slots cid [] each = each
All-without P slots cid (x ∷ xs) each = by ((slot_at slots x).entry.cid == cid) (All-without P slots cid xs (All-tail P x xs each)) where
  by : (t : Bool) → All P (without_named slots cid xs) → All P (if t then xs else x ∷ without_named slots cid xs)
  by true rest = All-tail P x xs each
  by false rest = All-cons P x (without_named slots cid xs) (All-head P x xs each) rest

-- the others are apart
pub AreApart-without : (slots : List Slot) (cid : ℕ) (xs : List ℕ) → AreApart xs → AreApart (without_named slots cid xs)
AreApart-without slots cid [] h = tt
AreApart-without slots cid (x ∷ xs) h = by ((slot_at slots x).entry.cid == cid) (AreApart-without slots cid xs h.1) where
  by : (t : Bool) → AreApart (without_named slots cid xs) → AreApart (if t then xs else x ∷ without_named slots cid xs)
  by true rest = h.1
  by false rest = (All-without (λ (y : ℕ). y ≢ x) slots cid xs h.0, rest)
