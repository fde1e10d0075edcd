-- The open queues of a board as they are seen, place by place, and what is found of them by the masks.
use Rattle.std.proofs.Common.{◌≡◌, ◌∙◌, ℕ, zero, suc, ◌+◌, ◌-◌, ◌*◌, ◌/◌, ◌%◌, ◌^◌, ◌<◌, ◌≤◌, ◌==◌, inl, inr, ◌&&◌, min, Bool, true, false, cond, nat_lt, bit_or, List, [], ◌∷◌, ◌++◌, length, set, take, find, refl, sym, ap, subst, arith}
use Rattle.std.specs.Prelude.{◌↔◌, if◌then◌else◌, filter, Option, Some, None, All, MatchOption, IsSomeAnd, is_some, option_map, replicate, slice_index_or}
use Rattle.std.specs.Int.{bit_at, w64, trailing_zeros}
use Rattle.std.proofs.lemmas.Bool.{lt-ltb, le-ltb, cases_eq, cases_lt, cond-true, cond-false, and_from, and_right, eq-eqb, ne_eqb}
use Rattle.std.proofs.lemmas.List.{append-nil, take_all, get_or-set_same, get_or-set_other, get_or_past, length-set, get_or-replicate, length-replicate, ext_get_or}
use Rattle.std.proofs.lemmas.List.Elements.{All-nil, All-cons}
use Rattle.std.proofs.lemmas.List.FromFn.{get_or-map-range_with_len, length-map-range_with_len}
use Rattle.std.proofs.lemmas.List.Kept.{AllPairs-cons}
use Rattle.std.proofs.lemmas.Nat.{pow_pos, shr-shr, shr_split}
use Rattle.std.proofs.lemmas.Nat.Bits.{bit_at-zero, bit_at-trailing_zeros, bit_at_or, bit_at_set_same, bit_at_set_other, bit_at_clear_same, bit_at_clear_other, bit_at_cat_low, bit_at_cat_high}
use Rattle.std.proofs.lemmas.Option.{none-some}
use Rattle.nvme_arbiter.specs.Limits.{highest_qid, highest_count, queue_limit}
use Rattle.nvme_arbiter.specs.Settings.{number_of_class}
use Rattle.nvme_arbiter.specs.declared.pick.Seen.{Seen}
use Rattle.nvme_arbiter.specs.declared.pick.OpenQueue.{OpenQueue}
use Rattle.nvme_arbiter.specs.declared.settings.Class.{Class}
use Rattle.nvme_arbiter.specs.declared.settings.Class.TheVariants.{Admin, Urgent, High, Medium, Low}
use Rattle.nvme_arbiter.specs.declared.queues.QueueFields.{QueueFields}
use Rattle.nvme_arbiter.specs.declared.queues.QueuesFields.{QueuesFields}
use Rattle.nvme_arbiter.specs.Observation.{is_class, is_wanted, IsSeen, IsObservation, class_in}
use Rattle.nvme_arbiter.specs.Queues.{seen_as, seen_from, seen_of, queue_at, FitsUnder, shown}
use Rattle.nvme_arbiter.specs.Layout.{class_under, mask_in, is_marked, waiting_in, open_in, closed, slot_in, slot_at, slots_in}
use Rattle.nvme_arbiter.specs.inside.Masks.{IsLowest, IsFirstFrom, IsWantedAt, KeepsFrom, NoneFrom, with_bit, with_mask, marked_with, mask_for, is_io, passes}
use Rattle.nvme_arbiter.proofs.NextLemmas.{Below}
use Rattle.nvme_arbiter.proofs.Observations.{IsFromOn}

-- ---- bits
-- the bits of a number that is shifted down and up again
pub bit_at_above_of : (mask k i : ℕ) → bit_at (mask / 2 ^ k * 2 ^ k) i ≡ cond (nat_lt i k) 0 (bit_at mask i)
bit_at_above_of mask k i =
    elim (cases_lt i k) [
      | inl l ↦ (let e : mask / 2 ^ k * 2 ^ k ≡ mask / 2 ^ k * 2 ^ k + 0 = omega arith in
          rw (lt-ltb i k l) (ap (λ n. bit_at n i) e ∙ (bit_at_cat_low (mask / 2 ^ k) k 0 i l ∙ bit_at-zero i)))
      | inr g ↦ (let e : mask / 2 ^ k * 2 ^ k ≡ mask / 2 ^ k * 2 ^ k + 0 = omega arith in
          let p : 0 < 2 ^ k = pow_pos k in
          let s : mask / 2 ^ k / 2 ^ (i - k) ≡ mask / 2 ^ i = shr-shr mask k (i - k) ∙ ap (λ n. mask / 2 ^ n) (omega arith) in
          rw (le-ltb i k g) (ap (λ n. bit_at n i) e ∙ (bit_at_cat_high (mask / 2 ^ k) k 0 i p g ∙ ap (λ n. n % 2) s)))
    ]

-- a mask with the bits below one cleared
pub keeps-from : (mask bit : ℕ) → mask < 2 ^ 64 → KeepsFrom mask bit (mask / 2 ^ bit * 2 ^ bit % 2 ^ 64)
keeps-from mask bit h = λ i l.
    let split = shr_split mask bit in
    let x : ℕ = mask / 2 ^ bit * 2 ^ bit in
    let small : x % 2 ^ 64 ≡ x = omega arith in
    ap (λ n. bit_at n i) small ∙ bit_at_above_of mask bit i

-- the lowest bit that is set
pub is-lowest : (mask : ℕ) → 0 < mask → mask < 2 ^ 64 → IsLowest mask (trailing_zeros w64 mask)
is-lowest mask p h =
    let t = bit_at-trailing_zeros w64 mask p h in
    let within = t.0 in
    record { within = omega (arith, within); is_set = t.1; none_below = t.2 }

-- ---- what is seen
pub observed_queues : (i : ℕ) (queues : List (Option OpenQueue)) → ((j n : ℕ) → n ≡ i + j → FitsUnder n (queue_at queues j)) → IsFromOn i (seen_from i queues)
observed_queues i [] f = record { from_on = All-nil (λ s. i ≤ s.qid); observed = record { each = All-nil IsSeen; ascending = λ a b d h k. absurd (omega arith) } }
observed_queues i (None ∷ rest) f =
    let r = observed_queues (i + 1) rest (λ j n e. f (suc j) n (omega arith)) in
    record { from_on = λ k d h. let m = r.from_on k d h in omega arith; observed = r.observed }
observed_queues i (Some o ∷ rest) f =
    let r = observed_queues (i + 1) rest (λ j n e. f (suc j) n (omega arith)) in
    let x : Seen = seen_as i o in
    let here : IsSeen x = f 0 i (omega arith) in
    let higher : All (Below x) (seen_from (i + 1) rest) = λ k d h. let m = r.from_on k d h in omega arith in
    record {
      from_on = All-cons (λ s. i ≤ s.qid) x (seen_from (i + 1) rest) (omega arith) (λ k d h. let m = r.from_on k d h in omega arith);
      observed = record { each = All-cons IsSeen x (seen_from (i + 1) rest) here r.observed.each; ascending = AllPairs-cons Below x (seen_from (i + 1) rest) higher r.observed.ascending };
    }

pub observed_of : (queues : List (Option OpenQueue)) → ((qid : ℕ) → FitsUnder qid (queue_at queues qid)) → IsObservation (seen_of queues)
observed_of queues f = (observed_queues 0 queues (λ j n e. subst (λ m. FitsUnder m (queue_at queues j)) (omega arith) (f j))).observed

-- the first open queue that passes
pub find_first : (p : Seen → Bool) (i n : ℕ) (queues : List (Option OpenQueue)) (k : ℕ) (o : OpenQueue) → n ≡ i + k → queue_at queues k ≡ Some o → p (seen_as n o) ≡ true → ((j m : ℕ) → j < k → m ≡ i + j → passes p m (queue_at queues j) ≡ false) → find p (seen_from i queues) ≡ Some (seen_as n o)
find_first p i n [] k o a e t f = absurd (cc)
find_first p i n (None ∷ rest) zero o a e t f = absurd (cc)
find_first p i n (Some y ∷ rest) zero o a e t f =
    let same : y ≡ o = cc in
    let at : i ≡ n = omega arith in
    let s : seen_as i y ≡ seen_as n o = λ d. seen_as (at d) (same d) in
    cond-true (p (seen_as i y)) _ _ (ap p s ∙ t) ∙ ap Some s
find_first p i n (None ∷ rest) (suc k) o a e t f = find_first p (i + 1) n rest k o (omega arith) e t (λ j m l b. f (suc j) m (omega arith) (omega arith))
find_first p i n (Some y ∷ rest) (suc k) o a e t f =
    cond-false (p (seen_as i y)) _ _ (f 0 i (omega arith) (omega arith)) ∙ find_first p (i + 1) n rest k o (omega arith) e t (λ j m l b. f (suc j) m (omega arith) (omega arith))

pub find_nothing : (p : Seen → Bool) (i : ℕ) (queues : List (Option OpenQueue)) → ((j m : ℕ) → m ≡ i + j → passes p m (queue_at queues j) ≡ false) → find p (seen_from i queues) ≡ None
find_nothing p i [] f = refl
find_nothing p i (None ∷ rest) f = find_nothing p (i + 1) rest (λ j m b. f (suc j) m (omega arith))
find_nothing p i (Some y ∷ rest) f = cond-false (p (seen_as i y)) _ _ (f 0 i (omega arith)) ∙ find_nothing p (i + 1) rest (λ j m b. f (suc j) m (omega arith))

other_qid : (queues : List (Option OpenQueue)) (qid j m : ℕ) → m ≡ j → queue_at queues qid ≡ None → passes (λ s. s.qid == qid) m (queue_at queues j) ≡ false
other_qid queues qid j m b e =
    elim (cases_eq j qid) [
      | inl x ↦ ap (passes (λ s. s.qid == qid) m) (ap (queue_at queues) x ∙ e)
      | inr n ↦ elim (queue_at queues j) as (λ v. passes (λ s. s.qid == qid) m v ≡ false) [ None ↦ refl | Some y ↦ ne_eqb m qid (λ x. n (omega arith)) ]
    ]

find_qid_as : (queues : List (Option OpenQueue)) (qid : ℕ) (v : Option OpenQueue) → queue_at queues qid ≡ v → find (λ s. s.qid == qid) (seen_of queues) ≡ shown queues (Some qid)
find_qid_as queues qid None e = find_nothing (λ s. s.qid == qid) 0 queues (λ j m b. other_qid queues qid j m (omega arith) e) ∙ sym (ap (option_map (seen_as qid)) e)
find_qid_as queues qid (Some o) e =
    find_first (λ s. s.qid == qid) 0 qid queues qid o (omega arith) e (eq-eqb qid qid refl)
    (λ j m l b. elim (queue_at queues j) as (λ v. passes (λ s. s.qid == qid) m v ≡ false) [ None ↦ refl | Some y ↦ ne_eqb m qid (λ x. omega arith) ])
    ∙ sym (ap (option_map (seen_as qid)) e)

-- the open queue of an identifier is the one found under it
pub find_qid : (queues : List (Option OpenQueue)) (qid : ℕ) → find (λ s. s.qid == qid) (seen_of queues) ≡ shown queues (Some qid)
find_qid queues qid = find_qid_as queues qid (queue_at queues qid) refl

-- ---- what is seen, one queue after another
slot_list : ℕ → Option OpenQueue → List Seen
slot_list qid None = []
slot_list qid (Some o) = seen_as qid o ∷ []

seen_take : (i q n : ℕ) (queues : List (Option OpenQueue)) → n ≡ i + q → seen_from i (take (suc q) queues) ≡ seen_from i (take q queues) ++ slot_list n (queue_at queues q)
unfolding slot_list
seen_take i zero n [] e = refl
seen_take i (suc q) n [] e = refl
seen_take i zero n (None ∷ rest) e = refl
seen_take i zero n (Some o ∷ rest) e = let at : i ≡ n = omega arith in λ d. seen_as (at d) o ∷ []
seen_take i (suc q) n (None ∷ rest) e = seen_take (i + 1) q n rest (omega arith)
seen_take i (suc q) n (Some o ∷ rest) e = ap (λ xs. seen_as i o ∷ xs) (seen_take (i + 1) q n rest (omega arith))

pub seen-some : (queues : List (Option OpenQueue)) (q : ℕ) (o : OpenQueue) (xs : List Seen) → queue_at queues q ≡ Some o → xs ≡ seen_of (take q queues) → xs ++ seen_as q o ∷ [] ≡ seen_of (take (q + 1) queues)
unfolding slot_list
seen-some queues q o xs h e =
    ap (λ ys. ys ++ seen_as q o ∷ []) e ∙ (ap (λ v. seen_of (take q queues) ++ slot_list q v) (sym h) ∙ (let more : suc q ≡ q + 1 = omega arith in sym (seen_take 0 q q queues (omega arith)) ∙ ap (λ n. seen_of (take n queues)) more))

pub seen-none : (queues : List (Option OpenQueue)) (q : ℕ) (xs : List Seen) → queue_at queues q ≡ None → xs ≡ seen_of (take q queues) → xs ≡ seen_of (take (q + 1) queues)
unfolding slot_list
seen-none queues q xs h e =
    e ∙ (sym (append-nil (seen_of (take q queues))) ∙ (ap (λ v. seen_of (take q queues) ++ slot_list q v) (sym h) ∙ (let more : suc q ≡ q + 1 = omega arith in sym (seen_take 0 q q queues (omega arith)) ∙ ap (λ n. seen_of (take n queues)) more)))

pub seen-all : (queues : List (Option OpenQueue)) (q : ℕ) (xs : List Seen) → length queues ≤ q → xs ≡ seen_of (take q queues) → xs ≡ seen_of queues
seen-all queues q xs h e = e ∙ ap seen_of (take_all q queues h)

-- the class in which a queue is seen is that under which it is open
class_at_as : (queues : List (Option OpenQueue)) (qid : ℕ) (v : Option OpenQueue) → queue_at queues qid ≡ v → class_in (seen_of queues) qid ≡ option_map (λ o. o.class) v
class_at_as queues qid None e = ap (option_map (λ s. s.class)) (find_qid queues qid ∙ ap (option_map (seen_as qid)) e)
class_at_as queues qid (Some o) e = ap (option_map (λ s. s.class)) (find_qid queues qid ∙ ap (option_map (seen_as qid)) e)

pub class_at : (queues : List (Option OpenQueue)) (qid : ℕ) (v : Option OpenQueue) → v ≡ queue_at queues qid → class_in (seen_of queues) qid ≡ option_map (λ o. o.class) v
class_at queues qid v e = class_at_as queues qid v (sym e)

-- ---- the places of the queues
pub slots-length : (b : QueuesFields) → length (slots_in b) ≡ queue_limit
unfolding slots_in
slots-length b = length-map-range_with_len (slot_at b) 0 queue_limit

-- the queue of a place
pub slot-at : (b : QueuesFields) (q : ℕ) → q < queue_limit → queue_at (slots_in b) q ≡ slot_at b q
unfolding slots_in
slot-at b q l = get_or-map-range_with_len (slot_at b) 0 queue_limit q q None l (omega arith)

-- no queue stands past the last place
pub none-past : (b : QueuesFields) (q : ℕ) → queue_limit ≤ q → queue_at (slots_in b) q ≡ None
none-past b q g = get_or_past (slots_in b) q None (let n = slots-length b in omega arith)

-- ---- each queue can be seen
-- the number of a place with a class
pub number-of : (q n : ℕ) (class : Class) → class_under q n ≡ Some class → n ≡ number_of_class class + 1
number-of q n class h =
    elim (cases_eq q 0) [
      | inl z ↦
          let h0 : (if n == 1 then Some Admin else None) ≡ Some class = rw (eq-eqb q 0 z) at h in
          elim (cases_eq n 1) [
            | inl e ↦ let is : Some Admin ≡ Some class = rw (eq-eqb n 1 e) at h0 in of-class Admin e is
            | inr d ↦ let is : None ≡ Some class = rw (ne_eqb n 1 d) at h0 in absurd (none-some class is)
          ]
      | inr d ↦
          let h1 : (if n == 2 then Some Urgent else (if n == 3 then Some High else (if n == 4 then Some Medium else (if n == 5 then Some Low else None)))) ≡ Some class = rw (ne_eqb q 0 d) at h in
          elim (cases_eq n 2) [
            | inl x ↦ let is : Some Urgent ≡ Some class = rw (eq-eqb n 2 x) at h1 in of-class Urgent x is
            | inr a ↦
                let h2 : (if n == 3 then Some High else (if n == 4 then Some Medium else (if n == 5 then Some Low else None))) ≡ Some class = rw (ne_eqb n 2 a) at h1 in
                elim (cases_eq n 3) [
                  | inl x ↦ let is : Some High ≡ Some class = rw (eq-eqb n 3 x) at h2 in of-class High x is
                  | inr b ↦
                      let h3 : (if n == 4 then Some Medium else (if n == 5 then Some Low else None)) ≡ Some class = rw (ne_eqb n 3 b) at h2 in
                      elim (cases_eq n 4) [
                        | inl x ↦ let is : Some Medium ≡ Some class = rw (eq-eqb n 4 x) at h3 in of-class Medium x is
                        | inr f ↦
                            let h4 : (if n == 5 then Some Low else None) ≡ Some class = rw (ne_eqb n 4 f) at h3 in
                            elim (cases_eq n 5) [
                              | inl x ↦ let is : Some Low ≡ Some class = rw (eq-eqb n 5 x) at h4 in of-class Low x is
                              | inr g ↦ let is : None ≡ Some class = rw (ne_eqb n 5 g) at h4 in absurd (none-some class is)
                            ]
                      ]
                ]
          ]
    ]
  where
    of-class : (c : Class) → n ≡ number_of_class c + 1 → Some c ≡ Some class → n ≡ number_of_class class + 1
    of-class c e is = let same : c ≡ class = cc in subst (λ k. n ≡ number_of_class k + 1) same e

class-fits : (q n : ℕ) (class : Class) → class_under q n ≡ Some class → (class ≡ Admin) ↔ (q ≡ 0)
class-fits q n class h =
    elim (cases_eq q 0) [
      | inl z ↦
          let h0 : (if n == 1 then Some Admin else None) ≡ Some class = rw (eq-eqb q 0 z) at h in
          elim (cases_eq n 1) [
            | inl e ↦ let is : Some Admin ≡ Some class = rw (eq-eqb n 1 e) at h0 in let same : class ≡ Admin = cc in (λ _. z, λ _. same)
            | inr d ↦ let is : None ≡ Some class = rw (ne_eqb n 1 d) at h0 in absurd (none-some class is)
          ]
      | inr d ↦ (
        λ e.
            let one : n ≡ 1 = number-of q n class h ∙ ap (λ k. number_of_class k + 1) e in
            let h1 : class_under q 1 ≡ Some class = subst (λ m. class_under q m ≡ Some class) one h in
            let is : None ≡ Some class = rw (ne_eqb q 0 d) at h1 in
            absurd (none-some class is),
        λ e. absurd (d e),
      )
    ]

waiting-few : (b : QueuesFields) (q count : ℕ) (class : Class) → waiting_in b q count class ≤ highest_count
waiting-few b q count class = elim (is_marked b q class) as (λ m. (if m then min count highest_count else 0) ≤ highest_count) [ true ↦ omega arith | false ↦ omega arith ]

fit-slot : (b : QueuesFields) (q : ℕ) (f : QueueFields) → q ≤ highest_qid → FitsUnder q (slot_in b q f)
fit-slot b q f l = by_class (class_under q f.class) refl
  where
    by_class : (o : Option Class) → class_under q f.class ≡ o → FitsUnder q (open_in b q f.count o)
    by_class None e = tt
    by_class (Some class) e = record { qid = l; count = waiting-few b q f.count class; admin = class-fits q f.class class e }

pub fits : (b : QueuesFields) (q : ℕ) → FitsUnder q (queue_at (slots_in b) q)
fits b q = elim (cases_lt q queue_limit) [
  | inl l ↦ subst (FitsUnder q) (sym (slot-at b q l)) (fit-slot b q (slice_index_or b.places q closed) (omega arith))
  | inr g ↦ subst (FitsUnder q) (sym (none-past b q g)) tt
]

-- so the queues of a board are an observation, whatever its numbers are
pub observed : (b : QueuesFields) → IsObservation (seen_of (slots_in b))
observed b = observed_of (slots_in b) (fits b)

-- the class of the place of an open queue
open-under : (b : QueuesFields) (q count : ℕ) (o : Option Class) (there : OpenQueue) → open_in b q count o ≡ Some there → o ≡ Some there.class
open-under b q count None there h = absurd (none-some there h)
open-under b q count (Some c) there h = ap (option_map (λ x. x.class)) h

pub class-of-place : (b : QueuesFields) (q : ℕ) (class : Class) → q < queue_limit → IsSomeAnd (queue_at (slots_in b) q) (λ there. there.class ≡ class)
    → class_under q (slice_index_or b.places q closed).class ≡ Some class
class-of-place b q class l h = by_open (queue_at (slots_in b) q) refl h
  where
    by_open : (o : Option OpenQueue) → queue_at (slots_in b) q ≡ o → IsSomeAnd o (λ there. there.class ≡ class) → class_under q (slice_index_or b.places q closed).class ≡ Some class
    by_open None e h = absurd h
    by_open (Some there) e h =
        open-under b q (slice_index_or b.places q closed).count (class_under q (slice_index_or b.places q closed).class) there (sym (slot-at b q l) ∙ e) ∙ ap Some h

-- ---- a place is written
bit-other : (mask bit i : ℕ) (on : Bool) → bit < 64 → i < 64 → (i ≡ bit → ⊥) → bit_at (with_bit mask bit on) i ≡ bit_at mask i
bit-other mask bit i true h k n = bit_at_set_other w64 mask bit h i n
bit-other mask bit i false h k n = bit_at_clear_other w64 mask bit h i k n

-- in one of the four masks, where the bit of another queue stays
bits-set : (masks : List ℕ) (k i bit other : ℕ) (on : Bool) → length masks ≡ 4 → k < 4 → bit < 64 → other < 64 → (other ≡ bit → ⊥)
    → bit_at (slice_index_or (set masks k (with_bit (slice_index_or masks k 0) bit on)) i 0) other ≡ bit_at (slice_index_or masks i 0) other
bits-set masks k i bit other on size few h l n =
    elim (cases_eq i k) [
      | inl e ↦ rw e (ap (λ m. bit_at m other) (get_or-set_same masks k (with_bit (slice_index_or masks k 0) bit on) 0 (omega (arith, size, few)))
          ∙ bit-other (slice_index_or masks k 0) bit other on h l n)
      | inr d ↦ ap (λ m. bit_at m other) (get_or-set_other masks k i (with_bit (slice_index_or masks k 0) bit on) 0 d)
    ]

places-stay : (b : QueuesFields) (qid : ℕ) (class : Class) (on : Bool) → (marked_with b qid class on).places ≡ b.places
places-stay b qid class on = elim (qid == 0) as (λ z. (if z then b else with_mask b class (with_bit (mask_in b class) (qid - 1) on)).places ≡ b.places) [ true ↦ refl | false ↦ by_class class ]
  where
    by_class : (c : Class) → (with_mask b c (with_bit (mask_in b c) (qid - 1) on)).places ≡ b.places
    by_class Admin = refl
    by_class class = refl

-- the bit of another queue stays
bits-other : (b : QueuesFields) (qid j : ℕ) (class c : Class) (on : Bool) → length b.ready ≡ 4 → qid ≤ highest_qid → j ≤ highest_qid → (j ≡ 0 → ⊥) → (j ≡ qid → ⊥)
    → bit_at (mask_in (marked_with b qid class on) c) (j - 1) ≡ bit_at (mask_in b c) (j - 1)
bits-other b qid j class c on size l k io n =
    elim (cases_eq qid 0) [
      | inl z ↦ rw (eq-eqb qid 0 z) refl
      | inr d ↦ rw (ne_eqb qid 0 d) (by_class class c (omega arith) (omega arith) (λ e. n (omega (arith, e))))
    ]
  where
    by_class : (class c : Class) → qid - 1 < 64 → j - 1 < 64 → (j - 1 ≡ qid - 1 → ⊥)
        → bit_at (mask_in (with_mask b class (with_bit (mask_in b class) (qid - 1) on)) c) (j - 1) ≡ bit_at (mask_in b c) (j - 1)
    by_class Admin c h k n = refl
    by_class class Admin h k n = refl
    by_class class c h k n = bits-set b.ready (number_of_class class - 1) (number_of_class c - 1) (qid - 1) (j - 1) on size (omega arith) h k n

-- so what waits in it stays
waiting-other : (b d : QueuesFields) (j count : ℕ) (c : Class) → (c ≡ Admin → j ≡ 0) → (j ≡ 0 → c ≡ Admin)
    → ((j ≡ 0 → ⊥) → bit_at (mask_in d c) (j - 1) ≡ bit_at (mask_in b c) (j - 1)) → waiting_in d j count c ≡ waiting_in b j count c
waiting-other b d j count Admin z io same = refl
waiting-other b d j count Urgent z io same = ap (λ n. if n == 1 then min count highest_count else 0) (same (λ e. let no = io e in cc))
waiting-other b d j count High z io same = ap (λ n. if n == 1 then min count highest_count else 0) (same (λ e. let no = io e in cc))
waiting-other b d j count Medium z io same = ap (λ n. if n == 1 then min count highest_count else 0) (same (λ e. let no = io e in cc))
waiting-other b d j count Low z io same = ap (λ n. if n == 1 then min count highest_count else 0) (same (λ e. let no = io e in cc))

mask-of-places : (b : QueuesFields) (ps : List QueueFields) (c : Class) → mask_in (record b { places = ps }) c ≡ mask_in b c
mask-of-places b ps Admin = refl
mask-of-places b ps class = refl

-- what is written into a place changes no other
abbrev pub written : QueuesFields → ℕ → Class → QueueFields → Bool → QueuesFields
written b qid class f on = marked_with (record b { places = set b.places qid f }) qid class on

slot-other : (b : QueuesFields) (qid j : ℕ) (class : Class) (f : QueueFields) (on : Bool) → length b.ready ≡ 4 → qid ≤ highest_qid → j ≤ highest_qid → (j ≡ qid → ⊥)
    → slot_at (written b qid class f on) j ≡ slot_at b j
slot-other b qid j class f on size l k n =
    let there : slice_index_or (written b qid class f on).places j closed ≡ slice_index_or b.places j closed =
    ap (λ ps. slice_index_or ps j closed) (places-stay (record b { places = set b.places qid f }) qid class on) ∙ get_or-set_other b.places qid j f closed n in
    ap (slot_in (written b qid class f on) j) there ∙ by_class (class_under j (slice_index_or b.places j closed).class) refl
  where
    by_class : (o : Option Class) → class_under j (slice_index_or b.places j closed).class ≡ o
        → open_in (written b qid class f on) j (slice_index_or b.places j closed).count o ≡ open_in b j (slice_index_or b.places j closed).count o
    by_class None e = refl
    by_class (Some c) e =
        let under = class-fits j (slice_index_or b.places j closed).class c e in
        ap (λ w. Some (record { class = c; count = w }))
        (waiting-other b (written b qid class f on) j (slice_index_or b.places j closed).count c under.0 under.1
        (λ io. bits-other (record b { places = set b.places qid f }) qid j class c on size l k io n ∙ ap (λ m. bit_at m (j - 1)) (mask-of-places b (set b.places qid f) c)))

pub slots-written : (b : QueuesFields) (qid : ℕ) (class : Class) (f : QueueFields) (on : Bool) (o : Option OpenQueue) → qid ≤ highest_qid → length b.ready ≡ 4 → length b.places ≡ queue_limit
    → slot_in (written b qid class f on) qid f ≡ o → slots_in (written b qid class f on) ≡ set (slots_in b) qid o
slots-written b qid class f on o l masks size is =
    let new : QueuesFields = written b qid class f on in
    let n = slots-length b in
    let m = slots-length new in
    ext_get_or None (slots_in new) (set (slots_in b) qid o) (m ∙ sym (length-set (slots_in b) qid o ∙ n))
    (λ i lt. elim (cases_eq i qid) [
      | inl e ↦
          let there : slice_index_or new.places qid closed ≡ f = ap (λ ps. slice_index_or ps qid closed) (places-stay (record b { places = set b.places qid f }) qid class on) ∙ get_or-set_same b.places qid f closed (omega (arith, size, l)) in
          let here : queue_at (slots_in new) qid ≡ o = slot-at new qid (omega arith) ∙ ap (slot_in new qid) there ∙ is in
          subst (λ k. queue_at (slots_in new) k ≡ queue_at (set (slots_in b) qid o) k) (sym e)
          (here ∙ sym (get_or-set_same (slots_in b) qid o None (omega (arith, n, l))))
      | inr d ↦
          slot-at new i (omega (arith, lt, m)) ∙ slot-other b qid i class f on masks l (omega (arith, lt, m)) d ∙ sym (slot-at b i (omega (arith, lt, m)))
          ∙ sym (get_or-set_other (slots_in b) qid i o None d)
    ])

-- ---- the place that is written
bit-same : (mask bit : ℕ) (on : Bool) → bit < 64 → (bit_at (with_bit mask bit on) bit == 1) ≡ on
bit-same mask bit true h = ap (λ n. n == 1) (bit_at_set_same w64 mask bit h)
bit-same mask bit false h = ap (λ n. n == 1) (bit_at_clear_same w64 mask bit h)

own-bit : (b : QueuesFields) (qid : ℕ) (class : Class) (on : Bool) → length b.ready ≡ 4 → qid ≤ highest_qid → (class ≡ Admin → ⊥) → (qid ≡ 0 → ⊥) → is_marked (marked_with b qid class on) qid class ≡ on
own-bit b qid class on size l io d = rw (ne_eqb qid 0 d) (by_class class io (omega arith))
  where
    by_class : (c : Class) → (c ≡ Admin → ⊥) → qid - 1 < 64 → is_marked (with_mask b c (with_bit (mask_in b c) (qid - 1) on)) qid c ≡ on
    by_class Admin io h = absurd (io refl)
    by_class c io h =
        ap (λ m. bit_at m (qid - 1) == 1) (get_or-set_same b.ready (number_of_class c - 1) (with_bit (mask_in b c) (qid - 1) on) 0 (omega (arith, size)))
        ∙ bit-same (mask_in b c) (qid - 1) on h

-- what is put waits
put-waits : (b : QueuesFields) (qid count : ℕ) (class : Class) → length b.ready ≡ 4 → IsSeen (seen_as qid (record { class = class; count = count }))
    → waiting_in (marked_with b qid class (nat_lt 0 count)) qid count class ≡ count
put-waits b qid count class size seen =
    elim (cases_eq qid 0) [
      | inl z ↦ rw (seen.admin.1 z) (omega (arith, seen.count))
      | inr d ↦
          let marked = own-bit b qid class (nat_lt 0 count) size seen.qid (λ e. d (seen.admin.0 e)) d in
          ap (λ m. if m then min count highest_count else 0) marked ∙ by_count count seen.count
    ]
  where
    by_count : (n : ℕ) → n ≤ highest_count → (if nat_lt 0 n then min n highest_count else 0) ≡ n
    by_count zero few = refl
    by_count (suc n) few = rw (lt-ltb 0 (suc n) (omega arith)) (omega (arith, few))

-- the class of a place by the number that is written
number-under : (qid : ℕ) (class : Class) (n : ℕ) → (class ≡ Admin) ↔ (qid ≡ 0) → n ≡ number_of_class class → class_under qid (n + 1) ≡ Some class
number-under qid class n admin is =
    rw is (elim (cases_eq qid 0) [
      | inl z ↦ rw (admin.1 z) (rw (eq-eqb qid 0 z) refl)
      | inr d ↦ rw (ne_eqb qid 0 d) (by_class class (λ e. d (admin.0 e)))
    ])
  where
    by_class : (c : Class) → (c ≡ Admin → ⊥)
        → (if (number_of_class c + 1) == 2 then Some Urgent else (if (number_of_class c + 1) == 3 then Some High else (if (number_of_class c + 1) == 4 then Some Medium else (if (number_of_class c + 1) == 5 then Some Low else None)))) ≡ Some c
    by_class Admin io = absurd (io refl)
    by_class Urgent io = refl
    by_class High io = refl
    by_class Medium io = refl
    by_class Low io = refl

pub put-slot : (b : QueuesFields) (qid n count : ℕ) (class : Class) → length b.ready ≡ 4 → IsSeen (seen_as qid (record { class = class; count = count })) → n ≡ number_of_class class
    → slot_in (marked_with b qid class (nat_lt 0 count)) qid (record { class = n + 1; count = count }) ≡ Some (record { class = class; count = count })
put-slot b qid n count class size seen is =
    ap (open_in (marked_with b qid class (nat_lt 0 count)) qid count) (number-under qid class n seen.admin is)
    ∙ ap (λ w. Some (record { class = class; count = w })) (put-waits b qid count class size seen)

pub closed-slot : (b : QueuesFields) (qid : ℕ) → slot_in b qid closed ≡ None
closed-slot b qid = elim (qid == 0) as (λ z. open_in b qid 0 (if z then None else None) ≡ None) [ true ↦ refl | false ↦ refl ]

pub slots-closed : (b : QueuesFields) → b.places ≡ replicate queue_limit closed → slots_in b ≡ replicate queue_limit None
slots-closed b is =
    let none : Option OpenQueue = None in
    let n = slots-length b in
    let m = length-replicate queue_limit none in
    ext_get_or None (slots_in b) (replicate queue_limit None) (n ∙ sym m)
    (λ i lt.
    slot-at b i (omega (arith, lt, n)) ∙ ap (slot_in b i) (ap (λ ps. slice_index_or ps i closed) is ∙ get_or-replicate queue_limit i closed closed (omega (arith, lt, n)))
    ∙ closed-slot b i ∙ sym (get_or-replicate queue_limit i None None (omega (arith, lt, n))))

-- ---- what isn't ready
waits-none : (b : QueuesFields) (j count : ℕ) (c : Class) → (c ≡ Admin → ⊥) → bit_at (mask_in b c) (j - 1) ≡ 0 → waiting_in b j count c ≡ 0
waits-none b j count Admin io h = absurd (io refl)
waits-none b j count class io h = ap (λ n. if n == 1 then min count highest_count else 0) h

-- no bit of all is no bit of each
record NoneOfEach (b : QueuesFields) (i : ℕ) : Type 0 where
  urgent : bit_at (mask_in b Urgent) i ≡ 0
  high : bit_at (mask_in b High) i ≡ 0
  medium : bit_at (mask_in b Medium) i ≡ 0
  low : bit_at (mask_in b Low) i ≡ 0

each : (b : QueuesFields) (i : ℕ) → bit_at (mask_for b None) i ≡ 0 → NoneOfEach b i
each b i h =
    let low = bit_at_or (bit_or (bit_or (mask_in b Urgent) (mask_in b High)) (mask_in b Medium)) (mask_in b Low) i in
    let medium = bit_at_or (bit_or (mask_in b Urgent) (mask_in b High)) (mask_in b Medium) i in
    let high = bit_at_or (mask_in b Urgent) (mask_in b High) i in
    record {
      urgent = omega (arith, h, low, medium, high);
      high = omega (arith, h, low, medium, high);
      medium = omega (arith, h, low, medium);
      low = omega (arith, h, low);
    }

bits-of-none : (b : QueuesFields) (c : Class) (i : ℕ) → bit_at (mask_for b None) i ≡ 0 → bit_at (mask_in b c) i ≡ 0
bits-of-none b Admin i h = bit_at-zero i
bits-of-none b Urgent i h = (each b i h).urgent
bits-of-none b High i h = (each b i h).high
bits-of-none b Medium i h = (each b i h).medium
bits-of-none b Low i h = (each b i h).low

not-wanted : (b : QueuesFields) (wanted : Option Class) (j count : ℕ) (c : Class) → (c ≡ Admin → ⊥) → bit_at (mask_for b wanted) (j - 1) ≡ 0
    → is_wanted wanted (seen_as j (record { class = c; count = waiting_in b j count c })) ≡ false
not-wanted b None j count c io h = ap (λ n. nat_lt 0 n) (waits-none b j count c io (bits-of-none b c (j - 1) h))
not-wanted b (Some w) j count c io h = by_class w c io h
  where
    by_class : (w c : Class) → (c ≡ Admin → ⊥) → bit_at (mask_in b w) (j - 1) ≡ 0 → (is_class w c && nat_lt 0 (waiting_in b j count c)) ≡ false
    by_class w Admin io h = absurd (io refl)
    by_class Admin Urgent io h = refl
    by_class Admin High io h = refl
    by_class Admin Medium io h = refl
    by_class Admin Low io h = refl
    by_class Urgent Urgent io h = ap (λ n. nat_lt 0 n) (waits-none b j count Urgent io h)
    by_class Urgent High io h = refl
    by_class Urgent Medium io h = refl
    by_class Urgent Low io h = refl
    by_class High Urgent io h = refl
    by_class High High io h = ap (λ n. nat_lt 0 n) (waits-none b j count High io h)
    by_class High Medium io h = refl
    by_class High Low io h = refl
    by_class Medium Urgent io h = refl
    by_class Medium High io h = refl
    by_class Medium Medium io h = ap (λ n. nat_lt 0 n) (waits-none b j count Medium io h)
    by_class Medium Low io h = refl
    by_class Low Urgent io h = refl
    by_class Low High io h = refl
    by_class Low Medium io h = refl
    by_class Low Low io h = ap (λ n. nat_lt 0 n) (waits-none b j count Low io h)

-- an I/O queue without its bit isn't ready
pub not-ready : (b : QueuesFields) (wanted : Option Class) (j : ℕ) → 1 ≤ j → j ≤ highest_qid → bit_at (mask_for b wanted) (j - 1) ≡ 0
    → passes (is_wanted wanted) j (queue_at (slots_in b) j) ≡ false
not-ready b wanted j some few h = ap (passes (is_wanted wanted) j) (slot-at b j (omega arith)) ∙ by_class (class_under j (slice_index_or b.places j closed).class) refl
  where
    by_class : (o : Option Class) → class_under j (slice_index_or b.places j closed).class ≡ o → passes (is_wanted wanted) j (open_in b j (slice_index_or b.places j closed).count o) ≡ false
    by_class None e = refl
    by_class (Some c) e =
        let under = class-fits j (slice_index_or b.places j closed).class c e in
        not-wanted b wanted j (slice_index_or b.places j closed).count c (λ a. absurd (omega (arith, some, under.0 a))) h

-- nor is one past the last place
pub past-wanted : (b : QueuesFields) (wanted : Option Class) (j : ℕ) → queue_limit ≤ j → passes (is_wanted wanted) j (queue_at (slots_in b) j) ≡ false
past-wanted b wanted j g = ap (passes (is_wanted wanted) j) (none-past b j g)

-- below the lowest bit from one on no queue is
pub none-below : (b : QueuesFields) (wanted : Option Class) (least kept q : ℕ) → 1 ≤ least → KeepsFrom (mask_for b wanted) (least - 1) kept
    → ((i : ℕ) → i + 1 < q → bit_at kept i ≡ 0) → (j : ℕ) → least ≤ j → j < q → passes (is_wanted wanted) j (queue_at (slots_in b) j) ≡ false
none-below b wanted least kept q some keeps none j from below =
    elim (cases_lt j queue_limit) [
      | inl l ↦
          let bit : bit_at kept (j - 1) ≡ (if nat_lt (j - 1) (least - 1) then 0 else bit_at (mask_for b wanted) (j - 1)) = keeps (j - 1) (omega (arith, l)) in
          let over : nat_lt (j - 1) (least - 1) ≡ false = le-ltb (j - 1) (least - 1) (omega (arith, from)) in
          not-ready b wanted j (omega (arith, some, from)) (omega (arith, l))
          (sym (bit ∙ ap (λ x. if x then 0 else bit_at (mask_for b wanted) (j - 1)) over) ∙ none (j - 1) (omega (arith, some, from, below)))
      | inr g ↦ past-wanted b wanted j g
    ]

-- the queue of the lowest bit from one on is the first, where it is wanted
pub first-of-mask : (b : QueuesFields) (wanted : Option Class) (least kept bit : ℕ) (s : Seen) → 1 ≤ least → least ≤ queue_limit → KeepsFrom (mask_for b wanted) (least - 1) kept
    → IsLowest kept bit → IsWantedAt (slots_in b) wanted (bit + 1) s → IsFirstFrom (slots_in b) wanted least s
first-of-mask b wanted least kept bit s some few keeps low w =
    let qid : s.qid ≡ bit + 1 = ap (λ (x : Seen). x.qid) w.is in
    record {
      from = elim (cases_lt bit (least - 1)) [
        | inl l ↦
            let none : bit_at kept bit ≡ 0 = keeps bit (omega (arith, l, few)) ∙ ap (λ x. if x then 0 else bit_at (mask_for b wanted) bit) (lt-ltb bit (least - 1) l) in
            absurd (omega (arith, none, low.is_set))
        | inr g ↦ omega (arith, g, qid, some)
      ];
      there = subst (λ q. IsWantedAt (slots_in b) wanted q s) (sym qid) w;
      none_before = λ j from below. none-below b wanted least kept (bit + 1) some keeps (λ i l. low.none_below i (omega (arith, l))) j from (omega (arith, below, qid));
    }

-- ---- what is found
pub found : (p : Seen → Bool) (queues : List (Option OpenQueue)) (q : ℕ) (o : OpenQueue) → queue_at queues q ≡ Some o → p (seen_as q o) ≡ true
    → ((j : ℕ) → j < q → passes p j (queue_at queues j) ≡ false) → find p (seen_of queues) ≡ Some (seen_as q o)
found p queues q o e t f = find_first p 0 q queues q o (omega arith) e t (λ j m l a. subst (λ k. passes p k (queue_at queues j) ≡ false) (omega arith) (f j l))

pub nothing : (p : Seen → Bool) (queues : List (Option OpenQueue)) → ((j : ℕ) → passes p j (queue_at queues j) ≡ false) → find p (seen_of queues) ≡ None
nothing p queues f = find_nothing p 0 queues (λ j m a. subst (λ k. passes p k (queue_at queues j) ≡ false) (omega arith) (f j))

-- the first of all, where queue 0 isn't it
pub first-found : (queues : List (Option OpenQueue)) (wanted : Option Class) (r : Option Seen) → passes (is_wanted wanted) 0 (queue_at queues 0) ≡ false
    → MatchOption r (NoneFrom queues wanted 1) (IsFirstFrom queues wanted 1) → r ≡ find (is_wanted wanted) (seen_of queues)
first-found queues wanted None z h =
    sym (nothing (is_wanted wanted) queues (λ j. elim (cases_eq j 0) [
      | inl e ↦ subst (λ k. passes (is_wanted wanted) k (queue_at queues k) ≡ false) (sym e) z
      | inr d ↦ h j (omega arith)
    ]))
first-found queues wanted (Some s) z h =
    ap Some h.there.is ∙ sym (found (is_wanted wanted) queues s.qid h.there.queue h.there.is_open (ap (is_wanted wanted) (sym h.there.is) ∙ h.there.is_wanted)
    (λ j l. elim (cases_eq j 0) [
      | inl e ↦ subst (λ k. passes (is_wanted wanted) k (queue_at queues k) ≡ false) (sym e) z
      | inr d ↦ h.none_before j (omega arith) l
    ]))

-- queue 0 itself, or one that stands alone below none
pub zero-found : (queues : List (Option OpenQueue)) (wanted : Option Class) (s : Seen) → IsWantedAt queues wanted 0 s → Some s ≡ find (is_wanted wanted) (seen_of queues)
zero-found queues wanted s h =
    ap Some h.is ∙ sym (found (is_wanted wanted) queues 0 h.queue h.is_open (ap (is_wanted wanted) (sym h.is) ∙ h.is_wanted) (λ j l. absurd (omega (arith, l))))

-- the first above one
passes-above : (wanted : Option Class) (last j : ℕ) (o : Option OpenQueue) → passes (λ s. is_wanted wanted s && nat_lt last s.qid) j o ≡ (passes (is_wanted wanted) j o && nat_lt last j)
passes-above wanted last j None = refl
passes-above wanted last j (Some o) = refl

not-above : (queues : List (Option OpenQueue)) (wanted : Option Class) (last j : ℕ) → j ≤ last → passes (λ s. is_wanted wanted s && nat_lt last s.qid) j (queue_at queues j) ≡ false
not-above queues wanted last j l =
    passes-above wanted last j (queue_at queues j) ∙ and_right (passes (is_wanted wanted) j (queue_at queues j)) (nat_lt last j) (le-ltb last j l)

above-not : (queues : List (Option OpenQueue)) (wanted : Option Class) (last j : ℕ) → passes (is_wanted wanted) j (queue_at queues j) ≡ false
    → passes (λ s. is_wanted wanted s && nat_lt last s.qid) j (queue_at queues j) ≡ false
above-not queues wanted last j h = passes-above wanted last j (queue_at queues j) ∙ ap (λ b. b && nat_lt last j) h

pub first-above : (queues : List (Option OpenQueue)) (wanted : Option Class) (last : ℕ) (r : Option Seen)
    → MatchOption r (NoneFrom queues wanted (last + 1)) (IsFirstFrom queues wanted (last + 1)) → r ≡ find (λ s. is_wanted wanted s && nat_lt last s.qid) (seen_of queues)
first-above queues wanted last None h =
    sym (nothing (λ s. is_wanted wanted s && nat_lt last s.qid) queues (λ j. elim (cases_lt last j) [
      | inl l ↦ above-not queues wanted last j (h j (omega (arith, l)))
      | inr g ↦ not-above queues wanted last j g
    ]))
first-above queues wanted last (Some s) h =
    ap Some h.there.is ∙ sym (found (λ s. is_wanted wanted s && nat_lt last s.qid) queues s.qid h.there.queue h.there.is_open
    (and_from (is_wanted wanted (seen_as s.qid h.there.queue)) (nat_lt last s.qid) (ap (is_wanted wanted) (sym h.there.is) ∙ h.there.is_wanted) (lt-ltb last s.qid (omega (arith, h.from))))
    (λ j l. elim (cases_lt last j) [
      | inl a ↦ above-not queues wanted last j (h.none_before j (omega (arith, a)) l)
      | inr g ↦ not-above queues wanted last j g
    ]))

-- ---- what isn't ready at a glance
filter-nothing : (p : Seen → Bool) (i : ℕ) (queues : List (Option OpenQueue)) → ((j m : ℕ) → m ≡ i + j → passes p m (queue_at queues j) ≡ false) → filter p (seen_from i queues) ≡ []
filter-nothing p i [] f = refl
filter-nothing p i (None ∷ rest) f = filter-nothing p (i + 1) rest (λ j m b. f (suc j) m (omega arith))
filter-nothing p i (Some y ∷ rest) f = cond-false (p (seen_as i y)) _ _ (f 0 i (omega arith)) ∙ filter-nothing p (i + 1) rest (λ j m b. f (suc j) m (omega arith))

-- no I/O queue is ready without a bit
none-without-bits : (b : QueuesFields) (wanted : Option Class) → ((i : ℕ) → bit_at (mask_for b wanted) i ≡ 0) → passes (is_wanted wanted) 0 (queue_at (slots_in b) 0) ≡ false
    → filter (is_wanted wanted) (seen_of (slots_in b)) ≡ []
none-without-bits b wanted none admin = filter-nothing (is_wanted wanted) 0 (slots_in b) (λ j m e. subst (λ n. passes (is_wanted wanted) n (queue_at (slots_in b) j) ≡ false) (omega (arith, e)) (at j))
  where
    at : (j : ℕ) → passes (is_wanted wanted) j (queue_at (slots_in b) j) ≡ false
    at zero = admin
    at (suc j) = elim (cases_lt (suc j) queue_limit) [
      | inl l ↦ not-ready b wanted (suc j) (omega arith) (omega (arith, l)) (none (suc j - 1))
      | inr g ↦ past-wanted b wanted (suc j) g
    ]

-- the admin queue is of no class of I/O queues
pub admin-other : (b : QueuesFields) (wanted : Option Class) → is_io wanted ≡ true → passes (is_wanted wanted) 0 (queue_at (slots_in b) 0) ≡ false
admin-other b wanted io = ap (passes (is_wanted wanted) 0) (slot-at b 0 (omega arith)) ∙ by_class wanted ((slice_index_or b.places 0 closed).class == 1) io
  where
    by_class : (w : Option Class) (z : Bool) → is_io w ≡ true → passes (is_wanted w) 0 (open_in b 0 (slice_index_or b.places 0 closed).count (if z then Some Admin else None)) ≡ false
    by_class None z io = absurd (cc)
    by_class (Some Admin) z io = absurd (cc)
    by_class (Some Urgent) true io = refl
    by_class (Some High) true io = refl
    by_class (Some Medium) true io = refl
    by_class (Some Low) true io = refl
    by_class (Some Urgent) false io = refl
    by_class (Some High) false io = refl
    by_class (Some Medium) false io = refl
    by_class (Some Low) false io = refl

pub none-of-io : (b : QueuesFields) (wanted : Option Class) → is_io wanted ≡ true → mask_for b wanted ≡ 0 → filter (is_wanted wanted) (seen_of (slots_in b)) ≡ []
none-of-io b wanted io is = none-without-bits b wanted (λ i. ap (λ m. bit_at m i) is ∙ bit_at-zero i) (admin-other b wanted io)

pub none-of-admin : (b : QueuesFields) (wanted : Option Class) → is_io wanted ≡ false → is_some wanted ≡ true → (slice_index_or b.places 0 closed).count ≡ 0
    → filter (is_wanted wanted) (seen_of (slots_in b)) ≡ []
none-of-admin b None io some is = absurd (cc)
none-of-admin b (Some Admin) io some is =
    none-without-bits b (Some Admin) bit_at-zero (ap (passes (is_wanted (Some Admin)) 0) (slot-at b 0 (omega arith)) ∙ (ap (λ n. passes (is_wanted (Some Admin)) 0 (open_in b 0 n under)) is ∙ by_class ((slice_index_or b.places 0 closed).class == 1)))
  where
    under : Option Class
    under = class_under 0 (slice_index_or b.places 0 closed).class

    by_class : (z : Bool) → passes (is_wanted (Some Admin)) 0 (open_in b 0 0 (if z then Some Admin else None)) ≡ false
    by_class true = refl
    by_class false = refl
none-of-admin b (Some Urgent) io some is = absurd (cc)
none-of-admin b (Some High) io some is = absurd (cc)
none-of-admin b (Some Medium) io some is = absurd (cc)
none-of-admin b (Some Low) io some is = absurd (cc)
