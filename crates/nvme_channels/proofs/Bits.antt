-- Marks of places, a bit each in words of 64 bits.
use Rattle.std.proofs.Common.{◌≡◌, ◌∙◌, ℕ, zero, suc, ◌+◌, ◌-◌, ◌*◌, ◌/◌, ◌%◌, ◌^◌, ◌<◌, ◌≤◌, ◌≢◌, ◌==◌, Bool, true, false, not, nat_lt, cond, List, ◌∷◌, length, get_or, set, take, drop, Option, Some, None, replicate, inl, inr, sym, ap, refl, arith}
use Rattle.std.specs.Prelude.{map, option_map, position, slice_range, if◌then◌else◌}
use Rattle.std.specs.Int.{bit_at, w64, trailing_zeros}
use Rattle.std.specs.List.{position_or_len}
use Rattle.std.proofs.lemmas.Bool.{cases_eq, cases_lt, le-ltb}
use Rattle.std.proofs.lemmas.Bool.Decides.{nat_tests}
use Rattle.std.proofs.lemmas.List.{ext_get_or, get_or-set_other, get_or-set_same, length-map, length-set, map-set, take_all, get_or-replicate, length-replicate}
use Rattle.std.proofs.lemmas.List.FromFn.{get_or-map-range_with_len, length-map-range_with_len}
use Rattle.std.proofs.lemmas.List.Quantifiers.{position-Some}
use Rattle.std.proofs.lemmas.List.Recursion.{is_position_or_len}
use Rattle.std.proofs.lemmas.List.Sums.{position_or_len_is}
use Rattle.std.proofs.lemmas.Nat.Bits.{bit_at-trailing_zeros, bit_at-zero, bit_at_ones}
use Rattle.nvme_channels.specs.declared.channel.Channel.{Channel}
use Rattle.nvme_channels.specs.declared.placement.Reach.{Reach}
use Rattle.nvme_channels.specs.Channel.{is_idle}
use Rattle.nvme_channels.specs.Devices.{idle_in}
use Rattle.nvme_channels.specs.inside.Words.{IsLowest, SetsBit, is_marked, marks_in}
use Rattle.nvme_channels.proofs.Idle.{none_passes}

pub length_marks : (count : ℕ) (words : List ℕ) → length (marks_in count words) ≡ count
unfolding marks_in
length_marks count words = length-map-range_with_len (is_marked words) 0 count

pub mark_at : (count : ℕ) (words : List ℕ) (k : ℕ) → k < count → get_or (marks_in count words) k false ≡ is_marked words k
unfolding marks_in
mark_at count words k l = get_or-map-range_with_len (is_marked words) 0 count k k false l (omega arith)

-- a bit of a word set or cleared
sets : (words : List ℕ) (place : ℕ) (on : Bool) (word : ℕ) → place / 64 < length words → SetsBit (get_or words (place / 64) 0) (place % 64) on word
    → is_marked (set words (place / 64) word) place ≡ on
sets words place on word l s = rw (get_or-set_same words (place / 64) word 0 l, s.this) (by on)
  where
    by : (b : Bool) → ((if b then 1 else 0) == 1) ≡ b
    by true = refl
    by false = refl

keeps : (words : List ℕ) (place k : ℕ) (on : Bool) (word : ℕ) → place / 64 < length words → k ≢ place → SetsBit (get_or words (place / 64) 0) (place % 64) on word
    → is_marked (set words (place / 64) word) k ≡ is_marked words k
keeps words place k on word l ne s = elim (cases_eq (k / 64) (place / 64)) [
  | inl e ↦
      let other : k % 64 ≢ place % 64 = λ same. ne (omega (arith, e, same)) in
      rw (e, get_or-set_same words (place / 64) word 0 l, s.others (k % 64) (omega arith) other) refl
  | inr apart ↦ rw (get_or-set_other words (place / 64) (k / 64) word 0 apart) refl
]

pub marks_set : (count : ℕ) (words : List ℕ) (place : ℕ) (on : Bool) (word : ℕ) → count ≤ 64 * length words → place < count
    → SetsBit (get_or words (place / 64) 0) (place % 64) on word → marks_in count (set words (place / 64) word) ≡ set (marks_in count words) place on
marks_set count words place on word covered l s =
    ext_get_or false (marks_in count (set words (place / 64) word)) (set (marks_in count words) place on)
    (length_marks count (set words (place / 64) word) ∙ sym (length-set (marks_in count words) place on ∙ length_marks count words))
    (λ k m. at k (omega (arith, m, length_marks count (set words (place / 64) word))))
  where
    within : place / 64 < length words
    within = omega (arith, covered, l)

    at : (k : ℕ) → k < count → get_or (marks_in count (set words (place / 64) word)) k false ≡ get_or (set (marks_in count words) place on) k false
    at k m = mark_at count (set words (place / 64) word) k m ∙ elim (cases_eq k place) [
      | inl e ↦
          let there : place < length (marks_in count words) = omega (arith, l, length_marks count words) in
          rw (e, get_or-set_same (marks_in count words) place on false there) (sets words place on word within s)
      | inr ne ↦ rw (get_or-set_other (marks_in count words) place k on false ne, mark_at count words k m) (keeps words place k on word within ne s)
    ]

-- the first place that is marked, by a place below which none is and which is marked where it is one of them
pub first_mark : (count : ℕ) (words : List ℕ) (n : ℕ) → ((k : ℕ) → k < n → is_marked words k ≡ false) → (n < count → is_marked words n ≡ true)
    → position (λ b. b) (marks_in count words) ≡ cond (nat_lt n count) (Some n) None
first_mark count words n none marked = elim (cases_lt n count) [
  | inl l ↦
      let is : position_or_len (λ b. b) (marks_in count words) ≡ n =
      position_or_len_is (λ (b : Bool). b) (marks_in count words) n false (omega (arith, l, length_marks count words))
      (λ k m. mark_at count words k (omega (arith, m, l)) ∙ none k m) (λ m. mark_at count words n l ∙ marked l) in
      rw (is, length_marks count words) refl
  | inr g ↦
      let is : position_or_len (λ b. b) (marks_in count words) ≡ count =
      position_or_len_is (λ (b : Bool). b) (marks_in count words) count false (omega (arith, length_marks count words))
      (λ k m. mark_at count words k m ∙ none k (omega (arith, m, g))) (λ m. absurd (omega (arith, m, length_marks count words))) in
      rw (is, length_marks count words, le-ltb count count (omega arith), le-ltb n count g) refl
]

-- all places are marked in words of ones
pub all_marked : (count n : ℕ) → count ≤ 64 * n → marks_in count (replicate n 0xffff_ffff_ffff_ffff) ≡ replicate count true
all_marked count n covered =
    ext_get_or false (marks_in count (replicate n 0xffff_ffff_ffff_ffff)) (replicate count true)
    (length_marks count (replicate n 0xffff_ffff_ffff_ffff) ∙ sym (length-replicate count true))
    (λ k m. at k (omega (arith, m, length_marks count (replicate n 0xffff_ffff_ffff_ffff))))
  where
    at : (k : ℕ) → k < count → get_or (marks_in count (replicate n 0xffff_ffff_ffff_ffff)) k false ≡ get_or (replicate count true) k false
    at k m =
        let within : k / 64 < n = omega (arith, covered, m) in
        let bit : bit_at 0xffff_ffff_ffff_ffff (k % 64) ≡ 1 = bit_at_ones 64 (k % 64) (omega arith) in
        mark_at count (replicate n 0xffff_ffff_ffff_ffff) k m
        ∙ rw (get_or-replicate {A = ℕ} n (k / 64) 0xffff_ffff_ffff_ffff 0 within, get_or-replicate count k true false m, bit) refl

-- where a word has no bit set
unmarked : (words : List ℕ) (k j : ℕ) → j ≡ k / 64 → get_or words j 0 ≡ 0 → is_marked words k ≡ false
unmarked words k j at none = rw (← at, none, bit_at-zero (k % 64)) refl

is_zero : (n : ℕ) → not (n == 0) ≡ false → n ≡ 0
is_zero n t = grind (arith, nat_tests)

isnt_zero : (n : ℕ) → not (n == 0) ≡ true → 0 < n
isnt_zero n t = grind (arith, nat_tests)

-- the first place that is marked, by the first word with a bit set
pub first_in_none : (count : ℕ) (words : List ℕ) → count ≤ 64 * length words → position (λ w. not (w == 0)) words ≡ None
    → position (λ b. b) (marks_in count words) ≡ None
first_in_none count words covered e =
    first_mark count words (64 * length words)
    (λ k l. unmarked words k (k / 64) refl (is_zero (get_or words (k / 64) 0) (none_passes (λ (w : ℕ). not (w == 0)) words (k / 64) 0 e (omega (arith, l)))))
    (λ l. absurd (omega (arith, l, covered)))
    ∙ (let past : nat_lt (64 * length words) count ≡ false = le-ltb (64 * length words) count covered in rw past refl)

pub lowest_is : (word : ℕ) → word < 2 ^ 64 → 0 < word → IsLowest word (trailing_zeros w64 word)
lowest_is word fits some =
    let bits = bit_at-trailing_zeros w64 word some fits in
    let within = bits.0 in
    record { within = omega (arith, within); is_set = bits.1; none_below = bits.2 }

pub first_in_word : (count : ℕ) (words : List ℕ) (j bit : ℕ) → (0 < get_or words j 0 → IsLowest (get_or words j 0) bit)
    → position (λ w. not (w == 0)) words ≡ Some j → let n = 64 * j + bit in position (λ b. b) (marks_in count words) ≡ cond (nat_lt n count) (Some n) None
first_in_word count words j bit is_lowest e = first_mark count words (64 * j + bit) none (λ l. marked)
  where
    first : (j < length words) × (not (get_or words j 0 == 0) ≡ true) × ((k : ℕ) → k < j → not (get_or words k 0 == 0) ≡ false)
    first = position-Some (λ (w : ℕ). not (w == 0)) words j 0 e

    lowest : IsLowest (get_or words j 0) bit
    lowest = is_lowest (isnt_zero (get_or words j 0) first.1)

    none : (k : ℕ) → k < 64 * j + bit → is_marked words k ≡ false
    none k l = elim (cases_lt (k / 64) j) [
      | inl before ↦ unmarked words k (k / 64) refl (is_zero (get_or words (k / 64) 0) (first.2 (k / 64) before))
      | inr from ↦
          let here : k / 64 ≡ j = omega (arith, l, from, lowest.within) in
          let below : k % 64 < bit = omega (arith, l, here) in
          rw (here, lowest.none_below (k % 64) below) refl
    ]

    marked : is_marked words (64 * j + bit) ≡ true
    marked =
        let place : (64 * j + bit) / 64 ≡ j = omega (arith, lowest.within) in
        let low : (64 * j + bit) % 64 ≡ bit = omega (arith, lowest.within) in
        rw (place, low, lowest.is_set) refl

-- ---- marks of the channels that are idle
pub none_busy : (count : ℕ) (c : Channel) → map is_idle (replicate count c) ≡ replicate count (is_idle c)
none_busy zero c = refl
none_busy (suc count) c = ap (λ bs. is_idle c ∷ bs) (none_busy count c)

pub idle_put : (channels : List Channel) (k : ℕ) (c : Channel) (before marks : List Bool) → before ≡ map is_idle channels → marks ≡ set before k (is_idle c)
    → marks ≡ map is_idle (set channels k c)
idle_put channels k c before marks was is = is ∙ ap (λ m. set m k (is_idle c)) was ∙ sym (map-set is_idle channels k c)

first_is : (channels : List Channel) → position_or_len (λ b. b) (map is_idle channels) ≡ position_or_len is_idle channels
first_is = is_position_or_len (λ (cs : List Channel). position_or_len (λ b. b) (map is_idle cs)) is_idle refl (λ c cs. at (is_idle c) (position_or_len (λ b. b) (map is_idle cs)))
  where
    at : (b : Bool) (n : ℕ) → cond (not b) (1 + n) 0 ≡ cond b 0 (1 + n)
    at true n = refl
    at false n = refl

-- of all channels
pub idle_in_all : (channels : List Channel) (r : Reach) (marks : List Bool) → r.first ≡ 0 → r.end ≡ length channels → marks ≡ map is_idle channels
    → position (λ b. b) marks ≡ idle_in channels r
idle_in_all channels r marks from to is =
    let front : drop r.first channels ≡ channels = rw from refl in
    let whole : slice_range channels r.first r.end ≡ channels = ap (take (r.end - r.first)) front ∙ take_all (r.end - r.first) channels (omega (arith, from, to)) in
    rw (whole, is, length-map channels is_idle, first_is channels) (at (position is_idle channels))
  where
    at : (o : Option ℕ) → o ≡ option_map (λ i. r.first + i) o
    at None = refl
    at (Some k) = let e : k ≡ r.first + k = omega (arith, from) in ap Some e
