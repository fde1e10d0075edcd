-- The bytes of a completion queue entry with its flags.
use Rattle.std.proofs.Common.{◌≡◌, ℕ, zero, suc, ◌+◌, ◌*◌, ◌/◌, ◌%◌, ◌<◌, ◌≤◌, ◌==◌, Bool, true, false, if◌then◌else◌, List, length, slice_index, refl, sym, ap, ◌∙◌, arith}
use Rattle.std.specs.Prelude.{slice_set}
use Rattle.std.proofs.lemmas.List.{get_or-set_same, get_or-set_other, length-set, set-set, set-get_or}
use Rattle.nvme_entry.specs.Bits.{bits_of, bytes_at, dword}
use Rattle.nvme_entry.specs.Completion.{IsCompletionEntry}
use Rattle.nvme_entry.specs.declared.completion.Cqe.{Cqe}
use Rattle.nvme_ctrl_log.specs.declared.status_flags.StatusFlags.{StatusFlags}
use Rattle.nvme_capi.specs.Controllers.{IsFlaggedEntry, flags_by, flags_number}

-- a number in bytes that are left
left : (n p : ℕ) (xs ys : List ℕ) → ((k : ℕ) → k < 15 → slice_index xs k ≡ slice_index ys k) → p + n ≤ 15 → bytes_at p n xs ≡ bytes_at p n ys
left zero p xs ys same few = refl
left (suc n) p xs ys same few =
    let here : slice_index xs p ≡ slice_index ys p = same p (omega (arith, few)) in
    let rest : bytes_at (suc p) n xs ≡ bytes_at (suc p) n ys = left n (suc p) xs ys same (omega (arith, few)) in
    λ j. here j + 256 * rest j

-- a mark as a bit of its byte
as_bit : (place : ℕ) (mark : Bool) → (if mark then place else 0) ≡ place * (if mark then 1 else 0)
as_bit place true = omega arith
as_bit place false = omega arith

at_most_one : (mark : Bool) → (if mark then 1 else 0) ≤ 1
at_most_one true = omega arith
at_most_one false = omega arith

-- Dword 3 with the flags above it
module _ (x y a b : ℕ) (few : x < 268435456) (one : a ≤ 1) (other : b ≤ 1) (is : y ≡ x + 1073741824 * a + 2147483648 * b) where
  cid_left : bits_of 15 0 x ≡ bits_of 15 0 y
  cid_left = omega (arith, few, one, other, is)

  phase_left : bits_of 16 16 x ≡ bits_of 16 16 y
  phase_left = omega (arith, few, one, other, is)

  sc_left : bits_of 24 17 x ≡ bits_of 24 17 y
  sc_left = omega (arith, few, one, other, is)

  sct_left : bits_of 27 25 x ≡ bits_of 27 25 y
  sct_left = omega (arith, few, one, other, is)

  crd_left : bits_of 29 28 y ≡ 0
  crd_left = omega (arith, few, one, other, is)

  more_is : a ≡ bits_of 30 30 y
  more_is = omega (arith, few, one, other, is)

  do_not_retry_is : b ≡ bits_of 31 31 y
  do_not_retry_is = omega (arith, few, one, other, is)

pub flagged_entry : (plain bytes : List ℕ) (v : ℕ) (flags : StatusFlags) (cqe : Cqe)
    → slice_index plain 12 < 256 → slice_index plain 13 < 256 → slice_index plain 14 < 256 → slice_index plain 15 < 256
    → bytes ≡ slice_set plain 15 v → v ≡ slice_index plain 15 % 16 + (if flags.more then 64 else 0) + (if flags.do_not_retry then 128 else 0)
    → IsCompletionEntry plain cqe → IsFlaggedEntry bytes cqe flags
flagged_entry plain bytes v flags cqe f12 f13 f14 f15 set is h = record {
  whole = size;
  dw0 = h.dw0 ∙ sym (left 4 0 bytes plain same (omega arith));
  reserved = left 4 4 bytes plain same (omega arith) ∙ h.reserved;
  sqhd = h.sqhd ∙ ap (bits_of 15 0) (sym queue);
  sqid = h.sqid ∙ ap (bits_of 31 16) (sym queue);
  cid = h.cid ∙ cid_left x y a b few one other sum;
  phase = h.phase ∙ phase_left x y a b few one other sum;
  sc = h.sc ∙ sc_left x y a b few one other sum;
  sct = h.sct ∙ sct_left x y a b few one other sum;
  crd = crd_left x y a b few one other sum;
  more = more_is x y a b few one other sum;
  do_not_retry = do_not_retry_is x y a b few one other sum;
} where
  x : ℕ
  x = dword 3 plain

  y : ℕ
  y = dword 3 bytes

  a : ℕ
  a = if flags.more then 1 else 0

  b : ℕ
  b = if flags.do_not_retry then 1 else 0

  one : a ≤ 1
  one = at_most_one flags.more

  other : b ≤ 1
  other = at_most_one flags.do_not_retry

  size : length bytes ≡ 16
  size = ap (λ (xs : List ℕ). length xs) set ∙ length-set plain 15 v ∙ h.whole

  same : (k : ℕ) → k < 15 → slice_index bytes k ≡ slice_index plain k
  same k lt = ap (λ (xs : List ℕ). slice_index xs k) set ∙ get_or-set_other plain 15 k v 0 (λ e. omega (arith, e, lt))

  last : slice_index bytes 15 ≡ v
  last = ap (λ (xs : List ℕ). slice_index xs 15) set ∙ get_or-set_same plain 15 v 0 (omega (arith, h.whole))

  queue : dword 2 bytes ≡ dword 2 plain
  queue = left 4 8 bytes plain same (omega arith)

  few : x < 268435456
  few = omega (arith, h.never_set, f12, f13, f14, f15)

  sum : y ≡ x + 1073741824 * a + 2147483648 * b
  sum = omega (arith, few, same 12 (omega arith), same 13 (omega arith), same 14 (omega arith), last, is, as_bit 64 flags.more, as_bit 128 flags.do_not_retry, f12, f13, f14, f15)

-- a bit is its mark in its place
as_mark : (place n : ℕ) → n ≤ 1 → (if n == 1 then place else 0) ≡ place * n
as_mark place zero few = omega arith
as_mark place (suc zero) few = omega arith
as_mark place (suc (suc n)) few = absurd (omega (arith, few))

-- so it is with the entry that bytes hold without their flags
module _ (bytes plain : List ℕ) (f12 : slice_index bytes 12 < 256) (f13 : slice_index bytes 13 < 256) (f14 : slice_index bytes 14 < 256) (f15 : slice_index bytes 15 < 256)
    (whole : length plain ≡ 16) (is : plain ≡ slice_set bytes 15 (slice_index bytes 15 % 64)) where
  abbrev v : ℕ
  v = slice_index bytes 15

  size : length bytes ≡ 16
  size = sym (length-set bytes 15 (v % 64)) ∙ ap (λ (xs : List ℕ). length xs) (sym is) ∙ whole

  same : (k : ℕ) → k < 15 → slice_index plain k ≡ slice_index bytes k
  same k lt = ap (λ (xs : List ℕ). slice_index xs k) is ∙ get_or-set_other bytes 15 k (v % 64) 0 (λ e. omega (arith, e, lt))

  last : slice_index plain 15 ≡ v % 64
  last = ap (λ (xs : List ℕ). slice_index xs 15) is ∙ get_or-set_same bytes 15 (v % 64) 0 (omega (arith, size))

  back : bytes ≡ slice_set plain 15 v
  back = sym (ap (λ (xs : List ℕ). slice_set xs 15 v) is ∙ set-set bytes 15 (v % 64) v ∙ set-get_or bytes 15 0)

  abbrev a : ℕ
  a = bits_of 31 31 (dword 3 bytes)

  abbrev b : ℕ
  b = bits_of 30 30 (dword 3 bytes)

  parts : v % 64 < 16 → v ≡ v % 64 % 16 + 64 * b + 128 * a
  parts few = omega (arith, few, f12, f13, f14, f15)

  more_at : flags_number bytes / 2 ≡ b
  more_at = omega (arith, f12, f13, f14, f15)

  retry_at : flags_number bytes % 2 ≡ a
  retry_at = omega (arith, f12, f13, f14, f15)

  pub unflagged_entry : (cqe : Cqe) → IsCompletionEntry plain cqe → IsFlaggedEntry bytes cqe (flags_by (flags_number bytes))
  unflagged_entry cqe h =
      let low : v % 64 < 16 = omega (arith, h.never_set, same 12 (omega arith), same 13 (omega arith), same 14 (omega arith), last, f12, f13, f14, f15) in
      let few : slice_index plain 15 < 256 = omega (arith, last, low) in
      let more : (if flags_number bytes / 2 == 1 then 64 else 0) ≡ 64 * b = as_mark 64 (flags_number bytes / 2) (omega (arith, more_at)) ∙ ap (λ (n : ℕ). 64 * n) more_at in
      let do_not_retry : (if flags_number bytes % 2 == 1 then 128 else 0) ≡ 128 * a = as_mark 128 (flags_number bytes % 2) (omega arith) ∙ ap (λ (n : ℕ). 128 * n) retry_at in
      flagged_entry plain bytes v (flags_by (flags_number bytes)) cqe
      (omega (arith, same 12 (omega arith), f12)) (omega (arith, same 13 (omega arith), f13)) (omega (arith, same 14 (omega arith), f14)) few
      back (omega (arith, last, parts low, more, do_not_retry)) h
