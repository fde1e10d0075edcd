-- The layouts are exact: bytes give one entry, and an entry has one list of bytes.
use Rattle.std.proofs.Common.{◌≡◌, ℕ, zero, suc, ◌+◌, ◌<◌, ◌≤◌, List, sym, ap, ◌∙◌, arith, slice_index, ⊎_elim, inl, inr}
use Rattle.std.proofs.lemmas.List.{ext_get_or}
use Rattle.std.proofs.lemmas.Bool.{cases_lt}
use Rattle.byteorder.specs.Endian.{little_from}
use Rattle.byteorder.specs.Numbers.{little_from-lt}
use Rattle.nvme_entry.specs.Bits.{AreBytes, bits_of, dword}
use Rattle.nvme_entry.specs.Completion.{IsCompletionEntry}
use Rattle.nvme_entry.specs.Submission.{IsSubmissionEntry}
use Rattle.nvme_entry.specs.declared.completion.Cqe.{Cqe}
use Rattle.nvme_entry.specs.declared.submission.Sqe.{Sqe}

-- bytes that give one number are the same
pub bytes_are : (n p : ℕ) (xs ys : List ℕ) → AreBytes xs → AreBytes ys → little_from p n xs ≡ little_from p n ys
    → (k : ℕ) → p ≤ k → k < p + n → slice_index xs k ≡ slice_index ys k
bytes_are zero p xs ys bx by e k low high = absurd (omega arith)
bytes_are (suc n) p xs ys bx by e k low high =
    let x_byte : slice_index xs p < 256 = bx p in
    let y_byte : slice_index ys p < 256 = by p in
    let here : slice_index xs p ≡ slice_index ys p = omega arith in
    let rest : little_from (suc p) n xs ≡ little_from (suc p) n ys = omega arith in
    elim (cases_lt p k) [
      | inl above ↦ bytes_are n (suc p) xs ys bx by rest k (omega arith) (omega arith)
      | inr below ↦ let same : k ≡ p = omega arith in ap (λ (j : ℕ). slice_index xs j) same ∙ here ∙ ap (λ (j : ℕ). slice_index ys j) (sym same)
    ]

-- the byte at a place of a submission entry is that of its field
pub submission_byte : (xs ys : List ℕ) (entry : Sqe) → AreBytes xs → AreBytes ys → IsSubmissionEntry xs entry → IsSubmissionEntry ys entry
    → (k : ℕ) → k < 64 → slice_index xs k ≡ slice_index ys k
submission_byte xs ys entry bx by hx hy k h =
    ⊎_elim (λ (below : k < 1). bytes_are 1 0 xs ys bx by (sym hx.opcode ∙ hy.opcode) k (omega arith) (omega arith)) (λ (from1 : 1 ≤ k).
    ⊎_elim (λ (below : k < 2). bytes_are 1 1 xs ys bx by (sym hx.flags ∙ hy.flags) k (omega arith) (omega arith)) (λ (from2 : 2 ≤ k).
    ⊎_elim (λ (below : k < 4). bytes_are 2 2 xs ys bx by (sym hx.cid ∙ hy.cid) k (omega arith) (omega arith)) (λ (from4 : 4 ≤ k).
    ⊎_elim (λ (below : k < 8). bytes_are 4 4 xs ys bx by (sym hx.nsid ∙ hy.nsid) k (omega arith) (omega arith)) (λ (from8 : 8 ≤ k).
    ⊎_elim (λ (below : k < 12). bytes_are 4 8 xs ys bx by (sym hx.cdw2 ∙ hy.cdw2) k (omega arith) (omega arith)) (λ (from12 : 12 ≤ k).
    ⊎_elim (λ (below : k < 16). bytes_are 4 12 xs ys bx by (sym hx.cdw3 ∙ hy.cdw3) k (omega arith) (omega arith)) (λ (from16 : 16 ≤ k).
    ⊎_elim (λ (below : k < 24). bytes_are 8 16 xs ys bx by (sym hx.mptr ∙ hy.mptr) k (omega arith) (omega arith)) (λ (from24 : 24 ≤ k).
    ⊎_elim (λ (below : k < 32). bytes_are 8 24 xs ys bx by (sym hx.prp1 ∙ hy.prp1) k (omega arith) (omega arith)) (λ (from32 : 32 ≤ k).
    ⊎_elim (λ (below : k < 40). bytes_are 8 32 xs ys bx by (sym hx.prp2 ∙ hy.prp2) k (omega arith) (omega arith)) (λ (from40 : 40 ≤ k).
    ⊎_elim (λ (below : k < 44). bytes_are 4 40 xs ys bx by (sym hx.cdw10 ∙ hy.cdw10) k (omega arith) (omega arith)) (λ (from44 : 44 ≤ k).
    ⊎_elim (λ (below : k < 48). bytes_are 4 44 xs ys bx by (sym hx.cdw11 ∙ hy.cdw11) k (omega arith) (omega arith)) (λ (from48 : 48 ≤ k).
    ⊎_elim (λ (below : k < 52). bytes_are 4 48 xs ys bx by (sym hx.cdw12 ∙ hy.cdw12) k (omega arith) (omega arith)) (λ (from52 : 52 ≤ k).
    ⊎_elim (λ (below : k < 56). bytes_are 4 52 xs ys bx by (sym hx.cdw13 ∙ hy.cdw13) k (omega arith) (omega arith)) (λ (from56 : 56 ≤ k).
    ⊎_elim (λ (below : k < 60). bytes_are 4 56 xs ys bx by (sym hx.cdw14 ∙ hy.cdw14) k (omega arith) (omega arith)) (λ (from60 : 60 ≤ k).
    bytes_are 4 60 xs ys bx by (sym hx.cdw15 ∙ hy.cdw15) k (omega arith) (omega arith)
    ) (cases_lt k 60)
    ) (cases_lt k 56)
    ) (cases_lt k 52)
    ) (cases_lt k 48)
    ) (cases_lt k 44)
    ) (cases_lt k 40)
    ) (cases_lt k 32)
    ) (cases_lt k 24)
    ) (cases_lt k 16)
    ) (cases_lt k 12)
    ) (cases_lt k 8)
    ) (cases_lt k 4)
    ) (cases_lt k 2)
    ) (cases_lt k 1)

pub one_submission_list : (xs ys : List ℕ) (entry : Sqe) → AreBytes xs → AreBytes ys → IsSubmissionEntry xs entry → IsSubmissionEntry ys entry → xs ≡ ys
one_submission_list xs ys entry bx by hx hy =
    ext_get_or 0 xs ys (hx.whole ∙ sym hy.whole) (λ k h. submission_byte xs ys entry bx by hx hy k (omega (arith, hx.whole)))

-- two dwords of bytes whose fields agree are the same
pub command_dword : (x y : ℕ) → bits_of 15 0 x ≡ bits_of 15 0 y → bits_of 16 16 x ≡ bits_of 16 16 y → bits_of 24 17 x ≡ bits_of 24 17 y
    → bits_of 27 25 x ≡ bits_of 27 25 y → bits_of 31 28 x ≡ 0 → bits_of 31 28 y ≡ 0 → x < 4294967296 → y < 4294967296 → x ≡ y
command_dword x y cid phase sc sct xr yr fx fy = omega arith

pub queue_dword : (x y : ℕ) → bits_of 15 0 x ≡ bits_of 15 0 y → bits_of 31 16 x ≡ bits_of 31 16 y → x < 4294967296 → y < 4294967296 → x ≡ y
queue_dword x y sqhd sqid fx fy = omega arith

pub completion_byte : (xs ys : List ℕ) (entry : Cqe) → AreBytes xs → AreBytes ys → IsCompletionEntry xs entry → IsCompletionEntry ys entry
    → (k : ℕ) → k < 16 → slice_index xs k ≡ slice_index ys k
completion_byte xs ys entry bx by hx hy k h =
    let queue : dword 2 xs ≡ dword 2 ys = queue_dword (dword 2 xs) (dword 2 ys) (sym hx.sqhd ∙ hy.sqhd) (sym hx.sqid ∙ hy.sqid) (little_from-lt 8 4 xs bx) (little_from-lt 8 4 ys by) in
    let command : dword 3 xs ≡ dword 3 ys = command_dword (dword 3 xs) (dword 3 ys) (sym hx.cid ∙ hy.cid) (sym hx.phase ∙ hy.phase) (sym hx.sc ∙ hy.sc) (sym hx.sct ∙ hy.sct) hx.never_set hy.never_set (little_from-lt 12 4 xs bx) (little_from-lt 12 4 ys by) in
    ⊎_elim (λ (below : k < 4). bytes_are 4 0 xs ys bx by (sym hx.dw0 ∙ hy.dw0) k (omega arith) (omega arith)) (λ (from4 : 4 ≤ k).
    ⊎_elim (λ (below : k < 8). bytes_are 4 4 xs ys bx by (hx.reserved ∙ sym hy.reserved) k (omega arith) (omega arith)) (λ (from8 : 8 ≤ k).
    ⊎_elim (λ (below : k < 12). bytes_are 4 8 xs ys bx by queue k (omega arith) (omega arith)) (λ (from12 : 12 ≤ k).
    bytes_are 4 12 xs ys bx by command k (omega arith) (omega arith)
    ) (cases_lt k 12)
    ) (cases_lt k 8)
    ) (cases_lt k 4)

pub one_completion_list : (xs ys : List ℕ) (entry : Cqe) → AreBytes xs → AreBytes ys → IsCompletionEntry xs entry → IsCompletionEntry ys entry → xs ≡ ys
one_completion_list xs ys entry bx by hx hy =
    ext_get_or 0 xs ys (hx.whole ∙ sym hy.whole) (λ k h. completion_byte xs ys entry bx by hx hy k (omega (arith, hx.whole)))
