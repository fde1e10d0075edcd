-- Numbers read from a part of some bytes, and the bytes of a list of dwords.
use Rattle.std.proofs.Common.{◌≡◌, ℕ, zero, suc, ◌+◌, ◌-◌, ◌*◌, ◌/◌, ◌%◌, ◌<◌, List, [], ◌∷◌, take, drop, refl, sym, ap, ◌∙◌, arith}
use Rattle.std.proofs.lemmas.List.{get_or-drop}
use Rattle.std.specs.Int.{byte_at, bytes_low_first}
use Rattle.std.specs.List.{flat_map}
use Rattle.byteorder.specs.Endian.{little_from}
use Rattle.byteorder.specs.Numbers.{little_from-take, little_number-reads_back}
use Rattle.nvme_entry.specs.Bits.{bytes_at, dword}
use Rattle.nvme_entry.specs.Submission.{IsSubmissionEntry}
use Rattle.nvme_entry.specs.declared.submission.Sqe.{Sqe}

-- places count from where the rest begins
pub little_from-drop : (n p i : ℕ) (bytes : List ℕ) → little_from i n (drop p bytes) ≡ little_from (p + i) n bytes
little_from-drop zero p i bytes = refl
little_from-drop (suc n) p i bytes =
    let next : suc (p + i) ≡ p + suc i = omega arith in
    rw (get_or-drop p bytes i 0, little_from-drop n p (suc i) bytes, next) refl

-- the number in a range of n bytes from place p on
pub bytes_at-range : (n p : ℕ) (bytes : List ℕ) → little_from 0 n (take n (drop p bytes)) ≡ bytes_at p n bytes
bytes_at-range n p bytes =
    let place : p + 0 ≡ p = omega arith in
    little_from-take 0 n n (drop p bytes) (omega arith) ∙ little_from-drop n p 0 bytes ∙ ap (λ (q : ℕ). little_from q n bytes) place

-- the same where the range is given by its ends
pub bytes_at-between : (n low high : ℕ) (bytes : List ℕ) → high ≡ low + n → little_from 0 n (take (high - low) (drop low bytes)) ≡ bytes_at low n bytes
bytes_at-between n low high bytes e =
    let count : high - low ≡ n = omega arith in rw count (bytes_at-range n low bytes)

-- the number that the four bytes of a dword give
abbrev pub joined : ℕ → ℕ
joined x = byte_at 0 x + 256 * (byte_at 1 x + 256 * (byte_at 2 x + 256 * (byte_at 3 x + 256 * 0)))

-- is the dword
pub joined-is : (x : ℕ) → x < 4294967296 → joined x ≡ x
joined-is x h = little_number-reads_back 4 x [] h

-- 16 dwords as 64 bytes hold the entry, whose fields they are
pub laid_out : (entry : Sqe) (bytes : List ℕ) (first m m' p p' q q' : ℕ)
    → entry.opcode < 256 → entry.flags < 256 → entry.cid < 65536
    → first ≡ entry.opcode + entry.flags * 256 + entry.cid * 65536
    → m ≡ entry.mptr % 4294967296 → m' ≡ entry.mptr / 4294967296
    → p ≡ entry.prp1 % 4294967296 → p' ≡ entry.prp1 / 4294967296
    → q ≡ entry.prp2 % 4294967296 → q' ≡ entry.prp2 / 4294967296
    → m' < 4294967296 → p' < 4294967296 → q' < 4294967296
    → entry.nsid < 4294967296 → entry.cdw2 < 4294967296 → entry.cdw3 < 4294967296
    → entry.cdw10 < 4294967296 → entry.cdw11 < 4294967296 → entry.cdw12 < 4294967296
    → entry.cdw13 < 4294967296 → entry.cdw14 < 4294967296 → entry.cdw15 < 4294967296
    → bytes ≡ flat_map (λ x. bytes_low_first 0 4 x) (first ∷ entry.nsid ∷ entry.cdw2 ∷ entry.cdw3 ∷ m ∷ m' ∷ p ∷ p' ∷ q ∷ q' ∷ entry.cdw10 ∷ entry.cdw11 ∷ entry.cdw12 ∷ entry.cdw13 ∷ entry.cdw14 ∷ entry.cdw15 ∷ [])
    → IsSubmissionEntry bytes entry
laid_out entry bytes first m m' p p' q q' o f c first_is m_is m'_is p_is p'_is q_is q'_is fm fp fq fn f2 f3 f10 f11 f12 f13 f14 f15 e =
    let whole_mptr : entry.mptr ≡ joined m + 4294967296 * joined m' = omega (arith, joined-is m (omega arith), joined-is m' fm) in
    let whole_prp1 : entry.prp1 ≡ joined p + 4294967296 * joined p' = omega (arith, joined-is p (omega arith), joined-is p' fp) in
    let whole_prp2 : entry.prp2 ≡ joined q + 4294967296 * joined q' = omega (arith, joined-is q (omega arith), joined-is q' fq) in
    rw e record {
      whole = refl;
      opcode = omega arith;
      flags = omega arith;
      cid = omega arith;
      nsid = sym (joined-is entry.nsid fn);
      cdw2 = sym (joined-is entry.cdw2 f2);
      cdw3 = sym (joined-is entry.cdw3 f3);
      mptr = omega arith;
      prp1 = omega arith;
      prp2 = omega arith;
      cdw10 = sym (joined-is entry.cdw10 f10);
      cdw11 = sym (joined-is entry.cdw11 f11);
      cdw12 = sym (joined-is entry.cdw12 f12);
      cdw13 = sym (joined-is entry.cdw13 f13);
      cdw14 = sym (joined-is entry.cdw14 f14);
      cdw15 = sym (joined-is entry.cdw15 f15);
    }

-- each of 4 dwords stands in their bytes
pub dwords_are : (dw0 dw1 dw2 dw3 : ℕ) (bytes : List ℕ) → dw0 < 4294967296 → dw1 < 4294967296 → dw2 < 4294967296 → dw3 < 4294967296
    → bytes ≡ flat_map (λ x. bytes_low_first 0 4 x) (dw0 ∷ dw1 ∷ dw2 ∷ dw3 ∷ [])
    → (dword 0 bytes ≡ dw0) × (dword 1 bytes ≡ dw1) × (dword 2 bytes ≡ dw2) × (dword 3 bytes ≡ dw3)
dwords_are dw0 dw1 dw2 dw3 bytes f0 f1 f2 f3 e = rw e (joined-is dw0 f0, joined-is dw1 f1, joined-is dw2 f2, joined-is dw3 f3)
