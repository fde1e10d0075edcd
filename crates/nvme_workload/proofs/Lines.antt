-- Lines and columns, a byte more.
use Rattle.std.proofs.Common.{◌≡◌, ℕ, suc, ◌+◌, ◌<◌, Bool, true, false, not, cond, List, [], ◌∷◌, length, take, reverse, get_or, ap, ◌∙◌, arith}
use Rattle.std.specs.List.{count_by, prefix_len}
use Rattle.std.proofs.Math.Seq.{take-suc}
use Rattle.std.proofs.lemmas.List.{reverse-append}
use Rattle.std.proofs.lemmas.List.Sums.{sum_by-cons}
use Rattle.nvme_workload.specs.Places.{is_newline, begins_character, column_behind}

-- the column behind bytes that are read back
abbrev column_back : List ℕ → ℕ
column_back back = count_by begins_character (take (prefix_len (λ (b : ℕ). not (is_newline b)) back) back) + 1

-- a byte more stands first when reading back
back_more : (bytes : List ℕ) (i : ℕ) → i < length bytes → reverse (take (i + 1) bytes) ≡ get_or bytes i 0 ∷ reverse (take i bytes)
back_more bytes i there =
    let next : i + 1 ≡ suc i = omega arith in
    ap (λ n. reverse (take n bytes)) next
    ∙ ap (λ (xs : List ℕ). reverse xs) (take-suc bytes i 0 there) ∙ reverse-append (take i bytes) (get_or bytes i 0 ∷ [])

-- behind a newline a line begins
pub column_of_newline : (bytes : List ℕ) (i : ℕ) → i < length bytes → is_newline (get_or bytes i 0) ≡ true → column_behind (take (i + 1) bytes) ≡ 1
column_of_newline bytes i there ends =
    ap (λ (xs : List ℕ). column_back xs) (back_more bytes i there)
    ∙ (λ j. count_by begins_character (take (cond (not (ends j)) (1 + prefix_len (λ (b : ℕ). not (is_newline b)) (reverse (take i bytes))) 0) (get_or bytes i 0 ∷ reverse (take i bytes))) + 1)

-- another byte stands in the line
line_more : (bytes : List ℕ) (i : ℕ) → i < length bytes → is_newline (get_or bytes i 0) ≡ false
    → column_behind (take (i + 1) bytes)
    ≡ count_by begins_character (get_or bytes i 0 ∷ take (prefix_len (λ (b : ℕ). not (is_newline b)) (reverse (take i bytes))) (reverse (take i bytes))) + 1
line_more bytes i there more =
    let back = reverse (take i bytes) in
    let n = prefix_len (λ (b : ℕ). not (is_newline b)) back in
    let next : 1 + n ≡ suc n = omega arith in
    ap (λ (xs : List ℕ). column_back xs) (back_more bytes i there)
    ∙ (λ j. count_by begins_character (take (cond (not (more j)) (1 + n) 0) (get_or bytes i 0 ∷ back)) + 1)
    ∙ ap (λ m. count_by begins_character (take m (get_or bytes i 0 ∷ back)) + 1) next

-- one byte counts
count_first : (x : ℕ) (line : List ℕ) (b : Bool) → begins_character x ≡ b → count_by begins_character (x ∷ line) ≡ cond b 1 0 + count_by begins_character line
count_first x line b is =
    sum_by-cons (λ (y : ℕ). cond (begins_character y) 1 0) x line ∙ ap (λ (c : Bool). cond c 1 0 + count_by begins_character line) is

-- and is counted where it begins a character
pub column_of_first : (bytes : List ℕ) (i : ℕ) → i < length bytes → is_newline (get_or bytes i 0) ≡ false → begins_character (get_or bytes i 0) ≡ true
    → column_behind (take (i + 1) bytes) ≡ column_behind (take i bytes) + 1
column_of_first bytes i there more begins =
    let back = reverse (take i bytes) in
    let line = take (prefix_len (λ (b : ℕ). not (is_newline b)) back) back in
    let counted : count_by begins_character (get_or bytes i 0 ∷ line) ≡ 1 + count_by begins_character line = count_first (get_or bytes i 0) line true begins in
    line_more bytes i there more ∙ omega (arith, counted)

pub column_of_later : (bytes : List ℕ) (i : ℕ) → i < length bytes → is_newline (get_or bytes i 0) ≡ false → begins_character (get_or bytes i 0) ≡ false
    → column_behind (take (i + 1) bytes) ≡ column_behind (take i bytes)
column_of_later bytes i there more goes_on =
    let back = reverse (take i bytes) in
    let line = take (prefix_len (λ (b : ℕ). not (is_newline b)) back) back in
    let counted : count_by begins_character (get_or bytes i 0 ∷ line) ≡ 0 + count_by begins_character line = count_first (get_or bytes i 0) line false goes_on in
    line_more bytes i there more ∙ omega (arith, counted)
