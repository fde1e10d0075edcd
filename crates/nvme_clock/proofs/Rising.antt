-- Values that don't fall from one to the next don't fall at all.
use Rattle.std.proofs.Common.{◌≡◌, ℕ, zero, suc, ◌+◌, ◌-◌, ◌<◌, ◌≤◌, List, length, get_or, slice_index, arith}
use Rattle.std.proofs.lemmas.List.{get_or_default}
use Rattle.nvme_clock.specs.Tables.{IsTable, Rises}

rises_to : (values : List ℕ) (n k j : ℕ) → Rises values n → k + j < n → slice_index values k ≤ slice_index values (k + j)
rises_to values n k zero up l = let e : k + 0 ≡ k = omega arith in rw e (omega arith)
rises_to values n k (suc j) up l =
    let e : k + suc j ≡ k + j + 1 = omega arith in
    let before : slice_index values k ≤ slice_index values (k + j) = rises_to values n k j up (omega (arith, l)) in
    let next : slice_index values (k + j) ≤ slice_index values (k + j + 1) = up (k + j) (omega (arith, l)) in
    rw e (omega (arith, before, next))

rises_from : (values : List ℕ) (n k m : ℕ) → Rises values n → k ≤ m → m < n → slice_index values k ≤ slice_index values m
rises_from values n k m up h l =
    let j = m - k in
    let e : k + j ≡ m = omega (arith, h) in
    let all : slice_index values k ≤ slice_index values (k + j) = rises_to values n k j up (omega (arith, h, l)) in
    rw e at all

-- what is read at a place, and a part of the way to what is read behind it, is within a table
pub lowest : (xs : List ℕ) (i low part : ℕ) → IsTable xs → i + 1 < length xs → low ≡ get_or xs i low → slice_index xs 0 ≤ low + part
lowest xs i low part t l is =
    let e : get_or xs i low ≡ slice_index xs i = get_or_default xs i low 0 (omega (arith, l)) in
    let up : slice_index xs 0 ≤ slice_index xs i = rises_from xs (length xs) 0 i t.rises (omega arith) (omega (arith, l)) in
    omega (arith, e, up, is)

pub highest : (xs : List ℕ) (i low high part : ℕ) → IsTable xs → i + 1 < length xs → low ≡ get_or xs i low → high ≡ get_or xs (i + 1) high
    → part ≤ high - low → low + part ≤ slice_index xs (length xs - 1)
highest xs i low high part t l is next within =
    let e : get_or xs i low ≡ slice_index xs i = get_or_default xs i low 0 (omega (arith, l)) in
    let f : get_or xs (i + 1) high ≡ slice_index xs (i + 1) = get_or_default xs (i + 1) high 0 l in
    let step : slice_index xs i ≤ slice_index xs (i + 1) = t.rises i l in
    let up : slice_index xs (i + 1) ≤ slice_index xs (length xs - 1) =
    rises_from xs (length xs) (i + 1) (length xs - 1) t.rises (omega (arith, l)) (omega (arith, l)) in
    omega (arith, e, f, step, up, is, next, within)
