use Rattle.std.proofs.Common.{◌≡◌, ℕ, ◌-◌, ◌<◌, ◌≤◌, Bool, true, false, not, ◌&&◌, if◌then◌else◌, List, length, is_none, refl, sym, arith}
use Rattle.std.proofs.lemmas.Option.{slice_get_cases, slice_get-get_or}
use Rattle.std.proofs.lemmas.List.Elements.{All-get_or}
use Rattle.nvme_entry.specs.Namespaces.{size_at}
use Rattle.nvme_entry.specs.Outcome.{is_flush, moves_blocks, is_broadcast, ends_past}
use Rattle.nvme_entry.specs.Status.{StatusCode, success, invalid_field, invalid_namespace, lba_out_of_range}
use Rattle.nvme_checks.specs.Identifiers.{is_valid, is_active, size_of}
use Rattle.nvme_checks.specs.Laws.{AllActive}
use Rattle.nvme_checks.proofs.laws.active_is_outcome.Goals as goal

-- an identifier has no size exactly where it isn't valid
sizeless : (sizes : List ℕ) (nsid : ℕ) → not (is_valid sizes nsid) ≡ is_none (size_at sizes nsid)
sizeless sizes nsid = let cases = slice_get_cases sizes (nsid - 1) in grind (arith, cases.1)

-- one that has a size is active
sized : (sizes : List ℕ) (nsid : ℕ) → AllActive sizes → is_none (size_at sizes nsid) ≡ false → is_active sizes nsid ≡ true
sized sizes nsid all some = let cases = slice_get_cases sizes (nsid - 1) in let least = λ (b : nsid - 1 < length sizes). All-get_or (λ size. 1 ≤ size) sizes (nsid - 1) 0 b all in grind (arith, slice_get-get_or, cases.1, least)

-- where only what is not valid is not active, the check of active identifiers refuses nothing more
no_row : (valid active sizeless bare : Bool) (s t rest : StatusCode) → not valid ≡ sizeless → (sizeless ≡ false → active ≡ true) → (if not valid && bare then s else (if not active && bare then t else rest)) ≡ (if sizeless && bare then s else rest)
no_row true active sizeless bare s t rest e f = let z : sizeless ≡ false = sym e in let a : active ≡ true = f z in rw (z, a) refl
no_row false active sizeless true s t rest e f = let z : sizeless ≡ true = sym e in rw z refl
no_row false true sizeless false s t rest e f = let z : sizeless ≡ true = sym e in rw z refl
no_row false false sizeless false s t rest e f = let z : sizeless ≡ true = sym e in rw z refl

pub returns : goal.returns
returns c entry sizes prps all =
    let row : (if not (is_valid sizes entry.nsid) && not (is_flush entry && is_broadcast entry) then invalid_namespace else (if not (is_active sizes entry.nsid) && not (is_flush entry && is_broadcast entry) then invalid_field else (if moves_blocks entry && ends_past entry (size_of sizes entry.nsid) then lba_out_of_range else success))) ≡ (if is_none (size_at sizes entry.nsid) && not (is_flush entry && is_broadcast entry) then invalid_namespace else (if moves_blocks entry && ends_past entry (size_of sizes entry.nsid) then lba_out_of_range else success)) =
    no_row (is_valid sizes entry.nsid) (is_active sizes entry.nsid) (is_none (size_at sizes entry.nsid)) (not (is_flush entry && is_broadcast entry)) invalid_namespace invalid_field _ (sizeless sizes entry.nsid) (sized sizes entry.nsid all) in
    rw (prps, row) refl
