-- Turns of a loaded front one after another.
use Rattle.std.proofs.Common.{◌≡◌, ℕ, ◌≤◌, List, length, sym, ap, ◌∙◌, subst, arith, reverse, ◌++◌, length-append}
use Rattle.std.proofs.lemmas.List.{reverse-append}
use Rattle.nvme_entry.specs.declared.submission.Sqe.{Sqe}
use Rattle.nvme_log.specs.Rules.{Past}
use Rattle.nvme_log.specs.Places.{fetched}
use Rattle.nvme_log.proofs.Prefixes.{fetched-after}
use Rattle.nvme_front.specs.View.{FrontView, GoesOn, past_in}
use Rattle.nvme_front.specs.LoadedFront.{IsLoadedFront, GotWithin}
use Rattle.nvme_threads.specs.Faults.{Accounts}
use Rattle.nvme_threads.specs.Loaded.{FetchedWithin, StaysLoaded}

-- a front that did nothing
pub stays-refl : (v : FrontView) → StaysLoaded v v
stays-refl v = λ scripts within loaded. loaded

-- a front that made a turn
pub stays-turned : (old new : FrontView) → GoesOn old new → Accounts new
    → ((scripts : ℕ → List Sqe) → GotWithin scripts new → IsLoadedFront scripts old → IsLoadedFront scripts new) → StaysLoaded old new
stays-turned old new goes accounts turned = λ scripts within loaded.
    turned scripts (λ r. subst (λ (xs : List Sqe). length xs ≤ length (scripts r)) ((accounts.ends (goes.late ∙ loaded.not_late)).all_fetched r) (within r)) loaded

-- no more was fetched before than later
fetched-before : (old new : FrontView) → GoesOn old new → (scripts : ℕ → List Sqe) → FetchedWithin scripts new → FetchedWithin scripts old
fetched-before old new goes scripts within = λ r.
    let later : reverse goes.grew.0 ++ past_in old ≡ past_in new = sym (reverse-append old.log goes.grew.0) ∙ ap reverse goes.grew.1 in
    let more = fetched-after (reverse goes.grew.0) (past_in old) r in
    let longer : length (fetched (past_in old) r) ≤ length (fetched (past_in new) r) =
    subst (λ (p : Past). length (fetched (past_in old) r) ≤ length (fetched p r)) later
    (omega (arith, ap length more.1, length-append (fetched (past_in old) r) more.0)) in
    omega (arith, longer, within r)

-- a front that made turns, and another
pub stays-trans : (a b c : FrontView) → GoesOn b c → StaysLoaded a b → StaysLoaded b c → StaysLoaded a c
stays-trans a b c goes first second = λ scripts within loaded. second scripts within (first scripts (fetched-before b c goes scripts within) loaded)
