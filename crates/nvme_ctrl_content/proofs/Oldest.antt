-- The oldest candidate of a region is the oldest of its places that wait.
use Rattle.std.proofs.Common.{◌≡◌, ℕ, Bool, true, false, nat_lt, List, ◌∷◌, map, Some, refl, ap, subst, ◌∙◌}
use Rattle.std.specs.Prelude.{All, if◌then◌else◌, slice_get, option_and_then}
use Rattle.std.proofs.lemmas.List.Elements.{All-head, filter_passes}
use Rattle.nvme_ctrl_content.specs.Content.{Candidate, SqContent}
use Rattle.nvme_log.specs.Rules.{Past}
use Rattle.nvme_log.specs.Places.{WasAborted, WasPicked, Waits, waiting, places, fate_of, is_waiting, is_aborted, picked, unaborted_below, entry_at}
use Rattle.nvme_log.specs.Histories.{admin_entry}
use Rattle.nvme_ctrl_content.specs.Standing.{HoldsSq}

-- a place that waits was not aborted
waits_unaborted : (aborted first : Bool) → is_waiting (if aborted then WasAborted else (if first then WasPicked else Waits)) ≡ true → aborted ≡ false
waits_unaborted false first h = refl
waits_unaborted true first h = absurd (cc)

module _ (past : Past) (r : ℕ) (s : SqContent) (holds : HoldsSq past r s) (candidate : Candidate) (rest : List Candidate) (window : s.window ≡ candidate ∷ rest) where
  -- the places that wait begin with it
  pub waiting_from : waiting past r ≡ candidate.index ∷ map (λ (c : Candidate). c.index) rest
  waiting_from = holds.waiting_is ∙ ap (map (λ (c : Candidate). c.index)) window

  -- it is the oldest of them
  pub oldest_place : slice_get (waiting past r) 0 ≡ Some candidate.index
  oldest_place = rw waiting_from refl

  -- its entry is that of its place
  pub oldest_entry : entry_at past r candidate.index ≡ Some candidate.entry
  oldest_entry =
      All-head (λ (c : Candidate). entry_at past r c.index ≡ Some c.entry) candidate rest
      (subst (λ (w : List Candidate). All (λ (c : Candidate). entry_at past r c.index ≡ Some c.entry) w) window holds.entries)

  -- it was not aborted
  pub oldest_unaborted : is_aborted past r candidate.index ≡ false
  oldest_unaborted =
      let waits : All (λ (i : ℕ). is_waiting (fate_of past r i) ≡ true) (waiting past r) = filter_passes (λ (i : ℕ). is_waiting (fate_of past r i)) (places past r) in
      let first = All-head (λ (i : ℕ). is_waiting (fate_of past r i) ≡ true) candidate.index (map (λ (c : Candidate). c.index) rest)
      (subst (λ (w : List ℕ). All (λ (i : ℕ). is_waiting (fate_of past r i) ≡ true) w) waiting_from waits) in
      waits_unaborted (is_aborted past r candidate.index) (nat_lt (unaborted_below past r candidate.index) (picked past r)) first

-- the entry that a pick of the admin queue takes is that of the oldest admin candidate
pub admin_entry_is : (past : Past) (s : SqContent) (candidate : Candidate) (rest : List Candidate) → HoldsSq past 0 s → s.window ≡ candidate ∷ rest
    → admin_entry past ≡ Some candidate.entry
admin_entry_is past s candidate rest holds window =
    ap (option_and_then (entry_at past 0)) (oldest_place past 0 s holds candidate rest window) ∙ oldest_entry past 0 s holds candidate rest window
