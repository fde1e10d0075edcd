-- One submission entry in hexadecimal, and its completion entry in hexadecimal. (profile)
use Rattle.std.specs.Prelude.{◌≡◌, ℕ, ◌-◌, ◌==◌, List, [], ◌∷◌, ◌++◌, length, slice_index, take, true, Ok, if◌then◌else◌}
use Rattle.hex.specs.Hex.{decode_of, encode_lower}
use Rattle.nvme_entry.specs.Submission.{IsSubmissionEntry}
use Rattle.nvme_entry.specs.Completion.{IsCompletionEntry}
use Rattle.nvme_entry.specs.Outcome.{outcome_of}
use Rattle.nvme_entry.specs.declared.submission.Sqe.{Sqe}
use Rattle.nvme_entry.specs.declared.completion.Cqe.{Cqe}

-- the input less one final newline, which is byte 10
abbrev pub entry_text : List ℕ → List ℕ
entry_text input = if slice_index input (length input - 1) == 10 then take (length input - 1) input else input

-- the completion of the first command of submission queue 1, over one namespace of `blocks` blocks
abbrev pub first_completion : Sqe → ℕ → Cqe
first_completion entry blocks = record { dw0 = 0; sqhd = 1; sqid = 1; cid = entry.cid; phase = true; status = outcome_of entry (blocks ∷ []) }

-- the bytes of a submission entry have these bytes of a completion entry as their answer
pub record HasCompletion (bytes : List ℕ) (blocks : ℕ) (answer : List ℕ) : Type 0 where
  pub entry : Sqe
  pub is_entry : IsSubmissionEntry bytes entry
  pub is_completion : IsCompletionEntry answer (first_completion entry blocks)

-- the line answers the text of an entry
pub record IsAnswer (text : List ℕ) (blocks : ℕ) (line : List ℕ) : Type 0 where
  pub bytes : List ℕ
  pub answer : List ℕ
  pub is_text : decode_of text ≡ Ok bytes
  pub has_completion : HasCompletion bytes blocks answer
  pub is_line : line ≡ encode_lower answer ++ 10 ∷ []
